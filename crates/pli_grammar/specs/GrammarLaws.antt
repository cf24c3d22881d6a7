-- What reads the tokens of a unit, and what the parser's functions are proved against, are the same (own).
use Rattle.std.specs.Prelude.{◌≡◌}
use Rattle.pli_base.specs.Words.{Tokens}
use Rattle.pli_grammar.specs.UnitReading.{unit_of}
use Rattle.pli_parse_statement.specs.StatementReading as parser

-- the tree of a unit, or its one fault, is what the parser gives, for all tokens
abbrev pub UnitsAreParsed : Type 0
UnitsAreParsed = (ts : Tokens) → unit_of ts ≡ parser.unit_of ts
