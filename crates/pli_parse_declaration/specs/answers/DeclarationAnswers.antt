-- What the parser answers, against what reading a list of tokens gives.
use Rattle.std.specs.Prelude.{◌+◌, ℕ, List, Option, Some, None, Result}
use Rattle.pli_base.specs.Words.{Tokens}
use Rattle.pli_base.specs.Reading.{expected, read_as}
use Rattle.pli_base.specs.Reading as reading
use Rattle.pli_base.specs.declared.code.Code.TheVariants.{ConstantExpected}
use Rattle.pli_base.specs.declared.token.Fault.{Fault}
use Rattle.pli_parse_declaration.specs.DeclarationReading.{Walk}
use Rattle.pli_parse_declaration.specs.declared.nest.Open.{Open}
use Rattle.pli_parse_declaration.specs.declared.nest.Expects.{Expects}
use Rattle.pli_base.specs.declared.reading.Front.{Front}

-- where a step of a walk has come, with these parentheses open
abbrev pub walk_view : List Open → Front Expects → Walk
walk_view opens x = record { opens = opens; expects = x.value; next = x.next; rest = x.rest.now }

-- a number, where it is known with which constant the tokens begin
abbrev pub number_from : ℕ → Tokens → Option (ℕ × Tokens) → Result (reading.Front ℕ) Fault
number_from p ts None = expected ConstantExpected p ts
number_from p ts (Some x) = read_as x.0 (p + 1) x.1

-- a level number, where it is known with which constant the tokens begin
abbrev pub level_from : ℕ → Tokens → Option (ℕ × Tokens) → reading.Front (Option ℕ)
level_from p ts None = record { value = None; next = p; rest = ts }
level_from p ts (Some x) = record { value = Some x.0; next = p + 1; rest = x.1 }
