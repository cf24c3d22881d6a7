-- Lists: where one goes on, by what stands between two values.
use Rattle.std.specs.Prelude.{ℕ, ◌+◌, Option}
use Rattle.pli_base.specs.Words.{Tokens, is_comma, is_period, rest_after}
use Rattle.pli_parse_declaration.specs.DeclarationWords.{with_attribute}
use Rattle.pli_parse_declaration.specs.declared.list.Separator.{Separator}
use Rattle.pli_parse_declaration.specs.declared.list.Separator.TheVariants.{Commas, Periods, Nothing}

-- the tokens of what comes next in a list, if it goes on: after a comma, after a period, or at an
-- attribute's keyword
abbrev pub separated : Separator → Tokens → Option Tokens
separated Commas ts = rest_after is_comma ts
separated Periods ts = rest_after is_period ts
separated Nothing ts = with_attribute ts

-- the place of what comes next
abbrev pub after_separator : Separator → ℕ → ℕ
after_separator Commas p = p + 1
after_separator Periods p = p + 1
after_separator Nothing p = p
