-- What the generator answers, as callers see it.
use Rattle.std.specs.Prelude.{◌≡◌, true, false, Result, Ok, Err}
use Rattle.pli_code.specs.CodeTables as plain
use Rattle.pli_code.specs.declared.code.Code.{Code}
use Rattle.pli_code.specs.views.CodeView.{code_view}
use Rattle.pli_gen.specs.Limits.{is_too_long}
use Rattle.pli_gen.specs.declared.generating.GenerateError.{GenerateError}
use Rattle.pli_gen.specs.declared.generating.GenerateError.TheVariants.{TooLong, OutOfMemory}

-- G1 exactly where a limit of a unit's tables is passed, and else the code, unless memory runs out
abbrev pub Generates : Result Code GenerateError → plain.Code → Type 0
Generates (Ok c) code = (is_too_long code ≡ false) × (code_view c ≡ code)
Generates (Err TooLong) code = is_too_long code ≡ true
Generates (Err OutOfMemory) code = Unit {0}
