-- Lines that are too long for a command are all alike.
use Rattle.std.specs.Prelude.{◌≡◌, ℕ, ◌<◌, false, None, List, length}
use Rattle.std.proofs.Common.{sym, subst, ap, ◌∙◌, refl}
use Rattle.std.proofs.lemmas.Bool.{lt-ltb}
use Rattle.pli_commands.specs.Exchanges.{exchange}
use Rattle.pli_commands.specs.CommandLines.{command_of}
use Rattle.pli_commands.specs.Commands.{line_limit}
use Rattle.pli_bench.specs.Session.{State, Obeys, Step, quits, is_quit}

-- a line over the limit is no command
none_of : (line : List ℕ) → line_limit < length line → command_of line ≡ None
none_of line h = rw (lt-ltb line_limit (length line) h) refl

-- what may follow one of them may follow any
pub long_alike : (s t : State) (line other answer : List ℕ) → line_limit < length line
    → line_limit < length other → Step line (exchange s answer t) → Step other (exchange s answer t)
long_alike s t line other answer h k step =
    subst (λ c. Obeys c (exchange s answer t)) (none_of line h ∙ sym (none_of other k)) step

-- none of them is QUIT
pub long_goes : (line : List ℕ) → line_limit < length line → quits line ≡ false
long_goes line h = ap is_quit (none_of line h)
