-- The lines of answers (own).
use Rattle.std.specs.Prelude.{ℕ, ◌+◌, List, [], ◌∷◌, ◌++◌, length, codes, decimal}
use Rattle.pli_base.specs.Name.{Name}
use Rattle.pli_members.specs.Members.{Member}
use Rattle.pli_members.specs.Refusals.{refusal_label, refusal_text}
use Rattle.pli_members.specs.declared.refusal.Refusal.{Refusal}
use Rattle.pli_members.specs.declared.kind.MemberKind.{MemberKind}
use Rattle.pli_members.specs.declared.kind.MemberKind.TheVariants.{Source, Include}
use Rattle.pli_run.specs.Errors.{error_label, error_text}
use Rattle.pli_run.specs.declared.ending.Ending.{Ending}
use Rattle.pli_run.specs.declared.ending.Ending.TheVariants.{Ended, OutOfSteps, Error, MachineFault}

-- a text with its line feed
abbrev pub line : List ℕ → List ℕ
line text = text ++ 10 ∷ []

-- a command was done
abbrev pub okay : List ℕ
okay = line (codes "OK")

-- memory was refused
abbrev pub no_memory : List ℕ
no_memory = line (codes "NO MEMORY")

-- a line is no command
abbrev pub bad_command : List ℕ
bad_command = line (codes "B1 BAD COMMAND")

-- no module stands that could be run
abbrev pub not_built : List ℕ
not_built = line (codes "B2 NOT BUILT")

-- why an edit was refused
abbrev pub refused : Refusal → List ℕ
refused r = line (refusal_label r ++ 32 ∷ refusal_text r)

-- how a run ended, in words
abbrev pub ending_line : Ending → List ℕ
ending_line Ended = line (codes "ENDED")
ending_line OutOfSteps = line (codes "OUT OF STEPS")
ending_line (Error e unit statement) =
    line (codes "ERROR " ++ error_label e ++ 32 ∷ error_text e ++ 32 ∷ unit ++ 32 ∷ decimal statement)
ending_line MachineFault = line (codes "MACHINE FAULT")

-- lines after their numbers, the first of which is given
abbrev pub numbered_lines : ℕ → List (List ℕ) → List ℕ
numbered_lines number [] = []
numbered_lines number (text ∷ lines) =
    line (decimal number ++ 32 ∷ text) ++ numbered_lines (number + 1) lines

-- the word for a kind of members
abbrev pub kind_word : MemberKind → List ℕ
kind_word Source = codes "SOURCE"
kind_word Include = codes "INCLUDE"

-- a member's name, its kind and how many lines it has
abbrev pub member_line : Name × Member → List ℕ
member_line entry = line (entry.0 ++ 32 ∷ kind_word entry.1.kind ++ 32 ∷ decimal (length entry.1.lines))
