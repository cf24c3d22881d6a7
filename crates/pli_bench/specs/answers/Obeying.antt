-- How a command is obeyed: its answer is put, or some first bytes of it where the writer fails.
use Rattle.std.specs.Prelude.{ℕ, List, [], ◌∷◌, ◌++◌, nat_eq, Option, None, Result, Ok, Err, if◌then◌else◌}
use Rattle.pli_members.specs.declared.refusal.EditError.{EditError}
use Rattle.pli_members.specs.declared.refusal.EditError.TheVariants.{Refused, OutOfMemory}
use Rattle.pli_members.specs.declared.refusal.Refusal.{Refusal}
use Rattle.pli_run.specs.declared.ending.Ending.{Ending}
use Rattle.pli_commands.specs.answers.Answering.{Writes}
use Rattle.pli_commands.specs.declared.serving.AfterCommand.{AfterCommand}
use Rattle.pli_commands.specs.declared.serving.AfterCommand.TheVariants.{Go}
use Rattle.pli_commands.specs.declared.serving.WriteFailed.{WriteFailed}
use Rattle.pli_commands.specs.Exchanges.{Exchange, exchange}
use Rattle.pli_bench.specs.Session.{State}
use Rattle.pli_commands.specs.AnswerLines.{ending_line, no_memory, okay, refused}

-- from one state to another over an answer, which is put
abbrev pub Does : {A E : Type 0} → (R : Exchange State → Type 0) → (s t : State)
    → (old new : Option (List ℕ)) → Result A E → Type 0
Does R s t old new result = (answer : List ℕ) × R (exchange s answer t) × Writes old new answer result

-- an edit that takes no memory, as one that may take some
abbrev pub as_edit : {A : Type 0} → Result A Refusal → Result A EditError
as_edit (Ok x) = Ok x
as_edit (Err r) = Err (Refused r)

-- the answer to an edit
abbrev pub edit_answer : {A : Type 0} → Result A EditError → List ℕ
edit_answer (Ok x) = okay
edit_answer (Err (Refused r)) = refused r
edit_answer (Err OutOfMemory) = no_memory

-- the module that stands after an edit: none, where the edit was made
abbrev pub standing_after : {A E M : Type 0} → Result A E → Option M → Option M
standing_after (Ok x) standing = None
standing_after (Err e) standing = standing

-- what stands after the output of a run
abbrev pub end_answer : (column : ℕ) → Ending → List ℕ
end_answer column ending = (if nat_eq column 1 then [] else 10 ∷ []) ++ ending_line ending

-- a command that was answered goes on; a writer that failed is told
abbrev pub gone : {A E : Type 0} → Result A E → Result AfterCommand WriteFailed
gone (Ok x) = Ok Go
gone (Err e) = Err (record {})
