-- How far the answers have come, in the middle of an input.
use Rattle.std.specs.Prelude.{◌≡◌, ℕ, Bool, List, Option, take}
use Rattle.std.specs.Io.KnownBytes.{Appends}
use Rattle.pli_commands.specs.answers.Kept.{kept_limit}
use Rattle.pli_commands.specs.Exchanges.{Exchange}
use Rattle.pli_commands.specs.Lines.{complete_from, pending_from}
use Rattle.pli_commands.specs.Runs.{Answers}
use Rattle.pli_commands.specs.declared.serving.AfterCommand.TheVariants.{End}

-- the lines that end among these bytes were answered, none of them quits, and what is kept begins the line
-- that has begun
pub record Going {S : Type 0} (Step : List ℕ → Exchange S → Type 0) (quits : List ℕ → Bool)
    (s t : S) (begun bytes kept : List ℕ) (before after : Option (List ℕ)) : Type 0 where
  pub answers : List ℕ
  pub answered : Answers Step quits s (complete_from begun bytes) answers t End
  pub written : Appends before after answers
  pub kept_is : kept ≡ take kept_limit (pending_from begun bytes)
