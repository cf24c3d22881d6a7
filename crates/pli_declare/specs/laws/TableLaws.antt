-- What holds of all tables.
use Rattle.std.specs.Prelude.{ℕ}
use Rattle.pli_declare_outline.specs.Outlines.{Outline}
use Rattle.pli_declare.specs.Tables.{entries_in}
use Rattle.pli_declare.specs.answers.Owners.{AreAfterOwners}

-- in each block each name stands after the item that it is a member of
abbrev pub OwnersStandBefore : Type 0
OwnersStandBefore = (o : Outline) (block : ℕ) → AreAfterOwners (entries_in o block)
