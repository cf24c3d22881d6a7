-- Names that are declared twice (own).
use Rattle.std.specs.Prelude.{ℕ, Bool, true, false, ◌&&◌, nat_eq, List, [], ◌∷◌, ◌++◌, get_or, Option, None}
use Rattle.std.specs.Prelude.{Some, if◌then◌else◌}
use Rattle.std.specs.List.{list_any}
use Rattle.std.specs.Option.{option_eq}
use Rattle.pli_base.specs.Words.{same_name}
use Rattle.pli_declare_scopes.specs.declared.repeat.Written.{Written}
use Rattle.pli_declare_scopes.specs.declared.repeat.Verdict.{Verdict}
use Rattle.pli_declare_scopes.specs.declared.repeat.Verdict.TheVariants.{Counts, Twice, Beneath}

-- two items of one name are members of one structure, or both are at level 1
abbrev pub repeats : Written → Written → Bool
repeats i j = same_name i.name j.name && option_eq nat_eq i.owner j.owner

-- whether an item counts
abbrev pub is_counting : Verdict → Bool
is_counting Counts = true
is_counting Twice = false
is_counting Beneath = false

-- the item that an item is a member of counts, or there is none
abbrev pub counts_above : List Verdict → Option ℕ → Bool
counts_above verdicts None = true
counts_above verdicts (Some n) = is_counting (get_or verdicts n Beneath)

-- an item does not count that stands beneath one that does not, nor one that repeats an item before it
abbrev pub judged : (counts_above is_repeated : Bool) → Verdict
judged above repeated = if above then (if repeated then Twice else Counts) else Beneath

-- what becomes of items after others
abbrev pub verdicts_after : List Written → List Verdict → List Written → List Verdict
verdicts_after before verdicts [] = verdicts
verdicts_after before verdicts (i ∷ is) =
    verdicts_after (before ++ i ∷ []) (verdicts
    ++ judged (counts_above verdicts i.owner) (list_any (repeats i) before) ∷ []) is

-- what becomes of the items of a block, in order
abbrev pub verdicts_of : List Written → List Verdict
verdicts_of items = verdicts_after [] [] items
