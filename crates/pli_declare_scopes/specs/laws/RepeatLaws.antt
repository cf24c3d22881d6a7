-- What it means that an item counts.
use Rattle.std.specs.Prelude.{◌≡◌, ℕ, ◌<◌, ◌↔◌, List, [], length, get_or, None, IfSome}
use Rattle.pli_declare_scopes.specs.declared.repeat.Written.{Written}
use Rattle.pli_declare_scopes.specs.declared.repeat.Verdict.{Verdict}
use Rattle.pli_declare_scopes.specs.declared.repeat.Verdict.TheVariants.{Counts, Twice, Beneath}
use Rattle.pli_declare_scopes.specs.Repeats.{verdicts_of}

-- the item of a number
abbrev pub written_at : List Written → ℕ → Written
written_at items n = get_or items n (record { name = []; owner = None })

-- what becomes of the item of a number
abbrev pub verdict_at : List Written → ℕ → Verdict
verdict_at items n = get_or (verdicts_of items) n Beneath

-- each item stands after its owner
abbrev pub OwnersFirst : List Written → Type 0
OwnersFirst items = (n : ℕ) → n < length items → IfSome (written_at items n).owner (λ o. o < n)

-- an item before this one has its name, and is a member of the same item, or both are at level 1
pub record IsRepeated (items : List Written) (n : ℕ) : Type 0 where
  pub number : ℕ
  pub before : number < n
  pub named : (written_at items number).name ≡ (written_at items n).name
  pub owned : (written_at items number).owner ≡ (written_at items n).owner

-- the item that it is a member of counts, if there is one
abbrev pub OwnerCounts : List Written → ℕ → Type 0
OwnerCounts items n = IfSome (written_at items n).owner (λ o. verdict_at items o ≡ Counts)

-- each item is judged, and nothing else
abbrev pub AllAreJudged : Type 0
AllAreJudged = (items : List Written) → length (verdicts_of items) ≡ length items

-- an item counts exactly where its owner does, and no item before it is its like
abbrev pub CountsOnce : Type 0
CountsOnce = (items : List Written) (n : ℕ) → OwnersFirst items → n < length items
    → (verdict_at items n ≡ Counts) ↔ (OwnerCounts items n × (IsRepeated items n → ⊥))

-- it is a fault exactly where its owner counts, and an item before it is its like: so the first of them
-- counts
abbrev pub LaterIsFault : Type 0
LaterIsFault = (items : List Written) (n : ℕ) → OwnersFirst items → n < length items
    → (verdict_at items n ≡ Twice) ↔ (OwnerCounts items n × IsRepeated items n)

-- it is passed over exactly where its owner does not count
abbrev pub MembersArePassedOver : Type 0
MembersArePassedOver = (items : List Written) (n : ℕ) → OwnersFirst items → n < length items
    → (verdict_at items n ≡ Beneath) ↔ (OwnerCounts items n → ⊥)
