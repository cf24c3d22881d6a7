-- Items of a DECLARE stand after the items that they are members of.
use Rattle.std.proofs.Common.{◌≡◌, ℕ, zero, suc, ◌+◌, ◌<◌, ◌≤◌, ◌⊎◌, inl, inr, Bool, true, false, nat_lt, List, [], ◌∷◌, ◌++◌, length, map, get_or, Option, None, Some, IfSome, if◌then◌else◌, refl, ap, ◌∙◌, arith}
use Rattle.pli_base.specs.declared.syntax.Identifier.{Identifier}
use Rattle.pli_base.specs.Declarations.{Item}
use Rattle.pli_declare_scopes.specs.Levels.{level_of, nearest_after, nearest, owner_of, standing, standings_after, standings_of}
use Rattle.pli_declare_scopes.specs.declared.level.Numbered.{Numbered}
use Rattle.pli_declare_scopes.specs.declared.level.ItemStanding.{ItemStanding}
use Rattle.pli_declare.specs.Tables.{item_entries}
use Rattle.pli_declare.specs.answers.Owners.{StandAfterOwners}

-- each of some items that stand after so many others has its owner before it
abbrev pub StandFrom : ℕ → List ItemStanding → Type 0
StandFrom n [] = Unit {0}
StandFrom n (s ∷ ss) = IfSome s.owner (λ o. o < n) × StandFrom (n + 1) ss

abbrev AllBelow : ℕ → List Numbered → Type 0
AllBelow n [] = Unit {0}
AllBelow n (i ∷ is) = (i.number < n) × AllBelow n is

wider : (owner : Option ℕ) (m n : ℕ) → m ≤ n → IfSome owner (λ o. o < m) → IfSome owner (λ o. o < n)
wider None m n le h = tt
wider (Some o) m n le h = omega (arith, h)

below_more : (is : List Numbered) (n level : ℕ) → AllBelow n is → AllBelow (n + 1) (is ++ record { number = n; level = level } ∷ [])
below_more [] n level h = (omega arith, tt)
below_more (i ∷ is) n level h = (omega (arith, h.0), below_more is n level h.1)

nearest_below : (is : List Numbered) (found : Option ℕ) (level n : ℕ) → IfSome found (λ o. o < n) → AllBelow n is → IfSome (nearest_after found level is) (λ o. o < n)
nearest_below [] found level n h all = h
nearest_below (i ∷ is) found level n h all = nearest_below is (if nat_lt i.level level then Some i.number else found) level n (by (nat_lt i.level level)) all.1
  where
    by : (b : Bool) → IfSome (if b then Some i.number else found) (λ o. o < n)
    by true = all.0
    by false = h

owner_below : (level n : ℕ) (nearest : Option ℕ) → IfSome nearest (λ o. o < n) → IfSome (owner_of level nearest) (λ o. o < n)
owner_below level n nearest h = by (nat_lt 1 level)
  where
    by : (b : Bool) → IfSome (if b then nearest else None) (λ o. o < n)
    by true = h
    by false = tt

stand_after : (ls : List ℕ) (before : List Numbered) (n : ℕ) → AllBelow n before → StandFrom n (standings_after before n ls)
stand_after [] before n h = tt
stand_after (l ∷ ls) before n h =
    (owner_below l n (nearest l before) (nearest_below before None l n tt h), stand_after ls (before ++ record { number = n; level = l } ∷ []) (n + 1) (below_more before n l h))

pub standings_stand : (levels : List (Option ℕ)) → StandFrom 0 (standings_of levels)
standings_stand levels = stand_after (map level_of levels) [] 0 tt

at_each : (ss : List ItemStanding) (n k : ℕ) → StandFrom n ss → k < length ss → IfSome (get_or ss k (standing 1 None)).owner (λ o. o < n + k)
at_each [] n k h lt = absurd (omega arith)
at_each (s ∷ ss) n zero h lt = wider s.owner n (n + 0) (omega arith) h.0
at_each (s ∷ ss) n (suc k) h lt = wider (get_or ss k (standing 1 None)).owner ((n + 1) + k) (n + suc k) (omega arith) (at_each ss (n + 1) k h.1 (omega arith))

-- the same at each number
pub stand_after_owners : (levels : List (Option ℕ)) → StandAfterOwners (standings_of levels)
stand_after_owners levels n lt = wider (get_or (standings_of levels) n (standing 1 None)).owner (0 + n) n (omega arith) (at_each (standings_of levels) 0 n (standings_stand levels) lt)

from_each : (ss : List ItemStanding) (n : ℕ) → ((k : ℕ) → k < length ss → IfSome (get_or ss k (standing 1 None)).owner (λ o. o < n + k)) → StandFrom n ss
from_each [] n h = tt
from_each (s ∷ ss) n h = (
  wider s.owner (n + 0) n (omega arith) (h 0 (omega arith)),
  from_each ss (n + 1) (λ k lt. wider (get_or ss k (standing 1 None)).owner (n + suc k) ((n + 1) + k) (omega arith) (h (suc k) (omega arith))),
)

pub stand_from : (ss : List ItemStanding) → StandAfterOwners ss → StandFrom 0 ss
stand_from ss h = from_each ss 0 (λ k lt. wider (get_or ss k (standing 1 None)).owner k (0 + k) (omega arith) (h k lt))

no_standings : (base : ℕ) (xs : List (Identifier × Item)) → item_entries base xs [] ≡ []
no_standings base [] = refl
no_standings base (x ∷ xs) = refl

-- nothing is left where names or standings are at their end
pub none_left : (base : ℕ) (xs : List (Identifier × Item)) (ss : List ItemStanding) → (xs ≡ []) ⊎ (ss ≡ []) → item_entries base xs ss ≡ []
none_left base xs ss over = elim over [
  | inl h ↦ ap (λ ys. item_entries base ys ss) h
  | inr h ↦ ap (item_entries base xs) h ∙ no_standings base xs
]
