-- Blocks and labels are reached as the passes find them.
use Rattle.std.specs.Prelude.{◌≡◌, refl, ℕ, suc, ◌+◌, Bool, true, false, not, ◌&&◌, ◌==◌, List, [], ◌∷◌, take, get_or, if◌then◌else◌, cond}
use Rattle.std.specs.List.{list_any, before_first, position_or_len}
use Rattle.std.proofs.Common.{ap, ◌∙◌, arith}
use Rattle.pli_declare_outline.specs.Outlines.{Region}
use Rattle.pli_declare_outline.specs.declared.region.RegionKind.{RegionKind}
use Rattle.pli_declare_outline.specs.declared.region.RegionKind.TheVariants as kinds
use Rattle.pli_declare_constructs.specs.Regions as old
use Rattle.pli_declare_constructs.specs.Regions.{kind_at, round_of, blocks_round}
use Rattle.pli_declare_constructs.specs.Reach as reach
use Rattle.pli_declarations.specs.Regions.{block_of, is_group, is_on_unit, reaches}

first_alike : (ns : List ℕ) → get_or ns 0 0 ≡ old.first_or_unit (old.first_of ns)
first_alike [] = refl
first_alike (n ∷ ns) = refl

pub block_alike : (regions : List Region) (n : ℕ) → block_of regions n ≡ old.block_of regions n
block_alike regions n = first_alike (blocks_round regions n)

group_alike : (k : RegionKind) → is_group k ≡ reach.is_group k
group_alike kinds.Procedure = refl
group_alike kinds.Begin = refl
group_alike kinds.Group = refl
group_alike kinds.OnUnit = refl

unit_alike : (k : RegionKind) → is_on_unit k ≡ reach.is_on_unit k
unit_alike kinds.Procedure = refl
unit_alike kinds.Begin = refl
unit_alike kinds.Group = refl
unit_alike kinds.OnUnit = refl

before_alike : (label : ℕ) (rs : List ℕ) → before_first (λ r. r == label) rs ≡ reach.in_front_of label rs
before_alike label [] = refl
before_alike label (r ∷ rs) = by (r == label) (before_alike label rs)
  where
    next : (n : ℕ) → take (1 + n) (r ∷ rs) ≡ r ∷ take n rs
    next n = let e : 1 + n ≡ suc n = omega arith in ap (λ k. take k (r ∷ rs)) e

    by : (b : Bool) → before_first (λ q. q == label) rs ≡ reach.in_front_of label rs
        → take (cond (not b) (1 + position_or_len (λ q. q == label) rs) 0) (r ∷ rs) ≡ (if b then [] else r ∷ reach.in_front_of label rs)
    by true e = refl
    by false e = next (position_or_len (λ q. q == label) rs) ∙ ap (λ qs. r ∷ qs) e

pub reaches_alike : (regions : List Region) (from label : ℕ) → reaches regions from label ≡ reach.reaches regions from label
reaches_alike regions from label =
    λ i. list_any (λ r. r == label) (round_of regions from)
    && not (group_alike (kind_at regions label) i
    && list_any (λ r. unit_alike (kind_at regions r) i && block_alike regions r i == block_alike regions label i) (before_alike label (round_of regions from) i))
