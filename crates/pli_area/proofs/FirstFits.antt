-- The first hole that is long enough, as the first place with so much room, and as the least position.
use Rattle.std.proofs.Common.{◌≡◌, ℕ, ◌+◌, ◌-◌, ◌%◌, ◌<◌, ◌≤◌, Bool, cond, nat_le, Option, Some, None, List, [], ◌∷◌, refl, sym, ap, ◌∙◌, arith, inl, inr}
use Rattle.std.specs.List.{find}
use Rattle.std.specs.Option.{option_map, MatchOption}
use Rattle.std.proofs.lemmas.Bool.{cases_lt, lt-ltb, le-ltb, le-leb, lt-leb}
use Rattle.pli_area.specs.Areas.{Block, Blocks, Hole, IsArea, IsApart, IsLeast, IsFull, rounded, start_of, end_of, end_from, Stand, hole_between, holes_from, first_fit}

-- the first place from one on with so much room before the next block, or before the capacity
gap_from : (room capacity from : ℕ) → List Block → Option ℕ
gap_from room capacity from [] = cond (nat_le (from + room) capacity) (Some from) None
gap_from room capacity from (b ∷ bs) = cond (nat_le (from + room) (start_of b)) (Some from) (gap_from room capacity (end_of b) bs)

-- where the first hole begins that is long enough
abbrev pub hole_start : (room : ℕ) → List Hole → Option ℕ
hole_start room holes = option_map (λ h. h.start) (find (λ h. nat_le room h.room) holes)

-- ---- holes and places

pub hole_first : (room from to : ℕ) (holes : List Hole) → 8 ≤ room → from + room ≤ to → hole_start room (hole_between from to holes) ≡ Some from
hole_first room from to holes big fits =
    rw (lt-ltb from to (omega (arith, big, fits)), le-leb room (to - from) (omega (arith, fits))) refl

pub hole_passed : (room from to : ℕ) (holes : List Hole) → to < from + room → hole_start room (hole_between from to holes) ≡ hole_start room holes
hole_passed room from to holes short =
    elim (cases_lt from to) [
      | inl some ↦ rw (lt-ltb from to some, lt-leb room (to - from) (omega (arith, some, short))) refl
      | inr none ↦ rw (le-ltb from to none) refl
    ]

holes_are_gaps : (room capacity from : ℕ) (bs : List Block) → 8 ≤ room → hole_start room (holes_from from capacity bs) ≡ gap_from room capacity from bs
unfolding gap_from
holes_are_gaps room capacity from [] big =
    elim (cases_lt capacity (from + room)) [
      | inl short ↦ hole_passed room from capacity [] short ∙ sym (rw (lt-leb (from + room) capacity short) refl)
      | inr fits ↦ hole_first room from capacity [] big fits ∙ sym (rw (le-leb (from + room) capacity fits) refl)
    ]
holes_are_gaps room capacity from (b ∷ bs) big =
    let rest = holes_from (end_of b) capacity bs in
    elim (cases_lt (start_of b) (from + room)) [
      | inl short ↦ hole_passed room from (start_of b) rest short ∙ holes_are_gaps room capacity (end_of b) bs big ∙ sym (rw (lt-leb (from + room) (start_of b) short) refl)
      | inr fits ↦ hole_first room from (start_of b) rest big fits ∙ sym (rw (le-leb (from + room) (start_of b) fits) refl)
    ]

pub mapped : (f : ℕ → ℕ) (test : Hole → Bool) (holes : List Hole) → option_map (λ h. f h.start) (find test holes) ≡ option_map f (option_map (λ h. h.start) (find test holes))
mapped f test holes = by (find test holes)
  where
    by : (o : Option Hole) → option_map (λ h. f h.start) o ≡ option_map f (option_map (λ h. h.start) o)
    by None = refl
    by (Some h) = refl

first_fit_is : (a : Blocks) (size : ℕ) → first_fit a size ≡ option_map (λ from. from + 8) (gap_from (8 + rounded size) a.capacity 0 a.blocks)
first_fit_is a size =
    mapped (λ from. from + 8) (λ h. nat_le (8 + rounded size) h.room) (holes_from 0 a.capacity a.blocks) ∙ ap (option_map (λ from. from + 8)) (holes_are_gaps (8 + rounded size) a.capacity 0 a.blocks (omega arith))

-- ---- the first is the least

-- a block before all of some is apart from them
before_all : (size position from : ℕ) (bs : List Block) → Stand from bs → position + rounded size ≤ from → IsApart size position bs
before_all size position from [] s low = tt
before_all size position from (b ∷ bs) s low =
    let above = s.0 in
    (inl (omega (arith, above, low)), before_all size position (end_of b) bs s.3 (omega (arith, above, low)))

pub stands_above : (from : ℕ) (bs : List Block) → Stand from bs → from ≤ end_from from bs
stands_above from [] s = omega arith
stands_above from (b ∷ bs) s =
    let e = stands_above (end_of b) bs s.3 in
    let low = s.0 in
    omega (arith, e, low)

record Found (size capacity from place : ℕ) (bs : List Block) : Type 0 where
  low : from ≤ place
  aligned : place % 8 ≡ 0
  below : place + (8 + rounded size) ≤ capacity
  apart : IsApart size (place + 8) bs
  least : (other : ℕ) → from + 8 ≤ other → other + rounded size ≤ capacity → IsApart size other bs → place + 8 ≤ other

record NotFound (size capacity from : ℕ) (bs : List Block) : Type 0 where
  none : (other : ℕ) → from + 8 ≤ other → other + rounded size ≤ capacity → IsApart size other bs → ⊥

Finds : (size capacity from : ℕ) → List Block → Option ℕ → Type 0
Finds size capacity from bs None = NotFound size capacity from bs
Finds size capacity from bs (Some place) = Found size capacity from place bs

finds : (size capacity from : ℕ) (bs : List Block) → from % 8 ≡ 0 → Stand from bs → end_from from bs ≤ capacity → Finds size capacity from bs (gap_from (8 + rounded size) capacity from bs)
unfolding gap_from Finds
finds size capacity from [] even s within =
    elim (cases_lt capacity (from + (8 + rounded size))) [
      | inl short ↦ rw (lt-leb (from + (8 + rounded size)) capacity short) (record { none = λ other low high apart. omega (arith, short, low, high) })
      | inr fits ↦ rw (le-leb (from + (8 + rounded size)) capacity fits) (record {
        low = omega arith;
        aligned = even;
        below = fits;
        apart = tt;
        least = λ other low high apart. low;
      })
    ]
finds size capacity from (b ∷ bs) even s within =
    elim (cases_lt (start_of b) (from + (8 + rounded size))) [
      | inl short ↦ rw (lt-leb (from + (8 + rounded size)) (start_of b) short) (further (gap_from (8 + rounded size) capacity (end_of b) bs) short (finds size capacity (end_of b) bs (even_end b s.1) s.3 within))
      | inr fits ↦ rw (le-leb (from + (8 + rounded size)) (start_of b) fits) (here fits)
    ]
  where
    even_end : (b : Block) → b.position % 8 ≡ 0 → end_of b % 8 ≡ 0
    even_end b even = omega (arith, even)

    here : from + (8 + rounded size) ≤ start_of b → Found size capacity from from (b ∷ bs)
    here fits =
        let low = s.0 in
        let above = stands_above (end_of b) bs s.3 in
        record {
          low = omega arith;
          aligned = even;
          below = omega (arith, fits, above, within);
          apart = before_all size (from + 8) (from + (8 + rounded size)) (b ∷ bs) (omega (arith, fits, low), s.1, s.2, s.3) (omega arith);
          least = λ other low high apart. low;
        }

    beyond : start_of b < from + (8 + rounded size) → (other : ℕ) → from + 8 ≤ other → IsApart size other (b ∷ bs) → end_of b + 8 ≤ other
    beyond short other low apart =
        elim apart.0 [
          | inl before ↦ absurd (omega (arith, before, low, short))
          | inr after ↦ omega (arith, after, low, s.0)
        ]

    further : (o : Option ℕ) → start_of b < from + (8 + rounded size) → Finds size capacity (end_of b) bs o → Finds size capacity from (b ∷ bs) o
    further None short n = record { none = λ other low high apart. n.none other (beyond short other low apart) high apart.1 }
    further (Some place) short f =
        let low = s.0 in
        let above = f.low in
        record {
          low = omega (arith, low, above);
          aligned = f.aligned;
          below = f.below;
          apart = (inr (omega (arith, above)), f.apart);
          least = λ other low high apart. f.least other (beyond short other low apart) high apart.1;
        }

pub first_is_least : (a : Blocks) (size : ℕ) → IsArea a → MatchOption (first_fit a size) (IsFull a size) (IsLeast a size)
unfolding Finds
first_is_least a size is =
    rw (first_fit_is a size) (by (gap_from (8 + rounded size) a.capacity 0 a.blocks) (finds size a.capacity 0 a.blocks refl is.stand is.within))
  where
    by : (o : Option ℕ) → Finds size a.capacity 0 a.blocks o → MatchOption (option_map (λ from. from + 8) o) (IsFull a size) (IsLeast a size)
    by None n = λ position allowed. n.none position allowed.header allowed.below allowed.apart
    by (Some place) f =
        let even = f.aligned in
        let below = f.below in
        record {
          allowed = record {
            aligned = omega (arith, even);
            header = omega arith;
            below = omega (arith, below);
            apart = f.apart;
          };
          least = λ other allowed. f.least other allowed.header allowed.below allowed.apart;
        }
