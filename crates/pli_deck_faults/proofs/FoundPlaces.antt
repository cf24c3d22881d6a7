-- The places of a description that is found by its number among types.
use Rattle.std.proofs.Common.{◌≡◌, ℕ, zero, suc, ◌<◌, ◌≤◌, List, [], ◌∷◌, length, map, slice_get, get_or, Option, Some, None, is_some, true, false, option_map, refl, sym, ap, ◌∙◌, arith}
use Rattle.std.specs.Option.{option_and_then}
use Rattle.pli_map.specs.Description.{Description}
use Rattle.pli_map.specs.ParameterTypes.{ParameterType, Stated, stated}
use Rattle.pli_deck_faults.specs.declared.places.DescriptionExtent as program
use Rattle.pli_deck_faults.specs.Places.{DescriptionExtent, placed_of, placed_type, placed_view, all_placed}

pub record IsFound (ts : List ParameterType) (k : ℕ) (p : Option DescriptionExtent) : Type 0 where
  pub found : ParameterType
  pub there : slice_get ts k ≡ Some found
  pub is : p ≡ placed_type found

pub found_at : (ps : List (Option program.DescriptionExtent)) (ts : List ParameterType) (k : ℕ) (p : Option program.DescriptionExtent) → all_placed ps ≡ map placed_type ts → k < length ps
    → p ≡ get_or ps k p → IsFound ts k (option_map placed_view p)
found_at [] ts k p e within is = absurd (omega (arith, within))
found_at (q ∷ ps) [] k p e within is = absurd cc
found_at (q ∷ ps) (t ∷ ts) zero p e within is =
    let same : option_map placed_view q ≡ placed_type t = cc in
    record { found = t; there = refl; is = ap (option_map placed_view) is ∙ same }
found_at (q ∷ ps) (t ∷ ts) (suc k) p e within is =
    let rest : all_placed ps ≡ map placed_type ts = cc in
    let inner = found_at ps ts k p rest (omega (arith, within)) is in
    record { found = inner.found; there = inner.there; is = inner.is }

pub none_at : (ps : List (Option program.DescriptionExtent)) (ts : List ParameterType) (k : ℕ) → all_placed ps ≡ map placed_type ts → length ps ≤ k → slice_get ts k ≡ None
none_at ps [] k e past = refl
none_at [] (t ∷ ts) k e past = absurd cc
none_at (q ∷ ps) (t ∷ ts) zero e past = absurd (omega (arith, past))
none_at (q ∷ ps) (t ∷ ts) (suc k) e past = let rest : all_placed ps ≡ map placed_type ts = cc in none_at ps ts k rest (omega (arith, past))

-- the places of a type whose description this is
pub places_stated : (t : ParameterType) (p : Option DescriptionExtent) (d : Description) → p ≡ placed_type t → stated t ≡ Some d → p ≡ placed_of d
places_stated (Stated e) p d is h = let same : e ≡ d = cc in is ∙ ap placed_of same
places_stated other p d is h = absurd cc

pub places_open : (t : ParameterType) → stated t ≡ None → placed_type t ≡ None
places_open (Stated d) h = absurd cc
places_open other h = refl

-- a description that is there, with its places
pub places_there : (ts : List ParameterType) (k : ℕ) (p : Option DescriptionExtent) (d : Description) → IsFound ts k p → option_and_then stated (slice_get ts k) ≡ Some d → p ≡ placed_of d
places_there ts k p d f h = places_stated f.found p d f.is (ap (option_and_then stated) (sym f.there) ∙ h)

pub some_there : {X : Type 0} (o : Option X) → is_some o ≡ true → (x : X) × (o ≡ Some x)
some_there None h = absurd cc
some_there (Some x) h = (x, refl)

pub none_there : {X : Type 0} (o : Option X) → is_some o ≡ false → o ≡ None
none_there None h = refl
none_there (Some x) h = absurd cc
