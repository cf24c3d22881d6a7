-- Types of members: which of them are stated, and what they then are.
use Rattle.std.proofs.Common.{◌≡◌, Bool, true, false, List, [], ◌∷◌, ◌++◌, map, Some, None, refl, ap}
use Rattle.std.specs.List.{list_any}
use Rattle.pli_map.specs.Description.{Description}
use Rattle.pli_map.specs.ParameterTypes.{ParameterType, Stated, ParameterTypes, NoType, TypeThen, is_open, types_of, listed_types, all_stated, stated_before}
use Rattle.pli_deck_write.specs.answers.StatedTypes.{descriptions_among}

pub listed-types_of : (ts : List ParameterType) → listed_types (types_of ts) ≡ ts
listed-types_of [] = refl
listed-types_of (t ∷ ts) = ap (λ us. t ∷ us) (listed-types_of ts)

pub types_of-listed : (ts : ParameterTypes) → types_of (listed_types ts) ≡ ts
types_of-listed NoType = refl
types_of-listed (TypeThen t ts) = ap (TypeThen t) (types_of-listed ts)

-- where none is open, all are stated
pub stated_all : (ts : List ParameterType) → list_any is_open ts ≡ false → all_stated ts ≡ Some (descriptions_among ts)
stated_all [] h = refl
stated_all (Stated d ∷ ts) h = ap (stated_before (Some d)) (stated_all ts h)
stated_all (other ∷ ts) h = absurd cc

pub stated_again : (ts : List ParameterType) → list_any is_open ts ≡ false → map Stated (descriptions_among ts) ≡ ts
stated_again [] h = refl
stated_again (Stated d ∷ ts) h = ap (λ us. Stated d ∷ us) (stated_again ts h)
stated_again (other ∷ ts) h = absurd cc

pub stated_mapped : (ds : List Description) → all_stated (map Stated ds) ≡ Some ds
stated_mapped [] = refl
stated_mapped (d ∷ ds) = ap (stated_before (Some d)) (stated_mapped ds)

-- and where one is, they are not
pub none_stated : (ts : List ParameterType) → list_any is_open ts ≡ true → all_stated ts ≡ None
none_stated [] h = absurd cc
none_stated (Stated d ∷ ts) h = ap (stated_before (Some d)) (none_stated ts h)
none_stated (other ∷ ts) h = refl

-- the descriptions of one and of those after it
pub among_first : (t : ParameterType) (ts : List ParameterType) → descriptions_among (t ∷ ts) ≡ descriptions_among (t ∷ []) ++ descriptions_among ts
among_first (Stated d) ts = refl
among_first other ts = refl
