-- What is found in a block is one of its names; no names mean nothing.
use Rattle.std.proofs.Common.{◌≡◌, ℕ, zero, suc, ◌+◌, ◌<◌, ◌≤◌, Bool, true, false, List, [], ◌∷◌, length, if◌then◌else◌, refl, arith}
use Rattle.pli_base.specs.Name.{Name}
use Rattle.pli_declare_scopes.specs.declared.found.Found.{Found}
use Rattle.pli_declare_scopes.specs.declared.found.Found.TheVariants.{Nothing, One, Several}
use Rattle.pli_declare_scopes.specs.declared.found.ReferenceMeaning.TheVariants.{NotDeclared}
use Rattle.pli_declare_scopes.specs.Scopes.{BlockItems, Scope, fits, fits_fully, with_number, found_below, preferred, found_in, meant_from}

-- no names mean nothing
pub no_names : (scope : Scope) (out : ℕ) → meant_from out scope [] ≡ NotDeclared
no_names [] out = refl
no_names (b ∷ bs) out = no_names bs (out + 1)

-- a number that is found is below the length
abbrev pub IsBelow : ℕ → Found → Type 0
IsBelow count Nothing = Unit {0}
IsBelow count (One n) = n < count
IsBelow count Several = Unit {0}

noted_below : (count n : ℕ) (found : Found) → n < count → IsBelow count (with_number n found)
noted_below count n Nothing lt = lt
noted_below count n (One m) lt = tt
noted_below count n Several lt = tt

step_below : (count n : ℕ) (found : Found) (b : Bool) → n < count → IsBelow count found → IsBelow count (if b then with_number n found else found)
step_below count n found true lt h = noted_below count n found lt
step_below count n found false lt h = h

below : (test : ℕ → Bool) (count k : ℕ) (found : Found) → k ≤ count → IsBelow count found → IsBelow count (found_below test k found)
below test count zero found le h = h
below test count (suc k) found le h =
    below test count k (if test k then with_number k found else found) (omega arith) (step_below count k found (test k) (omega arith) h)

preferred_below : (count : ℕ) (fully partly : Found) → IsBelow count fully → IsBelow count partly → IsBelow count (preferred fully partly)
preferred_below count Nothing partly f p = p
preferred_below count (One n) partly f p = f
preferred_below count Several partly f p = f

pub found_is_below : (block : BlockItems) (names : List Name) → IsBelow (length block) (found_in block names)
found_is_below block names =
    preferred_below (length block) (found_below (fits_fully block names) (length block) Nothing) (found_below (fits block names) (length block) Nothing)
    (below (fits_fully block names) (length block) (length block) Nothing (omega arith) tt)
    (below (fits block names) (length block) (length block) Nothing (omega arith) tt)
