-- Of what is within the limits of the language the type checker asks no more than that an area stands by itself.
use Rattle.std.specs.Prelude.{◌≡◌, ℕ, zero, suc, ◌<◌, ◌≤◌, nat_le, unsigned_abs, Bool, true, false, not, ◌&&◌, ◌||◌, Option, Some, None, refl}
use Rattle.std.specs.Prelude.{List, [], ◌∷◌, length, get_or}
use Rattle.std.specs.List.{AllByRecursion}
use Rattle.std.proofs.Common.{sym, ap, ◌∙◌, arith, mul-le-mul_right}
use Rattle.std.proofs.lemmas.Bool.{and_from, lt-ltb, le-leb}
use Rattle.pli_deck_laws.specs.Limits.{AreBounds, IsDescribed, AreDescribed, IsDescription, IsMade, IfThere, IsAnyString, IsOpenElement, level_limit}
use Rattle.pli_map.specs.Description.{Description, FixedBinary, Character, Varying, Bit, Pointer, Offset, Area, Array, Structure, Members, NoMembers, MemberThen}
use Rattle.pli_map.specs.ParameterTypes.{ParameterType, Stated, AnyString, AnyArray, ArrayOf, StructureOf, is_stated}
use Rattle.pli_map.specs.Scalars.{is_area}
use Rattle.pli_map.specs.Sizes.{extent_of, count_of, size_of}
use Rattle.pli_map.specs.declared.description.Bounds.{Bounds}
use Rattle.pli_declare.specs.ResolvedUnits.{resolved_unit_of, all_symbols}
use Rattle.pli_declare.specs.Symbols.{Symbol, SymbolKind, Variable, OpenParameter, Member, Label, Procedure, Entry, BuiltIn}
use Rattle.pli_resolve_bounds.proofs.SymbolsWithin.{symbols_are_limited}
use Rattle.pli_resolve_bounds.specs.SymbolBounds.{IsTaken, IsLimited}
use Rattle.pli_type_rules.specs.NamedUnits as old
use Rattle.pli_type_rules.specs.NamedUnits.{checked_unit}
use Rattle.pli_type_rules.specs.Checked.{checked}
use Rattle.pli_type_unit.proofs.SymbolsAlike.{IsAlike, AreAlike, AreStored, IsGiven}
use Rattle.pli_type_unit.proofs.StatementsAlike.{typed_alike}
use Rattle.pli_type_unit.proofs.UnitsAlike.{unit_alike}
use Rattle.pli_type_unit.specs.UnitNames.{has_area, have_area}
use Rattle.pli_type_unit.specs.laws.UnitLaws.{UnitsAreChecked}

-- ---- descriptions

is_length : (n : ℕ) → 1 ≤ n → n ≤ 32767 → old.is_length n ≡ true
is_length n low high = and_from _ _ (lt-ltb 0 n (omega (arith, low))) (le-leb n 32767 high)

-- so many elements, one at least
extent_some : (b : Bounds) → AreBounds b → 1 ≤ extent_of b
extent_some b h = rw h.0 (omega arith)

count_some : (bs : List Bounds) → AllByRecursion AreBounds bs → 0 < count_of bs
count_some [] h = omega arith
count_some (b ∷ bs) h = omega (arith, mul-le-mul_right (count_of bs) (extent_some b h.0), count_some bs h.1)

bounds_within : (bs : List Bounds) → AllByRecursion AreBounds bs → old.are_bounds bs ≡ true
bounds_within [] h = refl
bounds_within (b ∷ bs) h =
    and_from _ _
    (and_from _ _ (le-leb (unsigned_abs b.low) 32768 (omega (arith, h.0.1))) (le-leb (unsigned_abs b.high) 32768 (omega (arith, h.0.2))))
    (bounds_within bs h.1)

both_true : (a b c d : Bool) → a ≡ true → b ≡ true → c ≡ d → a && b && c ≡ d
both_true a b c d e f g = ap (λ x. x && b && c) e ∙ ap (λ x. x && c) f ∙ g

neither : (a b c d : Bool) → a ≡ not c → b ≡ not d → a && b ≡ not (c || d)
neither a b true d e f = ap (λ x. x && b) e
neither a b false d e f = ap (λ x. x && b) e ∙ f

mutual
  plain_alike : (n : ℕ) (d : Description) → IsDescribed n d → old.is_plain 63 d ≡ not (has_area d)
  plain_alike zero d h = absurd h
  plain_alike (suc n) (FixedBinary p) h = le-leb p 63 h.1
  plain_alike (suc n) (Character k) h = is_length k h.0 h.1
  plain_alike (suc n) (Varying k) h = is_length k h.0 h.1
  plain_alike (suc n) (Bit k) h = is_length k h.0 h.1
  plain_alike (suc n) Pointer h = refl
  plain_alike (suc n) Offset h = refl
  plain_alike (suc n) (Area k) h = refl
  plain_alike (suc n) (Array [] e) h = absurd (omega (arith, h.0))
  plain_alike (suc n) (Array (b ∷ bs) e) h =
      both_true _ _ _ _ (lt-ltb 0 (count_of (b ∷ bs)) (count_some (b ∷ bs) h.2)) (bounds_within (b ∷ bs) h.2) (plain_alike n e h.3)
  plain_alike (suc n) (Structure NoMembers) h = absurd h
  plain_alike (suc n) (Structure (MemberThen d ds)) h = neither _ _ _ _ (plain_alike n d h.0) (all_alike n ds h.1)

  all_alike : (n : ℕ) (ds : Members) → AreDescribed n ds → old.all_plain 63 ds ≡ not (have_area ds)
  all_alike n NoMembers h = refl
  all_alike n (MemberThen d ds) h = neither _ _ _ _ (plain_alike n d h.0) (all_alike n ds h.1)

and_true : (a b : Bool) → b ≡ true → a && b ≡ a
and_true true b e = e
and_true false b e = refl

made_alike : (d : Description) → IsMade d → AreStored d
made_alike d h =
    let plain : old.is_plain 63 d ≡ not (has_area d) = plain_alike level_limit d h.0 in
    let small : nat_le (size_of d) 1000000 ≡ true = le-leb (size_of d) 1000000 h.1 in (
      and_true (old.may_stand 63 d) (nat_le (size_of d) 1000000) small ∙ ap (λ b. is_area d || b) plain,
      and_true (old.is_plain 63 d) (nat_le (size_of d) 1000000) small ∙ plain,
    )

given_alike : (returned : Option Description) → IfThere IsDescription returned → IsGiven returned
given_alike None h = refl
given_alike (Some d) h = ap (λ b. b && nat_le (size_of d) 1000000) (plain_alike level_limit d h)

-- ---- parameters in which a `*` stands

string_alike : (t : ParameterType) → IsAnyString t → old.is_any_length t ≡ true
string_alike (AnyString form) h = refl
string_alike (Stated d) h = absurd h
string_alike (AnyArray k e) h = absurd h
string_alike (ArrayOf bs e) h = absurd h
string_alike (StructureOf ts) h = absurd h

element_alike : (t : ParameterType) → IsOpenElement t → old.is_open_element 63 t ≡ true
element_alike (Stated (FixedBinary p)) h = and_from _ _ (le-leb p 63 h.1) refl
element_alike (Stated (Character n)) h = and_from _ _ (is_length n h.0 h.1) refl
element_alike (Stated (Varying n)) h = and_from _ _ (is_length n h.0 h.1) refl
element_alike (Stated (Bit n)) h = and_from _ _ (is_length n h.0 h.1) refl
element_alike (Stated Pointer) h = refl
element_alike (Stated Offset) h = refl
element_alike (Stated (Area n)) h = absurd h
element_alike (Stated (Array bs d)) h = absurd h
element_alike (Stated (Structure ds)) h = absurd h
element_alike (AnyString form) h = refl
element_alike (AnyArray k e) h = absurd h
element_alike (ArrayOf bs e) h = absurd h
element_alike (StructureOf ts) h = absurd h

dimensions_alike : (n : ℕ) → 1 ≤ n → n ≤ 8 → old.are_dimensions n ≡ true
dimensions_alike n low high = and_from _ _ (lt-ltb 0 n (omega (arith, low))) (le-leb n 8 high)

open_alike : (t : ParameterType) → IsTaken t → old.is_open_parameter 63 t ≡ not (is_stated t)
open_alike (Stated d) h = refl
open_alike (AnyString form) h = refl
open_alike (AnyArray k e) h = and_from _ _ (dimensions_alike k h.0 h.1) (element_alike e h.2)
open_alike (ArrayOf bs e) h =
    and_from _ _ (and_from _ _ (dimensions_alike (length bs) h.0 h.1) (bounds_within bs h.2)) (string_alike e h.3)
open_alike (StructureOf ts) h = absurd h

-- ---- symbols

kind_alike : (k : SymbolKind) → IsLimited k → IsAlike k
kind_alike (Variable d class scope initial area) h = made_alike d h
kind_alike (OpenParameter type slot area) h = open_alike type h
kind_alike (Member root path initial area) h = tt
kind_alike (Label statement) h = tt
kind_alike (Procedure block returned area) h = given_alike returned h
kind_alike (Entry parameters returned area) h = given_alike returned h.2
kind_alike BuiltIn h = tt

block_alike : (ss : List Symbol) → AllByRecursion (λ (s : Symbol). IsLimited s.kind) ss → AreAlike ss
block_alike [] h = tt
block_alike (s ∷ ss) h = (kind_alike s.kind h.0, block_alike ss h.1)

blocks_alike : (all : List (List Symbol)) → AllByRecursion (λ (ss : List Symbol). AllByRecursion (λ (s : Symbol). IsLimited s.kind) ss) all → AllByRecursion AreAlike all
blocks_alike [] h = tt
blocks_alike (ss ∷ more) h = (block_alike ss h.0, blocks_alike more h.1)

one_block : (all : List (List Symbol)) (block : ℕ) → AllByRecursion AreAlike all → AreAlike (get_or all block [])
one_block [] block h = tt
one_block (ss ∷ more) zero h = h.0
one_block (ss ∷ more) (suc block) h = one_block more block h.1

-- ---- units

pub units_are_checked : UnitsAreChecked
unfolding checked_unit
units_are_checked u none =
    let all : AllByRecursion AreAlike (all_symbols (resolved_unit_of u)) = blocks_alike (all_symbols (resolved_unit_of u)) (symbols_are_limited u none) in
    typed_alike (resolved_unit_of u)
    ∙ ap checked (sym (unit_alike (resolved_unit_of u) (λ block. one_block (all_symbols (resolved_unit_of u)) block all) all))
