-- References lead to the parts that they are typed as.
use Rattle.std.specs.Prelude.{◌≡◌, ℕ, zero, suc, ◌≤◌, ◌==◌, Bool, true, false, not, ◌&&◌, IsTrue, Option, Some, None, option_map, option_and_then, List, [], ◌∷◌, ◌++◌, length, Result, Ok, Err, refl, if◌then◌else◌}
use Rattle.std.proofs.Common.{sym, subst, ap, arith}
use Rattle.std.proofs.lemmas.Bool.{and_parts, false≢true}
use Rattle.std.proofs.lemmas.Option.{same_Some, none-some}
use Rattle.pli_base.specs.Results.{◌>>=◌}
use Rattle.pli_base.specs.declared.token.Fault.{Fault}
use Rattle.pli_map.specs.Description.{Description, Pointer, Offset}
use Rattle.pli_map.specs.ParameterTypes.{ParameterType, Stated, AnyString, AnyArray, ArrayOf, StructureOf, stated, type_if, element_type, is_aggregate_type}
use Rattle.pli_map.specs.Scalars.{is_aggregate}
use Rattle.pli_type_rules.specs.ExpressionTypes.{all_operands}
use Rattle.pli_type_rules.specs.NamedUnits.{is_plain, may_stand, are_dimensions, are_bounds, is_any_length, is_open_element, may_be}
use Rattle.pli_type_rules.specs.Names.{LocatorVariable, OfPointer, OfOffset, NamedStorage, Begins, IsBased, NamedVariable}
use Rattle.pli_type_rules.specs.References.{Role, wants_scalar, StridedPart, part_of, with_subscripts, subscripts_at, reference_to, Referent}
use Rattle.pli_type_rules.specs.References.{LocatorBefore, NotLocated, LocatedBy, LocatedWrongly, pointer_of, root_by, is_passed}
use Rattle.pli_type_rules.specs.References.{permitted, referent_from, settled, open_part, open_reference, open_referent, open_settled, passed_root, whole_meant}
use Rattle.pli_type_rules.specs.References.{variable_meant, locator_at, located_by}
use Rattle.pli_type_rules.specs.TypingSteps.{begins_somewhere}
use Rattle.pli_type_rules.specs.declared.beginning.Beginning.{Beginning}
use Rattle.pli_type_laws.proofs.Conversions.{OnGiven}
use Rattle.pli_type_laws.proofs.Denotations.{OnRead, IsOfWhole, IsReferent}
use Rattle.pli_type_tree.specs.TypedTree.{Root, Stride, TypedExpression, TypedReference}
use Rattle.pli_type_tree.specs.ValueTypes.{Numbers, Pointers}
use Rattle.pli_type_tree.specs.WellTyped.{TypingContext, BeginsWhole, IsTyped, IsRooted, IsPlaced, AreSubscripts, AreNumbers, LeadTo, operand_count}
use Rattle.pli_type_laws.proofs.PlainDescriptions.{plain_stands}
use Rattle.pli_type_laws.specs.NameFacts.{IsAreaNamed, IsLocatorThere, IsImplied, IsStoredIn}

-- what is read after what was read
pub read_then : {A B : Type 0} (P : A → Type 0) (Q : B → Type 0) (r : Result A Fault) (f : A → Result B Fault)
    → OnRead P r → ((x : A) → P x → OnRead Q (f x)) → OnRead Q (r >>= f)
read_then P Q (Ok x) f h g = g x h
read_then P Q (Err e) f h g = tt

pub read_if : {A : Type 0} (P : A → Type 0) (b : Bool) (r q : Result A Fault) → OnRead P r → OnRead P q
    → OnRead P (if b then r else q)
read_if P true r q a b = a
read_if P false r q a b = b

-- a variable is there, with the area that its OFFSET names, and each reference to a part of what is stated leads to
-- that part
pub record IsKnown (s : TypingContext) (v : NamedVariable) : Type 0 where
  pub begins : IsStoredIn 63 s v.storage v.whole
  pub area : IsAreaNamed 63 s v.area
  pub plain : IsTrue (may_be 63 v.whole)
  pub own : is_passed v.storage ≡ false → (d : Description) × (v.whole ≡ Stated d)
  pub leads :
      (d : Description) (p q : StridedPart) (xs : List TypedExpression) → v.whole ≡ Stated d → part_of v ≡ Some p
      → with_subscripts (length xs) p ≡ Some q
      → LeadTo d q.offset (subscripts_at q.strides xs) q.description × IsTrue (may_stand 63 q.description)
  pub whole :
      (d : Description) (p q : StridedPart) → v.whole ≡ Stated d → v.path ≡ [] → part_of v ≡ Some p
      → with_subscripts 0 p ≡ Some q → q.description ≡ d

-- a locator in front of a name is a pointer
abbrev pub IsLocator : TypingContext → LocatorBefore → Type 0
IsLocator s NotLocated = Unit {0}
IsLocator s (LocatedBy e) = IsTyped 63 s e Pointers
IsLocator s LocatedWrongly = Unit {0}

-- a variable that leads to BASED ones gives a pointer, an offset one in the area that it names
pub pointer_given : (s : TypingContext) (locator : LocatorVariable) → IsLocatorThere 63 s locator → IsTyped 63 s (pointer_of locator) Pointers
pointer_given s (OfPointer reference) h = (Stated Pointer, h, refl)
pointer_given s (OfOffset reference area) h = ((Stated Offset, h.0, refl), h.1, refl)

-- so does one in front of an arrow
pub located_typed : (s : TypingContext) (o : Option LocatorVariable) → IsImplied 63 s o → IsLocator s (located_by o)
located_typed s None h = tt
located_typed s (Some locator) h = pointer_given s locator h

pub locator_kept : (s : TypingContext) (r : TypedReference) (type : ParameterType) (area : Option Beginning)
    → IsPlaced 63 s r type → IsAreaNamed 63 s area → IsImplied 63 s (locator_at r type area)
locator_kept s r (Stated Pointer) None placed there = placed
locator_kept s r (Stated Pointer) (Some area) placed there = placed
locator_kept s r (Stated Offset) (Some area) placed there = (placed, there)
locator_kept s r type area placed there = tt

-- subscripts are numbers
abbrev pub AreIndices : TypingContext → List TypedExpression → Type 0
AreIndices s [] = Unit {0}
AreIndices s (x ∷ xs) = ((p : ℕ) × IsTyped 63 s x (Numbers p)) × AreIndices s xs

pub more_indices : (s : TypingContext) (xs ys : List TypedExpression) → AreIndices s xs → AreIndices s ys
    → AreIndices s (xs ++ ys)
more_indices s [] ys a b = b
more_indices s (x ∷ xs) ys a b = (a.0, more_indices s xs ys a.1 b)

-- ---- elements of parameters in which a `*` stands

if_given : (b : Bool) (t u : ParameterType) → type_if b t ≡ Some u → t ≡ u
if_given true t u e = same_Some t u e
if_given false t u e = absurd (none-some u e)

length_may : (t : ParameterType) → is_any_length t ≡ true → may_be 63 t ≡ true
length_may (AnyString form) h = refl
length_may t h = absurd (false≢true h)

element_may : (t : ParameterType) → is_open_element 63 t ≡ true → may_be 63 t ≡ true
element_may (Stated d) h = plain_stands 63 d ((and_parts (is_plain 63 d) (not (is_aggregate d)) h).0)
element_may (AnyString form) h = refl
element_may t h = absurd (false≢true h)

elements_may : (k : ℕ) (t u : ParameterType) → may_be 63 t ≡ true → element_type k t ≡ Some u → may_be 63 u ≡ true
elements_may k (Stated d) u h e = absurd (none-some u e)
elements_may k (AnyString form) u h e = absurd (none-some u e)
elements_may k (AnyArray j t) u h e =
    subst (λ x. may_be 63 x ≡ true) (if_given (j == k) t u e)
    (element_may t ((and_parts (are_dimensions j) (is_open_element 63 t) h).1))
elements_may k (ArrayOf bounds t) u h e =
    subst (λ x. may_be 63 x ≡ true) (if_given (length bounds == k) t u e)
    (length_may t ((and_parts (are_dimensions (length bounds) && are_bounds bounds) (is_any_length t) h).1))
elements_may k (StructureOf ts) u h e = absurd (none-some u e)

-- the whole, or an element
part_may : (k : ℕ) (t u : ParameterType) → may_be 63 t ≡ true → open_part t k ≡ Some u → may_be 63 u ≡ true
part_may zero t u h e = subst (λ x. may_be 63 x ≡ true) (same_Some t u e) h
part_may (suc k) t u h e = elements_may (suc k) t u h e

operands_counted : (xs : List TypedExpression) → operand_count (all_operands xs) ≡ length xs
operands_counted [] = refl
operands_counted (x ∷ xs) = ap suc (operands_counted xs)

at_least_one : (k : ℕ) → 1 ≤ suc k
at_least_one k = omega arith

module _ (s : TypingContext) where
  numbers_typed : (xs : List TypedExpression) → AreIndices s xs → AreNumbers 63 s (all_operands xs)
  numbers_typed [] h = tt
  numbers_typed (x ∷ xs) h = (h.0, numbers_typed xs h.1)

  -- a reference leads to such an element
  open_placed : (t u : ParameterType) (xs : List TypedExpression) (root : Root) → IsRooted 63 s root t → AreIndices s xs
      → open_part t (length xs) ≡ Some u → IsPlaced 63 s (open_reference root xs) u
  open_placed t u [] root begins indices e = subst (IsRooted 63 s root) (same_Some t u e) begins
  open_placed t u (x ∷ xs) root begins indices e = (
    (t, begins, subst (λ k. element_type k t ≡ Some u) (sym (operands_counted (x ∷ xs))) e),
    at_least_one (operand_count (all_operands xs)),
    numbers_typed (x ∷ xs) indices,
  )

  open_whole : (xs : List TypedExpression) (root : Root) (d : Description) → BeginsWhole s root → IsRooted 63 s root (Stated d)
      → IsOfWhole s (open_reference root xs)
  open_whole [] root d h begins = (h, (d, begins))
  open_whole (x ∷ xs) root d h begins = tt

  subscripts_typed : (strides : List Stride) (xs : List TypedExpression) → AreIndices s xs
      → AreSubscripts 63 s (subscripts_at strides xs)
  subscripts_typed (t ∷ ts) (x ∷ xs) h = (h.0, subscripts_typed ts xs h.1)
  subscripts_typed [] xs h = tt
  subscripts_typed (t ∷ ts) [] h = tt

  -- a reference leads to its part
  abbrev IsPart : (whole : Description) → StridedPart → List TypedExpression → Type 0
  IsPart whole q xs = LeadTo whole q.offset (subscripts_at q.strides xs) q.description

  placed : (whole : Description) (q : StridedPart) (path : List ℕ) (xs : List TypedExpression) (root : Root)
      → IsRooted 63 s root (Stated whole) → IsPart whole q xs → AreIndices s xs
      → (path ≡ [] → xs ≡ [] → q.description ≡ whole)
      → IsPlaced 63 s (reference_to root path q xs) (Stated q.description)
  placed whole q [] [] root begins leads indices is = subst (λ d. IsRooted 63 s root (Stated d)) (sym (is refl refl)) begins
  placed whole q [] (x ∷ xs) root begins leads indices is =
      (refl, (whole, begins, leads), subscripts_typed q.strides (x ∷ xs) indices)
  placed whole q (i ∷ path) xs root begins leads indices is =
      (refl, (whole, begins, leads), subscripts_typed q.strides xs indices)

  of_whole : (q : StridedPart) (path : List ℕ) (xs : List TypedExpression) (root : Root) (d : Description) → BeginsWhole s root
      → IsRooted 63 s root (Stated d) → IsOfWhole s (reference_to root path q xs)
  of_whole q [] [] root d h begins = (h, (d, begins))
  of_whole q [] (x ∷ xs) root d h begins = tt
  of_whole q (i ∷ path) xs root d h begins = tt

  -- where a reference begins
  abbrev IsRootOf : NamedStorage → ParameterType → Root → Type 0
  IsRootOf storage type root = IsRooted 63 s root type × (is_passed storage ≡ false → BeginsWhole s root)

  passed_typed : (storage : NamedStorage) (type : ParameterType) (locator : LocatorBefore) → IsStoredIn 63 s storage type
      → OnGiven (IsRootOf storage type) (passed_root storage locator)
  passed_typed (Begins root is_parameter) type NotLocated h = h
  passed_typed (Begins root is_parameter) type (LocatedBy e) h = tt
  passed_typed (Begins root is_parameter) type LocatedWrongly h = tt
  passed_typed (IsBased block number implied) type NotLocated h = tt
  passed_typed (IsBased block number implied) type (LocatedBy e) h = tt
  passed_typed (IsBased block number implied) type LocatedWrongly h = tt

  root_typed : (storage : NamedStorage) (whole : Description) (locator : LocatorBefore) → IsStoredIn 63 s storage (Stated whole)
      → IsLocator s locator → OnGiven (IsRootOf storage (Stated whole)) (root_by storage whole locator)
  root_typed (Begins root is_parameter) whole NotLocated h k = h
  root_typed (Begins root is_parameter) whole (LocatedBy e) h k = tt
  root_typed (Begins root is_parameter) whole LocatedWrongly h k = tt
  root_typed (IsBased block number None) whole NotLocated h k = tt
  root_typed (IsBased block number (Some implied)) whole NotLocated h k = ((refl, pointer_given s implied h), λ own. tt)
  root_typed (IsBased block number None) whole (LocatedBy e) h k = ((refl, k), λ own. tt)
  root_typed (IsBased block number (Some implied)) whole (LocatedBy e) h k = ((refl, k), λ own. tt)
  root_typed (IsBased block number None) whole LocatedWrongly h k = tt
  root_typed (IsBased block number (Some implied)) whole LocatedWrongly h k = tt

  somewhere : (at : ℕ) (o : Option Referent) → OnGiven (IsReferent s) o → OnRead (IsReferent s) (begins_somewhere at o)
  somewhere at (Some r) h = h
  somewhere at None h = tt

  allowed : (role : Role) (at : ℕ) (type : ParameterType) (o : Option Referent) → OnGiven (IsReferent s) o
      → OnRead (IsReferent s) (permitted role at type o)
  allowed role at type o h = read_if (IsReferent s) (wants_scalar role && is_aggregate_type type) _ _ tt (somewhere at o h)

  module _ (role : Role) (locator : LocatorBefore) (located : IsLocator s locator) (at : ℕ) (v : NamedVariable) (known : IsKnown s v)
      (xs : List TypedExpression) (indices : AreIndices s xs) where
    module _ (whole : Description) (same : v.whole ≡ Stated whole) where
      with_root : (p q : StridedPart) → part_of v ≡ Some p → with_subscripts (length xs) p ≡ Some q → (o : Option Root)
          → OnGiven (IsRootOf v.storage (Stated whole)) o → OnGiven (IsReferent s) (option_map (referent_from v xs q) o)
      with_root p q is given None h = tt
      with_root p q is given (Some root) h =
          let leads : IsPart whole q xs × IsTrue (may_stand 63 q.description) = known.leads whole p q xs same is given in (
            placed whole q v.path xs root h.0 leads.0 indices
                (λ no_path none. known.whole whole p q same no_path is
                (subst (λ ys. with_subscripts (length ys) p ≡ Some q) none given)),
            leads.1,
            λ own. of_whole q v.path xs root whole (h.1 own) h.0,
            known.area,
          )

      with_part : (p : StridedPart) → part_of v ≡ Some p → (o : Option StridedPart) → with_subscripts (length xs) p ≡ o
          → OnRead (IsReferent s) (settled role locator at v whole xs o)
      with_part p is None given = tt
      with_part p is (Some q) given =
          allowed role at (Stated q.description) (option_map (referent_from v xs q) (root_by v.storage whole locator))
          (with_root p q is given (root_by v.storage whole locator)
          (root_typed v.storage whole locator (subst (IsStoredIn 63 s v.storage) same known.begins) located))

      in_variable : (o : Option StridedPart) → part_of v ≡ o
          → OnRead (IsReferent s) (settled role locator at v whole xs (option_and_then (with_subscripts (length xs)) o))
      in_variable None is = tt
      in_variable (Some p) is = with_part p is (with_subscripts (length xs) p) refl

    -- a parameter in which a `*` stands, or an element of it
    with_passed : (t : ParameterType) → open_part v.whole (length xs) ≡ Some t → (o : Option Root)
        → OnGiven (IsRootOf v.storage v.whole) o → OnGiven (IsReferent s) (option_map (open_referent v xs t) o)
    with_passed t is None h = tt
    with_passed t is (Some root) h = (
      open_placed v.whole t xs root h.0 indices is,
      part_may (length xs) v.whole t known.plain is,
      λ own.
          let k : (d : Description) × (v.whole ≡ Stated d) = known.own own in
          open_whole xs root k.0 (h.1 own) (subst (IsRooted 63 s root) k.1 h.0),
      known.area,
    )

    in_open : (o : Option ParameterType) → open_part v.whole (length xs) ≡ o
        → OnRead (IsReferent s) (open_settled role locator at v xs o)
    in_open None is = tt
    in_open (Some t) is =
        allowed role at t (option_map (open_referent v xs t) (passed_root v.storage locator))
        (with_passed t is (passed_root v.storage locator) (passed_typed v.storage v.whole locator known.begins))

    by_whole : (t : ParameterType) → v.whole ≡ t → OnRead (IsReferent s) (whole_meant role locator at v xs (stated t))
    by_whole (Stated d) is = in_variable d is (part_of v) refl
    by_whole t is = in_open (open_part v.whole (length xs)) refl

    pub variable_typed : OnRead (IsReferent s) (variable_meant role locator at v xs)
    variable_typed = by_whole v.whole refl
