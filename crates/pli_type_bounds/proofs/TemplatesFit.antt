-- What variables are made from is within the limits: their descriptions, and each initial value with its scalar.
use Rattle.std.specs.Prelude.{◌≡◌, ℕ, zero, suc, ◌+◌, ◌-◌, ◌^◌, ◌<◌, ◌≤◌, nat_le, nat_lt, Bool, true, false, IsTrue, ℤ, pos, unsigned_abs}
use Rattle.std.specs.Prelude.{Some, List, [], ◌∷◌, ◌++◌, length, map, take, replicate, if◌then◌else◌, refl}
use Rattle.std.specs.Int.{div_ceil, next_multiple_of}
use Rattle.std.specs.List.{flat_map, AllByRecursion}
use Rattle.std.proofs.Common.{sym, ◌∙◌, ap, subst, arith, pow_pos, append_assoc, append-nil, length-append, length-take, eq-eqb, le-leb}
use Rattle.std.proofs.Math.Pow.{pow_mono}
use Rattle.std.proofs.lemmas.Bool.{and_parts, lt-ltb, leb-true, ltb-true}
use Rattle.std.proofs.lemmas.List.{length-replicate, map-append}
use Rattle.std.proofs.lemmas.List.Elements.{All-from_recursion, recursion_from_All}
use Rattle.std.proofs.lemmas.List.Sorted.{All-permutation}
use Rattle.pli_base.specs.Name.{Name}
use Rattle.pli_declare.specs.declared.completed.ScopeAttribute.{ScopeAttribute}
use Rattle.pli_declare.specs.declared.completed.ScopeAttribute.TheVariants as scopes
use Rattle.pli_map.specs.Description.{Description, FixedBinary, Character, Varying, Bit, Pointer, Offset, Area, Array, Structure, Members, NoMembers, MemberThen}
use Rattle.pli_bytes.specs.Contents.{scalar_on, spread, scalars_at, scalars_after}
use Rattle.pli_bytes.proofs.Rising.{Rise, rises}
use Rattle.pli_bytes.proofs.Scalars.{scalar_moved}
use Rattle.pli_bytes.proofs.ScalarsOn.{on_itself}
use Rattle.pli_bytes.proofs.Split.{moved_twice, not_moved}
use Rattle.pli_map.specs.Parts.{PlacedPart, moved}
use Rattle.pli_map.specs.Scalars.{is_scalar}
use Rattle.pli_map.specs.Sizes.{alignment_of, count_of, size_of, stride_of}
use Rattle.pli_map.specs.Values.{holds}
use Rattle.pli_declare.specs.Symbols.{Symbol, SymbolKind, Variable, OpenParameter, Member, Label, Procedure, Entry, BuiltIn}
use Rattle.pli_declare.specs.declared.symbol.StorageClass.{StorageClass}
use Rattle.pli_type_rules.specs.InitialScalars.{counted_from, scalars_on, scalars_in_member, as_held, each_with, values_written, InitialItem, initial_scalars, template_of}
use Rattle.pli_type_rules.specs.NamedUnits.{is_plain, all_plain, may_stand, is_stored, is_global, kind_of_class, member_items, template_at, templates_from}
use Rattle.pli_type_rules.specs.NamedUnits.{global_of, global_with, globals_from, globals_of, all_globals}
use Rattle.pli_type_rules.specs.NamedUnits.{PlacedGlobal, placed, block_globals}
use Rattle.pli_type_rules.specs.TextOrder.{in_order}
use Rattle.pli_type_rules.proofs.TextNumbers.{same_items}
use Rattle.pli_type_laws.proofs.PlainDescriptions.{plain_element, plain_members}
use Rattle.pli_type_laws.proofs.RootsStand.{global_stored}
use Rattle.pli_program.specs.declared.kind.VariableKind.{VariableKind}
use Rattle.pli_type_tree.specs.Templates.{Template}
use Rattle.pli_type_tree.specs.TypedTree.{Global}
use Rattle.pli_value.specs.Numbers.{has_digits}
use Rattle.pli_value.specs.Strings.{fitted}
use Rattle.pli_value.specs.Value.{Value, Number, Characters, Bits, Located}
use Rattle.pli_type_laws.proofs.InitialHeld.{all_after}
use Rattle.pli_resolve_bounds.specs.SymbolBounds.{IsLimited}
use Rattle.pli_initial_laws.specs.InitialCounts.{HasFewInitial, HaveFewInitial}
use Rattle.pli_type_bounds.proofs.TypesFit.{all_taken}
use Rattle.pli_deck_laws.specs.Limits.{IsDescription, IsConstant, IsInitial, IsTemplate, IsGlobal, word_limit}

not_true : false ≡ true → ⊥
not_true e = absurd (cc)

-- ---- a value as its scalar holds it

zero_held : (p : ℕ) → has_digits p (pos 0) ≡ true
zero_held p = lt-ltb 0 (2 ^ p) (pow_pos p)

fitted_length : {A : Type 0} (extension : A) (n : ℕ) (s : List A) → length (fitted extension n s) ≡ n
fitted_length extension n s =
    omega (arith, length-append (take n s) (replicate (n - length s) extension), length-take n s, length-replicate (n - length s) extension)

cut_length : (n : ℕ) (s : List ℕ) → length (take n s) ≤ n
cut_length n s = omega (arith, length-take n s)

-- numbers of few digits
few_digits : (p : ℕ) (x : ℤ) → p ≤ 63 → has_digits p x ≡ true → unsigned_abs x ≤ 9223372036854775807
few_digits p x le h =
    let below : unsigned_abs x < 2 ^ p = ltb-true (unsigned_abs x) (2 ^ p) h in
    let power : 2 ^ p ≤ 2 ^ 63 = powers p le in
    omega (arith, below, power)
  where
    powers : (p : ℕ) → p ≤ 63 → 2 ^ p ≤ 2 ^ 63
    powers p le = pow_mono le

-- the scalar holds it, and it is within the limits
abbrev IsKept : Description → Value → Type 0
IsKept d v = IsTrue (holds d v) × IsConstant v

number_kept : (p : ℕ) (x : ℤ) → p ≤ 63 → (b : Bool) → has_digits p x ≡ b → IsKept (FixedBinary p) (as_held (FixedBinary p) (Number x))
number_kept p x le true e = subst (IsKept (FixedBinary p)) (sym (kept e)) (e, few_digits p x le e)
  where
    kept : has_digits p x ≡ true → as_held (FixedBinary p) (Number x) ≡ Number x
    kept e = rw e refl
number_kept p x le false e = subst (IsKept (FixedBinary p)) (sym (first e)) (zero_held p, omega arith)
  where
    first : has_digits p x ≡ false → as_held (FixedBinary p) (Number x) ≡ Number (pos 0)
    first e = rw e refl

string_kept : (k : ℕ) (s : List ℕ) → k ≤ 32767 → length s ≡ k → IsKept (Character k) (Characters s)
string_kept k s le e = (eq-eqb _ k e, omega (arith, le, e))

varying_kept : (k : ℕ) (s : List ℕ) → k ≤ 32767 → length s ≤ k → IsKept (Varying k) (Characters s)
varying_kept k s le e = (le-leb _ k e, omega (arith, le, e))

bits_kept : (k : ℕ) (s : List Bool) → k ≤ 32767 → length s ≡ k → IsKept (Bit k) (Bits s)
bits_kept k s le e = (eq-eqb _ k e, omega (arith, le, e))

bits_as_held : (k : ℕ) (s : List Bool) → nat_le k 32767 ≡ true → as_held (Bit k) (Bits s) ≡ Bits (fitted false k s)
bits_as_held k s e = rw e refl

few : (k : ℕ) → is_plain 63 (Character k) ≡ true → k ≤ 32767
few k h = leb-true k 32767 (and_parts _ _ h).1

kept_is : (d : Description) (v : Value) → is_plain 63 d ≡ true → is_scalar d ≡ true → IsKept d (as_held d v)
kept_is (FixedBinary p) (Number x) plain one = number_kept p x (leb-true p 63 plain) (has_digits p x) refl
kept_is (FixedBinary p) (Characters s) plain one = (zero_held p, omega arith)
kept_is (FixedBinary p) (Bits s) plain one = (zero_held p, omega arith)
kept_is (FixedBinary p) (Located l) plain one = (zero_held p, omega arith)
kept_is (Character k) (Characters s) plain one =
    string_kept k (fitted 32 k s) (few k plain) (fitted_length 32 k s)
kept_is (Character k) (Number x) plain one = string_kept k (replicate k 32) (few k plain) (length-replicate k 32)
kept_is (Character k) (Bits s) plain one = string_kept k (replicate k 32) (few k plain) (length-replicate k 32)
kept_is (Character k) (Located l) plain one = string_kept k (replicate k 32) (few k plain) (length-replicate k 32)
kept_is (Varying k) (Characters s) plain one = varying_kept k (take k s) (few k plain) (cut_length k s)
kept_is (Varying k) (Number x) plain one = varying_kept k [] (few k plain) (omega arith)
kept_is (Varying k) (Bits s) plain one = varying_kept k [] (few k plain) (omega arith)
kept_is (Varying k) (Located l) plain one = varying_kept k [] (few k plain) (omega arith)
kept_is (Bit k) (Bits s) plain one =
    subst (IsKept (Bit k)) (sym (bits_as_held k s (and_parts _ _ plain).1)) (bits_kept k (fitted false k s) (few k plain) (fitted_length false k s))
kept_is (Bit k) (Number x) plain one = bits_kept k (replicate k false) (few k plain) (length-replicate k false)
kept_is (Bit k) (Characters s) plain one = bits_kept k (replicate k false) (few k plain) (length-replicate k false)
kept_is (Bit k) (Located l) plain one = bits_kept k (replicate k false) (few k plain) (length-replicate k false)
kept_is Pointer (Number x) plain one = (refl, refl)
kept_is Pointer (Characters s) plain one = (refl, refl)
kept_is Pointer (Bits s) plain one = (refl, refl)
kept_is Pointer (Located l) plain one = (refl, refl)
kept_is Offset (Number x) plain one = (refl, refl)
kept_is Offset (Characters s) plain one = (refl, refl)
kept_is Offset (Bits s) plain one = (refl, refl)
kept_is Offset (Located l) plain one = (refl, refl)
kept_is (Array bs e) v plain one = absurd (not_true one)
kept_is (Structure ds) v plain one = absurd (not_true one)
kept_is d v plain one = absurd (not_true plain)

-- ---- which scalars an item has

packed_byte : (k : ℕ) → 0 < k → 0 < div_ceil k 8
packed_byte k some = omega (arith, some)

-- a plain scalar takes a byte
plain_byte : (d : Description) → is_plain 63 d ≡ true → is_scalar d ≡ true → 0 < size_of d
plain_byte (FixedBinary p) plain one = number_byte (nat_le p 15) (nat_le p 31)
  where
    number_byte : (a b : Bool) → 0 < (if a then 2 else (if b then 4 else 8))
    number_byte true b = omega arith
    number_byte false true = omega arith
    number_byte false false = omega arith
plain_byte (Character k) plain one = ltb-true 0 k (and_parts (nat_lt 0 k) (nat_le k 32767) plain).0
plain_byte (Varying k) plain one = omega arith
plain_byte (Bit k) plain one =
    let some = ltb-true 0 k (and_parts (nat_lt 0 k) (nat_le k 32767) plain).0 in
    packed_byte k some
plain_byte Pointer plain one = omega arith
plain_byte Offset plain one = omega arith
plain_byte (Array bs e) plain one = absurd (not_true one)
plain_byte (Structure ds) plain one = absurd (not_true one)
plain_byte d plain one = absurd (not_true plain)

-- a scalar of a whole, which is plain
record Suits (whole : List PlacedPart) (s : PlacedPart) : Type 0 where
  front : List PlacedPart
  back : List PlacedPart
  there : whole ≡ front ++ s ∷ back
  plain : is_plain 63 s.description ≡ true
  one : is_scalar s.description ≡ true

one_scalar : (whole front back : List PlacedPart) (d : Description) (at : ℕ) → is_plain 63 d ≡ true → is_scalar d ≡ true
    → whole ≡ front ++ (map (moved at) (scalars_at d) ++ back) → AllByRecursion (Suits whole) (record { offset = at; description = d } ∷ [])
one_scalar whole front back d at plain one split = (
  record {
    front = front;
    back = back;
    there = split ∙ ap (λ ss. front ++ (ss ++ back)) (scalar_moved at d one);
    plain = plain;
    one = one;
  },
  tt,
)

-- the scalars of elements, of each one what it has
in_elements : (whole ss : List PlacedPart) (f : ℕ → List PlacedPart) (stride : ℕ)
    → ((front back : List PlacedPart) (at : ℕ) → whole ≡ front ++ (map (moved at) ss ++ back) → AllByRecursion (Suits whole) (f at))
    → (k : ℕ) (front back : List PlacedPart) (at : ℕ) → whole ≡ front ++ (spread at stride k ss ++ back)
    → AllByRecursion (Suits whole) (flat_map f (counted_from at stride k))
in_elements whole ss f stride each zero front back at split = tt
in_elements whole ss f stride each (suc k) front back at split =
    let one = map (moved at) ss in
    let rest = spread (at + stride) stride k ss in
    let here : whole ≡ front ++ (one ++ (rest ++ back)) = split ∙ ap (λ xs. front ++ xs) (append_assoc one rest back) in
    all_after (Suits whole) (f at) (flat_map f (counted_from (at + stride) stride k)) (each front (rest ++ back) at here)
    (in_elements whole ss f stride each k (front ++ one) back (at + stride) (here ∙ sym (append_assoc front one (rest ++ back))))

-- those of an array that stands at a byte, and of the members of a structure
spread_from : (m at stride count : ℕ) (ss : List PlacedPart) → map (moved m) (spread at stride count ss) ≡ spread (m + at) stride count ss
spread_from m at stride zero ss = refl
spread_from m at stride (suc n) ss =
    let next : m + (at + stride) ≡ m + at + stride = omega arith in
    map-append (moved m) (map (moved at) ss) (spread (at + stride) stride n ss)
    ∙ ap (λ xs. xs ++ map (moved m) (spread (at + stride) stride n ss)) (moved_twice m at ss)
    ∙ ap (λ xs. map (moved (m + at)) ss ++ xs) (spread_from m (at + stride) stride n ss ∙ ap (λ k. spread k stride n ss) next)

spread_moved : (at stride count : ℕ) (ss : List PlacedPart) → map (moved at) (spread 0 stride count ss) ≡ spread at stride count ss
spread_moved at stride count ss = let same : at + 0 ≡ at = omega arith in spread_from at 0 stride count ss ∙ ap (λ k. spread k stride count ss) same

abbrev after_first : Description → Members → (ended : ℕ) → List PlacedPart
after_first d ds ended = scalars_after (next_multiple_of ended (alignment_of d) + size_of d) ds

members_split : (d : Description) (ds : Members) (front back : List PlacedPart) (at ended : ℕ)
    → front ++ (map (moved at) (scalars_after ended (MemberThen d ds)) ++ back)
    ≡ front ++ (map (moved (at + next_multiple_of ended (alignment_of d))) (scalars_at d) ++ (map (moved at) (after_first d ds ended) ++ back))
members_split d ds front back at ended =
    let start = next_multiple_of ended (alignment_of d) in
    let others = map (moved at) (after_first d ds ended) in
    ap (λ ss. front ++ (ss ++ back)) (map-append (moved at) (map (moved start) (scalars_at d)) (after_first d ds ended) ∙ ap (λ ss. ss ++ others) (moved_twice at start (scalars_at d)))
    ∙ ap (λ ss. front ++ ss) (append_assoc (map (moved (at + start)) (scalars_at d)) others back)

mutual
  item_scalars : (whole : List PlacedPart) (d : Description) (path : List ℕ) (front back : List PlacedPart) (at : ℕ)
      → is_plain 63 d ≡ true → whole ≡ front ++ (map (moved at) (scalars_at d) ++ back)
      → AllByRecursion (Suits whole) (scalars_on d path at)
  item_scalars whole (Array bs e) path front back at plain split =
      in_elements whole (scalars_at e) (λ k. scalars_on e path k) (stride_of e)
      (λ front back at split. item_scalars whole e path front back at (plain_element 63 bs e plain) split)
      (count_of bs) front back at (split ∙ ap (λ ss. front ++ (ss ++ back)) (spread_moved at (stride_of e) (count_of bs) (scalars_at e)))
  item_scalars whole (Structure ds) [] front back at plain split = tt
  item_scalars whole (Structure ds) (i ∷ path) front back at plain split =
      member_scalars whole ds i path front back at 0 (plain_members 63 ds plain) split
  item_scalars whole (FixedBinary p) path front back at plain split = one_scalar whole front back (FixedBinary p) at plain refl split
  item_scalars whole (Character k) path front back at plain split = one_scalar whole front back (Character k) at plain refl split
  item_scalars whole (Varying k) path front back at plain split = one_scalar whole front back (Varying k) at plain refl split
  item_scalars whole (Bit k) path front back at plain split = one_scalar whole front back (Bit k) at plain refl split
  item_scalars whole Pointer path front back at plain split = one_scalar whole front back Pointer at plain refl split
  item_scalars whole Offset path front back at plain split = one_scalar whole front back Offset at plain refl split
  item_scalars whole d path front back at plain split = absurd (not_true plain)

  member_scalars : (whole : List PlacedPart) (ds : Members) (i : ℕ) (path : List ℕ) (front back : List PlacedPart) (at ended : ℕ)
      → all_plain 63 ds ≡ true → whole ≡ front ++ (map (moved at) (scalars_after ended ds) ++ back)
      → AllByRecursion (Suits whole) (scalars_in_member ds i path at ended)
  member_scalars whole NoMembers i path front back at ended plain split = tt
  member_scalars whole (MemberThen d ds) zero path front back at ended plain split =
      item_scalars whole d path front (map (moved at) (after_first d ds ended) ++ back) (at + next_multiple_of ended (alignment_of d))
      (and_parts (is_plain 63 d) (all_plain 63 ds) plain).0 (split ∙ members_split d ds front back at ended)
  member_scalars whole (MemberThen d ds) (suc i) path front back at ended plain split =
      let own = map (moved (at + next_multiple_of ended (alignment_of d))) (scalars_at d) in
      member_scalars whole ds i path (front ++ own) back at (next_multiple_of ended (alignment_of d) + size_of d)
      (and_parts (is_plain 63 d) (all_plain 63 ds) plain).1
      (split ∙ members_split d ds front back at ended ∙ sym (append_assoc front own (map (moved at) (after_first d ds ended) ++ back)))

-- ---- initial values

each_fits : (d : Description) (ss : List PlacedPart) (vs : List Value) → AllByRecursion (Suits (scalars_at d)) ss
    → AllByRecursion (IsInitial d) (each_with ss vs)
each_fits d [] vs h = tt
each_fits d (s ∷ ss) [] h = tt
each_fits d (s ∷ ss) (v ∷ vs) h =
    let u = h.0 in
    let kept = kept_is s.description v u.plain u.one in
    let found : scalar_on s.offset (scalars_at d) ≡ Some s =
    ap (scalar_on s.offset) u.there
    ∙ on_itself 0 u.front u.back s (size_of d) (subst (λ xs. Rise 0 xs (size_of d)) u.there (rises d)) (plain_byte s.description u.plain u.one) in
    (((s, found, kept.0), kept.1), each_fits d ss vs h.1)

items_fit : (d : Description) (items : List InitialItem) → is_plain 63 d ≡ true
    → AllByRecursion (IsInitial d) (flat_map (initial_scalars d) items)
items_fit d [] plain = tt
items_fit d (i ∷ is) plain =
    let whole : map (moved 0) (scalars_at d) ++ [] ≡ scalars_at d = append-nil (map (moved 0) (scalars_at d)) ∙ not_moved (scalars_at d) in
    all_after (IsInitial d) (initial_scalars d i) (flat_map (initial_scalars d) is)
    (each_fits d (scalars_on d i.path 0) (values_written i.values)
    (item_scalars (scalars_at d) d i.path [] [] 0 plain (sym whole)))
    (items_fit d is plain)

-- an area has no scalars, so it has no initial values
area_items : (bytes : ℕ) (items : List InitialItem) → AllByRecursion (IsInitial (Area bytes)) (flat_map (initial_scalars (Area bytes)) items)
area_items bytes [] = tt
area_items bytes (i ∷ is) = area_items bytes is

items_stand : (d : Description) (items : List InitialItem) → may_stand 63 d ≡ true
    → AllByRecursion (IsInitial d) (flat_map (initial_scalars d) items)
items_stand (Area bytes) items h = area_items bytes items
items_stand d items h = items_fit d items h

-- ---- templates

template_fits : (d : Description) (items : List InitialItem) → is_stored 63 d ≡ true → IsDescription d
    → length (template_of d items).initial < word_limit → IsTemplate (template_of d items)
template_fits d items stored h few =
    let parts = and_parts (may_stand 63 d) (nat_le (size_of d) 1000000) stored in
    ((h, leb-true (size_of d) 1000000 parts.1), items_stand d items parts.0, few)

-- the members of a variable among symbols
abbrev pub AreSymbols : List Symbol → Type 0
AreSymbols ss = AllByRecursion (λ (s : Symbol). IsLimited s.kind) ss

module _ (is_such : StorageClass → Description → Bool) (stored : (class : StorageClass) (d : Description) → is_such class d ≡ true → is_stored 63 d ≡ true)
    (all : List Symbol) where
  one_fits : (class : StorageClass) (d : Description) (items : List InitialItem) (b : Bool) → is_such class d ≡ b → IsDescription d
      → length (template_of d items).initial < word_limit
      → AllByRecursion IsTemplate (if b then template_of d items ∷ [] else [])
  one_fits class d items true e h few = (template_fits d items (stored class d e) h few, tt)
  one_fits class d items false e h few = tt

  pub symbol_fits : (number : ℕ) (kind : SymbolKind) → IsLimited kind → HasFewInitial all number kind
      → AllByRecursion IsTemplate (template_at is_such all number kind)
  symbol_fits number (Variable d class scope values area) h few =
      one_fits class d (record { path = []; values = values } ∷ member_items number all) (is_such class d) refl h.0 (omega (arith, few.0, few.1))
  symbol_fits number (OpenParameter type slot area) h few = tt
  symbol_fits number (Member root path values area) h few = tt
  symbol_fits number (Label statement) h few = tt
  symbol_fits number (Procedure block returned area) h few = tt
  symbol_fits number (Entry parameters returned area) h few = tt
  symbol_fits number BuiltIn h few = tt

  pub templates_fit : (number : ℕ) (ss : List Symbol) → AreSymbols ss → HaveFewInitial all number ss
      → AllByRecursion IsTemplate (templates_from is_such all number ss)
  templates_fit number [] h few = tt
  templates_fit number (s ∷ ss) h few =
      all_after IsTemplate (template_at is_such all number s.kind) (templates_from is_such all (suc number) ss)
      (symbol_fits number s.kind h.0 few.0) (templates_fit (suc number) ss h.1 few.1)

-- ---- globals

scoped_fit : (scope : ScopeAttribute) (kind : VariableKind) (name : Name) (ts : List Template) → AllByRecursion IsTemplate ts
    → AllByRecursion IsGlobal (map (global_of scope kind name) ts)
scoped_fit scope kind name [] h = tt
scoped_fit scopes.Internal kind name (t ∷ ts) h = (h.0, scoped_fit scopes.Internal kind name ts h.1)
scoped_fit scopes.External kind name (t ∷ ts) h = (h.0, scoped_fit scopes.External kind name ts h.1)

module _ (all : List Symbol) where
  global_fits : (number : ℕ) (name : Name) (kind : SymbolKind) → IsLimited kind → HasFewInitial all number kind
      → AllByRecursion IsGlobal (global_with 63 all number name kind)
  global_fits number name (Variable d class scope values area) h few =
      scoped_fit scope (kind_of_class class) name (template_at (is_global 63) all number (Variable d class scope values area))
      (symbol_fits (is_global 63) (global_stored 63) all number (Variable d class scope values area) h few)
  global_fits number name (OpenParameter type slot area) h few = tt
  global_fits number name (Member root path values area) h few = tt
  global_fits number name (Label statement) h few = tt
  global_fits number name (Procedure block returned area) h few = tt
  global_fits number name (Entry parameters returned area) h few = ((h.0, all_taken parameters h.1, h.2), tt)
  global_fits number name BuiltIn h few = tt

  -- with their tokens
  abbrev IsPlacedGlobal : PlacedGlobal → Type 0
  IsPlacedGlobal p = IsGlobal p.global

  placed_fit : (at : ℕ) (gs : List Global) → AllByRecursion IsGlobal gs → AllByRecursion IsPlacedGlobal (map (placed at) gs)
  placed_fit at [] h = tt
  placed_fit at (g ∷ gs) h = (h.0, placed_fit at gs h.1)

  globals_fit_from : (number : ℕ) (ss : List Symbol) → AreSymbols ss → HaveFewInitial all number ss → AllByRecursion IsPlacedGlobal (globals_from 63 all number ss)
  globals_fit_from number [] h few = tt
  globals_fit_from number (s ∷ ss) h few =
      let own : List Global = global_with 63 all number s.identifier.name s.kind in
      all_after IsPlacedGlobal (map (placed s.identifier.at) own) (globals_from 63 all (suc number) ss)
      (placed_fit s.identifier.at own (global_fits number s.identifier.name s.kind h.0 few.0))
      (globals_fit_from (suc number) ss h.1 few.1)

abbrev AllPlaced : List PlacedGlobal → Type 0
AllPlaced ps = AllByRecursion (λ (p : PlacedGlobal). IsGlobal p.global) ps

-- of several blocks
abbrev pub AreBlocks : List (List Symbol) → Type 0
AreBlocks blocks = AllByRecursion (λ (ss : List Symbol). AreSymbols ss × HaveFewInitial ss 0 ss) blocks

blocks_fit : (blocks : List (List Symbol)) → AreBlocks blocks → AllPlaced (block_globals 63 blocks)
blocks_fit [] h = tt
blocks_fit (ss ∷ more) h =
    all_after (λ (p : PlacedGlobal). IsGlobal p.global) (globals_of 63 ss) (block_globals 63 more)
    (globals_fit_from ss 0 ss h.0.0 h.0.1) (blocks_fit more h.1)

unplaced : (ps : List PlacedGlobal) → AllPlaced ps → AllByRecursion IsGlobal (map (λ (p : PlacedGlobal). p.global) ps)
unplaced [] h = tt
unplaced (p ∷ ps) h = (h.0, unplaced ps h.1)

-- and in the order of the text
pub globals_fit : (blocks : List (List Symbol)) → AreBlocks blocks → AllByRecursion IsGlobal (all_globals 63 blocks)
globals_fit blocks h =
    let ps : List PlacedGlobal = block_globals 63 blocks in
    let qs : List PlacedGlobal = in_order (λ (p : PlacedGlobal). p.at) ps in
    unplaced qs
    (recursion_from_All (λ (p : PlacedGlobal). IsGlobal p.global) qs
    (All-permutation (λ (p : PlacedGlobal). IsGlobal p.global) ps qs (same_items (λ (p : PlacedGlobal). p.at) ps)
    (All-from_recursion (λ (p : PlacedGlobal). IsGlobal p.global) ps (blocks_fit blocks h))))
