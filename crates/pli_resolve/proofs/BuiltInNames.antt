-- A name that is declared BUILTIN without a fault is a built-in function's.
use Rattle.std.proofs.Common.{◌≡◌, ℕ, ◌+◌, ◌==◌, ◌&&◌, ◌||◌, Bool, true, false, not, if◌then◌else◌, refl, ap, sym, ◌∙◌, Option, Some, None, List, [], ◌∷◌, map, bit_and}
use Rattle.std.specs.List.{list_any}
use Rattle.std.proofs.lemmas.Bool.{eqb-true}
use Rattle.std.proofs.lemmas.Nat.{and_assoc}
use Rattle.pli_base.specs.Name.{Name}
use Rattle.pli_base.specs.Words.{same_name}
use Rattle.pli_base.specs.Declarations.{Item}
use Rattle.pli_base.specs.declared.code.Code.{Code}
use Rattle.pli_base.specs.declared.declaration.WrittenBounds.{WrittenBounds}
use Rattle.pli_base.specs.declared.code.Code.TheVariants.{AttributesConflict, AttributesMissing, BadPrecision, BadLength, BadBounds}
use Rattle.pli_map.specs.Description.{Description}
use Rattle.pli_map.specs.ParameterTypes.{ParameterType}
use Rattle.pli_declare.specs.Sets.{has, none_of, entry, built_in, outermost, set_of, each_once}
use Rattle.pli_declare.specs.Agreement.{is_parameter, may_be_open, set_agrees, agrees_as_entry, agrees_as_built_in, agrees_as_variable, is_missing, is_plain, is_at_level_one}
use Rattle.pli_declare.specs.Types.{number_of, is_bad_precision, is_bad_length, is_bad_star}
use Rattle.pli_declare.specs.Types as types
use Rattle.pli_declare.specs.Extents.{is_array, are_bad_bounds, are_bad_stars}
use Rattle.pli_declare.specs.Faults.{first_of, shape_fault, own_fault, attributes_fault, item_fault, entry_fault, parameters_in}
use Rattle.pli_declare.specs.Completed.{Variable, OfVariable, OfEntry, OfBuiltIn, open_type, variable_of, completed_of}
use Rattle.pli_declare.specs.declared.place.ItemPlace.{ItemPlace}
use Rattle.pli_declare.proofs.ShapeLemmas.{or_none, parts_none}
use Rattle.pli_declare.specs.Places.{is_built_in}
use Rattle.pli_declare.specs.BuiltIns.{built_in_functions, function_among, function_named}
use Rattle.pli_declare.specs.declared.built_in.BuiltInFunction.{BuiltInFunction}

agrees : (a b c d e : Bool) (t u v w x : Code) → first_of ((not a, t) ∷ (b, u) ∷ (c, v) ∷ (d, w) ∷ (e, x) ∷ []) ≡ None → a ≡ true
agrees false b c d e t u v w x h = cc
agrees true b c d e t u v w x h = refl

right_true : (a b : Bool) → (a && b) ≡ true → b ≡ true
right_true true b h = h
right_true false b h = cc

middle_true : (a b c : Bool) → (a && b && c) ≡ true → b ≡ true
middle_true true true c h = refl
middle_true true false c h = cc
middle_true false b c h = cc

first_true : (a b : Bool) → (a && b) ≡ true → a ≡ true
first_true true b h = refl
first_true false b h = cc

second_of : (a b c : Bool) → (a || b || c) ≡ true → a ≡ false → c ≡ false → b ≡ true
second_of true b c h k l = cc
second_of false true c h k l = refl
second_of false false c h k l = cc

no_middle : (a b c : Bool) → b ≡ false → (a && b && c) ≡ false
no_middle true true c h = cc
no_middle true false c h = refl
no_middle false b c h = refl

not_true : (b : Bool) → (b ≡ true → ⊥) → b ≡ false
not_true true h = absurd (h refl)
not_true false h = refl

built_in_left : (e b : Bool) (ps : List ParameterType) (r : Option Description) (w : Variable)
    → (if e then OfEntry ps r else if b then OfBuiltIn else OfVariable w) ≡ OfBuiltIn → (e ≡ false) × (b ≡ true)
built_in_left true b ps r w h = cc
built_in_left false true ps r w h = (refl, refl)
built_in_left false false ps r w h = cc

-- neither ENTRY nor BUILTIN: not BUILTIN
not_among : (s attribute : ℕ) → bit_and 98304 attribute ≡ attribute → (0 == attribute) ≡ false
    → none_of s 98304 ≡ true → has s attribute ≡ true → ⊥
not_among s attribute within some n h =
    let none : bit_and s 98304 ≡ 0 = eqb-true (bit_and s 98304) 0 n in
    let it : bit_and s attribute ≡ 0 =
    ap (bit_and s) (sym within) ∙ sym (and_assoc attribute s 98304) ∙ ap (λ m. bit_and m attribute) none in
    let other : false ≡ true = sym some ∙ ap (λ m. m == attribute) (sym it) ∙ h in
    cc

not_beside : (s : ℕ) → has s 32768 ≡ true → none_of s 98304 ≡ true → ⊥
not_beside s h n = not_among s 32768 refl refl n h

leading : (a b c d e f g h : Bool) → (a && b && c && d && e && f && g && h) ≡ true → a ≡ true
leading true b c d e f g h k = refl
leading false b c d e f g h k = cc

-- the attributes of an item without a fault agree
pub agreed : (p : ItemPlace) (i : Item) → item_fault p i ≡ None → set_agrees p (is_array i.dimensions) (set_of (map outermost i.attributes)) ≡ true
unfolding item_fault own_fault shape_fault
agreed p i h =
    let attributes = map outermost i.attributes in
    let s = set_of attributes in
    let n = number_of attributes in
    let own = (parts_none p i (or_none (attributes_fault p i) (entry_fault (parameters_in i.attributes)) h).0).0 in
    right_true (each_once 0 attributes) (set_agrees p (is_array i.dimensions) s)
    (agrees (each_once 0 attributes && set_agrees p (is_array i.dimensions) s) (is_missing p s) (is_bad_precision s n) (is_bad_length s n || is_bad_star (may_be_open p) (types.has_star attributes) s)
    (are_bad_bounds i.dimensions || are_bad_stars (may_be_open p) i.dimensions)
    AttributesConflict AttributesMissing BadPrecision BadLength BadBounds (or_none _ _ own).0)

-- the name is one
pub named_so : (p : ItemPlace) (i : Item) → item_fault p i ≡ None → completed_of p i ≡ OfBuiltIn → p.built_in_name ≡ true
unfolding completed_of set_agrees
named_so p i h is =
    let s = set_of (map outermost i.attributes) in
    let array = is_array i.dimensions in
    let two = built_in_left (has s entry) (has s built_in) _ _ (variable_of p i) is in
    let whole = agreed p i h in
    let no_entry = no_middle (is_plain p array) (has s entry) _ two.0 in
    let no_variable = not_true (agrees_as_variable p s) (λ v. not_beside s two.1 (leading (none_of s 98304) _ _ _ _ _ _ _ v)) in
    middle_true (is_plain p array) p.built_in_name (s == built_in)
    (second_of (agrees_as_entry p array s) (agrees_as_built_in p array s) (agrees_as_variable p s) whole no_entry no_variable)

-- an item with members is a variable
not_plain : (a b c : Bool) → b ≡ true → (a && not b && not c) ≡ false
not_plain true true c h = refl
not_plain true false c h = cc
not_plain false b c h = refl

no_front : (a b c : Bool) → a ≡ false → (a && b && c) ≡ false
no_front true b c h = cc
no_front false b c h = refl

third_of : (a b c : Bool) → (a || b || c) ≡ true → a ≡ false → b ≡ false → c ≡ true
third_of true b c h k l = cc
third_of false true c h k l = cc
third_of false false c h k l = h

no_entry_beside : (s : ℕ) → none_of s 98304 ≡ true → has s 65536 ≡ true → ⊥
no_entry_beside s n h = not_among s 65536 refl refl n h

variable_left : (e b : Bool) (ps : List ParameterType) (r : Option Description) (w : Variable) → e ≡ false → b ≡ false
    → (if e then OfEntry ps r else if b then OfBuiltIn else OfVariable w) ≡ OfVariable w
variable_left true b ps r w h k = cc
variable_left false true ps r w h k = cc
variable_left false false ps r w h k = refl

not_open_with : (parameter members : Bool) (dimensions : List WrittenBounds) (n : ℕ) (o : Option ℕ) (star : Bool) → members ≡ true → open_type (parameter && not members) dimensions n o star ≡ None
not_open_with true true dimensions n o star h = refl
not_open_with false true dimensions n o star h = refl
not_open_with parameter false dimensions n o star h = cc

not_open_whole : (p : ItemPlace) (i : Item) → p.has_members ≡ true → (variable_of p i).taken ≡ None
unfolding variable_of
not_open_whole p i many =
    let attributes = map outermost i.attributes in
    not_open_with (is_parameter p.position) p.has_members i.dimensions (set_of attributes) (number_of attributes) (types.has_star attributes) many

pub with_members : (p : ItemPlace) (i : Item) → item_fault p i ≡ None → p.has_members ≡ true
    → (v : Variable) × (completed_of p i ≡ OfVariable v) × (none_of (set_of (map outermost i.attributes)) (entry + built_in) ≡ true) × (v.taken ≡ None)
unfolding completed_of set_agrees
with_members p i h many =
    let s = set_of (map outermost i.attributes) in
    let array = is_array i.dimensions in
    let whole = agreed p i h in
    let plain = not_plain (is_at_level_one p.position) p.has_members array many in
    let variable =
    third_of (agrees_as_entry p array s) (agrees_as_built_in p array s) (agrees_as_variable p s) whole
    (no_front (is_plain p array) (has s entry) _ plain) (no_front (is_plain p array) p.built_in_name (s == built_in) plain) in
    let none = leading (none_of s 98304) _ _ _ _ _ _ _ variable in (
      variable_of p i,
      variable_left (has s entry) (has s built_in) _ _ (variable_of p i) (not_true (has s entry) (no_entry_beside s none)) (not_true (has s built_in) (λ b. not_beside s b none)),
      none,
      not_open_whole p i many,
    )

-- an item that is a variable agrees as one
last_false : (a b c : Bool) → c ≡ false → (a && b && c) ≡ false
last_false true true c h = h
last_false true false c h = refl
last_false false b c h = refl

pub agrees_so : (p : ItemPlace) (i : Item) → item_fault p i ≡ None → none_of (set_of (map outermost i.attributes)) (entry + built_in) ≡ true
    → agrees_as_variable p (set_of (map outermost i.attributes)) ≡ true
unfolding set_agrees
agrees_so p i h none =
    let s = set_of (map outermost i.attributes) in
    let array = is_array i.dimensions in
    let alone : (s == built_in) ≡ false =
    not_true (s == built_in) (λ e. not_beside s (ap (λ m. has m built_in) (eqb-true s built_in e)) none) in
    third_of (agrees_as_entry p array s) (agrees_as_built_in p array s) (agrees_as_variable p s) (agreed p i h)
    (no_middle (is_plain p array) (has s entry) _ (not_true (has s entry) (no_entry_beside s none)))
    (last_false (is_plain p array) p.built_in_name (s == built_in) alone)

pub variable_so : (p : ItemPlace) (i : Item) → none_of (set_of (map outermost i.attributes)) (entry + built_in) ≡ true → completed_of p i ≡ OfVariable (variable_of p i)
unfolding completed_of
variable_so p i none =
    let s = set_of (map outermost i.attributes) in
    variable_left (has s entry) (has s built_in) _ _ (variable_of p i) (not_true (has s entry) (no_entry_beside s none)) (not_true (has s built_in) (λ b. not_beside s b none))

-- and has a function
abbrev name_of : Name × BuiltInFunction → Name
name_of f = f.0

among : (name : Name) (fs : List (Name × BuiltInFunction)) → list_any (same_name name) (map name_of fs) ≡ true → (f : BuiltInFunction) × (function_among fs name ≡ Some f)
among name [] h = cc
among name (f ∷ fs) h = by (same_name name f.0) refl (λ k. among name fs k)
  where
    by : (b : Bool) → same_name name f.0 ≡ b → (list_any (same_name name) (map name_of fs) ≡ true → (g : BuiltInFunction) × (function_among fs name ≡ Some g))
        → (g : BuiltInFunction) × ((if same_name name f.0 then Some f.1 else function_among fs name) ≡ Some g)
    by true e more = (f.1, ap (λ (b : Bool). if b then Some f.1 else function_among fs name) e)
    by false e more =
        let rest : list_any (same_name name) (map name_of fs) ≡ true = ap (λ b. b || list_any (same_name name) (map name_of fs)) (sym e) ∙ h in
        let g = more rest in
        (g.0, ap (λ (b : Bool). if b then Some f.1 else function_among fs name) e ∙ g.1)

pub has_function : (name : Name) → is_built_in name ≡ true → (f : BuiltInFunction) × (function_named name ≡ Some f)
unfolding is_built_in function_named
has_function name h = among name built_in_functions h
