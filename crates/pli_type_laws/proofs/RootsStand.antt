-- A variable's root leads to its type: a block's slots are its parameters and then what its AUTOMATIC
-- variables are made from, in the order of the symbols; globals stand in the order of the text.
use Rattle.std.specs.Prelude.{◌≡◌, ℕ, zero, suc, ◌+◌, ◌≤◌, Bool, true, false, ◌&&◌, nat_eq, Option, Some, None, List, [], ◌∷◌, ◌++◌}
use Rattle.std.specs.Prelude.{length, map, replicate, take, get_or, slice_get, if◌then◌else◌, refl}
use Rattle.std.proofs.Common.{sym, ◌∙◌, ap, subst, arith, length-append}
use Rattle.std.proofs.lemmas.List.{map-append}
use Rattle.std.proofs.lemmas.Bool.{and_parts, eqb-true}
use Rattle.std.proofs.lemmas.Option.{same_Some, none-some}
use Rattle.pli_base.specs.Name.{Name}
use Rattle.pli_declare.specs.declared.completed.ScopeAttribute.{ScopeAttribute}
use Rattle.pli_declare.specs.declared.completed.ScopeAttribute.TheVariants as scopes
use Rattle.pli_map.specs.Description.{Description}
use Rattle.pli_map.specs.ParameterTypes.{ParameterType, Stated}
use Rattle.pli_declare.specs.ResolvedUnits.{ResolvedUnit, all_symbols}
use Rattle.pli_declare.specs.Symbols.{Symbol, SymbolKind, Variable, OpenParameter, Member, Label, Procedure, Entry, BuiltIn}
use Rattle.pli_declare.specs.declared.symbol.StorageClass.{StorageClass}
use Rattle.pli_declare.specs.declared.symbol.StorageClass.TheVariants as classes
use Rattle.pli_declare.specs.declared.symbol.SymbolKey.{SymbolKey}
use Rattle.pli_type_rules.specs.InitialScalars.{template_of}
use Rattle.pli_type_rules.specs.NamedUnits.{is_stored, is_automatic, is_global, is_based, is_passed_class, kind_of_class, one_such, such_before, one_global, globals_before, globals_in}
use Rattle.pli_type_rules.specs.NamedUnits.{parameter_numbers, type_in, parameters_of, outward_to, in_slot, is_parameter, is_open_parameter}
use Rattle.pli_type_rules.specs.NamedUnits.{root_of, open_root, member_items, template_at, templates_from, templates_of}
use Rattle.pli_type_rules.specs.NamedUnits.{block_symbols, global_number, global_of, global_with, globals_from, globals_of, all_globals}
use Rattle.pli_type_rules.specs.NamedUnits.{PlacedGlobal, placed, global_at, global_tokens, all_tokens, block_globals}
use Rattle.pli_type_rules.specs.TextOrder.{in_order, text_places}
use Rattle.pli_type_rules.proofs.TextNumbers.{stands_in_text}
use Rattle.pli_type_laws.proofs.PlainDescriptions.{valued_stored}
use Rattle.pli_type_tree.specs.Templates.{Template}
use Rattle.pli_program.specs.declared.kind.VariableKind.{VariableKind}
use Rattle.pli_program.specs.declared.kind.VariableKind.TheVariants.{Static, Controlled}
use Rattle.pli_type_tree.specs.Globals.{described_as, signature_of}
use Rattle.pli_type_tree.specs.TypedTree.{Global, EntryPoint, Root, InSlot, OfProgram, NewestOf, Located}

abbrev pub descriptions : List Template → List ParameterType
descriptions ts = map (λ t. Stated t.description) ts

-- ---- the description of a symbol's template stands after those of the symbols before it

one_passed : {A : Type 0} (x : A) (xs : List A) (j : ℕ) → slice_get (x ∷ xs) (1 + j) ≡ slice_get xs j
one_passed x xs j =
    let next : 1 + j ≡ suc j = omega arith in
    ap (slice_get (x ∷ xs)) next

none_passed : {A : Type 0} (xs : List A) (j : ℕ) → slice_get xs (0 + j) ≡ slice_get xs j
none_passed xs j =
    let same : 0 + j ≡ j = omega arith in
    ap (slice_get xs) same

passed : (b : Bool) (t : Template) (rest : List Template) (j : ℕ)
    → slice_get (descriptions ((if b then t ∷ [] else []) ++ rest)) ((if b then 1 else 0) + j) ≡ slice_get (descriptions rest) j
passed true t rest j = one_passed (Stated t.description) (descriptions rest) j
passed false t rest j = none_passed (descriptions rest) j

not_true : false ≡ true → ⊥
not_true e = absurd (cc)

module _ (is_such : StorageClass → Description → Bool) (all : List Symbol) where
  symbol_passed : (number : ℕ) (kind : SymbolKind) (rest : List Template) (j : ℕ)
      → slice_get (descriptions (template_at is_such all number kind ++ rest)) (one_such is_such kind + j) ≡ slice_get (descriptions rest) j
  symbol_passed number (Variable d class scope initial area) rest j = passed (is_such class d) (template_of d (record { path = []; values = initial } ∷ member_items number all)) rest j
  symbol_passed number (OpenParameter type slot area) rest j = none_passed (descriptions rest) j
  symbol_passed number (Member root path initial area) rest j = none_passed (descriptions rest) j
  symbol_passed number (Label statement) rest j = none_passed (descriptions rest) j
  symbol_passed number (Procedure block returned area) rest j = none_passed (descriptions rest) j
  symbol_passed number (Entry parameters returned area) rest j = none_passed (descriptions rest) j
  symbol_passed number BuiltIn rest j = none_passed (descriptions rest) j

  -- a symbol is such a variable of this description
  abbrev IsSuch : Description → SymbolKind → Type 0
  IsSuch d (Variable description class scope initial area) = (description ≡ d) × (is_such class description ≡ true)
  IsSuch d kind = ⊥

  here : (number : ℕ) (d : Description) (kind : SymbolKind) (rest : List Template) → IsSuch d kind
      → slice_get (descriptions (template_at is_such all number kind ++ rest)) 0 ≡ Some (Stated d)
  here number d (Variable description class scope initial area) rest h = rw h.1 (ap (λ x. Some (Stated x)) h.0)
  here number d (OpenParameter type slot area) rest h = absurd h
  here number d (Member root path initial area) rest h = absurd h
  here number d (Label statement) rest h = absurd h
  here number d (Procedure block returned area) rest h = absurd h
  here number d (Entry parameters returned area) rest h = absurd h
  here number d BuiltIn rest h = absurd h

  found : (ss : List Symbol) (number k : ℕ) (s : Symbol) (d : Description) → slice_get ss k ≡ Some s → IsSuch d s.kind
      → slice_get (descriptions (templates_from is_such all number ss)) (such_before is_such ss k) ≡ Some (Stated d)
  found [] number k s d e h = absurd (none-some s e)
  found (t ∷ ss) number zero s d e h =
      here number d t.kind (templates_from is_such all (suc number) ss)
      (subst (λ (r : Symbol). IsSuch d r.kind) (sym (same_Some _ s e)) h)
  found (t ∷ ss) number (suc k) s d e h =
      symbol_passed number t.kind (templates_from is_such all (suc number) ss) (such_before is_such ss k)
      ∙ found ss (suc number) k s d e h

-- ---- lists

length_one : {A : Type 0} (x : A) (xs : List A) → length (x ∷ xs) ≡ suc (length xs)
length_one x xs = omega arith

in_front : {A : Type 0} (xs ys : List A) (j : ℕ) (x : A) → slice_get xs j ≡ Some x → slice_get (xs ++ ys) j ≡ Some x
in_front [] ys j x e = absurd (none-some x e)
in_front (y ∷ xs) ys zero x e = e
in_front (y ∷ xs) ys (suc j) x e = in_front xs ys j x e

after_front : {A : Type 0} (xs ys : List A) (j k : ℕ) → k ≡ length xs + j → slice_get (xs ++ ys) k ≡ slice_get ys j
after_front [] ys j k e = ap (slice_get ys) (omega (arith, e))
after_front (x ∷ xs) ys j zero e = absurd (omega (arith, e, length_one x xs))
after_front (x ∷ xs) ys j (suc k) e = after_front xs ys j k (omega (arith, e, length_one x xs))

mapped : {A B : Type 0} (f : A → B) (xs : List A) (j : ℕ) (x : A) → slice_get xs j ≡ Some x → slice_get (map f xs) j ≡ Some (f x)
mapped f [] j x e = absurd (none-some x e)
mapped f (y ∷ xs) zero x e = ap Some (ap f (same_Some y x e))
mapped f (y ∷ xs) (suc j) x e = mapped f xs j x e

length_mapped : {A B : Type 0} (f : A → B) (xs : List A) → length (map f xs) ≡ length xs
length_mapped f [] = refl
length_mapped f (x ∷ xs) = ap suc (length_mapped f xs)

-- ---- globals, block after block

if_counted : {A : Type 0} (f : Template → A) (b : Bool) (t : Template) → length (map f (if b then t ∷ [] else [])) ≡ (if b then 1 else 0)
if_counted f true t = length_one (f t) []
if_counted f false t = refl

global_counted : (n : ℕ) (all : List Symbol) (number : ℕ) (name : Name) (kind : SymbolKind)
    → length (global_with n all number name kind) ≡ one_global n kind
global_counted n all number name (Variable d class scope initial area) =
    if_counted (global_of scope (kind_of_class class) name) (is_global n class d)
    (template_of d (record { path = []; values = initial } ∷ member_items number all))
global_counted n all number name (Entry parameters returned area) = length_one (EntryPoint name (record { parameters = parameters; result = returned })) []
global_counted n all number name (OpenParameter type slot area) = refl
global_counted n all number name (Member root path initial area) = refl
global_counted n all number name (Label statement) = refl
global_counted n all number name (Procedure block returned area) = refl
global_counted n all number name BuiltIn = refl

placed_counted : (n : ℕ) (all : List Symbol) (number : ℕ) (s : Symbol) → length (global_at n all number s) ≡ one_global n s.kind
placed_counted n all number s =
    length_mapped (placed s.identifier.at) (global_with n all number s.identifier.name s.kind)
    ∙ global_counted n all number s.identifier.name s.kind

module _ (n : ℕ) (all : List Symbol) where
  globals_counted : (number : ℕ) (ss : List Symbol) → length (globals_from n all number ss) ≡ globals_before n ss (length ss)
  globals_counted number [] = refl
  globals_counted number (s ∷ ss) =
      omega (
        arith,
        length-append (global_at n all number s) (globals_from n all (suc number) ss),
        placed_counted n all number s,
        globals_counted (suc number) ss,
      )

  -- the global that a symbol is stands where it is counted
  global_found : (ss : List Symbol) (from k number : ℕ) (s : Symbol) (g : PlacedGlobal) → from + k ≡ number → slice_get ss k ≡ Some s
      → global_at n all number s ≡ g ∷ [] → slice_get (globals_from n all from ss) (globals_before n ss k) ≡ Some g
  global_found [] from k number s g e at is = absurd (none-some s at)
  global_found (t ∷ ss) from zero number s g e at is =
      let here : from ≡ number = omega (arith, e) in
      ap (λ gs. slice_get (gs ++ globals_from n all (suc from) ss) 0)
      (ap (λ k. global_at n all k t) here ∙ ap (global_at n all number) (same_Some t s at) ∙ is)
  global_found (t ∷ ss) from (suc k) number s g e at is =
      after_front (global_at n all from t) (globals_from n all (suc from) ss) (globals_before n ss k) _
      (omega (arith, placed_counted n all from t))
      ∙ global_found ss (suc from) k number s g (omega (arith, e)) at is

module _ (n : ℕ) where
  found_in_blocks : (all : List (List Symbol)) (k number : ℕ) (s : Symbol) (g : PlacedGlobal)
      → slice_get (get_or all k []) number ≡ Some s → global_at n (get_or all k []) number s ≡ g ∷ []
      → slice_get (block_globals n all) (globals_in n (take k all) + globals_before n (get_or all k []) number) ≡ Some g
  found_in_blocks [] k number s g e is = absurd (none-some s e)
  found_in_blocks (ss ∷ more) zero number s g e is =
      in_front (globals_of n ss) (block_globals n more) (0 + globals_before n ss number) g
      (none_passed (globals_of n ss) (globals_before n ss number)
      ∙ global_found n ss ss 0 number number s g (omega arith) e is)
  found_in_blocks (ss ∷ more) (suc k) number s g e is =
      let before : ℕ = globals_in n (take k more) + globals_before n (get_or more k []) number in
      after_front (globals_of n ss) (block_globals n more) before _ (omega (arith, globals_counted n ss 0 ss))
      ∙ found_in_blocks more k number s g e is

-- ---- globals in the order of the text

abbrev token : PlacedGlobal → ℕ
token p = p.at

same_tokens : (at : ℕ) (gs : List Global) → replicate (length gs) at ≡ map token (map (placed at) gs)
same_tokens at [] = refl
same_tokens at (g ∷ gs) = ap (λ ts. at ∷ ts) (same_tokens at gs)

module _ (n : ℕ) where
  tokens_from : (all : List Symbol) (number : ℕ) (ss : List Symbol) → global_tokens n ss ≡ map token (globals_from n all number ss)
  tokens_from all number [] = refl
  tokens_from all number (s ∷ ss) =
      let at : ℕ = s.identifier.at in
      let own : List Global = global_with n all number s.identifier.name s.kind in
      ap (λ k. replicate k at ++ global_tokens n ss) (sym (global_counted n all number s.identifier.name s.kind))
      ∙ ap (λ ts. ts ++ global_tokens n ss) (same_tokens at own)
      ∙ ap (λ ts. map token (map (placed at) own) ++ ts) (tokens_from all (suc number) ss)
      ∙ sym (map-append token (map (placed at) own) (globals_from n all (suc number) ss))

  tokens_in_blocks : (all : List (List Symbol)) → all_tokens n all ≡ map token (block_globals n all)
  tokens_in_blocks [] = refl
  tokens_in_blocks (ss ∷ more) =
      ap (λ ts. ts ++ all_tokens n more) (tokens_from ss 0 ss)
      ∙ ap (λ ts. map token (globals_of n ss) ++ ts) (tokens_in_blocks more)
      ∙ sym (map-append token (globals_of n ss) (block_globals n more))

  -- the global that a symbol is stands at its place in the order of the text
  pub found_in_text : (all : List (List Symbol)) (k number : ℕ) (s : Symbol) (g : Global)
      → slice_get (get_or all k []) number ≡ Some s
      → global_with n (get_or all k []) number s.identifier.name s.kind ≡ g ∷ []
      → slice_get (all_globals n all)
      (get_or (text_places (all_tokens n all)) (globals_in n (take k all) + globals_before n (get_or all k []) number) 0)
      ≡ Some g
  found_in_text all k number s g e is =
      let inner : ℕ = globals_in n (take k all) + globals_before n (get_or all k []) number in
      let p : PlacedGlobal = placed s.identifier.at g in
      let found : slice_get (block_globals n all) inner ≡ Some p =
      found_in_blocks n all k number s p e (ap (map (placed s.identifier.at)) is) in
      mapped (λ (q : PlacedGlobal). q.global) (in_order token (block_globals n all))
      (get_or (text_places (all_tokens n all)) inner 0) p
      (ap (λ ts. slice_get (in_order token (block_globals n all)) (get_or (text_places ts) inner 0)) (tokens_in_blocks all)
      ∙ stands_in_text token (block_globals n all) inner p found)

-- a variable, by its scope
global_described : (scope : ScopeAttribute) (kind : VariableKind) (name : Name) (t : Template) → described_as kind (Some (global_of scope kind name t)) ≡ Some t.description
global_described scopes.Internal Static name t = refl
global_described scopes.Internal Controlled name t = refl
global_described scopes.External Static name t = refl
global_described scopes.External Controlled name t = refl

-- ---- where a variable begins

-- a symbol is a variable of this class and description
abbrev pub IsOf : (class : StorageClass) (d : Description) → SymbolKind → Type 0
IsOf class d (Variable description c scope initial area) = (description ≡ d) × (c ≡ class)
IsOf class d kind = ⊥

such : (is_such : StorageClass → Description → Bool) (class : StorageClass) (d : Description) (kind : SymbolKind) → IsOf class d kind
    → is_such class d ≡ true → IsSuch is_such [] d kind
such is_such class d (Variable description c scope initial area) h e = (h.0, ap (λ x. is_such c x) h.0 ∙ ap (λ x. is_such x d) h.1 ∙ e)
such is_such class d (OpenParameter type slot area) h e = absurd h
such is_such class d (Member root path initial area) h e = absurd h
such is_such class d (Label statement) h e = absurd h
such is_such class d (Procedure block returned area) h e = absurd h
such is_such class d (Entry parameters returned area) h e = absurd h
such is_such class d BuiltIn h e = absurd h

-- a STATIC or CONTROLLED variable is a global of its kind and description
abbrev IsGlobal : (n : ℕ) (all : List Symbol) (number : ℕ) (name : Name) (kind : SymbolKind) (class : StorageClass) (d : Description) → Type 0
IsGlobal n all number name kind class d =
    (g : Global) × (global_with n all number name kind ≡ g ∷ []) × (described_as (kind_of_class class) (Some g) ≡ Some d)

one_global_of : (n : ℕ) (all : List Symbol) (number : ℕ) (name : Name) (class : StorageClass) (d : Description) (kind : SymbolKind) → IsOf class d kind
    → is_global n class d ≡ true → IsGlobal n all number name kind class d
one_global_of n all number name class d (Variable description c scope initial area) h e =
    let t : Template = template_of description (record { path = []; values = initial } ∷ member_items number all) in
    let is : is_global n c description ≡ true =
    ap (λ x. is_global n c x) h.0 ∙ ap (λ x. is_global n x d) h.1 ∙ e in
    let g : Global = global_of scope (kind_of_class c) name t in (
      g,
      ap (λ b. map (global_of scope (kind_of_class c) name) (if b then t ∷ [] else [])) is,
      ap (λ x. described_as (kind_of_class x) (Some g)) (sym h.1) ∙ global_described scope (kind_of_class c) name t ∙ ap Some h.0,
    )
one_global_of n all number name class d (OpenParameter type slot area) h e = absurd h
one_global_of n all number name class d (Member root path initial area) h e = absurd h
one_global_of n all number name class d (Label statement) h e = absurd h
one_global_of n all number name class d (Procedure block returned area) h e = absurd h
one_global_of n all number name class d (Entry parameters returned area) h e = absurd h
one_global_of n all number name class d BuiltIn h e = absurd h

described : (class : StorageClass) (d : Description) (s : Symbol) (kind : SymbolKind) → s.kind ≡ kind → IsOf class d kind
    → type_in (Some s) ≡ Stated d
described class d s (Variable description c scope initial area) e h = rw e (ap Stated h.0)
described class d s (OpenParameter type slot area) e h = absurd h
described class d s (Member root path initial area) e h = absurd h
described class d s (Label statement) e h = absurd h
described class d s (Procedure block returned area) e h = absurd h
described class d s (Entry parameters returned area) e h = absurd h
described class d s BuiltIn e h = absurd h

-- a parameter in which a `*` stands is of its type
open_described : (s : Symbol) (type : ParameterType) (slot : ℕ) (area : Option SymbolKey) → s.kind ≡ OpenParameter type slot area
    → type_in (Some s) ≡ type
open_described s type slot area e = rw e refl

parameter_there : (numbers : List ℕ) (slot number : ℕ) (o : Option ℕ) → slice_get numbers slot ≡ o
    → is_parameter numbers slot number ≡ true → slice_get numbers slot ≡ Some number
parameter_there numbers slot number None e h = absurd (not_true (sym (none_there e) ∙ h))
  where
    none_there : slice_get numbers slot ≡ None → is_parameter numbers slot number ≡ false
    none_there e = rw e refl
parameter_there numbers slot number (Some m) e h = e ∙ ap Some (eqb-true m number (sym (one_there e) ∙ h))
  where
    one_there : slice_get numbers slot ≡ Some m → is_parameter numbers slot number ≡ nat_eq m number
    one_there e = rw e refl

pub automatic_stored : (n : ℕ) (class : StorageClass) (d : Description) → is_automatic n class d ≡ true → is_stored n d ≡ true
automatic_stored n classes.Automatic d h = h
automatic_stored n class d h = absurd (not_true h)

pub global_stored : (n : ℕ) (class : StorageClass) (d : Description) → is_global n class d ≡ true → is_stored n d ≡ true
global_stored n classes.Static d h = h
global_stored n classes.Controlled d h = h
global_stored n class d h = absurd (not_true h)

pub based_stored : (n : ℕ) (class : StorageClass) (d : Description) → is_based n class d ≡ true → is_stored n d ≡ true
based_stored n (classes.Based locator) d h = valued_stored n d h
based_stored n class d h = absurd (not_true h)

module _ (n : ℕ) (r : ResolvedUnit) (blocks : List ℕ) where
  -- the slots of a block
  abbrev pub slots : (block : ℕ) → List ParameterType
  slots block = parameters_of r block ++ descriptions (templates_of (is_automatic n) (block_symbols r block))

  -- a root leads to this type; a slot that is no parameter's stands after those that are
  abbrev pub Standing : (is_parameter : Bool) → Root → ParameterType → Type 0
  Standing is_parameter (InSlot outward slot) type =
      (block : ℕ) × (outward_to blocks block ≡ Some outward) × (slice_get (slots block) slot ≡ Some type)
      × (is_parameter ≡ false → length (parameters_of r block) ≤ slot)
  Standing is_parameter (OfProgram number) type =
      (d : Description) × (type ≡ Stated d) × (described_as Static (slice_get (all_globals n (all_symbols r)) number) ≡ Some d)
  Standing is_parameter (NewestOf number) type =
      (d : Description) × (type ≡ Stated d) × (described_as Controlled (slice_get (all_globals n (all_symbols r)) number) ≡ Some d)
  Standing is_parameter (Located locator whole) type = ⊥

  slot_stands : (is_parameter : Bool) (o : Option ℕ) (block slot : ℕ) (type : ParameterType) (root : Root) → outward_to blocks block ≡ o
      → slice_get (slots block) slot ≡ Some type → (is_parameter ≡ false → length (parameters_of r block) ≤ slot) → in_slot o slot ≡ Some root
      → Standing is_parameter root type
  slot_stands is_parameter None block slot type root at there own e = absurd (none-some root e)
  slot_stands is_parameter (Some x) block slot type root at there own e =
      subst (λ q. Standing is_parameter q type) (same_Some (InSlot x slot) root e) (block, at, there, own)

  -- the parameter of a number among the symbols of a block stands in its slot
  passed_stands : (key : SymbolKey) (slot : ℕ) (type : ParameterType) (root : Root) (s : Symbol)
      → slice_get (block_symbols r key.block) key.number ≡ Some s → type_in (Some s) ≡ type
      → is_parameter (parameter_numbers r key.block) slot key.number ≡ true
      → in_slot (outward_to blocks key.block) slot ≡ Some root → Standing true root type
  passed_stands key slot type root s there is own e =
      let number : slice_get (parameter_numbers r key.block) slot ≡ Some key.number =
      parameter_there (parameter_numbers r key.block) slot key.number _ refl own in
      slot_stands true (outward_to blocks key.block) key.block slot type root refl
      (in_front (parameters_of r key.block) _ slot type
      (mapped (λ number. type_in (slice_get (block_symbols r key.block) number)) (parameter_numbers r key.block) slot key.number number
      ∙ ap (λ o. Some (type_in o)) there ∙ ap Some is))
      (λ own. absurd (not_true (sym own))) e

  -- so does one in which a `*` stands
  pub open_begins : (key : SymbolKey) (type : ParameterType) (slot : ℕ) (area : Option SymbolKey) (root : Root) (s : Symbol)
      → slice_get (block_symbols r key.block) key.number ≡ Some s → s.kind ≡ OpenParameter type slot area
      → open_root n r blocks key slot type ≡ Some root → Standing true root type × (is_open_parameter n type ≡ true)
  open_begins key type slot area root s there is e = by _ refl e
    where
      by : (b : Bool) → (is_open_parameter n type && is_parameter (parameter_numbers r key.block) slot key.number) ≡ b
          → (if b then in_slot (outward_to blocks key.block) slot else None) ≡ Some root
          → Standing true root type × (is_open_parameter n type ≡ true)
      by true both e =
          let parts : (is_open_parameter n type ≡ true) × (is_parameter (parameter_numbers r key.block) slot key.number ≡ true) =
          and_parts _ _ both in
          (passed_stands key slot type root s there (open_described s type slot area is) parts.1 e, parts.0)
      by false both e = absurd (none-some root e)

  module _ (key : SymbolKey) (d : Description) (root : Root) (s : Symbol) (there : slice_get (block_symbols r key.block) key.number ≡ Some s) where
    abbrev Begun : (is_parameter : Bool) → Type 0
    Begun is_parameter = Standing is_parameter root (Stated d) × (is_stored n d ≡ true)

    as_many : length (parameters_of r key.block) ≡ length (parameter_numbers r key.block)
    as_many = length_mapped (λ number. type_in (slice_get (block_symbols r key.block) number)) (parameter_numbers r key.block)

    automatic_begins : IsOf classes.Automatic d s.kind → (b : Bool) → is_stored n d ≡ b
        → (if b then in_slot (outward_to blocks key.block)
        (length (parameter_numbers r key.block) + such_before (is_automatic n) (block_symbols r key.block) key.number)
        else None) ≡ Some root → Begun false
    automatic_begins of true stored e = (
      slot_stands false (outward_to blocks key.block) key.block _ (Stated d) root refl
          (after_front (parameters_of r key.block) (descriptions (templates_of (is_automatic n) (block_symbols r key.block)))
          (such_before (is_automatic n) (block_symbols r key.block) key.number) _
          (omega (arith, as_many))
          ∙ found (is_automatic n) (block_symbols r key.block) (block_symbols r key.block) 0 key.number s d there
          (such (is_automatic n) classes.Automatic d s.kind of stored))
          (λ own. omega (arith, as_many)) e,
      stored,
    )
    automatic_begins of false stored e = absurd (none-some root e)

    parameter_begins : (slot : ℕ) → IsOf (classes.Parameter slot) d s.kind → (b : Bool)
        → (is_stored n d && is_parameter (parameter_numbers r key.block) slot key.number) ≡ b
        → (if b then in_slot (outward_to blocks key.block) slot else None) ≡ Some root → Begun true
    parameter_begins slot of true both e =
        let parts : (is_stored n d ≡ true) × (is_parameter (parameter_numbers r key.block) slot key.number ≡ true) = and_parts _ _ both in
        (passed_stands key slot (Stated d) root s there (described (classes.Parameter slot) d s s.kind refl of) parts.1 e, parts.0)
    parameter_begins slot of false both e = absurd (none-some root e)

    global_stands : (class : StorageClass) → IsOf class d s.kind → is_global n class d ≡ true
        → described_as (kind_of_class class) (slice_get (all_globals n (all_symbols r)) (global_number n r key)) ≡ Some d
    global_stands class of stored =
        let is : IsGlobal n (block_symbols r key.block) key.number s.identifier.name s.kind class d =
        one_global_of n (block_symbols r key.block) key.number s.identifier.name class d s.kind of stored in
        ap (described_as (kind_of_class class)) (found_in_text n (all_symbols r) key.block key.number s is.0 there is.1) ∙ is.2

    static_begins : IsOf classes.Static d s.kind → (b : Bool) → is_stored n d ≡ b
        → (if b then Some (OfProgram (global_number n r key)) else None) ≡ Some root → Begun false
    static_begins of true stored e = (
      subst (λ q. Standing false q (Stated d)) (same_Some (OfProgram (global_number n r key)) root e)
          (d, refl, global_stands classes.Static of stored),
      stored,
    )
    static_begins of false stored e = absurd (none-some root e)

    controlled_begins : IsOf classes.Controlled d s.kind → (b : Bool) → is_stored n d ≡ b
        → (if b then Some (NewestOf (global_number n r key)) else None) ≡ Some root → Begun false
    controlled_begins of true stored e = (
      subst (λ q. Standing false q (Stated d)) (same_Some (NewestOf (global_number n r key)) root e)
          (d, refl, global_stands classes.Controlled of stored),
      stored,
    )
    controlled_begins of false stored e = absurd (none-some root e)

    pub root_begins : (class : StorageClass) → IsOf class d s.kind → root_of n r blocks key class d ≡ Some root → Begun (is_passed_class class)
    root_begins classes.Automatic of e = automatic_begins of (is_stored n d) refl e
    root_begins (classes.Parameter slot) of e = parameter_begins slot of _ refl e
    root_begins classes.Static of e = static_begins of (is_stored n d) refl e
    root_begins classes.Controlled of e = controlled_begins of (is_stored n d) refl e
    root_begins (classes.Based locator) of e = absurd (none-some root e)

-- the entry that a symbol is stands where it is counted
abbrev pub IsEntry : List ParameterType → Option Description → SymbolKind → Type 0
IsEntry parameters returned (Entry ps o area) = (ps ≡ parameters) × (o ≡ returned)
IsEntry parameters returned kind = ⊥

entry_global : (n : ℕ) (all : List Symbol) (number : ℕ) (name : Name) (parameters : List ParameterType) (returned : Option Description)
    (kind : SymbolKind) → IsEntry parameters returned kind
    → global_with n all number name kind ≡ EntryPoint name (record { parameters = parameters; result = returned }) ∷ []
entry_global n all number name parameters returned (Entry ps o area) h =
    ap (λ ds. EntryPoint name (record { parameters = ds; result = o }) ∷ []) h.0
    ∙ ap (λ d. EntryPoint name (record { parameters = parameters; result = d }) ∷ []) h.1
entry_global n all number name parameters returned (Variable d class scope initial area) h = absurd h
entry_global n all number name parameters returned (OpenParameter type slot at) h = absurd h
entry_global n all number name parameters returned (Member root path initial area) h = absurd h
entry_global n all number name parameters returned (Label statement) h = absurd h
entry_global n all number name parameters returned (Procedure block o area) h = absurd h
entry_global n all number name parameters returned BuiltIn h = absurd h

pub entry_stands : (n : ℕ) (r : ResolvedUnit) (key : SymbolKey) (s : Symbol) (parameters : List ParameterType) (returned : Option Description)
    → slice_get (block_symbols r key.block) key.number ≡ Some s → IsEntry parameters returned s.kind
    → signature_of (slice_get (all_globals n (all_symbols r)) (global_number n r key))
    ≡ Some (record { parameters = parameters; result = returned })
entry_stands n r key s parameters returned there is =
    ap signature_of
    (found_in_text n (all_symbols r) key.block key.number s
    (EntryPoint s.identifier.name (record { parameters = parameters; result = returned })) there
    (entry_global n (block_symbols r key.block) key.number s.identifier.name parameters returned s.kind is))
