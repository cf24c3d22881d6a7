-- Variables take no more bytes than they may, and begin with values that their scalars hold.
use Rattle.std.specs.Prelude.{◌≡◌, ℕ, suc, nat_le, Bool, true, false, List, [], ◌∷◌, ◌++◌, map, if◌then◌else◌, refl}
use Rattle.std.specs.List.{flat_map, AllByRecursion}
use Rattle.std.specs.List.Sorted.{IsPermutation}
use Rattle.std.proofs.Common.{sym, ◌∙◌, ap, subst}
use Rattle.std.proofs.lemmas.Bool.{and_parts, leb-true}
use Rattle.std.proofs.lemmas.List.{map-append}
use Rattle.std.proofs.lemmas.List.Elements.{All-from_recursion, recursion_from_All}
use Rattle.std.proofs.lemmas.List.Sorted.{All-permutation, IsPermutation-map}
use Rattle.pli_base.specs.Name.{Name}
use Rattle.pli_bytes.specs.Contents.{begins_on, scalars_at, with_value_on}
use Rattle.pli_bytes.proofs.Scalars.{descriptions, described}
use Rattle.pli_declare.specs.declared.completed.ScopeAttribute.{ScopeAttribute}
use Rattle.pli_declare.specs.declared.completed.ScopeAttribute.TheVariants as scopes
use Rattle.pli_map.specs.Description.{Description}
use Rattle.pli_map.specs.Parts.{PlacedPart}
use Rattle.pli_map.specs.Scalars.{scalars_of}
use Rattle.pli_map.specs.Sizes.{size_of}
use Rattle.pli_map.specs.Values.{holds, are_held, first_values}
use Rattle.pli_map.proofs.FirstHeld.{firsts_held}
use Rattle.pli_declare.specs.Symbols.{Symbol, SymbolKind, Variable, OpenParameter, Member, Label, Procedure, Entry, BuiltIn}
use Rattle.pli_declare.specs.declared.symbol.StorageClass.{StorageClass}
use Rattle.pli_type_rules.specs.InitialScalars.{InitialItem, initial_scalars, template_of}
use Rattle.pli_type_rules.specs.NamedUnits.{may_stand, is_stored, is_global, kind_of_class, member_items, template_at, templates_from}
use Rattle.pli_type_rules.specs.NamedUnits.{global_of, global_with, globals_from, globals_of, all_globals}
use Rattle.pli_type_rules.specs.NamedUnits.{PlacedGlobal, placed, block_globals}
use Rattle.pli_type_rules.specs.TextOrder.{in_order}
use Rattle.pli_type_rules.proofs.TextNumbers.{same_items}
use Rattle.pli_program.specs.declared.kind.VariableKind.{VariableKind}
use Rattle.pli_type_tree.specs.Globals.{templates_in}
use Rattle.pli_type_tree.specs.Templates.{InitialScalar, Template, with_initial, variable_of}
use Rattle.pli_type_tree.specs.TypedTree.{Global, OwnVariable, ExternalVariable, EntryPoint}
use Rattle.pli_type_tree.specs.WellTyped.{AreHeld, IsMade, AreMade}
use Rattle.pli_value.specs.Value.{Value}

not_true : false ≡ true → ⊥
not_true e = absurd (cc)

-- ---- first values

held_each : (ds : List Description) (vs : List Value) → are_held ds vs ≡ true → AreHeld ds vs
held_each [] [] h = tt
held_each [] (v ∷ vs) h = absurd (not_true h)
held_each (d ∷ ds) [] h = absurd (not_true h)
held_each (d ∷ ds) (v ∷ vs) h = let p = and_parts (holds d v) (are_held ds vs) h in (p.0, held_each ds vs p.1)

pub all_after : {A : Type 0} (P : A → Type 0) (xs ys : List A) → AllByRecursion P xs → AllByRecursion P ys → AllByRecursion P (xs ++ ys)
all_after P [] ys h g = g
all_after P (x ∷ xs) ys h g = (h.0, all_after P xs ys h.1 g)

-- ---- variables with initial values

-- each scalar holds its value where one is put that its own may hold
held_on : (offset : ℕ) (v : Value) (ss : List PlacedPart) (vs : List Value) → AreHeld (descriptions ss) vs → AreHeld (descriptions ss) (with_value_on offset v ss vs)
held_on offset v [] vs h = h
held_on offset v (s ∷ ss) [] h = h
held_on offset v (s ∷ ss) (w ∷ vs) h = by (begins_on offset s) (holds s.description v) refl h (held_on offset v ss vs h.1)
  where
    by : (b c : Bool) → holds s.description v ≡ c → AreHeld (s.description ∷ descriptions ss) (w ∷ vs) → AreHeld (descriptions ss) (with_value_on offset v ss vs)
        → AreHeld (s.description ∷ descriptions ss) (if b then (if c then v else w) ∷ vs else w ∷ with_value_on offset v ss vs)
    by true true e all rest = (e, all.1)
    by true false e all rest = all
    by false c e all rest = (all.0, rest)

held_with : (ss : List PlacedPart) (is : List InitialScalar) (vs : List Value) → AreHeld (descriptions ss) vs → AreHeld (descriptions ss) (with_initial ss is vs)
held_with ss [] vs h = h
held_with ss (i ∷ is) vs h = held_with ss is (with_value_on i.offset i.value ss vs) (held_on i.offset i.value ss vs h)

template_held : (d : Description) (items : List InitialItem) → AreHeld (scalars_of d) (variable_of (template_of d items)).initial
template_held d items =
    let is = flat_map (initial_scalars d) items in
    let firsts = held_each (scalars_of d) (first_values d) (firsts_held d) in
    subst (λ ds. AreHeld ds (with_initial (scalars_at d) is (first_values d))) (described d)
    (held_with (scalars_at d) is (first_values d) (subst (λ ds. AreHeld ds (first_values d)) (sym (described d)) firsts))

-- ---- all variables of a class

-- what holds of each template that one of the class has
module _ (Holds : Template → Type 0) (is_such : StorageClass → Description → Bool)
    (one : (class : StorageClass) (d : Description) (items : List InitialItem) → is_such class d ≡ true → Holds (template_of d items))
    (all : List Symbol) where
  class_holds : (class : StorageClass) (d : Description) (items : List InitialItem) (b : Bool) → is_such class d ≡ b
      → AllByRecursion Holds (if b then template_of d items ∷ [] else [])
  class_holds class d items true e = (one class d items e, tt)
  class_holds class d items false e = tt

  symbol_holds : (number : ℕ) (kind : SymbolKind) → AllByRecursion Holds (template_at is_such all number kind)
  symbol_holds number (Variable d class scope initial area) =
      class_holds class d (record { path = []; values = initial } ∷ member_items number all) (is_such class d) refl
  symbol_holds number (OpenParameter type slot area) = tt
  symbol_holds number (Member root path initial area) = tt
  symbol_holds number (Label statement) = tt
  symbol_holds number (Procedure block returned area) = tt
  symbol_holds number (Entry parameters returned area) = tt
  symbol_holds number BuiltIn = tt

  pub all_hold : (number : ℕ) (ss : List Symbol) → AllByRecursion Holds (templates_from is_such all number ss)
  all_hold number [] = tt
  all_hold number (s ∷ ss) =
      all_after Holds (template_at is_such all number s.kind) (templates_from is_such all (suc number) ss)
      (symbol_holds number s.kind) (all_hold (suc number) ss)

-- a variable is made well of it
abbrev pub IsMadeFrom : Template → Type 0
IsMadeFrom t = IsMade (variable_of t)

as_made : (ts : List Template) → AllByRecursion IsMadeFrom ts → AreMade (map variable_of ts)
as_made [] h = tt
as_made (t ∷ ts) h = (h.0, as_made ts h.1)

pub template_made : (n : ℕ) (d : Description) (items : List InitialItem) → is_stored n d ≡ true → IsMadeFrom (template_of d items)
template_made n d items stored =
    let parts = and_parts (may_stand n d) (nat_le (size_of d) 1000000) stored in
    (leb-true (size_of d) 1000000 parts.1, template_held d items)

module _ (n : ℕ) (is_such : StorageClass → Description → Bool) (stored : (class : StorageClass) (d : Description) → is_such class d ≡ true → is_stored n d ≡ true) (all : List Symbol) where
  class_made : (class : StorageClass) (d : Description) (items : List InitialItem) → is_such class d ≡ true → IsMadeFrom (template_of d items)
  class_made class d items e = template_made n d items (stored class d e)

  symbol_made : (number : ℕ) (kind : SymbolKind) → AreMade (map variable_of (template_at is_such all number kind))
  symbol_made number kind = as_made (template_at is_such all number kind) (symbol_holds IsMadeFrom is_such class_made all number kind)

  pub all_made : (number : ℕ) (ss : List Symbol) → AreMade (map variable_of (templates_from is_such all number ss))
  all_made number ss = as_made (templates_from is_such all number ss) (all_hold IsMadeFrom is_such class_made all number ss)

-- ---- globals

scoped_made : (scope : ScopeAttribute) (kind : VariableKind) (name : Name) (ts : List Template) (rest : List Global) → AreMade (map variable_of ts)
    → AreMade (map variable_of (templates_in rest)) → AreMade (map variable_of (templates_in (map (global_of scope kind name) ts ++ rest)))
scoped_made scope kind name [] rest h g = g
scoped_made scopes.Internal kind name (t ∷ ts) rest h g = (h.0, scoped_made scopes.Internal kind name ts rest h.1 g)
scoped_made scopes.External kind name (t ∷ ts) rest h g = (h.0, scoped_made scopes.External kind name ts rest h.1 g)

both_made : (xs ys : List Global) → AreMade (map variable_of (templates_in xs)) → AreMade (map variable_of (templates_in ys))
    → AreMade (map variable_of (templates_in (xs ++ ys)))
both_made [] ys h g = g
both_made (OwnVariable kind t ∷ xs) ys h g = (h.0, both_made xs ys h.1 g)
both_made (ExternalVariable name kind t ∷ xs) ys h g = (h.0, both_made xs ys h.1 g)
both_made (EntryPoint name signature ∷ xs) ys h g = both_made xs ys h g

abbrev GlobalsMade : List Global → Type 0
GlobalsMade gs = AreMade (map variable_of (templates_in gs))

abbrev IsGlobalMade : Global → Type 0
IsGlobalMade g = GlobalsMade (g ∷ [])

each_made : (gs : List Global) → GlobalsMade gs → AllByRecursion IsGlobalMade gs
each_made [] h = tt
each_made (OwnVariable kind t ∷ gs) h = ((h.0, tt), each_made gs h.1)
each_made (ExternalVariable name kind t ∷ gs) h = ((h.0, tt), each_made gs h.1)
each_made (EntryPoint name signature ∷ gs) h = (tt, each_made gs h)

made_again : (gs : List Global) → AllByRecursion IsGlobalMade gs → GlobalsMade gs
made_again [] h = tt
made_again (OwnVariable kind t ∷ gs) h = (h.0.0, made_again gs h.1)
made_again (ExternalVariable name kind t ∷ gs) h = (h.0.0, made_again gs h.1)
made_again (EntryPoint name signature ∷ gs) h = made_again gs h.1

-- without the tokens of their names
abbrev alone : List PlacedGlobal → List Global
alone ps = map (λ (p : PlacedGlobal). p.global) ps

alone_placed : (at : ℕ) (gs : List Global) → alone (map (placed at) gs) ≡ gs
alone_placed at [] = refl
alone_placed at (g ∷ gs) = ap (λ others. g ∷ others) (alone_placed at gs)

module _ (n : ℕ) (stored : (class : StorageClass) (d : Description) → is_global n class d ≡ true → is_stored n d ≡ true) where
  global_made : (all : List Symbol) (number : ℕ) (name : Name) (kind : SymbolKind) (rest : List Global)
      → AreMade (map variable_of (templates_in rest)) → AreMade (map variable_of (templates_in (global_with n all number name kind ++ rest)))
  global_made all number name (Variable d class scope initial area) rest h =
      let ts : List Template = template_at (is_global n) all number (Variable d class scope initial area) in
      scoped_made scope (kind_of_class class) name ts rest
      (symbol_made n (is_global n) stored all number (Variable d class scope initial area)) h
  global_made all number name (OpenParameter type slot area) rest h = h
  global_made all number name (Member root path initial area) rest h = h
  global_made all number name (Label statement) rest h = h
  global_made all number name (Procedure block returned area) rest h = h
  global_made all number name (Entry parameters returned area) rest h = h
  global_made all number name BuiltIn rest h = h

  globals_made : (all : List Symbol) (number : ℕ) (ss : List Symbol) → GlobalsMade (alone (globals_from n all number ss))
  globals_made all number [] = tt
  globals_made all number (s ∷ ss) =
      let own : List Global = global_with n all number s.identifier.name s.kind in
      let more : List PlacedGlobal = globals_from n all (suc number) ss in
      let joined : alone (map (placed s.identifier.at) own ++ more) ≡ own ++ alone more =
      map-append (λ (p : PlacedGlobal). p.global) (map (placed s.identifier.at) own) more
      ∙ ap (λ gs. gs ++ alone more) (alone_placed s.identifier.at own) in
      subst GlobalsMade (sym joined)
      (global_made all number s.identifier.name s.kind (alone more) (globals_made all (suc number) ss))

  -- of several blocks
  after : (blocks : List (List Symbol)) → GlobalsMade (alone (block_globals n blocks))
  after [] = tt
  after (ss ∷ more) =
      subst GlobalsMade (sym (map-append (λ (p : PlacedGlobal). p.global) (globals_of n ss) (block_globals n more)))
      (both_made (alone (globals_of n ss)) (alone (block_globals n more)) (globals_made ss 0 ss) (after more))

  -- and in the order of the text
  pub globals_after : (blocks : List (List Symbol)) → AreMade (map variable_of (templates_in (all_globals n blocks)))
  globals_after blocks =
      let ps : List PlacedGlobal = block_globals n blocks in
      let qs : List PlacedGlobal = in_order (λ (p : PlacedGlobal). p.at) ps in
      let moved : IsPermutation (alone ps) (alone qs) =
      IsPermutation-map (λ (p : PlacedGlobal). p.global) ps qs (same_items (λ (p : PlacedGlobal). p.at) ps) in
      made_again (alone qs)
      (recursion_from_All IsGlobalMade (alone qs)
      (All-permutation IsGlobalMade (alone ps) (alone qs) moved
      (All-from_recursion IsGlobalMade (alone ps) (each_made (alone ps) (after blocks)))))
