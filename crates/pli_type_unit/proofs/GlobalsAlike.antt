-- The globals of a unit, and their numbers, where what its symbols say is within the limits of the language.
use Rattle.std.specs.Prelude.{◌≡◌, ℕ, zero, suc, ◌+◌, ◌<◌, nat_eq, Bool, true, false, ◌&&◌, Option, Some, refl}
use Rattle.std.specs.Prelude.{List, [], ◌∷◌, ◌++◌, map, filter, length, replicate, slice_get, get_or, take, if◌then◌else◌, cond}
use Rattle.std.specs.List.{flat_map, AllByRecursion, Contains}
use Rattle.std.specs.Ordering.{nat_cmp}
use Rattle.std.proofs.Common.{sym, ap, ◌∙◌, subst, arith, length-append}
use Rattle.std.proofs.lemmas.Bool.{and_from, and_parts, true≢false, eqb-true, eqb-false, eq-eqb, ne_eqb, cond-true, cond-false}
use Rattle.std.proofs.lemmas.List.{length-map, map-append}
use Rattle.std.proofs.lemmas.List.Elements.{filter-append}
use Rattle.std.proofs.lemmas.List.Sorted.{Contains-permutation}
use Rattle.std.proofs.lemmas.Option.{same_Some, none-some, slice_get_within}
use Rattle.pli_base.specs.Name.{Name}
use Rattle.pli_base.specs.declared.declaration.InitialValue.{InitialValue}
use Rattle.pli_declare.specs.declared.completed.ScopeAttribute.{ScopeAttribute}
use Rattle.pli_declare.specs.declared.completed.ScopeAttribute.TheVariants as scopes
use Rattle.pli_map.specs.Description.{Description}
use Rattle.pli_declare.specs.ResolvedUnits.{ResolvedUnit, all_symbols}
use Rattle.pli_declare.specs.Symbols.{Symbol, SymbolKind, Variable, OpenParameter, Member, Label, Procedure, Entry, BuiltIn}
use Rattle.pli_declare.specs.declared.symbol.StorageClass.{StorageClass}
use Rattle.pli_declare.specs.declared.symbol.StorageClass.TheVariants as classes
use Rattle.pli_declare.specs.declared.symbol.SymbolKey.{SymbolKey}
use Rattle.pli_sort.proofs.CorrespondLemmas.{AllBoth, both_in_order}
use Rattle.pli_type_rules.proofs.TextNumbers.{given_under, numbers_counted, same_items}
use Rattle.pli_type_rules.specs.InitialScalars.{template_of}
use Rattle.pli_type_rules.specs.NamedUnits as old
use Rattle.pli_type_rules.specs.NamedUnits.{PlacedGlobal}
use Rattle.pli_type_rules.specs.TextOrder.{numbers_from, text_order, text_places, place_from}
use Rattle.pli_type_tree.specs.Templates.{Template}
use Rattle.pli_type_tree.specs.TypedTree.{Global}
use Rattle.pli_type_unit.specs.UnitNames.{PlacedSymbol, block_symbols, numbered, numbered_in, count_before, may_stand, is_lasting, is_global, globals_in, global_number, global_of, kind_of_class, global_at, globals_of}
use Rattle.pli_type_unit.proofs.SymbolsAlike.{IsAlike, AreAlike, global_test, one_if, made_alike}

-- ---- pairs of lists

both_appended : {A B : Type 0} (R : A → B → Type 0) (xs ys : List A) (zs ws : List B) → AllBoth R xs zs → AllBoth R ys ws → AllBoth R (xs ++ ys) (zs ++ ws)
both_appended R [] ys [] ws h k = k
both_appended R [] ys (z ∷ zs) ws h k = absurd h
both_appended R (x ∷ xs) ys [] ws h k = absurd h
both_appended R (x ∷ xs) ys (z ∷ zs) ws h k = (h.0, both_appended R xs ys zs ws h.1 k)

-- what stands at a place of both
both_at : {A B : Type 0} (R : A → B → Type 0) (xs : List A) (ys : List B) (i : ℕ) (y : B) → AllBoth R xs ys → slice_get ys i ≡ Some y
    → (x : A) × (slice_get xs i ≡ Some x) × R x y
both_at R [] [] i y all e = absurd (none-some y e)
both_at R [] (z ∷ ys) i y all e = absurd all
both_at R (x ∷ xs) [] i y all e = absurd all
both_at R (x ∷ xs) (z ∷ ys) zero y all e = (x, refl, subst (R x) (same_Some z y e) all.0)
both_at R (x ∷ xs) (z ∷ ys) (suc i) y all e = both_at R xs ys i y all.1 e

numbers_append : (from m n : ℕ) → numbers_from from (m + n) ≡ numbers_from from m ++ numbers_from (from + m) n
numbers_append from zero n = let one : 0 + n ≡ n = omega arith in let two : from ≡ from + 0 = omega arith in ap (numbers_from from) one ∙ ap (λ k. numbers_from k n) two
numbers_append from (suc m) n =
    let one : suc m + n ≡ suc (m + n) = omega arith in
    let two : suc from + m ≡ from + suc m = omega arith in
    ap (numbers_from from) one ∙ ap (λ ns. from ∷ ns) (numbers_append (suc from) m n ∙ ap (λ k. numbers_from (suc from) m ++ numbers_from k n) two)

-- the number of a place
number_at : (from count i n : ℕ) → slice_get (numbers_from from count) i ≡ Some n → from + i ≡ n
number_at from zero i n e = absurd (none-some n e)
number_at from (suc count) zero n e = omega (arith, same_Some from n e)
number_at from (suc count) (suc i) n e = omega (arith, number_at (suc from) count i n e)

-- the order of the text has each number
number_given : (count i from k d : ℕ) → from + i ≡ k → i < count → get_or (numbers_from from count) i d ≡ k
number_given zero i from k d e h = absurd (omega (arith, h))
number_given (suc count) zero from k d e h = omega (arith, e)
number_given (suc count) (suc i) from k d e h = number_given count i (suc from) k d (omega (arith, e)) (omega (arith, h))

order_contains : (tokens : List ℕ) (k : ℕ) → k < length tokens → Contains (text_order tokens) k
order_contains tokens k h =
    Contains-permutation _ _ k (same_items (λ n. get_or tokens n 0) (numbers_from 0 (length tokens)))
    (k, omega (arith, h, numbers_counted 0 (length tokens)), number_given (length tokens) k 0 k k (omega arith) h)

-- ---- globals, block after block

abbrev pub globals_among : List PlacedSymbol → List PlacedSymbol
globals_among ps = filter (λ p. is_global p.symbol.kind) ps

one_alike : (kind : SymbolKind) → IsAlike kind → old.one_global 63 kind ≡ one_if (is_global kind)
one_alike (Variable d class scope initial area) h = ap one_if (global_test class d h)
one_alike (Entry parameters returned area) h = refl
one_alike (OpenParameter type slot area) h = refl
one_alike (Member root path initial area) h = refl
one_alike (Label statement) h = refl
one_alike (Procedure block returned area) h = refl
one_alike BuiltIn h = refl

counted_if : (b : Bool) (p : PlacedSymbol) (ps : List PlacedSymbol) → length (cond b (p ∷ ps) ps) ≡ one_if b + length ps
counted_if true p ps = let one : length (p ∷ ps) ≡ 1 + length ps = omega arith in one
counted_if false p ps = let none : length ps ≡ 0 + length ps = omega arith in none

globals_counted : (block from : ℕ) (ss : List Symbol) → AreAlike ss → old.globals_before 63 ss (length ss) ≡ length (globals_among (numbered block from ss))
globals_counted block from [] h = refl
globals_counted block from (t ∷ ss) h =
    let p : PlacedSymbol = record { key = record { block = block; number = from }; symbol = t } in
    omega (
      arith,
      one_alike t.kind h.0,
      globals_counted block (suc from) ss h.1,
      counted_if (is_global t.kind) p (globals_among (numbered block (suc from) ss)),
    )

-- each stands at the number that its key has
module _ (index : SymbolKey → ℕ) where
  abbrev Indexed : ℕ → PlacedSymbol → Type 0
  Indexed n p = n ≡ index p.key

  one_indexed : (b : Bool) (c rest : ℕ) (p : PlacedSymbol) (ps : List PlacedSymbol) → rest ≡ length ps → c ≡ index p.key → AllBoth Indexed (numbers_from (c + one_if b) rest) ps
      → AllBoth Indexed (numbers_from c (one_if b + rest)) (cond b (p ∷ ps) ps)
  one_indexed true c rest p ps e here more =
      let one : 1 + rest ≡ suc rest = omega arith in
      let next : c + 1 ≡ suc c = omega arith in
      subst (λ k. AllBoth Indexed (numbers_from c k) (p ∷ ps)) (sym one) (here, subst (λ k. AllBoth Indexed (numbers_from k rest) ps) next more)
  one_indexed false c rest p ps e here more =
      let one : 0 + rest ≡ rest = omega arith in
      let next : c + 0 ≡ c = omega arith in
      subst (λ k. AllBoth Indexed (numbers_from c k) ps) (sym one) (subst (λ k. AllBoth Indexed (numbers_from k rest) ps) next more)

  block_indexed : (block from c : ℕ) (ss : List Symbol) → AreAlike ss
      → ((j : ℕ) → index (record { block = block; number = from + j }) ≡ c + old.globals_before 63 ss j)
      → AllBoth Indexed (numbers_from c (length (globals_among (numbered block from ss)))) (globals_among (numbered block from ss))
  block_indexed block from c [] all h = tt
  block_indexed block from c (t ∷ ss) all h =
      let p : PlacedSymbol = record { key = record { block = block; number = from }; symbol = t } in
      let b : Bool = is_global t.kind in
      let ps : List PlacedSymbol = globals_among (numbered block (suc from) ss) in
      let at : from + 0 ≡ from = omega arith in
      let here : index (record { block = block; number = from }) ≡ c + 0 = ap (λ k. index (record { block = block; number = k })) (sym at) ∙ h 0 in
      let none : c + 0 ≡ c = omega arith in
      let next : (j : ℕ) → index (record { block = block; number = suc from + j }) ≡ c + one_if b + old.globals_before 63 ss j =
      λ j. let past : suc from + j ≡ from + suc j = omega arith in
      let sum : c + (old.one_global 63 t.kind + old.globals_before 63 ss j) ≡ c + one_if b + old.globals_before 63 ss j = omega (arith, one_alike t.kind all.0) in
      ap (λ k. index (record { block = block; number = k })) past ∙ h (suc j) ∙ sum in
      subst (λ k. AllBoth Indexed (numbers_from c k) (globals_among (numbered block from (t ∷ ss)))) (sym (counted_if b p ps))
      (one_indexed b c (length ps) p ps refl (sym none ∙ sym here) (block_indexed block (suc from) (c + one_if b) ss all.1 next))

  blocks_indexed : (block c : ℕ) (more : List (List Symbol)) → AllByRecursion AreAlike more
      → ((i number : ℕ) → index (record { block = block + i; number = number }) ≡ c + (old.globals_in 63 (take i more) + old.globals_before 63 (get_or more i []) number))
      → AllBoth Indexed (numbers_from c (length (globals_among (numbered_in block more)))) (globals_among (numbered_in block more))
  blocks_indexed block c [] all h = tt
  blocks_indexed block c (ss ∷ more) all h =
      let xs : List PlacedSymbol = globals_among (numbered block 0 ss) in
      let ys : List PlacedSymbol = globals_among (numbered_in (suc block) more) in
      let split : globals_among (numbered_in block (ss ∷ more)) ≡ xs ++ ys = filter-append (λ (p : PlacedSymbol). is_global p.symbol.kind) (numbered block 0 ss) (numbered_in (suc block) more) in
      let here : block + 0 ≡ block = omega arith in
      let first : (j : ℕ) → index (record { block = block; number = 0 + j }) ≡ c + old.globals_before 63 ss j =
      λ j. let none : 0 + j ≡ j = omega arith in
      let sum : c + (0 + old.globals_before 63 ss j) ≡ c + old.globals_before 63 ss j = omega arith in
      ap (λ k. index (record { block = block; number = k })) none ∙ ap (λ k. index (record { block = k; number = j })) (sym here) ∙ h 0 j ∙ sum in
      let next : (i number : ℕ) → index (record { block = suc block + i; number = number }) ≡ c + length xs + (old.globals_in 63 (take i more) + old.globals_before 63 (get_or more i []) number) =
      λ i number. let past : suc block + i ≡ block + suc i = omega arith in
      let sum : c + (old.globals_before 63 ss (length ss) + old.globals_in 63 (take i more) + old.globals_before 63 (get_or more i []) number)
      ≡ c + length xs + (old.globals_in 63 (take i more) + old.globals_before 63 (get_or more i []) number) = omega (arith, globals_counted block 0 ss all.0) in
      ap (λ k. index (record { block = k; number = number })) past ∙ h (suc i) number ∙ sum in
      subst (λ zs. AllBoth Indexed (numbers_from c (length zs)) zs) (sym split)
      (subst (λ ns. AllBoth Indexed ns (xs ++ ys)) (sym (ap (numbers_from c) (length-append xs ys) ∙ numbers_append c (length xs) (length ys)))
      (both_appended Indexed (numbers_from c (length xs)) (numbers_from (c + length xs) (length ys)) xs ys
      (block_indexed block 0 c ss all.0 first) (blocks_indexed (suc block) (c + length xs) more all.1 next)))

-- ---- what globals are

scopes_alike : (scope : ScopeAttribute) (class : StorageClass) (name : Name) (t : Template)
    → global_of scope (kind_of_class class) name t ≡ old.global_of scope (old.kind_of_class class) name t
scopes_alike scope class name t = scoped scope ∙ ap (λ k. old.global_of scope k name t) (kinds class)
  where
    scoped : (scope : ScopeAttribute) → global_of scope (kind_of_class class) name t ≡ old.global_of scope (kind_of_class class) name t
    scoped scopes.Internal = refl
    scoped scopes.External = refl

    kinds : (class : StorageClass) → kind_of_class class ≡ old.kind_of_class class
    kinds classes.Automatic = refl
    kinds (classes.Parameter slot) = refl
    kinds classes.Static = refl
    kinds classes.Controlled = refl
    kinds (classes.Based locator) = refl

abbrev token : PlacedSymbol → ℕ
token p = p.symbol.identifier.at

abbrev placed_token : PlacedGlobal → ℕ
placed_token g = g.at

module _ (r : ResolvedUnit) where
  abbrev made : PlacedSymbol → List Global
  made p = global_at (block_symbols r p.key.block) p.key.number p.symbol.identifier.name p.symbol.kind

  -- a symbol is this global, of this token
  abbrev Is : PlacedSymbol → PlacedGlobal → Type 0
  Is p g = (token p ≡ placed_token g) × (made p ≡ g.global ∷ [])

  variable_is : (b : Bool) (f : Template → Global) (template : Template) (p : PlacedSymbol) (ps : List PlacedSymbol) (gs : List PlacedGlobal)
      → made p ≡ f template ∷ [] → AllBoth Is ps gs
      → AllBoth Is (cond b (p ∷ ps) ps) (map (old.placed (token p)) (map f (if b then template ∷ [] else [])) ++ gs)
  variable_is true f template p ps gs e more = ((refl, e), more)
  variable_is false f template p ps gs e more = more

  made_is : (block from : ℕ) (t : Symbol) (d : Description) (class : StorageClass) (scope : ScopeAttribute) (initial : List InitialValue) (area : Option SymbolKey)
      → t.kind ≡ Variable d class scope initial area
      → global_at (block_symbols r block) from t.identifier.name t.kind
      ≡ old.global_of scope (old.kind_of_class class) t.identifier.name (template_of d (record { path = []; values = initial } ∷ old.member_items from (block_symbols r block))) ∷ []
  made_is block from t d class scope initial area e =
      ap (global_at (block_symbols r block) from t.identifier.name) e
      ∙ ap (λ m. global_of scope (kind_of_class class) t.identifier.name m ∷ []) (sym (made_alike (block_symbols r block) from d initial))
      ∙ ap (λ g. g ∷ []) (scopes_alike scope class t.identifier.name (template_of d (record { path = []; values = initial } ∷ old.member_items from (block_symbols r block))))

  one_is : (block from : ℕ) (t : Symbol) (kind : SymbolKind) → t.kind ≡ kind → IsAlike kind → (ps : List PlacedSymbol) (gs : List PlacedGlobal) → AllBoth Is ps gs
      → AllBoth Is (cond (is_global kind) (record { key = record { block = block; number = from }; symbol = t } ∷ ps) ps)
      (map (old.placed t.identifier.at) (old.global_with 63 (block_symbols r block) from t.identifier.name kind) ++ gs)
  one_is block from t (Variable d class scope initial area) e h ps gs more =
      let p : PlacedSymbol = record { key = record { block = block; number = from }; symbol = t } in
      let template : Template = template_of d (record { path = []; values = initial } ∷ old.member_items from (block_symbols r block)) in
      subst (λ b. AllBoth Is (cond (is_lasting class && may_stand class d) (p ∷ ps) ps)
      (map (old.placed t.identifier.at) (map (old.global_of scope (old.kind_of_class class) t.identifier.name) (if b then template ∷ [] else [])) ++ gs))
      (sym (global_test class d h))
      (variable_is (is_lasting class && may_stand class d) (old.global_of scope (old.kind_of_class class) t.identifier.name) template p ps gs (made_is block from t d class scope initial area e) more)
  one_is block from t (Entry parameters returned area) e h ps gs more =
      ((refl, ap (global_at (block_symbols r block) from t.identifier.name) e), more)
  one_is block from t (OpenParameter type slot area) e h ps gs more = more
  one_is block from t (Member root path initial area) e h ps gs more = more
  one_is block from t (Label statement) e h ps gs more = more
  one_is block from t (Procedure b returned area) e h ps gs more = more
  one_is block from t BuiltIn e h ps gs more = more

  block_is : (block from : ℕ) (ss : List Symbol) → AreAlike ss
      → AllBoth Is (globals_among (numbered block from ss)) (old.globals_from 63 (block_symbols r block) from ss)
  block_is block from [] h = tt
  block_is block from (t ∷ ss) h =
      one_is block from t t.kind refl h.0 (globals_among (numbered block (suc from) ss)) (old.globals_from 63 (block_symbols r block) (suc from) ss)
      (block_is block (suc from) ss h.1)

  blocks_are : (block : ℕ) (more : List (List Symbol)) → AllByRecursion AreAlike more → ((i : ℕ) → block_symbols r (block + i) ≡ get_or more i [])
      → AllBoth Is (globals_among (numbered_in block more)) (old.block_globals 63 more)
  blocks_are block [] all h = tt
  blocks_are block (ss ∷ more) all h =
      let here : block + 0 ≡ block = omega arith in
      let whole : block_symbols r block ≡ ss = ap (block_symbols r) (sym here) ∙ h 0 in
      let next : (i : ℕ) → block_symbols r (suc block + i) ≡ get_or more i [] =
      λ i. let past : suc block + i ≡ block + suc i = omega arith in ap (block_symbols r) past ∙ h (suc i) in
      subst (λ ps. AllBoth Is ps (old.block_globals 63 (ss ∷ more))) (sym (filter-append (λ (p : PlacedSymbol). is_global p.symbol.kind) (numbered block 0 ss) (numbered_in (suc block) more)))
      (both_appended Is (globals_among (numbered block 0 ss)) (globals_among (numbered_in (suc block) more)) (old.globals_of 63 ss) (old.block_globals 63 more)
      (subst (λ all. AllBoth Is (globals_among (numbered block 0 ss)) (old.globals_from 63 all 0 ss)) whole (block_is block 0 ss all.0))
      (blocks_are (suc block) more all.1 next))

  all_made : (ps : List PlacedSymbol) (gs : List PlacedGlobal) → AllBoth Is ps gs → flat_map made ps ≡ map (λ (g : PlacedGlobal). g.global) gs
  all_made [] [] h = refl
  all_made [] (g ∷ gs) h = absurd h
  all_made (p ∷ ps) [] h = absurd h
  all_made (p ∷ ps) (g ∷ gs) h = ap (λ xs. xs ++ flat_map made ps) h.0.1 ∙ ap (λ xs. g.global ∷ xs) (all_made ps gs h.1)

  module _ (alike : AllByRecursion AreAlike (all_symbols r)) where
    abbrev unsorted : List PlacedSymbol
    unsorted = globals_among (numbered_in 0 (all_symbols r))

    none_plus : (n : ℕ) → 0 + n ≡ n
    none_plus n = omega arith

    all_are : AllBoth Is unsorted (old.block_globals 63 (all_symbols r))
    all_are = blocks_are 0 (all_symbols r) alike (λ i. ap (block_symbols r) (none_plus i))

    pub globals_alike : old.all_globals 63 (all_symbols r) ≡ globals_of r
    globals_alike =
        sym (all_made (globals_in r) _
        (both_in_order nat_cmp Is token placed_token (λ p g h. h.0) [] unsorted [] (old.block_globals 63 (all_symbols r)) tt all_are))

    -- ---- their numbers

    abbrev index : SymbolKey → ℕ
    index key = old.number_in_blocks 63 r key

    all_indexed : AllBoth (Indexed index) (numbers_from 0 (length unsorted)) unsorted
    all_indexed =
        blocks_indexed index 0 0 (all_symbols r) alike
        (λ i number. ap (λ k. index (record { block = k; number = number })) (none_plus i) ∙ sym (none_plus (index (record { block = i; number = number }))))

    index_of : (n : ℕ) (p : PlacedSymbol) → slice_get unsorted n ≡ Some p → n ≡ index p.key
    index_of n p e =
        let found = both_at (Indexed index) (numbers_from 0 (length unsorted)) unsorted n p all_indexed e in
        omega (arith, number_at 0 (length unsorted) n found.0 found.1, found.2)

    one_more : (b : Bool) (p q : PlacedSymbol) (rest : List PlacedSymbol) (i : ℕ) → slice_get rest i ≡ Some q → (j : ℕ) × (slice_get (cond b (p ∷ rest) rest) j ≡ Some q)
    one_more true p q rest i f = (suc i, f)
    one_more false p q rest i f = (i, f)

    -- the global under a key is among them
    in_block : (block from k : ℕ) (ss : List Symbol) (s : Symbol) → slice_get ss k ≡ Some s → is_global s.kind ≡ true
        → (i : ℕ) × (slice_get (globals_among (numbered block from ss)) i ≡ Some (record { key = record { block = block; number = from + k }; symbol = s }))
    in_block block from k [] s e is = absurd (none-some s e)
    in_block block from zero (t ∷ ss) s e is =
        let same : t ≡ s = same_Some t s e in
        let here : is_global t.kind ≡ true = ap (λ (x : Symbol). is_global x.kind) same ∙ is in
        let at : from ≡ from + 0 = omega arith in
        let p : PlacedSymbol = record { key = record { block = block; number = from }; symbol = t } in (
          0,
          ap (λ ps. slice_get ps 0) (cond-true (is_global t.kind) (p ∷ globals_among (numbered block (suc from) ss)) (globals_among (numbered block (suc from) ss)) here)
              ∙ ap (λ x. Some (record { key = record { block = block; number = from }; symbol = x })) same
              ∙ ap (λ n. Some (record { key = record { block = block; number = n }; symbol = s })) at,
        )
    in_block block from (suc k) (t ∷ ss) s e is =
        let past : suc from + k ≡ from + suc k = omega arith in
        let found = in_block block (suc from) k ss s e is in
        one_more (is_global t.kind) (record { key = record { block = block; number = from }; symbol = t })
        (record { key = record { block = block; number = from + suc k }; symbol = s }) (globals_among (numbered block (suc from) ss))
        found.0 (found.1 ∙ ap (λ n. Some (record { key = record { block = block; number = n }; symbol = s })) past)

    in_front : (xs ys : List PlacedSymbol) (i : ℕ) (p : PlacedSymbol) → slice_get xs i ≡ Some p → slice_get (xs ++ ys) i ≡ Some p
    in_front [] ys i p e = absurd (none-some p e)
    in_front (x ∷ xs) ys zero p e = e
    in_front (x ∷ xs) ys (suc i) p e = in_front xs ys i p e

    after : (xs ys : List PlacedSymbol) (i : ℕ) (p : PlacedSymbol) → slice_get ys i ≡ Some p → (j : ℕ) × (slice_get (xs ++ ys) j ≡ Some p)
    after [] ys i p e = (i, e)
    after (x ∷ xs) ys i p e = let more = after xs ys i p e in (suc more.0, more.1)

    in_blocks : (block k number : ℕ) (more : List (List Symbol)) (s : Symbol) → slice_get (get_or more k []) number ≡ Some s → is_global s.kind ≡ true
        → (i : ℕ) × (slice_get (globals_among (numbered_in block more)) i ≡ Some (record { key = record { block = block + k; number = number }; symbol = s }))
    in_blocks block k number [] s e is = absurd (none-some s e)
    in_blocks block zero number (ss ∷ more) s e is =
        let found = in_block block 0 number ss s e is in
        let here : block ≡ block + 0 = omega arith in (
          found.0,
          ap (λ ps. slice_get ps found.0) (filter-append (λ (p : PlacedSymbol). is_global p.symbol.kind) (numbered block 0 ss) (numbered_in (suc block) more))
              ∙ in_front (globals_among (numbered block 0 ss)) (globals_among (numbered_in (suc block) more)) found.0 _ found.1
              ∙ ap (λ n. Some (record { key = record { block = block; number = n }; symbol = s })) (none_plus number)
              ∙ ap (λ b. Some (record { key = record { block = b; number = number }; symbol = s })) here,
        )
    in_blocks block (suc k) number (ss ∷ more) s e is =
        let past : suc block + k ≡ block + suc k = omega arith in
        let found = in_blocks (suc block) k number more s e is in
        let later = after (globals_among (numbered block 0 ss)) (globals_among (numbered_in (suc block) more)) found.0 _ found.1 in (
          later.0,
          ap (λ ps. slice_get ps later.0) (filter-append (λ (p : PlacedSymbol). is_global p.symbol.kind) (numbered block 0 ss) (numbered_in (suc block) more))
              ∙ later.1
              ∙ ap (λ b. Some (record { key = record { block = b; number = number }; symbol = s })) past,
        )

    global_there : (key : SymbolKey) (s : Symbol) → slice_get (block_symbols r key.block) key.number ≡ Some s → is_global s.kind ≡ true
        → slice_get unsorted (index key) ≡ Some (record { key = key; symbol = s })
    global_there key s e is =
        let found = in_blocks 0 key.block key.number (all_symbols r) s e is in
        let same = found.1 ∙ ap (λ b. Some (record { key = record { block = b; number = key.number }; symbol = s })) (none_plus key.block) in
        ap (slice_get unsorted) (sym (index_of found.0 (record { key = key; symbol = s }) same)) ∙ same

    -- the tokens of globals
    tokens_if : (b : Bool) (t : Symbol) (p : PlacedSymbol) (ps : List PlacedSymbol) (ts : List ℕ) → token p ≡ t.identifier.at → ts ≡ map token ps
        → replicate (one_if b) t.identifier.at ++ ts ≡ map token (cond b (p ∷ ps) ps)
    tokens_if true t p ps ts at e = ap (λ k. k ∷ ts) (sym at) ∙ ap (λ ks. token p ∷ ks) e
    tokens_if false t p ps ts at e = e

    block_tokens : (block from : ℕ) (ss : List Symbol) → AreAlike ss → old.global_tokens 63 ss ≡ map token (globals_among (numbered block from ss))
    block_tokens block from [] h = refl
    block_tokens block from (t ∷ ss) h =
        ap (λ k. replicate k t.identifier.at ++ old.global_tokens 63 ss) (one_alike t.kind h.0)
        ∙ tokens_if (is_global t.kind) t (record { key = record { block = block; number = from }; symbol = t }) (globals_among (numbered block (suc from) ss)) (old.global_tokens 63 ss) refl
        (block_tokens block (suc from) ss h.1)

    blocks_tokens : (block : ℕ) (more : List (List Symbol)) → AllByRecursion AreAlike more → old.all_tokens 63 more ≡ map token (globals_among (numbered_in block more))
    blocks_tokens block [] h = refl
    blocks_tokens block (ss ∷ more) h =
        ap (λ ts. ts ++ old.all_tokens 63 more) (block_tokens block 0 ss h.0)
        ∙ ap (λ ts. map token (globals_among (numbered block 0 ss)) ++ ts) (blocks_tokens (suc block) more h.1)
        ∙ sym (map-append token (globals_among (numbered block 0 ss)) (globals_among (numbered_in (suc block) more)))
        ∙ ap (map token) (sym (filter-append (λ (p : PlacedSymbol). is_global p.symbol.kind) (numbered block 0 ss) (numbered_in (suc block) more)))

    -- each number stands for the global at it
    abbrev At : ℕ → PlacedSymbol → Type 0
    At n p = slice_get unsorted n ≡ Some p

    at_each : (from : ℕ) (ps : List PlacedSymbol) → ((i : ℕ) → slice_get unsorted (from + i) ≡ slice_get ps i) → AllBoth At (numbers_from from (length ps)) ps
    at_each from [] h = tt
    at_each from (p ∷ ps) h =
        let here : from ≡ from + 0 = omega arith in (
          ap (slice_get unsorted) here ∙ h 0,
          at_each (suc from) ps (λ i. let next : suc from + i ≡ from + suc i = omega arith in ap (slice_get unsorted) next ∙ h (suc i)),
        )

    token_given : (ps : List PlacedSymbol) (n : ℕ) (p : PlacedSymbol) → slice_get ps n ≡ Some p → get_or (map token ps) n 0 ≡ token p
    token_given [] n p e = absurd (none-some p e)
    token_given (q ∷ ps) zero p e = ap token (same_Some q p e)
    token_given (q ∷ ps) (suc n) p e = token_given ps n p e

    -- the first with a key is the one under it
    module _ (key : SymbolKey) (s : Symbol) (at : slice_get (block_symbols r key.block) key.number ≡ Some s) (is : is_global s.kind ≡ true) where
      there : slice_get unsorted (index key) ≡ Some (record { key = key; symbol = s })
      there = global_there key s at is

      abbrev this : PlacedSymbol
      this = record { key = key; symbol = s }

      abbrev test : PlacedSymbol → Bool
      test p = nat_eq p.key.block key.block && nat_eq p.key.number key.number

      tested : (n : ℕ) (p : PlacedSymbol) → At n p → nat_eq n (index key) ≡ test p
      tested n p e = by (test p) refl
        where
          same : test p ≡ true → n ≡ index key
          same h =
              let both = and_parts _ _ h in
              let one : p.key.block ≡ key.block = eqb-true p.key.block key.block both.0 in
              let two : p.key.number ≡ key.number = eqb-true p.key.number key.number both.1 in
              index_of n p e ∙ ap (λ b. index (record { block = b; number = p.key.number })) one ∙ ap (λ k. index (record { block = key.block; number = k })) two

          other : test p ≡ false → n ≡ index key → ⊥
          other h is =
              let found : p ≡ this = same_Some p this (sym e ∙ ap (slice_get unsorted) is ∙ there) in
              let yes : test this ≡ true = and_from _ _ (eq-eqb key.block key.block refl) (eq-eqb key.number key.number refl) in
              true≢false (sym yes ∙ ap test (sym found) ∙ h)

          by : (b : Bool) → test p ≡ b → nat_eq n (index key) ≡ b
          by true h = eq-eqb n (index key) (same h)
          by false h = ne_eqb n (index key) (other h)

      placed_alike : (from : ℕ) (ns : List ℕ) (ps : List PlacedSymbol) → AllBoth At ns ps → Contains ns (index key) → place_from from (index key) ns ≡ from + count_before key ps
      placed_alike from [] [] h c = absurd (omega (arith, c.1))
      placed_alike from [] (p ∷ ps) h c = absurd h
      placed_alike from (n ∷ ns) [] h c = absurd h
      placed_alike from (n ∷ ns) (p ∷ ps) h c = by (nat_eq n (index key)) refl (tested n p h.0) c (λ there. placed_alike (suc from) ns ps h.1 there)
        where
          later : nat_eq n (index key) ≡ false → Contains (n ∷ ns) (index key) → Contains ns (index key)
          later other (zero, lt, e) = absurd (eqb-false n (index key) other e)
          later other (suc i, lt, e) = (i, omega (arith, lt), e)

          by : (b : Bool) → nat_eq n (index key) ≡ b → nat_eq n (index key) ≡ test p → Contains (n ∷ ns) (index key)
              → (Contains ns (index key) → place_from (suc from) (index key) ns ≡ suc from + count_before key ps)
              → place_from from (index key) (n ∷ ns) ≡ from + count_before key (p ∷ ps)
          by true is same c rest =
              let none : from ≡ from + 0 = omega arith in
              cond-true (nat_eq n (index key)) from (place_from (suc from) (index key) ns) is ∙ none
              ∙ ap (λ k. from + k) (sym (cond-true (test p) 0 (suc (count_before key ps)) (sym same ∙ is)))
          by false is same c rest =
              let next : suc from + count_before key ps ≡ from + suc (count_before key ps) = omega arith in
              cond-false (nat_eq n (index key)) from (place_from (suc from) (index key) ns) is
              ∙ rest (later is c)
              ∙ next
              ∙ ap (λ k. from + k) (sym (cond-false (test p) 0 (suc (count_before key ps)) (sym same ∙ is)))

      pub number_alike : old.global_number 63 r key ≡ global_number r key
      number_alike =
          let tokens : old.all_tokens 63 (all_symbols r) ≡ map token unsorted = blocks_tokens 0 (all_symbols r) alike in
          let many : length (map token unsorted) ≡ length unsorted = length-map unsorted token in
          let within : index key < length (map token unsorted) = omega (arith, many, slice_get_within unsorted (index key) this there) in
          let order : List ℕ = text_order (map token unsorted) in
          let both : AllBoth At (numbers_from 0 (length (map token unsorted))) unsorted =
          subst (λ k. AllBoth At (numbers_from 0 k) unsorted) (sym many) (at_each 0 unsorted (λ i. ap (slice_get unsorted) (none_plus i))) in
          let sorted : AllBoth At order (globals_in r) =
          both_in_order nat_cmp At (λ n. get_or (map token unsorted) n 0) token (λ n p h. token_given unsorted n p h) [] (numbers_from 0 (length (map token unsorted))) [] unsorted tt both in
          ap (λ ts. get_or (text_places ts) (index key) 0) tokens
          ∙ given_under (λ n. place_from 0 n order) 0 (length (map token unsorted)) (index key) (index key) 0 (none_plus (index key)) within
          ∙ placed_alike 0 order (globals_in r) sorted (order_contains (map token unsorted) (index key) within)
          ∙ none_plus (count_before key (globals_in r))
