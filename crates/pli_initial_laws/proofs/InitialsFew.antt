-- A variable has at most one initial value for each of its scalars.
use Rattle.std.proofs.Common.{◌≡◌, ℕ, suc, ◌+◌, ◌<◌, ◌≤◌, nat_eq, Bool, true, false, if◌then◌else◌, Option, Some, None, slice_get, List, [], ◌∷◌, ◌++◌, map, length, get_or, length-append, refl, sym, ap, subst, ◌∙◌, inl, inr, arith}
use Rattle.std.specs.List.{AllByRecursion, flat_map}
use Rattle.std.proofs.lemmas.Bool.{cases_lt, eqb-true}
use Rattle.std.proofs.lemmas.Option.{slice_get_within, get_or_from_slice_get}
use Rattle.pli_base.specs.Name.{Name}
use Rattle.pli_base.specs.Statements.{ExternalProcedure}
use Rattle.pli_base.specs.declared.declaration.InitialValue.{InitialValue}
use Rattle.pli_base.specs.declared.syntax.Identifier.{Identifier}
use Rattle.pli_map.specs.Description.{Description}
use Rattle.pli_map.specs.Scalars.{scalars_in}
use Rattle.pli_declare.specs.Resolution.{parameters_of, resolution_faults}
use Rattle.pli_declare.proofs.ListsByNumber.{made_at, made_length}
use Rattle.pli_declare.specs.Completed.{OfVariable}
use Rattle.pli_declare.specs.declared.completed.ScopeAttribute.{ScopeAttribute}
use Rattle.pli_declare_outline.specs.Outlines.{outline_of}
use Rattle.pli_declare.specs.Tables.{Entry, no_entry, entries_in}
use Rattle.pli_declare.specs.Declarations.{Declaration, DeclaredKind, OfItem, declaration_at, declared_in}
use Rattle.pli_declare.specs.ResolvedUnits.{resolved_unit_of, all_symbols, facts_of, block_regions_of}
use Rattle.pli_declare.specs.Symbols.{Symbol, SymbolKind, SymbolFacts, Way, Variable, OpenParameter, Member, Label, Procedure, Entry as AnEntry, BuiltIn, no_way, symbol_kind, ways_of}
use Rattle.pli_declare.specs.declared.block_numbers.BlockRegion.{BlockRegion}
use Rattle.pli_declare.specs.declared.symbol.StorageClass.{StorageClass}
use Rattle.pli_declare.specs.declared.symbol.SymbolKey.{SymbolKey}
use Rattle.pli_resolve.proofs.MembersAreParts.{found_of, members_are_parts, own_not_member, region_good, region_items, region_owners, symbol_nowhere, symbol_there}
use Rattle.pli_resolve_bounds.specs.SymbolBounds.{IsLimited}
use Rattle.pli_resolve_bounds.proofs.SymbolsWithin.{symbols_are_limited}
use Rattle.pli_map.specs.Parts.{PlacedPart}
use Rattle.pli_type_rules.specs.InitialScalars.{each_with, initial_scalars, scalars_on, values_written, InitialItem, template_of}
use Rattle.pli_type_rules.specs.NamedUnits.{member_items}
use Rattle.pli_value.specs.Value.{Value}
use Rattle.pli_initial_laws.specs.InitialCounts.{HasFewInitial, HaveFewInitial, InitialValuesAreFew}
use Rattle.pli_initial_laws.proofs.ScalarCounts.{taken, Differs, AreDistinct, Reaches, AllReach, spread, scalars_take}
use Rattle.pli_initial_laws.proofs.WaysDiffer.{same_way, some_way}

some_is : {A : Type 0} (x y : A) → Some x ≡ Some y → x ≡ y
some_is x y e = cc

nothing : {A : Type 0} (x : A) → None ≡ Some x → ⊥
nothing x e = cc

-- ---- how many initial values items have

fewer : (ss : List PlacedPart) (vs : List Value) → length (each_with ss vs) ≤ length ss
fewer [] vs = omega arith
fewer (s ∷ ss) [] = omega arith
fewer (s ∷ ss) (v ∷ vs) = omega (arith, fewer ss vs)

abbrev way_of : InitialItem → List ℕ
way_of i = i.path

items_taken : (d : Description) (items : List InitialItem) → length (flat_map (initial_scalars d) items) ≤ taken d (map way_of items)
items_taken d [] = omega arith
items_taken d (i ∷ is) =
    omega (arith, length-append (initial_scalars d i) (flat_map (initial_scalars d) is), fewer (scalars_on d i.path 0) (values_written i.values), items_taken d is)

-- ---- the items of the members of one variable

module _ (P : InitialItem → Type 0) (root : ℕ) where
  one_if : (b : Bool) (path : List ℕ) (values : List InitialValue) (rest : List InitialItem) → (b ≡ true → P (record { path = path; values = values }))
      → AllByRecursion P rest → AllByRecursion P ((if b then record { path = path; values = values } ∷ [] else []) ++ rest)
  one_if true path values rest here h = (here refl, h)
  one_if false path values rest here h = h

  each_item : (ss : List Symbol)
      → ((n : ℕ) (s : Symbol) (path : List ℕ) (values : List InitialValue) (area : Option SymbolKey) → slice_get ss n ≡ Some s → s.kind ≡ Member root path values area
      → P (record { path = path; values = values }))
      → AllByRecursion P (member_items root ss)
  each_item [] each = tt
  each_item (s ∷ ss) each = with_kind s.kind refl (each_item ss (λ n. each (suc n)))
    where
      with_kind : (kind : SymbolKind) → s.kind ≡ kind → AllByRecursion P (member_items root ss)
          → AllByRecursion P (member_items root (record { identifier = s.identifier; kind = kind } ∷ ss))
      with_kind (Variable d class scope values area) is rest = rest
      with_kind (OpenParameter type slot area) is rest = rest
      with_kind (Member owner path values area) is rest =
          one_if (nat_eq owner root) path values (member_items root ss)
          (λ same. each 0 s path values area refl (is ∙ ap (λ o. Member o path values area) (eqb-true owner root same))) rest
      with_kind (Label statement) is rest = rest
      with_kind (Procedure block returned area) is rest = rest
      with_kind (AnEntry parameters returned area) is rest = rest
      with_kind BuiltIn is rest = rest

ways_differ : (p : List ℕ) (items : List InitialItem) → AllByRecursion (λ i. p ≡ i.path → ⊥) items → Differs p (map way_of items)
ways_differ p [] h = tt
ways_differ p (i ∷ is) h = (h.0, ways_differ p is h.1)

ways_reach : (d : Description) (items : List InitialItem) → AllByRecursion (λ i. Reaches d i.path) items → AllReach d (map way_of items)
ways_reach d [] h = tt
ways_reach d (i ∷ is) h = (h.0, ways_reach d is h.1)

-- no two members have one way
abbrev WaysDiffer : (root : ℕ) → List Symbol → Type 0
WaysDiffer root ss =
    (n m : ℕ) (s t : Symbol) (path : List ℕ) (values others : List InitialValue) (area other : Option SymbolKey) → n < m
    → slice_get ss n ≡ Some s → slice_get ss m ≡ Some t → s.kind ≡ Member root path values area → t.kind ≡ Member root path others other → ⊥

items_distinct : (root : ℕ) (ss : List Symbol) → WaysDiffer root ss → AreDistinct (map way_of (member_items root ss))
items_distinct root [] h = tt
items_distinct root (s ∷ ss) h =
    with_kind s.kind refl (items_distinct root ss (λ n m x y path values others area other less. h (suc n) (suc m) x y path values others area other (omega (arith, less))))
  where
    one : (b : Bool) (path : List ℕ) (values : List InitialValue) → (b ≡ true → Differs path (map way_of (member_items root ss)))
        → AreDistinct (map way_of (member_items root ss))
        → AreDistinct (map way_of ((if b then record { path = path; values = values } ∷ [] else []) ++ member_items root ss))
    one true path values here rest = (here refl, rest)
    one false path values here rest = rest

    later : (path : List ℕ) (values : List InitialValue) (area : Option SymbolKey) → s.kind ≡ Member root path values area
        → AllByRecursion (λ i. path ≡ i.path → ⊥) (member_items root ss)
    later path values area is =
        each_item (λ i. path ≡ i.path → ⊥) root ss
        (λ n t p others other there kind same.
        h 0 (suc n) s t path values others area other (omega arith) refl there is (kind ∙ ap (λ q. Member root q others other) (sym same)))

    with_kind : (kind : SymbolKind) → s.kind ≡ kind → AreDistinct (map way_of (member_items root ss))
        → AreDistinct (map way_of (member_items root (record { identifier = s.identifier; kind = kind } ∷ ss)))
    with_kind (Variable d class scope values area) is rest = rest
    with_kind (OpenParameter type slot area) is rest = rest
    with_kind (Member owner path values area) is rest =
        one (nat_eq owner root) path values
        (λ same. ways_differ path (member_items root ss) (later path values area (is ∙ ap (λ o. Member o path values area) (eqb-true owner root same)))) rest
    with_kind (Label statement) is rest = rest
    with_kind (Procedure block returned area) is rest = rest
    with_kind (AnEntry parameters returned area) is rest = rest
    with_kind BuiltIn is rest = rest

-- ---- the symbols of a block

abbrev IsOwned : Way → (owner : Option ℕ) → (root : ℕ) → (path : List ℕ) → Type 0
IsOwned w owner root path = (o : ℕ) × (owner ≡ Some o) × (w.root ≡ root) × (w.path ≡ path)

-- only what has an owner is a member
only_member : (f : SymbolFacts) (ps : List Name) (w : Way) (i : Identifier) (owner : Option ℕ) (kind : DeclaredKind) (root : ℕ) (path : List ℕ) (initial : List InitialValue) (area : Option SymbolKey)
    → symbol_kind f ps w i owner kind ≡ Member root path initial area → IsOwned w owner root path
only_member f ps w i (Some o) (OfItem (OfVariable v) d) root path initial area e = (o, refl, cc, cc)
only_member f ps w i None (OfItem (OfVariable v) d) root path initial area e = absurd (own_not_member v.taken _ _ _ _ _ _ root path initial area e)
only_member f ps w i owner kind root path initial area e = cc

module _ (u : ExternalProcedure) (h : resolution_faults u ≡ []) where
  abbrev symbols : (block : ℕ) → List Symbol
  symbols block = get_or (all_symbols (resolved_unit_of u)) block []

  abbrev key_to : (block number : ℕ) → SymbolKey
  key_to block number = record { block = block; number = number }

  -- a member is an entry with an owner, on its way
  pub record IsMemberAt (b : BlockRegion) (n root : ℕ) (path : List ℕ) : Type 0 where
    pub low : n < length (entries_in (outline_of u) b.region)
    pub owner : ℕ
    pub owned : (get_or (entries_in (outline_of u) b.region) n no_entry).owner ≡ Some owner
    pub root_is :
        (get_or (ways_of (declared_in (entries_in (outline_of u) b.region) (parameters_of (outline_of u) b.region))) n no_way).root ≡ root
    pub path_is :
        (get_or (ways_of (declared_in (entries_in (outline_of u) b.region) (parameters_of (outline_of u) b.region))) n no_way).path ≡ path

  module _ (block : ℕ) (b : BlockRegion) (found : slice_get (block_regions_of u) block ≡ Some b) where
    abbrev es : List Entry
    es = entries_in (outline_of u) b.region

    abbrev ps : List Name
    ps = parameters_of (outline_of u) b.region

    member_in : b.region < length (outline_of u).regions → (n : ℕ) (s : Symbol) (root : ℕ) (path : List ℕ) (initial : List InitialValue) (area : Option SymbolKey)
        → slice_get (symbols block) n ≡ Some s → s.kind ≡ Member root path initial area → IsMemberAt b n root path
    member_in lt n s root path initial area e k =
        let of = found_of (facts_of u) ps (ways_of (declared_in es ps)) (declared_in es ps) n s (sym (symbol_there u h (key_to block n) b found lt n) ∙ e) in
        let low : n < length es = omega (arith, slice_get_within (declared_in es ps) n of.1 of.3, made_length (declaration_at es ps) (length es)) in
        let it : declaration_at es ps n ≡ of.1 =
        sym (made_at (declaration_at es ps) (length es) n of.1 low) ∙ get_or_from_slice_get (declared_in es ps) n of.1 of.1 of.3 in
        let way_it : get_or (ways_of (declared_in es ps)) n no_way ≡ of.0 = get_or_from_slice_get (ways_of (declared_in es ps)) n of.0 no_way of.2 in
        let member = only_member (facts_of u) ps of.0 of.1.identifier of.1.owner of.1.kind root path initial area (ap (λ (x : Symbol). x.kind) of.4 ∙ k) in
        record {
          low = low;
          owner = member.0;
          owned = ap (λ (x : Declaration). x.owner) it ∙ member.1;
          root_is = ap (λ (w : Way). w.root) way_it ∙ member.2;
          path_is = ap (λ (w : Way). w.path) way_it ∙ member.3;
        }

    member_of_block : (n : ℕ) (s : Symbol) (root : ℕ) (path : List ℕ) (initial : List InitialValue) (area : Option SymbolKey)
        → slice_get (symbols block) n ≡ Some s → s.kind ≡ Member root path initial area
        → (b.region < length (outline_of u).regions) × IsMemberAt b n root path
    member_of_block n s root path initial area e k = elim (cases_lt b.region (length (outline_of u).regions)) [
      | inl lt ↦ (lt, member_in lt n s root path initial area e k)
      | inr past ↦ absurd (nothing s (sym (symbol_nowhere u h (key_to block n) b found past) ∙ e))
    ]

    -- members on one way are one
    one_way : (n m root : ℕ) (path : List ℕ) → b.region < length (outline_of u).regions → IsMemberAt b n root path → IsMemberAt b m root path → n ≡ m
    one_way n m root path lt x y =
        same_way es ps (region_owners u h (key_to block n) b found lt) (region_items u h (key_to block n) b found lt)
        (region_good u h (key_to block n) b found lt) n m x.low y.low (x.root_is ∙ sym y.root_is) (x.path_is ∙ sym y.path_is)

    -- and their way is not that of the variable itself
    not_whole : (n root : ℕ) (path : List ℕ) → b.region < length (outline_of u).regions → IsMemberAt b n root path → [] ≡ path → ⊥
    not_whole n root path lt x none =
        some_way es ps (region_owners u h (key_to block n) b found lt) (region_items u h (key_to block n) b found lt)
        (region_good u h (key_to block n) b found lt) n x.owner x.low x.owned (none ∙ sym x.path_is)

  module _ (block : ℕ) where
    block_differs : (root : ℕ) → WaysDiffer root (symbols block)
    block_differs root n m s t path values others area other less there beyond is was =
        let p = members_are_parts u h (key_to block n) s root path values area there is in
        let x = member_of_block block p.block p.stands n s root path values area there is in
        let y = member_of_block block p.block p.stands m t root path others other beyond was in
        let same = one_way block p.block p.stands n m root path x.0 x.1 y.1 in
        omega (arith, less, same)

    not_all : (root n : ℕ) (s : Symbol) (path : List ℕ) (values : List InitialValue) (area : Option SymbolKey) → slice_get (symbols block) n ≡ Some s
        → s.kind ≡ Member root path values area → [] ≡ path → ⊥
    not_all root n s path values area there is =
        let p = members_are_parts u h (key_to block n) s root path values area there is in
        let x = member_of_block block p.block p.stands n s root path values area there is in
        not_whole block p.block p.stands n root path x.0 x.1

    -- a member's way leads from its variable to a part
    leads : (root n : ℕ) (s whole : Symbol) (path : List ℕ) (values initial : List InitialValue) (area other : Option SymbolKey)
        (d : Description) (class : StorageClass) (scope : ScopeAttribute) → slice_get (symbols block) root ≡ Some whole → whole.kind ≡ Variable d class scope initial other
        → slice_get (symbols block) n ≡ Some s → s.kind ≡ Member root path values area → Reaches d path
    leads root n s whole path values initial area other d class scope at_root as_whole there is =
        let p = members_are_parts u h (key_to block n) s root path values area there is in
        let one : p.symbol ≡ whole = some_is p.symbol whole (sym p.there ∙ at_root) in
        let kinds : Variable p.description p.class p.scope p.initial p.area ≡ Variable d class scope initial other =
        sym p.is_variable ∙ ap (λ (x : Symbol). x.kind) one ∙ as_whole in
        subst (λ e. Reaches e path) (same_description p.description d p.class class p.scope scope p.initial initial p.area other kinds) (p.part, p.leads)
      where
        same_description : (c d : Description) (k l : StorageClass) (s t : ScopeAttribute) (v w : List InitialValue) (a b : Option SymbolKey)
            → Variable c k s v a ≡ Variable d l t w b → c ≡ d
        same_description c d k l s t v w a b e = cc

    variable_few : (n : ℕ) (s : Symbol) (d : Description) (class : StorageClass) (scope : ScopeAttribute) (values : List InitialValue) (area : Option SymbolKey)
        → slice_get (symbols block) n ≡ Some s → s.kind ≡ Variable d class scope values area
        → length (template_of d (record { path = []; values = values } ∷ member_items n (symbols block))).initial ≤ scalars_in d
    variable_few n s d class scope values area there is =
        let items = member_items n (symbols block) in
        let whole : InitialItem = record { path = []; values = values } in
        let differ = ways_differ [] items (each_item (λ i. [] ≡ i.path → ⊥) n (symbols block) (λ k t path inner of at kind. not_all n k t path inner of at kind)) in
        let distinct = items_distinct n (symbols block) (block_differs n) in
        let reach =
        ways_reach d items
        (each_item (λ i. Reaches d i.path) n (symbols block)
        (λ k t path inner of at kind. leads n k t s path inner values of area d class scope there is at kind)) in
        omega (arith, items_taken d (whole ∷ items), spread d ([] ∷ map way_of items) (differ, distinct) ((d, refl), reach))

  -- ---- all blocks

  has_few : (block n : ℕ) (s : Symbol) → slice_get (symbols block) n ≡ Some s → IsLimited s.kind → HasFewInitial (symbols block) n s.kind
  has_few block n s there limited = by s.kind refl limited
    where
      by : (kind : SymbolKind) → s.kind ≡ kind → IsLimited kind → HasFewInitial (symbols block) n kind
      by (Variable d class scope values area) is made =
          (variable_few block n s d class scope values area there is, omega (arith, scalars_take 512 d made.0, made.1))
      by (OpenParameter type slot area) is made = tt
      by (Member root path values area) is made = tt
      by (Label statement) is made = tt
      by (Procedure inner returned area) is made = tt
      by (AnEntry parameters returned area) is made = tt
      by BuiltIn is made = tt

  have_few : (block number : ℕ) (ss : List Symbol) → ((n : ℕ) (s : Symbol) → slice_get ss n ≡ Some s → slice_get (symbols block) (number + n) ≡ Some s)
      → AllByRecursion (λ s. IsLimited s.kind) ss → HaveFewInitial (symbols block) number ss
  have_few block number [] there limited = tt
  have_few block number (s ∷ ss) there limited = (
    has_few block number s (let here : number + 0 ≡ number = omega arith in ap (slice_get (symbols block)) (sym here) ∙ there 0 s refl) limited.0,
    have_few block (suc number) ss
        (λ n t e. let next : number + suc n ≡ suc number + n = omega arith in ap (slice_get (symbols block)) (sym next) ∙ there (suc n) t e) limited.1,
  )

  block_few : (block : ℕ) → AllByRecursion (λ s. IsLimited s.kind) (symbols block) → HaveFewInitial (symbols block) 0 (symbols block)
  block_few block limited =
      have_few block 0 (symbols block) (λ n s e. let same : 0 + n ≡ n = omega arith in ap (slice_get (symbols block)) same ∙ e) limited

  blocks_few : (first : ℕ) (bs : List (List Symbol)) → ((k : ℕ) → k < length bs → get_or bs k [] ≡ symbols (first + k))
      → AllByRecursion (λ ss. AllByRecursion (λ s. IsLimited s.kind) ss) bs → AllByRecursion (λ ss. HaveFewInitial ss 0 ss) bs
  blocks_few first [] there limited = tt
  blocks_few first (ss ∷ bs) there limited =
      let here : ss ≡ symbols first = there 0 (omega arith) ∙ ap symbols (let same : first + 0 ≡ first = omega arith in same) in (
        subst (λ (xs : List Symbol). HaveFewInitial xs 0 xs) (sym here)
            (block_few first (subst (λ (xs : List Symbol). AllByRecursion (λ s. IsLimited s.kind) xs) here limited.0)),
        blocks_few (suc first) bs
            (λ k lt. there (suc k) (omega (arith, lt)) ∙ ap symbols (let next : first + suc k ≡ suc first + k = omega arith in next)) limited.1,
      )

pub initial_values_are_few : InitialValuesAreFew
initial_values_are_few u h =
    blocks_few u h 0 (all_symbols (resolved_unit_of u))
    (λ k lt. ap (λ n. get_or (all_symbols (resolved_unit_of u)) n []) (let same : k ≡ 0 + k = omega arith in same))
    (symbols_are_limited u h)
