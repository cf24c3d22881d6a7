-- Members are parts of variables.
use Rattle.std.proofs.Common.{◌≡◌, ℕ, zero, suc, ◌+◌, ◌<◌, ◌≤◌, ◌==◌, Bool, true, false, not, ◌&&◌, if◌then◌else◌, Option, Some, None, is_none, option_map, option_and_then, List, [], ◌∷◌, ◌++◌, length, get_or, slice_get, inl, inr, refl, sym, ap, ◌∙◌, subst, arith}
use Rattle.std.specs.List.{list_all}
use Rattle.std.proofs.lemmas.Bool.{cases_lt, cases_eq, eqb-true, lt-ltb}
use Rattle.std.proofs.lemmas.List.{get_or_past}
use Rattle.std.proofs.lemmas.Option.{slice_get_within, get_or_from_slice_get}
use Rattle.pli_base.specs.Name.{Name}
use Rattle.pli_base.specs.Statements.{ExternalProcedure}
use Rattle.pli_base.specs.declared.declaration.WrittenBounds.{WrittenBounds}
use Rattle.pli_base.specs.declared.declaration.InitialValue.{InitialValue}
use Rattle.pli_base.specs.declared.syntax.Identifier.{Identifier}
use Rattle.pli_map.specs.Description.{Description}
use Rattle.pli_map.specs.ParameterTypes.{ParameterType}
use Rattle.pli_declare.specs.Completed.{Variable as AVariable, OfVariable, OfEntry, OfBuiltIn}
use Rattle.pli_declare.specs.Extents.{is_array}
use Rattle.pli_declare.specs.declared.completed.ScopeAttribute.{ScopeAttribute}
use Rattle.pli_declare.specs.Faults.{item_fault}
use Rattle.pli_declare_outline.specs.Outlines.{Mark, Declared, Labelled, Entered, Used, Jumped, PlacedMark, outline_of}
use Rattle.pli_declare.specs.Tables.{Entity, Entry, no_entry, entries_in, heading_entries, unit_entries}
use Rattle.pli_declare.specs.answers.Owners.{AreAfterOwners}
use Rattle.pli_declare.proofs.MembersStandAfter.{owners_stand_before}
use Rattle.pli_declare.specs.Places.{members_of, owners_of, place_in, item_in, item_of, own_code, is_variable, is_unsubscripted}
use Rattle.pli_declare.specs.Descriptions.{is_of_shape, own_codes, description_of}
use Rattle.pli_declare.specs.Declarations.{Declaration, DeclaredKind, OfItem, OfLabel, OfProcedure, IsGood, AreGood, declaration_at, declared_in, kind_of, whole_description}
use Rattle.pli_declare.proofs.MembersFound.{before}
use Rattle.pli_declare.proofs.OwnerLemmas.{owners_next}
use Rattle.pli_declare.proofs.NumberListLemmas.{filtered}
use Rattle.pli_declare.specs.Resolution.{parameters_of, resolution_faults}
use Rattle.pli_declare.specs.Resolved.{resolved_of, block_at}
use Rattle.pli_declare.specs.Resolved as declare
use Rattle.pli_declare.proofs.ListsByNumber.{made_at, made_length}
use Rattle.pli_declare.specs.Symbols.{Symbol, SymbolFacts, Variable, Member, Way, no_way, ways_of, class_of, place_among, locator_of, area_of, kind_with, symbol_kind, symbol_of, symbols_with}
use Rattle.pli_declare.specs.ResolvedUnits.{resolved_unit_of, symbol_at, facts_of, region_block, block_regions_of, no_block}
use Rattle.pli_resolve.specs.laws.LocatorLaws.{plain_member, plain_part}
use Rattle.pli_resolve.specs.laws.MemberLaws.{member_of, part_on, IsPart, MembersAreParts}
use Rattle.pli_declare.specs.declared.block_numbers.BlockRegion.{BlockRegion}
use Rattle.pli_declare.specs.declared.symbol.StorageClass.{StorageClass}
use Rattle.pli_declare.specs.declared.symbol.SymbolKey.{SymbolKey}
use Rattle.pli_resolve.proofs.SymbolsAt.{symbols_at, symbol_inside, symbol_outside, symbol_beyond}
use Rattle.pli_resolve.proofs.WaysToMembers.{hits, at_hit, is_owner, owner_here, way_by, ways_are}
use Rattle.pli_resolve.proofs.PartsOfMembers.{of_owner, part_further, plain_further, structure_alone, each_described}
use Rattle.pli_resolve.proofs.OwnersAreItems.{IsItem, OwnersAreItems, owners_are_items}
use Rattle.pli_resolve.proofs.BuiltInNames.{with_members}
use Rattle.pli_resolve.proofs.DeclaredBlocks.{symbol_among}
use Rattle.pli_resolve.proofs.MeantNames.{all_good, declared_number}

some_there : (n : ℕ) → 0 < n → not (n == 0) ≡ true
some_there n lt = by (n == 0) refl
  where
    by : (b : Bool) → (n == 0) ≡ b → not b ≡ true
    by true e = absurd (omega (arith, lt, eqb-true n 0 e))
    by false e = refl

left_true : (a b : Bool) → (a && b) ≡ true → a ≡ true
left_true true b h = refl
left_true false b h = cc

right_true : (a b : Bool) → (a && b) ≡ true → b ≡ true
right_true true b h = h
right_true false b h = cc

only_one : {A : Type 0} {x y : A} → Some x ≡ Some y → x ≡ y
only_one e = cc

pub no_dimensions : (es : List Entry) (n : ℕ) → not (is_array (item_of es n).dimensions) ≡ true → (item_of es n).dimensions ≡ []
no_dimensions es n h = by (item_of es n).dimensions h
  where
    by : (bounds : List WrittenBounds) → not (is_array bounds) ≡ true → bounds ≡ []
    by [] f = refl
    by (b ∷ bs) f =
        let bad : false ≡ true = sym (ap not (lt-ltb 0 (length (b ∷ bs)) (omega arith))) ∙ f in
        cc

-- names that stand after their owners, where owners are items, and none has a fault of its own
module _ (es : List Entry) (ps : List Name) (owners : AreAfterOwners es) (items : OwnersAreItems es) (good : AreGood es ps) where
  abbrev pub size : ℕ
  size = length es

  abbrev pub owner : ℕ → Option ℕ
  owner n = (get_or es n no_entry).owner

  abbrev pub way : ℕ → Way
  way n = get_or (ways_of (declared_in es ps)) n no_way

  abbrev place : (number owned_by : ℕ) → ℕ
  place n o = hits (λ k. is_owner o (owner k)) 0 n

  pub way_is : (n : ℕ) → n < size → way n ≡ way_by (ways_of (declared_in es ps)) n (place n) (owner n)
  way_is n lt = ways_are owner (declaration_at es ps) (λ k. refl) size (λ k o low e. before es owners k o low e) n lt

  pub member_here : (n o : ℕ) → n < size → owner n ≡ Some o → (get_or (members_of es o) (place n o) 0 ≡ n) × (place n o < length (members_of es o))
  member_here n o lt e =
      let same : 0 + n ≡ n = omega arith in
      let hit = at_hit (λ k. is_owner o (owner k)) 0 size n lt (ap (λ k. is_owner o (owner k)) same ∙ ap (is_owner o) e ∙ owner_here o) in
      (hit.0 ∙ same, hit.1)

  -- what is known of the way to a name
  pub record Rooted (n : ℕ) (w : Way) : Type 0 where
    pub low : w.root < size
    pub alone : owner w.root ≡ None
    pub leads : (d : Description) → description_of es ps w.root ≡ Some d → (e : Description) × (description_of es ps n ≡ Some e) × (part_on d w.path ≡ Some e)
    pub parent : (o : ℕ) → owner n ≡ Some o → 0 < length (members_of es w.root)
    pub over : (test : ℕ → Bool) → list_all test (n ∷ owners_of es n) ≡ true → test w.root ≡ true
    pub plain : is_unsubscripted es n ≡ true → (d e : Description) → description_of es ps w.root ≡ Some d → description_of es ps n ≡ Some e → plain_part d w.path ≡ Some e

  -- what holds of it and of all that it is a member of holds of its owner and of all that that is one of
  tests_above : (n o : ℕ) → o < size → owner n ≡ Some o → (test : ℕ → Bool) → list_all test (n ∷ owners_of es n) ≡ true → list_all test (o ∷ owners_of es o) ≡ true
  tests_above n o low e test h =
      ap (list_all test) (sym (owners_next es owners n o low e)) ∙ right_true (test n) (list_all test (owners_of es n)) h

  unsubscripted_above : (n o : ℕ) → o < size → owner n ≡ Some o → is_unsubscripted es n ≡ true → is_unsubscripted es o ≡ true
  unsubscripted_above n o low e h = tests_above n o low e (λ k. not (is_array (item_of es k).dimensions)) h

  rooted_alone : (n : ℕ) → n < size → owner n ≡ None → Rooted n (record { root = n; path = [] })
  rooted_alone n lt e = record {
    low = lt;
    alone = e;
    leads = λ d h. (d, h, refl);
    parent = λ o f. absurd (none o (sym e ∙ f));
    over = λ test h. left_true (test n) (list_all test (owners_of es n)) h;
    plain = λ h d x f g. sym f ∙ g;
  }
    where
      none : (o : ℕ) → None ≡ Some o → ⊥
      none o f = cc

  parent_of : (n o : ℕ) → n < size → o < size → owner n ≡ Some o → Rooted o (way o) → (x : Option ℕ) → owner o ≡ x → 0 < length (members_of es (way o).root)
  parent_of n o lt low e r None f =
      let same : (way o).root ≡ o = ap (λ (w : Way). w.root) (way_is o low ∙ ap (way_by (ways_of (declared_in es ps)) o (place o)) f) in
      let some : 0 < length (members_of es o) = omega (arith, (member_here n o lt e).1) in
      subst (λ k. 0 < length (members_of es k)) (sym same) some
  parent_of n o lt low e r (Some p) f = r.parent p f

  plain_below : (n o : ℕ) → n < size → o < size → owner n ≡ Some o → (w : Way) → Rooted o w → is_unsubscripted es n ≡ true → (d x : Description) → description_of es ps w.root ≡ Some d
      → description_of es ps n ≡ Some x → plain_part d (w.path ++ place n o ∷ []) ≡ Some x
  plain_below n o lt low e w r h d x f g =
      let above = unsubscripted_above n o low e h in
      let it = r.leads d f in
      let here = member_here n o lt e in
      let many : 0 < length (members_of es o) = omega (arith, here.1) in
      let shape = structure_alone (length es) es (own_codes es ps) o it.0 it.1 (no_dimensions es o (left_true _ _ above)) many in
      let there = of_owner (length es) es owners (own_codes es ps) refl o (place n o) it.0 it.1 here.1 in
      let same : there.0 ≡ x = only_one (sym there.1 ∙ ap (description_of es ps) here.0 ∙ g) in
      plain_further d w.path (place n o) it.0 x (r.plain above d it.0 f it.1)
      (ap (λ y. plain_member y (place n o)) shape.1 ∙ sym (ap (λ y. member_of y (place n o)) shape.1) ∙ there.2 ∙ ap (λ y. Some y) same)

  rooted_below : (n o : ℕ) → n < size → o < size → owner n ≡ Some o → Rooted o (way o) → Rooted n (record { root = (way o).root; path = (way o).path ++ place n o ∷ [] })
  rooted_below n o lt low e r = record {
    low = r.low;
    alone = r.alone;
    leads = λ d h. further d (r.leads d h);
    parent = λ p f. parent_of n o lt low e r (owner o) refl;
    over = λ test h. r.over test (tests_above n o low e test h);
    plain = λ h d x f g. plain_below n o lt low e (way o) r h d x f g;
  }
    where
      further : (d : Description) → (x : Description) × (description_of es ps o ≡ Some x) × (part_on d (way o).path ≡ Some x)
          → (x : Description) × (description_of es ps n ≡ Some x) × (part_on d ((way o).path ++ place n o ∷ []) ≡ Some x)
      further d found =
          let here = member_here n o lt e in
          let there = of_owner (length es) es owners (own_codes es ps) refl o (place n o) found.0 found.1 here.1 in
          (there.0, ap (description_of es ps) (sym here.0) ∙ there.1, part_further d (way o).path (place n o) found.0 there.0 found.2 there.2)

  rooted_by : (n : ℕ) → n < size → (x : Option ℕ) → owner n ≡ x → ((o : ℕ) → o < n → o < size → Rooted o (way o)) → Rooted n (way n)
  rooted_by n lt None e inner =
      subst (Rooted n) (sym (way_is n lt ∙ ap (way_by (ways_of (declared_in es ps)) n (place n)) e)) (rooted_alone n lt e)
  rooted_by n lt (Some o) e inner =
      let less = before es owners n o lt e in
      let low : o < size = omega (arith, less, lt) in
      subst (Rooted n) (sym (way_is n lt ∙ ap (way_by (ways_of (declared_in es ps)) n (place n)) e)) (rooted_below n o lt low e (inner o less low))

  rooted_under : (m n : ℕ) → n < m → n < size → Rooted n (way n)
  rooted_under zero n less lt = absurd (omega (arith, less))
  rooted_under (suc m) n less lt = rooted_by n lt (owner n) refl (λ o low within. rooted_under m o (omega (arith, less, low)) within)

  pub rooted : (n : ℕ) → n < size → Rooted n (way n)
  rooted n lt = rooted_under (suc n) n (omega arith) lt

  -- the root is a variable, and is described
  abbrev pub ItemAt : ℕ → Type 0
  ItemAt n = IsItem (get_or es n no_entry).entity

  pub own_none : (n : ℕ) → n < size → (x : ItemAt n) → item_fault (place_in es ps n) x.0 ≡ None
  own_none n lt x =
      let fine = subst (IsGood es ps n) x.2 (good n lt) in
      subst (λ (e : Entity). item_fault (place_in es ps n) (item_in e) ≡ None) x.2 fine.1

  pub shape_good : (n : ℕ) → n < size → ItemAt n → is_of_shape (get_or (own_codes es ps) n None) ≡ false
  shape_good n lt x =
      ap is_of_shape
      (made_at (own_code es ps) (length es) n None lt ∙ ap (λ (e : Entity). item_fault (place_in es ps n) (item_in e)) x.2 ∙ own_none n lt x)

  members_items : (n i : ℕ) → i < length (members_of es n) → ItemAt (get_or (members_of es n) i 0)
  members_items n =
      filtered (λ k. is_owner n (owner k)) ItemAt 0 (length es)
      (λ k from to e. let it = owner_so n (owner k) e in
      let within : k < size = omega (arith, to) in
      items k n within it k (omega (arith, before es owners k n within it)) (omega arith))
    where
      owner_so : (n : ℕ) (o : Option ℕ) → is_owner n o ≡ true → o ≡ Some n
      owner_so n None h = cc
      owner_so n (Some k) h = ap Some (eqb-true k n h)

  item_described : (n : ℕ) → n < size → ItemAt n → (d : Description) × (description_of es ps n ≡ Some d)
  item_described n lt x = each_described ItemAt (length es) es owners (own_codes es ps) shape_good members_items n lt x (omega arith)

  -- a root with members is an item
  pub root_item : (n o : ℕ) → n < size → owner n ≡ Some o → ItemAt (way n).root
  root_item n o lt e =
      let r = rooted n lt in
      let some = r.parent o e in
      let k = get_or (members_of es (way n).root) 0 0 in
      let of = first_of_it (way n).root some in
      items k (way n).root of.1 of.0 (way n).root (omega arith) (omega (arith, before es owners k (way n).root of.1 of.0))
    where
      owner_so : (n : ℕ) (o : Option ℕ) → is_owner n o ≡ true → o ≡ Some n
      owner_so n None h = cc
      owner_so n (Some k) h = ap Some (eqb-true k n h)

      first_of_it : (r : ℕ) → 0 < length (members_of es r) → (owner (get_or (members_of es r) 0 0) ≡ Some r) × (get_or (members_of es r) 0 0 < size)
      first_of_it r some =
          filtered (λ k. is_owner r (owner k)) (λ k. (owner k ≡ Some r) × (k < size)) 0 (length es) (λ k from to e. (owner_so r (owner k) e, omega (arith, to))) 0 some

  -- what the root is declared as
  pub root_kind : (n o : ℕ) → n < size → owner n ≡ Some o → (v : AVariable) × (d : Description) × (description_of es ps (way n).root ≡ Some d)
      × ((declaration_at es ps (way n).root).kind ≡ OfItem (OfVariable v) (Some d)) × (v.taken ≡ None)
  root_kind n o lt e =
      let r = rooted n lt in
      let root = (way n).root in
      let x = root_item n o lt e in
      let d = item_described root r.low x in
      let v = with_members (place_in es ps root) x.0 (own_none root r.low x) (some_there (length (members_of es root)) (r.parent o e)) in (
        v.0,
        d.0,
        d.1,
        ap (kind_of es ps root) x.2
            ∙ ap (λ c. OfItem c (whole_description es ps root)) v.1
            ∙ ap (λ w. OfItem (OfVariable v.0) w)
            (ap (λ (b : Bool). if b && is_variable (get_or es root no_entry).entity then description_of es ps root else None) (ap is_none r.alone)
            ∙ ap (λ (b : Bool). if b then description_of es ps root else None) (ap is_variable x.2 ∙ v.2) ∙ d.1),
        v.3,
      )

-- a symbol and what it is of

pub nothing_there : {A : Type 0} {x : A} → None ≡ Some x → ⊥
nothing_there e = cc

abbrev pub IsOf : SymbolFacts → List Name → List Way → List Declaration → ℕ → Symbol → Type 0
IsOf f ps ws ds n s = (w : Way) × (d : Declaration) × (slice_get ws n ≡ Some w) × (slice_get ds n ≡ Some d) × (symbol_of f ps w d ≡ s)

pub found_of : (f : SymbolFacts) (ps : List Name) (ws : List Way) (ds : List Declaration) (n : ℕ) (s : Symbol) → slice_get (symbols_with f ps ws ds) n ≡ Some s → IsOf f ps ws ds n s
found_of f ps ws ds n s e = by (slice_get ws n) refl (slice_get ds n) refl
  where
    all : option_and_then (λ w. option_map (symbol_of f ps w) (slice_get ds n)) (slice_get ws n) ≡ Some s
    all = sym (symbols_at f ps ws ds n) ∙ e

    by : (w : Option Way) → slice_get ws n ≡ w → (d : Option Declaration) → slice_get ds n ≡ d → IsOf f ps ws ds n s
    by None g d h = absurd (nothing_there (sym (ap (option_and_then (λ w. option_map (symbol_of f ps w) (slice_get ds n))) g) ∙ all))
    by (Some w) g None h =
        absurd (nothing_there (sym (ap (option_and_then (λ w. option_map (symbol_of f ps w) (slice_get ds n))) g ∙ ap (option_map (symbol_of f ps w)) h) ∙ all))
    by (Some w) g (Some d) h =
        let it : Some (symbol_of f ps w d) ≡ Some s =
        sym (ap (option_and_then (λ w. option_map (symbol_of f ps w) (slice_get ds n))) g ∙ ap (option_map (symbol_of f ps w)) h) ∙ all in
        (w, d, g, h, cc)

abbrev IsMember : Way → (owner : Option ℕ) → (root : ℕ) → (path : List ℕ) → Type 0
IsMember w owner root path = (o : ℕ) × (owner ≡ Some o) × (w.root ≡ root) × (w.path ≡ path)

-- a variable of its own is none
pub own_not_member : (t : Option ParameterType) (slot : ℕ) (named : Option SymbolKey) (d : Description) (class : StorageClass) (scope : ScopeAttribute) (first : List InitialValue) (root : ℕ) (path : List ℕ) (initial : List InitialValue) (area : Option SymbolKey)
    → kind_with t slot named (Variable d class scope first named) ≡ Member root path initial area → ⊥
own_not_member None slot named d class scope first root path initial area e = cc
own_not_member (Some t) slot named d class scope first root path initial area e = cc

-- only what has an owner is a member
only_member : (f : SymbolFacts) (ps : List Name) (w : Way) (i : Identifier) (owner : Option ℕ) (kind : DeclaredKind) (root : ℕ) (path : List ℕ) (initial : List InitialValue) (area : Option SymbolKey)
    → symbol_kind f ps w i owner kind ≡ Member root path initial area → IsMember w owner root path
only_member f ps w i None (OfItem (OfVariable v) d) root path initial area e =
    absurd (own_not_member v.taken (place_among ps i.name) (area_of f i.at) _ _ v.scope v.initial root path initial area e)
only_member f ps w i None (OfItem (OfEntry qs r) d) root path initial area e = cc
only_member f ps w i None (OfItem OfBuiltIn d) root path initial area e = cc
only_member f ps w i None (OfLabel region) root path initial area e = cc
only_member f ps w i None (OfProcedure returned region) root path initial area e = cc
only_member f ps w i (Some o) (OfItem (OfVariable v) d) root path initial area e = (o, refl, cc, cc)
only_member f ps w i (Some o) (OfItem (OfEntry qs r) d) root path initial area e = cc
only_member f ps w i (Some o) (OfItem OfBuiltIn d) root path initial area e = cc
only_member f ps w i (Some o) (OfLabel region) root path initial area e = cc
only_member f ps w i (Some o) (OfProcedure returned region) root path initial area e = cc

-- a variable of its own
pub own_kind : (f : SymbolFacts) (ps : List Name) (w : Way) (i : Identifier) (owner : Option ℕ) (kind : DeclaredKind) (v : AVariable) (d : Description) → owner ≡ None → kind ≡ OfItem (OfVariable v) (Some d) → v.taken ≡ None
    → symbol_kind f ps w i owner kind ≡ Variable d (class_of v.storage (place_among ps i.name) (locator_of f i.at)) v.scope v.initial (area_of f i.at)
own_kind f ps w i owner kind v d e k none =
    ap (λ o. symbol_kind f ps w i o kind) e ∙ ap (symbol_kind f ps w i None) k
    ∙ ap
    (λ t. kind_with t (place_among ps i.name) (area_of f i.at)
    (Variable d (class_of v.storage (place_among ps i.name) (locator_of f i.at)) v.scope v.initial (area_of f i.at))) none

module _ (u : ExternalProcedure) (h : resolution_faults u ≡ []) (key : SymbolKey) (b : BlockRegion) (found : slice_get (block_regions_of u) key.block ≡ Some b) where
  abbrev pub entries : List Entry
  entries = entries_in (outline_of u) b.region

  abbrev pub names : List Name
  names = parameters_of (outline_of u) b.region

  pub declared_region : b.region < length (outline_of u).regions → region_block u b.region ≡ block_at (outline_of u) b.region
  unfolding resolved_of
  declared_region lt = made_at (block_at (outline_of u)) (length (outline_of u).regions) b.region no_block lt

  declared_beyond : length (outline_of u).regions ≤ b.region → region_block u b.region ≡ no_block
  unfolding resolved_of
  declared_beyond past =
      get_or_past (resolved_of u).blocks b.region no_block (omega (arith, past, made_length (block_at (outline_of u)) (length (outline_of u).regions)))

  module _ (lt : b.region < length (outline_of u).regions) where
    pub region_owners : AreAfterOwners entries
    region_owners = owners_stand_before (outline_of u) b.region

    pub region_items : OwnersAreItems entries
    region_items = owners_are_items (outline_of u) b.region

    pub region_good : AreGood entries names
    region_good = all_good u h (Some b.region)

    -- the symbol of a number
    pub symbol_there : (n : ℕ) → symbol_at (resolved_unit_of u) (record { block = key.block; number = n }) ≡ slice_get (symbols_with (facts_of u) names (ways_of (declared_in entries names)) (declared_in entries names)) n
    symbol_there n =
        symbol_inside u (record { block = key.block; number = n }) b found
        ∙ ap (λ (x : declare.BlockDeclarations). slice_get (symbols_with (facts_of u) x.parameters (ways_of x.declarations) x.declarations) n) (declared_region lt)

    part_of : (n o root : ℕ) (path : List ℕ) → n < length entries → (get_or entries n no_entry).owner ≡ Some o
        → (get_or (ways_of (declared_in entries names)) n no_way).root ≡ root → (get_or (ways_of (declared_in entries names)) n no_way).path ≡ path
        → (whole : Symbol) → (get_or entries n no_entry).identifier ≡ whole.identifier
        → IsPart u (record { block = key.block; number = n }) whole root path
    part_of n o root path low e r p whole named =
        let w = get_or (ways_of (declared_in entries names)) n no_way in
        let known = rooted entries names region_owners region_items region_good n low in
        let kind = root_kind entries names region_owners region_items region_good n o low e in
        let leads = known.leads kind.1 kind.2 in
        let d = declaration_at entries names w.root in
        let s = symbol_among (facts_of u) names (declared_in entries names) w.root d (declared_number entries names w.root known.low) in
        let i = d.identifier in
        record {
          symbol = symbol_of (facts_of u) s.0 s.1 d;
          description = kind.1;
          class = class_of kind.0.storage (place_among s.0 i.name) (locator_of (facts_of u) i.at);
          scope = kind.0.scope;
          initial = kind.0.initial;
          area = area_of (facts_of u) i.at;
          there = ap (λ k. symbol_at (resolved_unit_of u) (record { block = key.block; number = k })) (sym r) ∙ symbol_there w.root ∙ s.2;
          is_variable = own_kind (facts_of u) s.0 s.1 i d.owner d.kind kind.0 kind.1 known.alone kind.3 kind.4;
          block = b;
          stands = found;
          part = leads.0;
          leads = ap (part_on kind.1) (sym p) ∙ leads.2;
          named = named;
          described = leads.1;
        }

    in_region : (s : Symbol) (root : ℕ) (path : List ℕ) (initial : List InitialValue) (area : Option SymbolKey)
        → symbol_at (resolved_unit_of u) key ≡ Some s → s.kind ≡ Member root path initial area → IsPart u key s root path
    in_region s root path initial area e k =
        let n = key.number in
        let of = found_of (facts_of u) names (ways_of (declared_in entries names)) (declared_in entries names) n s (sym (symbol_there n) ∙ e) in
        let low : n < length entries = omega (arith, slice_get_within (declared_in entries names) n of.1 of.3, made_length (declaration_at entries names) (length entries)) in
        let it : declaration_at entries names n ≡ of.1 =
        sym (made_at (declaration_at entries names) (length entries) n of.1 low) ∙ get_or_from_slice_get (declared_in entries names) n of.1 of.1 of.3 in
        let way_it : get_or (ways_of (declared_in entries names)) n no_way ≡ of.0 = get_or_from_slice_get (ways_of (declared_in entries names)) n of.0 no_way of.2 in
        let member = only_member (facts_of u) names of.0 of.1.identifier of.1.owner of.1.kind root path initial area (ap (λ (x : Symbol). x.kind) of.4 ∙ k) in
        part_of n member.0 root path low (ap (λ (x : Declaration). x.owner) it ∙ member.1)
        (ap (λ (w : Way). w.root) way_it ∙ member.2) (ap (λ (w : Way). w.path) way_it ∙ member.3)
        s (ap (λ (x : Declaration). x.identifier) it ∙ ap (λ (x : Symbol). x.identifier) of.4)

  pub symbol_nowhere : length (outline_of u).regions ≤ b.region → symbol_at (resolved_unit_of u) key ≡ None
  symbol_nowhere past =
      symbol_inside u key b found
      ∙ ap (λ (x : declare.BlockDeclarations). slice_get (symbols_with (facts_of u) x.parameters (ways_of x.declarations) x.declarations) key.number) (declared_beyond past)

  in_block : (s : Symbol) (root : ℕ) (path : List ℕ) (initial : List InitialValue) (area : Option SymbolKey)
      → symbol_at (resolved_unit_of u) key ≡ Some s → s.kind ≡ Member root path initial area → IsPart u key s root path
  in_block s root path initial area e k = elim (cases_lt b.region (length (outline_of u).regions)) [
    | inl lt ↦ in_region lt s root path initial area e k
    | inr past ↦ absurd (nothing_there (sym (symbol_nowhere past) ∙ e))
  ]

-- the outermost block has no members
outermost_owner : (u : ExternalProcedure) (n : ℕ) (d : Declaration) → slice_get (resolved_of u).outermost n ≡ Some d → d.owner ≡ None
unfolding resolved_of
outermost_owner u n d e =
    let es = unit_entries (outline_of u).marks in
    let low : n < length es = omega (arith, slice_get_within (declared_in es []) n d e, made_length (declaration_at es []) (length es)) in
    let it : declaration_at es [] n ≡ d = sym (made_at (declaration_at es []) (length es) n d low) ∙ get_or_from_slice_get (declared_in es []) n d d e in
    ap (λ (x : Declaration). x.owner) (sym it) ∙ alone (outline_of u).marks n
  where
    of_heading : (m : Mark) (n : ℕ) → (get_or (heading_entries m) n no_entry).owner ≡ None
    of_heading (Entered heading region) zero = refl
    of_heading (Entered heading region) (suc n) = refl
    of_heading (Declared items) n = refl
    of_heading (Labelled label) n = refl
    of_heading (Used names) n = refl
    of_heading (Jumped label) n = refl

    alone : (ps : List PlacedMark) (n : ℕ) → (get_or (unit_entries ps) n no_entry).owner ≡ None
    alone [] n = refl
    alone (p ∷ ps) n = of_heading p.mark n

in_outermost : (u : ExternalProcedure) (key : SymbolKey) (s : Symbol) (root : ℕ) (path : List ℕ) (initial : List InitialValue) (area : Option SymbolKey)
    → key.block ≡ length (block_regions_of u) → symbol_at (resolved_unit_of u) key ≡ Some s → s.kind ≡ Member root path initial area → ⊥
in_outermost u key s root path initial area last e k =
    let ds = (resolved_of u).outermost in
    let of = found_of (facts_of u) [] (ways_of ds) ds key.number s (sym (symbol_outside u key last) ∙ e) in
    let member = only_member (facts_of u) [] of.0 of.1.identifier of.1.owner of.1.kind root path initial area (ap (λ (x : Symbol). x.kind) of.4 ∙ k) in
    nothing_there (sym (outermost_owner u key.number of.1 of.3) ∙ member.1)

pub members_are_parts : MembersAreParts
members_are_parts u h key s root path initial area e k = by (slice_get (block_regions_of u) key.block) refl
  where
    by : (b : Option BlockRegion) → slice_get (block_regions_of u) key.block ≡ b → IsPart u key s root path
    by (Some b) found = in_block u h key b found s root path initial area e k
    by None found = elim (cases_eq key.block (length (block_regions_of u))) [
      | inl last ↦ absurd (in_outermost u key s root path initial area last e k)
      | inr other ↦ absurd (nothing_there (sym (symbol_beyond u key found other) ∙ e))
    ]
