-- What a name that means a variable or a procedure says.
use Rattle.std.specs.Prelude.{◌≡◌, ℕ, zero, suc, Bool, true, false, ◌&&◌, Option, Some, None, option_map, List, [], ◌∷◌, map, slice_get}
use Rattle.std.specs.Prelude.{if◌then◌else◌, refl}
use Rattle.std.proofs.Common.{sym, ◌∙◌, ap, subst}
use Rattle.std.proofs.lemmas.Bool.{and_parts}
use Rattle.std.proofs.lemmas.Option.{same_Some, none-some}
use Rattle.pli_map.specs.Description.{Description}
use Rattle.pli_map.specs.ParameterTypes.{ParameterType, Stated}
use Rattle.pli_declare.specs.ResolvedUnits.{ResolvedUnit, ResolvedBlock, symbol_at}
use Rattle.pli_declare.specs.Symbols.{Symbol, SymbolKind, Variable, OpenParameter, Member, Label, Procedure, Entry, BuiltIn}
use Rattle.pli_declare.specs.declared.block_numbers.ResolvedBlockKind.{ResolvedBlockKind}
use Rattle.pli_declare.specs.declared.block_numbers.ResolvedBlockKind.TheVariants as kinds
use Rattle.pli_declare.specs.declared.symbol.NameMeaning.{NameMeaning}
use Rattle.pli_declare.specs.declared.symbol.NameMeaning.TheVariants as meanings
use Rattle.pli_declare.specs.declared.symbol.StorageClass.{StorageClass}
use Rattle.pli_declare.specs.declared.symbol.StorageClass.TheVariants as classes
use Rattle.pli_declare.specs.declared.symbol.SymbolKey.{SymbolKey}
use Rattle.pli_type_rules.specs.NamedUnits.{is_open_parameter, may_be, open_root, open_storage}
use Rattle.pli_type_rules.specs.NamedUnits.{is_stored, is_valued, is_based, is_passed_class, such_before, block_symbols, outward_to, root_of, area_named, locator_named, storage_of, variable_from, variable_at, is_procedure}
use Rattle.pli_type_rules.specs.NamedUnits.{global_number, stands_around, is_reached, gives_stored, returned_of, returned_area_of, named_procedure}
use Rattle.pli_type_rules.specs.NamedUnits.{symbol_meant, declared_as, named_as}
use Rattle.pli_type_rules.specs.Names.{NamedStorage, Begins, IsBased, NamedVariable, NamedProcedure, AVariable, AProcedure, ALabel, Untyped}
use Rattle.pli_type_rules.specs.References.{is_passed}
use Rattle.pli_type_rules.specs.declared.beginning.Beginning.{Beginning}
use Rattle.pli_type_tree.specs.TypedTree.{Callee, OfBlock, OfEntry, Root}
use Rattle.pli_type_laws.specs.NameFacts.{StandsAround}
use Rattle.pli_type_laws.specs.SourceBlocks.{SourceBlock}
use Rattle.pli_type_laws.specs.UnitBlocks.{in_unit, in_tree}
use Rattle.pli_type_laws.proofs.PlainDescriptions.{stored_stands, valued_stored}
use Rattle.pli_type_laws.proofs.RootsStand.{IsOf, IsEntry, Standing, root_begins, open_begins}

not_true : false ≡ true → ⊥
not_true e = absurd (cc)

same_variable : (v w : NamedVariable) → AVariable v ≡ AVariable w → v ≡ w
same_variable v w e = cc

same_procedure : (p q : NamedProcedure) → AProcedure p ≡ AProcedure q → p ≡ q
same_procedure p q e = cc

-- a variable of this type is stored, or it is a parameter in which a `*` stands
abbrev pub MayBe : (greatest : ℕ) → ParameterType → Type 0
MayBe n (Stated d) = is_stored n d ≡ true
MayBe n type = is_open_parameter n type ≡ true

open_may : (n : ℕ) (type : ParameterType) → is_open_parameter n type ≡ true → MayBe n type
open_may n (Stated d) h = absurd (not_true h)
open_may n type h = h

pub may_so : (n : ℕ) (type : ParameterType) → MayBe n type → may_be n type ≡ true
may_so n (Stated d) h = stored_stands n d h
may_so n type h = h

module _ (n : ℕ) (r : ResolvedUnit) (blocks : List ℕ) where
  pub none_there : (key : SymbolKey) → symbol_at r key ≡ None → declared_as n r blocks key ≡ Untyped
  none_there key e = rw e refl

  pub one_there : (key : SymbolKey) (s : Symbol) → symbol_at r key ≡ Some s → declared_as n r blocks key ≡ symbol_meant n r blocks key s.kind
  one_there key s e = rw e refl

  -- ---- variables

  -- storage stands: where a variable begins, or, of a symbol that is BASED, wherever the locator leads that BASED names
  abbrev pub StandsIn : NamedStorage → ParameterType → Type 0
  StandsIn (Begins root is_parameter) type = Standing n r blocks is_parameter root type
  StandsIn (IsBased block number implied) type =
      (locator : Option SymbolKey) × (key : SymbolKey) × (s : Symbol) × (implied ≡ locator_named n r blocks locator)
      × (slice_get (block_symbols r key.block) key.number ≡ Some s)
      × (d : Description) × (type ≡ Stated d) × IsOf (classes.Based locator) d s.kind

  abbrev pub HasStorage : NamedStorage → Description → Type 0
  HasStorage storage d = StandsIn storage (Stated d) × (is_stored n d ≡ true)

  module _ (key : SymbolKey) (d : Description) (storage : NamedStorage) (s : Symbol) (there : slice_get (block_symbols r key.block) key.number ≡ Some s) where
    begun : (class : StorageClass) → IsOf class d s.kind → (o : Option Root) → root_of n r blocks key class d ≡ o
        → option_map (λ root. Begins root (is_passed_class class)) o ≡ Some storage → HasStorage storage d
    begun class of None is e = absurd (none-some storage e)
    begun class of (Some root) is e =
        subst (λ t. HasStorage t d) (same_Some _ storage e) (root_begins n r blocks key d root s there class of is)

    based : (locator : Option SymbolKey) → IsOf (classes.Based locator) d s.kind → (b : Bool) → is_valued n d ≡ b
        → (if b then Some (IsBased key.block (such_before (is_based n) (block_symbols r key.block) key.number) (locator_named n r blocks locator)) else None) ≡ Some storage
        → HasStorage storage d
    based locator of true valued e =
        subst (λ t. HasStorage t d) (same_Some _ storage e) ((locator, key, s, refl, there, d, refl, of), valued_stored n d valued)
    based locator of false valued e = absurd (none-some storage e)

    storage_stands : (class : StorageClass) → IsOf class d s.kind → storage_of n r blocks key class d ≡ Some storage → HasStorage storage d
    storage_stands classes.Automatic of e = begun classes.Automatic of (root_of n r blocks key classes.Automatic d) refl e
    storage_stands (classes.Parameter slot) of e = begun (classes.Parameter slot) of (root_of n r blocks key (classes.Parameter slot) d) refl e
    storage_stands classes.Static of e = begun classes.Static of (root_of n r blocks key classes.Static d) refl e
    storage_stands classes.Controlled of e = begun classes.Controlled of (root_of n r blocks key classes.Controlled d) refl e
    storage_stands (classes.Based locator) of e = based locator of (is_valued n d) refl e

  -- an area is the one that a declaration names
  abbrev pub IsNamedArea : Option Beginning → Type 0
  IsNamedArea area = (named : Option SymbolKey) × (area ≡ area_named n r blocks named)

  -- the procedure of an entry
  abbrev entry_procedure : SymbolKey → List ParameterType → Option Description → (area : Option SymbolKey) → NamedProcedure
  entry_procedure key parameters returned area = record {
    callee = OfEntry (global_number n r key);
    parameters = parameters;
    returned = returned;
    area = area_named n r blocks area;
  }

  -- a `*` stands in parameters alone
  abbrev pub IsOwn : NamedVariable → Type 0
  IsOwn v = is_passed v.storage ≡ false → (d : Description) × (v.whole ≡ Stated d)

  abbrev pub IsStoredSo : NamedVariable → Type 0
  IsStoredSo v = StandsIn v.storage v.whole × MayBe n v.whole × IsNamedArea v.area × IsOwn v

  module _ (v : NamedVariable) where
    abbrev pub IsStored : Type 0
    IsStored = IsStoredSo v

    untyped : Untyped ≡ AVariable v → ⊥
    untyped e = absurd (cc)

    no_variable : (p : NamedProcedure) → AProcedure p ≡ AVariable v → ⊥
    no_variable p e = absurd (cc)

    no_label : (statement : ℕ) → ALabel statement ≡ AVariable v → ⊥
    no_label statement e = absurd (cc)

    from_storage : (key : SymbolKey) (class : StorageClass) (d : Description) (path : List ℕ) (named : Option SymbolKey) (s : Symbol)
        → slice_get (block_symbols r key.block) key.number ≡ Some s → IsOf class d s.kind → (o : Option NamedStorage)
        → storage_of n r blocks key class d ≡ o → variable_from o (Stated d) path (area_named n r blocks named) ≡ AVariable v → IsStored
    from_storage key class d path named s there of None is e = absurd (untyped e)
    from_storage key class d path named s there of (Some storage) is e =
        let stands = storage_stands key d storage s there class of is in
        subst IsStoredSo
        (same_variable (record { storage = storage; whole = Stated d; path = path; area = area_named n r blocks named }) v e)
        (stands.0, stands.1, (named, refl), λ own. (d, refl))

    of_open : (key : SymbolKey) (type : ParameterType) (slot : ℕ) (named : Option SymbolKey) (s : Symbol)
        → slice_get (block_symbols r key.block) key.number ≡ Some s → s.kind ≡ OpenParameter type slot named → (o : Option Root)
        → open_root n r blocks key slot type ≡ o
        → variable_from (open_storage o) type [] (area_named n r blocks named) ≡ AVariable v → IsStored
    of_open key type slot named s there kind None is e = absurd (untyped e)
    of_open key type slot named s there kind (Some root) is e =
        let stands = open_begins n r blocks key type slot named root s there kind is in
        subst IsStoredSo
        (same_variable (record { storage = Begins root true; whole = type; path = []; area = area_named n r blocks named }) v e)
        (stands.0, open_may n type stands.1, (named, refl), λ own. absurd (not_true (sym own)))

    of_variable : (key : SymbolKey) (path : List ℕ) (named : Option SymbolKey) (s : Symbol) (kind : SymbolKind)
        → slice_get (block_symbols r key.block) key.number ≡ Some s → s.kind ≡ kind
        → variable_at n r blocks key path (area_named n r blocks named) (Some (record { identifier = s.identifier; kind = kind })) ≡ AVariable v
        → IsStored
    of_variable key path named s (Variable d class scope initial area) there is e =
        from_storage key class d path named s there (subst (IsOf class d) (sym is) (refl, refl)) _ refl e
    of_variable key path named s (OpenParameter type slot area) there is e = absurd (untyped e)
    of_variable key path named s (Member root p initial area) there is e = absurd (untyped e)
    of_variable key path named s (Label statement) there is e = absurd (untyped e)
    of_variable key path named s (Procedure block returned area) there is e = absurd (untyped e)
    of_variable key path named s (Entry parameters returned area) there is e = absurd (untyped e)
    of_variable key path named s BuiltIn there is e = absurd (untyped e)

    of_member : (key : SymbolKey) (path : List ℕ) (named : Option SymbolKey) (o : Option Symbol)
        → slice_get (block_symbols r key.block) key.number ≡ o
        → variable_at n r blocks key path (area_named n r blocks named) o ≡ AVariable v → IsStored
    of_member key path named None there e = absurd (untyped e)
    of_member key path named (Some s) there e = of_variable key path named s s.kind there refl e

    named_or_not : (b : Bool) (p : NamedProcedure) → (if b then AProcedure p else Untyped) ≡ AVariable v → ⊥
    named_or_not true p e = no_variable p e
    named_or_not false p e = untyped e

    of_symbol : (key : SymbolKey) (s : Symbol) (kind : SymbolKind) → slice_get (block_symbols r key.block) key.number ≡ Some s
        → s.kind ≡ kind → symbol_meant n r blocks key kind ≡ AVariable v → IsStored
    of_symbol key s (Variable d class scope initial area) there is e =
        from_storage key class d [] area s there (subst (IsOf class d) (sym is) (refl, refl)) _ refl e
    of_symbol key s (OpenParameter type slot area) there is e = of_open key type slot area s there is _ refl e
    of_symbol key s (Member root path initial area) there is e =
        of_member (record { block = key.block; number = root }) path area _ refl e
    of_symbol key s (Label statement) there is e = absurd (no_label statement e)
    of_symbol key s (Procedure block returned area) there is e = absurd (named_or_not _ (named_procedure n r blocks block) e)
    of_symbol key s (Entry parameters returned area) there is e =
        absurd (named_or_not (gives_stored n returned) (entry_procedure key parameters returned area) e)
    of_symbol key s BuiltIn there is e = absurd (untyped e)

    of_declared : (key : SymbolKey) (o : Option Symbol) → symbol_at r key ≡ o → declared_as n r blocks key ≡ AVariable v → IsStored
    of_declared key None there e = absurd (untyped (sym (none_there key there) ∙ e))
    of_declared key (Some s) there e = of_symbol key s s.kind there refl (sym (one_there key s there) ∙ e)

    pub variable_begins : (o : Option NameMeaning) → named_as n r blocks o ≡ AVariable v → IsStored
    variable_begins None e = absurd (untyped e)
    variable_begins (Some (meanings.BuiltIn function)) e = absurd (cc)
    variable_begins (Some (meanings.Symbol key)) e = of_declared key _ refl e

  -- ---- procedures

  module _ (p : NamedProcedure) where
    -- it is that of an entry among the globals
    pub record IsOfEntry (number : ℕ) : Type 0 where
      pub key : SymbolKey
      pub symbol : Symbol
      pub there : slice_get (block_symbols r key.block) key.number ≡ Some symbol
      pub entry : IsEntry p.parameters p.returned symbol.kind
      pub is : number ≡ global_number n r key

    -- it is the procedure of a block that is reached, or that of an entry
    abbrev pub IsThere : Callee → Type 0
    IsThere (OfBlock block) =
        (named_procedure n r blocks block ≡ p) × (is_reached blocks (slice_get r.blocks block) ≡ true)
    IsThere (OfEntry number) = IsOfEntry number

    -- and gives what could be stored
    pub record IsNamed : Type 0 where
      pub there : IsThere p.callee
      pub stored : gives_stored n p.returned ≡ true
      pub area : IsNamedArea p.area

    nothing : Untyped ≡ AProcedure p → ⊥
    nothing e = absurd (cc)

    from_variable : (o : Option NamedStorage) (type : ParameterType) (path : List ℕ) (area : Option Beginning)
        → variable_from o type path area ≡ AProcedure p → ⊥
    from_variable None type path area e = nothing e
    from_variable (Some storage) type path area e = absurd (cc)

    member_means : (key : SymbolKey) (path : List ℕ) (area : Option Beginning) (o : Option Symbol)
        → variable_at n r blocks key path area o ≡ AProcedure p → ⊥
    member_means key path area None e = nothing e
    member_means key path area (Some s) e = by s.kind refl e
      where
        by : (kind : SymbolKind) → s.kind ≡ kind
            → variable_at n r blocks key path area (Some (record { identifier = s.identifier; kind = kind })) ≡ AProcedure p → ⊥
        by (Variable d class scope initial named) is e =
            from_variable (storage_of n r blocks key class d) (Stated d) path area e
        by (OpenParameter type slot named) is e = nothing e
        by (Member root p initial area) is e = nothing e
        by (Label statement) is e = nothing e
        by (Procedure block returned area) is e = nothing e
        by (Entry parameters returned area) is e = nothing e
        by BuiltIn is e = nothing e

    of_block : (block : ℕ) (b : Bool) → (is_reached blocks (slice_get r.blocks block) && gives_stored n (returned_of r block)) ≡ b
        → (if b then AProcedure (named_procedure n r blocks block) else Untyped) ≡ AProcedure p → IsNamed
    of_block block true h e =
        let same : named_procedure n r blocks block ≡ p = same_procedure (named_procedure n r blocks block) p e in
        let parts : (is_reached blocks (slice_get r.blocks block) ≡ true) × (gives_stored n (returned_of r block) ≡ true) =
        and_parts _ _ h in
        record {
          there = subst IsThere (ap (λ (q : NamedProcedure). q.callee) same) (same, parts.0);
          stored = ap (λ (q : NamedProcedure). gives_stored n q.returned) (sym same) ∙ parts.1;
          area = (returned_area_of r block, ap (λ (q : NamedProcedure). q.area) (sym same));
        }
    of_block block false h e = absurd (nothing e)

    of_entry : (key : SymbolKey) (s : Symbol) → slice_get (block_symbols r key.block) key.number ≡ Some s
        → (parameters : List ParameterType) (returned : Option Description) (area : Option SymbolKey) → s.kind ≡ Entry parameters returned area
        → (b : Bool) → gives_stored n returned ≡ b
        → (if b then AProcedure (entry_procedure key parameters returned area) else Untyped) ≡ AProcedure p → IsNamed
    of_entry key s there parameters returned area is true h e =
        let q : NamedProcedure = entry_procedure key parameters returned area in
        let same : q ≡ p = same_procedure q p e in
        record {
          there =
              subst IsThere (ap (λ (x : NamedProcedure). x.callee) same)
              (record {
                key = key;
                symbol = s;
                there = there;
                entry =
                    subst (IsEntry p.parameters p.returned) (sym is)
                    (ap (λ (x : NamedProcedure). x.parameters) same, ap (λ (x : NamedProcedure). x.returned) same);
                is = refl;
              });
          stored = ap (λ (x : NamedProcedure). gives_stored n x.returned) (sym same) ∙ h;
          area = (area, ap (λ (x : NamedProcedure). x.area) (sym same));
        }
    of_entry key s there parameters returned area is false h e = absurd (nothing e)

    symbol_named : (key : SymbolKey) (s : Symbol) → slice_get (block_symbols r key.block) key.number ≡ Some s → (kind : SymbolKind)
        → s.kind ≡ kind → symbol_meant n r blocks key kind ≡ AProcedure p → IsNamed
    symbol_named key s there (Variable d class scope initial area) is e =
        absurd (from_variable (storage_of n r blocks key class d) (Stated d) [] (area_named n r blocks area) e)
    symbol_named key s there (OpenParameter type slot area) is e =
        absurd (from_variable (open_storage (open_root n r blocks key slot type)) type [] (area_named n r blocks area) e)
    symbol_named key s there (Member root path initial area) is e =
        absurd (member_means (record { block = key.block; number = root }) path (area_named n r blocks area) (slice_get (block_symbols r key.block) root) e)
    symbol_named key s there (Label statement) is e = absurd (cc)
    symbol_named key s there (Procedure block returned area) is e = of_block block _ refl e
    symbol_named key s there (Entry parameters returned area) is e =
        of_entry key s there parameters returned area is (gives_stored n returned) refl e
    symbol_named key s there BuiltIn is e = absurd (nothing e)

    declared_named : (key : SymbolKey) (o : Option Symbol) → symbol_at r key ≡ o → declared_as n r blocks key ≡ AProcedure p → IsNamed
    declared_named key None there e = absurd (nothing (sym (none_there key there) ∙ e))
    declared_named key (Some s) there e = symbol_named key s there s.kind refl (sym (one_there key s there) ∙ e)

    pub procedure_named_so : (o : Option NameMeaning) → named_as n r blocks o ≡ AProcedure p → IsNamed
    procedure_named_so None e = absurd (nothing e)
    procedure_named_so (Some (meanings.BuiltIn function)) e = absurd (cc)
    procedure_named_so (Some (meanings.Symbol key)) e = declared_named key _ refl e

-- ---- blocks that are reached

pub is_a_procedure : (kind : ResolvedBlockKind) → is_procedure kind ≡ true → kind ≡ kinds.Procedure
is_a_procedure kinds.Procedure e = refl
is_a_procedure kinds.Begin e = absurd (not_true e)
is_a_procedure kinds.OnUnit e = absurd (not_true e)

pub around : (blocks : List ℕ) (number : Option ℕ) → stands_around blocks number ≡ true → StandsAround blocks number
around blocks None e = tt
around blocks (Some number) e = by (outward_to blocks number) refl
  where
    none : outward_to blocks number ≡ None → stands_around blocks (Some number) ≡ false
    none is = rw is refl

    by : (o : Option ℕ) → outward_to blocks number ≡ o → StandsAround blocks (Some number)
    by (Some outward) is = (outward, is)
    by None is = absurd (not_true (sym (none is) ∙ e))

heads : {A : Type 0} (x y : A) (xs ys : List A) → x ∷ xs ≡ y ∷ ys → x ≡ y
heads x y xs ys e = cc

tails : {A : Type 0} (x y : A) (xs ys : List A) → x ∷ xs ≡ y ∷ ys → xs ≡ ys
tails x y xs ys e = cc

no_more : {A : Type 0} (x : A) (xs : List A) → x ∷ xs ≡ [] → ⊥
no_more x xs e = absurd (cc)

pub same_place : (bs : List ResolvedBlock) (cs : List SourceBlock) (number : ℕ) (b : ResolvedBlock) → map in_unit bs ≡ map in_tree cs
    → slice_get bs number ≡ Some b → (c : SourceBlock) × (slice_get cs number ≡ Some c) × (in_unit b ≡ in_tree c)
same_place [] cs number b same e = absurd (none-some b e)
same_place (x ∷ bs) [] number b same e = absurd (no_more (in_unit x) (map in_unit bs) same)
same_place (x ∷ bs) (c ∷ cs) zero b same e =
    (c, refl, ap in_unit (sym (same_Some x b e)) ∙ heads (in_unit x) (in_tree c) (map in_unit bs) (map in_tree cs) same)
same_place (x ∷ bs) (c ∷ cs) (suc number) b same e =
    same_place bs cs number b (tails (in_unit x) (in_tree c) (map in_unit bs) (map in_tree cs) same) e
