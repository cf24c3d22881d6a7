-- The locator that BASED names is there, wherever the blocks around have the slots that its unit gives them.
use Rattle.std.specs.Prelude.{◌≡◌, ℕ, nat_eq, Bool, true, false, Option, Some, None, List, [], ◌∷◌, length, slice_get, if◌then◌else◌, refl}
use Rattle.std.proofs.Common.{sym, ap, subst, arith}
use Rattle.std.proofs.lemmas.Bool.{eqb-true}
use Rattle.std.proofs.lemmas.Option.{same_Some, none-some}
use Rattle.pli_map.specs.Description.{Description, Pointer, Offset}
use Rattle.pli_map.specs.ParameterTypes.{Stated}
use Rattle.pli_declare.specs.ResolvedUnits.{ResolvedUnit, symbol_at}
use Rattle.pli_declare.specs.Symbols.{Symbol, SymbolKind, Variable, OpenParameter, Member, Label, Procedure, Entry, BuiltIn}
use Rattle.pli_declare.specs.declared.symbol.StorageClass.{StorageClass}
use Rattle.pli_declare.specs.declared.symbol.SymbolKey.{SymbolKey}
use Rattle.pli_type_rules.specs.NamedUnits.{may_stand, is_passed_class, block_symbols, root_of, area_named, locator_part, locator_on, locator_in, locator_meant, locator_named, named_unit}
use Rattle.pli_type_rules.specs.Names.{NamedUnit, LocatorVariable}
use Rattle.pli_type_rules.specs.References.{StridedPart, part_on, locator_at, reference_to, whole_part}
use Rattle.pli_type_rules.specs.declared.beginning.Beginning.{Beginning}
use Rattle.pli_type_tree.specs.TypedTree.{Root, Stride}
use Rattle.pli_type_tree.specs.WellTyped.{TypingContext, IsRooted, IsPlaced}
use Rattle.pli_type_laws.specs.NameFacts.{HaveSlots, IsAreaNamed, IsLocatorThere, IsImplied}
use Rattle.pli_type_laws.proofs.AreasNamed.{area_there}
use Rattle.pli_type_laws.proofs.PartsOfNames.{start, path_stands}
use Rattle.pli_type_laws.proofs.PlainDescriptions.{stored_stands}
use Rattle.pli_type_laws.proofs.RootsInContext.{in_context}
use Rattle.pli_type_laws.proofs.RootsStand.{IsOf, root_begins}

abbrev strided : (offset : ℕ) → Description → List Stride → StridedPart
strided o d ss = record { offset = o; description = d; strides = ss }

module _ (n : ℕ) (s : TypingContext) (root : Root) (whole : Description) (rooted : IsRooted n s root (Stated whole)) (stands : may_stand 63 whole ≡ true) where
  -- a part without dimensions
  scalar_placed : (path : List ℕ) (o : ℕ) (d : Description) → part_on (whole_part whole) path ≡ Some (strided o d [])
      → IsPlaced n s (reference_to root path (strided o d []) []) (Stated d)
  scalar_placed [] o d is = subst (λ x. IsRooted n s root (Stated x)) (ap (λ (p : StridedPart). p.description) (same_Some _ _ is)) rooted
  scalar_placed (i ∷ path) o d is =
      (refl, (whole, rooted, (path_stands 63 whole (whole_part whole) (i ∷ path) (strided o d []) (start 63 whole stands) is).leads), tt)

  module _ (area : Option Beginning) (named : IsAreaNamed n s area) where
    -- an OFFSET leads to BASED variables where its declaration names an area
    offset_placed : (path : List ℕ) (o : ℕ) (a : Option Beginning) (locator : LocatorVariable)
        → part_on (whole_part whole) path ≡ Some (strided o Offset []) → IsAreaNamed n s a
        → locator_at (reference_to root path (strided o Offset []) []) (Stated Offset) a ≡ Some locator → IsLocatorThere n s locator
    offset_placed path o None locator is there e = absurd (none-some locator e)
    offset_placed path o (Some a) locator is there e =
        subst (IsLocatorThere n s) (same_Some _ locator e) (scalar_placed path o Offset is, there)

    locator_placed : (path : List ℕ) (o : ℕ) (d : Description) (ss : List Stride) (locator : LocatorVariable)
        → part_on (whole_part whole) path ≡ Some (strided o d ss) → length ss ≡ 0
        → locator_at (reference_to root path (strided o d ss) []) (Stated d) area ≡ Some locator → IsLocatorThere n s locator
    locator_placed path o Pointer [] locator is none e =
        subst (IsLocatorThere n s) (same_Some _ locator e) (scalar_placed path o Pointer is)
    locator_placed path o Pointer (t ∷ ss) locator is none e = absurd (omega (arith, none))
    locator_placed path o Offset [] locator is none e = offset_placed path o area locator is named e
    locator_placed path o Offset (t ∷ ss) locator is none e = absurd (omega (arith, none))
    locator_placed path o d ss locator is none e = absurd (none-some locator e)

    part_placed : (path : List ℕ) (o : Option StridedPart) (locator : LocatorVariable) → part_on (whole_part whole) path ≡ o
        → locator_part root path area o ≡ Some locator → IsLocatorThere n s locator
    part_placed path None locator is e = absurd (none-some locator e)
    part_placed path (Some p) locator is e = by (nat_eq (length p.strides) 0) refl e
      where
        by : (b : Bool) → nat_eq (length p.strides) 0 ≡ b
            → (if b then locator_at (reference_to root path p []) (Stated p.description) area else None) ≡ Some locator → IsLocatorThere n s locator
        by true none e = locator_placed path p.offset p.description p.strides locator is (eqb-true (length p.strides) 0 none) e
        by false none e = absurd (none-some locator e)

module _ (r : ResolvedUnit) (blocks : List ℕ) (n : ℕ) (s : TypingContext) where
  abbrev U : NamedUnit
  U = named_unit 63 r

  module _ (globals : s.globals ≡ U.globals) (slots : HaveSlots U blocks s.blocks) where
    -- the area that an OFFSET names
    abbrev area_of : Option SymbolKey → Option Beginning
    area_of named = area_named 63 r blocks named

    area_known : (named : Option SymbolKey) → IsAreaNamed n s (area_of named)
    area_known named = area_there r blocks n s globals slots named

    root_placed : (key : SymbolKey) (class : StorageClass) (d : Description) (path : List ℕ) (named : Option SymbolKey) (locator : LocatorVariable) (t : Symbol)
        → slice_get (block_symbols r key.block) key.number ≡ Some t → IsOf class d t.kind → (o : Option Root)
        → root_of 63 r blocks key class d ≡ o → locator_on o d path (area_of named) ≡ Some locator → IsLocatorThere n s locator
    root_placed key class d path named locator t there of None is e = absurd (none-some locator e)
    root_placed key class d path named locator t there of (Some root) is e =
        let begun = root_begins 63 r blocks key d root t there class of is in
        part_placed n s root d (in_context r blocks n s (is_passed_class class) root (Stated d) globals slots begun.0).0 (stored_stands 63 d begun.1)
        (area_of named) (area_known named) path (part_on (whole_part d) path) locator refl e

    kind_placed : (key : SymbolKey) (path : List ℕ) (named : Option SymbolKey) (locator : LocatorVariable) (t : Symbol) (kind : SymbolKind)
        → slice_get (block_symbols r key.block) key.number ≡ Some t → t.kind ≡ kind
        → locator_in 63 r blocks key path (area_of named) (Some (record { identifier = t.identifier; kind = kind })) ≡ Some locator
        → IsLocatorThere n s locator
    kind_placed key path named locator t (Variable d class scope initial area) there is e =
        root_placed key class d path named locator t there (subst (IsOf class d) (sym is) (refl, refl)) (root_of 63 r blocks key class d) refl e
    kind_placed key path named locator t (OpenParameter type slot area) there is e = absurd (none-some locator e)
    kind_placed key path named locator t (Member root p initial area) there is e = absurd (none-some locator e)
    kind_placed key path named locator t (Label statement) there is e = absurd (none-some locator e)
    kind_placed key path named locator t (Procedure block returned area) there is e = absurd (none-some locator e)
    kind_placed key path named locator t (Entry parameters returned area) there is e = absurd (none-some locator e)
    kind_placed key path named locator t BuiltIn there is e = absurd (none-some locator e)

    symbol_placed : (key : SymbolKey) (path : List ℕ) (named : Option SymbolKey) (locator : LocatorVariable) (o : Option Symbol)
        → slice_get (block_symbols r key.block) key.number ≡ o → locator_in 63 r blocks key path (area_of named) o ≡ Some locator
        → IsLocatorThere n s locator
    symbol_placed key path named locator None there e = absurd (none-some locator e)
    symbol_placed key path named locator (Some t) there e = kind_placed key path named locator t t.kind there refl e

    meant_placed : (key : SymbolKey) (locator : LocatorVariable) (o : Option Symbol) → slice_get (block_symbols r key.block) key.number ≡ o
        → locator_meant 63 r blocks key o ≡ Some locator → IsLocatorThere n s locator
    meant_placed key locator None there e = absurd (none-some locator e)
    meant_placed key locator (Some t) there e = by t.kind refl e
      where
        by : (kind : SymbolKind) → t.kind ≡ kind
            → locator_meant 63 r blocks key (Some (record { identifier = t.identifier; kind = kind })) ≡ Some locator → IsLocatorThere n s locator
        by (Variable d class scope initial area) is e =
            kind_placed key [] area locator t (Variable d class scope initial area) there is e
        by (OpenParameter type slot area) is e = absurd (none-some locator e)
        by (Member root path initial area) is e =
            symbol_placed (record { block = key.block; number = root }) path area locator (slice_get (block_symbols r key.block) root) refl e
        by (Label statement) is e = absurd (none-some locator e)
        by (Procedure block returned area) is e = absurd (none-some locator e)
        by (Entry parameters returned area) is e = absurd (none-some locator e)
        by BuiltIn is e = absurd (none-some locator e)

    pub locator_there : (named : Option SymbolKey) → IsImplied n s (locator_named 63 r blocks named)
    locator_there None = tt
    locator_there (Some key) = by (locator_meant 63 r blocks key (symbol_at r key)) refl
      where
        by : (o : Option LocatorVariable) → locator_meant 63 r blocks key (symbol_at r key) ≡ o → IsImplied n s o
        by None e = tt
        by (Some locator) e = meant_placed key locator (symbol_at r key) refl e
