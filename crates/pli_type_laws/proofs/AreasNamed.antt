-- The area that a declaration names is there, wherever the blocks around have the slots that its unit gives them.
use Rattle.std.specs.Prelude.{◌≡◌, ℕ, true, Option, Some, None, List, [], slice_get, refl}
use Rattle.std.proofs.Common.{sym, subst}
use Rattle.pli_map.specs.Description.{Description, Area}
use Rattle.pli_map.specs.ParameterTypes.{Stated}
use Rattle.pli_map.specs.Scalars.{is_area}
use Rattle.pli_declare.specs.ResolvedUnits.{ResolvedUnit, symbol_at}
use Rattle.pli_declare.specs.Symbols.{Symbol, SymbolKind, Variable, OpenParameter, Member, Label, Procedure, Entry, BuiltIn}
use Rattle.pli_declare.specs.declared.symbol.StorageClass.{StorageClass}
use Rattle.pli_declare.specs.declared.symbol.SymbolKey.{SymbolKey}
use Rattle.pli_type_rules.specs.Beginnings.{beginning_of}
use Rattle.pli_type_rules.specs.NamedUnits.{is_passed_class, block_symbols, root_of, area_on, area_in, area_at, area_named, named_unit}
use Rattle.pli_type_rules.specs.Names.{NamedUnit}
use Rattle.pli_type_tree.specs.TypedTree.{Root, InSlot, OfProgram, NewestOf, Located}
use Rattle.pli_type_tree.specs.WellTyped.{TypingContext, IsRooted}
use Rattle.pli_type_laws.specs.NameFacts.{HaveSlots, IsAreaNamed}
use Rattle.pli_type_laws.proofs.RootsInContext.{in_context}
use Rattle.pli_type_laws.proofs.RootsStand.{IsOf, root_begins}

module _ (n : ℕ) (s : TypingContext) where
  -- what begins somewhere and is an area is one that may be named
  pub root_named : (root : Root) (d : Description) → is_area d ≡ true → IsRooted n s root (Stated d) → IsAreaNamed n s (beginning_of root)
  root_named (InSlot outward slot) d area rooted = (tt, (d, rooted, area))
  root_named (OfProgram number) d area rooted = (tt, (d, rooted, area))
  root_named (NewestOf number) d area rooted = (tt, (d, rooted, area))
  root_named (Located locator whole) d area rooted = tt

  on_named : (path : List ℕ) (whole : Description) (o : Option Root) → ((root : Root) → o ≡ Some root → IsRooted n s root (Stated whole))
      → IsAreaNamed n s (area_on path whole o)
  on_named [] (Area bytes) None h = tt
  on_named [] (Area bytes) (Some root) h = root_named root (Area bytes) refl (h root refl)
  on_named path whole o h = tt

module _ (r : ResolvedUnit) (blocks : List ℕ) (n : ℕ) (s : TypingContext) where
  abbrev U : NamedUnit
  U = named_unit 63 r

  module _ (globals : s.globals ≡ U.globals) (slots : HaveSlots U blocks s.blocks) where
    begun_rooted : (key : SymbolKey) (class : StorageClass) (d : Description) (t : Symbol)
        → slice_get (block_symbols r key.block) key.number ≡ Some t → IsOf class d t.kind → (root : Root)
        → root_of 63 r blocks key class d ≡ Some root → IsRooted n s root (Stated d)
    begun_rooted key class d t there of root is =
        let begun = root_begins 63 r blocks key d root t there class of is in
        (in_context r blocks n s (is_passed_class class) root (Stated d) globals slots begun.0).0

    kind_named : (key : SymbolKey) (path : List ℕ) (t : Symbol) (kind : SymbolKind)
        → slice_get (block_symbols r key.block) key.number ≡ Some t → t.kind ≡ kind
        → IsAreaNamed n s (area_in 63 r blocks key path (Some (record { identifier = t.identifier; kind = kind })))
    kind_named key path t (Variable d class scope initial area) there is =
        on_named n s path d (root_of 63 r blocks key class d)
        (λ root e. begun_rooted key class d t there (subst (IsOf class d) (sym is) (refl, refl)) root e)
    kind_named key path t (OpenParameter type slot area) there is = tt
    kind_named key path t (Member root p initial area) there is = tt
    kind_named key path t (Label statement) there is = tt
    kind_named key path t (Procedure block returned area) there is = tt
    kind_named key path t (Entry parameters returned area) there is = tt
    kind_named key path t BuiltIn there is = tt

    symbol_named : (key : SymbolKey) (path : List ℕ) (o : Option Symbol) → slice_get (block_symbols r key.block) key.number ≡ o
        → IsAreaNamed n s (area_in 63 r blocks key path o)
    symbol_named key path None there = tt
    symbol_named key path (Some t) there = kind_named key path t t.kind there refl

    meant_named : (key : SymbolKey) (o : Option Symbol) → slice_get (block_symbols r key.block) key.number ≡ o
        → IsAreaNamed n s (area_at 63 r blocks key o)
    meant_named key None there = tt
    meant_named key (Some t) there = by t.kind refl
      where
        by : (kind : SymbolKind) → t.kind ≡ kind
            → IsAreaNamed n s (area_at 63 r blocks key (Some (record { identifier = t.identifier; kind = kind })))
        by (Variable d class scope initial area) is = kind_named key [] t (Variable d class scope initial area) there is
        by (OpenParameter type slot area) is = tt
        by (Member root path initial area) is =
            symbol_named (record { block = key.block; number = root }) path (slice_get (block_symbols r key.block) root) refl
        by (Label statement) is = tt
        by (Procedure block returned area) is = tt
        by (Entry parameters returned area) is = tt
        by BuiltIn is = tt

    pub area_there : (named : Option SymbolKey) → IsAreaNamed n s (area_named 63 r blocks named)
    area_there None = tt
    area_there (Some key) = meant_named key (symbol_at r key) refl
