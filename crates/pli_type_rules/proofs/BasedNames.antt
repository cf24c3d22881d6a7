-- Which names are those of BASED variables: the blocks around say nothing of it.
use Rattle.std.proofs.Common.{◌≡◌, ℕ, Bool, true, false, ◌&&◌, Option, Some, None, List, [], ◌∷◌, option_map, slice_get, refl, sym, ◌∙◌}
use Rattle.std.specs.Prelude.{if◌then◌else◌}
use Rattle.pli_map.specs.Description.{Description}
use Rattle.pli_map.specs.ParameterTypes.{ParameterType, Stated}
use Rattle.pli_declare.specs.ResolvedUnits.{ResolvedUnit, symbol_at}
use Rattle.pli_declare.specs.Symbols.{Symbol, SymbolKind, Variable, OpenParameter, Member, Label, Procedure, Entry, BuiltIn}
use Rattle.pli_declare.specs.declared.symbol.NameMeaning.{NameMeaning}
use Rattle.pli_declare.specs.declared.symbol.NameMeaning.TheVariants as meanings
use Rattle.pli_declare.specs.declared.symbol.StorageClass.{StorageClass}
use Rattle.pli_declare.specs.declared.symbol.StorageClass.TheVariants as classes
use Rattle.pli_declare.specs.declared.symbol.SymbolKey.{SymbolKey}
use Rattle.pli_type_rules.specs.Names.{LocatorVariable, NamedProcedure, Begins, IsBased, AProcedure, Untyped}
use Rattle.pli_type_rules.specs.NamedUnits.{area_named, block_symbols, gives_stored, global_number, is_reached, is_valued, named_as, names_based, named_procedure}
use Rattle.pli_type_rules.specs.NamedUnits.{returned_of, storage_of, symbol_meant, declared_as, variable_at, variable_from}
use Rattle.pli_type_rules.specs.declared.beginning.Beginning.{Beginning}
use Rattle.pli_type_tree.specs.TypedTree.{OfEntry, Root}

begins_somewhere : (o : Option Root) (passed : Bool) (d : ParameterType) (path : List ℕ) (area : Option Beginning)
    → names_based (variable_from (option_map (λ root. Begins root passed) o) d path area) ≡ false
begins_somewhere None passed d path area = refl
begins_somewhere (Some root) passed d path area = refl

based_somewhere : (b : Bool) (block number : ℕ) (here there : Option LocatorVariable) (d : ParameterType) (path : List ℕ)
    (h t : Option Beginning)
    → names_based (variable_from (if b then Some (IsBased block number here) else None) d path h)
    ≡ names_based (variable_from (if b then Some (IsBased block number there) else None) d path t)
based_somewhere true block number here there d [] h t = refl
based_somewhere true block number here there d (i ∷ path) h t = refl
based_somewhere false block number here there d path h t = refl

module _ (n : ℕ) (r : ResolvedUnit) (here there : List ℕ) where
  class_anywhere : (key : SymbolKey) (class : StorageClass) (d : Description) (path : List ℕ) (h t : Option Beginning)
      → names_based (variable_from (storage_of n r here key class d) (Stated d) path h) ≡ names_based (variable_from (storage_of n r there key class d) (Stated d) path t)
  class_anywhere key classes.Automatic d path h t = begins_somewhere _ false (Stated d) path h ∙ sym (begins_somewhere _ false (Stated d) path t)
  class_anywhere key classes.Static d path h t = begins_somewhere _ false (Stated d) path h ∙ sym (begins_somewhere _ false (Stated d) path t)
  class_anywhere key classes.Controlled d path h t = begins_somewhere _ false (Stated d) path h ∙ sym (begins_somewhere _ false (Stated d) path t)
  class_anywhere key (classes.Parameter slot) d path h t = begins_somewhere _ true (Stated d) path h ∙ sym (begins_somewhere _ true (Stated d) path t)
  class_anywhere key (classes.Based locator) d path h t = based_somewhere (is_valued n d) key.block _ _ _ (Stated d) path h t

  member_of_kind : (key : SymbolKey) (path : List ℕ) (h t : Option Beginning) (s : Symbol) (k : SymbolKind)
      → names_based (variable_at n r here key path h (Some (record { identifier = s.identifier; kind = k })))
      ≡ names_based (variable_at n r there key path t (Some (record { identifier = s.identifier; kind = k })))
  member_of_kind key path h t s (Variable d class scope initial area) = class_anywhere key class d path h t
  member_of_kind key path h t s (OpenParameter type slot area) = refl
  member_of_kind key path h t s (Member root p initial area) = refl
  member_of_kind key path h t s (Label statement) = refl
  member_of_kind key path h t s (Procedure block returned area) = refl
  member_of_kind key path h t s (Entry parameters returned area) = refl
  member_of_kind key path h t s BuiltIn = refl

  member_anywhere : (key : SymbolKey) (path : List ℕ) (h t : Option Beginning) (o : Option Symbol)
      → names_based (variable_at n r here key path h o) ≡ names_based (variable_at n r there key path t o)
  member_anywhere key path h t None = refl
  member_anywhere key path h t (Some s) = member_of_kind key path h t s s.kind

  no_procedure : (b : Bool) (p : NamedProcedure) → names_based (if b then AProcedure p else Untyped) ≡ false
  no_procedure true p = refl
  no_procedure false p = refl

  abbrev entry_procedure : SymbolKey → List ParameterType → Option Description → Option Beginning → NamedProcedure
  entry_procedure key parameters returned area =
      record { callee = OfEntry (global_number n r key); parameters = parameters; returned = returned; area = area }

  kind_anywhere : (key : SymbolKey) (k : SymbolKind) → names_based (symbol_meant n r here key k) ≡ names_based (symbol_meant n r there key k)
  kind_anywhere key (Variable d class scope initial area) = class_anywhere key class d [] _ _
  kind_anywhere key (OpenParameter type slot area) = begins_somewhere _ true type [] _ ∙ sym (begins_somewhere _ true type [] _)
  kind_anywhere key (Member root path initial area) =
      member_anywhere (record { block = key.block; number = root }) path _ _ (slice_get (block_symbols r key.block) root)
  kind_anywhere key (Label statement) = refl
  kind_anywhere key (Procedure block returned area) =
      no_procedure (is_reached here (slice_get r.blocks block) && gives_stored n (returned_of r block)) (named_procedure n r here block)
      ∙ sym (no_procedure (is_reached there (slice_get r.blocks block) && gives_stored n (returned_of r block)) (named_procedure n r there block))
  kind_anywhere key (Entry parameters returned area) =
      no_procedure (gives_stored n returned) (entry_procedure key parameters returned (area_named n r here area))
      ∙ sym (no_procedure (gives_stored n returned) (entry_procedure key parameters returned (area_named n r there area)))
  kind_anywhere key BuiltIn = refl

  symbol_anywhere : (key : SymbolKey) (o : Option Symbol) → symbol_at r key ≡ o
      → names_based (declared_as n r here key) ≡ names_based (declared_as n r there key)
  symbol_anywhere key None e = rw e refl
  symbol_anywhere key (Some s) e = rw e (kind_anywhere key s.kind)

  pub named_anywhere : (o : Option NameMeaning) → names_based (named_as n r here o) ≡ names_based (named_as n r there o)
  named_anywhere None = refl
  named_anywhere (Some (meanings.BuiltIn function)) = refl
  named_anywhere (Some (meanings.Symbol key)) = symbol_anywhere key (symbol_at r key) refl
