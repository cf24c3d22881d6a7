-- The unit as types see it, where what its symbols say is within the limits of the language.
use Rattle.std.specs.Prelude.{◌≡◌, ℕ, nat_eq, Bool, true, false, ◌&&◌, Option, Some, None, option_map, refl, List, [], ◌∷◌, length, if◌then◌else◌}
use Rattle.std.specs.List.{AllByRecursion}
use Rattle.std.specs.Option.{unwrap_or}
use Rattle.std.proofs.Common.{sym, ap, ◌∙◌, arith}
use Rattle.std.proofs.Math.Path.{fun_ext}
use Rattle.std.proofs.lemmas.Bool.{ne_eqb}
use Rattle.pli_map.specs.Description.{Description}
use Rattle.pli_map.specs.ParameterTypes.{ParameterType}
use Rattle.pli_declare.specs.ResolvedUnits.{ResolvedUnit, ResolvedBlock, meaning_at, all_symbols}
use Rattle.pli_declare.specs.Symbols.{SymbolKind, Variable, OpenParameter, Member, Label, Procedure, Entry, BuiltIn}
use Rattle.pli_declare.specs.declared.symbol.NameMeaning.{NameMeaning}
use Rattle.pli_declare.specs.declared.symbol.NameMeaning.TheVariants as meanings
use Rattle.pli_declare.specs.declared.symbol.StorageClass.{StorageClass}
use Rattle.pli_declare.specs.declared.symbol.StorageClass.TheVariants as classes
use Rattle.pli_declare.specs.declared.symbol.SymbolKey.{SymbolKey}
use Rattle.pli_type_rules.specs.NamedUnits as old
use Rattle.pli_type_rules.specs.Names.{NamedAs, AVariable, AProcedure, Untyped, Naming, NamedUnit, NamedStorage, Begins}
use Rattle.pli_type_rules.specs.declared.beginning.Beginning.{Beginning}
use Rattle.pli_type_tree.specs.Templates.{Template}
use Rattle.pli_type_tree.specs.TypedTree.{Callee, OfBlock, OfEntry, Global, Root}
use Rattle.pli_type_unit.specs.UnitNames as new
use Rattle.pli_type_unit.specs.UnitNames.{◌>>=◌, VariableName}
use Rattle.pli_type_unit.proofs.GlobalsAlike.{globals_alike}
use Rattle.pli_type_unit.proofs.NamedUnits.{unit_named}
use Rattle.pli_type_unit.proofs.NamesAlike.{parameters_alike, returned_alike, returned_area_alike, area_alike, named_alike}
use Rattle.pli_type_unit.proofs.SymbolsAlike.{AreAlike, automatic_test, based_test, templates_alike}

-- ---- which names are those of BASED variables

module _ (r : ResolvedUnit) where
  abbrev shown : Option NamedAs → NamedAs
  shown o = unwrap_or o Untyped

  abbrev is_one : VariableName → Bool
  is_one v = new.is_based v.class && nat_eq (length v.path) 0

  begun : (o : Option Root) (passed : Bool) (v : VariableName)
      → old.names_based (shown (option_map (λ root. Begins root passed) o >>= λ (storage : NamedStorage). Some (AVariable (record { storage = storage; whole = v.whole; path = v.path; area = new.area_named r [] v.area })))) ≡ false
  begun None passed v = refl
  begun (Some root) passed v = refl

  no_path : (path : List ℕ) (i : ℕ) → nat_eq (length (i ∷ path)) 0 ≡ false
  no_path path i = ne_eqb (length (i ∷ path)) 0 (λ e. omega (arith, e))

  variable_based : (key : SymbolKey) (c : StorageClass) (whole : ParameterType) (path : List ℕ) (area : Option SymbolKey)
      → old.names_based (shown (new.variable_named r [] (record { key = key; class = c; whole = whole; path = path; area = area })))
      ≡ new.is_based c && nat_eq (length path) 0
  variable_based key (classes.Based locator) whole [] area = refl
  variable_based key (classes.Based locator) whole (i ∷ path) area = sym (no_path path i)
  variable_based key classes.Automatic whole path area = begun (new.root_of r [] key classes.Automatic) false (record { key = key; class = classes.Automatic; whole = whole; path = path; area = area })
  variable_based key (classes.Parameter slot) whole path area = begun (new.root_of r [] key (classes.Parameter slot)) true (record { key = key; class = classes.Parameter slot; whole = whole; path = path; area = area })
  variable_based key classes.Static whole path area = begun (new.root_of r [] key classes.Static) false (record { key = key; class = classes.Static; whole = whole; path = path; area = area })
  variable_based key classes.Controlled whole path area = begun (new.root_of r [] key classes.Controlled) false (record { key = key; class = classes.Controlled; whole = whole; path = path; area = area })

  name_based : (o : Option VariableName) → old.names_based (shown (o >>= new.variable_named r [])) ≡ unwrap_or (option_map is_one o) false
  name_based None = refl
  name_based (Some v) = variable_based v.key v.class v.whole v.path v.area

  procedure_based : (callee : Callee) (ps : List ParameterType) (d : Option Description) (area : Option Beginning) → old.names_based (shown (new.procedure_as callee ps d area)) ≡ false
  procedure_based callee ps d area = by (unwrap_or (option_map new.is_returned d) true)
    where
      by : (b : Bool) → old.names_based (shown (if b then Some (AProcedure (record { callee = callee; parameters = ps; returned = d; area = area })) else None)) ≡ false
      by true = refl
      by false = refl

  abbrev its_meaning : (block : ℕ) → Option NamedAs
  its_meaning block =
      new.procedure_as (OfBlock block) (new.parameters_of r block) (new.returns_at r block).0 (new.area_named r [] (new.returns_at r block).1)

  reached_based : (block : ℕ) (c : ResolvedBlock) (b : Bool) → old.names_based (shown (new.where_holds b c >>= λ (b : ResolvedBlock). its_meaning block)) ≡ false
  reached_based block c true =
      procedure_based (OfBlock block) (new.parameters_of r block) (new.returns_at r block).0 (new.area_named r [] (new.returns_at r block).1)
  reached_based block c false = refl

  block_based : (block : ℕ) → old.names_based (shown (new.block_named r [] block)) ≡ false
  block_based block = of_block (new.procedure_at r block)
    where
      of_block : (o : Option ResolvedBlock)
          → old.names_based (shown (o >>= λ (b : ResolvedBlock). new.where_holds (new.stands_around [] b.outer) b >>= λ (b : ResolvedBlock). its_meaning block)) ≡ false
      of_block None = refl
      of_block (Some b) = reached_based block b (new.stands_around [] b.outer)

  kind_based : (key : SymbolKey) (k : SymbolKind) → old.names_based (shown (new.declared_as r [] key k)) ≡ unwrap_or (option_map is_one (new.name_under r key k)) false
  kind_based key (Variable d class scope initial area) = name_based (new.name_under r key (Variable d class scope initial area))
  kind_based key (OpenParameter type slot area) = name_based (new.name_under r key (OpenParameter type slot area))
  kind_based key (Member root path initial area) = name_based (new.name_under r key (Member root path initial area))
  kind_based key (Label statement) = refl
  kind_based key (Procedure block returned area) = block_based block
  kind_based key (Entry parameters returned area) = procedure_based (OfEntry (new.global_number r key)) parameters returned (new.area_named r [] area)
  kind_based key BuiltIn = refl

  meaning_based : (o : Option NameMeaning) → old.names_based (new.named_as r [] o) ≡ new.names_based r o
  meaning_based None = refl
  meaning_based (Some (meanings.BuiltIn function)) = refl
  meaning_based (Some (meanings.Symbol key)) = kind_based key (new.kind_at r key)

  -- ---- the unit

  module _ (alike : (block : ℕ) → AreAlike (new.block_symbols r block)) (globals : AllByRecursion AreAlike (all_symbols r)) where
    abbrev naming_with : ((block : ℕ) → List Template) → ((block : ℕ) → Option Beginning) → ((at : ℕ) → NamedAs) → Naming
    naming_with based areas meaning = record { greatest = 63; based = based; returned_area = areas; meaning = meaning }

    naming_alike : (blocks : List ℕ)
        → old.naming_of 63 r blocks
        ≡ naming_with (new.templates_in r new.is_based) (λ block. new.area_named r blocks (new.returns_at r block).1) (λ at. new.named_as r blocks (meaning_at r at))
    naming_alike blocks =
        ap (λ based. naming_with based (λ block. old.area_named 63 r blocks (old.returned_area_of r block)) (λ at. old.named_as 63 r blocks (meaning_at r at)))
        (fun_ext (λ block. templates_alike (old.is_based 63) new.is_based based_test (new.block_symbols r block) block 0 (new.block_symbols r block) (alike block)))
        ∙ ap (λ areas. naming_with (new.templates_in r new.is_based) areas (λ at. old.named_as 63 r blocks (meaning_at r at)))
        (fun_ext (λ block. area_alike r alike globals blocks (old.returned_area_of r block) ∙ ap (new.area_named r blocks) (returned_area_alike r block)))
        ∙ ap (naming_with (new.templates_in r new.is_based) (λ block. new.area_named r blocks (new.returns_at r block).1))
        (fun_ext (λ at. named_alike r alike globals blocks (meaning_at r at)))

    abbrev unit_of : ((at : ℕ) → Bool) → (List ℕ → Naming) → ((block : ℕ) → List ParameterType) → ((block : ℕ) → Option Description) → ((block : ℕ) → List Template) → List Global → NamedUnit
    unit_of is_based naming parameters returned automatic globals = record {
      tree = r.tree;
      is_based = is_based;
      naming = naming;
      parameters = parameters;
      returned = returned;
      automatic = automatic;
      globals = globals;
    }

    pub unit_alike : old.named_unit 63 r ≡ unit_named r
    unit_alike =
        let u = unit_named r in
        ap (λ x. unit_of x (old.naming_of 63 r) (old.parameters_of r) (old.returned_of r) (λ block. old.templates_of (old.is_automatic 63) (new.block_symbols r block)) (old.all_globals 63 (all_symbols r)))
        (fun_ext (λ at. ap old.names_based (named_alike r alike globals [] (meaning_at r at)) ∙ meaning_based (meaning_at r at)))
        ∙ ap (λ x. unit_of u.is_based x (old.parameters_of r) (old.returned_of r) (λ block. old.templates_of (old.is_automatic 63) (new.block_symbols r block)) (old.all_globals 63 (all_symbols r)))
        (fun_ext naming_alike)
        ∙ ap (λ x. unit_of u.is_based u.naming x (old.returned_of r) (λ block. old.templates_of (old.is_automatic 63) (new.block_symbols r block)) (old.all_globals 63 (all_symbols r)))
        (fun_ext (parameters_alike r))
        ∙ ap (λ x. unit_of u.is_based u.naming u.parameters x (λ block. old.templates_of (old.is_automatic 63) (new.block_symbols r block)) (old.all_globals 63 (all_symbols r)))
        (fun_ext (returned_alike r))
        ∙ ap (λ x. unit_of u.is_based u.naming u.parameters u.returned x (old.all_globals 63 (all_symbols r)))
        (fun_ext (λ block. templates_alike (old.is_automatic 63) new.is_automatic automatic_test (new.block_symbols r block) block 0 (new.block_symbols r block) (alike block)))
        ∙ ap (unit_of u.is_based u.naming u.parameters u.returned u.automatic) (globals_alike r globals)
