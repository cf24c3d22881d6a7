-- The facts about the names of a unit.
use Rattle.std.specs.Prelude.{◌≡◌, ℕ, true, false, Option, Some, None, List, [], slice_get, refl}
use Rattle.std.specs.List.{AllByRecursion}
use Rattle.std.proofs.Common.{sym, ◌∙◌, ap, subst}
use Rattle.std.proofs.lemmas.Bool.{and_parts, false≢true}
use Rattle.std.proofs.lemmas.Option.{same_Some, none-some}
use Rattle.pli_map.specs.Description.{Description}
use Rattle.pli_map.specs.ParameterTypes.{ParameterType, Stated}
use Rattle.pli_declare.specs.ResolvedUnits.{ResolvedUnit, ResolvedBlock, all_symbols, meaning_at}
use Rattle.pli_declare.specs.declared.block_numbers.ResolvedBlockKind.{ResolvedBlockKind}
use Rattle.pli_declare.specs.declared.block_numbers.ResolvedBlockKind.TheVariants as kinds
use Rattle.pli_declare.specs.declared.symbol.StorageClass.{StorageClass}
use Rattle.pli_declare.specs.declared.symbol.StorageClass.TheVariants as classes
use Rattle.pli_type_rules.specs.NamedUnits.{is_plain, is_valued, may_stand, may_be, is_automatic, is_based, block_symbols, parameter_numbers, parameters_of}
use Rattle.pli_type_rules.specs.NamedUnits.{is_reached, is_procedure, stands_around, gives_stored}
use Rattle.pli_type_rules.specs.NamedUnits.{named_procedure, named_unit, returned_area_of, templates_of}
use Rattle.pli_type_rules.specs.InitialScalars.{InitialItem, template_of}
use Rattle.pli_type_rules.specs.Names.{NamedUnit, NamedStorage, Begins, IsBased, NamedVariable, NamedProcedure}
use Rattle.pli_type_rules.specs.declared.beginning.Beginning.{Beginning}
use Rattle.pli_type_tree.specs.Globals.{signature_of}
use Rattle.pli_type_tree.specs.TypedTree.{Callee, OfBlock, OfEntry}
use Rattle.pli_type_tree.specs.WellTyped.{TypingContext}
use Rattle.pli_type_laws.specs.NameFacts.{HaveSlots, IsAreaNamed, IsImplied, IsStoredIn, VariableFacts, BlockCalled, IsCalled, ProcedureFacts, IsBasedTemplate, NameFacts}
use Rattle.pli_type_laws.specs.SourceBlocks.{SourceBlock, unit_blocks, innermost}
use Rattle.pli_type_laws.specs.UnitBlocks.{in_unit, in_tree, BlocksAreOfTree}
use Rattle.pli_type_laws.proofs.AreasNamed.{area_there}
use Rattle.pli_type_laws.proofs.InitialHeld.{all_hold, template_made, all_made, globals_after}
use Rattle.pli_type_laws.proofs.LocatorsNamed.{locator_there}
use Rattle.pli_type_laws.proofs.NamesMean.{StandsIn, may_so, IsStored, IsNamedArea, IsThere, IsNamed, variable_begins, procedure_named_so, is_a_procedure, around, same_place}
use Rattle.pli_type_laws.proofs.PartsOfNames.{part_stands, subscripts_lead, whole_is}
use Rattle.pli_type_laws.proofs.PlainDescriptions.{plain_no_area, valued_plain, valued_stored}
use Rattle.pli_type_laws.proofs.RootsInContext.{in_context}
use Rattle.pli_type_laws.proofs.RootsStand.{automatic_stored, global_stored, entry_stands}

module _ (r : ResolvedUnit) where
  abbrev U : NamedUnit
  U = named_unit 63 r

  stored_in : (blocks : List ℕ) (n : ℕ) (s : TypingContext) (storage : NamedStorage) (type : ParameterType)
      → s.globals ≡ U.globals → HaveSlots U blocks s.blocks → StandsIn 63 r blocks storage type → IsStoredIn n s storage type
  stored_in blocks n s (Begins root is_parameter) type globals slots h = in_context r blocks n s is_parameter root type globals slots h
  stored_in blocks n s (IsBased block number implied) type globals slots h =
      subst (IsImplied n s) (sym h.3) (locator_there r blocks n s globals slots h.0)

  named_there : (blocks : List ℕ) (n : ℕ) (s : TypingContext) → s.globals ≡ U.globals → HaveSlots U blocks s.blocks
      → (area : Option Beginning) → IsNamedArea 63 r blocks area → IsAreaNamed n s area
  named_there blocks n s globals slots area (named, is) = subst (IsAreaNamed n s) (sym is) (area_there r blocks n s globals slots named)

  variable_facts : (blocks : List ℕ) (v : NamedVariable) → IsStored 63 r blocks v → VariableFacts U blocks v
  variable_facts blocks v b =
      let plain : may_be 63 v.whole ≡ true = may_so 63 v.whole b.1 in
      let stands : (d : Description) → v.whole ≡ Stated d → may_stand 63 d ≡ true = λ d is. ap (may_be 63) (sym is) ∙ plain in
      record {
        begins = λ n s globals slots. stored_in blocks n s v.storage v.whole globals slots b.0;
        area = λ n s globals slots. named_there blocks n s globals slots v.area b.2;
        plain = plain;
        own = b.3;
        leads = λ d p q xs is e f. subscripts_lead 63 d p q xs (part_stands 63 d v p is (stands d is) e) f;
        whole = λ d p q is none e f. whole_is 63 d v p q is (stands d is) none e f;
      }

  -- ---- procedures

  plain_returned : (o : Option Description) (d : Description) → gives_stored 63 o ≡ true → o ≡ Some d → is_plain 63 d ≡ true
  plain_returned None d h e = absurd (none-some d e)
  plain_returned (Some x) d h e = valued_plain 63 d (ap (is_valued 63) (sym (same_Some x d e)) ∙ h)

  -- ---- BASED variables

  based_template : (class : StorageClass) (d : Description) (items : List InitialItem) → is_based 63 class d ≡ true
      → IsBasedTemplate (template_of d items)
  based_template (classes.Based locator) d items e =
      (template_made 63 d items (valued_stored 63 d e), plain_no_area 63 d (valued_plain 63 d e))
  based_template class d items e = absurd (false≢true e)

  based_templates : (block : ℕ) → AllByRecursion IsBasedTemplate (templates_of (is_based 63) (block_symbols r block))
  based_templates block = all_hold IsBasedTemplate (is_based 63) based_template (block_symbols r block) 0 (block_symbols r block)

  module _ (law : BlocksAreOfTree r) where
    block_called : (blocks : List ℕ) (p : NamedProcedure) (block : ℕ) → named_procedure 63 r blocks block ≡ p
        → is_reached blocks (slice_get r.blocks block) ≡ true → BlockCalled U blocks p block
    block_called blocks p block is reached = by (slice_get r.blocks block) refl
      where
        not_reached : slice_get r.blocks block ≡ None → ⊥
        not_reached none = absurd (cc)

        of_place : (b : ResolvedBlock) → is_reached blocks (Some b) ≡ true
            → (c : SourceBlock) × (slice_get (unit_blocks r.tree) block ≡ Some c) × (in_unit b ≡ in_tree c)
            → BlockCalled U blocks p block
        of_place b found (c, there, same) =
            let parts : (is_procedure b.kind ≡ true) × (stands_around blocks b.outer ≡ true) = and_parts _ _ found in
            record {
              block = c;
              there = there;
              kind = sym (ap (λ (x : ResolvedBlockKind × Option ℕ). x.0) same) ∙ is_a_procedure b.kind parts.0;
              reached = around blocks (innermost c.around)
                  (ap (stands_around blocks) (sym (ap (λ (x : ResolvedBlockKind × Option ℕ). x.1) same)) ∙ parts.1);
              parameters = ap (λ (q : NamedProcedure). q.parameters) (sym is);
              returned = ap (λ (q : NamedProcedure). q.returned) (sym is);
            }

        by : (o : Option ResolvedBlock) → slice_get r.blocks block ≡ o → BlockCalled U blocks p block
        by None none = absurd (not_reached none)
        by (Some b) at =
            of_place b (sym (ap (is_reached blocks) at) ∙ reached) (same_place r.blocks (unit_blocks r.tree) block b law at)

    called : (blocks : List ℕ) (p : NamedProcedure) (c : Callee) → IsThere 63 r blocks p c → IsCalled U blocks p c
    called blocks p (OfBlock block) h = block_called blocks p block h.0 h.1
    called blocks p (OfEntry number) h =
        ap (λ k. signature_of (slice_get U.globals k)) h.is
        ∙ entry_stands 63 r h.key h.symbol p.parameters p.returned h.there h.entry

    procedure_facts : (blocks : List ℕ) (p : NamedProcedure) → IsNamed 63 r blocks p → ProcedureFacts U blocks p
    procedure_facts blocks p h = record {
      called = called blocks p p.callee h.there;
      plain = λ d e. plain_returned p.returned d h.stored e;
      area = λ n s globals slots. named_there blocks n s globals slots p.area h.area;
    }

    -- ---- blocks

    no_numbers : (number : ℕ) (c : SourceBlock) → slice_get (unit_blocks r.tree) number ≡ Some c → (c.kind ≡ kinds.Procedure → ⊥)
        → (o : Option ResolvedBlock) → slice_get r.blocks number ≡ o → parameter_numbers r number ≡ []
    no_numbers number c there other None is = rw is refl
    no_numbers number c there other (Some b) is =
        of_place (same_place r.blocks (unit_blocks r.tree) number b law is)
      where
        no_procedure : (kind : ResolvedBlockKind) → (kind ≡ kinds.Procedure → ⊥) → is_procedure kind ≡ false
        no_procedure kinds.Procedure f = absurd (f refl)
        no_procedure kinds.Begin f = refl
        no_procedure kinds.OnUnit f = refl

        none : is_procedure b.kind ≡ false → parameter_numbers r number ≡ []
        none e = rw (is, e) refl

        of_place : (d : SourceBlock) × (slice_get (unit_blocks r.tree) number ≡ Some d) × (in_unit b ≡ in_tree d)
            → parameter_numbers r number ≡ []
        of_place (d, at, same) =
            none (no_procedure b.kind (λ e. other (sym (ap (λ (x : ResolvedBlockKind × Option ℕ). x.0) same
            ∙ ap (λ (x : SourceBlock). x.kind) (same_Some d c (sym at ∙ there))) ∙ e)))

    without : (block : ℕ) → parameter_numbers r block ≡ [] → parameters_of r block ≡ []
    without block e = rw e refl

    pub facts_hold : NameFacts U
    facts_hold = record {
      variables = λ blocks at v h. variable_facts blocks v (variable_begins 63 r blocks v (meaning_at r at) h);
      procedures = λ blocks at p h. procedure_facts blocks p (procedure_named_so 63 r blocks p (meaning_at r at) h);
      without_parameters = λ number b there other. without number (no_numbers number b there other (slice_get r.blocks number) refl);
      automatic = λ block.
          all_made 63 (is_automatic 63) (automatic_stored 63) (block_symbols r block) 0
          (block_symbols r block);
      globals = globals_after 63 (global_stored 63) (all_symbols r);
      based = λ blocks block. based_templates block;
      returned_areas = λ blocks block n s globals slots. area_there r blocks n s globals slots (returned_area_of r block);
    }
