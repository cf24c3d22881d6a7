-- Units are well typed.
use Rattle.std.specs.Prelude.{◌≡◌, ℕ, ◌+◌, Option, Some, None, option_and_then, List, [], ◌∷◌, slice_get}
use Rattle.std.specs.Prelude.{Result, Ok, refl, Bool, true}
use Rattle.std.proofs.Common.{arith, sym, ap, ◌∙◌, subst}
use Rattle.std.proofs.lemmas.Option.{same_Some, none-some}
use Rattle.pli_base.specs.Statements.{ExternalProcedure}
use Rattle.pli_base.specs.declared.token.Fault.{Fault}
use Rattle.pli_map.specs.Description.{Description}
use Rattle.pli_map.specs.ParameterTypes.{ParameterType}
use Rattle.pli_meaning_tree.specs.ProgramMeaning.{procedure_in}
use Rattle.pli_meaning_typed.specs.TypedPrograms.{IsTypedProcedure, IsTypedUnit, context_in}
use Rattle.pli_declare.specs.declared.block_numbers.ResolvedBlockKind.{ResolvedBlockKind}
use Rattle.pli_declare.specs.declared.block_numbers.ResolvedBlockKind.TheVariants as kinds
use Rattle.pli_type_rules.specs.Checked.{in_unit, first_inside, external_of, unit_of, checked}
use Rattle.pli_type_rules.specs.Names.{NamedUnit, NamedAs}
use Rattle.pli_type_rules.specs.declared.beginning.Beginning.{Beginning}
use Rattle.pli_type_rules.specs.StatementTyping as source
use Rattle.pli_type_rules.specs.StatementTyping.{enclosing, WithProcedures, statements_typed}
use Rattle.pli_type_laws.proofs.BlocksKnown.{Within, within_self, Sits, sits_all, AreHome, StandsDirectly, AreDirect, direct_among, direct_at}
use Rattle.pli_type_laws.proofs.Contexts.{Knows, own_procedure}
use Rattle.pli_type_laws.proofs.Statements.{has_end, list_is_typed, labels_kept}
use Rattle.pli_type_laws.proofs.TypedParts.{OnTyped, on_given, unit_given, typed_map, Has, has_back, Covers, covers_more, covered, found_among, IsOurs}
use Rattle.pli_type_laws.proofs.TypedParts.{AreOurs, ours_found, Typed, with_list}
use Rattle.pli_type_laws.specs.TypedUnits.{TypedUnitsAreTyped, unit_with}
use Rattle.pli_type_laws.specs.NameFacts.{NameFacts}
use Rattle.pli_type_laws.specs.Nesting.{ListNests}
use Rattle.pli_type_laws.specs.SourceBlocks.{SourceBlock, unit_blocks, procedure_known, known_procedures, begun_among}
use Rattle.pli_type_tree.specs.Templates.{Template}
use Rattle.pli_type_tree.specs.TypedTree.{Global, TypedProcedure, TypedStatements, TypedUnit}
use Rattle.pli_type_tree.specs.WellTyped as trees
use Rattle.pli_type_tree.specs.WellTyped.{KnownProcedure, TypingContext, AreTypedStatements}

procedure_no_begin : kinds.Procedure ≡ kinds.Begin → ⊥
procedure_no_begin e = absurd (cc)

unit_no_begin : kinds.OnUnit ≡ kinds.Begin → ⊥
unit_no_begin e = absurd (cc)

module _ (program : ExternalProcedure) (is_based : ℕ → Bool) (based : List ℕ → ℕ → List Template) (areas : List ℕ → ℕ → Option Beginning)
    (meaning : List ℕ → ℕ → NamedAs) (parameters : ℕ → List ParameterType) (returned : ℕ → Option Description) (automatic : ℕ → List Template)
    (globals : List Global) where
  abbrev V : NamedUnit
  V = unit_with program is_based based areas meaning parameters returned automatic globals

  abbrev All : List SourceBlock
  All = unit_blocks program

  abbrev Outer : SourceBlock
  Outer = record {
    kind = kinds.Procedure;
    statement = program.heading.number;
    around = [];
    labels = source.labels_of program.statements;
  }

  all_sit : Sits All 0 All
  all_sit = sits_all All 0 All (λ i. ap (slice_get All) (next i))
    where
      next : (i : ℕ) → 0 + i ≡ i
      next i = omega arith

  module _ (facts : NameFacts V) (nests : ListNests true 63 program.statements) where
    all_direct : AreDirect All All
    all_direct = (
      (λ e. tt),
      direct_among All true 63 (enclosing 0 program.statements ∷ []) 1 program.statements nests
          (λ e. (Outer, refl, refl, within_self (source.labels_of program.statements), within_self (source.labels_of program.statements))) all_sit.1,
    )

    direct : (number : ℕ) (b : SourceBlock) → slice_get All number ≡ Some b → b.kind ≡ kinds.Procedure → StandsDirectly All b.around
    direct number b there kind = direct_at All All number b all_direct there kind

    home : AreHome All (in_unit (returned 0) program.statements).blocks
    home = ((Outer, refl, refl, within_self (source.labels_of program.statements), within_self (source.labels_of program.statements)), tt)

    -- the statements of the external procedure
    abbrev Context : TypedStatements → TypingContext
    Context list = context_in globals (known_procedures V) (own_procedure V 0 Outer) (external_of V list)

    entered : (list : TypedStatements) → Within (source.labels_of program.statements) (trees.labels_of list)
        → Knows V (Context list) (in_unit (returned 0) program.statements)
    entered list f = record {
      globals = refl;
      procedures = refl;
      blocks = (refl, (refl, refl), f, f, tt);
      begins = refl;
      value = refl;
    }

    abbrev Result_of : Result (WithProcedures TypedStatements) (List Fault)
    Result_of = statements_typed V (in_unit (returned 0) program.statements) first_inside program.statements

    abbrev Inner : List SourceBlock
    Inner = begun_among (enclosing 0 program.statements ∷ []) 1 program.statements

    list_typed : OnTyped (Typed V (λ list. AreTypedStatements 63 (Context list) list) 1 Inner) Result_of
    list_typed =
        with_list V Result_of Context (λ t. Knows V t (in_unit (returned 0) program.statements)) 1 Inner
        (list_is_typed program is_based based areas meaning parameters returned automatic globals facts direct
        (in_unit (returned 0) program.statements) first_inside program.statements home tt all_sit.1)
        (typed_map _ _ Result_of (λ y f. entered y.part f) (labels_kept V (in_unit (returned 0) program.statements) first_inside program.statements))

    module _ (y : WithProcedures TypedStatements) (h : Typed V (λ list. AreTypedStatements 63 (Context list) list) 1 Inner y) where
      abbrev Procedures : List TypedProcedure
      Procedures = external_of V y.part ∷ y.procedures

      ours : AreOurs V Procedures
      ours = (
        (
          own_procedure V 0 Outer,
          refl,
          record {
            kind = refl;
            parent = refl;
            parameters = refl;
            end = has_end program.end (returned 0);
            made = facts.automatic 0;
            statements = h.0;
          },
        ),
        h.1,
      )

      covers : Covers Procedures 0 All
      covers = (
        (λ e. refl),
        covers_more y.procedures Procedures 1 Inner (λ k a. has_back k (external_of V y.part ∷ []) y.procedures a) h.2,
      )

      abbrev IsThere : ℕ → KnownProcedure → Type 0
      IsThere number p =
          (f : TypedProcedure) × (procedure_in Procedures number ≡ Some f)
          × IsTypedProcedure 63 globals (known_procedures V) p f

      as_signed : (number : ℕ) (p : KnownProcedure) → known_procedures V number ≡ Some p
          → (f : TypedProcedure) × (procedure_in Procedures number ≡ Some f) × (f.head.number ≡ number) → IsThere number p
      as_signed number p signed (f, at, same) =
          let own : IsOurs V f = ours_found V number f Procedures ours at in (
            f,
            at,
            subst (λ q. IsTypedProcedure 63 globals (known_procedures V) q f)
                (same_Some own.0 p (sym own.1 ∙ ap (known_procedures V) same ∙ signed)) own.2,
          )

      not_known : (number : ℕ) (p : KnownProcedure) → slice_get All number ≡ None → known_procedures V number ≡ Some p → ⊥
      not_known number p none signed = none-some p (sym (ap (option_and_then (procedure_known V number)) none) ∙ signed)

      no_procedure : (number : ℕ) (p : KnownProcedure) (b : SourceBlock) → slice_get All number ≡ Some b
          → procedure_known V number b ≡ None → known_procedures V number ≡ Some p → ⊥
      no_procedure number p b there none signed =
          none-some p (sym none ∙ sym (ap (option_and_then (procedure_known V number)) there) ∙ signed)

      not_begun : (number : ℕ) (p : KnownProcedure) (b : SourceBlock) → slice_get All number ≡ Some b → known_procedures V number ≡ Some p
          → (b.kind ≡ kinds.Begin → ⊥) → IsThere number p
      not_begun number p b there signed other =
          as_signed number p signed
          (found_among number Procedures (subst (λ k. Has k Procedures) (omega arith) (covered Procedures 0 number All b covers there other)))

      of_kind : (number : ℕ) (p : KnownProcedure) (b : SourceBlock) → slice_get All number ≡ Some b → known_procedures V number ≡ Some p
          → (kind : ResolvedBlockKind) → b.kind ≡ kind → IsThere number p
      of_kind number p b there signed kinds.Procedure is = not_begun number p b there signed (λ e. procedure_no_begin (sym is ∙ e))
      of_kind number p b there signed kinds.Begin is = absurd (no_procedure number p b there (none is) signed)
        where
          none : b.kind ≡ kinds.Begin → procedure_known V number b ≡ None
          none is = rw is refl
      of_kind number p b there signed kinds.OnUnit is = not_begun number p b there signed (λ e. unit_no_begin (sym is ∙ e))

      each_procedure : (number : ℕ) (p : KnownProcedure) → known_procedures V number ≡ Some p → IsThere number p
      each_procedure number p signed = by (slice_get All number) refl
        where
          by : (o : Option SourceBlock) → slice_get All number ≡ o → IsThere number p
          by None is = absurd (not_known number p is signed)
          by (Some b) is = of_kind number p b is signed b.kind refl

      is_typed : IsTypedUnit 63 (unit_of V y)
      is_typed = record {
        procedures = known_procedures V;
        outer = refl;
        made = facts.globals;
        typed = each_procedure;
      }

    pub unit_is_typed_so : (t : TypedUnit) → checked V ≡ Ok t → IsTypedUnit 63 t
    unfolding checked
    unit_is_typed_so t e =
        unit_given V (IsTypedUnit 63) Result_of t
        (λ y is. is_typed y (on_given (Typed V (λ list. AreTypedStatements 63 (Context list) list) 1 Inner) Result_of y is list_typed)) e

pub unit_is_typed : TypedUnitsAreTyped
unit_is_typed program is_based based areas meaning parameters returned automatic globals facts nests t e =
    unit_is_typed_so program is_based based areas meaning parameters returned automatic globals facts nests t e
