-- Statements are typed as the meaning of typed trees asks, and each procedure as it is known.
use Rattle.std.specs.Prelude.{◌≡◌, ℕ, suc, ◌+◌, Bool, true, false, ◌||◌, Option, Some, None, List, [], ◌∷◌, ◌++◌, length, map}
use Rattle.std.specs.Prelude.{slice_get, Result, Ok, Err, refl, if◌then◌else◌}
use Rattle.std.proofs.Common.{sym, ap, ◌∙◌, subst, eq-eqb}
use Rattle.pli_base.specs.Statements as tree
use Rattle.pli_base.specs.Statements.{ExternalProcedure, Statement, Numbered, Body, Statements, Ended, Before, Alternative}
use Rattle.pli_base.specs.declared.token.Fault.{Fault}
use Rattle.pli_map.specs.Description.{Description}
use Rattle.pli_map.specs.ParameterTypes.{ParameterType, Stated}
use Rattle.pli_meaning_typed.specs.TypedPrograms.{HasEnd, context_in}
use Rattle.pli_declare.specs.declared.block_numbers.ResolvedBlockKind.TheVariants as kinds
use Rattle.pli_type_rules.specs.Names.{NamedUnit, NamedAs}
use Rattle.pli_type_rules.specs.declared.beginning.Beginning.{Beginning}
use Rattle.pli_type_rules.specs.StatementTyping as source
use Rattle.pli_type_rules.specs.StatementTyping.{Enclosing, Surroundings, naming_at, block_at, leaves_nothing, assignment, function_end}
use Rattle.pli_type_rules.specs.StatementTyping.{condition, iteration, call_typed, goto_typed, return_typed, WithProcedures, of_own, together}
use Rattle.pli_type_rules.specs.StatementTyping.{made, head_of, procedure_of, on_unit_of, as_procedure, put_before, inside, after_limits}
use Rattle.pli_type_rules.specs.StatementTyping.{alone, lasting_alone, listed, only, says_nothing}
use Rattle.pli_type_rules.specs.StatementTyping.{statement_typed, body_typed, alternative_typed, statements_typed}
use Rattle.pli_declare.specs.TreeBlocks as blocks
use Rattle.pli_type_rules.specs.Temporaries.{Next, next_after}
use Rattle.pli_type_rules.specs.TypingSteps.{items, allocate_typed, free_typed}
use Rattle.pli_type_laws.proofs.Allocations.{allocate_is_typed, free_is_typed}
use Rattle.pli_type_laws.proofs.BlocksKnown.{Within, within_self, within_both, within_after, begun_count, Sits, sits_parts}
use Rattle.pli_type_laws.proofs.BlocksKnown.{AreHome, home_labels, home_lasting, StandsDirectly, begin_no_procedure, unit_no_procedure}
use Rattle.pli_type_laws.proofs.Contexts.{IsInside, Knows, around_self, group_known, label_known, known_as, areas_known, own_procedure, procedure_there}
use Rattle.pli_type_laws.proofs.Contexts.{own_unit, unit_there, on_unit_known}
use Rattle.pli_type_laws.proofs.Expressions.{IsMeaning}
use Rattle.pli_type_laws.proofs.Forms.{condition_typed, items_typed, assignment_typed, call_is_typed, return_is_typed, goto_is_typed}
use Rattle.pli_type_laws.proofs.Forms.{iteration_typed}
use Rattle.pli_type_laws.proofs.TypedParts.{OnTyped, typed_map, has_front, has_back, covers_more, IsOurs, ours_both}
use Rattle.pli_type_laws.proofs.TypedParts.{Typed, typed_made, typed_own, typed_with, typed_both, with_list}
use Rattle.pli_type_laws.specs.TypedUnits.{unit_with}
use Rattle.pli_type_laws.proofs.BlocksOfUnits.{innermost_lasting}
use Rattle.pli_type_laws.specs.NameFacts.{IsAreaNamed, NameFacts}
use Rattle.pli_type_laws.specs.SourceBlocks.{SourceBlock, unit_blocks, innermost, known_blocks, known_procedures, begun_in, begun_by}
use Rattle.pli_type_laws.specs.SourceBlocks.{begun_among, begun_after}
use Rattle.pli_type_tree.specs.Templates.{Template}
use Rattle.pli_type_tree.specs.TypedTree as typed
use Rattle.pli_type_tree.specs.TypedTree.{Form, TypedStatement, TypedStatements, NoStatement, NoElse, Else}
use Rattle.pli_type_tree.specs.TypedTree.{Global, TypedProcedure}
use Rattle.pli_type_tree.specs.ValueTypes.{OfBits}
use Rattle.pli_type_tree.specs.WellTyped as trees
use Rattle.pli_type_tree.specs.WellTyped.{TypingContext, AreAround, IsString, IsIteration, AreItems, IsTypedStatement, IsTypedForm}
use Rattle.pli_type_tree.specs.WellTyped.{IsTypedElse, AreTypedStatements}

-- ---- labels of typed lists

unlabelled : (b : Bool) (number : ℕ) (ls : List ℕ) (r : Result (WithProcedures Form) (List Fault))
    (q : Result (WithProcedures TypedStatements) (List Fault)) → OnTyped (λ y. Within ls (trees.labels_of y.part)) q
    → OnTyped (λ y. Within ls (trees.labels_of y.part)) (together (put_before b) (made (typed.Statement number) r) q)
unlabelled true number ls (Ok x) (Ok y) h = h
unlabelled false number ls (Ok x) (Ok y) h = within_after ls (number ∷ []) (trees.labels_of y.part) h
unlabelled b number ls (Ok x) (Err fs) h = tt
unlabelled b number ls (Err fs) (Ok y) h = tt
unlabelled b number ls (Err fs) (Err gs) h = tt

labelled : (b : Bool) (number : ℕ) (ls : List ℕ) (r : Result (WithProcedures Form) (List Fault))
    (q : Result (WithProcedures TypedStatements) (List Fault)) → OnTyped (λ y. Within ls (trees.labels_of y.part)) q
    → OnTyped (λ y. Within ((if b then [] else number ∷ []) ++ ls) (trees.labels_of y.part))
    (together (put_before b) (made (typed.Statement number) r) q)
labelled true number ls (Ok x) (Ok y) h = h
labelled false number ls (Ok x) (Ok y) h =
    within_both (number ∷ []) ls (number ∷ []) (trees.labels_of y.part) (within_self (number ∷ [])) h
labelled b number ls (Ok x) (Err fs) h = tt
labelled b number ls (Err fs) (Ok y) h = tt
labelled b number ls (Err fs) (Err gs) h = tt

pub labels_kept : (u : NamedUnit) (s : Surroundings) (x : Next) (ss : Statements)
    → OnTyped (λ y. Within (source.labels_of ss) (trees.labels_of y.part)) (statements_typed u s x ss)
labels_kept u s x Ended = within_self []
labels_kept u s x (Before (Numbered number None at body) more) =
    unlabelled (leaves_nothing body) number (source.labels_of more) (body_typed u s x number at body)
    (statements_typed u s (next_after u.is_based x (Numbered number None at body)) more)
    (labels_kept u s (next_after u.is_based x (Numbered number None at body)) more)
labels_kept u s x (Before (Numbered number (Some label) at body) more) =
    labelled (leaves_nothing body) number (source.labels_of more) (body_typed u s x number at body)
    (statements_typed u s (next_after u.is_based x (Numbered number (Some label) at body)) more)
    (labels_kept u s (next_after u.is_based x (Numbered number (Some label) at body)) more)

-- ---- where statements stand

inside_group : (labels : List ℕ) (bs : List Enclosing) → IsInside bs → IsInside (source.with_labels labels bs)
inside_group labels [] h = h
inside_group labels (b ∷ bs) h = tt

parent_is : (bs : List Enclosing) (begins : ℕ) (value : Option Description) → IsInside bs
    → Some (block_at (record { blocks = bs; begins = begins; value = value })) ≡ innermost bs
parent_is [] begins value h = absurd h
parent_is (b ∷ bs) begins value h = refl

pub has_end : (end : ℕ) (o : Option Description) → HasEnd (function_end o end) o
has_end end None = tt
has_end end (Some d) = tt

put_typed : (t : TypingContext) (b : Bool) (x : TypedStatement) (y : TypedStatements) → IsTypedStatement 63 t x
    → AreTypedStatements 63 t y → AreTypedStatements 63 t (put_before b x y)
put_typed t true x y h k = k
put_typed t false x y h k = (h, k)

module _ (program : ExternalProcedure) (is_based : ℕ → Bool) (based : List ℕ → ℕ → List Template) (areas : List ℕ → ℕ → Option Beginning)
    (meaning : List ℕ → ℕ → NamedAs) (parameters : ℕ → List ParameterType) (returned : ℕ → Option Description) (automatic : ℕ → List Template)
    (globals : List Global) where
  abbrev pub U : NamedUnit
  U = unit_with program is_based based areas meaning parameters returned automatic globals

  abbrev All : List SourceBlock
  All = unit_blocks program

  abbrev numbers : Surroundings → List ℕ
  numbers s = map (λ b. b.number) s.blocks

  module _ (facts : NameFacts U)
      (direct : (number : ℕ) (b : SourceBlock) → slice_get All number ≡ Some b → b.kind ≡ kinds.Procedure → StandsDirectly All b.around) where
    module _ (s : Surroundings) (home : AreHome All s.blocks) (t : TypingContext) (knows : Knows U t s) where
      known : (at : ℕ) → IsMeaning t (meaning (numbers s) at)
      known at = known_as U facts direct t s knows home at (meaning (numbers s) at) refl

      named : (block : ℕ) → IsAreaNamed 63 t (areas (numbers s) block)
      named block = areas_known U facts direct t s knows home block

      -- a group of these statements
      grouped : (ss : Statements) (list : TypedStatements) → Within (source.labels_of ss) (trees.labels_of list)
          → Knows U (trees.in_group list t) (source.in_group ss s)
      grouped ss list f = record {
        globals = knows.globals;
        procedures = knows.procedures;
        blocks = group_known U (source.labels_of ss) (trees.labels_of list) s.blocks t.blocks f knows.blocks;
        begins = knows.begins;
        value = knows.value;
      }

      module _ (number statement : ℕ) (ss : Statements) (b : SourceBlock) (there : slice_get All number ≡ Some b) where
        none : b.kind ≡ kinds.Begin → parameters number ≡ []
        none kind = facts.without_parameters number b there (λ e. begin_no_procedure (sym kind ∙ e))

        begun : b.kind ≡ kinds.Begin → (list : TypedStatements) → Within (source.labels_of ss) (trees.labels_of list)
            → Knows U (trees.in_begin (head_of U number statement ss) list t) (source.in_begin number ss s)
        begun kind list f = record {
          globals = knows.globals;
          procedures = knows.procedures;
          blocks = (
            refl,
            (
              ap length (sym (none kind)),
              ap (λ types. types ++ map (λ v. Stated v.description) (automatic number)) (sym (none kind)),
            ),
            f,
            f,
            knows.blocks,
          );
          begins = ap suc knows.begins;
          value = knows.value;
        }

    -- a procedure's own statements
    module _ (s : Surroundings) (number statement end : ℕ) (ss : Statements) (b : SourceBlock)
        (there : slice_get All number ≡ Some b) (kind : b.kind ≡ kinds.Procedure) (same : b.around ≡ s.blocks) where
      abbrev Made : TypedStatements → TypedProcedure
      Made list = procedure_of U (Some (block_at s)) number statement end ss list

      abbrev Within_it : TypedStatements → TypingContext
      Within_it list = context_in globals (known_procedures U) (own_procedure U number b) (Made list)

      entered : (list : TypedStatements) → Within (source.labels_of ss) (trees.labels_of list)
          → Knows U (Within_it list) (source.in_procedure number (returned number) ss s)
      entered list f = record {
        globals = refl;
        procedures = refl;
        blocks = (
          refl,
          (refl, refl),
          f,
          f,
          subst (λ bs. AreAround (known_blocks U b.around) (known_blocks U bs)) same (around_self (known_blocks U b.around)),
        );
        begins = refl;
        value = refl;
      }

      is_ours : IsInside s.blocks → (list : TypedStatements) → AreTypedStatements 63 (Within_it list) list → IsOurs U (Made list)
      is_ours within list h = (
        own_procedure U number b,
        procedure_there U number b there kind,
        record {
          kind = refl;
          parent = parent_is s.blocks s.begins s.value within ∙ ap innermost (sym same);
          parameters = refl;
          end = has_end end (returned number);
          made = facts.automatic number;
          statements = h;
        },
      )

    -- an ON-unit's own statement
    module _ (s : Surroundings) (number statement : ℕ) (unit : Statement) (b : SourceBlock)
        (there : slice_get All number ≡ Some b) (kind : b.kind ≡ kinds.OnUnit) (same : b.around ≡ lasting_alone s.blocks) where
      abbrev MadeUnit : TypedStatements → TypedProcedure
      MadeUnit list = on_unit_of U (Some (block_at s)) number statement unit list

      abbrev Within_unit : TypedStatements → TypingContext
      Within_unit list = context_in globals (known_procedures U) (own_unit U b) (MadeUnit list)

      takes_nothing : parameters number ≡ []
      takes_nothing = facts.without_parameters number b there (λ e. unit_no_procedure (sym kind ∙ e))

      unit_entered : (list : TypedStatements) → Within (source.labels_of (only unit)) (trees.labels_of list)
          → Knows U (Within_unit list) (source.in_on_unit number unit s)
      unit_entered list f = record {
        globals = refl;
        procedures = refl;
        blocks = (
          refl,
          (
            ap length (sym takes_nothing),
            ap (λ types. types ++ map (λ v. Stated v.description) (automatic number)) (sym takes_nothing),
          ),
          f,
          f,
          subst (λ bs. AreAround (known_blocks U b.around) (known_blocks U bs)) same (around_self (known_blocks U b.around)),
        );
        begins = refl;
        value = refl;
      }

      unit_ours : IsInside s.blocks → (list : TypedStatements) → AreTypedStatements 63 (Within_unit list) list
          → IsOurs U (MadeUnit list)
      unit_ours within list h = (
        own_unit U b,
        unit_there U number b there kind,
        record {
          kind = refl;
          parent =
              parent_is s.blocks s.begins s.value within ∙ innermost_lasting s.blocks ∙ ap innermost (sym same);
          parameters = refl;
          end = tt;
          made = facts.automatic number;
          statements = h;
        },
      )

    -- a procedure or an ON-unit of a list, and what it leaves in its place
    block_ended : (left : Form) (make : TypedStatements → TypedProcedure) (S : TypedStatements → TypingContext) (number : ℕ)
        (t : TypingContext) (b : SourceBlock) (bs : List SourceBlock) (r : Result (WithProcedures TypedStatements) (List Fault))
        → IsTypedForm 63 t left → ((list : TypedStatements) → (make list).head.number ≡ number)
        → ((list : TypedStatements) → AreTypedStatements 63 (S list) list → IsOurs U (make list))
        → OnTyped (Typed U (λ list. AreTypedStatements 63 (S list) list) (suc number) bs) r
        → OnTyped (Typed U (IsTypedForm 63 t) number (b ∷ bs)) (as_procedure left make r)
    block_ended left make S number t b bs (Ok y) form numbered ours h = (
      form,
      ours_both U y.procedures (make y.part ∷ []) h.1 (ours y.part h.0, tt),
      (
        λ e. has_back number y.procedures (make y.part ∷ [])
            (ap (λ b. b || false) (eq-eqb (make y.part).head.number number (numbered y.part))),
        covers_more y.procedures (y.procedures ++ make y.part ∷ []) (suc number) bs
            (λ i a. has_front i y.procedures (make y.part ∷ []) a) h.2,
      ),
    )
    block_ended left make S number t b bs (Err fs) form numbered ours h = tt

    -- an ON-unit's statement as its list
    only_typed : (t : TypingContext) (number : ℕ) (bs : List SourceBlock) (unit : Statement)
        (r : Result (WithProcedures TypedStatement) (List Fault)) → OnTyped (Typed U (IsTypedStatement 63 t) number bs) r
        → OnTyped (Typed U (AreTypedStatements 63 t) number bs) (listed unit r (Ok (alone NoStatement)))
    only_typed t number bs unit (Ok y) h = (
      put_typed t (says_nothing unit) y.part NoStatement h.0 tt,
      ours_both U y.procedures [] h.1 tt,
      covers_more y.procedures (y.procedures ++ []) number bs (λ i a. has_front i y.procedures [] a) h.2,
    )
    only_typed t number bs unit (Err fs) h = tt

    begin_typed : (s : Surroundings) (x : Next) (number : ℕ) (ss : Statements) (t : TypingContext) (bs : List SourceBlock)
        → slice_get All x.block ≡ Some (record { kind = kinds.Begin; statement = number; around = s.blocks; labels = source.labels_of ss })
        → (r : Result (WithProcedures TypedStatements) (List Fault))
        → OnTyped (Typed U (λ list. AreTypedStatements 63 (trees.in_begin (head_of U x.block number ss) list t) list) (suc x.block) bs) r
        → OnTyped (Typed U (IsTypedForm 63 t) x.block
        (record { kind = kinds.Begin; statement = number; around = s.blocks; labels = source.labels_of ss } ∷ bs))
        (made (typed.Begin (head_of U x.block number ss)) r)
    begin_typed s x number ss t bs there (Ok y) h =
        ((facts.automatic x.block, h.0), h.1, ((λ e. absurd (e refl)), h.2))
    begin_typed s x number ss t bs there (Err fs) h = tt

    group_typed : (s : Surroundings) (home : AreHome All s.blocks) (t : TypingContext) (knows : Knows U t s) (x : Next)
        (ss : Statements) (bs : List SourceBlock)
        → ((t : TypingContext) → Knows U t (source.in_group ss s)
        → OnTyped (Typed U (AreTypedStatements 63 t) x.block bs) (statements_typed U (source.in_group ss s) x ss))
        → OnTyped (Typed U (λ list. AreTypedStatements 63 (trees.in_group list t) list) x.block bs)
        (statements_typed U (source.in_group ss s) x ss)
    group_typed s home t knows x ss bs h =
        with_list U (statements_typed U (source.in_group ss s) x ss) (λ list. trees.in_group list t)
        (λ t. Knows U t (source.in_group ss s)) x.block bs h
        (typed_map _ _ (statements_typed U (source.in_group ss s) x ss) (λ y f. grouped s home t knows ss y.part f)
        (labels_kept U (source.in_group ss s) x ss))

    mutual
      statement_is_typed : (s : Surroundings) (x : Next) (st : Statement)
          → AreHome All s.blocks → IsInside s.blocks → Sits All x.block (begun_in s.blocks x.block st)
          → (t : TypingContext) → Knows U t s
          → OnTyped (Typed U (IsTypedStatement 63 t) x.block (begun_in s.blocks x.block st)) (statement_typed U s x st)
      statement_is_typed s x (Numbered number label at body) home within sits t knows =
          typed_made U (IsTypedForm 63 t) (IsTypedStatement 63 t) (typed.Statement number) x.block _
          (body_typed U s x number at body) (λ f h. h) (body_is_typed s x number at body home within sits t knows)

      body_is_typed : (s : Surroundings) (x : Next) (number at : ℕ) (body : Body)
          → AreHome All s.blocks → IsInside s.blocks → Sits All x.block (begun_by s.blocks x.block number body)
          → (t : TypingContext) → Knows U t s
          → OnTyped (Typed U (IsTypedForm 63 t) x.block (begun_by s.blocks x.block number body)) (body_typed U s x number at body)
      body_is_typed s x number at tree.Null home within sits t knows = (tt, tt, tt)
      body_is_typed s x number at (tree.Assign target equals value) home within sits t knows =
          typed_own U (IsTypedForm 63 t) x.block (assignment (naming_at U s) at target equals value)
          (assignment_typed (based (numbers s)) (areas (numbers s)) (meaning (numbers s)) t (known s home t knows) at target equals value)
      body_is_typed s x number at (tree.Declare declared) home within sits t knows = (tt, tt, tt)
      body_is_typed s x number at (tree.Procedure heading ss end) home within sits t knows =
          block_ended typed.Null (Made s x.block number end ss _ sits.0 refl refl) (Within_it s x.block number end ss _ sits.0 refl refl)
          x.block t (record { kind = kinds.Procedure; statement = number; around = s.blocks; labels = source.labels_of ss }) _
          (statements_typed U (source.in_procedure x.block (returned x.block) ss s) (inside x) ss) tt (λ list. refl)
          (λ list h. is_ours s x.block number end ss _ sits.0 refl refl within list h)
          (with_list U (statements_typed U (source.in_procedure x.block (returned x.block) ss s) (inside x) ss)
          (Within_it s x.block number end ss _ sits.0 refl refl)
          (λ t. Knows U t (source.in_procedure x.block (returned x.block) ss s)) (suc x.block) _
          (list_is_typed (source.in_procedure x.block (returned x.block) ss s) (inside x) ss
          ((_, sits.0, refl, within_self (source.labels_of ss), within_self (source.labels_of ss)), home) tt sits.1)
          (typed_map _ _ (statements_typed U (source.in_procedure x.block (returned x.block) ss s) (inside x) ss)
          (λ y f. entered s x.block number end ss _ sits.0 refl refl y.part f)
          (labels_kept U (source.in_procedure x.block (returned x.block) ss s) (inside x) ss)))
      body_is_typed s x number at (tree.Begin ss end) home within sits t knows =
          begin_typed s x number ss t _ sits.0 (statements_typed U (source.in_begin x.block ss s) (inside x) ss)
          (with_list U (statements_typed U (source.in_begin x.block ss s) (inside x) ss)
          (λ list. trees.in_begin (head_of U x.block number ss) list t) (λ t. Knows U t (source.in_begin x.block ss s)) (suc x.block) _
          (list_is_typed (source.in_begin x.block ss s) (inside x) ss
          ((_, sits.0, refl, within_self (source.labels_of ss), within_self (source.labels_of ss)), home) tt sits.1)
          (typed_map _ _ (statements_typed U (source.in_begin x.block ss s) (inside x) ss)
          (λ y f. begun s home t knows x.block number ss _ sits.0 refl y.part f)
          (labels_kept U (source.in_begin x.block ss s) (inside x) ss)))
      body_is_typed s x number at (tree.Do None ss end) home within sits t knows =
          typed_made U (λ list. AreTypedStatements 63 (trees.in_group list t) list) (IsTypedForm 63 t) typed.Group x.block _
          (statements_typed U (source.in_group ss s) x ss) (λ list h. h)
          (group_typed s home t knows x ss _
          (list_is_typed (source.in_group ss s) x ss (home_labels All (source.labels_of ss) s.blocks home)
          (inside_group (source.labels_of ss) s.blocks within) sits))
      body_is_typed s x number at (tree.Do (Some (tree.While tested)) ss end) home within sits t knows =
          typed_with U (IsString 63 t OfBits) (λ list. AreTypedStatements 63 (trees.in_group list t) list) (IsTypedForm 63 t)
          typed.While x.block _ (condition (naming_at U s) tested) (statements_typed U (source.in_group ss s) x ss)
          (λ c list h k. (h, k))
          (condition_typed (based (numbers s)) (areas (numbers s)) (meaning (numbers s)) t (known s home t knows) tested)
          (group_typed s home t knows x ss _
          (list_is_typed (source.in_group ss s) x ss (home_labels All (source.labels_of ss) s.blocks home)
          (inside_group (source.labels_of ss) s.blocks within) sits))
      body_is_typed s x number at (tree.Do (Some (tree.Iterate variable equals start range tested)) ss end) home within sits
          t knows =
          typed_with U (IsIteration 63 t) (λ list. AreTypedStatements 63 (trees.in_group list t) list) (IsTypedForm 63 t)
          typed.Iterate x.block _ (iteration (naming_at U s) x.temporary variable equals start range tested)
          (statements_typed U (source.in_group ss s) (after_limits range x) ss) (λ c list h k. (h, k))
          (iteration_typed (based (numbers s)) (areas (numbers s)) (meaning (numbers s)) t (known s home t knows) x.temporary variable equals start range tested)
          (group_typed s home t knows (after_limits range x) ss _
          (list_is_typed (source.in_group ss s) (after_limits range x) ss
          (home_labels All (source.labels_of ss) s.blocks home) (inside_group (source.labels_of ss) s.blocks within) sits))
      body_is_typed s x number at (tree.If tested consequence alternative) home within sits t knows =
          let places : Sits All x.block (begun_in s.blocks x.block consequence)
          × Sits All (x.block + blocks.blocks_in consequence)
          (begun_after s.blocks (x.block + blocks.blocks_in consequence) alternative) =
          sits_parts All x.block (blocks.blocks_in consequence) _ _ (begun_count s.blocks x.block consequence) sits in
          typed_with U (IsString 63 t OfBits) (λ b. IsTypedStatement 63 t b.0 × IsTypedElse 63 t b.1) (IsTypedForm 63 t)
          (λ c b. typed.If c b.0 b.1) x.block _ (condition (naming_at U s) tested)
          (together (λ y z. (y, z)) (statement_typed U s x consequence) (alternative_typed U s (next_after is_based x consequence) alternative))
          (λ c b h k. (h, k.0, k.1))
          (condition_typed (based (numbers s)) (areas (numbers s)) (meaning (numbers s)) t (known s home t knows) tested)
          (typed_both U (IsTypedStatement 63 t) (IsTypedElse 63 t) (λ b. IsTypedStatement 63 t b.0 × IsTypedElse 63 t b.1)
          (λ y z. (y, z)) x.block (blocks.blocks_in consequence) _ _ (statement_typed U s x consequence)
          (alternative_typed U s (next_after is_based x consequence) alternative) (begun_count s.blocks x.block consequence)
          (λ y z h k. (h, k)) (statement_is_typed s x consequence home within places.0 t knows)
          (alternative_is_typed s (next_after is_based x consequence) alternative home within places.1 t knows))
      body_is_typed s x number at tree.Stop home within sits t knows = (tt, tt, tt)
      body_is_typed s x number at (tree.Allocate list) home within sits t knows =
          typed_own U (IsTypedForm 63 t) x.block (allocate_typed (naming_at U s) x.temporary list)
          (allocate_is_typed (based (numbers s)) (areas (numbers s)) (meaning (numbers s)) t (known s home t knows) (facts.based (numbers s)) x.temporary list)
      body_is_typed s x number at (tree.Free list) home within sits t knows =
          typed_own U (IsTypedForm 63 t) x.block (free_typed (naming_at U s) list)
          (free_is_typed (based (numbers s)) (areas (numbers s)) (meaning (numbers s)) t (known s home t knows) list)
      body_is_typed s x number at (tree.Call name arguments) home within sits t knows =
          typed_own U (IsTypedForm 63 t) x.block (call_typed (naming_at U s) name arguments)
          (call_is_typed (based (numbers s)) (areas (numbers s)) (meaning (numbers s)) t (known s home t knows) name arguments)
      body_is_typed s x number at (tree.Goto label) home within sits t knows =
          typed_own U (IsTypedForm 63 t) x.block (goto_typed (naming_at U s) s label)
          (goto_is_typed (based (numbers s)) (areas (numbers s)) (meaning (numbers s)) t (known s home t knows) s
          (λ n outward e. label_known U s.blocks t.blocks n outward knows.blocks e) label)
      body_is_typed s x number at (tree.Return value) home within sits t knows =
          typed_own U (IsTypedForm 63 t) x.block (return_typed (naming_at U s) s at value)
          (return_is_typed (based (numbers s)) (areas (numbers s)) (meaning (numbers s)) t (known s home t knows) (named s home t knows) s knows.begins knows.value at value)
      body_is_typed s x number at (tree.Put skip list) home within sits t knows =
          typed_made U (AreItems 63 t) (IsTypedForm 63 t) (typed.Put skip) x.block [] (of_own (items (naming_at U s) list))
          (λ xs h. h)
          (typed_own U (AreItems 63 t) x.block (items (naming_at U s) list)
          (items_typed (based (numbers s)) (areas (numbers s)) (meaning (numbers s)) t (known s home t knows) list))
      body_is_typed s x number at (tree.On c unit) home within sits t knows =
          let inner : Surroundings = source.in_on_unit x.block unit s in
          let r : Result (WithProcedures TypedStatements) (List Fault) = statements_typed U inner (inside x) (only unit) in
          block_ended (typed.On c x.block) (MadeUnit s x.block number unit _ sits.0 refl refl) (Within_unit s x.block number unit _ sits.0 refl refl)
          x.block t (record {
            kind = kinds.OnUnit;
            statement = number;
            around = lasting_alone s.blocks;
            labels = source.labels_of (only unit);
          }) _ r (on_unit_known U t s knows within x.block _ sits.0 refl refl) (λ list. refl)
          (λ list h. unit_ours s x.block number unit _ sits.0 refl refl within list h)
          (with_list U r (Within_unit s x.block number unit _ sits.0 refl refl) (λ t. Knows U t inner) (suc x.block) _
          (λ t knows. only_typed t (suc x.block) _ unit (statement_typed U inner (inside x) unit)
          (statement_is_typed inner (inside x) unit (
            (_, sits.0, refl, within_self (source.labels_of (only unit)), within_self (source.labels_of (only unit))),
            home_lasting All s.blocks home,
          ) tt sits.1 t knows))
          (typed_map _ _ r (λ y f. unit_entered s x.block number unit _ sits.0 refl refl y.part f)
          (labels_kept U inner (inside x) (only unit))))
      body_is_typed s x number at (tree.Revert c) home within sits t knows = (tt, tt, tt)
      body_is_typed s x number at (tree.Signal c) home within sits t knows = (tt, tt, tt)

      alternative_is_typed : (s : Surroundings) (x : Next) (a : Alternative)
          → AreHome All s.blocks → IsInside s.blocks → Sits All x.block (begun_after s.blocks x.block a)
          → (t : TypingContext) → Knows U t s
          → OnTyped (Typed U (IsTypedElse 63 t) x.block (begun_after s.blocks x.block a)) (alternative_typed U s x a)
      alternative_is_typed s x tree.NoElse home within sits t knows = (tt, tt, tt)
      alternative_is_typed s x (tree.Else st) home within sits t knows =
          typed_made U (IsTypedStatement 63 t) (IsTypedElse 63 t) Else x.block _ (statement_typed U s x st) (λ y h. h)
          (statement_is_typed s x st home within sits t knows)

      pub list_is_typed : (s : Surroundings) (x : Next) (ss : Statements)
          → AreHome All s.blocks → IsInside s.blocks → Sits All x.block (begun_among s.blocks x.block ss)
          → (t : TypingContext) → Knows U t s
          → OnTyped (Typed U (AreTypedStatements 63 t) x.block (begun_among s.blocks x.block ss)) (statements_typed U s x ss)
      list_is_typed s x Ended home within sits t knows = (tt, tt, tt)
      list_is_typed s x (Before (Numbered number label at body) more) home within sits t knows =
          let places : Sits All x.block (begun_in s.blocks x.block (Numbered number label at body))
          × Sits All (x.block + blocks.blocks_in (Numbered number label at body))
          (begun_among s.blocks (x.block + blocks.blocks_in (Numbered number label at body)) more) =
          sits_parts All x.block (blocks.blocks_in (Numbered number label at body)) _ _
          (begun_count s.blocks x.block (Numbered number label at body)) sits in
          typed_both U (IsTypedStatement 63 t) (AreTypedStatements 63 t) (AreTypedStatements 63 t)
          (put_before (leaves_nothing body)) x.block (blocks.blocks_in (Numbered number label at body)) _ _
          (statement_typed U s x (Numbered number label at body))
          (statements_typed U s (next_after is_based x (Numbered number label at body)) more)
          (begun_count s.blocks x.block (Numbered number label at body))
          (λ y z h k. put_typed t (leaves_nothing body) y z h k)
          (statement_is_typed s x (Numbered number label at body) home within places.0 t knows)
          (list_is_typed s (next_after is_based x (Numbered number label at body)) more home within places.1 t knows)
