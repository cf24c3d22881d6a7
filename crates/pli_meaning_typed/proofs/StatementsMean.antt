-- What well-typed statements mean.
use Rattle.std.specs.Prelude.{◌≡◌, ◌≢◌, ℕ, zero, suc, nat_eq, Bool, true, false, ◌&&◌, ◌||◌, IsTrue, Option, Some, None}
use Rattle.std.specs.Prelude.{List, [], ◌∷◌, ◌++◌, length, map, slice_get, if◌then◌else◌, refl}
use Rattle.std.specs.List.{list_any}
use Rattle.std.proofs.Common.{arith, sym, ap, ◌∙◌, subst, inr, true≢false}
use Rattle.std.proofs.lemmas.Bool.{eqb-true, eq-eqb}
use Rattle.pli_run.specs.declared.ending.Ending.TheVariants as message
use Rattle.pli_map.specs.ParameterTypes.{ParameterType, Stated}
use Rattle.pli_world.specs.Activations.{nearest_of}
use Rattle.pli_world.specs.Conditions.{reverted}
use Rattle.pli_world.specs.Storage.{Place}
use Rattle.pli_world.specs.World.{World, Answer, Yields, Raises, Wrong, entered, height, at_statement}
use Rattle.pli_world.specs.Activations.{Head}
use Rattle.pli_type_tree.specs.Templates.{Template, variable_of}
use Rattle.pli_type_tree.specs.TypedTree.{TypedExpression, BlockHead, TypedStatement, Statement, Form, Null, Assign, AssignString}
use Rattle.pli_type_tree.specs.TypedTree.{AssignAggregate, AssignArea, EmptyArea, Put, Allocate, Free, If, Begin, Group, While, Iterate, Call, Goto, Return, ReturnValue, Stop, On, Revert, Signal, OtherWise, NoElse, Else}
use Rattle.pli_type_tree.specs.TypedTree.{TypedStatements, NoStatement, StatementThen, TypedUnit}
use Rattle.pli_type_tree.specs.ValueTypes.{OfBits}
use Rattle.pli_type_tree.specs.WellTyped.{AreMade, BlockAround, KnownProcedure, TypingContext, blocks_from, IsString, labels_of, with_labels}
use Rattle.pli_type_tree.specs.WellTyped.{in_group, block_of, in_begin, IsTypedStatement, IsTypedForm, IsTypedElse, AreTypedStatements}
use Rattle.pli_meaning_tree.specs.Effects.{Label, Effect, Gives, Flow, Next, Returned, Doing, and_then, nothing_done, answered, back_at}
use Rattle.pli_meaning_tree.specs.Effects.{leaving, block_end}
use Rattle.pli_meaning_tree.specs.TreeMeaning.{Calls, condition, assigns, assigns_string}
use Rattle.pli_meaning_tree.specs.TreeMeaning.{bears, labels_in, head_in, static_link, activation_of, does, does_form, does_else}
use Rattle.pli_meaning_tree.specs.TreeMeaning.{does_list, does_from}
use Rattle.pli_meaning_tree.specs.Parts.{followed, assigns_aggregate, assigns_area, empties, puts, allocates, frees, signals, establishes, does_call, returns_value, in_block, skips}
use Rattle.pli_meaning_typed.specs.SoundWorlds.{AreGood, Known, AreKnown, Shape, Stand, IsSound, IsLater, Answers}
use Rattle.pli_meaning_typed.proofs.OnUnits.{also_wide, IsOfTyped, Holds, holds_more, holds_entered}
use Rattle.pli_meaning_typed.proofs.MeansLemmas.{IsBelow, also, Means, Anything, means_from, then_means, statement_means, chosen_means}
use Rattle.pli_meaning_typed.proofs.MeansLemmas.{caught_means, leaving_means, full_means, followed_means, turns_means}
use Rattle.pli_meaning_typed.proofs.ExpressionsMean.{CallsMean}
use Rattle.pli_meaning_typed.proofs.FormsMean.{FlowIs, Fits, condition_means, assigns_means, string_assigned, aggregate_means, area_assigned, area_emptied, skips_means, allocates_mean, frees_mean, call_means}
use Rattle.pli_meaning_typed.proofs.FormsMean.{jump_means, on_means, revert_means, signal_means, return_means, value_returned}
use Rattle.pli_meaning_typed.proofs.IterationsMean.{iterates_means}
use Rattle.pli_meaning_typed.proofs.ContextLaws.{IsUnit, near, stand_wider, stand_labels, at_rest, rest_in_group, shaped_length}
use Rattle.pli_meaning_typed.proofs.WorldLaws.{later_same, shape_of, entered_answers, left_sound, left_later, statement_sound}

ended_other : message.Ended ≢ message.MachineFault
ended_other e = absurd (cc)

-- labels
pub held_labels : (unit : ℕ) (statements : TypedStatements) (label : ℕ) → IsTrue (list_any (nat_eq label) (labels_of statements))
    → labels_in unit statements (record { unit = unit; number = label }) ≡ true
held_labels unit NoStatement label h = h
held_labels unit (StatementThen (Statement number form) more) label h =
    ap (λ b. b && nat_eq number label || labels_in unit more (record { unit = unit; number = label })) (eq-eqb unit unit refl)
    ∙ by (nat_eq label number) (nat_eq number label) refl refl h (held_labels unit more label)
  where
    by : (b c : Bool) → nat_eq label number ≡ b → nat_eq number label ≡ c → b || list_any (nat_eq label) (labels_of more) ≡ true
        → (list_any (nat_eq label) (labels_of more) ≡ true → labels_in unit more (record { unit = unit; number = label }) ≡ true)
        → c || labels_in unit more (record { unit = unit; number = label }) ≡ true
    by b true e f h rest = refl
    by true false e f h rest = absurd (true≢false (sym (eq-eqb number label (sym (eqb-true label number e))) ∙ f))
    by false false e f h rest = rest h

also_new : (unit : ℕ) (statements : TypedStatements) (height : ℕ) (known : Known) → AreKnown unit (also (labels_in unit statements) height known) height (labels_of statements)
also_new unit statements height known n h =
    let label : Label = record { unit = unit; number = n } in
    ap (λ b. if b && labels_in unit statements label then true else known height label) (eq-eqb height height refl)
    ∙ ap (λ b. if b then true else known height label) (held_labels unit statements n h)

-- a list begins at its front or at a label of its own
abbrev Starts : (unit : ℕ) → TypedStatements → Option Label → Type 0
Starts unit statements None = Unit {0}
Starts unit statements (Some label) = labels_in unit statements label ≡ true

in_own_group : (greatest : ℕ) (units : List TypedUnit) (unit : ℕ) (known : Known) (x : Shape) (ss : List Shape) (s : TypingContext) (block : ℕ) (statements : TypedStatements)
    → Fits greatest units unit known x ss s block
    → Fits greatest units unit (also (labels_in unit statements) (suc (length ss)) known) x ss (in_group statements s) block
in_own_group greatest units unit known x ss s block statements f =
    let more = also (labels_in unit statements) (suc (length ss)) known in record {
      inside = record { own = f.inside.own; top = f.inside.top; knows = f.inside.knows };
      stand =
          stand_labels unit known more (labels_of statements) (x ∷ ss) (suc (length ss)) s.blocks (also_wide (labels_in unit statements) (suc (length ss)) known)
          (also_new unit statements (suc (length ss)) known) f.stand;
      lasts = subst (λ bs. Stand unit x.lasting (x ∷ ss) (suc (length ss)) bs) (sym (rest_in_group (labels_of statements) s.blocks)) f.lasts;
      outlasts = holds_more greatest units known (x ∷ ss) (labels_in unit statements) f.outlasts;
      running = f.running;
      first = record f.first { labels = labels_of statements ++ f.first.labels };
      others = f.others;
      blocks = ap (λ bs. with_labels (labels_of statements) bs) f.blocks;
      own = f.own;
    }

-- the slots of a block
variables_described : (ts : List Template) → map (λ v. Stated v.description) (map variable_of ts) ≡ map (λ t. Stated t.description) ts
variables_described [] = refl
variables_described (t ∷ ts) = ap (λ ds. Stated t.description ∷ ds) (variables_described ts)

-- a block's own statements
pub in_own_block : (greatest : ℕ) (units : List TypedUnit) (unit : ℕ) (known : Known) (head : BlockHead) (parameters : List ParameterType) (statements : TypedStatements) (link : ℕ) (ss : List Shape)
    (s : TypingContext) (around : List BlockAround) → s.blocks ≡ block_of head parameters statements ∷ around → IsUnit units unit s.globals → IsOfTyped greatest units unit s.procedures
    → Stand unit known ss link around → Holds greatest units known ss
    → Fits greatest units unit (also (labels_in unit statements) (suc (length ss)) known)
    (shape_of (head_in unit head) link parameters s.procedures (also (labels_in unit statements) (suc (length ss)) known)) ss s head.number
in_own_block greatest units unit known head parameters statements link ss s around e own typed stand outlasts =
    let h = suc (length ss) in
    let more = also (labels_in unit statements) h known in
    let y : Shape = shape_of (head_in unit head) link parameters s.procedures more in
    let there : Stand unit more (y ∷ ss) h (block_of head parameters statements ∷ around) = inr (
      refl,
      refl,
      (refl, ap (λ ds. parameters ++ ds) (variables_described head.variables)),
      also_new unit statements h known,
      stand_wider unit known more ss link around (also_wide (labels_in unit statements) h known) stand,
      refl,
    ) in record {
      inside = record { own = own; top = refl; knows = refl };
      stand = subst (λ bs. Stand unit more (y ∷ ss) h bs) (sym e) there;
      lasts = subst (λ bs. Stand unit more (y ∷ ss) h (at_rest bs)) (sym e) there;
      outlasts = holds_entered greatest units known y ss (labels_in unit statements) outlasts refl typed;
      running = refl;
      first = block_of head parameters statements;
      others = around;
      blocks = e;
      own = refl;
    }

-- an activation: it is entered, runs and is left
pub activation_means : {A : Type 0} (units : List TypedUnit) (P : Flow → World → Type 0) (Q : A → World → Type 0) (n : ℕ) (known : Known)
    (ss : List Shape) (head : Head) (link : ℕ) (places : List Place) (parameters : List ParameterType) (procedures : ℕ → Option KnownProcedure) (lasting : Known) (run : Doing Flow) (end : Flow → Doing A)
    (w : World) (left : ℕ) → IsBelow known (length ss) → IsSound units ss w → ((u : TypedUnit) × (slice_get units head.unit ≡ Some u)) → AreGood w parameters places
    → AreMade head.variables
    → ((v : World) (l : ℕ) → IsSound units (shape_of head link parameters procedures lasting ∷ ss) v
    → Means units n l known (shape_of head link parameters procedures lasting ∷ ss) v P (run v l))
    → ((x : Flow) (v : World) (l : ℕ) → P x v → IsSound units (shape_of head link parameters procedures lasting ∷ ss) v
    → Means units n l known ss v Q (end x v l))
    → Means units n left known ss w Q (activation_of head link places run end w left)
activation_means units P Q n known ss head link places parameters procedures lasting run end w left below sound own good made f g =
    by (entered head link places w) (entered_answers units head link places parameters procedures lasting ss w sound own good made)
  where
    y : Shape
    y = shape_of head link parameters procedures lasting

    by : (o : Answer (Unit {0})) → Answers units (λ _ v. IsSound units (y ∷ ss) v × IsLater w v) o
        → Means units n left known ss w Q (and_then (answered o left) (λ _ w left. leaving (run w left) end))
    by (Yields _ v) h =
        means_from units Q n left left known ss w v (leaving (run v left) end) (omega arith) h.1
        (leaving_means units P Q n left known y ss v (run v left) end below (f v left h.0) (λ x u l le is s later. g x u l is s))
    by (Raises r v) h = h
    by Wrong h = h

module _ (units : List TypedUnit) (greatest level : ℕ) (call : Calls) (unit : ℕ) where
  abbrev Here : {A : Type 0} → TypingContext → Known → Shape → List Shape → (left : ℕ) → World → (A → World → Type 0) → Effect A → Type 0
  Here s known x ss left u Is o = Means units level left known (x ∷ ss) u Is o

  abbrev Flows : TypingContext → Flow → World → Type 0
  Flows s = FlowIs s.begins s.value

  abbrev CallsIn : TypingContext → Type 0
  CallsIn s = CallsMean greatest units unit s.globals s.procedures level call

  -- what a list does from a label
  picked : (s : TypingContext) (known : Known) (x : Shape) (ss : List Shape) (w : World) (left : ℕ) (b c : Bool) (o other : Effect Flow) → b || c ≡ true
      → Here s known x ss left w (Flows s) o → (c ≡ true → Here s known x ss left w (Flows s) other)
      → Here s known x ss left w (Flows s) (if b then o else other)
  picked s known x ss w left true c o other h f g = f
  picked s known x ss w left false c o other h f g = g h

  grown : (s : TypingContext) (known : Known) (x : Shape) (ss : List Shape) (w : World) (left : ℕ) (o : Effect Flow) → Here s known x ss left w (Flows s) o
      → Means units level (suc left) known (x ∷ ss) w (Flows s) o
  grown s known x ss w left o h = means_from units (Flows s) level left (suc left) known (x ∷ ss) w w o (omega arith) (later_same w) h

  -- a list, which catches the jumps to its labels
  list_run : (s : TypingContext) (known : Known) (x : Shape) (ss : List Shape) (block : ℕ) (statements : TypedStatements)
      → ((from : Option Label) → Starts unit statements from → (w : World) (left : ℕ) → IsSound units (x ∷ ss) w
      → Here s (also (labels_in unit statements) (suc (length ss)) known) x ss left w (Flows s) (does_from greatest call unit level block statements from w left))
      → (w : World) (left : ℕ) → IsSound units (x ∷ ss) w
      → Here s known x ss left w (Flows s) (does_list greatest call unit level block statements w left)
  list_run s known x ss block statements f w left sound =
      caught_means units (Flows s) level known (x ∷ ss) (labels_in unit statements) (does_from greatest call unit level block statements)
      (Starts unit statements) (λ k e. e) f level (omega arith) None tt w left sound

  -- a BEGIN block
  begun : (s : TypingContext) (known : Known) (x : Shape) (ss : List Shape) (block : ℕ) (head : BlockHead) (statements : TypedStatements) → Fits greatest units unit known x ss s block
      → AreMade (map variable_of head.variables)
      → ((y : Shape) → Fits greatest units unit (also (labels_in unit statements) (suc (length (x ∷ ss))) known) y (x ∷ ss) (in_begin head statements s) head.number
      → (w : World) (left : ℕ) → IsSound units (y ∷ x ∷ ss) w
      → Here (in_begin head statements s) known y (x ∷ ss) left w (Flows (in_begin head statements s)) (does_list greatest call unit level head.number statements w left))
      → (w : World) (left : ℕ) → IsSound units (x ∷ ss) w
      → Here s known x ss left w (Flows s)
      (in_block (head_in unit head) (static_link unit (Some block) w) (does_list greatest call unit level head.number statements) w left)
  begun s known x ss block head statements fits made f w left sound =
      let own : blocks_from block s.blocks ≡ Some s.blocks = first_block s.blocks fits.first fits.others fits.blocks fits.own in
      let n = near unit known w (x ∷ ss) w.activations (suc (length ss)) block s.blocks s.blocks sound.stack fits.stand own in
      let link : static_link unit (Some block) w ≡ Some n.link =
      ap (λ h. nearest_of unit block w.activations h) (shaped_length w (x ∷ ss) w.activations sound.stack) ∙ n.walked in
      subst (λ o. Here s known x ss left w (Flows s) (in_block (head_in unit head) o (does_list greatest call unit level head.number statements) w left)) (sym link)
      (full_means units (Flows s) level left known x ss
      (activation_of (head_in unit head) n.link [] (does_list greatest call unit level head.number statements) block_end) w sound
      (activation_means units (Flows (in_begin head statements s)) (Flows s) level known (x ∷ ss) (head_in unit head) n.link [] []
      s.procedures lasting (does_list greatest call unit level head.number statements) block_end w left fits.outlasts.below sound (fits.inside.own.unit, fits.inside.own.there) tt made
      (λ v l sound. f (inner n.link) (in_own_block greatest units unit known head [] statements n.link (x ∷ ss) (in_begin head statements s) s.blocks refl fits.inside.own typed n.stand fits.outlasts) v l sound)
      (λ y v l is sound. ended (inner n.link) y v l is sound)))
    where
      lasting : Known
      lasting = also (labels_in unit statements) (suc (length (x ∷ ss))) known

      inner : ℕ → Shape
      inner link = shape_of (head_in unit head) link [] s.procedures (also (labels_in unit statements) (suc (length (x ∷ ss))) known)

      typed : IsOfTyped greatest units unit s.procedures
      typed =
          subst (λ procedures. IsOfTyped greatest units unit procedures) fits.inside.knows
          (subst (λ n. IsOfTyped greatest units n x.procedures) fits.inside.top fits.outlasts.typed.0)

      first_block : (blocks : List BlockAround) (b : BlockAround) (bs : List BlockAround) → blocks ≡ b ∷ bs → b.number ≡ block
          → blocks_from block blocks ≡ Some blocks
      first_block blocks b bs e same =
          subst (λ blocks. blocks_from block blocks ≡ Some blocks) (sym e)
          (ap (λ t. if t then Some (b ∷ bs) else blocks_from block bs) (eq-eqb b.number block same))

      ended : (z : Shape) (y : Flow) (v : World) (l : ℕ) → FlowIs (suc s.begins) s.value y v → IsSound units (z ∷ x ∷ ss) v
          → Here s known x ss l v (Flows s) (block_end y v l)
      ended z Next v l is sound = (omega arith, tt, left_sound units z (x ∷ ss) v sound, left_later units v)
      ended z (Returned zero o) v l is sound = absurd (cc)
      ended z (Returned (suc outward) o) v l is sound = (
        omega arith,
        (let e = is.0 in omega (arith, e), is.1),
        left_sound units z (x ∷ ss) v sound,
        left_later units v,
      )

  -- a condition, with the statement as it was
  test_means : (s : TypingContext) (known : Known) (x : Shape) (ss : List Shape) (block number : ℕ) (e : TypedExpression) → IsString greatest s OfBits e
      → Fits greatest units unit known x ss s block → CallsIn s → (w : World) (left : ℕ) → IsSound units (x ∷ ss) w
      → Here s known x ss left w Anything (back_at number (condition greatest call e) w left)
  test_means s known x ss block number e typed fits calls w left sound =
      let t = statement_sound units (x ∷ ss) number w sound in
      means_from units Anything level left left known (x ∷ ss) w (at_statement number w) (condition greatest call e (at_statement number w) left) (omega arith) t.1
      (condition_means units greatest level call unit s known x ss block fits calls e typed (at_statement number w) left t.0)

  mutual
    pub does_means : (st : TypedStatement) (s : TypingContext) (known : Known) (x : Shape) (ss : List Shape) (block : ℕ) → IsTypedStatement greatest s st
        → Fits greatest units unit known x ss s block → CallsIn s → (w : World) (left : ℕ) → IsSound units (x ∷ ss) w
        → Here s known x ss left w (Flows s) (does greatest call unit level block st w left)
    does_means (Statement number form) s known x ss block typed fits calls w left sound =
        statement_means units (Flows s) level known (x ∷ ss) number (does_form greatest call unit level block number form) w left sound
        (λ v l e sound. form_means form s known x ss block number typed fits calls v l sound)

    form_means : (form : Form) (s : TypingContext) (known : Known) (x : Shape) (ss : List Shape) (block number : ℕ) → IsTypedForm greatest s form
        → Fits greatest units unit known x ss s block → CallsIn s → (w : World) (left : ℕ) → IsSound units (x ∷ ss) w
        → Means units level (suc left) known (x ∷ ss) w (Flows s) (does_form greatest call unit level block number form w left)
    form_means Null s known x ss block number typed fits calls w left sound = (omega arith, tt, sound, later_same w)
    form_means (Assign target e) s known x ss block number typed fits calls w left sound =
        grown s known x ss w left (assigns greatest call target e w left) (assigns_means units greatest level call unit s known x ss block fits calls target e typed w left sound)
    form_means (AssignString target e) s known x ss block number typed fits calls w left sound =
        grown s known x ss w left (assigns_string greatest call target e w left) (string_assigned units greatest level call unit s known x ss block fits calls target e typed w left sound)
    form_means (AssignAggregate target source) s known x ss block number typed fits calls w left sound =
        grown s known x ss w left (assigns_aggregate greatest call target source w left)
        (aggregate_means units greatest level call unit s known x ss block fits calls target source typed w left sound)
    form_means (AssignArea target source) s known x ss block number typed fits calls w left sound =
        grown s known x ss w left (assigns_area greatest call target source w left) (area_assigned units greatest level call unit s known x ss block fits calls target source typed w left sound)
    form_means (EmptyArea target) s known x ss block number typed fits calls w left sound =
        grown s known x ss w left (empties greatest call target w left) (area_emptied units greatest level call unit s known x ss block fits calls target typed w left sound)
    form_means (Put skip items) s known x ss block number typed fits calls w left sound =
        grown s known x ss w left (skips greatest call skip (puts greatest call items) w left)
        (skips_means units greatest level call unit s known x ss block fits calls skip items typed w left sound)
    form_means (Allocate items) s known x ss block number typed fits calls w left sound =
        grown s known x ss w left (allocates greatest call level items w left) (allocates_mean units greatest level call unit s known x ss block fits calls items typed w left sound)
    form_means (Free items) s known x ss block number typed fits calls w left sound =
        grown s known x ss w left (frees greatest call items w left) (frees_mean units greatest level call unit s known x ss block fits calls items typed w left sound)
    form_means (If e consequence alternative) s known x ss block number typed fits calls w left sound =
        grown s known x ss w left (does_form greatest call unit level block number (If e consequence alternative) w left)
        (then_means units Anything (Flows s) level left known (x ∷ ss) w (condition greatest call e w left) _
        (condition_means units greatest level call unit s known x ss block fits calls e typed.0 w left sound)
        (λ b v l le any sound later. chosen_means units (Flows s) level l known (x ∷ ss) v b
        (does greatest call unit level block consequence) (does_else greatest call unit level block alternative) v l
        (does_means consequence s known x ss block typed.1 fits calls v l sound)
        (else_means alternative s known x ss block typed.2 fits calls v l sound)))
    form_means (Begin head statements) s known x ss block number typed fits calls w left sound =
        grown s known x ss w left (does_form greatest call unit level block number (Begin head statements) w left)
        (begun s known x ss block head statements fits typed.0
        (λ y f v l sound. list_run (in_begin head statements s) known y (x ∷ ss) head.number statements
        (λ from starts u m sound. from_means statements from (in_begin head statements s) (also (labels_in unit statements) (suc (length (x ∷ ss))) known) y (x ∷ ss) head.number typed.1 f calls starts u m sound)
        v l sound) w left sound)
    form_means (Group statements) s known x ss block number typed fits calls w left sound =
        grown s known x ss w left (does_list greatest call unit level block statements w left)
        (list_run (in_group statements s) known x ss block statements
        (λ from starts u m sound. from_means statements from (in_group statements s) (also (labels_in unit statements) (suc (length ss)) known) x ss block typed (in_own_group greatest units unit known x ss s block statements fits) calls starts u m sound)
        w left sound)
    form_means (While e statements) s known x ss block number typed fits calls w left sound =
        grown s known x ss w left (does_form greatest call unit level block number (While e statements) w left)
        (turns_means units (Flows s) level known (x ∷ ss) number (back_at number (condition greatest call e))
        (does_list greatest call unit level block statements) nothing_done (λ w. tt)
        (λ v l sound. test_means s known x ss block number e typed.0 fits calls v l sound)
        (λ v l sound. list_run (in_group statements s) known x ss block statements
        (λ from starts u m sound. from_means statements from (in_group statements s) (also (labels_in unit statements) (suc (length ss)) known) x ss block typed.1 (in_own_group greatest units unit known x ss s block statements fits) calls starts u m sound)
        v l sound)
        (λ v l sound. (omega arith, tt, sound, later_same v))
        level (omega arith) w left sound)
    form_means (Iterate iteration statements) s known x ss block number typed fits calls w left sound =
        grown s known x ss w left (does_form greatest call unit level block number (Iterate iteration statements) w left)
        (iterates_means units greatest level call unit s known x ss block fits calls number iteration (does_list greatest call unit level block statements) typed.0
        (λ v l sound. list_run (in_group statements s) known x ss block statements
        (λ from starts u m sound. from_means statements from (in_group statements s) (also (labels_in unit statements) (suc (length ss)) known) x ss block typed.1 (in_own_group greatest units unit known x ss s block statements fits) calls starts u m sound)
        v l sound)
        w left sound)
    form_means (Call callee arguments) s known x ss block number typed fits calls w left sound =
        grown s known x ss w left (does_call greatest call callee arguments w left)
        (call_means units greatest level call unit s known x ss block fits calls callee arguments typed w left sound)
    form_means (Goto outward label) s known x ss block number typed fits calls w left sound =
        jump_means units greatest level call unit s known x ss block fits calls outward label typed w left sound
    form_means (Return outward) s known x ss block number typed fits calls w left sound =
        grown s known x ss w left (Gives (Returned outward None) w left)
        (return_means units greatest level call unit s known x ss block fits calls outward typed.0 typed.1 w left sound)
    form_means (ReturnValue outward e) s known x ss block number typed fits calls w left sound =
        grown s known x ss w left (returns_value greatest call outward e w left)
        (value_returned units greatest level call unit s known x ss block fits calls outward e typed w left sound)
    form_means Stop s known x ss block number typed fits calls w left sound = ended_other
    form_means (On c on_unit) s known x ss block number typed fits calls w left sound =
        grown s known x ss w left (establishes unit block c on_unit w left) (on_means units greatest level call unit s known x ss block fits calls c on_unit typed w left sound)
    form_means (Revert c) s known x ss block number typed fits calls w left sound =
        grown s known x ss w left (Gives Next (reverted c w) left) (revert_means units greatest level call unit s known x ss block fits calls c w left sound)
    form_means (Signal c) s known x ss block number typed fits calls w left sound =
        grown s known x ss w left (signals greatest call c w left) (signal_means units greatest level call unit s known x ss block fits calls c w left sound)

    else_means : (alternative : OtherWise) (s : TypingContext) (known : Known) (x : Shape) (ss : List Shape) (block : ℕ) → IsTypedElse greatest s alternative
        → Fits greatest units unit known x ss s block → CallsIn s → (w : World) (left : ℕ) → IsSound units (x ∷ ss) w
        → Here s known x ss left w (Flows s) (does_else greatest call unit level block alternative w left)
    else_means NoElse s known x ss block typed fits calls w left sound = (omega arith, tt, sound, later_same w)
    else_means (Else st) s known x ss block typed fits calls w left sound = does_means st s known x ss block typed fits calls w left sound

    from_means : (statements : TypedStatements) (from : Option Label) (s : TypingContext) (known : Known) (x : Shape) (ss : List Shape) (block : ℕ)
        → AreTypedStatements greatest s statements → Fits greatest units unit known x ss s block → CallsIn s → Starts unit statements from
        → (w : World) (left : ℕ) → IsSound units (x ∷ ss) w
        → Here s known x ss left w (Flows s) (does_from greatest call unit level block statements from w left)
    from_means NoStatement None s known x ss block typed fits calls starts w left sound = (omega arith, tt, sound, later_same w)
    from_means NoStatement (Some label) s known x ss block typed fits calls starts w left sound = absurd (cc)
    from_means (StatementThen st more) None s known x ss block typed fits calls starts w left sound =
        followed_means units (Flows s) level left known (x ∷ ss) w (does greatest call unit level block st w left) _
        (does_means st s known x ss block typed.0 fits calls w left sound)
        (λ v l le sound. from_means more None s known x ss block typed.1 fits calls tt v l sound)
    from_means (StatementThen st more) (Some label) s known x ss block typed fits calls starts w left sound =
        picked s known x ss w left (bears unit st label) (labels_in unit more label)
        (followed (does greatest call unit level block st w left) (does_from greatest call unit level block more None))
        (does_from greatest call unit level block more (Some label) w left) starts
        (followed_means units (Flows s) level left known (x ∷ ss) w (does greatest call unit level block st w left) _
        (does_means st s known x ss block typed.0 fits calls w left sound)
        (λ v l le sound. from_means more None s known x ss block typed.1 fits calls tt v l sound))
        (λ there. from_means more (Some label) s known x ss block typed.1 fits calls there w left sound)

  pub list_means : (statements : TypedStatements) (s : TypingContext) (known : Known) (x : Shape) (ss : List Shape) (block : ℕ)
      → AreTypedStatements greatest s statements → Fits greatest units unit (also (labels_in unit statements) (suc (length ss)) known) x ss s block → CallsIn s
      → (w : World) (left : ℕ) → IsSound units (x ∷ ss) w
      → Here s known x ss left w (Flows s) (does_list greatest call unit level block statements w left)
  list_means statements s known x ss block typed fits calls w left sound =
      list_run s known x ss block statements
      (λ from starts v l sound. from_means statements from s (also (labels_in unit statements) (suc (length ss)) known) x ss block typed fits calls starts v l sound)
      w left sound
