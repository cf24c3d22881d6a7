-- The machine does what each form of a statement means, from what its parts do.
use Rattle.std.specs.Prelude.{◌≡◌, ℕ, zero, suc, Bool, true, false, Option, Some, None, List, [], ◌∷◌, slice_get, if◌then◌else◌, refl}
use Rattle.std.proofs.Common.{ap, ◌∙◌, sym, subst, arith}
use Rattle.pli_base.specs.declared.statement.Condition.{Condition}
use Rattle.pli_world.specs.Areas.{emptied, assigned}
use Rattle.pli_world.specs.Conditions.{established, signalled}
use Rattle.pli_world.specs.World.{World, stored, copied, printed, line_ended, entered, left_by, at_statement}
use Rattle.pli_value.specs.Value.{Value, Number, Characters, Bits, Located}
use Rattle.pli_value.specs.Conversions.{bit_constant}
use Rattle.pli_program.specs.declared.instruction.Instruction.TheVariants as op
use Rattle.pli_program.specs.Program.{BeginBlock, Block, UnitCode, Program}
use Rattle.pli_machine_step.specs.Machine as machine
use Rattle.pli_machine_step.specs.Machine.{OfValue, AtPlace, Locals, Frame, State, At, Goes, given, faulty, calm, fresh, begun, enters, resume}
use Rattle.pli_type_tree.specs.TypedTree.{Callee, TypedExpression, Called, TypedReference, TypedArguments, BlockHead, TypedStatements}
use Rattle.pli_meaning_tree.specs.Effects.{Label, Effect, Gives, Jumps, Fails, Spent, Lost, Short, Flow, Next, Returned, Doing, and_then, nothing_done, answered, as_statement, back_at, truth, turns, leaving, block_end}
use Rattle.pli_meaning_tree.specs.TreeMeaning.{Calls, printed_item, value_of, place_of, called_with, condition, assigns, assigns_string, labels_in, as_list, head_in, static_link, activation_of}
use Rattle.pli_meaning_tree.specs.Parts.{resolved, fitted_at, assigns_aggregate, assigns_area, empties, puts, does_call, signals, returns_value, establishes, in_block, no_value, skips, chosen}
use Rattle.pli_meaning_simulation.specs.CodeStands.{Span, Empty, Then, Context, deeper, Nests, arguments_in, block_of, Is, Guarded, Choice, Loop, BeginStands, OnStands, ValueStands, PlaceStands, ConditionStands, ItemsStand, SkipStands, StringStands}
use Rattle.pli_meaning_simulation.proofs.ReachesLemmas.{Fine, Target, Comes, stays, from, frame, flows, tested, returns, Reaches, gives, passes, then_reaches, bound, goes_on, goes, begins, answers}
use Rattle.pli_meaning_simulation.proofs.ConditionsReach.{resolved_run}
use Rattle.pli_meaning_simulation.proofs.ConversionsReach.{fitted_run}
use Rattle.pli_meaning_simulation.proofs.ExpressionsReach.{CallsRun, value_run, place_run, called_run}
use Rattle.pli_meaning_simulation.proofs.ControlReaches.{turn_kept, fresh_fine, jump_on, chosen_run, start_of, caught_run, leaves, full_run, enters_run, truth_run, turns_run}

module _ (p : Program) (number : ℕ) (u : UnitCode) (at : Label → ℕ) where
  -- the same run, which ends elsewhere
  pub elsewhere : {c : Context} {s : State} {l : Locals} {a b : ℕ} {fs : List Frame} (o : Effect Flow) → Reaches p number u at c s l (flows p number u a fs) fs o
      → ((m : Locals) (w : World) (left : ℕ) → Comes p (At (frame p number u a [] m) fs w left) (At (frame p number u b [] m) fs w left))
      → Reaches p number u at c s l (flows p number u b fs) fs o
  elsewhere (Gives Next w left) r f = record { by = record { locals = r.by.locals; kept = r.by.kept; comes = from p r.by.comes (f r.by.locals w left) } }
  elsewhere (Gives (Returned d v) w left) r f = record { by = r.by }
  elsewhere (Jumps h k w left) r f = record { by = r.by }
  elsewhere (Fails e w) r f = record { by = r.by }
  elsewhere (Spent w) r f = record { by = r.by }
  elsewhere Lost r f = record { by = tt }
  elsewhere Short r f = record { by = tt }

  -- one or the other
  pub either : {A : Type 0} {c : Context} {s : State} {l : Locals} {to : Target A} {fs : List Frame} {x y : Effect A} (t : Bool)
      → (t ≡ true → Reaches p number u at c s l to fs x) → Reaches p number u at c s l to fs y
      → Reaches p number u at c s l to fs (if t then x else y)
  either true f g = f refl
  either false f g = g

  module _ (there : slice_get p.units number ≡ Some u) where
    -- what a statement's code does when it stands from a to b
    abbrev pub Runs : Context → Doing Flow → (a b : ℕ) → Type 0
    Runs c go a b =
        (l : Locals) → Fine c l → (fs : List Frame) (w : World) (left : ℕ)
        → Reaches p number u at c (At (frame p number u a [] l) fs w left) l (flows p number u b fs) fs (go w left)

    -- after the step of a statement
    abbrev pub RunsCalm : Context → Doing Flow → (a b : ℕ) → Type 0
    RunsCalm c go a b =
        (l : Locals) → Fine c l → l.jumps ≡ 0 → (fs : List Frame) (w : World) (left : ℕ)
        → Reaches p number u at c (At (frame p number u a [] l) fs w left) l (flows p number u b fs) fs (go w left)

    pub printed_run : (v : Value) {a b : ℕ} → Is u op.Put a b → {c : Context} (l : Locals) → Fine c l → (fs : List Frame) (w : World) (left : ℕ)
        → Reaches p number u at c (At (frame p number u a (OfValue v ∷ []) l) fs w left) l (flows p number u b fs) fs (printed_item v w left)
    printed_run (Number x) is l fine fs w left = record { by = tt }
    printed_run (Located a) is l fine fs w left = record { by = tt }
    printed_run (Characters text) is l fine fs w left = gives p number u at Next (printed text w) left fine (goes p number u at there is refl)
    printed_run (Bits bits) is l fine fs w left = gives p number u at Next (printed (bit_constant bits) w) left fine (goes p number u at there is refl)

    -- the block of an ON-unit suits ON
    pub on_run : (k : Condition) (n block : ℕ) {c : Context} {a b : ℕ} → OnStands u k n block a b → Runs c (establishes number block k n) a b
    on_run k n block {b = b} is l fine fs w left =
        let here = frame p number u b [] l in
        bound p number u at (answered (established number (Some block) k n w) left) _
        (answers p number u at there (λ _. []) (established number (Some block) k n w) is.establishes fine w left
        (ap (λ o. machine.establishes k n o here fs w) is.there
        ∙ ap (λ t. if t then given w (established number is.block.parent k n w) (λ _ w. Goes here fs w) else faulty w) is.suits
        ∙ ap (λ q. given w (established number q k n w) (λ _ w. Goes here fs w)) is.around))
        (λ m kept _ w left. gives p number u at Next w left kept.fine (stays p _))

    pub no_value_run : (v : Option Value) {b : ℕ} {c : Context} (l : Locals) → Fine c l → (fs : List Frame) (w : World) (left : ℕ)
        → Reaches p number u at c (returns p number u b [] fs l v w left) l (flows p number u b fs) fs (no_value v w left)
    no_value_run None {b} l fine fs w left = gives p number u at Next w left fine (stays p (At (frame p number u b [] l) fs w left))
    no_value_run (Some v) l fine fs w left = record { by = tt }

    -- the end of a BEGIN block
    pub block_end_run : (x : Flow) {finish after b : ℕ} → Is u (op.Return 0) finish after → {c : Context} (n l : Locals) → Fine c l → (fs : List Frame) (w : World) (left : ℕ)
        → Reaches p number u at c (flows p number u finish (frame p number u b [] l ∷ fs) n x w left) l (flows p number u b fs) fs (block_end x w left)
    block_end_run Next is n l fine fs w left = gives p number u at Next (left_by w) left fine (goes p number u at there is refl)
    block_end_run (Returned zero v) is n l fine fs w left = record { by = tt }
    block_end_run (Returned (suc d) None) is n l fine fs w left = gives p number u at (Returned d None) (left_by w) left fine (stays p _)
    block_end_run (Returned (suc d) (Some v)) is n l fine fs w left = gives p number u at (Returned d (Some v)) (left_by w) left fine (stays p _)

    -- a BEGIN block
    pub begin_run : (block : ℕ) (head : BlockHead) (list : Context → Span) (run : Doing Flow) {c : Context} {a b : ℕ} → BeginStands u head block list a b
        → ((d : Context) (x y : ℕ) → list d x y → Runs d run x y)
        → RunsCalm c (λ w left. in_block (head_in number head) (static_link number (Some block) w) run w left) a b
    begin_run block head list run {c} {a} {b} is body l fine none fs w left = by (static_link number (Some block) w) refl
      where
        d : Context
        d = record { size = head.temporaries; depth = 0; bound = is.block.bound }

        code : Block
        code = block_of BeginBlock (Some block) 0 head is.block.entry

        by : (link : Option ℕ) → static_link number (Some block) w ≡ link
            → Reaches p number u at c (At (frame p number u a [] l) fs w left) l (flows p number u b fs) fs (in_block (head_in number head) link run w left)
        by None e = record { by = tt }
        by (Some link) e =
            then_reaches p number u at
            (goes p number u at there is.begins
            (ap (λ x. resume (machine.begins head.number x (frame p number u b [] l) fs w) left) is.block.there
            ∙ ap (λ x. resume (begun head.number code x (frame p number u b [] l) fs w) left) e))
            (full_run p number u at (activation_of (head_in number head) link [] run block_end)
            (enters number head.number code link [] (frame p number u b [] l ∷ fs) w) w left
            (enters_run p number u at (frame p number u is.block.entry [] (fresh head.temporaries)) (entered (head_in number head) link [] w) (λ _ w left. leaving (run w left) block_end) w left
            (λ v. leaves p number u at number u {d = d} {to = flows p number u is.block.finish (frame p number u b [] l ∷ fs)} (run v left) block_end fine none
            (body d is.block.entry is.block.finish is.block.does (fresh head.temporaries) (fresh_fine head.temporaries is.block.bound is.block.some) (frame p number u b [] l ∷ fs) v left)
            (λ n fine2 x w left. block_end_run x is.block.ends n l fine fs w left))))

    module _ (call : Calls) (calls_run : CallsRun p number u at call) (level : ℕ) where
      pub condition_run : (e : TypedExpression) {target a b : ℕ} → ConditionStands u e target a b → {c : Context} (l : Locals) → Fine c l → (fs : List Frame) (w : World) (left : ℕ)
          → Reaches p number u at c (At (frame p number u a [] l) fs w left) l (tested p number u b target fs) fs (condition p.greatest call e w left)
      condition_run e is {c} l fine fs w left =
          bound p number u at (value_of p.greatest call e w left) truth (value_run p number u at there call calls_run c e is.fst [] l fine fs w left)
          (λ m k v w left. truth_run p number u at there v is.snd m k.fine fs w left)

      pub assign_run : (target : TypedReference) (e : TypedExpression) {c : Context} {a b : ℕ} → Then (PlaceStands u target) (Then (ValueStands u e) (Is u op.Store)) a b
          → Runs c (assigns p.greatest call target e) a b
      assign_run target e {c} is l fine fs w left =
          bound p number u at (place_of p.greatest call target w left) _ (place_run p number u at there call calls_run c target is.fst [] l fine fs w left)
          (λ m k q w left. bound p number u at (value_of p.greatest call e w left) _ (value_run p number u at there call calls_run c e is.snd.fst (AtPlace q ∷ []) m k.fine fs w left)
          (λ m k v w left. bound p number u at (answered (stored q v w) left) _ (answers p number u at there (λ _. []) (stored q v w) is.snd.snd k.fine w left refl)
          (λ m k _ w left. gives p number u at Next w left k.fine (stays p _))))

      pub assign_string_run : (target : TypedReference) (e : TypedExpression) {c : Context} {a b : ℕ} → StringStands u target e a b → Runs c (assigns_string p.greatest call target e) a b
      assign_string_run target e {c} is l fine fs w left =
          bound p number u at (place_of p.greatest call target w left) _ (place_run p number u at there call calls_run c target is.fst [] l fine fs w left)
          (λ m k q w left. bound p number u at (value_of p.greatest call e w left) _ (value_run p number u at there call calls_run c e is.snd.fst (AtPlace q ∷ []) m k.fine fs w left)
          (λ m k v w left. bound p number u at (fitted_at p.greatest call q v w left) _ (fitted_run p number u at there call calls_run is.snd.snd.fst q v [] m k.fine fs w left)
          (λ m k x w left. bound p number u at (answered (stored q x w) left) _ (answers p number u at there (λ _. []) (stored q x w) is.snd.snd.snd k.fine w left refl)
          (λ m k _ w left. gives p number u at Next w left k.fine (stays p _)))))

      pub copy_run : (target source : TypedReference) {c : Context} {a b : ℕ} → Then (PlaceStands u target) (Then (PlaceStands u source) (Is u op.Copy)) a b
          → Runs c (assigns_aggregate p.greatest call target source) a b
      copy_run target source {c} is l fine fs w left =
          bound p number u at (place_of p.greatest call target w left) _ (place_run p number u at there call calls_run c target is.fst [] l fine fs w left)
          (λ m k q w left. bound p number u at (place_of p.greatest call source w left) _ (place_run p number u at there call calls_run c source is.snd.fst (AtPlace q ∷ []) m k.fine fs w left)
          (λ m k r w left. bound p number u at (answered (copied r q w) left) _ (answers p number u at there (λ _. []) (copied r q w) is.snd.snd k.fine w left refl)
          (λ m k _ w left. gives p number u at Next w left k.fine (stays p _))))

      pub area_run : (target source : TypedReference) {c : Context} {a b : ℕ} → Then (PlaceStands u target) (Then (PlaceStands u source) (Is u op.AssignArea)) a b
          → Runs c (assigns_area p.greatest call target source) a b
      area_run target source {c} is l fine fs w left =
          bound p number u at (place_of p.greatest call target w left) _ (place_run p number u at there call calls_run c target is.fst [] l fine fs w left)
          (λ m k q w left. bound p number u at (place_of p.greatest call source w left) _ (place_run p number u at there call calls_run c source is.snd.fst (AtPlace q ∷ []) m k.fine fs w left)
          (λ m k r w left. bound p number u at (resolved call.condition tt (assigned r q w) left) _
          (resolved_run p number u at call.condition calls_run.conditions there (λ _. []) tt (assigned r q w) is.snd.snd k.fine w left refl)
          (λ m k _ w left. gives p number u at Next w left k.fine (stays p _))))

      pub empty_run : (target : TypedReference) {c : Context} {a b : ℕ} → Then (PlaceStands u target) (Is u op.EmptyArea) a b → Runs c (empties p.greatest call target) a b
      empty_run target {c} is l fine fs w left =
          bound p number u at (place_of p.greatest call target w left) _ (place_run p number u at there call calls_run c target is.fst [] l fine fs w left)
          (λ m k q w left. bound p number u at (answered (emptied q w) left) _ (answers p number u at there (λ _. []) (emptied q w) is.snd k.fine w left refl)
          (λ m k _ w left. gives p number u at Next w left k.fine (stays p _)))

      pub signal_run : (k : Condition) {c : Context} {a b : ℕ} → Is u (op.Signal k) a b → Runs c (signals p.greatest call k) a b
      signal_run k is l fine fs w left =
          bound p number u at (resolved call.condition tt (signalled k w) left) _
          (resolved_run p number u at call.condition calls_run.conditions there (λ _. []) tt (signalled k w) is fine w left refl)
          (λ m kept _ w left. gives p number u at Next w left kept.fine (stays p _))

      pub puts_run : (es : List TypedExpression) {c : Context} {a b : ℕ} → ItemsStand u es a b → Runs c (puts p.greatest call es) a b
      puts_run [] is l fine fs w left = passes p number u at is fine w left
      puts_run (e ∷ es) {c} is l fine fs w left =
          goes_on p number u at (and_then (value_of p.greatest call e w left) (λ v w left. printed_item v w left)) _
          (bound p number u at (value_of p.greatest call e w left) _ (value_run p number u at there call calls_run c e is.fst.fst [] l fine fs w left)
          (λ m k v w left. printed_run v is.fst.snd m k.fine fs w left))
          (λ m k w left. puts_run es is.snd m k.fine fs w left)

      pub put_run : (skip : Bool) (es : List TypedExpression) {c : Context} {a b : ℕ} → Then (SkipStands u skip) (ItemsStand u es) a b
          → Runs c (skips p.greatest call skip (puts p.greatest call es)) a b
      put_run true es is l fine fs w left = then_reaches p number u at (goes p number u at there is.fst refl) (puts_run es is.snd l fine fs (line_ended w) left)
      put_run false es {b = b} is l fine fs w left = puts_run es (subst (λ x. ItemsStand u es x b) (sym is.fst) is.snd) l fine fs w left

      pub call_run : (callee : Callee) (arguments : TypedArguments) {c : Context} {a b : ℕ} → ValueStands u (Called callee arguments) a b → Runs c (does_call p.greatest call callee arguments) a b
      call_run callee arguments {c} {a} {b} is l fine fs w left =
          bound p number u at {to = returns p number u b [] fs} (called_with p.greatest call callee arguments [] w left) no_value
          (called_run p number u at there call calls_run c arguments callee (arguments_in arguments) is [] (omega arith) [] l fine fs w left)
          (λ m k v w left. no_value_run v m k.fine fs w left)

      pub return_run : (outward : ℕ) (e : TypedExpression) {c : Context} {a b : ℕ} → Then (ValueStands u e) (Is u (op.ReturnValue outward)) a b → Runs c (returns_value p.greatest call outward e) a b
      return_run outward e {c} is l fine fs w left =
          bound p number u at (value_of p.greatest call e w left) _ (value_run p number u at there call calls_run c e is.fst [] l fine fs w left)
          (λ m k v w left. gives p number u at (Returned outward (Some v)) w left k.fine (goes p number u at there is.snd refl))

      -- an IF without ELSE, and one with
      pub guarded_run : (e : TypedExpression) (part : Span) (if_true : Doing Flow) {c : Context} {a b : ℕ} → Guarded u (ConditionStands u e) part a b
          → ((x y : ℕ) → part x y → Runs c if_true x y)
          → Runs c (λ w left. and_then (condition p.greatest call e w left) (λ t w left. chosen t if_true nothing_done w left)) a b
      guarded_run e part if_true {c} {a} {b} is part_run l fine fs w left =
          bound p number u at {to = tested p number u is.start b fs} {to2 = flows p number u b fs} (condition p.greatest call e w left) _ (condition_run e is.holds l fine fs w left)
          (λ m k t w left. chosen_run p number u at t if_true nothing_done w left (part_run is.start b is.does m k.fine fs w left) (gives p number u at Next w left k.fine (stays p _)))

      pub choice_run : (e : TypedExpression) (part other : Span) (if_true if_false : Doing Flow) {c : Context} {a b : ℕ} → Choice u (ConditionStands u e) part other a b
          → ((x y : ℕ) → part x y → Runs c if_true x y) → ((x y : ℕ) → other x y → Runs c if_false x y)
          → Runs c (λ w left. and_then (condition p.greatest call e w left) (λ t w left. chosen t if_true if_false w left)) a b
      choice_run e part other if_true if_false {c} {a} {b} is part_run other_run l fine fs w left =
          bound p number u at {to = tested p number u is.start is.target fs} {to2 = flows p number u b fs} (condition p.greatest call e w left) _ (condition_run e is.holds l fine fs w left)
          (λ m k t w left. chosen_run p number u at t if_true if_false w left
          (elsewhere (if_true w left) (part_run is.start is.finish is.does m k.fine fs w left)
          (λ n v left. goes p number u at there is.over.is (ap (λ x. resume x left) (jump_on p number u [] [] n fs v is.over.on))))
          (other_run is.target b is.does_other m k.fine fs w left))

      -- a list, from the run of its statements
      pub list_run : (ss : TypedStatements) (run : Option Label → Doing Flow) {c : Context} {a b : ℕ}
          → ((start : Option Label) (l : Locals) → Fine c l → (fs : List Frame) (w : World) (left : ℕ)
          → Reaches p number u at c (At (frame p number u (start_of p number u at a start) [] l) fs w left) l (flows p number u b fs) fs (run start w left))
          → Runs c (as_list level number ss run) a b
      list_run ss run f l fine fs w left = caught_run p number u at level (labels_in number ss) run (λ start m fine w left. f start m fine fs w left) None l fine w left

      -- a DO WHILE
      pub while_run : (n : ℕ) (e : TypedExpression) (list : Context → Span) (run : Doing Flow) {c : Context} {a b : ℕ} → Nests c
          → Loop u (λ target. Then (Is u (op.Line n)) (ConditionStands u e target)) (Then (Is u (op.Step n)) (list (deeper c))) Empty a b
          → ((x y : ℕ) → list (deeper c) x y → Runs (deeper c) run x y)
          → Runs c (turns level (back_at n (condition p.greatest call e)) (as_statement n run) nothing_done) a b
      while_run n e list run {c} {a} {b} nests is body l fine fs w left =
          turns_run p number u at there c nests (λ _. Unit) (λ l m k h. tt) fs (back_at n (condition p.greatest call e)) (as_statement n run) nothing_done a is.start is.finish is.after b
          (λ l fine h w left. then_reaches p number u at (goes p number u at there is.holds.fst refl) (condition_run e is.holds.snd l fine fs (at_statement n w) left))
          (λ l fine h w left. begins p number u at there run is.does.fst (turn_kept c l nests fine)
          (λ w left. body is.does.middle is.finish is.does.snd (calm l) (turn_kept c l nests fine).fine fs w left) w left)
          (λ l fine h w left. passes p number u at is.does_between fine w left)
          is.back level l fine tt w left
