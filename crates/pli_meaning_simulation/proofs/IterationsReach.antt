-- The machine does what iterations mean: what they keep stands in temporaries.
use Rattle.std.specs.Prelude.{◌≡◌, ℕ, pos, zero, suc, ◌+◌, ◌<◌, ◌≤◌, Bool, true, false, Option, Some, None, List, [], ◌∷◌, ◌++◌, length, slice_get, refl}
use Rattle.std.proofs.Common.{ap, ◌∙◌, sym, subst, arith}
use Rattle.pli_operation.specs.declared.operation.Operation.TheVariants.{Add, Within}
use Rattle.pli_operation.specs.Operations.{calculated}
use Rattle.pli_world.specs.World.{World, held, stored, calculation, at_statement}
use Rattle.pli_value.specs.Value.{Value, Number}
use Rattle.pli_program.specs.declared.instruction.Instruction.TheVariants as op
use Rattle.pli_program.specs.Program.{UnitCode, Program}
use Rattle.pli_machine_step.specs.Machine.{Operand, OfValue, AtPlace, Locals, Frame, At, calm}
use Rattle.pli_type_tree.specs.Iterations.{kept_by, limit_number, step_number, is_iterated}
use Rattle.pli_type_tree.specs.TypedTree.{Operate, TypedExpression, TypedRange, Once, ToBy, ByTo, Repeated, RepeatedString, Iteration}
use Rattle.pli_meaning_tree.specs.Effects as effect
use Rattle.pli_meaning_tree.specs.Effects.{Label, Gives, Flow, Next, Doing, nothing_done, answered, as_statement, back_at, truth}
use Rattle.pli_meaning_tree.specs.TreeMeaning.{Calls, value_of, place_of, keeps, converted, sets, advanced, within_limit, while_holds, may_turn, advances, turned, iterates}
use Rattle.pli_meaning_tree.specs.Parts.{followed, resolved, kept, chosen}
use Rattle.pli_meaning_simulation.specs.CodeStands.{Span, Then, Context, using, deeper, Is, KeepsStand, SetsStand, AdvancedStands, LimitStands, WhileStands, TestStands, AdvancesStand, TurnsStand, IterateStands}
use Rattle.pli_meaning_simulation.proofs.ReachesLemmas.{Fine, Kept, kept_on, calm_kept, Comes, stays, frame, pushes, flows, tested, Reaches, gives, passes, then_reaches, reach_out, bound, goes_on, goes, begins, answers}
use Rattle.pli_meaning_simulation.proofs.ExpressionsReach.{CallsRun, operation_run, value_run, place_run}
use Rattle.pli_meaning_simulation.proofs.ControlReaches.{turn_kept, chosen_run, truth_run, turns_run}
use Rattle.pli_meaning_simulation.proofs.ConversionsReach.{converted_run}
use Rattle.pli_meaning_simulation.proofs.FormsReach.{Runs, condition_run, assign_run, assign_string_run}
use Rattle.pli_meaning_simulation.proofs.TemporariesReach.{using_fine, set_run, taken_run}

-- values stand in temporaries from one on
abbrev Holds : (temporary : ℕ) → List Value → Locals → Type 0
Holds t [] l = Unit
Holds t (v ∷ vs) l = (slice_get l.temporaries t ≡ Some (Some v)) × Holds (suc t) vs l

holds_at : (t : ℕ) (vs : List Value) (l : Locals) → Holds t vs l → (k : ℕ) (v : Value) → slice_get vs k ≡ Some v → slice_get l.temporaries (t + k) ≡ Some (Some v)
holds_at t [] l h k v e = absurd (cc)
holds_at t (x ∷ vs) l h zero v e =
    let z : t ≡ t + 0 = omega arith in
    let same : x ≡ v = cc in
    subst (λ n. slice_get l.temporaries n ≡ Some (Some v)) z (h.0 ∙ ap (λ y. Some (Some y)) same)
holds_at t (x ∷ vs) l h (suc k) v e =
    let z : suc t + k ≡ t + suc k = omega arith in
    subst (λ n. slice_get l.temporaries n ≡ Some (Some v)) z (holds_at (suc t) vs l h.1 k v e)

holds_more : (t : ℕ) (vs : List Value) (v : Value) (l : Locals) → Holds t vs l → slice_get l.temporaries (t + length vs) ≡ Some (Some v) → Holds t (vs ++ v ∷ []) l
holds_more t [] v l h e = let z : t + 0 ≡ t = omega arith in (subst (λ n. slice_get l.temporaries n ≡ Some (Some v)) z e, tt)
holds_more t (x ∷ vs) v l h e =
    let z : t + suc (length vs) ≡ suc t + length vs = omega arith in
    (h.0, holds_more (suc t) vs v l h.1 (subst (λ n. slice_get l.temporaries n ≡ Some (Some v)) z e))

holds_stay : (t : ℕ) (vs : List Value) (l m : Locals) (n : ℕ) → ((k : ℕ) → k < n → slice_get m.temporaries k ≡ slice_get l.temporaries k) → t + length vs ≤ n → Holds t vs l → Holds t vs m
holds_stay t [] l m n agree le h = tt
holds_stay t (x ∷ vs) l m n agree le h = (agree t (omega arith) ∙ h.0, holds_stay (suc t) vs l m n agree (omega arith) h.1)

-- one more
long_more : (vs : List Value) (v : Value) → length (vs ++ v ∷ []) ≡ suc (length vs)
long_more [] v = refl
long_more (x ∷ vs) v = ap suc (long_more vs v)

module _ (p : Program) (number : ℕ) (u : UnitCode) (at : Label → ℕ) (there : slice_get p.units number ≡ Some u) (call : Calls) (calls_run : CallsRun p number u at call) (level : ℕ) where
  -- a temporary is taken
  kept_run : (t k : ℕ) (vs : List Value) {a b : ℕ} → Is u (op.TakeTemporary (t + k)) a b → {c : Context} (ops : List Operand) (l : Locals) → Fine c l → Holds t vs l → (fs : List Frame) (w : World) (left : ℕ)
      → Reaches p number u at c (At (frame p number u a ops l) fs w left) l (pushes p number u OfValue b ops fs) fs (kept p.greatest call vs k w left)
  kept_run t k vs {a} {b} is {c} ops l fine h fs w left = by (slice_get vs k) refl
    where
      by : (o : Option Value) → slice_get vs k ≡ o
          → Reaches p number u at c (At (frame p number u a ops l) fs w left) l (pushes p number u OfValue b ops fs) fs (effect.there o w left)
      by None e = record { by = tt }
      by (Some v) e = gives p number u at v w left fine (taken_run p number u at there (t + k) v is ops l (holds_at t vs l h k v e) fs w left)

  -- in a context, what a frame's own part holds stays
  module _ (c : Context) (i : Iteration) (vs : List Value) (enough : i.temporary + length vs ≤ c.depth) where
    abbrev Has : Locals → Type 0
    Has l = Holds i.temporary vs l

    stay : (l m : Locals) → Kept c l m → Has l → Has m
    stay l m k h = holds_stay i.temporary vs l m c.depth k.agree enough h

    -- what a value pushes
    abbrev Values : Doing Value → (a b : ℕ) → Type 0
    Values go a b =
        (ops : List Operand) (l : Locals) → Fine c l → Has l → (fs : List Frame) (w : World) (left : ℕ)
        → Reaches p number u at c (At (frame p number u a ops l) fs w left) l (pushes p number u OfValue b ops fs) fs (go w left)

    abbrev Does : Doing Flow → (a b : ℕ) → Type 0
    Does go a b =
        (l : Locals) → Fine c l → Has l → (fs : List Frame) (w : World) (left : ℕ)
        → Reaches p number u at c (At (frame p number u a [] l) fs w left) l (flows p number u b fs) fs (go w left)

    -- a test, from its place to one where it holds and to one where not
    abbrev Tests : Doing Bool → (a b target : ℕ) → Type 0
    Tests go a b target =
        (l : Locals) → Fine c l → Has l → (fs : List Frame) (w : World) (left : ℕ)
        → Reaches p number u at c (At (frame p number u a [] l) fs w left) l (tested p number u b target fs) fs (go w left)

    sets_run : (value : Doing Value) (V : Span) {a b : ℕ} → SetsStand u i V a b → ((x y : ℕ) → V x y → Values value x y) → Does (sets p.greatest call i value) a b
    sets_run value V is run l fine h fs w left =
        bound p number u at (place_of p.greatest call i.control w left) _ (place_run p number u at there call calls_run c i.control is.fst [] l fine fs w left)
        (λ m k q w left. bound p number u at (value w left) _ (run is.middle is.snd.middle is.snd.fst (AtPlace q ∷ []) m k.fine (stay l m k h) fs w left)
        (λ m k v w left. bound p number u at (converted p.greatest call i.conversion q v w left) _ (converted_run p number u at there call calls_run i.conversion is.snd.snd.fst q v [] m k.fine fs w left)
        (λ m k x w left. bound p number u at (answered (stored q x w) left) _ (answers p number u at there (λ _. []) (stored q x w) is.snd.snd.snd k.fine w left refl)
        (λ m k _ w left. gives p number u at Next w left k.fine (stays p _)))))

    advanced_run : (step : ℕ) (a b : ℕ) → AdvancedStands u i step a b → Values (advanced p.greatest call i step vs) a b
    advanced_run step a b is ops l fine h fs w left =
        bound p number u at (place_of p.greatest call i.control w left) _ (place_run p number u at there call calls_run c i.control is.fst ops l fine fs w left)
        (λ m k q w left. let h = stay l m k h in bound p number u at (answered (held q w) left) _ (answers p number u at there (λ v. OfValue v ∷ ops) (held q w) is.snd.fst k.fine w left refl)
        (λ n k x w left. let h = stay m n k h in bound p number u at (kept p.greatest call vs step w left) _ (kept_run i.temporary step vs is.snd.snd.fst (OfValue x ∷ ops) n k.fine h fs w left)
        (λ o k y w left. operation_run p number u at there call calls_run c (Operate Add) is.snd.snd.snd (y ∷ x ∷ []) ops o k.fine fs w left)))

    limit_run : (limit : Option ℕ) (step target a b : ℕ) → LimitStands u i limit step target a b → Tests (within_limit p.greatest call i limit step vs) a b target
    limit_run None step target a b is l fine h fs w left =
        gives p number u at true w left fine (subst (λ m. Comes p (At (frame p number u a [] l) fs w left) (At (frame p number u m [] l) fs w left)) is (stays p _))
    limit_run (Some limit) step target a b is l fine h fs w left =
        bound p number u at (place_of p.greatest call i.control w left) _ (place_run p number u at there call calls_run c i.control is.fst [] l fine fs w left)
        (λ m k q w left. let h = stay l m k h in bound p number u at (answered (held q w) left) _ (answers p number u at there (λ v. OfValue v ∷ []) (held q w) is.snd.fst k.fine w left refl)
        (λ n k x w left. let h = stay m n k h in bound p number u at (kept p.greatest call vs limit w left) _ (kept_run i.temporary limit vs is.snd.snd.fst (OfValue x ∷ []) n k.fine h fs w left)
        (λ o k y w left. let h = stay n o k h in bound p number u at (kept p.greatest call vs step w left) _ (kept_run i.temporary step vs is.snd.snd.snd.fst (OfValue y ∷ OfValue x ∷ []) o k.fine h fs w left)
        (λ r k z w left. bound p number u at (resolved call.condition (Number (pos 0)) (calculation (calculated p.greatest Within (x ∷ y ∷ z ∷ [])) w) left) truth
        (operation_run p number u at there call calls_run c (Operate Within) is.snd.snd.snd.snd.fst (z ∷ y ∷ x ∷ []) [] r k.fine fs w left)
        (λ s k v w left. truth_run p number u at there v is.snd.snd.snd.snd.snd s k.fine fs w left)))))

    while_holds_run : (e : Option TypedExpression) (target a b : ℕ) → WhileStands u e target a b → Tests (while_holds p.greatest call e) a b target
    while_holds_run None target a b is l fine h fs w left =
        gives p number u at true w left fine (subst (λ m. Comes p (At (frame p number u a [] l) fs w left) (At (frame p number u m [] l) fs w left)) is (stays p _))
    while_holds_run (Some e) target a b is l fine h fs w left = condition_run p number u at there call calls_run level e is l fine fs w left

    may_turn_run : (target a b : ℕ) → TestStands u i target a b → Tests (may_turn p.greatest call i vs) a b target
    may_turn_run target a b is l fine h fs w left =
        bound p number u at {to = tested p number u is.middle target fs} {to2 = tested p number u b target fs}
        (within_limit p.greatest call i (limit_number i.range) (step_number i.range) vs w left) _
        (limit_run (limit_number i.range) (step_number i.range) target a is.middle is.fst l fine h fs w left)
        (λ m k t w left. second t m k.fine (stay l m k h) w left)
      where
        second : (t : Bool) (m : Locals) → Fine c m → Has m → (w : World) (left : ℕ)
            → Reaches p number u at c (tested p number u is.middle target fs m t w left) m (tested p number u b target fs) fs (chosen t (while_holds p.greatest call i.condition) (λ w left. Gives false w left) w left)
        second true m fine h w left = while_holds_run i.condition target is.middle b is.snd m fine h fs w left
        second false m fine h w left = gives p number u at false w left fine (stays p _)

    advances_run : (range : TypedRange) (a b : ℕ) → AdvancesStand u range i a b → Does (advances p.greatest call range i vs) a b
    advances_run Once a b is l fine h fs w left = passes p number u at is fine w left
    advances_run (ToBy to by) a b is l fine h fs w left = sets_run (advanced p.greatest call i 2 vs) (AdvancedStands u i 2) is (advanced_run 2) l fine h fs w left
    advances_run (ByTo by to) a b is l fine h fs w left = sets_run (advanced p.greatest call i 1 vs) (AdvancedStands u i 1) is (advanced_run 1) l fine h fs w left
    advances_run (Repeated next) a b is l fine h fs w left = assign_run p number u at there call calls_run level i.control next is l fine fs w left
    advances_run (RepeatedString next) a b is l fine h fs w left = assign_string_run p number u at there call calls_run level i.control next is l fine fs w left

    -- the turns; the list runs where a step may be taken
    turned_run : (iterated : Bool) (list : Context → Span) (B : Span) (run between : Doing Flow) {a b : ℕ} → TurnsStand u iterated (TestStands u i) list B c a b
        → ((d : Context) (x y : ℕ) → list d x y → (l : Locals) → Kept d l (calm l) → (fs : List Frame) (w : World) (left : ℕ)
        → Reaches p number u at d (At (frame p number u x [] l) fs w left) l (flows p number u y fs) fs (run w left))
        → ((x y : ℕ) → B x y → (l : Locals) → Fine (deeper c) l → Has l → (fs : List Frame) (w : World) (left : ℕ)
        → Reaches p number u at (deeper c) (At (frame p number u x [] l) fs w left) l (flows p number u y fs) fs (between w left))
        → Does (turned p.greatest call iterated level (may_turn p.greatest call i vs) run between) a b
    turned_run true list B run between {a} {b} is list_runs between_runs l fine h fs w left =
        turns_run p number u at there c is.0 Has stay fs (may_turn p.greatest call i vs) run between a is.1.start is.1.finish is.1.after b
        (λ l fine h w left. may_turn_run b a is.1.start is.1.holds l fine h fs w left)
        (λ l fine h w left. list_runs (deeper c) is.1.start is.1.finish is.1.does l (turn_kept c l is.0 fine) fs w left)
        (λ l fine h w left. between_runs is.1.finish is.1.after is.1.does_between l fine h fs w left)
        is.1.back level l fine h w left
    turned_run false list B run between {a} {b} is list_runs between_runs l fine h fs w left =
        bound p number u at {to = tested p number u is.start b fs} {to2 = flows p number u b fs} (may_turn p.greatest call i vs w left) _ (may_turn_run b a is.start is.holds l fine h fs w left)
        (λ m k t w left. chosen_run p number u at t run nothing_done w left (list_runs c is.start b is.does m (calm_kept c m k.fine) fs w left) (gives p number u at Next w left k.fine (stays p _)))

  keeps_run : (c : Context) (i : Iteration) (es : List TypedExpression) (before : List Value) (t : ℕ) → t ≡ i.temporary + length before → t + length es ≤ c.size
      → (fs : List Frame) (a b q : ℕ) → KeepsStand u t es a b → (go : List Value → Doing Flow)
      → ((vs : List Value) → length vs ≡ length before + length es → (l : Locals) → Fine (using (i.temporary + length vs) c) l → Holds i.temporary vs l → (w : World) (left : ℕ)
      → Reaches p number u at (using (i.temporary + length vs) c) (At (frame p number u b [] l) fs w left) l (flows p number u q fs) fs (go vs w left))
      → (l : Locals) → Fine (using t c) l → Holds i.temporary before l → (w : World) (left : ℕ)
      → Reaches p number u at (using t c) (At (frame p number u a [] l) fs w left) l (flows p number u q fs) fs (keeps p.greatest call es before go w left)
  keeps_run c i [] before t e room fs a b q is go rest l fine h w left =
      subst (λ x. Reaches p number u at (using t c) (At (frame p number u x [] l) fs w left) l (flows p number u q fs) fs (go before w left)) (sym is)
      (subst (λ n. Reaches p number u at (using n c) (At (frame p number u b [] l) fs w left) l (flows p number u q fs) fs (go before w left)) (sym e)
      (rest before (omega arith) l (subst (λ n. Fine (using n c) l) e fine) h w left))
  keeps_run c i (x ∷ es) before t e room fs a b q is go rest l fine h w left =
      bound p number u at {to2 = flows p number u q fs} (value_of p.greatest call x w left) (λ v w left. keeps p.greatest call es (before ++ v ∷ []) go w left)
      (value_run p number u at there call calls_run (using t c) x is.fst [] l fine fs w left)
      (λ m k v w left. set_run p number u at there {to = flows p number u q fs} c t v is.snd.fst [] m k.fine (omega arith) fs w left (keeps p.greatest call es (before ++ v ∷ []) go w left)
      (λ n kept here. keeps_run c i es (before ++ v ∷ []) (suc t) (let z = long_more before v in omega arith) (omega arith) fs is.snd.middle b q is.snd.snd go
      (λ vs e2. rest vs (let z = long_more before v in omega arith)) n (using_fine (suc t) (using t c) n kept.fine)
      (holds_more i.temporary before v n (holds_stay i.temporary before l n t (kept_on (using t c) l m n k kept).agree (omega arith) h)
      (subst (λ y. slice_get n.temporaries y ≡ Some (Some v)) e here)) w left))

  -- an iteration, from the run of its list
  pub iterate_run : (number_of_group : ℕ) (i : Iteration) (part : Context → Span) (run : Doing Flow) {c : Context} {a b : ℕ}
      → IterateStands u number_of_group i (λ c. Then (Is u (op.Step number_of_group)) (part c)) c a b
      → ((d : Context) (x y : ℕ) → part d x y → Runs p number u at there d run x y)
      → Runs p number u at there c (iterates p.greatest call level number_of_group i run) a b
  iterate_run n i part run {c} {a} {b} is body l fine fs w left =
      record {
        by = reach_out p number u at (using i.temporary c) c (At (frame p number u a [] l) fs w left) l (flows p number u b fs) fs (iterates p.greatest call level n i run w left)
            (record { size = refl; depth = is.0.free; bound = omega arith; some = fine.some })
            (keeps_run c i (i.start ∷ kept_by i.range) [] i.temporary (omega arith) is.0.room fs a is.1.middle b is.1.fst _ turns (l) (using_fine i.temporary c l fine) tt w left).by;
      }
    where
      turns : (vs : List Value) → length vs ≡ 0 + suc (length (kept_by i.range)) → (l : Locals) → Fine (using (i.temporary + length vs) c) l → Holds i.temporary vs l → (w : World) (left : ℕ)
          → Reaches p number u at (using (i.temporary + length vs) c) (At (frame p number u is.1.middle [] l) fs w left) l (flows p number u b fs) fs
          (followed (sets p.greatest call i (kept p.greatest call vs 0) w left)
          (turned p.greatest call (is_iterated i.range) level (may_turn p.greatest call i vs) (as_statement n run) (back_at n (advances p.greatest call i.range i vs))))
      turns vs e l fine h w left =
          let d = using (i.temporary + length vs) c in
          let same : suc (length (kept_by i.range)) ≡ length vs = omega arith in
          let zero_more : i.temporary ≡ i.temporary + 0 = omega arith in
          goes_on p number u at {a = is.1.snd.middle} {b = b} (sets p.greatest call i (kept p.greatest call vs 0) w left) _
          (sets_run d i vs (omega arith) (kept p.greatest call vs 0) (Is u (op.TakeTemporary i.temporary)) is.1.snd.fst
          (λ x y is ops l fine h fs w left. kept_run i.temporary 0 vs (subst (λ t. Is u (op.TakeTemporary t) x y) zero_more is) ops l fine h fs w left) l fine h fs w left)
          (λ m k w left. turned_run d i vs (omega arith) (is_iterated i.range) (λ c. Then (Is u (op.Step n)) (part c)) (Then (Is u (op.Line n)) (AdvancesStand u i.range i)) (as_statement n run) (back_at n (advances p.greatest call i.range i vs))
          (subst (λ x. TurnsStand u (is_iterated i.range) (TestStands u i) (λ c. Then (Is u (op.Step n)) (part c)) (Then (Is u (op.Line n)) (AdvancesStand u i.range i)) (using (i.temporary + x) c) is.1.snd.middle b) same is.1.snd.snd)
          (λ d x y is l kept fs w left. begins p number u at there run is.fst kept (λ w left. body d is.middle y is.snd (calm l) kept.fine fs w left) w left)
          (λ x y is l fine h fs w left. then_reaches p number u at (goes p number u at there is.fst refl)
          (advances_run (deeper d) i vs (omega arith) i.range is.middle y is.snd l fine h fs (at_statement n w) left))
          m k.fine (stay d i vs (omega arith) l m k h) fs w left)
