-- Jumps: what the combinators of control say of the machine, over variables.
use Rattle.std.specs.Prelude.{◌≡◌, ℕ, zero, suc, ◌<◌, ◌≤◌, nat_eq, nat_lt, ◌&&◌, Bool, true, false, Option, Some, None, List, [], ◌∷◌, length, replicate, slice_get, if◌then◌else◌, refl}
use Rattle.std.proofs.Common.{ap, ◌∙◌, sym, subst, arith}
use Rattle.std.proofs.lemmas.Bool.{le-ltb, lt-ltb}
use Rattle.pli_world.specs.Activations.{activation_limit}
use Rattle.pli_world.specs.World.{World, Answer, Yields, Raises, Wrong, height, height_of, stepped, left_by, cleared, error_at}
use Rattle.pli_run.specs.declared.ending.RunError.TheVariants.{TooManyActivations}
use Rattle.pli_value.specs.Value.{Value, Number, Characters, Bits, Located}
use Rattle.pli_operation.specs.Operations.{is_true}
use Rattle.pli_program.specs.declared.instruction.Instruction.TheVariants as op
use Rattle.pli_program.specs.Program.{UnitCode, Program}
use Rattle.pli_machine_step.specs.Machine as machine
use Rattle.pli_machine_step.specs.Machine.{Operand, OfValue, Locals, Frame, State, At, Move, Goes, Stops, Steps, given, calm, fresh, lands, jumps_at, counted, counted_jump, jumped, resume}
use Rattle.pli_meaning_tree.specs.Effects as effect
use Rattle.pli_meaning_tree.specs.Effects.{Label, Effect, Gives, Jumps, Fails, Spent, Lost, Short, Flow, Next, Doing, and_then, nothing_done, answered, as_step, truth, turns, on_jump, caught, leaving}
use Rattle.pli_meaning_tree.specs.Parts.{followed, jumps_to, chosen}
use Rattle.pli_meaning_simulation.specs.CodeStands.{Context, deeper, Nests, Is, Forward}
use Rattle.pli_meaning_simulation.proofs.ReachesLemmas.{Fine, Kept, kept_out, kept_same, WithinContext, Target, Comes, stays, Arrives, arrives_from, waiting, frame, flows, tested, landed, Reaches, gives, then_reaches, keeping, bound, goes_on_in, goes}

-- an activation has made at most as many jumps since the last step as it has counted
few_jumps : (w : World) (l : Locals) → jumps_at w l ≤ l.jumps
few_jumps w l = by (nat_eq l.stamp w.steps)
  where
    by : (b : Bool) → (if b then l.jumps else 0) ≤ l.jumps
    by true = omega arith
    by false = omega arith

-- the list of a group lies within it
pub deeper_within : (c : Context) → Nests c → WithinContext (deeper c) c
deeper_within c nests = record { size = refl; depth = omega arith; bound = omega arith; some = let a = nests.least in omega arith }

-- a turn's step makes room for the jump at its end
pub turn_kept : (c : Context) (l : Locals) → Nests c → Fine c l → Kept (deeper c) l (calm l)
turn_kept c l nests fine = record { agree = λ k lt. refl; fine = record { room = fine.room; few = omega arith; some = let a = nests.least in omega arith } }

-- a block begins with no temporary set and no jump made
pub fresh_fine : (size most : ℕ) → 1 ≤ most → Fine (record { size = size; depth = 0; bound = most }) (fresh size)
fresh_fine size most some = record { room = as_many size; few = omega arith; some = some }
  where
    unset : Option Value
    unset = None

    as_many : (n : ℕ) → length (replicate n unset) ≡ n
    as_many zero = refl
    as_many (suc n) = ap suc (as_many n)

module _ (p : Program) (number : ℕ) (u : UnitCode) where
  -- a jump forward does not count
  pub jump_on : {target b : ℕ} (old ops : List Operand) (l : Locals) (fs : List Frame) (w : World) → b ≤ target
      → jumped target ops (frame p number u b old l) fs w ≡ Goes (frame p number u target ops l) fs w
  jump_on {target} {b} old ops l fs w le =
      ap (λ t. if t then counted_jump target ops (frame p number u b old l) fs w else Goes (frame p number u target ops l) fs w) (le-ltb target b le)

  pub counted_goes : (target : ℕ) (b : ℕ) (old ops : List Operand) (l : Locals) (again : Bool) (fs : List Frame) (w : World) → l.jumps < 64
      → counted_jump target ops (waiting p number u b old l again) fs w ≡ Goes (frame p number u target ops (counted w l)) fs w
  counted_goes target b old ops l again fs w few =
      ap (λ t. if t then Goes (frame p number u target ops (counted w l)) fs w else machine.faulty w) (lt-ltb (jumps_at w l) 64 (let a = few_jumps w l in omega arith))

  -- a jump to anywhere counts at most once
  pub record Hops (target b : ℕ) (old : List Operand) (l : Locals) (fs : List Frame) (w : World) : Type 0 where
    pub locals : Locals
    pub same : locals.temporaries ≡ l.temporaries
    pub few : locals.jumps ≤ suc l.jumps
    pub goes : jumped target [] (frame p number u b old l) fs w ≡ Goes (frame p number u target [] locals) fs w

  pub hops : (target b : ℕ) (old : List Operand) (l : Locals) (fs : List Frame) (w : World) → l.jumps < 64 → Hops target b old l fs w
  hops target b old l fs w less = by (nat_lt target b) refl
    where
      way : Bool → Move
      way t = if t then counted_jump target [] (frame p number u b old l) fs w else Goes (frame p number u target [] l) fs w

      by : (t : Bool) → nat_lt target b ≡ t → Hops target b old l fs w
      by true e = record { locals = counted w l; same = refl; few = let a = few_jumps w l in omega arith; goes = ap way e ∙ counted_goes target b old [] l false fs w less }
      by false e = record { locals = l; same = refl; few = omega arith; goes = ap way e }

  module _ (at : Label → ℕ) where
    -- one of two ways after a test
    pub chosen_run : {c : Context} {a b q : ℕ} {m : Locals} {fs : List Frame} (t : Bool) (if_true if_false : Doing Flow) (w : World) (left : ℕ)
        → Reaches p number u at c (At (frame p number u a [] m) fs w left) m (flows p number u q fs) fs (if_true w left)
        → Reaches p number u at c (At (frame p number u b [] m) fs w left) m (flows p number u q fs) fs (if_false w left)
        → Reaches p number u at c (tested p number u a b fs m t w left) m (flows p number u q fs) fs (chosen t if_true if_false w left)
    chosen_run true if_true if_false w left yes_run no_run = yes_run
    chosen_run false if_true if_false w left yes_run no_run = no_run

    -- from the front of a list, or from a label
    abbrev pub start_of : (front : ℕ) → Option Label → ℕ
    start_of a None = a
    start_of a (Some k) = at k

    -- a jump to a label that is held goes on there
    on_jump_run : {c : Context} {s : State} {l : Locals} {q : ℕ} {fs : List Frame} (held : Label → Bool) (o : Effect Flow) (go : Label → Doing Flow)
        → Reaches p number u at c s l (flows p number u q fs) fs o
        → ((k : Label) (m : Locals) → Fine c m → (w : World) (left : ℕ) → Reaches p number u at c (At (frame p number u (at k) [] m) fs w left) m (flows p number u q fs) fs (go k w left))
        → Reaches p number u at c s l (flows p number u q fs) fs (on_jump held o go)
    on_jump_run held (Gives x w left) go r f = r
    on_jump_run {c} {s} {l} {q} {fs} held (Jumps h k w left) go r f = by (nat_eq h (height w)) (held k) refl
      where
        by : (mine here : Bool) → nat_eq h (height w) ≡ mine
            → Reaches p number u at c s l (flows p number u q fs) fs (if mine && here then go k (cleared w) left else Jumps h k w left)
        by true true e =
            let a = r.by in
            let come = subst (λ b. Comes p s (if b then At (frame p number u (at k) [] a.locals) fs (cleared w) left else resume (lands h (at k) fs (left_by w)) left)) e a.comes in
            then_reaches p number u at come (keeping p number u at a.kept (f k a.locals a.kept.fine (cleared w) left))
        by true false e = r
        by false here e = r
    on_jump_run held (Fails e w) go r f = r
    on_jump_run held (Spent w) go r f = r
    on_jump_run held Lost go r f = r
    on_jump_run held Short go r f = r

    pub caught_run : {c : Context} {a q : ℕ} {fs : List Frame} (level : ℕ) (held : Label → Bool) (run : Option Label → Doing Flow)
        → ((start : Option Label) (m : Locals) → Fine c m → (w : World) (left : ℕ) → Reaches p number u at c (At (frame p number u (start_of a start) [] m) fs w left) m (flows p number u q fs) fs (run start w left))
        → (start : Option Label) (l : Locals) → Fine c l → (w : World) (left : ℕ)
        → Reaches p number u at c (At (frame p number u (start_of a start) [] l) fs w left) l (flows p number u q fs) fs (caught level held run start w left)
    caught_run zero held run f start l fine w left = record { by = tt }
    caught_run (suc level) held run f start l fine w left =
        on_jump_run held (run start w left) (λ k. caught level held run (Some k)) (f start l fine w left) (λ k m fine w left. caught_run level held run f (Some k) m fine w left)

    -- a jump that leaves an activation lands in the one that waits for it, or goes on out
    pub lands_out : (h : ℕ) (k : Label) {c : Context} (b : ℕ) (ops : List Operand) (l : Locals) (again : Bool) (fs : List Frame) → Fine c l → l.jumps ≡ 0 → (w : World) (left : ℕ)
        → Arrives p c (resume (lands h (at k) (waiting p number u b ops l again ∷ fs) w) left) l (λ m. landed p number u at h k m fs w left)
    lands_out h k {c} b ops l again fs fine none w left = by (nat_eq h (height w))
      where
        by : (mine : Bool)
            → Arrives p c (resume (if mine then counted_jump (at k) [] (waiting p number u b ops l again) fs (cleared w) else lands h (at k) fs (left_by w)) left) l
            (λ m. if mine then At (frame p number u (at k) [] m) fs (cleared w) left else resume (lands h (at k) fs (left_by w)) left)
        by true =
            record {
              locals = counted (cleared w) l;
              kept = record { agree = λ i lt. refl; fine = record { room = fine.room; few = let e = few_jumps (cleared w) l in let f = fine.some in omega arith; some = fine.some } };
              comes =
                  subst (λ v. Comes p (resume v left) (At (frame p number u (at k) [] (counted (cleared w) l)) fs (cleared w) left))
                  (sym (counted_goes (at k) b ops [] l again fs (cleared w) (omega arith))) (stays p _);
            }
        by false = record { locals = l; kept = kept_same c l fine; comes = stays p _ }

    -- the end of an activation, of any unit
    pub leaves : {A B : Type 0} (other : ℕ) (v : UnitCode) {d c : Context} {s : State} {l m : Locals} {to : Target A} {to2 : Target B} {fs : List Frame} {b : ℕ} {ops : List Operand} {again : Bool}
        (o : Effect A) (go : A → Doing B) → Fine c m → m.jumps ≡ 0 → Reaches p other v at d s l to (waiting p number u b ops m again ∷ fs) o
        → ((n : Locals) → Fine d n → (x : A) (w : World) (left : ℕ) → Reaches p number u at c (to n x w left) m to2 fs (go x w left))
        → Reaches p number u at c s m to2 fs (leaving o go)
    leaves other v (Gives x w left) go fine none r f = then_reaches p number u at r.by.comes (f r.by.locals r.by.kept.fine x w left)
    leaves other v {c} {s} {m} {to2} {fs} {b} {ops} {again} (Jumps h k w left) go fine none r f = by (nat_eq h (height w)) refl
      where
        by : (mine : Bool) → nat_eq h (height w) ≡ mine → Reaches p number u at c s m to2 fs (if mine then Lost else Jumps h k (left_by w) left)
        by true e = record { by = tt }
        by false e =
            let a = r.by in
            let come = subst (λ b2. Comes p s (if b2 then At (frame p other v (at k) [] a.locals) (waiting p number u b ops m again ∷ fs) (cleared w) left
            else resume (lands h (at k) (waiting p number u b ops m again ∷ fs) (left_by w)) left)) e a.comes in
            record { by = arrives_from p come (lands_out h k b ops m again fs fine none (left_by w) left) }
    leaves other v (Fails e w) go fine none r f = record { by = r.by }
    leaves other v (Spent w) go fine none r f = record { by = r.by }
    leaves other v Lost go fine none r f = record { by = tt }
    leaves other v Short go fine none r f = record { by = tt }

    -- the limit of activations
    pub full_run : {A : Type 0} {c : Context} {l : Locals} {to : Target A} {fs : List Frame} (go : Doing A) (move : Move) (w : World) (left : ℕ)
        → Reaches p number u at c (resume move left) l to fs (go w left)
        → Reaches p number u at c (resume (machine.unless_full w move) left) l to fs (effect.unless_full go w left)
    full_run {c} {l} {to} {fs} go move w left r = by (nat_lt (height w) activation_limit)
      where
        by : (b : Bool)
            → Reaches p number u at c (resume (if b then move else Stops (error_at TooManyActivations w) w) left) l to fs (if b then go w left else Fails (error_at TooManyActivations w) w)
        by true = r
        by false = record { by = stays p _ }

    -- a step, where an instruction takes one
    pub step_run : {A : Type 0} {c : Context} {l : Locals} {to : Target A} {fs : List Frame} (go : Doing A) (move : Move) (w : World) (left : ℕ)
        → ((left : ℕ) → Reaches p number u at c (resume move left) l to fs (go (stepped w) left))
        → Reaches p number u at c (resume (Steps w move) left) l to fs (as_step go w left)
    step_run go move w zero f = record { by = stays p _ }
    step_run go move w (suc left) f = f left

    -- an operation, and a frame after it
    pub enters_run : {A : Type 0} {c : Context} {l : Locals} {to : Target A} {fs waiting : List Frame} (here : Frame) (o : Answer Unit) (go : Unit → Doing A) (w : World) (left : ℕ)
        → ((v : World) → Reaches p number u at c (At here waiting v left) l to fs (go tt v left))
        → Reaches p number u at c (resume (given w o (λ _ v. Goes here waiting v)) left) l to fs (and_then (answered o left) go)
    enters_run here (Yields x v) go w left f = f v
    enters_run here (Raises e v) go w left f = record { by = stays p _ }
    enters_run here Wrong go w left f = record { by = tt }

    module _ (there : slice_get p.units number ≡ Some u) where
      -- a test's value, and the jump unless it holds
      pub truth_run : (v : Value) {target a b : ℕ} → Forward u op.JumpUnless target a b → {c : Context} (l : Locals) → Fine c l → (fs : List Frame) (w : World) (left : ℕ)
          → Reaches p number u at c (At (frame p number u a (OfValue v ∷ []) l) fs w left) l (tested p number u b target fs) fs (truth v w left)
      truth_run (Number x) is l fine fs w left = record { by = tt }
      truth_run (Characters text) is l fine fs w left = record { by = tt }
      truth_run (Located a) is l fine fs w left = record { by = tt }
      truth_run (Bits bits) {target} {a} {b} is {c} l fine fs w left = by (is_true bits) refl
        where
          way : Bool → State
          way t = resume (if t then Goes (frame p number u b [] l) fs w else jumped target [] (frame p number u b (OfValue (Bits bits) ∷ []) l) fs w) left

          by : (t : Bool) → is_true bits ≡ t → Reaches p number u at c (At (frame p number u a (OfValue (Bits bits) ∷ []) l) fs w left) l (tested p number u b target fs) fs (Gives t w left)
          by true e = gives p number u at true w left fine (goes p number u at there is.is (ap way e))
          by false e = gives p number u at false w left fine (goes p number u at there is.is (ap way e ∙ ap (λ m. resume m left) (jump_on (OfValue (Bits bits) ∷ []) [] l fs w is.on)))

      -- a jump to a label of an activation outward
      pub goto_run : (outward : ℕ) (k : Label) {a b : ℕ} → Is u (op.Goto outward (at k)) a b → {c : Context} (l : Locals) → Fine c l → l.jumps ≡ 0 → {q : ℕ} (fs : List Frame) (w : World) (left : ℕ)
          → Reaches p number u at c (At (frame p number u a [] l) fs w left) l (flows p number u q fs) fs (jumps_to outward k w left)
      goto_run outward k {a} {b} is {c} l fine none {q} fs w left = by (height_of outward w) refl
        where
          way : Answer ℕ → State
          way o = resume (given w o (λ h v. lands h (at k) (frame p number u b [] l ∷ fs) v)) left

          by : (o : Answer ℕ) → height_of outward w ≡ o
              → Reaches p number u at c (At (frame p number u a [] l) fs w left) l (flows p number u q fs) fs (and_then (answered o left) (λ h w left. Jumps h k w left))
          by (Yields h v) e = record { by = arrives_from p (goes p number u at there is (ap way e)) (lands_out h k b [] l false fs fine none v left) }
          by (Raises x v) e = record { by = goes p number u at there is (ap way e) }
          by Wrong e = record { by = tt }

      -- a group's turns: what holds of a frame's own part as long as the temporaries in use stay, holds before each
      module _ (c : Context) (nests : Nests c) (Holds : Locals → Type 0) (stay : (l m : Locals) → Kept c l m → Holds l → Holds m) (fs : List Frame)
          (test : Doing Bool) (list between : Doing Flow) (first start finish after q : ℕ)
          (test_run : (l : Locals) → Fine c l → Holds l → (w : World) (left : ℕ)
          → Reaches p number u at c (At (frame p number u first [] l) fs w left) l (tested p number u start q fs) fs (test w left))
          (list_run : (l : Locals) → Fine c l → Holds l → (w : World) (left : ℕ)
          → Reaches p number u at (deeper c) (At (frame p number u start [] l) fs w left) l (flows p number u finish fs) fs (list w left))
          (between_run : (l : Locals) → Fine (deeper c) l → Holds l → (w : World) (left : ℕ)
          → Reaches p number u at (deeper c) (At (frame p number u finish [] l) fs w left) l (flows p number u after fs) fs (between w left))
          (back : Is u (op.Jump first) after q) where
        inner : WithinContext (deeper c) c
        inner = deeper_within c nests

        -- the jump back
        back_run : {A : Type 0} {to : Target A} {o : Effect A} (l : Locals) → Fine (deeper c) l → (w : World) (left : ℕ)
            → ((m : Locals) → Kept c l m → Reaches p number u at c (At (frame p number u first [] m) fs w left) m to fs o)
            → Reaches p number u at c (At (frame p number u after [] l) fs w left) l to fs o
        back_run l fine w left f =
            let j = hops first q [] l fs w (let a = fine.few in let b = nests.most in let d = nests.least in omega arith) in
            let k : Kept c l j.locals =
            record {
              agree = λ i lt. ap (λ ts. slice_get ts i) j.same;
              fine = record { room = ap length j.same ∙ fine.room; few = let a = fine.few in let b = j.few in let d = nests.least in omega arith; some = let a = nests.least in omega arith };
            } in
            then_reaches p number u at (goes p number u at there back (ap (λ m. resume m left) j.goes)) (keeping p number u at k (f j.locals k))

        pub turns_run : (level : ℕ) (l : Locals) → Fine c l → Holds l → (w : World) (left : ℕ)
            → Reaches p number u at c (At (frame p number u first [] l) fs w left) l (flows p number u q fs) fs (turns level test list between w left)
        turns_run zero l fine h w left = record { by = tt }
        turns_run (suc level) l fine h w left =
            bound p number u at {to = tested p number u start q fs} {to2 = flows p number u q fs} (test w left) _ (test_run l fine h w left)
            (λ m k t w left. chosen_run t (λ w left. followed (list w left) (λ w left. followed (between w left) (turns level test list between))) nothing_done w left
            (goes_on_in p number u at {a = finish} {b = q} inner (list w left) _ (list_run m k.fine (stay l m k h) w left)
            (λ n kn w left. goes_on_in p number u at {a = after} {b = q} inner (between w left) _
            (between_run n kn.fine (stay m n (kept_out (deeper c) c m n inner kn) (stay l m k h)) w left)
            (λ o ko w left. back_run o ko.fine w left
            (λ i ki. turns_run level i ki.fine (stay o i ki (stay n o (kept_out (deeper c) c n o inner ko) (stay m n (kept_out (deeper c) c m n inner kn) (stay l m k h)))) w left))))
            (gives p number u at Next w left k.fine (stays p _)))
