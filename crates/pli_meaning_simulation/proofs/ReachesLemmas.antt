-- The machine comes from here to there; what an effect says of the machine. One lemma for each combinator of the meaning, over variables: no
-- form of the tree is mentioned.
use Rattle.std.specs.Prelude.{◌≡◌, ℕ, zero, suc, ◌<◌, ◌≤◌, nat_eq, Bool, true, false, Option, Some, None, List, [], ◌∷◌, length, slice_get, if◌then◌else◌, refl}
use Rattle.std.proofs.Common.{ap, ◌∙◌, subst, arith}
use Rattle.pli_world.specs.Ends.{OutOfSteps}
use Rattle.pli_world.specs.World.{World, Answer, Yields, Raises, Wrong, height, at_statement, stepped, left_by, cleared}
use Rattle.pli_value.specs.Value.{Value}
use Rattle.pli_program.specs.declared.instruction.Instruction.TheVariants as op
use Rattle.pli_program.specs.Program.{Instruction, UnitCode, Program}
use Rattle.pli_machine_step.specs.Machine as machine
use Rattle.pli_machine_step.specs.Machine.{Operand, OfValue, Locals, Frame, State, At, Over, Goes, given, calm, lands, returned, returned_with, act, act_in, resume, iterate}
use Rattle.pli_meaning_tree.specs.Effects.{Label, Effect, Gives, Jumps, Fails, Spent, Lost, Short, Flow, Next, Returned, Doing, and_then, after_flow, answered, as_statement}
use Rattle.pli_meaning_tree.specs.Parts.{followed}
use Rattle.pli_meaning_simulation.specs.CodeStands.{Context, Is}

-- a frame's temporaries are those of the block, and it has made no more backward jumps than may be
pub record Fine (c : Context) (l : Locals) : Type 0 where
  pub room : length l.temporaries ≡ c.size
  pub few : l.jumps ≤ c.bound
  pub some : 1 ≤ c.bound

-- the temporaries in use are as before
pub record Kept (c : Context) (l m : Locals) : Type 0 where
  pub agree : (k : ℕ) → k < c.depth → slice_get m.temporaries k ≡ slice_get l.temporaries k
  pub fine : Fine c m

pub kept_same : (c : Context) (l : Locals) → Fine c l → Kept c l l
kept_same c l fine = record { agree = λ k lt. refl; fine = fine }

pub kept_on : (c : Context) (l m n : Locals) → Kept c l m → Kept c m n → Kept c l n
kept_on c l m n h g = record { agree = λ k lt. g.agree k lt ∙ h.agree k lt; fine = g.fine }

-- a step makes the count of jumps nothing
pub calm_fine : (c : Context) (l : Locals) → Fine c l → Fine c (calm l)
calm_fine c l fine = record { room = fine.room; few = omega arith; some = fine.some }

pub calm_kept : (c : Context) (l : Locals) → Fine c l → Kept c l (calm l)
calm_kept c l fine = record { agree = λ k lt. refl; fine = calm_fine c l fine }

-- a context within another: more is in use, and fewer jumps may have been made
pub record WithinContext (d c : Context) : Type 0 where
  pub size : d.size ≡ c.size
  pub depth : c.depth ≤ d.depth
  pub bound : d.bound ≤ c.bound
  pub some : 1 ≤ c.bound

pub fine_out : (d c : Context) (l : Locals) → WithinContext d c → Fine d l → Fine c l
fine_out d c l inner fine = record { room = fine.room ∙ inner.size; few = let a = fine.few in let b = inner.bound in omega arith; some = inner.some }

pub kept_out : (d c : Context) (l m : Locals) → WithinContext d c → Kept d l m → Kept c l m
kept_out d c l m inner k = record { agree = λ i lt. k.agree i (let b = inner.depth in omega arith); fine = fine_out d c m inner k.fine }

-- the state to which a result leads, from the frame's own part at the end
abbrev pub Target : Type 0 → Type 0
Target A = Locals → A → World → (left : ℕ) → State

module _ (p : Program) where
  -- a run from a goes through b: however far one goes from b, some count of instructions leads there from a
  pub record Comes (a b : State) : Type 0 where
    pub by : (k : ℕ) → (j : ℕ) × (iterate p j a ≡ iterate p k b)

  pub stays : (a : State) → Comes a a
  stays a = record { by = λ k. (k, refl) }

  pub from : {a b c : State} → Comes a b → Comes b c → Comes a c
  from ab bc = record { by = λ k. let y = bc.by k in let x = ab.by y.0 in (x.0, x.1 ∙ y.1) }

  -- and with a frame's own part that keeps what is in use
  pub record Arrives (c : Context) (s : State) (l : Locals) (to : Locals → State) : Type 0 where
    pub locals : Locals
    pub kept : Kept c l locals
    pub comes : Comes s (to locals)

  pub arrives_from : {c : Context} {s t : State} {l : Locals} {to : Locals → State} → Comes s t → Arrives c t l to → Arrives c s l to
  arrives_from c a = record { locals = a.locals; kept = a.kept; comes = from c a.comes }

module _ (p : Program) (number : ℕ) (u : UnitCode) where
  -- a frame of the unit that waits, and after an ON-unit executes an instruction again or not
  abbrev pub waiting : (next : ℕ) → List Operand → Locals → (again : Bool) → Frame
  waiting next ops l again = record { unit = number; next = next; operands = ops; locals = l; again = again }

  -- one that runs
  abbrev pub frame : (next : ℕ) → List Operand → Locals → Frame
  frame next ops l = waiting next ops l false

  -- to the next place, with the result as an operand
  abbrev pub pushes : {A : Type 0} → (A → Operand) → (place : ℕ) (ops : List Operand) (frames : List Frame) → Target A
  pushes f b ops fs l x w left = At (frame b (f x ∷ ops) l) fs w left

  -- out of the activations that end with a procedure, with a value or without one
  abbrev pub goes_back : (outward : ℕ) → Option Value → List Frame → World → (left : ℕ) → State
  goes_back d None fs w left = resume (returned d fs w) left
  goes_back d (Some v) fs w left = resume (returned_with d v fs w) left

  -- to the next place, or out of the procedure; a statement begins and ends with no operand
  abbrev pub flows : (place : ℕ) (frames : List Frame) → Target Flow
  flows b fs l Next w left = At (frame b [] l) fs w left
  flows b fs l (Returned d v) w left = goes_back d v fs w left

  -- to one place where a test holds, to another where not
  abbrev pub tested : (if_true if_false : ℕ) (frames : List Frame) → Target Bool
  tested a b fs l true w left = At (frame a [] l) fs w left
  tested a b fs l false w left = At (frame b [] l) fs w left

  -- to a frame that waits, with the value of a function
  abbrev pub resumes : (place : ℕ) (ops : List Operand) (again : Bool) (frames : List Frame) → Target (Option Value)
  resumes b ops again fs l None w left = resume (machine.goes_on again (waiting b ops l again) fs w) left
  resumes b ops again fs l (Some v) w left = resume (machine.goes_on again (waiting b (OfValue v ∷ ops) l again) fs w) left

  -- to the place after a call
  abbrev pub returns : (place : ℕ) (ops : List Operand) (frames : List Frame) → Target (Option Value)
  returns b ops fs = resumes b ops false fs

  module _ (at : Label → ℕ) where
    -- a jump to a label of the newest activation, or of one that waits
    abbrev pub landed : (height : ℕ) → Label → Locals → List Frame → World → (left : ℕ) → State
    landed h k l fs w left =
        if nat_eq h (height w) then At (frame (at k) [] l) fs (cleared w) left else resume (lands h (at k) fs (left_by w)) left

    -- the machine does from a state on what an effect says
    abbrev pub Reach : {A : Type 0} → Context → State → Locals → Target A → List Frame → Effect A → Type 0
    Reach c s l to fs (Gives x w left) = Arrives p c s l (λ m. to m x w left)
    Reach c s l to fs (Jumps h k w left) = Arrives p c s l (λ m. landed h k m fs w left)
    Reach c s l to fs (Fails e w) = Comes p s (Over e w)
    Reach c s l to fs (Spent w) = Comes p s (Over OutOfSteps w)
    Reach c s l to fs Lost = Unit {0}
    Reach c s l to fs Short = Unit {0}

    pub record Reaches {A : Type 0} (c : Context) (s : State) (l : Locals) (to : Target A) (fs : List Frame) (o : Effect A) : Type 0 where
      pub by : Reach c s l to fs o

    pub gives : {A : Type 0} {c : Context} {s : State} {l : Locals} {to : Target A} {fs : List Frame} (x : A) (w : World) (left : ℕ) → Fine c l
        → Comes p s (to l x w left) → Reaches c s l to fs (Gives x w left)
    gives {c} {l} x w left fine h = record { by = record { locals = l; kept = kept_same c l fine; comes = h } }

    -- where nothing stands
    pub passes : {c : Context} {a b : ℕ} {l : Locals} {fs : List Frame} → a ≡ b → Fine c l → (w : World) (left : ℕ)
        → Reaches c (At (frame a [] l) fs w left) l (flows b fs) fs (Gives Next w left)
    passes {a} {l} {fs} e fine w left =
        gives Next w left fine (subst (λ m. Comes p (At (frame a [] l) fs w left) (At (frame m [] l) fs w left)) e (stays p (At (frame a [] l) fs w left)))

    -- after some instructions
    pub reach_from : {A : Type 0} (c : Context) {s t : State} (l : Locals) (to : Target A) (fs : List Frame) (o : Effect A) → Comes p s t → Reach c t l to fs o → Reach c s l to fs o
    reach_from c l to fs (Gives x w left) h r = arrives_from p h r
    reach_from c l to fs (Jumps g k w left) h r = arrives_from p h r
    reach_from c l to fs (Fails e w) h r = from p h r
    reach_from c l to fs (Spent w) h r = from p h r
    reach_from c l to fs Lost h r = r
    reach_from c l to fs Short h r = r

    pub then_reaches : {A : Type 0} {c : Context} {s t : State} {l : Locals} {to : Target A} {fs : List Frame} {o : Effect A} → Comes p s t → Reaches c t l to fs o → Reaches c s l to fs o
    then_reaches {c} {l} {to} {fs} {o} h r = record { by = reach_from c l to fs o h r.by }

    -- from a frame's own part that keeps what is in use
    pub reach_kept : {A : Type 0} (c : Context) (s : State) (l m : Locals) (to : Target A) (fs : List Frame) (o : Effect A) → Kept c l m → Reach c s m to fs o → Reach c s l to fs o
    reach_kept c s l m to fs (Gives x w left) k r = record { locals = r.locals; kept = kept_on c l m r.locals k r.kept; comes = r.comes }
    reach_kept c s l m to fs (Jumps g i w left) k r = record { locals = r.locals; kept = kept_on c l m r.locals k r.kept; comes = r.comes }
    reach_kept c s l m to fs o k r = r

    pub keeping : {A : Type 0} {c : Context} {s : State} {l m : Locals} {to : Target A} {fs : List Frame} {o : Effect A} → Kept c l m → Reaches c s m to fs o → Reaches c s l to fs o
    keeping {c} {s} {l} {m} {to} {fs} {o} k r = record { by = reach_kept c s l m to fs o k r.by }

    -- from a context within
    pub reach_out : {A : Type 0} (d c : Context) (s : State) (l : Locals) (to : Target A) (fs : List Frame) (o : Effect A) → WithinContext d c → Reach d s l to fs o → Reach c s l to fs o
    reach_out d c s l to fs (Gives x w left) k r = record { locals = r.locals; kept = kept_out d c l r.locals k r.kept; comes = r.comes }
    reach_out d c s l to fs (Jumps g i w left) k r = record { locals = r.locals; kept = kept_out d c l r.locals k r.kept; comes = r.comes }
    reach_out d c s l to fs o k r = r

    pub bound : {A B : Type 0} {c : Context} {s : State} {l : Locals} {to : Target A} {to2 : Target B} {fs : List Frame} (o : Effect A) (go : A → Doing B)
        → Reaches c s l to fs o
        → ((m : Locals) → Kept c l m → (x : A) (w : World) (left : ℕ) → Reaches c (to m x w left) m to2 fs (go x w left))
        → Reaches c s l to2 fs (and_then o go)
    bound {c} {l} {to} {to2} {fs} (Gives x w left) go r f =
        let a = r.by in
        let n = f a.locals a.kept x w left in
        record { by = reach_from c l to2 fs (go x w left) a.comes (reach_kept c (to a.locals x w left) l a.locals to2 fs (go x w left) a.kept n.by) }
    bound (Jumps h k w left) go r f = record { by = r.by }
    bound (Fails e w) go r f = record { by = r.by }
    bound (Spent w) go r f = record { by = r.by }
    bound Lost go r f = record { by = tt }
    bound Short go r f = record { by = tt }

    -- and where the first part runs in a context within
    pub bound_in : {A B : Type 0} {d c : Context} {s : State} {l : Locals} {to : Target A} {to2 : Target B} {fs : List Frame} → WithinContext d c → (o : Effect A) (go : A → Doing B)
        → Reaches d s l to fs o
        → ((m : Locals) → Kept d l m → (x : A) (w : World) (left : ℕ) → Reaches c (to m x w left) m to2 fs (go x w left))
        → Reaches c s l to2 fs (and_then o go)
    bound_in {d} {c} {l} {to} {to2} {fs} inner (Gives x w left) go r f =
        let a = r.by in
        let n = f a.locals a.kept x w left in
        record { by = reach_from c l to2 fs (go x w left) a.comes (reach_kept c (to a.locals x w left) l a.locals to2 fs (go x w left) (kept_out d c l a.locals inner a.kept) n.by) }
    bound_in {d} {c} {s} {l} {to2} {fs} inner (Jumps h k w left) go r f = record { by = reach_out d c s l to2 fs (Jumps h k w left) inner r.by }
    bound_in inner (Fails e w) go r f = record { by = r.by }
    bound_in inner (Spent w) go r f = record { by = r.by }
    bound_in inner Lost go r f = record { by = tt }
    bound_in inner Short go r f = record { by = tt }

    -- the next statement
    pub goes_on : {c : Context} {s : State} {l : Locals} {a b : ℕ} {fs : List Frame} (o : Effect Flow) (go : Doing Flow)
        → Reaches c s l (flows a fs) fs o
        → ((m : Locals) → Kept c l m → (w : World) (left : ℕ) → Reaches c (At (frame a [] m) fs w left) m (flows b fs) fs (go w left))
        → Reaches c s l (flows b fs) fs (followed o go)
    goes_on {c} {l} {a} {b} {fs} o go r f = bound {to = flows a fs} {to2 = flows b fs} o (after_flow go) r by_flow
      where
        by_flow : (m : Locals) → Kept c l m → (x : Flow) (w : World) (left : ℕ) → Reaches c (flows a fs m x w left) m (flows b fs) fs (after_flow go x w left)
        by_flow m kept Next w left = f m kept w left
        by_flow m kept (Returned d v) w left = gives (Returned d v) w left kept.fine (stays p (flows a fs m (Returned d v) w left))

    pub goes_on_in : {d c : Context} {s : State} {l : Locals} {a b : ℕ} {fs : List Frame} → WithinContext d c → (o : Effect Flow) (go : Doing Flow)
        → Reaches d s l (flows a fs) fs o
        → ((m : Locals) → Kept d l m → (w : World) (left : ℕ) → Reaches c (At (frame a [] m) fs w left) m (flows b fs) fs (go w left))
        → Reaches c s l (flows b fs) fs (followed o go)
    goes_on_in {d} {c} {l} {a} {b} {fs} inner o go r f = bound_in {to = flows a fs} {to2 = flows b fs} inner o (after_flow go) r by_flow
      where
        by_flow : (m : Locals) → Kept d l m → (x : Flow) (w : World) (left : ℕ) → Reaches c (flows a fs m x w left) m (flows b fs) fs (after_flow go x w left)
        by_flow m kept Next w left = f m kept w left
        by_flow m kept (Returned d v) w left = gives (Returned d v) w left (fine_out _ c m inner kept.fine) (stays p (flows a fs m (Returned d v) w left))

    module _ (there : slice_get p.units number ≡ Some u) where
      -- one instruction
      pub goes : {i : Instruction} {a b : ℕ} {ops : List Operand} {l : Locals} {fs : List Frame} {w : World} {left : ℕ} {t : State}
          → Is u i a b → resume (act p u (Some i) (frame b ops l) fs w) left ≡ t → Comes p (At (frame a ops l) fs w left) t
      goes {i} {a} {b} {ops} {l} {fs} {w} {left} {t} is h =
          record {
            by = λ k. (
              suc k,
              ap (λ v. iterate p k (resume (act_in p v (frame a ops l) fs w) left)) there
                  ∙ ap (λ j. iterate p k (resume (act p u j (frame (suc a) ops l) fs w) left)) is.here
                  ∙ ap (λ m. iterate p k (resume (act p u (Some i) (frame m ops l) fs w) left)) is.ends ∙ ap (iterate p k) h,
            );
          }

      -- a statement, or a turn, is begun by the instruction that takes its step
      pub begins : {A : Type 0} {c : Context} {s a b : ℕ} {ops : List Operand} {l : Locals} {fs : List Frame} {to : Target A} (go : Doing A) → Is u (op.Step s) a b → Kept c l (calm l)
          → ((w : World) (left : ℕ) → Reaches c (At (frame b ops (calm l)) fs w left) (calm l) to fs (go w left))
          → (w : World) (left : ℕ) → Reaches c (At (frame a ops l) fs w left) l to fs (as_statement s go w left)
      begins go is kept f w zero = record { by = goes is refl }
      begins {c} {s} {ops} {l} {fs} {to} go is kept f w (suc left) =
          let v = at_statement s (stepped w) in
          let r = f v left in
          then_reaches (goes is refl) (keeping kept r)

      -- an instruction that asks for an operation
      pub answers : {A : Type 0} {c : Context} {i : Instruction} {a b : ℕ} {old : List Operand} {l : Locals} {fs : List Frame} (f : A → List Operand) (o : Answer A) → Is u i a b → Fine c l
          → (w : World) (left : ℕ)
          → act p u (Some i) (frame b old l) fs w ≡ given w o (λ x v. Goes (frame b (f x) l) fs v)
          → Reaches c (At (frame a old l) fs w left) l (λ m x w left. At (frame b (f x) m) fs w left) fs (answered o left)
      answers f (Yields x v) is fine w left h = gives x v left fine (goes is (ap (λ m. resume m left) h))
      answers f (Raises e v) is fine w left h = record { by = goes is (ap (λ m. resume m left) h) }
      answers f Wrong is fine w left h = record { by = tt }
