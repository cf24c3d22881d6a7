-- The simulation: the run of a program's code gives what the program means.
use Rattle.std.specs.Prelude.{◌≡◌, ◌≢◌, ℕ, zero, suc, nat_eq, ◌&&◌, Bool, true, false, not, Option, Some, None, List, [], ◌∷◌, map, slice_get, if◌then◌else◌, refl}
use Rattle.std.proofs.Common.{ap, ◌∙◌, sym, subst, true≢false}
use Rattle.pli_run.specs.declared.ending.Ending.{Ending}
use Rattle.pli_base.specs.Name.{Name}
use Rattle.pli_run.specs.declared.ending.Ending.TheVariants as message
use Rattle.pli_world.specs.Ends.{RunEnd, Ended, OutOfSteps, told}
use Rattle.pli_world.specs.World.{World, Answer, Yields, Raises, Wrong, nothing, entered, stepped, left_by, height}
use Rattle.pli_value.specs.Value.{Value}
use Rattle.pli_program.specs.Program.{Procedure, OnUnit, is_procedure, is_external, UnitCode, Program}
use Rattle.pli_machine_step.specs.Machine.{Locals, State, Over, Goes, Steps, given, enters, faulty, resume}
use Rattle.pli_machine_step.specs.Runs.{Outcome, outcome_of, names_of, is_main, main_block, main_unit, start, ProgramRunsTo}
use Rattle.pli_type_tree.specs.Blocks.{kind_of_procedure}
use Rattle.pli_type_tree.specs.TypedTree.{TypedProcedure, TypedUnit}
use Rattle.pli_meaning_tree.specs.Effects.{Label, Effect, Gives, Jumps, Fails, Spent, Lost, Short, Flow, Next, Returned, and_then, answered, leaving, procedure_end}
use Rattle.pli_meaning_tree.specs.TreeMeaning.{Calls, head_in, does_list}
use Rattle.pli_meaning_tree.specs.ProgramMeaning.{procedure_run, procedure_in, calls, all_made, unless_fault, ran}
use Rattle.pli_meaning_tree.specs.Parts.{main_run, unit_run, run_effect, unit_names}
use Rattle.pli_meaning_simulation.specs.CodeStands.{Context, EndStands, ProcedureStands, UnitStands, UnitsStand}
use Rattle.pli_meaning_simulation.specs.laws.Laws.{Simulation, NoFault}
use Rattle.pli_meaning_simulation.proofs.ReachesLemmas.{Comes, stays, from, flows, Reaches, goes}
use Rattle.pli_meaning_simulation.proofs.ExpressionsReach.{CallsRun}
use Rattle.pli_meaning_simulation.proofs.CallsReach.{Found, procedure_there, code, first, body_run, IsThere, unit_there, calls_run}
use Rattle.pli_meaning_simulation.proofs.StaticsAreSame.{statics_same}

-- the units have the same names
names_same : (program : List TypedUnit) (names : List Name) (at : Label → ℕ) (number : ℕ) (ts : List TypedUnit) (us : List UnitCode) → UnitsStand program names at number ts us
    → map (λ (u : UnitCode). u.name) us ≡ unit_names ts
names_same program names at number [] [] stand = refl
names_same program names at number [] (u ∷ us) stand = absurd stand
names_same program names at number (t ∷ ts) [] stand = absurd stand
names_same program names at number (t ∷ ts) (u ∷ us) stand =
    ap (λ name. name ∷ map (λ (u : UnitCode). u.name) us) stand.0.names ∙ ap (λ names. t.name ∷ names) (names_same program names at (suc number) ts us stand.1)

some_is : (a b : Outcome) → Some a ≡ Some b → a ≡ b
some_is a b e = cc

-- a main procedure: an external one without parameters
abbrev is_main_procedure : TypedProcedure → Bool
is_main_procedure f = is_external f.parent && (not f.is_on_unit && nat_eq f.parameters 0)

tests_same : (x y z : Bool) → (is_procedure (if x then OnUnit else Procedure) && y && z) ≡ (y && (not x && z))
tests_same true true z = refl
tests_same true false z = refl
tests_same false true z = refl
tests_same false false z = refl

mains_same : (f : TypedProcedure) → (is_procedure (kind_of_procedure f) && is_external f.parent && nat_eq f.parameters 0) ≡ is_main_procedure f
mains_same f = tests_same f.is_on_unit (is_external f.parent) (nat_eq f.parameters 0)

-- the end to which a whole run leads
module _ (p : Program) where
  abbrev Ends : State → Effect (Option Value) → Type 0
  Ends s (Gives None w left) = Comes p s (Over Ended w)
  Ends s (Gives (Some v) w left) = Unit
  Ends s (Jumps h k w left) = Unit
  Ends s (Fails e w) = Comes p s (Over e w)
  Ends s (Spent w) = Comes p s (Over OutOfSteps w)
  Ends s Lost = Unit
  Ends s Short = Unit

  ends_from : (s t : State) (o : Effect (Option Value)) → Comes p s t → Ends t o → Ends s o
  ends_from s t (Gives None w left) h r = from p h r
  ends_from s t (Gives (Some v) w left) h r = tt
  ends_from s t (Jumps h k w left) c r = tt
  ends_from s t (Fails e w) h r = from p h r
  ends_from s t (Spent w) h r = from p h r
  ends_from s t Lost h r = tt
  ends_from s t Short h r = tt

  ends_lost : (s : State) (h : ℕ) (k : Label) (w : World) (left : ℕ) (b : Bool) → Ends s (if b then Lost else Jumps h k w left)
  ends_lost s h k w left true = tt
  ends_lost s h k w left false = tt

  module _ (number : ℕ) (u : UnitCode) (at : Label → ℕ) (there : slice_get p.units number ≡ Some u) where
    -- the end of the main procedure
    end_run : (function_end : Option ℕ) (x : Flow) (finish after : ℕ) → EndStands u number at function_end finish after → (l : Locals) (w : World) (left : ℕ)
        → Ends (flows p number u finish [] l x w left) (procedure_end function_end x w left)
    end_run None Next finish after is l w left = goes p number u at there is refl
    end_run (Some s) Next finish after is l w left = from p (goes p number u at there is.fst refl) (goes p number u at there is.snd refl)
    end_run None (Returned zero None) finish after is l w left = stays p _
    end_run (Some s) (Returned zero None) finish after is l w left = stays p _
    end_run None (Returned zero (Some v)) finish after is l w left = tt
    end_run (Some s) (Returned zero (Some v)) finish after is l w left = tt
    end_run None (Returned (suc d) v) finish after is l w left = tt
    end_run (Some s) (Returned (suc d) v) finish after is l w left = tt

    main_leaves : (function_end : Option ℕ) (finish after : ℕ) → EndStands u number at function_end finish after → {c : Context} {s : State} {l : Locals} (o : Effect Flow)
        → Reaches p number u at c s l (flows p number u finish []) [] o → Ends s (leaving o (procedure_end function_end))
    main_leaves function_end finish after is {s = s} (Gives x w left) r =
        ends_from s (flows p number u finish [] r.by.locals x w left) (procedure_end function_end x w left) r.by.comes (end_run function_end x finish after is r.by.locals w left)
    main_leaves function_end finish after is {s = s} (Jumps h k w left) r = ends_lost s h k (left_by w) left (nat_eq h (height w))
    main_leaves function_end finish after is (Fails e w) r = r.by
    main_leaves function_end finish after is (Spent w) r = r.by
    main_leaves function_end finish after is Lost r = tt
    main_leaves function_end finish after is Short r = tt

    module _ (call : Calls) (run : CallsRun p number u at call) (level : ℕ) (f : TypedProcedure) (is : ProcedureStands u number at f) where
      -- its activation
      activation_ends : (before : World) (o : Answer Unit) (left : ℕ)
          → Ends (resume (given before o (λ _ v. Goes (first p number u at there call run level f is) [] v)) left)
          (and_then (answered o left) (λ _ w left. leaving (does_list p.greatest call number level f.head.number f.statements w left) (procedure_end f.function_end)))
      activation_ends before (Yields x v) left =
          main_leaves f.function_end is.finish is.after is.ends (does_list p.greatest call number level f.head.number f.statements v left)
          (body_run p number u at there call run level f is [] v left)
      activation_ends before (Raises e v) left = stays p _
      activation_ends before Wrong left = tt

      -- its step
      step_ends : (w : World) (left : ℕ)
          → Ends (resume (Steps w (enters number f.head.number (code p number u at there call run level f is) 0 [] [] (stepped w))) left)
          (procedure_run p.greatest call level number f 0 [] w left)
      step_ends w zero = stays p _
      step_ends w (suc left) = activation_ends (stepped w) (entered (head_in number f.head) 0 [] (stepped w)) left

      -- and the test of its block
      main_ends : (w : World) (left : ℕ) (t : Bool)
          → Ends (resume (if t then Steps w (enters number f.head.number (code p number u at there call run level f is) 0 [] [] (stepped w)) else faulty w) left)
          (if t then procedure_run p.greatest call level number f 0 [] w left else Lost)
      main_ends w left true = step_ends w left
      main_ends w left false = tt

  -- block 0 of the main unit
  block_ends : (program : List TypedUnit) (names : List Name) (at : Label → ℕ) → UnitsStand program names at 0 program p.units → (number : ℕ) (u : UnitCode) → slice_get p.units number ≡ Some u
      → (t : TypedUnit) (stand : UnitStands program names at number t u) (level : ℕ) (w : World) (left : ℕ)
      → Ends (resume (main_block number (slice_get u.blocks 0) w) left) (main_run p.greatest (calls p.greatest program level number t) level number (procedure_in t.procedures 0) w left)
  block_ends program names at all number u there t stand level w left = by (procedure_in t.procedures 0) (procedure_there p number u at t.procedures 0 stand.procedures)
    where
      call : Calls
      call = calls p.greatest program level number t

      run : CallsRun p number u at call
      run = calls_run p program names at all level number u there t stand

      by : (o : Option TypedProcedure) → Found p number u at 0 o
          → Ends (resume (main_block number (slice_get u.blocks 0) w) left) (main_run p.greatest call level number o w left)
      by None found = tt
      by (Some f) found =
          let b = code p number u at there call run level f found.1 in
          let block : slice_get u.blocks 0 ≡ Some b = ap (slice_get u.blocks) (sym found.0) ∙ found.1.there in
          subst (λ x. Ends (resume (main_block number x w) left)
          (if is_main_procedure f then procedure_run p.greatest call level number f 0 [] w left else Lost)) (sym block)
          (subst (λ k. Ends (resume (if is_main b then Steps w (enters number k b 0 [] [] (stepped w)) else faulty w) left)
          (if is_main_procedure f then procedure_run p.greatest call level number f 0 [] w left else Lost)) found.0
          (subst (λ t. Ends (resume (if t then Steps w (enters number f.head.number b 0 [] [] (stepped w)) else faulty w) left)
          (if is_main_procedure f then procedure_run p.greatest call level number f 0 [] w left else Lost)) (sym (mains_same f))
          (main_ends number u at there call run level f found.1 w left (is_main_procedure f))))

  -- the main unit
  unit_ends : (program : List TypedUnit) (names : List Name) (at : Label → ℕ) → UnitsStand program names at 0 program p.units → (o : Option TypedUnit) (number : ℕ) → IsThere program names at number o p.units number → (level : ℕ) (w : World) (left : ℕ)
      → Ends (resume (main_unit number (slice_get p.units number) w) left) (unit_run p.greatest (calls p.greatest program level) level number o w left)
  unit_ends program names at all None number is level w left = tt
  unit_ends program names at all (Some t) number is level w left =
      subst (λ x. Ends (resume (main_unit number x w) left) (unit_run p.greatest (calls p.greatest program level) level number (Some t) w left)) (sym is.1)
      (block_ends program names at all number is.0 is.1 t is.2 level w left)

  -- after the variables that are made once
  program_ends : (o : Answer Unit) (units : List TypedUnit) (names : List Name) (at : Label → ℕ) → UnitsStand units names at 0 units p.units → (steps : ℕ)
      → Ends (resume (given nothing o (λ _ w. main_unit p.main (slice_get p.units p.main) w)) steps)
      (and_then (answered o steps) (λ _ w left. unit_run p.greatest (calls p.greatest units (suc steps)) (suc steps) p.main (slice_get units p.main) w left))
  program_ends (Yields x w) units names at stand steps =
      unit_ends units names at stand (slice_get units p.main) p.main (unit_there units names at units p.units p.main stand) (suc steps) w steps
  program_ends (Raises e w) units names at stand steps = stays p _
  program_ends Wrong units names at stand steps = tt

-- from the end to which a run leads
outcome_from : (p : Program) (n : ℕ) (e : RunEnd) (w : World) (outcome : Outcome) → Comes p (start p n) (Over e w) → Some (outcome_of (names_of p) e w) ≡ Some outcome → ProgramRunsTo p n outcome
outcome_from p n e w outcome c same =
    record { count = (c.by 0).0; ending = e; world = w; over = (c.by 0).1; gives = sym (some_is (outcome_of (names_of p) e w) outcome same) }

-- an outcome that is none of a fault is itself
unless_is : (e : Ending) (o outcome : Outcome) → unless_fault e o ≡ Some outcome → Some o ≡ Some outcome
unless_is message.MachineFault o outcome h = absurd (cc)
unless_is message.Ended o outcome h = h
unless_is message.OutOfSteps o outcome h = h
unless_is (message.Error x unit k) o outcome h = h

runs_from : (p : Program) (n : ℕ) (o : Effect (Option Value)) (outcome : Outcome) → ran (names_of p) o ≡ Some outcome → Ends p (start p n) o → ProgramRunsTo p n outcome
runs_from p n (Gives None w left) outcome e r = outcome_from p n Ended w outcome r e
runs_from p n (Gives (Some v) w left) outcome e r = absurd (cc)
runs_from p n (Jumps h k w left) outcome e r = absurd (cc)
runs_from p n (Fails x w) outcome e r = outcome_from p n x w outcome r (unless_is (told (names_of p) x) (outcome_of (names_of p) x w) outcome e)
runs_from p n (Spent w) outcome e r = outcome_from p n OutOfSteps w outcome r e
runs_from p n Lost outcome e r = absurd (cc)
runs_from p n Short outcome e r = absurd (cc)

pub simulation : Simulation
simulation t p stand n o e =
    runs_from p n (run_effect t n) o (subst (λ known. ran known (run_effect t n) ≡ Some o) (sym (names_same t.units stand.names stand.at 0 t.units p.units stand.units)) e)
    (subst (λ g. Ends p (start p n) (and_then (answered (all_made 0 t.units [] nothing) n) (λ _ w left. unit_run g (calls g t.units (suc n)) (suc n) t.main (slice_get t.units t.main) w left))) stand.greatest
    (subst (λ m. Ends p (start p n) (and_then (answered (all_made 0 t.units [] nothing) n) (λ _ w left. unit_run p.greatest (calls p.greatest t.units (suc n)) (suc n) m (slice_get t.units m) w left))) stand.main
    (subst (λ a. Ends p (resume (given nothing a (λ _ w. main_unit p.main (slice_get p.units p.main) w)) n)
    (and_then (answered (all_made 0 t.units [] nothing) n) (λ _ w left. unit_run p.greatest (calls p.greatest t.units (suc n)) (suc n) p.main (slice_get t.units p.main) w left)))
    (sym (statics_same stand.names t.units stand.at 0 t.units p.units stand.units [] [] tt nothing))
    (program_ends p (all_made 0 t.units [] nothing) t.units stand.names stand.at stand.units n))))

-- no meaning is a fault of the machine
abbrev is_fault : Ending → Bool
is_fault message.MachineFault = true
is_fault e = false

differs : (e : Ending) → e ≡ message.MachineFault → is_fault e ≡ false → ⊥
differs e same not = absurd (true≢false (sym (ap is_fault same) ∙ not))

unless_without_fault : (names : List Name) (e : RunEnd) (w : World) (told_so : Ending) (o : Outcome) → told names e ≡ told_so
    → unless_fault told_so (outcome_of names e w) ≡ Some o → o.ending ≢ message.MachineFault
unless_without_fault names e w message.MachineFault o is same = absurd (cc)
unless_without_fault names e w message.Ended o is same = λ fault. differs message.Ended (sym is ∙ ap (λ (p : Outcome). p.ending) (some_is (outcome_of names e w) o same) ∙ fault) refl
unless_without_fault names e w message.OutOfSteps o is same = λ fault. differs message.OutOfSteps (sym is ∙ ap (λ (p : Outcome). p.ending) (some_is (outcome_of names e w) o same) ∙ fault) refl
unless_without_fault names e w (message.Error x unit k) o is same =
    λ fault. differs (message.Error x unit k) (sym is ∙ ap (λ (p : Outcome). p.ending) (some_is (outcome_of names e w) o same) ∙ fault) refl

ran_without_fault : (names : List Name) (f : Effect (Option Value)) (o : Outcome) → ran names f ≡ Some o → o.ending ≢ message.MachineFault
ran_without_fault names (Gives None w left) o same = unless_without_fault names Ended w message.Ended o refl same
ran_without_fault names (Gives (Some v) w left) o same = absurd (cc)
ran_without_fault names (Jumps h k w left) o same = absurd (cc)
ran_without_fault names (Fails e w) o same = unless_without_fault names e w (told names e) o refl same
ran_without_fault names (Spent w) o same = unless_without_fault names OutOfSteps w message.OutOfSteps o refl same
ran_without_fault names Lost o same = absurd (cc)
ran_without_fault names Short o same = absurd (cc)

pub no_fault : NoFault
no_fault t n o same = ran_without_fault (unit_names t.units) (run_effect t n) o same
