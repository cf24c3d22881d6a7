-- A run with a step more goes on from where the run stopped: no instruction knows how many steps are left.
use Rattle.std.specs.Prelude.{◌⊎◌, ℕ, zero, suc, ◌+◌, List, slice_get, refl}
use Rattle.std.proofs.Common.{◌≡◌, sym, ap, subst, ◌∙◌, inl, inr, ⊎_elim, arith}
use Rattle.pli_base.specs.Name.{Name}
use Rattle.pli_world.specs.Ends.{RunEnd, OutOfSteps, told}
use Rattle.pli_world.specs.World.{World, nothing}
use Rattle.pli_world.specs.laws.Operations.{IsPrefix}
use Rattle.pli_world.specs.laws.OperationLaws.{prefix_same, prefix_then}
use Rattle.pli_program.specs.Program.{Program}
use Rattle.pli_machine_step.specs.Machine.{State, At, Over, Move, Goes, Stops, Steps, ahead, act_in, resume, next_of, iterate}
use Rattle.pli_machine_step.specs.Runs.{Outcome, first_move, outcome_of, names_of, start}
use Rattle.pli_machine_step.specs.laws.Laws.{GoesOn, RunsGoOn, OneFrameEach}
use Rattle.pli_machine_step.specs.laws.Moves.{IsFramed, Adds, output_of}
use Rattle.pli_machine_step.specs.laws.MoveLaws.{frame_leads, leads_add, resume_adds, first_adds}
use Rattle.pli_machine_step.specs.laws.RunLaws.{over_stays, iterate_swap, next_adds, start_framed, stays_framed}

-- one is the other with a step more; or the other has spent its steps, and what it has printed begins what the
-- one has
abbrev Ahead : State → State → Type 0
Ahead (At here frames w left) t = t ≡ At here frames w (suc left)
Ahead (Over e w) t = (t ≡ Over e w) ⊎ ((e ≡ OutOfSteps) × IsPrefix w.output (output_of t))

resume_ahead : (P : Type 0) (w : World) (m : Move) (left : ℕ) → Adds P w m → Ahead (resume m left) (resume m (suc left))
resume_ahead P w (Goes here frames v) left adds = refl
resume_ahead P w (Stops ending v) left adds = inl refl
resume_ahead P w (Steps before after) zero adds = inr (refl, resume_adds P before after zero adds.1)
resume_ahead P w (Steps before after) (suc left) adds = resume_ahead P before after left adds.1

next_ahead : (p : Program) (s t : State) → Ahead s t → Ahead (next_of p s) (next_of p t)
next_ahead p (At here frames w left) t h =
    let m = act_in p (slice_get p.units here.unit) here frames w in
    subst (λ t. Ahead (resume m left) (next_of p t)) (sym h)
    (resume_ahead (IsFramed frames w) w m left (leads_add (ahead here) frames w m (frame_leads p (slice_get p.units here.unit) here frames w)))
next_ahead p (Over e w) t h =
    ⊎_elim (λ same. inl (ap (next_of p) same))
    (λ spent. inr (spent.0, prefix_then w.output (output_of t) (output_of (next_of p t)) spent.1 (next_adds p t))) h

iterate_ahead : (p : Program) (count : ℕ) (s t : State) → Ahead s t → Ahead (iterate p count s) (iterate p count t)
iterate_ahead p zero s t h = h
iterate_ahead p (suc count) s t h = iterate_ahead p count (next_of p s) (next_of p t) (next_ahead p s t h)

start_ahead : (p : Program) (steps : ℕ) → Ahead (start p steps) (start p (suc steps))
start_ahead p steps = resume_ahead (Unit {0}) nothing (first_move p) steps (first_adds p)

-- a run that has ended is over after more instructions too
ended : (p : Program) (i j : ℕ) (s : State) (e : RunEnd) (w : World) → iterate p i s ≡ Over e w → iterate p j (iterate p i s) ≡ Over e w
ended p i j s e w over = ap (iterate p j) over ∙ over_stays p j e w

abbrev outcome_or : List Name → Outcome → State → Outcome
outcome_or names o (At here frames w left) = o
outcome_or names o (Over e w) = outcome_of names e w

ends_go_on : (names : List Name) (e f : RunEnd) (v w : World) → Ahead (Over e v) (Over f w)
    → GoesOn (outcome_of names e v) (outcome_of names f w)
ends_go_on names e f v w (inl same) =
    let outcome = ap (outcome_or names (outcome_of names f w)) same in
    record {
      prefix = subst (λ o. IsPrefix v.output o.output) (sym outcome) (prefix_same v.output);
      stays = λ other. outcome;
    }
ends_go_on names e f v w (inr spent) = record { prefix = spent.1; stays = λ other. absurd (other (ap (told names) spent.0)) }

pub runs_go_on : RunsGoOn
runs_go_on p steps before after run more =
    let i = run.count in
    let j = more.count in
    let plus : steps + 1 ≡ suc steps = omega arith in
    let s = start p steps in
    let t = start p (suc steps) in
    let both = iterate_ahead p j (iterate p i s) (iterate p i t) (iterate_ahead p i s t (start_ahead p steps)) in
    let first = ended p i j s run.ending run.world run.over in
    let over = ap (λ k. iterate p j (start p k)) (sym plus) ∙ more.over in
    let second = iterate_swap p j i t ∙ ended p j i t more.ending more.world over in
    let ends = ends_go_on (names_of p) run.ending more.ending run.world more.world
    (subst (λ x. Ahead x (Over more.ending more.world)) first (subst (λ x. Ahead (iterate p j (iterate p i s)) x) second both)) in
    subst (λ o. GoesOn o after) (sym run.gives)
    (subst (λ o. GoesOn (outcome_of (names_of p) run.ending run.world) o) (sym more.gives) ends)

pub one_frame_each : OneFrameEach
one_frame_each p steps count = stays_framed p count (start p steps) (start_framed p steps)
