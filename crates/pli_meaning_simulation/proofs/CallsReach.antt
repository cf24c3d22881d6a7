-- The machine does what calls mean, at each level.
use Rattle.std.specs.Prelude.{◌≡◌, ℕ, zero, suc, ◌+◌, nat_eq, Bool, true, false, not, ◌&&◌, Option, Some, None, List, [], ◌∷◌, length, slice_get, if◌then◌else◌, refl}
use Rattle.std.proofs.Common.{ap, ◌∙◌, sym, subst, arith}
use Rattle.std.proofs.lemmas.Bool.{eqb-true}
use Rattle.std.proofs.lemmas.List.{length-map}
use Rattle.pli_base.specs.Name.{Name}
use Rattle.pli_base.specs.declared.statement.Condition.{Condition}
use Rattle.pli_world.specs.Conditions.{Handler, handler}
use Rattle.pli_world.specs.Storage.{Place}
use Rattle.pli_world.specs.World.{World, entered, left_by, stepped}
use Rattle.pli_value.specs.Value.{Value}
use Rattle.pli_program.specs.Program as programs
use Rattle.pli_program.specs.Program.{Procedure, OnUnit, is_procedure, is_external, Block, UnitCode, Program}
use Rattle.pli_machine_step.specs.Machine as machine
use Rattle.pli_machine_step.specs.Machine.{Operand, Locals, Frame, At, Move, Steps, calm, fresh, places_off, called, link_of, enters, faulty, raises, act, resume}
use Rattle.pli_type_tree.specs.Blocks.{kind_of_procedure}
use Rattle.pli_type_tree.specs.TypedTree.{Callee, OfBlock, OfEntry, Global, OwnVariable, ExternalVariable, EntryPoint, TypedProcedure, TypedUnit}
use Rattle.pli_meaning_tree.specs.Effects as effect
use Rattle.pli_meaning_tree.specs.Effects.{Label, Effect, Lost, Flow, Next, Returned, leaving, procedure_end}
use Rattle.pli_meaning_tree.specs.TreeMeaning.{Calls, in_order, head_in, static_link, activation_of, does_from, does_list}
use Rattle.pli_meaning_tree.specs.ProgramMeaning.{procedure_run, procedure_in, unit_named, entry_unit, called_in, raised_in, calls}
use Rattle.pli_meaning_tree.specs.Parts.{activates_in, activates, activates_outer, activates_unit, activates_entry, runs_block, runs_on_unit}
use Rattle.pli_meaning_simulation.specs.CodeStands.{Context, call_of, block_of, EndStands, ProcedureStands, ProceduresStand, GlobalStands, GlobalsStand, UnitStands, UnitsStand}
use Rattle.pli_meaning_simulation.proofs.ReachesLemmas.{Fine, calm_kept, calm_fine, stays, from, waiting, frame, flows, resumes, returns, Reaches, gives, keeping, goes}
use Rattle.pli_meaning_simulation.proofs.ExpressionsReach.{Argument, CallsRun, arguments_above, given_place, given_places, places_come_off, as_long}
use Rattle.pli_meaning_simulation.proofs.ControlReaches.{fresh_fine, leaves, full_run, step_run, enters_run}
use Rattle.pli_meaning_simulation.proofs.FormsReach.{list_run}
use Rattle.pli_meaning_simulation.proofs.StatementsReach.{from_run}

-- a procedure is what is no ON-unit
pub kinds_same : (b : Bool) → is_procedure (if b then OnUnit else Procedure) ≡ not b
kinds_same true = refl
kinds_same false = refl

module _ (p : Program) (number : ℕ) (u : UnitCode) (at : Label → ℕ) where
  -- what a look-up of a procedure finds has its number, and its code stands
  abbrev pub Found : (block : ℕ) → Option TypedProcedure → Type 0
  Found block None = Unit
  Found block (Some f) = (f.head.number ≡ block) × ProcedureStands u number at f

  pub procedure_there : (fs : List TypedProcedure) (block : ℕ) → ProceduresStand u number at fs → Found block (procedure_in fs block)
  procedure_there [] block stand = tt
  procedure_there (f ∷ fs) block stand = by (nat_eq f.head.number block) refl (procedure_there fs block stand.1)
    where
      by : (t : Bool) → nat_eq f.head.number block ≡ t → Found block (procedure_in fs block) → Found block (if t then Some f else procedure_in fs block)
      by true e rest = (eqb-true f.head.number block e, stand.0)
      by false e rest = rest

  links_same : (parent : Option ℕ) (w : World) → link_of number parent w ≡ static_link number parent w
  links_same None w = refl
  links_same (Some parent) w = refl

  module _ (there : slice_get p.units number ≡ Some u) (call : Calls) (calls_run : CallsRun p number u at call) (level : ℕ) (f : TypedProcedure) (is : ProcedureStands u number at f) where
    abbrev pub code : Block
    code = block_of (kind_of_procedure f) f.parent f.parameters f.head is.entry

    abbrev pub context : Context
    context = record { size = f.head.temporaries; depth = 0; bound = is.bound }

    -- the first frame of an activation
    abbrev pub first : Frame
    first = frame p number u is.entry [] (fresh f.head.temporaries)

    -- its statements
    pub body_run : (fs : List Frame) (w : World) (left : ℕ)
        → Reaches p number u at context (At first fs w left) (fresh f.head.temporaries) (flows p number u is.finish fs) fs (does_list p.greatest call number level f.head.number f.statements w left)
    body_run fs w left =
        list_run p number u at there call calls_run level f.statements (does_from p.greatest call number level f.head.number f.statements)
        (λ start l fine fs w left. from_run p number u at there call calls_run level f.statements f.head.number context is.entry is.finish is.does start l fine fs w left)
        (fresh f.head.temporaries) (fresh_fine f.head.temporaries is.bound is.some) fs w left

-- a call that stands in one unit, of a procedure of another one or of the same
module _ (p : Program) (number : ℕ) (u : UnitCode) (at : Label → ℕ) (other : ℕ) (v : UnitCode) (there : slice_get p.units other ≡ Some v) where
  -- the end of a procedure
  procedure_end_run : (function_end : Option ℕ) (x : Flow) (finish after b : ℕ) (ops : List Operand) (again : Bool) → EndStands v other at function_end finish after → {c : Context} (n l : Locals)
      → Fine c l → (fs : List Frame) (w : World) (left : ℕ)
      → Reaches p number u at c (flows p other v finish (waiting p number u b ops l again ∷ fs) n x w left) l (resumes p number u b ops again fs) fs (procedure_end function_end x w left)
  procedure_end_run None Next finish after b ops again is n l fine fs w left = gives p number u at None (left_by w) left fine (goes p other v at there is refl)
  procedure_end_run (Some s) Next finish after b ops again is n l fine fs w left = record { by = from p (goes p other v at there is.fst refl) (goes p other v at there is.snd refl) }
  procedure_end_run None (Returned zero None) finish after b ops again is n l fine fs w left = gives p number u at None (left_by w) left fine (stays p _)
  procedure_end_run (Some s) (Returned zero None) finish after b ops again is n l fine fs w left = gives p number u at None (left_by w) left fine (stays p _)
  procedure_end_run None (Returned zero (Some x)) finish after b ops again is n l fine fs w left = gives p number u at (Some x) (left_by w) left fine (stays p _)
  procedure_end_run (Some s) (Returned zero (Some x)) finish after b ops again is n l fine fs w left = gives p number u at (Some x) (left_by w) left fine (stays p _)
  procedure_end_run None (Returned (suc d) o) finish after b ops again is n l fine fs w left = record { by = tt }
  procedure_end_run (Some s) (Returned (suc d) o) finish after b ops again is n l fine fs w left = record { by = tt }

  module _ (call : Calls) (calls_run : CallsRun p other v at call) (level : ℕ) (f : TypedProcedure) (is : ProcedureStands v other at f)
      (c : Context) (b : ℕ) (ops : List Operand) (l : Locals) (fine : Fine c l) (fs : List Frame) where
    abbrev block : Block
    block = code p other v at there call calls_run level f is

    -- its activation, while a frame waits
    activation_run : (again : Bool) (link : ℕ) (places : List Place) (w : World) (left : ℕ)
        → Reaches p number u at c (resume (machine.calls other f.head.number block (Some link) places (waiting p number u b ops l again) fs w) left) l (resumes p number u b ops again fs) fs
        (effect.unless_full (procedure_run p.greatest call level other f link places) w left)
    activation_run again link places w left =
        let calmly = waiting p number u b ops (calm l) again in
        full_run p number u at (procedure_run p.greatest call level other f link places)
        (Steps w (enters other f.head.number block link places (calmly ∷ fs) (stepped w))) w left
        (step_run p number u at
        (activation_of (head_in other f.head) link places (does_list p.greatest call other level f.head.number f.statements) (procedure_end f.function_end))
        (enters other f.head.number block link places (calmly ∷ fs) (stepped w)) w left
        (λ left. enters_run p number u at (first p other v at there call calls_run level f is) (entered (head_in other f.head) link places (stepped w))
        (λ _ w left. leaving (does_list p.greatest call other level f.head.number f.statements w left) (procedure_end f.function_end)) (stepped w) left
        (λ x. keeping p number u at (calm_kept c l fine)
        (leaves p number u at other v {d = context p other v at there call calls_run level f is} {to = flows p other v is.finish (calmly ∷ fs)}
        (does_list p.greatest call other level f.head.number f.statements x left) (procedure_end f.function_end) (calm_fine c l fine) refl
        (body_run p other v at there call calls_run level f is (calmly ∷ fs) x left)
        (λ n fine2 x w left. procedure_end_run f.function_end x is.finish is.after b ops again is.ends n (calm l) (calm_fine c l fine) fs w left)))))

    -- from the test
    tested_run : (link : Option ℕ) (places : List Place) (w : World) (left : ℕ) (t : Bool) → not f.is_on_unit && nat_eq f.parameters (length places) ≡ t
        → Reaches p number u at c (resume (if t then machine.calls other f.head.number block link places (frame p number u b ops l) fs w else faulty w) left) l (returns p number u b ops fs) fs
        (activates_in p.greatest call level other f link places w left)
    tested_run None places w left t e = record { by = tt }
    tested_run (Some link) places w left true e =
        subst (λ t. Reaches p number u at c (resume (machine.calls other f.head.number block (Some link) places (frame p number u b ops l) fs w) left) l (returns p number u b ops fs) fs
        (if t then effect.unless_full (procedure_run p.greatest call level other f link places) w left else Lost)) (sym e) (activation_run false link places w left)
    tested_run (Some link) places w left false e =
        subst (λ t. Reaches p number u at c (resume (faulty w) left) l (returns p number u b ops fs) fs
        (if t then effect.unless_full (procedure_run p.greatest call level other f link places) w left else Lost)) (sym e) (record { by = tt })

    -- from the call
    found_run : (before : List Argument) (w : World) (left : ℕ)
        → Reaches p number u at c (resume (machine.called_with other f.head.number block (length before) (places_off (length before) [] (arguments_above before ops))
        (frame p number u b (arguments_above before ops) l) fs w) left) l
        (returns p number u b ops fs) fs (activates_in p.greatest call level other f (static_link other f.parent w) (in_order (given_places before) []) w left)
    found_run before w left =
        let places = in_order (given_places before) [] in
        let here = frame p number u b (arguments_above before ops) l in
        let count : length before ≡ length places = let e = as_long (given_places before) [] in let n = length-map before given_place in omega arith in
        let same =
        ap (λ x. resume (machine.called_with other f.head.number block (length before) x here fs w) left) (places_come_off before [] ops)
        ∙ ap (λ n. resume (if is_procedure (kind_of_procedure f) && nat_eq f.parameters n then machine.calls other f.head.number block (link_of other f.parent w) places (frame p number u b ops l) fs w else faulty w) left) count
        ∙ ap (λ k. resume (if k && nat_eq f.parameters (length places) then machine.calls other f.head.number block (link_of other f.parent w) places (frame p number u b ops l) fs w else faulty w) left)
        (kinds_same f.is_on_unit)
        ∙ ap (λ x. resume (if not f.is_on_unit && nat_eq f.parameters (length places) then machine.calls other f.head.number block x places (frame p number u b ops l) fs w else faulty w) left)
        (links_same p other v at f.parent w) in
        subst (λ s. Reaches p number u at c s l (returns p number u b ops fs) fs (activates_in p.greatest call level other f (static_link other f.parent w) places w left)) (sym same)
        (tested_run (static_link other f.parent w) places w left (not f.is_on_unit && nat_eq f.parameters (length places)) refl)

-- where the unit of a number of a program stands among its code
abbrev pub IsThere : List TypedUnit → List Name → (Label → ℕ) → (number : ℕ) → Option TypedUnit → List UnitCode → (place : ℕ) → Type 0
IsThere program names at number None us k = Unit
IsThere program names at number (Some t) us k = (u : UnitCode) × (slice_get us k ≡ Some u) × UnitStands program names at number t u

unit_after : (program : List TypedUnit) (names : List Name) (at : Label → ℕ) (from : ℕ) (ts : List TypedUnit) (us : List UnitCode) (k number : ℕ) → number ≡ from + k
    → UnitsStand program names at from ts us → IsThere program names at number (slice_get ts k) us k
unit_after program names at from [] us zero number is stand = tt
unit_after program names at from [] us (suc k) number is stand = tt
unit_after program names at from (t ∷ ts) [] k number is stand = absurd stand
unit_after program names at from (t ∷ ts) (u ∷ us) zero number is stand =
    let first : from ≡ number = omega (arith, is) in
    (u, refl, subst (λ n. UnitStands program names at n t u) first stand.0)
unit_after program names at from (t ∷ ts) (u ∷ us) (suc k) number is stand =
    after (slice_get ts k) (unit_after program names at (suc from) ts us k number (omega (arith, is)) stand.1)
  where
    after : (o : Option TypedUnit) → IsThere program names at number o us k → IsThere program names at number o (u ∷ us) (suc k)
    after None h = tt
    after (Some t) h = (h.0, h.1, h.2)

pub unit_there : (program : List TypedUnit) (names : List Name) (at : Label → ℕ) (ts : List TypedUnit) (us : List UnitCode) (k : ℕ) → UnitsStand program names at 0 ts us
    → IsThere program names at k (slice_get ts k) us k
unit_there program names at ts us k stand = unit_after program names at 0 ts us k k (omega arith) stand

-- a global of a unit, and its code
abbrev HasCode : List TypedUnit → List Name → Option Global → List programs.GlobalCode → ℕ → Type 0
HasCode program names None gs n = Unit
HasCode program names (Some x) gs n = (g : programs.GlobalCode) × (slice_get gs n ≡ Some g) × GlobalStands program names x g

global_there : (program : List TypedUnit) (names : List Name) (xs : List Global) (gs : List programs.GlobalCode) (n : ℕ) → GlobalsStand program names xs gs → HasCode program names (slice_get xs n) gs n
global_there program names [] gs zero stand = tt
global_there program names [] gs (suc n) stand = tt
global_there program names (x ∷ xs) [] n stand = absurd stand
global_there program names (x ∷ xs) (g ∷ gs) zero stand = (g, refl, stand.0)
global_there program names (x ∷ xs) (g ∷ gs) (suc n) stand = after (slice_get xs n) (global_there program names xs gs n stand.1)
  where
    after : (o : Option Global) → HasCode program names o gs n → HasCode program names o (g ∷ gs) (suc n)
    after None h = tt
    after (Some x) h = (h.0, h.1, h.2)

-- calls in a program
module _ (p : Program) (units : List TypedUnit) (names : List Name) (at : Label → ℕ) (stand : UnitsStand units names at 0 units p.units) where
  -- those of each unit
  abbrev AllRun : (level : ℕ) → Type 0
  AllRun level =
      (number : ℕ) (u : UnitCode) → slice_get p.units number ≡ Some u → (t : TypedUnit) (is : UnitStands units names at number t u)
      → CallsRun p number u at (calls p.greatest units level number t)

  module _ (level : ℕ) (run : AllRun level) (number : ℕ) (u : UnitCode) (there : slice_get p.units number ≡ Some u) (t : TypedUnit) (is : UnitStands units names at number t u)
      (before : List Argument) (c : Context) (b : ℕ) (ops : List Operand) (l : Locals) (fs : List Frame) (fine : Fine c l) (w : World) (left : ℕ) where
    abbrev Does : Move → Effect (Option Value) → Type 0
    Does m o = Reaches p number u at c (resume m left) l (returns p number u b ops fs) fs o

    abbrev here : Frame
    here = frame p number u b (arguments_above before ops) l

    abbrev places : List Place
    places = in_order (given_places before) []

    -- of a procedure of the unit
    inside_run : (block : ℕ) → Does (called block (length before) (slice_get u.blocks block) here fs w)
        (activates p.greatest (calls p.greatest units level number t) level number (procedure_in t.procedures block) places w left)
    inside_run block = by (procedure_in t.procedures block) (procedure_there p number u at t.procedures block is.procedures)
      where
        call : Calls
        call = calls p.greatest units level number t

        by : (o : Option TypedProcedure) → Found p number u at block o
            → Does (called block (length before) (slice_get u.blocks block) here fs w) (activates p.greatest call level number o places w left)
        by None found = record { by = tt }
        by (Some f) found =
            subst (λ k. Does (called k (length before) (slice_get u.blocks k) here fs w) (activates p.greatest call level number (Some f) places w left)) found.0
            (subst (λ x. Does (called f.head.number (length before) x here fs w) (activates p.greatest call level number (Some f) places w left)) (sym found.1.there)
            (found_run p number u at number u there call (run number u there t is) level f found.1 c b ops l fine fs before w left))

    -- of the external procedure of a unit
    outer_run : (k : ℕ) (s : TypedUnit) (v : UnitCode) → slice_get p.units k ≡ Some v → (stands : UnitStands units names at k s v)
        → Does (machine.called_outside k (length before) (slice_get v.blocks 0) here fs w)
        (activates_outer p.greatest (calls p.greatest units level k s) level k (procedure_in s.procedures 0) places w left)
    outer_run k s v found stands = by (procedure_in s.procedures 0) (procedure_there p k v at s.procedures 0 stands.procedures)
      where
        call : Calls
        call = calls p.greatest units level k s

        by : (o : Option TypedProcedure) → Found p k v at 0 o
            → Does (machine.called_outside k (length before) (slice_get v.blocks 0) here fs w) (activates_outer p.greatest call level k o places w left)
        by None has = record { by = tt }
        by (Some f) has =
            let block = code p k v at found call (run k v found s stands) level f has.1 in
            subst (λ x. Does (machine.called_outside k (length before) x here fs w) (activates_outer p.greatest call level k (Some f) places w left))
            (sym (ap (slice_get v.blocks) (sym has.0) ∙ has.1.there))
            (subst (λ n. Does (if is_external f.parent then machine.called_with k n block (length before) (places_off (length before) [] (arguments_above before ops)) here fs w else faulty w)
            (activates_outer p.greatest call level k (Some f) places w left)) has.0
            (tested (f.parent) refl))
          where
            way : Move
            way = machine.called_with k f.head.number (code p k v at found call (run k v found s stands) level f has.1) (length before) (places_off (length before) [] (arguments_above before ops)) here fs w

            what : Option ℕ → Effect (Option Value)
            what link = activates_in p.greatest call level k f link places w left

            tested : (parent : Option ℕ) → f.parent ≡ parent → Does (if is_external f.parent then way else faulty w) (if is_external f.parent then what (Some 0) else Lost)
            tested None e =
                subst (λ x. Does (if is_external x then way else faulty w) (if is_external x then what (Some 0) else Lost)) (sym e)
                (subst (λ x. Does way (what (static_link k x w))) e
                (found_run p number u at k v found call (run k v found s stands) level f has.1 c b ops l fine fs before w left))
            tested (Some parent) e =
                subst (λ x. Does (if is_external x then way else faulty w) (if is_external x then what (Some 0) else Lost)) (sym e) (record { by = tt })

    -- of an entry
    outside_run : (n : ℕ) → Does (machine.called_entry p.units (length before) (slice_get u.globals n) here fs w)
        (activates_entry p.greatest units (calls p.greatest units level) level (entry_unit units (slice_get t.globals n)) places w left)
    outside_run n = by (slice_get t.globals n) (global_there units names t.globals u.globals n is.globals)
      where
        unit_run : (k : ℕ) (o : Option TypedUnit) → IsThere units names at k o p.units k
            → Does (machine.called_unit k (slice_get p.units k) (length before) here fs w) (activates_unit p.greatest (calls p.greatest units level) level k o places w left)
        unit_run k None h = record { by = tt }
        unit_run k (Some s) h =
            subst (λ x. Does (machine.called_unit k x (length before) here fs w) (activates_unit p.greatest (calls p.greatest units level) level k (Some s) places w left)) (sym h.1)
            (outer_run k s h.0 h.1 h.2)

        by : (o : Option Global) → HasCode units names o u.globals n
            → Does (machine.called_entry p.units (length before) (slice_get u.globals n) here fs w) (activates_entry p.greatest units (calls p.greatest units level) level (entry_unit units o) places w left)
        by None h = record { by = tt }
        by (Some (OwnVariable kind x)) h = record { by = tt }
        by (Some (ExternalVariable name kind x)) h = record { by = tt }
        by (Some (EntryPoint name signature)) h =
            subst (λ g. Does (machine.called_entry p.units (length before) g here fs w) (activates_entry p.greatest units (calls p.greatest units level) level (unit_named units name) places w left))
            (sym (h.1 ∙ ap Some h.2.is))
            (subst (λ o. Does (machine.called_unit h.2.unit (slice_get p.units h.2.unit) (length before) here fs w) (activates_entry p.greatest units (calls p.greatest units level) level o places w left))
            (sym h.2.named)
            (unit_run h.2.unit (slice_get units h.2.unit) (unit_there units names at units p.units h.2.unit stand)))

  -- a condition that is raised while a frame waits
  module _ (level : ℕ) (run : AllRun level) (number : ℕ) (u : UnitCode) (c : Context) (b : ℕ) (ops : List Operand) (l : Locals) (again : Bool) (fs : List Frame) (fine : Fine c l)
      (w : World) (left : ℕ) where
    abbrev Takes : Move → Effect (Option Value) → Type 0
    Takes m o = Reaches p number u at c (resume m left) l (resumes p number u b ops again fs) fs o

    abbrev waits : Frame
    waits = waiting p number u b ops l again

    -- the ON-unit of a unit that stands
    block_run : (h : Handler) (t : TypedUnit) (v : UnitCode) → slice_get p.units h.unit ≡ Some v → (is : UnitStands units names at h.unit t v)
        → Takes (machine.runs_block h (slice_get v.blocks h.block) waits fs w)
        (runs_block p.greatest (calls p.greatest units level h.unit t) level h (procedure_in t.procedures h.block) w left)
    block_run h t v there is = by (procedure_in t.procedures h.block) (procedure_there p h.unit v at t.procedures h.block is.procedures)
      where
        call : Calls
        call = calls p.greatest units level h.unit t

        by : (o : Option TypedProcedure) → Found p h.unit v at h.block o
            → Takes (machine.runs_block h (slice_get v.blocks h.block) waits fs w) (runs_block p.greatest call level h o w left)
        by None found = record { by = tt }
        by (Some f) found =
            let body = code p h.unit v at there call (run h.unit v there t is) level f found.1 in
            let there_too : slice_get v.blocks h.block ≡ Some body = ap (slice_get v.blocks) (sym found.0) ∙ found.1.there in
            subst (λ x. Takes (machine.runs_block h x waits fs w) (runs_block p.greatest call level h (Some f) w left)) (sym there_too)
            (subst (λ k. Takes (machine.calls h.unit k body (Some h.link) [] waits fs w) (runs_block p.greatest call level h (Some f) w left)) found.0
            (activation_run p number u at h.unit v there call (run h.unit v there t is) level f found.1 c b ops l fine fs again h.link [] w left))

    pub raised_run : (k : Condition) (o : Option Handler) → Takes (raises p k o waits fs w) (raised_in p.greatest units (calls p.greatest units level) level k o w left)
    raised_run k None = record { by = stays p _ }
    raised_run k (Some h) = by (slice_get units h.unit) (unit_there units names at units p.units h.unit stand)
      where
        by : (o : Option TypedUnit) → IsThere units names at h.unit o p.units h.unit
            → Takes (machine.runs_on_unit h (slice_get p.units h.unit) waits fs w) (runs_on_unit p.greatest (calls p.greatest units level) level h o w left)
        by None is = record { by = tt }
        by (Some t) is =
            subst (λ x. Takes (machine.runs_on_unit h x waits fs w) (runs_on_unit p.greatest (calls p.greatest units level) level h (Some t) w left)) (sym is.1)
            (block_run h t is.0 is.1 is.2)

  pub calls_run : (level : ℕ) → AllRun level
  calls_run zero number u there t is =
      record {
        procedure = λ callee before c b ops l fs fine w left. record { by = tt };
        conditions = λ k c b ops l again fs fine w left. record { by = tt };
      }
  calls_run (suc level) number u there t is =
      record {
        procedure = λ callee before c b ops l fs fine w left. by (calls_run level) callee before c b ops l fs fine w left;
        conditions = λ k c b ops l again fs fine w left. raised_run level (calls_run level) number u c b ops l again fs fine w left k (handler k w.activations);
      }
    where
      by : AllRun level → (callee : Callee) (before : List Argument) (c : Context) (b : ℕ) (ops : List Operand) (l : Locals) (fs : List Frame) (fine : Fine c l) (w : World) (left : ℕ)
          → Reaches p number u at c (resume (act p u (Some (call_of callee (length before))) (frame p number u b (arguments_above before ops) l) fs w) left) l (returns p number u b ops fs) fs
          (called_in p.greatest units (calls p.greatest units level) level number t callee (in_order (given_places before) []) w left)
      by run (OfBlock block) before c b ops l fs fine w left = inside_run level run number u there t is before c b ops l fs fine w left block
      by run (OfEntry n) before c b ops l fs fine w left = outside_run level run number u there t is before c b ops l fs fine w left n
