-- The machine does what statements mean: a clause for each form.
use Rattle.std.specs.Prelude.{◌≡◌, ℕ, nat_eq, true, Option, Some, None, List, [], slice_get, refl}
use Rattle.std.proofs.Common.{ap, ◌∙◌, sym, subst}
use Rattle.std.proofs.lemmas.Bool.{and_parts, eqb-true}
use Rattle.pli_world.specs.Conditions.{reverted}
use Rattle.pli_world.specs.World.{World}
use Rattle.pli_program.specs.Program.{UnitCode, Program}
use Rattle.pli_machine_step.specs.Machine.{Locals, Frame, At, calm}
use Rattle.pli_type_tree.specs.TypedTree.{TypedExpression, TypedStatement, Statement, Form, Null, Assign, AssignString, AssignAggregate, AssignArea, EmptyArea, Put, Allocate, Free, If, Begin, Group, While, Iterate, Call, Goto, Return, ReturnValue, Stop, On, Revert, Signal, OtherWise, NoElse, Else, TypedStatements, NoStatement, StatementThen}
use Rattle.pli_meaning_tree.specs.Effects.{Label, Next, Returned, and_then}
use Rattle.pli_meaning_tree.specs.TreeMeaning.{Calls, condition, number_of, bears, as_list, does, does_form, does_else, does_from}
use Rattle.pli_meaning_tree.specs.Parts.{followed, chosen}
use Rattle.pli_meaning_simulation.specs.CodeStands.{Context, deeper, ConditionStands, StatementStands, FormStands, IfStands, ListStands}
use Rattle.pli_meaning_simulation.proofs.ReachesLemmas.{Fine, calm_kept, frame, flows, Reaches, gives, passes, goes_on, goes, begins}
use Rattle.pli_meaning_simulation.proofs.ExpressionsReach.{CallsRun}
use Rattle.pli_meaning_simulation.proofs.ControlReaches.{start_of, goto_run}
use Rattle.pli_meaning_simulation.proofs.FormsReach.{either, Runs, RunsCalm, begin_run, assign_run, assign_string_run, copy_run, area_run, empty_run, on_run, signal_run, put_run, call_run, return_run, guarded_run, choice_run, list_run, while_run}
use Rattle.pli_meaning_simulation.proofs.IterationsReach.{iterate_run}
use Rattle.pli_meaning_simulation.proofs.StorageReaches.{allocations_run, freeings_run}

-- a statement stands where the label that it bears leads
borne : (at : Label → ℕ) (unit : ℕ) (s : TypedStatement) (k : Label) → bears unit s k ≡ true → at (record { unit = unit; number = number_of s }) ≡ at k
borne at unit s k h =
    let both = and_parts (nat_eq unit k.unit) (nat_eq (number_of s) k.number) h in
    ap (λ k. at (record { unit = k; number = number_of s })) (eqb-true unit k.unit both.0)
    ∙ ap (λ n. at (record { unit = k.unit; number = n })) (eqb-true (number_of s) k.number both.1)

module _ (p : Program) (number : ℕ) (u : UnitCode) (at : Label → ℕ) (there : slice_get p.units number ≡ Some u) (call : Calls) (calls_run : CallsRun p number u at call) (level : ℕ) where
  mutual
    pub does_run : (s : TypedStatement) (block : ℕ) (c : Context) (a b : ℕ) → StatementStands u number at block s c a b → Runs p number u at there c (does p.greatest call number level block s) a b
    does_run (Statement n form) block c a b is l fine fs w left =
        begins p number u at there (does_form p.greatest call number level block n form) is.fst (calm_kept c l fine)
        (λ w left. form_run form block n c is.middle b is.snd (calm l) (calm_kept c l fine).fine refl fs w left) w left

    form_run : (form : Form) (block n : ℕ) (c : Context) (a b : ℕ) → FormStands u number at block n form c a b → RunsCalm p number u at there c (does_form p.greatest call number level block n form) a b
    form_run Null block n c a b is l fine none fs w left = passes p number u at is fine w left
    form_run (Assign target e) block n c a b is l fine none fs w left = assign_run p number u at there call calls_run level target e is l fine fs w left
    form_run (AssignString target e) block n c a b is l fine none fs w left = assign_string_run p number u at there call calls_run level target e is l fine fs w left
    form_run (AssignAggregate target source) block n c a b is l fine none fs w left = copy_run p number u at there call calls_run level target source is l fine fs w left
    form_run (AssignArea target source) block n c a b is l fine none fs w left = area_run p number u at there call calls_run level target source is l fine fs w left
    form_run (EmptyArea target) block n c a b is l fine none fs w left = empty_run p number u at there call calls_run level target is l fine fs w left
    form_run (Put skip items) block n c a b is l fine none fs w left = put_run p number u at there call calls_run level skip items is l fine fs w left
    form_run (Allocate items) block n c a b is l fine none fs w left = allocations_run p number u at there call calls_run level items is l fine fs w left
    form_run (Free items) block n c a b is l fine none fs w left = freeings_run p number u at there call calls_run level items is l fine fs w left
    form_run (If e consequence alternative) block n c a b is l fine none fs w left =
        if_run alternative block c a b e consequence is
        (λ x y is l fine fs w left. does_run consequence block c x y is l fine fs w left) l fine fs w left
    form_run (Begin head statements) block n c a b is l fine none fs w left =
        begin_run p number u at there block head (ListStands u number at head.number statements) (as_list level number statements (does_from p.greatest call number level head.number statements)) is
        (λ d x y is l fine fs w left. list_run p number u at there call calls_run level statements (does_from p.greatest call number level head.number statements)
        (λ start l fine fs w left. from_run statements head.number d x y is start l fine fs w left) l fine fs w left) l fine none fs w left
    form_run (Group statements) block n c a b is l fine none fs w left =
        list_run p number u at there call calls_run level statements (does_from p.greatest call number level block statements) (λ start l fine fs w left. from_run statements block c a b is start l fine fs w left) l fine fs w left
    form_run (While e statements) block n c a b is l fine none fs w left =
        while_run p number u at there call calls_run level n e (ListStands u number at block statements) (as_list level number statements (does_from p.greatest call number level block statements)) is.0 is.1
        (λ x y is l fine fs w left. list_run p number u at there call calls_run level statements (does_from p.greatest call number level block statements)
        (λ start l fine fs w left. from_run statements block (deeper c) x y is start l fine fs w left) l fine fs w left) l fine fs w left
    form_run (Iterate iteration statements) block n c a b is l fine none fs w left =
        iterate_run p number u at there call calls_run level n iteration (ListStands u number at block statements) (as_list level number statements (does_from p.greatest call number level block statements)) is
        (λ d x y is l fine fs w left. list_run p number u at there call calls_run level statements (does_from p.greatest call number level block statements)
        (λ start l fine fs w left. from_run statements block d x y is start l fine fs w left) l fine fs w left) l fine fs w left
    form_run (Call called arguments) block n c a b is l fine none fs w left = call_run p number u at there call calls_run level called arguments is l fine fs w left
    form_run (Goto outward label) block n c a b is l fine none fs w left = goto_run p number u at there outward (record { unit = number; number = label }) is l fine none fs w left
    form_run (Return outward) block n c a b is l fine none fs w left = gives p number u at (Returned outward None) w left fine (goes p number u at there is refl)
    form_run (ReturnValue outward e) block n c a b is l fine none fs w left = return_run p number u at there call calls_run level outward e is l fine fs w left
    form_run Stop block n c a b is l fine none fs w left = record { by = goes p number u at there is refl }
    form_run (On k unit_block) block n c a b is l fine none fs w left = on_run p number u at there k unit_block block is l fine fs w left
    form_run (Revert k) block n c a b is l fine none fs w left = gives p number u at Next (reverted k w) left fine (goes p number u at there is refl)
    form_run (Signal k) block n c a b is l fine none fs w left = signal_run p number u at there call calls_run level k is l fine fs w left

    if_run : (alternative : OtherWise) (block : ℕ) (c : Context) (a b : ℕ) (e : TypedExpression) (first : TypedStatement)
        → IfStands u number at block (ConditionStands u e) (StatementStands u number at block first c) alternative c a b
        → ((x y : ℕ) → StatementStands u number at block first c x y → Runs p number u at there c (does p.greatest call number level block first) x y)
        → Runs p number u at there c (λ w left. and_then (condition p.greatest call e w left) (λ t w left. chosen t (does p.greatest call number level block first) (does_else p.greatest call number level block alternative) w left)) a b
    if_run NoElse block c a b e first is part_run l fine fs w left =
        guarded_run p number u at there call calls_run level e (StatementStands u number at block first c) (does p.greatest call number level block first) is part_run l fine fs w left
    if_run (Else s) block c a b e first is part_run l fine fs w left =
        choice_run p number u at there call calls_run level e (StatementStands u number at block first c) (StatementStands u number at block s c) (does p.greatest call number level block first) (does p.greatest call number level block s) is part_run
        (λ x y is l fine fs w left. does_run s block c x y is l fine fs w left) l fine fs w left

    pub from_run : (ss : TypedStatements) (block : ℕ) (c : Context) (a b : ℕ) → ListStands u number at block ss c a b
        → (start : Option Label) (l : Locals) → Fine c l → (fs : List Frame) (w : World) (left : ℕ)
        → Reaches p number u at c (At (frame p number u (start_of p number u at a start) [] l) fs w left) l (flows p number u b fs) fs
        (does_from p.greatest call number level block ss start w left)
    from_run NoStatement block c a b is None l fine fs w left = passes p number u at is fine w left
    from_run NoStatement block c a b is (Some k) l fine fs w left = record { by = tt }
    from_run (StatementThen s more) block c a b is None l fine fs w left =
        goes_on p number u at {a = is.1.middle} {b = b} (does p.greatest call number level block s w left) (does_from p.greatest call number level block more None) (does_run s block c a is.1.middle is.1.fst l fine fs w left)
        (λ m k w left. from_run more block c is.1.middle b is.1.snd None m k.fine fs w left)
    from_run (StatementThen s more) block c a b is (Some k) l fine fs w left =
        either p number u at (bears number s k)
        (λ e. subst (λ x. Reaches p number u at c (At (frame p number u x [] l) fs w left) l (flows p number u b fs) fs
        (followed (does p.greatest call number level block s w left) (does_from p.greatest call number level block more None)))
        (sym is.0 ∙ borne at number s k e)
        (goes_on p number u at {a = is.1.middle} {b = b} (does p.greatest call number level block s w left) (does_from p.greatest call number level block more None) (does_run s block c a is.1.middle is.1.fst l fine fs w left)
        (λ m k w left. from_run more block c is.1.middle b is.1.snd None m k.fine fs w left)))
        (from_run more block c is.1.middle b is.1.snd (Some k) l fine fs w left)
