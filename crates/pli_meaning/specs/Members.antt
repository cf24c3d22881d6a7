-- The laws, of members (own): what a build from scratch gives does what the source means.
use Rattle.std.specs.Prelude.{◌≡◌, ◌≢◌, ℕ, ◌+◌, List}
use Rattle.pli_base.specs.Name.{Name}
use Rattle.pli_members.specs.Members.{Member}
use Rattle.pli_machine_step.specs.Runs.{Outcome}
use Rattle.pli_code.specs.Modules.{Module}
use Rattle.pli_machine_step.specs.ModuleRuns.{RunsTo}
use Rattle.pli_run.specs.declared.ending.Ending.TheVariants.{MachineFault}
use Rattle.pli_machine_step.specs.laws.Laws.{GoesOn}
use Rattle.pli_meaning.specs.Scratch.{Made, scratch, Means}

-- with so many steps the members mean something, which the module's run gives, and which is no fault of the
-- machine
pub record HasMeaning (entries : List (Name × Member)) (m : Module) (steps : ℕ) : Type 0 where
  pub outcome : Outcome
  pub means : Means entries steps outcome
  pub runs : RunsTo m steps outcome
  pub no_fault : outcome.ending ≢ MachineFault

-- the module that members give does, with n steps, what the members mean
abbrev pub MembersSimulate : Type 0
MembersSimulate =
    (entries : List (Name × Member)) (m : Module) → scratch entries ≡ Made m → (n : ℕ)
    → HasMeaning entries m n

-- members mean at most one thing
abbrev pub OneMeaning : Type 0
OneMeaning =
    (entries : List (Name × Member)) (n : ℕ) (o p : Outcome) → Means entries n o → Means entries n p → o ≡ p

-- with a step more they go on
abbrev pub MembersGrow : Type 0
MembersGrow =
    (entries : List (Name × Member)) (m : Module) → scratch entries ≡ Made m → (n : ℕ) (o p : Outcome)
    → Means entries n o → Means entries (n + 1) p → GoesOn o p
