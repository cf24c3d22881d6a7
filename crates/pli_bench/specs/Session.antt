-- The session (own): what a command answers, and what it leaves.
use Rattle.std.specs.Prelude.{◌≡◌, ℕ, Bool, true, false, nat_eq, ◌⊎◌, Option, Some, None, List, [], ◌∷◌}
use Rattle.std.specs.Prelude.{◌++◌, codes, decimal, unwrap_or, if◌then◌else◌}
use Rattle.std.specs.List.{flat_map}
use Rattle.pli_base.specs.Name.{Name}
use Rattle.pli_members.specs.Members.{Store, Change, empty_store, lines_of, added, deleted, with_change}
use Rattle.pli_members.specs.Members as lines
use Rattle.pli_members.specs.Refusals.{refusal_of_add, refusal_of_delete, refusal_of_change}
use Rattle.pli_members.specs.declared.refusal.Refusal.{Refusal}
use Rattle.pli_members.specs.declared.refusal.Refusal.TheVariants.{NoSuchMember}
use Rattle.pli_machine_step.specs.Outcomes.{Outcome}
use Rattle.pli_ledger.specs.Kept.{Ledger, empty_ledger}
use Rattle.pli_ledger.specs.Refused.{IsRefused}
use Rattle.pli_ledger.specs.Work.{ledger_after}
use Rattle.pli_meaning.specs.Scratch.{Built, Diagnosed, Made, scratch, Means}
use Rattle.pli_code.specs.ModuleParts.{Module}
use Rattle.pli_commands.specs.Exchanges.{Exchange}
use Rattle.pli_commands.specs.Commands.{Command, Add, Delete, Insert, Replace, Remove, ListLines, ListMembers}
use Rattle.pli_commands.specs.Commands.{Build, ListWork, Dump, Run, Quit}
use Rattle.pli_commands.specs.CommandLines.{command_of}
use Rattle.pli_commands.specs.Dumps.{hex_from}
use Rattle.pli_deck_write.specs.ModuleBytes.{module_written}
use Rattle.pli_commands.specs.AnswerLines.{line, okay, no_memory, bad_command, not_built, refused}
use Rattle.pli_commands.specs.AnswerLines.{ending_line, numbered_lines, member_line}

-- the members, what is kept of their units, whether a module of them stands, and the steps of a bare RUN
pub record State : Type 0 where
  pub store : Store
  pub ledger : Ledger
  pub stands : Bool
  pub steps : ℕ

-- the output, a line end unless the next column is 1, and how the run ended
abbrev pub run_answer : Outcome → List ℕ
run_answer o = o.output ++ (if nat_eq o.column 1 then [] else 10 ∷ []) ++ ending_line o.ending

-- the diagnostics, or that a module stands
abbrev pub build_answer : Built → List ℕ
build_answer (Diagnosed text) = text ++ line (codes "NOT BUILT")
build_answer (Made m) = line (codes "BUILT")

-- a build gave a module
abbrev pub is_made : Built → Bool
is_made (Diagnosed text) = false
is_made (Made m) = true

-- nothing changes, and this is answered
abbrev pub Says : List ℕ → Exchange State → Type 0
Says words e = (e.answer ≡ words) × (e.after ≡ e.before)

-- the members were edited, and no module of them stands
abbrev pub edited : State → Store → State
edited s store = record s { store = store; stands = false }

-- no module of the members stands, and this is kept of their units
abbrev pub without_module : State → Ledger → State
without_module s ledger = record s { ledger = ledger; stands = false }

-- an edit is refused, and nothing changes, or is made
abbrev pub Edits : Option Refusal → Store → Exchange State → Type 0
Edits (Some r) store e = Says (refused r) e
Edits None store e = (e.answer ≡ okay) × (e.after ≡ edited e.before store)

-- the same of an edit that takes memory: where that is refused, nothing changes
abbrev pub EditsInMemory : Option Refusal → Store → Exchange State → Type 0
EditsInMemory (Some r) store e = Says (refused r) e
EditsInMemory None store e = Edits None store e ⊎ Says no_memory e

-- the lines of a member change, which takes memory
abbrev pub ChangesInMemory : Name → Change → Exchange State → Type 0
ChangesInMemory name change e =
    EditsInMemory (refusal_of_change e.before.store name change) (with_change e.before.store name change) e

-- what a build leaves: of each unit its expansion and its result are kept, and a module stands where it gave
-- one
abbrev pub left_by : Built → State → State
left_by b s = record s { ledger = ledger_after s.ledger s.store; stands = is_made b }

-- a build answers what a build from scratch of the members gives; where memory is refused, the members stay,
-- no module stands, and each thing that is kept is as before or as after the build
abbrev pub Builds : Exchange State → Type 0
Builds e =
    ((e.answer ≡ build_answer (scratch e.before.store.entries))
    × (e.after ≡ left_by (scratch e.before.store.entries) e.before))
    ⊎ ((e.answer ≡ no_memory)
    × ((ledger : Ledger) × IsRefused e.before.store e.before.ledger ledger
    × (e.after ≡ without_module e.before ledger)))

-- how many units the last build that was not refused has expanded and compiled
abbrev pub work_line : Ledger → List ℕ
work_line l = line (codes "EXPANDED " ++ decimal l.expanded ++ codes " COMPILED " ++ decimal l.compiled)

-- the bytes of the members' module are shown, if a module of them stands
abbrev pub Dumps : Bool → Exchange State → Type 0
Dumps false e = Says not_built e
Dumps true e =
    (m : Module) × (scratch e.before.store.entries ≡ Made m) × Says (hex_from 0 (module_written m) ++ okay) e

-- a run broke off: some first bytes of the output, a line end, and that memory was refused
pub record Breaks (output answer : List ℕ) : Type 0 where
  pub written : List ℕ
  pub left : List ℕ
  pub whole : output ≡ written ++ left
  pub says : answer ≡ written ++ 10 ∷ no_memory

-- a run prints and ends as the members' program does, if a module of them stands
abbrev pub Runs : Bool → ℕ → Exchange State → Type 0
Runs false n e = Says not_built e
Runs true n e =
    (o : Outcome) × Means e.before.store.entries n o × ((e.answer ≡ run_answer o) ⊎ Breaks o.output e.answer)
    × (e.after ≡ e.before)

-- the lines of a member, if there is one, are listed from 1 on
abbrev pub Lists : Option (List (List ℕ)) → Exchange State → Type 0
Lists None e = Says (refused NoSuchMember) e
Lists (Some lines) e = Says (numbered_lines 1 lines ++ okay) e

-- what a command may answer, and what it leaves
abbrev pub Obeys : Option Command → Exchange State → Type 0
-- no command
Obeys None e = Says bad_command e
-- ADD puts a member without lines among the others
Obeys (Some (Add name kind)) e =
    EditsInMemory (refusal_of_add e.before.store name) (added e.before.store name kind) e
-- DELETE takes a member away
Obeys (Some (Delete name)) e = Edits (refusal_of_delete e.before.store name) (deleted e.before.store name) e
-- INSERT puts a line after another
Obeys (Some (Insert name after text)) e = ChangesInMemory name (lines.Insert after text) e
-- REPLACE gives a line another text
Obeys (Some (Replace name number text)) e = ChangesInMemory name (lines.Replace number text) e
-- REMOVE takes lines away
Obeys (Some (Remove name first last)) e =
    Edits (refusal_of_change e.before.store name (lines.Remove first last))
    (with_change e.before.store name (lines.Remove first last)) e
-- LIST shows the lines of a member
Obeys (Some (ListLines name)) e = Lists (lines_of e.before.store name) e
-- MEMBERS shows what members there are
Obeys (Some ListMembers) e = Says (flat_map member_line e.before.store.entries ++ okay) e
-- BUILD answers the diagnostics, or makes a module
Obeys (Some Build) e = Builds e
-- LEDGER shows what the last build had to do
Obeys (Some ListWork) e = Says (work_line e.before.ledger) e
-- DUMP shows the bytes of the module
Obeys (Some Dump) e = Dumps e.before.stands e
-- RUN runs the module with so many steps, or as many as a bare RUN has
Obeys (Some (Run n)) e = Runs e.before.stands (unwrap_or n e.before.steps) e
-- QUIT changes nothing
Obeys (Some Quit) e = Says okay e

-- a command line is answered
abbrev pub Step : List ℕ → Exchange State → Type 0
Step text e = Obeys (command_of text) e

-- the command is QUIT
abbrev pub is_quit : Option Command → Bool
is_quit (Some Quit) = true
is_quit _ = false

-- the line ends the session
abbrev pub quits : List ℕ → Bool
quits text = is_quit (command_of text)

-- a workbench before its first command
abbrev pub opened : (steps : ℕ) → State
opened steps = record { store = empty_store 1; ledger = empty_ledger; stands = false; steps = steps }
