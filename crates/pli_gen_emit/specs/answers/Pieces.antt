-- What the parts of the emitter answer.
use Rattle.std.specs.Prelude.{ℕ, ◌≡◌, List, [], ◌∷◌, ◌++◌, Option, Some, None, false, length}
use Rattle.pli_program.specs.Program.{Instruction}
use Rattle.pli_program.specs.declared.instruction.Instruction.TheVariants.{Store, Copy, FitToPlace}
use Rattle.pli_program.specs.declared.instruction.Instruction.TheVariants as op
use Rattle.pli_type_tree.specs.TypedTree.{Form, Assign, AssignAggregate, AssignArea, EmptyArea, Put, Begin}
use Rattle.pli_type_tree.specs.TypedTree.{Call, Goto, Return, ReturnValue, Stop, On, Revert, Signal, Allocate}
use Rattle.pli_type_tree.specs.TypedTree.{AssignString, Free, Iteration}
use Rattle.pli_gen_emit.specs.TreeTranslation.{BlockTree, place_after, block_code, place_code, value_code}
use Rattle.pli_gen_emit.specs.TreeTranslation.{skip_code, items_code, call_code}
use Rattle.pli_gen_emit.specs.TreeTranslation.{allocations_code, freeings_code}
use Rattle.pli_gen_emit.specs.TreeTranslation.{limit_test, while_test, guarded}
use Rattle.pli_gen_emit.specs.answers.Emitting.{emission, guard_landed}
use Rattle.pli_gen_emit.specs.declared.emitter.Emitter.{Emitter}
use Rattle.pli_gen_emit.specs.declared.iteration.Turn.{Turn}

-- the code of a form in which no other stands, at a place; that of another form apart
abbrev pub simple_code : Form → (at : ℕ) → List Instruction
simple_code (Assign target value) p = place_code target ++ value_code value ++ Store ∷ []
simple_code (AssignString target value) p = place_code target ++ value_code value ++ (FitToPlace ∷ Store ∷ [])
simple_code (AssignAggregate target source) p = place_code target ++ place_code source ++ Copy ∷ []
simple_code (AssignArea target source) p = place_code target ++ place_code source ++ op.AssignArea ∷ []
simple_code (EmptyArea target) p = place_code target ++ op.EmptyArea ∷ []
simple_code (Put skip items) p = skip_code skip ++ items_code items
simple_code (Begin head statements) p = op.Begin head.number ∷ []
simple_code (Call callee arguments) p = call_code callee arguments
simple_code (Goto outward label) p = op.Goto outward label ∷ []
simple_code (Return outward) p = op.Return outward ∷ []
simple_code (ReturnValue outward value) p = value_code value ++ op.ReturnValue outward ∷ []
simple_code Stop p = op.Stop ∷ []
simple_code (On condition block) p = op.On condition block ∷ []
simple_code (Revert condition) p = op.Revert condition ∷ []
simple_code (Signal condition) p = op.Signal condition ∷ []
simple_code (Allocate items) p = allocations_code items p
simple_code (Free items) p = freeings_code items
simple_code form p = []

-- where the jump after a test stands, if there is a test
abbrev pub jump_place : (test : Option (List Instruction)) → (at : ℕ) → Option ℕ
jump_place None p = None
jump_place (Some test) p = Some (place_after test p)

-- where the tests of an iteration stand, and the jumps out of it
pub record IsTurn (i : Iteration) (p : ℕ) (turn : Turn) : Type 0 where
  pub place : turn.place ≡ p
  pub limit : turn.limit ≡ jump_place (limit_test i) p
  pub condition : turn.condition
      ≡ jump_place (while_test i.condition) (place_after (guarded (limit_test i) 0) p)

-- both jumps lead to a target
abbrev pub LandsTurn : (old new : Emitter) → Turn → (target : ℕ) → Type 0
LandsTurn old new turn target =
    (new.tables.lacks_memory ≡ old.tables.lacks_memory)
    × (emission new ≡ guard_landed turn.condition target (guard_landed turn.limit target (emission old)))

-- the place of the next instruction was noted, unless memory was wanting for it or before
abbrev pub NotesEntry : (old new : Emitter) → (before after : List ℕ) → Type 0
NotesEntry old new before after =
    (new.tables.lacks_memory ≡ false → old.tables.lacks_memory ≡ false) × (emission new ≡ emission old)
    × (new.tables.lacks_memory ≡ false → after ≡ before ++ length old.code.items ∷ [])

-- the first instructions of blocks whose code stands one after the other
abbrev pub entries_of : List BlockTree → (at : ℕ) → List ℕ
entries_of [] p = []
entries_of (b ∷ bs) p = p ∷ entries_of bs (place_after (block_code b p) p)
