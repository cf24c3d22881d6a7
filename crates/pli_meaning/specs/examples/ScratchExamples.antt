-- A worked example of the whole way: the members of a first session, the module that a build from scratch
-- makes of them, and what its runs give.
use Rattle.std.specs.Prelude.{◌≡◌, true, None, pos, List, [], ◌∷◌, ◌++◌, replicate, codes}
use Rattle.pli_base.specs.Name.{Name}
use Rattle.pli_map.specs.Description.{FixedBinary}
use Rattle.pli_map.specs.ParameterTypes.{Stated}
use Rattle.pli_members.specs.Members.{Member}
use Rattle.pli_members.specs.declared.kind.MemberKind.TheVariants.{Source}
use Rattle.pli_run.specs.declared.ending.Ending.TheVariants.{Ended, OutOfSteps}
use Rattle.pli_operation.specs.declared.operation.Operation.TheVariants.{Add, ToCharacters}
use Rattle.pli_program.specs.Program.{Procedure}
use Rattle.pli_code.specs.CodeTables.{Deck}
use Rattle.pli_code.specs.Modules.{Module}
use Rattle.pli_code.specs.Versions.{written}
use Rattle.pli_machine_step.specs.ModuleRuns.{RunsTo}
use Rattle.pli_program.specs.declared.instruction.Instruction.TheVariants as op
use Rattle.pli_value.specs.Value.{Number}
use Rattle.pli_meaning.specs.Scratch.{Diagnosed, Made, scratch}

-- a member M, of these lines
abbrev pub member : List Name → List (Name × Member)
member lines = (codes "M", record { kind = Source; lines = lines; version = 5 }) ∷ []

-- one member, of five lines
abbrev pub first_members : List (Name × Member)
first_members =
    member
    (codes "M: PROC OPTIONS(MAIN);" ∷ codes "DCL X FIXED BIN(31);" ∷ codes "X = 2 + 3;" ∷ codes "PUT LIST(X);"
    ∷ codes "END M;" ∷ [])

-- its deck
abbrev pub first_deck : Deck
first_deck = record {
  version = written;
  name = codes "M";
  is_main = true;
  code = record {
    signature = record { parameters = []; result = None };
    descriptions = Stated (FixedBinary 31) ∷ [];
    templates = record { description = 0; initial = [] } ∷ [];
    values = Number (pos 2) ∷ Number (pos 3) ∷ [];
    globals = [];
    blocks = record {
      kind = Procedure;
      parent = None;
      parameters = 0;
      variables = 0 ∷ [];
      temporaries = 0;
      entry = 0;
      statement = 1;
    } ∷ [];
    instructions =
        op.Step 3 ∷ op.Local 0 0 ∷ op.Constant 0 ∷ op.Constant 1 ∷ op.Operate Add ∷ op.Fit 0 ∷ op.Store
        ∷ op.Step 4 ∷ op.Local 0 0 ∷ op.Load ∷ op.Operate (ToCharacters 14) ∷ op.Put ∷ op.Return 0 ∷ [];
  };
}

-- its module
abbrev pub first_module : Module
first_module = record {
  version = written;
  main = 0;
  externals = [];
  units = record { name = codes "M"; deck = first_deck; links = [] } ∷ [];
}

-- a build from scratch gives that module
abbrev pub FirstIsMade : Type 0
FirstIsMade = scratch first_members ≡ Made first_module

-- with three steps, the activation, the assignment and PUT, it prints the 5 in 14 columns and a blank,
-- and ends
abbrev pub RunsWithThree : Type 0
RunsWithThree =
    RunsTo first_module 3 (record { output = replicate 13 32 ++ codes "5 "; ending = Ended; column = 16 })

-- with two it prints nothing
abbrev pub RunsWithTwo : Type 0
RunsWithTwo = RunsTo first_module 2 (record { output = []; ending = OutOfSteps; column = 1 })

-- characters are not assigned to a bit: T5, at the line of `=`
abbrev pub TypesAreTold : Type 0
TypesAreTold =
    scratch
    (member (codes "M: PROC OPTIONS(MAIN);" ∷ codes "DCL X BIT(1);" ∷ codes "X" ∷ codes "= 'A'; END;" ∷ []))
    ≡ Diagnosed (codes "M M:4 T5 CANNOT ASSIGN" ++ 10 ∷ [])
