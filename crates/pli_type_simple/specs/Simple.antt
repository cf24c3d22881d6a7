-- Statements without statements in them.
use Rattle.std.specs.Prelude.{ℕ, Bool, List, Result, Ok}
use Rattle.pli_base.specs.Results.{◌>>=◌}
use Rattle.pli_base.specs.Statements as tree
use Rattle.pli_base.specs.Syntax.{Expression}
use Rattle.pli_base.specs.declared.token.Fault.{Fault}
use Rattle.pli_type_rules.specs.Names.{Naming}
use Rattle.pli_type_rules.specs.StatementTyping.{Surroundings, assignment, call_typed, goto_typed}
use Rattle.pli_type_rules.specs.StatementTyping.{return_typed}
use Rattle.pli_type_rules.specs.TypingSteps.{allocate_typed, free_typed, items}
use Rattle.pli_type_tree.specs.TypedTree as typed
use Rattle.pli_type_tree.specs.TypedTree.{Form}

-- PUT with its items
abbrev pub put_typed : Naming → (skip : Bool) → List Expression → Result Form Fault
put_typed n skip printed = do
  xs ← items n printed
  Ok (typed.Put skip xs)

-- such a statement, whose temporaries begin with this one; of one with statements in it nothing is asked here
abbrev pub simple_typed : Naming → Surroundings → (temporary at : ℕ) → tree.Body → Result Form Fault
simple_typed n s temporary at tree.Null = Ok typed.Null
simple_typed n s temporary at (tree.Declare declared) = Ok typed.Null
simple_typed n s temporary at (tree.Assign target equals value) = assignment n at target equals value
simple_typed n s temporary at tree.Stop = Ok typed.Stop
simple_typed n s temporary at (tree.Allocate list) = allocate_typed n temporary list
simple_typed n s temporary at (tree.Free list) = free_typed n list
simple_typed n s temporary at (tree.Call name arguments) = call_typed n name arguments
simple_typed n s temporary at (tree.Goto label) = goto_typed n s label
simple_typed n s temporary at (tree.Return value) = return_typed n s at value
simple_typed n s temporary at (tree.Put skip printed) = put_typed n skip printed
simple_typed n s temporary at (tree.Revert c) = Ok (typed.Revert c)
simple_typed n s temporary at (tree.Signal c) = Ok (typed.Signal c)
simple_typed n s temporary at other = Ok typed.Null
