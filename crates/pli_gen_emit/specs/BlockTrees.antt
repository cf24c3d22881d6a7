-- The blocks of a unit, with what they execute, in the order of their numbers (own).
use Rattle.std.specs.Prelude.{ℕ, suc, nat_eq, Bool, Option, Some, None, List, [], ◌∷◌, ◌++◌, length}
use Rattle.std.specs.List.{filter, flat_map, range_with_len}
use Rattle.pli_program.specs.Kinds.{BlockKind, BeginBlock}
use Rattle.pli_type_tree.specs.Blocks.{kind_of_procedure}
use Rattle.pli_type_tree.specs.TypedTree.{BlockHead, TypedStatement, Statement, Form, If, Begin, Group}
use Rattle.pli_type_tree.specs.TypedTree.{While, Iterate, OtherWise, NoElse, Else, TypedStatements, NoStatement}
use Rattle.pli_type_tree.specs.TypedTree.{StatementThen, TypedProcedure, TypedUnit, TypedArguments, NoArgument}
use Rattle.pli_type_tree.specs.TypedTree.{ByPlace, ByDummy, ByString}

-- how many arguments there are
abbrev pub argument_count : TypedArguments → ℕ
argument_count NoArgument = 0
argument_count (ByPlace variable more) = suc (argument_count more)
argument_count (ByDummy description value more) = suc (argument_count more)
argument_count (ByString form value more) = suc (argument_count more)

-- a block of a unit with what it executes
pub record BlockTree : Type 0 where
  pub kind : BlockKind
  pub parent : Option ℕ
  pub parameters : ℕ
  pub head : BlockHead
  pub function_end : Option ℕ
  pub statements : TypedStatements

-- a BEGIN block, in the block of a number
abbrev pub begin_block : (parent : ℕ) → BlockHead → TypedStatements → BlockTree
begin_block parent head statements = record {
  kind = BeginBlock;
  parent = Some parent;
  parameters = 0;
  head = head;
  function_end = None;
  statements = statements;
}

-- the block of a procedure or an ON-unit
abbrev pub procedure_block : TypedProcedure → BlockTree
procedure_block f = record {
  kind = kind_of_procedure f;
  parent = f.parent;
  parameters = f.parameters;
  head = f.head;
  function_end = f.function_end;
  statements = f.statements;
}

-- the BEGIN blocks inside a statement of a block
abbrev mutual
  pub blocks_in : (parent : ℕ) → TypedStatement → List BlockTree
  blocks_in parent (Statement number form) = blocks_of_form parent form

  -- those inside a form: a BEGIN block itself, and then those inside it
  pub blocks_of_form : (parent : ℕ) → Form → List BlockTree
  blocks_of_form parent (If condition consequence alternative) =
      blocks_in parent consequence ++ blocks_of_else parent alternative
  blocks_of_form parent (Begin head statements) =
      begin_block parent head statements ∷ blocks_among head.number statements
  blocks_of_form parent (Group statements) = blocks_among parent statements
  blocks_of_form parent (While condition statements) = blocks_among parent statements
  blocks_of_form parent (Iterate iteration statements) = blocks_among parent statements
  blocks_of_form parent form = []

  -- those inside an ELSE
  pub blocks_of_else : (parent : ℕ) → OtherWise → List BlockTree
  blocks_of_else parent NoElse = []
  blocks_of_else parent (Else statement) = blocks_in parent statement

  -- those inside the statements of a list
  pub blocks_among : (parent : ℕ) → TypedStatements → List BlockTree
  blocks_among parent NoStatement = []
  blocks_among parent (StatementThen first more) = blocks_in parent first ++ blocks_among parent more

-- the block of a procedure or an ON-unit, and those inside it
abbrev pub blocks_of_procedure : TypedProcedure → List BlockTree
blocks_of_procedure f = procedure_block f ∷ blocks_among f.head.number f.statements

-- a block has this number
abbrev pub has_number : ℕ → BlockTree → Bool
has_number n b = nat_eq b.head.number n

-- blocks in the order of their numbers, which are counted from 0
abbrev pub by_number : List BlockTree → List BlockTree
by_number bs = flat_map (λ n. filter (has_number n) bs) (range_with_len 0 (length bs))

-- the blocks of a unit by their numbers
abbrev pub blocks_of : TypedUnit → List BlockTree
blocks_of u = by_number (flat_map blocks_of_procedure u.procedures)
