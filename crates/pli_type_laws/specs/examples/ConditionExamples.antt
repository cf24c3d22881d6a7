-- Worked examples of ON, REVERT and SIGNAL, and of where the GOTO of an ON-unit leads.
use Rattle.std.specs.Prelude.{◌≡◌, ◌+◌, ℕ, true, Some, None, List, [], ◌∷◌, codes, Result, Ok, Err}
use Rattle.pli_base.specs.Statements.{Statement, Numbered, Begin, Do, On, Revert, Signal, Goto}
use Rattle.pli_base.specs.Statements.{Statements}
use Rattle.pli_base.specs.declared.code.Code.TheVariants.{BadGoto}
use Rattle.pli_base.specs.declared.statement.Condition.TheVariants.{FixedOverflow}
use Rattle.pli_base.specs.declared.token.Fault.{Fault}
use Rattle.pli_type_rules.specs.Checked.{in_unit, first_inside}
use Rattle.pli_type_rules.specs.Names.{ALabel}
use Rattle.pli_type_rules.specs.StatementTyping.{WithProcedures, statements_typed}
use Rattle.pli_type_laws.specs.examples.ControlExamples.{head}
use Rattle.pli_type_laws.specs.examples.ExampleTrees.{called, no_tree, null, one, unit_of}
use Rattle.pli_type_laws.specs.examples.UnitExamples.{all_of, body_of}
use Rattle.pli_type_tree.specs.TypedTree as typed
use Rattle.pli_type_tree.specs.TypedTree.{TypedProcedure, TypedStatements, NoStatement, StatementThen}

-- `L: ;` with this number at these tokens
abbrev pub labelled : (number at : ℕ) → Statement
labelled number at = Numbered number (Some (called (codes "L") at)) (at + 2) (body_of (null number at))

-- `ON FOFL GOTO L;` with this number at these tokens
abbrev pub leaving : (number at : ℕ) → Statement
leaving number at =
    Numbered number None at
    (On FixedOverflow (Numbered (number + 1) None (at + 2) (Goto (called (codes "L") (at + 3)))))

-- an ON-unit of one statement
abbrev pub unit_typed : (parent number statement : ℕ) → typed.TypedStatement → TypedProcedure
unit_typed parent number statement unit = record {
  is_on_unit = true;
  head = head number statement 0;
  parent = Some parent;
  parameters = 0;
  function_end = None;
  statements = StatementThen unit NoStatement;
}

-- L: ; ON FOFL GOTO L; SIGNAL FOFL; REVERT FOFL;
abbrev pub with_unit : Statements
with_unit =
    all_of (labelled 2 4 ∷ leaving 3 7 ∷ Numbered 5 None 12 (Signal FixedOverflow)
    ∷ Numbered 6 None 15 (Revert FixedOverflow) ∷ [])

-- DO; L: ; ON FOFL GOTO L; END;
abbrev pub in_a_group : Statements
in_a_group = all_of (Numbered 2 None 4 (Do None (all_of (labelled 3 6 ∷ leaving 4 9 ∷ [])) 6) ∷ [])

-- DO; L: ; BEGIN; ON FOFL GOTO L; END; END;
abbrev pub in_a_block : Statements
in_a_block =
    all_of (Numbered 2 None 4 (Do None (all_of (labelled 3 6
    ∷ Numbered 4 None 9 (Begin (all_of (leaving 5 11 ∷ [])) 7) ∷ [])) 8) ∷ [])

-- what stands in M, where the name at a token means the label of a statement
abbrev pub typed_with : (at statement : ℕ) → Statements → Result (WithProcedures TypedStatements) (List Fault)
typed_with at statement list =
    statements_typed (unit_of no_tree ((at, ALabel statement) ∷ [])) (in_unit None list) first_inside list

-- An ON-unit stands among the procedures. Its GOTO leads to no label in a group of the block around, but to
-- one in a group that is outside of this block
abbrev pub UnitsAreTyped : Type 0
UnitsAreTyped =
    (typed_with 10 2 with_unit
    ≡ Ok (record {
      part = StatementThen (typed.Statement 2 typed.Null)
          (StatementThen (typed.Statement 3 (typed.On FixedOverflow 1))
          (StatementThen (typed.Statement 5 (typed.Signal FixedOverflow))
          (StatementThen (typed.Statement 6 (typed.Revert FixedOverflow)) NoStatement)));
      procedures = unit_typed 0 1 3 (typed.Statement 4 (typed.Goto 1 2)) ∷ [];
    }))
    × (typed_with 12 3 in_a_group ≡ Err (one BadGoto 12))
    × (typed_with 14 3 in_a_block
    ≡ Ok (record {
      part = StatementThen (typed.Statement 2 (typed.Group
          (StatementThen (typed.Statement 3 typed.Null)
          (StatementThen (typed.Statement 4 (typed.Begin (head 1 4 0)
          (StatementThen (typed.Statement 5 (typed.On FixedOverflow 2)) NoStatement))) NoStatement))))
          NoStatement;
      procedures = unit_typed 1 2 5 (typed.Statement 6 (typed.Goto 2 3)) ∷ [];
    }))
