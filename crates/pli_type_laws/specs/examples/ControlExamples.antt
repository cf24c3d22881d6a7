-- Worked examples of groups, calls, returns and blocks: their faults, and their typed forms.
use Rattle.std.specs.Prelude.{◌≡◌, ℕ, false, Option, Some, None, List, [], ◌∷◌, codes}
use Rattle.std.specs.Prelude.{Ok}
use Rattle.pli_base.specs.Statements.{Range, To, Repeat, Iterate, Statement, Numbered, Do}
use Rattle.pli_base.specs.Statements.{Call, Goto, Return, Begin, Procedure, Statements, Ended, Before}
use Rattle.pli_base.specs.Syntax.{Expression, Parenthesized, Reference, Named, Alone, Given}
use Rattle.pli_base.specs.Syntax.{Expressions, Empty, Listed}
use Rattle.pli_base.specs.declared.code.Code.TheVariants.{WrongOperandType, CannotAssign}
use Rattle.pli_base.specs.declared.code.Code.TheVariants.{WrongNumberOfArguments, WrongArgument}
use Rattle.pli_base.specs.declared.code.Code.TheVariants.{NotCallableHere, BadControlVariable}
use Rattle.pli_map.specs.ParameterTypes.{Stated}
use Rattle.pli_map.specs.Description.{FixedBinary}
use Rattle.pli_type_rules.specs.Checked.{in_unit, first_inside}
use Rattle.pli_type_rules.specs.ExpressionTypes.{with_one}
use Rattle.pli_type_rules.specs.Names.{NamedAs, AProcedure, ALabel}
use Rattle.pli_type_rules.specs.StatementTyping.{statements_typed}
use Rattle.pli_type_laws.specs.examples.ExampleTrees.{faults, one, form_of, called, alone_named, named, text}
use Rattle.pli_type_laws.specs.examples.ExampleTrees.{decimal, of_bits, null, a_number, held, no_tree}
use Rattle.pli_type_laws.specs.examples.ExampleTrees.{unit_of}
use Rattle.pli_type_laws.specs.examples.ExampleTrees.{x, n, i, a}
use Rattle.pli_type_tree.specs.TypedTree as typed
use Rattle.pli_type_tree.specs.TypedTree.{InSlot, OfBlock, Whole, BlockHead, NoArgument}
use Rattle.pli_type_tree.specs.TypedTree.{Fit, ByPlace, ByDummy, NoStatement, StatementThen}

-- `DO V = .. range; ; END;`, whose variable stands at token 1 and its `=` at 2
abbrev pub group : Reference → (first : Expression) → Option Range → Statement
group variable first range =
    Numbered 1 None 0 (Do (Some (Iterate variable 2 first range None)) (Before (null 2 9) Ended) 3)

-- TO alone
abbrev pub to : Expression → Option Range
to e = Some (To e None)

-- TO and BY take numbers; the variable is one where they stand, and has no subscripts
abbrev pub ControlVariables : Type 0
ControlVariables =
    -- DO X = '1'B TO 'A';
    (faults ((1, x) ∷ [])
    (group (alone_named (codes "X") 1) (of_bits (codes "1") 3) (to (text (codes "A") 5)))
    ≡ one WrongOperandType 5)
    -- DO X = 1 TO 2;
    × (faults ((1, x) ∷ []) (group (alone_named (codes "X") 1) (decimal 1 1 3) (to (decimal 2 1 5)))
    ≡ one BadControlVariable 1)
    -- DO X = 1;
    × (faults ((1, x) ∷ []) (group (alone_named (codes "X") 1) (decimal 1 1 3) None) ≡ one CannotAssign 2)
    -- DO X = '1'B REPEAT 1;
    × (faults ((1, x) ∷ [])
    (group (alone_named (codes "X") 1) (of_bits (codes "1") 3) (Some (Repeat (decimal 1 1 5))))
    ≡ one CannotAssign 5)
    -- DO A(1) = '1'B;
    × (faults ((1, a) ∷ [])
    (group (Named (called (codes "A") 1) (Given (Listed (decimal 1 1 3) Empty)) Alone) (of_bits (codes "1") 4)
    None) ≡ one BadControlVariable 1)
    -- DO I = 1 TO N;
    × (form_of ((1, i) ∷ (5, n) ∷ [])
    (group (alone_named (codes "I") 1) (decimal 1 1 3) (to (named (codes "N") 5)))
    ≡ Some (typed.Iterate (record {
      control = Whole (InSlot 0 2);
      conversion = typed.ByOperations (Fit (FixedBinary 31) ∷ []);
      start = a_number 1;
      range = typed.ToBy (held 1) None;
      condition = None;
      temporary = 0;
    }) (StatementThen (typed.Statement 2 typed.Null) NoStatement)))

-- S: PROC(P); DCL P FIXED BIN(31);
abbrev pub s : NamedAs
s = AProcedure (record {
  callee = OfBlock 1;
  parameters = Stated (FixedBinary 31) ∷ [];
  returned = None;
  area = None;
})

-- F, which RETURNS(FIXED BIN(31)) and has no parameter
abbrev pub f : NamedAs
f = AProcedure (record { callee = OfBlock 2; parameters = []; returned = Some (FixedBinary 31); area = None })

-- CALL S with these arguments, at token 0
abbrev pub call : List Expression → Statement
call given = Numbered 1 None 0 (Call (called (codes "S") 1) (Given (all_given given)))
  where
    all_given : List Expression → Expressions
    all_given [] = Empty
    all_given (e ∷ es) = Listed e (all_given es)

-- A variable of the very description is handed over itself, any other value in a dummy
abbrev pub CallsAreTyped : Type 0
CallsAreTyped =
    -- CALL S(I);
    (form_of ((1, s) ∷ (3, i) ∷ []) (call (named (codes "I") 3 ∷ []))
    ≡ Some (typed.Call (OfBlock 1) (ByPlace (Whole (InSlot 0 2)) NoArgument)))
    -- CALL S((I));
    × (form_of ((1, s) ∷ (4, i) ∷ []) (call (Parenthesized 3 (named (codes "I") 4) ∷ []))
    ≡ Some (typed.Call (OfBlock 1)
    (ByDummy (FixedBinary 31) (with_one (Fit (FixedBinary 31)) (held 2)) NoArgument)))
    -- CALL S(N);
    × (form_of ((1, s) ∷ (3, n) ∷ []) (call (named (codes "N") 3 ∷ []))
    ≡ Some (typed.Call (OfBlock 1)
    (ByDummy (FixedBinary 31) (with_one (Fit (FixedBinary 31)) (held 1)) NoArgument)))
    -- CALL S; with F in its place; CALL S('A'); CALL S(A); CALL F(1); CALL X;
    × (faults ((1, s) ∷ []) (call []) ≡ one WrongNumberOfArguments 1)
    × (faults ((1, f) ∷ []) (call []) ≡ one NotCallableHere 1)
    × (faults ((1, s) ∷ []) (call (text (codes "A") 3 ∷ [])) ≡ one WrongArgument 1)
    × (faults ((1, s) ∷ (3, a) ∷ []) (call (named (codes "A") 3 ∷ [])) ≡ one WrongArgument 1)
    × (faults ((1, f) ∷ []) (call (decimal 1 1 3 ∷ [])) ≡ one WrongNumberOfArguments 1)
    × (faults ((1, x) ∷ []) (call []) ≡ one NotCallableHere 1)

-- what stands in L of M: PROC; L: BEGIN; DO I = 1; GOTO L; END; BEGIN; END; END; P: PROC; RETURN; END; END;
abbrev pub inner : Statements
inner =
    Before (Numbered 3 None 5 (Do (Some (Iterate (alone_named (codes "I") 6) 7 (decimal 1 1 8) None None))
    (Before (Numbered 4 None 10 (Goto (called (codes "L") 11))) Ended) 5))
    (Before (Numbered 6 None 15 (Begin Ended 7)) Ended)

-- what stands in M
abbrev pub blocks : Statements
blocks =
    Before (Numbered 2 (Some (called (codes "L") 2)) 4 (Begin inner 8))
    (Before (Numbered 9 None 20 (Procedure (record {
      name = called (codes "P") 20;
      number = 9;
      parameters = [];
      options = [];
    }) (Before (Numbered 10 None 24 (Return None)) Ended) 11)) Ended)

-- a block without variables
abbrev pub head : (number statement temporaries : ℕ) → BlockHead
head number statement temporaries =
    record { number = number; statement = statement; variables = []; temporaries = temporaries }

-- GOTO leads to a label one link outward, the blocks are numbered in the order of the text, and a procedure
-- stands after those in it
abbrev pub BlocksAreTyped : Type 0
BlocksAreTyped =
    (statements_typed (unit_of no_tree ((6, i) ∷ (11, ALabel 2) ∷ [])) (in_unit None blocks) first_inside
    blocks
    ≡ Ok (record {
      part = StatementThen (typed.Statement 2 (typed.Begin (head 1 2 1)
          (StatementThen (typed.Statement 3 (typed.Iterate (record {
            control = Whole (InSlot 0 2);
            conversion = typed.ByOperations (Fit (FixedBinary 31) ∷ []);
            start = a_number 1;
            range = typed.Once;
            condition = None;
            temporary = 0;
          }) (StatementThen (typed.Statement 4 (typed.Goto 1 2)) NoStatement)))
          (StatementThen (typed.Statement 6 (typed.Begin (head 2 6 0) NoStatement)) NoStatement))))
          NoStatement;
      procedures = record {
        is_on_unit = false;
        head = head 3 9 0;
        parent = Some 0;
        parameters = 0;
        function_end = None;
        statements = StatementThen (typed.Statement 10 (typed.Return 0)) NoStatement;
      } ∷ [];
    }))
