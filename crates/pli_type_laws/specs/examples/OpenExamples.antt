-- Worked examples of parameters in which a `*` stands.
use Rattle.std.specs.Prelude.{◌≡◌, ℕ, true, Some, None, [], ◌∷◌, codes}
use Rattle.pli_base.specs.Statements.{Statement, Numbered, Call}
use Rattle.pli_base.specs.Syntax.{Expression, Referred, Parenthesized, Named, Reference, Alone, Given, Listed}
use Rattle.pli_base.specs.Syntax.{Empty, Expressions}
use Rattle.pli_base.specs.declared.code.Code.TheVariants.{AggregateNotAllowedHere, WrongNumberOfSubscripts}
use Rattle.pli_base.specs.declared.code.Code.TheVariants.{CannotAssign, WrongArgument, WrongBuiltInArgument}
use Rattle.pli_map.specs.Description.{FixedBinary}
use Rattle.pli_map.specs.ParameterTypes.{ParameterType, Stated, AnyString, AnyArray, ArrayOf}
use Rattle.pli_map.specs.declared.dimension.WhichBound.TheVariants.{Low}
use Rattle.pli_map.specs.declared.parameter.StringForm.TheVariants as forms
use Rattle.pli_operation.specs.declared.operation.Operation.TheVariants.{ToCharacters}
use Rattle.pli_type_rules.specs.ExpressionTypes.{with_one}
use Rattle.pli_type_rules.specs.Names.{NamedAs, AVariable, AProcedure, Begins}
use Rattle.pli_type_laws.specs.examples.ExampleTrees.{called, text, decimal, alone_named, named, assign}
use Rattle.pli_type_laws.specs.examples.ExampleTrees.{form_of}
use Rattle.pli_type_laws.specs.examples.ExampleTrees.{faults, one, reference_meant, characters, a_number}
use Rattle.pli_type_laws.specs.examples.ExampleTrees.{held}
use Rattle.pli_type_laws.specs.examples.ExampleTrees.{between, array, c, n, low_bound, high_bound}
use Rattle.pli_type_tree.specs.TypedTree as typed
use Rattle.pli_type_tree.specs.TypedTree.{InSlot, OfBlock, Whole, ElementOf, Bounded, Operate, OperandThen}
use Rattle.pli_type_tree.specs.TypedTree.{NoOperand, NoArgument, ByPlace, ByString}

-- a parameter in which a `*` stands, in a slot
abbrev pub taken : (slot : ℕ) → ParameterType → NamedAs
taken slot type =
    AVariable (record { storage = Begins (InSlot 0 slot) true; whole = type; path = []; area = None })

-- P CHAR(*)
abbrev pub p : NamedAs
p = taken 0 (AnyString forms.Character)

-- Q(*) FIXED BIN(15)
abbrev pub q : NamedAs
q = taken 1 (AnyArray 1 (Stated (FixedBinary 15)))

-- T(2:3) CHAR(*)
abbrev pub t : NamedAs
t = taken 2 (ArrayOf (between 2 3 ∷ []) (AnyString forms.Character))

-- S: PROC(P), with P CHAR(*)
abbrev pub s : NamedAs
s = AProcedure (record {
  callee = OfBlock 1;
  parameters = AnyString forms.Character ∷ [];
  returned = None;
  area = None;
})

-- R: PROC(Q), with Q(*) FIXED BIN(15)
abbrev pub r : NamedAs
r = AProcedure (record {
  callee = OfBlock 2;
  parameters = AnyArray 1 (Stated (FixedBinary 15)) ∷ [];
  returned = None;
  area = None;
})

-- U: PROC(Q), with Q(3) FIXED BIN(15)
abbrev pub u : NamedAs
u = AProcedure (record {
  callee = OfBlock 3;
  parameters = Stated (array 3 (FixedBinary 15)) ∷ [];
  returned = None;
  area = None;
})

-- CALL of a procedure with one argument, at token 0
abbrev pub call : Expression → Statement
call argument = Numbered 1 None 0 (Call (called (codes "S") 1) (Given (Listed argument Empty)))

-- one subscript, or two
abbrev pub subscripted : Expressions → Reference
subscripted list = Named (called (codes "Q") 0) (Given list) Alone

-- a bound of Q, in a dimension
abbrev pub a_bound : (dimension : ℕ) → Expression
a_bound dimension =
    Referred (Named (called (codes "LBOUND") 2) (Given (Listed (named (codes "Q") 4) (Listed (decimal
    dimension 1 6) Empty))) Alone)

-- A string is assigned without being fitted, and handed over by its place or in a dummy of its own length; an
-- element has a subscript for each dimension; a bound is asked for where it runs, and known where it is written
abbrev pub StarsAreTyped : Type 0
StarsAreTyped =
    -- P = '1'; P = N;
    (form_of ((0, p) ∷ []) (assign 1 0 (alone_named (codes "P") 0) 1 (text (codes "1") 2))
    ≡ Some (typed.AssignString (Whole (InSlot 0 0)) (characters (codes "1"))))
    × (form_of ((0, p) ∷ (2, n) ∷ []) (assign 1 0 (alone_named (codes "P") 0) 1 (named (codes "N") 2))
    ≡ Some (typed.AssignString (Whole (InSlot 0 0)) (with_one (Operate (ToCharacters 9)) (held 1))))
    -- CALL S(P); CALL S(C); CALL S('AB'); CALL S((P));
    × (form_of ((1, s) ∷ (3, p) ∷ []) (call (named (codes "P") 3))
    ≡ Some (typed.Call (OfBlock 1) (ByPlace (Whole (InSlot 0 0)) NoArgument)))
    × (form_of ((1, s) ∷ (3, c) ∷ []) (call (named (codes "C") 3))
    ≡ Some (typed.Call (OfBlock 1) (ByPlace (Whole (InSlot 0 4)) NoArgument)))
    × (form_of ((1, s) ∷ []) (call (text (codes "AB") 3))
    ≡ Some (typed.Call (OfBlock 1) (ByString forms.Character (characters (codes "AB")) NoArgument)))
    × (form_of ((1, s) ∷ (4, p) ∷ []) (call (Parenthesized 3 (named (codes "P") 4)))
    ≡ Some (typed.Call (OfBlock 1) (ByString forms.Character (held 0) NoArgument)))
    -- CALL R(Q); with U in its place; CALL R(1);
    × (form_of ((1, r) ∷ (3, q) ∷ []) (call (named (codes "Q") 3))
    ≡ Some (typed.Call (OfBlock 2) (ByPlace (Whole (InSlot 0 1)) NoArgument)))
    × (faults ((1, u) ∷ (3, q) ∷ []) (call (named (codes "Q") 3)) ≡ one WrongArgument 1)
    × (faults ((1, r) ∷ []) (call (decimal 1 1 3)) ≡ one WrongArgument 1)
    -- Q(2); Q(2, 2); Q as a value; T(2)
    × (reference_meant ((0, q) ∷ []) (subscripted (Listed (decimal 2 1 2) Empty))
    ≡ Some (ElementOf (InSlot 0 1) (OperandThen (a_number 2) NoOperand)))
    × (faults ((0, q) ∷ []) (assign 1 0 (subscripted (Listed (decimal 2 1 2) (Listed (decimal 2 1 4) Empty))) 6
    (decimal 1 1 7)) ≡ one WrongNumberOfSubscripts 0)
    × (faults ((0, n) ∷ (2, q) ∷ []) (assign 1 0 (alone_named (codes "N") 0) 1 (named (codes "Q") 2))
    ≡ one AggregateNotAllowedHere 2)
    × (reference_meant ((0, t) ∷ []) (subscripted (Listed (decimal 2 1 2) Empty))
    ≡ Some (ElementOf (InSlot 0 2) (OperandThen (a_number 2) NoOperand)))
    -- Q = Q;
    × (faults ((0, q) ∷ (2, q) ∷ []) (assign 1 0 (alone_named (codes "Q") 0) 1 (named (codes "Q") 2))
    ≡ one CannotAssign 1)
    -- N = LBOUND(Q, 1); LBOUND(Q, 2); with T in its place
    × (form_of ((0, n) ∷ (2, low_bound) ∷ (4, q) ∷ []) (assign 1 0 (alone_named (codes "N") 0) 1 (a_bound 1))
    ≡ Some (typed.Assign (Whole (InSlot 0 1)) (with_one (typed.Fit (FixedBinary 15))
    (Bounded Low 1 (Whole (InSlot 0 1))))))
    × (faults ((0, n) ∷ (2, low_bound) ∷ (4, q) ∷ []) (assign 1 0 (alone_named (codes "N") 0) 1 (a_bound 2))
    ≡ one WrongBuiltInArgument 2)
    × (form_of ((0, n) ∷ (2, high_bound) ∷ (4, t) ∷ []) (assign 1 0 (alone_named (codes "N") 0) 1 (a_bound 1))
    ≡ Some (typed.Assign (Whole (InSlot 0 1)) (with_one (typed.Fit (FixedBinary 15)) (a_number 3))))
