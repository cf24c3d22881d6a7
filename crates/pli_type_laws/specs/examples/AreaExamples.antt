-- Worked examples of areas and offsets: their faults, and their typed forms. Beside the variables of the
-- other examples there are
--
--     DCL C AREA(64), D AREA(32), O OFFSET(C), W OFFSET, L FIXED BIN(15) BASED(O);
use Rattle.std.specs.Prelude.{◌≡◌, false, Some, None, [], ◌∷◌}
use Rattle.pli_base.specs.Statements.{Statement, Numbered, Do, Iterate, NoElse, Ended}
use Rattle.pli_base.specs.Syntax.{Parenthesized, Infix, Empty, Listed}
use Rattle.pli_base.specs.declared.code.Code.TheVariants.{NotAVariable, AggregateNotAllowedHere, CannotAssign}
use Rattle.pli_base.specs.declared.code.Code.TheVariants.{WrongOperandType, CannotPrint, BadControlVariable}
use Rattle.pli_base.specs.declared.code.Code.TheVariants.{LocatorMissingOrNotAllowed, CannotAllocateOrFree}
use Rattle.pli_base.specs.declared.code.Code.TheVariants.{WrongNumberOfArguments, WrongBuiltInArgument}
use Rattle.pli_base.specs.declared.syntax.InfixOperator.TheVariants as infixes
use Rattle.pli_map.specs.ParameterTypes.{Stated}
use Rattle.pli_map.specs.Description as described
use Rattle.pli_map.specs.Description.{FixedBinary, Area}
use Rattle.pli_operation.specs.declared.operation.Operation.TheVariants.{Compare}
use Rattle.pli_operation.specs.declared.operation.Relation.TheVariants.{Equal}
use Rattle.pli_declare.specs.declared.built_in.BuiltInFunction.TheVariants as functions
use Rattle.pli_type_rules.specs.ExpressionTypes.{null_offset, with_one, with_two}
use Rattle.pli_type_rules.specs.Names.{OfOffset, Begins, IsBased, NamedAs, AVariable, AFunction}
use Rattle.pli_type_rules.specs.declared.beginning.Beginning.TheVariants as beginnings
use Rattle.pli_type_laws.specs.examples.ExampleTrees.{alone, faults, one, good, form_of, alone_named, named}
use Rattle.pli_type_laws.specs.examples.ExampleTrees.{decimal, assign, choice, null, x, s, a_number, held}
use Rattle.pli_type_laws.specs.examples.PointerExamples.{p, f, null_function, of_list, located, set, printed}
use Rattle.pli_type_laws.specs.examples.PointerExamples.{compare, allocate, free}
use Rattle.pli_type_tree.specs.TypedTree as typed
use Rattle.pli_type_tree.specs.TypedTree.{TypedExpression, TypedReference, InSlot, Whole, Fit, AsPointer}
use Rattle.pli_type_tree.specs.TypedTree.{AsOffset, AllocatedItem, AllocatesInArea, Conversion, ByOperations}
use Rattle.pli_type_tree.specs.TypedTree.{AsOffsetIn, FreesBased}

-- C
abbrev pub c : NamedAs
c = alone 13 (Area 64)

-- D
abbrev pub d : NamedAs
d = alone 16 (Area 32)

-- O
abbrev pub o : NamedAs
o = AVariable (record {
  storage = Begins (InSlot 0 14) false;
  whole = Stated described.Offset;
  path = [];
  area = Some (beginnings.InSlot 0 13);
})

-- W
abbrev pub w : NamedAs
w = alone 15 described.Offset

-- L
abbrev pub l : NamedAs
l = AVariable (record {
  storage = IsBased 1 0 (Some (OfOffset (Whole (InSlot 0 14)) (beginnings.InSlot 0 13)));
  whole = Stated (FixedBinary 15);
  path = [];
  area = None;
})

-- EMPTY
abbrev pub empty : NamedAs
empty = AFunction functions.Empty

-- POINTER
abbrev pub pointer : NamedAs
pointer = AFunction functions.Pointer

-- OFFSET
abbrev pub offset : NamedAs
offset = AFunction functions.Offset

-- C and D, P and O in typed trees
abbrev pub the_c : TypedReference
the_c = Whole (InSlot 0 13)

-- D
abbrev pub the_d : TypedReference
the_d = Whole (InSlot 0 16)

-- P
abbrev pub the_p : TypedReference
the_p = Whole (InSlot 0 12)

-- O
abbrev pub the_o : TypedReference
the_o = Whole (InSlot 0 14)

-- O as a pointer
abbrev pub o_in_c : TypedExpression
o_in_c = AsPointer the_c (held 14)

-- a POINTER and an OFFSET that names an area become one another, NULL is of either type; both are compared
-- for equality alone
abbrev pub LocatorsConvert : Type 0
LocatorsConvert =
    -- P = O; O = P; O = NULL; W = O;
    (form_of ((0, p) ∷ (2, o) ∷ []) (set (named [] 2)) ≡ Some (typed.Assign the_p o_in_c))
    × (form_of ((0, o) ∷ (2, p) ∷ []) (set (named [] 2))
    ≡ Some (typed.Assign the_o (AsOffset the_c (held 12))))
    × (form_of ((0, o) ∷ (2, null_function) ∷ []) (set (named [] 2))
    ≡ Some (typed.Assign the_o null_offset))
    × (form_of ((0, w) ∷ (2, o) ∷ []) (set (named [] 2))
    ≡ Some (typed.Assign (Whole (InSlot 0 15)) (held 14)))
    -- P = W; W = P; O = 1; X = O;
    × (faults ((0, p) ∷ (2, w) ∷ []) (set (named [] 2)) ≡ one CannotAssign 1)
    × (faults ((0, w) ∷ (2, p) ∷ []) (set (named [] 2)) ≡ one CannotAssign 1)
    × (faults ((0, o) ∷ []) (set (decimal 1 1 2)) ≡ one CannotAssign 1)
    × (faults ((0, x) ∷ (2, o) ∷ []) (set (named [] 2)) ≡ one CannotAssign 1)
    -- X = O = P; X = NULL = O;
    × (form_of ((0, x) ∷ (2, o) ∷ (4, p) ∷ [])
    (set (Infix infixes.Equal 3 (named [] 2) (named [] 4)))
    ≡ Some (typed.Assign (Whole (InSlot 0 0))
    (with_one (Fit (described.Bit 1)) (with_two (Compare Equal) o_in_c (held 12)))))
    × (form_of ((0, x) ∷ (2, null_function) ∷ (4, o) ∷ [])
    (set (Infix infixes.Equal 3 (named [] 2) (named [] 4)))
    ≡ Some (typed.Assign (Whole (InSlot 0 0))
    (with_one (Fit (described.Bit 1)) (with_two (Compare Equal) null_offset (held 14)))))
    -- IF O = W THEN ; with P and W, O < W, and O and 1
    × (faults ((1, o) ∷ (3, w) ∷ []) (compare infixes.Equal) ≡ good)
    × (faults ((1, p) ∷ (3, w) ∷ []) (compare infixes.Equal) ≡ one WrongOperandType 2)
    × (faults ((1, o) ∷ (3, w) ∷ []) (compare infixes.Less) ≡ one WrongOperandType 2)
    × (faults ((1, o) ∷ [])
    (choice 1 0 (Infix infixes.Equal 2 (named [] 1) (decimal 1 1 3)) (null 2 5) NoElse)
    ≡ one WrongOperandType 2)

-- `DO C = D; END;`
abbrev pub counted_area : Statement
counted_area =
    Numbered 1 None 0 (Do (Some (Iterate (alone_named [] 1) 2 (named [] 3) None None)) Ended 2)

-- to an AREA another one is assigned, or EMPTY, and nothing in parentheses; it is neither printed nor counted
abbrev pub AreasAssigned : Type 0
AreasAssigned =
    -- C = D; C = EMPTY; C = EMPTY();
    (form_of ((0, c) ∷ (2, d) ∷ []) (set (named [] 2)) ≡ Some (typed.AssignArea the_c the_d))
    × (form_of ((0, c) ∷ (2, empty) ∷ []) (set (named [] 2)) ≡ Some (typed.EmptyArea the_c))
    × (form_of ((0, c) ∷ (2, empty) ∷ []) (set (of_list 2 Empty)) ≡ Some (typed.EmptyArea the_c))
    -- C = (D); C = (EMPTY()); C = P; C = S; X = D; X = EMPTY; EMPTY = D;
    × (faults ((0, c) ∷ (3, d) ∷ []) (set (Parenthesized 2 (named [] 3))) ≡ one CannotAssign 1)
    × (faults ((0, c) ∷ (3, empty) ∷ []) (set (Parenthesized 2 (of_list 3 Empty))) ≡ one CannotAssign 1)
    × (faults ((0, c) ∷ (2, p) ∷ []) (set (named [] 2)) ≡ one CannotAssign 1)
    × (faults ((0, c) ∷ (2, s) ∷ []) (set (named [] 2)) ≡ one AggregateNotAllowedHere 2)
    × (faults ((0, x) ∷ (2, d) ∷ []) (set (named [] 2)) ≡ one CannotAssign 1)
    × (faults ((0, x) ∷ (2, empty) ∷ []) (set (named [] 2)) ≡ one CannotAssign 1)
    × (faults ((0, empty) ∷ (2, d) ∷ []) (set (named [] 2)) ≡ one NotAVariable 0)
    -- PUT LIST(C); PUT LIST(EMPTY()); DO C = D; END;
    × (faults ((3, c) ∷ []) (printed (named [] 3)) ≡ one CannotPrint 3)
    × (faults ((3, empty) ∷ []) (printed (of_list 3 Empty)) ≡ one CannotPrint 3)
    × (faults ((1, c) ∷ (3, d) ∷ []) counted_area ≡ one BadControlVariable 1)

-- POINTER takes any OFFSET and OFFSET any pointer, NULL too; both take the reference of an area
abbrev pub LocatorsWithin : Type 0
LocatorsWithin =
    -- P = POINTER(W, D); O = OFFSET(P, D); O = OFFSET(NULL, C);
    (form_of ((0, p) ∷ (2, pointer) ∷ (4, w) ∷ (6, d) ∷ [])
    (set (of_list 2 (Listed (named [] 4) (Listed (named [] 6) Empty))))
    ≡ Some (typed.Assign the_p (AsPointer the_d (held 15))))
    × (form_of ((0, o) ∷ (2, offset) ∷ (4, p) ∷ (6, d) ∷ [])
    (set (of_list 2 (Listed (named [] 4) (Listed (named [] 6) Empty))))
    ≡ Some (typed.Assign the_o (AsOffset the_d (held 12))))
    × (faults ((0, o) ∷ (2, offset) ∷ (4, null_function) ∷ (6, c) ∷ [])
    (set (of_list 2 (Listed (named [] 4) (Listed (named [] 6) Empty)))) ≡ good)
    -- P = OFFSET(P, C); P = POINTER(NULL, C); P = POINTER(P, C); P = POINTER(W, (C)); P = POINTER(W, EMPTY);
    × (faults ((0, p) ∷ (2, offset) ∷ (4, p) ∷ (6, c) ∷ [])
    (set (of_list 2 (Listed (named [] 4) (Listed (named [] 6) Empty)))) ≡ one CannotAssign 1)
    × (faults ((0, p) ∷ (2, pointer) ∷ (4, null_function) ∷ (6, c) ∷ [])
    (set (of_list 2 (Listed (named [] 4) (Listed (named [] 6) Empty)))) ≡ one WrongBuiltInArgument 2)
    × (faults ((0, p) ∷ (2, pointer) ∷ (4, p) ∷ (6, c) ∷ [])
    (set (of_list 2 (Listed (named [] 4) (Listed (named [] 6) Empty)))) ≡ one WrongBuiltInArgument 2)
    × (faults ((0, p) ∷ (2, pointer) ∷ (4, w) ∷ (7, c) ∷ [])
    (set (of_list 2 (Listed (named [] 4) (Listed (Parenthesized 6 (named [] 7)) Empty))))
    ≡ one WrongBuiltInArgument 2)
    × (faults ((0, p) ∷ (2, pointer) ∷ (4, w) ∷ (6, empty) ∷ [])
    (set (of_list 2 (Listed (named [] 4) (Listed (named [] 6) Empty)))) ≡ one WrongBuiltInArgument 2)
    -- POINTER(W); POINTER(W, S); EMPTY(W)
    × (faults ((0, p) ∷ (2, pointer) ∷ (4, w) ∷ []) (set (of_list 2 (Listed (named [] 4) Empty)))
    ≡ one WrongNumberOfArguments 2)
    × (faults ((0, p) ∷ (2, pointer) ∷ (4, w) ∷ (6, s) ∷ [])
    (set (of_list 2 (Listed (named [] 4) (Listed (named [] 6) Empty)))) ≡ one AggregateNotAllowedHere 6)
    × (faults ((0, c) ∷ (2, empty) ∷ (4, w) ∷ []) (set (of_list 2 (Listed (named [] 4) Empty)))
    ≡ one WrongNumberOfArguments 2)

-- a block for L in an area, of which O gets the pointer or an offset
abbrev pub block_of_l : (area target : TypedReference) → Conversion → AllocatedItem
block_of_l area target conversion =
    AllocatesInArea area (record { description = FixedBinary 15; initial = [] }) 0 target conversion

-- a BASED variable goes into the area in IN, or into the one that an OFFSET names which is set; an OFFSET
-- leads to it only where it names an area
abbrev pub BlocksOfAreas : Type 0
BlocksOfAreas =
    -- ALLOCATE L; ALLOCATE L IN(D) SET(P); ALLOCATE L IN(D) SET(O);
    (form_of ((1, l) ∷ []) (allocate None None)
    ≡ Some (typed.Allocate (block_of_l the_c the_o (AsOffsetIn the_c) ∷ [])))
    × (form_of ((1, l) ∷ (4, d) ∷ (8, p) ∷ []) (allocate (Some (alone_named [] 4)) (Some (alone_named [] 8)))
    ≡ Some (typed.Allocate (block_of_l the_d the_p (ByOperations []) ∷ [])))
    × (form_of ((1, l) ∷ (4, d) ∷ (8, o) ∷ []) (allocate (Some (alone_named [] 4)) (Some (alone_named [] 8)))
    ≡ Some (typed.Allocate (block_of_l the_d the_o (AsOffsetIn the_c) ∷ [])))
    -- ALLOCATE L IN(X); ALLOCATE L SET(W); ALLOCATE F IN(C); ALLOCATE L IN(S);
    × (faults ((1, l) ∷ (4, x) ∷ []) (allocate (Some (alone_named [] 4)) None) ≡ one CannotAllocateOrFree 1)
    × (faults ((1, l) ∷ (4, w) ∷ []) (allocate None (Some (alone_named [] 4))) ≡ one CannotAllocateOrFree 1)
    × (faults ((1, f) ∷ (4, c) ∷ []) (allocate (Some (alone_named [] 4)) None) ≡ one CannotAllocateOrFree 1)
    × (faults ((1, l) ∷ (4, s) ∷ []) (allocate (Some (alone_named [] 4)) None)
    ≡ one AggregateNotAllowedHere 4)
    -- L = 1; O -> F = 1; W -> F = 1; FREE L;
    × (form_of ((0, l) ∷ []) (set (decimal 1 1 2))
    ≡ Some (typed.Assign (Whole (typed.Located o_in_c (FixedBinary 15)))
    (with_one (Fit (FixedBinary 15)) (a_number 1))))
    × (form_of ((0, o) ∷ (2, f) ∷ []) (assign 1 0 (located 0 2) 3 (decimal 1 1 4))
    ≡ Some (typed.Assign (Whole (typed.Located o_in_c (FixedBinary 15)))
    (with_one (Fit (FixedBinary 15)) (a_number 1))))
    × (faults ((0, w) ∷ (2, f) ∷ []) (assign 1 0 (located 0 2) 3 (decimal 1 1 4))
    ≡ one LocatorMissingOrNotAllowed 2)
    × (form_of ((1, l) ∷ []) (free (alone_named [] 1))
    ≡ Some (typed.Free (FreesBased o_in_c (FixedBinary 15) ∷ [])))
