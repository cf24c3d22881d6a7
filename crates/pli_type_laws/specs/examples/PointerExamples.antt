-- Worked examples of pointers and BASED variables: their faults, and their typed forms. Beside the variables
-- of the other examples there are
--
--     DCL P PTR, K FIXED BIN(15) BASED(P), F FIXED BIN(15) BASED, 1 B BASED(P), 2 Y BIT;
--
-- and a parameter Z of BIT.
use Rattle.std.specs.Prelude.{◌≡◌, ℕ, true, false, Option, Some, None, List, [], ◌∷◌}
use Rattle.pli_base.specs.Statements.{Statement, Numbered, Do, Iterate, Ended, Allocate, Free, NoElse}
use Rattle.pli_base.specs.Syntax.{Expression, Referred, Infix, Reference, Named, Alone, Joined, Absent}
use Rattle.pli_base.specs.Syntax.{Given, Expressions, Empty, Listed}
use Rattle.pli_base.specs.declared.code.Code.TheVariants.{NotAVariable, AggregateNotAllowedHere, CannotAssign}
use Rattle.pli_base.specs.declared.code.Code.TheVariants.{WrongOperandType, CannotPrint, BadControlVariable}
use Rattle.pli_base.specs.declared.code.Code.TheVariants.{LocatorMissingOrNotAllowed, CannotAllocateOrFree}
use Rattle.pli_base.specs.declared.code.Code.TheVariants.{WrongNumberOfArguments, WrongBuiltInArgument}
use Rattle.pli_base.specs.declared.syntax.InfixOperator.{InfixOperator}
use Rattle.pli_base.specs.declared.syntax.InfixOperator.TheVariants as infixes
use Rattle.pli_base.specs.declared.syntax.Joining.TheVariants.{Member, Located}
use Rattle.pli_map.specs.ParameterTypes.{Stated}
use Rattle.pli_map.specs.Description as described
use Rattle.pli_map.specs.Description.{Description, FixedBinary, Bit, Structure, NoMembers, MemberThen}
use Rattle.pli_declare.specs.declared.built_in.BuiltInFunction.TheVariants as functions
use Rattle.pli_type_rules.specs.ExpressionTypes.{with_one}
use Rattle.pli_type_rules.specs.Names.{OfPointer, Begins, IsBased, NamedAs, AVariable, AFunction}
use Rattle.pli_type_laws.specs.examples.ExampleTrees.{alone, faults, one, good, form_of, called, alone_named}
use Rattle.pli_type_laws.specs.examples.ExampleTrees.{named, decimal, assign, put, choice, null, x, n, a, s}
use Rattle.pli_type_laws.specs.examples.ExampleTrees.{label}
use Rattle.pli_type_laws.specs.examples.ExampleTrees.{a_number, held}
use Rattle.pli_type_tree.specs.TypedTree as typed
use Rattle.pli_type_tree.specs.TypedTree.{InSlot, Whole, Part, NoSubscript, Literal, Address, Fit}
use Rattle.pli_type_tree.specs.TypedTree.{AllocatesBased, FreesBased}
use Rattle.pli_value.specs.Value as values
use Rattle.pli_value.specs.declared.locator.Locator.TheVariants as locators

-- P
abbrev pub p : NamedAs
p = alone 12 described.Pointer

-- a variable of BASED(P), or a member of one, by its number among those of block 1
abbrev pub based : (number : ℕ) → Description → (path : List ℕ) → NamedAs
based number d path =
    AVariable (record {
      storage = IsBased 1 number (Some (OfPointer (Whole (InSlot 0 12))));
      whole = Stated d;
      path = path;
      area = None;
    })

-- K
abbrev pub k : NamedAs
k = based 0 (FixedBinary 15) []

-- F
abbrev pub f : NamedAs
f = AVariable (record { storage = IsBased 1 1 None; whole = Stated (FixedBinary 15); path = []; area = None })

-- what B is
abbrev pub b_whole : Description
b_whole = Structure (MemberThen (Bit 1) NoMembers)

-- B
abbrev pub b : NamedAs
b = based 2 b_whole []

-- B.Y
abbrev pub b_y : NamedAs
b_y = based 2 b_whole (0 ∷ [])

-- Z
abbrev pub z : NamedAs
z = AVariable (record { storage = Begins (InSlot 0 0) true; whole = Stated (Bit 1); path = []; area = None })

-- NULL
abbrev pub null_function : NamedAs
null_function = AFunction functions.Null

-- ADDR
abbrev pub address : NamedAs
address = AFunction functions.Address

-- a name with parentheses after it, at a token
abbrev pub of_list : (at : ℕ) → Expressions → Expression
of_list at list = Referred (Named (called [] at) (Given list) Alone)

-- one name after another and an arrow, each at a token
abbrev pub located : (locator at : ℕ) → Reference
located locator at = Named (called [] locator) Absent (Joined Located (called [] at) Absent Alone)

-- an assignment to the name at token 0
abbrev pub set : Expression → Statement
set e = assign 1 0 (alone_named [] 0) 1 e

-- PUT LIST of what begins at token 3
abbrev pub printed : Expression → Statement
printed e = put 1 0 false (e ∷ [])

-- IF of a comparison of the names at tokens 1 and 3
abbrev pub compare : InfixOperator → Statement
compare operator = choice 1 0 (Infix operator 2 (named [] 1) (named [] 3)) (null 2 5) NoElse

-- the item of ALLOCATE at token 1, with what stands in IN and in SET
abbrev pub allocate : (area target : Option Reference) → Statement
allocate area target =
    Numbered 1 None 0
    (Allocate (record { name = called [] 1; area = area; target = target } ∷ []))

-- FREE of a reference
abbrev pub free : Reference → Statement
free reference = Numbered 1 None 0 (Free (reference ∷ []))

-- pointers are assigned from pointers and NULL; they are compared for equality alone, and not printed
abbrev pub PointersAndNull : Type 0
PointersAndNull =
    -- P = NULL; P = NULL(); P = P;
    (form_of ((0, p) ∷ (2, null_function) ∷ []) (set (named [] 2))
    ≡ Some (typed.Assign (Whole (InSlot 0 12)) (Literal (values.Located locators.Null))))
    × (faults ((0, p) ∷ (2, null_function) ∷ []) (set (of_list 2 Empty)) ≡ good)
    × (faults ((0, p) ∷ (2, p) ∷ []) (set (named [] 2)) ≡ good)
    -- P = 1; X = NULL; X = P; P = NULL(1); NULL = P;
    × (faults ((0, p) ∷ []) (set (decimal 1 1 2)) ≡ one CannotAssign 1)
    × (faults ((0, x) ∷ (2, null_function) ∷ []) (set (named [] 2)) ≡ one CannotAssign 1)
    × (faults ((0, x) ∷ (2, p) ∷ []) (set (named [] 2)) ≡ one CannotAssign 1)
    × (faults ((0, p) ∷ (2, null_function) ∷ []) (set (of_list 2 (Listed (decimal 1 1 4) Empty)))
    ≡ one WrongNumberOfArguments 2)
    × (faults ((0, null_function) ∷ (2, p) ∷ []) (set (named [] 2)) ≡ one NotAVariable 0)
    -- IF P = NULL THEN ; with ^=, <, and N in the place of NULL
    × (faults ((1, p) ∷ (3, null_function) ∷ []) (compare infixes.Equal) ≡ good)
    × (faults ((1, null_function) ∷ (3, null_function) ∷ []) (compare infixes.NotEqual) ≡ good)
    × (faults ((1, p) ∷ (3, p) ∷ []) (compare infixes.Less) ≡ one WrongOperandType 2)
    × (faults ((1, p) ∷ (3, n) ∷ []) (compare infixes.Equal) ≡ one WrongOperandType 2)
    -- PUT LIST(P); PUT LIST(NULL);
    × (faults ((3, p) ∷ []) (printed (named [] 3)) ≡ one CannotPrint 3)
    × (faults ((3, null_function) ∷ []) (printed (named [] 3)) ≡ one CannotPrint 3)

-- a BASED variable stands where its locator leads, a written one before the one that BASED names
abbrev pub BasedReferences : Type 0
BasedReferences =
    -- K = 1; P -> F = 1; B.Y = X;
    (form_of ((0, k) ∷ []) (set (decimal 1 1 2))
    ≡ Some (typed.Assign (Whole (typed.Located (held 12) (FixedBinary 15)))
    (with_one (Fit (FixedBinary 15)) (a_number 1))))
    × (form_of ((0, p) ∷ (2, f) ∷ []) (assign 1 0 (located 0 2) 3 (decimal 1 1 4))
    ≡ Some (typed.Assign (Whole (typed.Located (held 12) (FixedBinary 15)))
    (with_one (Fit (FixedBinary 15)) (a_number 1))))
    × (form_of ((0, b_y) ∷ (2, x) ∷ []) (set (named [] 2))
    ≡ Some (typed.Assign (Part (typed.Located (held 12) b_whole) 0 (Bit 1) NoSubscript)
    (with_one (Fit (Bit 1)) (held 0))))
    -- F = 1; X -> F = 1; P -> X = X; NULL -> F = 1; and of B in the place of a value
    × (faults ((0, f) ∷ []) (set (decimal 1 1 2)) ≡ one LocatorMissingOrNotAllowed 0)
    × (faults ((0, x) ∷ (2, f) ∷ []) (assign 1 0 (located 0 2) 3 (decimal 1 1 4))
    ≡ one LocatorMissingOrNotAllowed 2)
    × (faults ((0, p) ∷ (2, x) ∷ (4, x) ∷ []) (assign 1 0 (located 0 2) 3 (named [] 4))
    ≡ one LocatorMissingOrNotAllowed 2)
    × (faults ((0, null_function) ∷ (2, f) ∷ []) (assign 1 0 (located 0 2) 3 (decimal 1 1 4))
    ≡ one NotAVariable 0)
    × (faults ((3, p) ∷ (5, b) ∷ []) (printed (Referred (located 3 5))) ≡ one AggregateNotAllowedHere 5)
    -- DO P -> K = 1; END;
    × (faults ((1, p) ∷ (3, k) ∷ [])
    (Numbered 1 None 0 (Do (Some (Iterate (located 1 3) 4 (decimal 1 1 5) None None)) Ended 2))
    ≡ one BadControlVariable 3)

-- ADDR takes a whole variable at level 1 that is no parameter
abbrev pub Addresses : Type 0
Addresses =
    -- P = ADDR(N); P = ADDR(S); P = ADDR(P -> F);
    (form_of ((0, p) ∷ (2, address) ∷ (4, n) ∷ []) (set (of_list 2 (Listed (named [] 4) Empty)))
    ≡ Some (typed.Assign (Whole (InSlot 0 12)) (Address (Whole (InSlot 0 1)))))
    × (faults ((0, p) ∷ (2, address) ∷ (4, s) ∷ []) (set (of_list 2 (Listed (named [] 4) Empty))) ≡ good)
    × (faults ((0, p) ∷ (2, address) ∷ (4, p) ∷ (6, f) ∷ [])
    (set (of_list 2 (Listed (Referred (located 4 6)) Empty))) ≡ good)
    -- of A(1), B.Y, Z, 1 and F; without arguments
    × (faults ((0, p) ∷ (2, address) ∷ (4, a) ∷ [])
    (set (of_list 2 (Listed (of_list 4 (Listed (decimal 1 1 6) Empty)) Empty))) ≡ one WrongBuiltInArgument 2)
    × (faults ((0, p) ∷ (2, address) ∷ (4, b_y) ∷ []) (set (of_list 2 (Listed (named [] 4) Empty)))
    ≡ one WrongBuiltInArgument 2)
    × (faults ((0, p) ∷ (2, address) ∷ (4, z) ∷ []) (set (of_list 2 (Listed (named [] 4) Empty)))
    ≡ one WrongBuiltInArgument 2)
    × (faults ((0, p) ∷ (2, address) ∷ []) (set (of_list 2 (Listed (decimal 1 1 4) Empty)))
    ≡ one WrongBuiltInArgument 2)
    × (faults ((0, p) ∷ (2, address) ∷ (4, f) ∷ []) (set (of_list 2 (Listed (named [] 4) Empty)))
    ≡ one LocatorMissingOrNotAllowed 4)
    × (faults ((0, p) ∷ (2, address) ∷ []) (set (of_list 2 Empty)) ≡ one WrongNumberOfArguments 2)

-- ALLOCATE sets the POINTER in SET, or the one that BASED names; FREE takes a whole BASED variable
abbrev pub GenerationsByPointers : Type 0
GenerationsByPointers =
    -- ALLOCATE K; ALLOCATE K SET(P);
    (form_of ((1, k) ∷ []) (allocate None None)
    ≡ Some (typed.Allocate (AllocatesBased (record { description = FixedBinary 15; initial = [] }) 0
    (Whole (InSlot 0 12)) ∷ [])))
    × (faults ((1, k) ∷ (4, p) ∷ []) (allocate None (Some (alone_named [] 4))) ≡ good)
    -- ALLOCATE B.Y; ALLOCATE F; ALLOCATE K SET(X); ALLOCATE K IN(X); ALLOCATE K SET(L);
    × (faults ((1, b_y) ∷ []) (allocate None None) ≡ one CannotAllocateOrFree 1)
    × (faults ((1, f) ∷ []) (allocate None None) ≡ one CannotAllocateOrFree 1)
    × (faults ((1, k) ∷ (4, x) ∷ []) (allocate None (Some (alone_named [] 4))) ≡ one CannotAllocateOrFree 1)
    × (faults ((1, k) ∷ (4, x) ∷ []) (allocate (Some (alone_named [] 4)) None) ≡ one CannotAllocateOrFree 1)
    × (faults ((1, k) ∷ (4, label) ∷ []) (allocate None (Some (alone_named [] 4))) ≡ one NotAVariable 4)
    -- FREE K; FREE P -> F; FREE B;
    × (form_of ((1, k) ∷ []) (free (alone_named [] 1))
    ≡ Some (typed.Free (FreesBased (held 12) (FixedBinary 15) ∷ [])))
    × (form_of ((1, p) ∷ (3, f) ∷ []) (free (located 1 3))
    ≡ Some (typed.Free (FreesBased (held 12) (FixedBinary 15) ∷ [])))
    × (faults ((1, b) ∷ []) (free (alone_named [] 1)) ≡ good)
    -- FREE F; FREE P -> X; FREE B.Y; FREE P -> B.Y;
    × (faults ((1, f) ∷ []) (free (alone_named [] 1)) ≡ one LocatorMissingOrNotAllowed 1)
    × (faults ((1, p) ∷ (3, x) ∷ []) (free (located 1 3)) ≡ one LocatorMissingOrNotAllowed 3)
    × (faults ((1, b_y) ∷ []) (free (Named (called [] 1) Absent
    (Joined Member (called [] 3) Absent Alone))) ≡ one CannotAllocateOrFree 1)
    × (faults ((1, p) ∷ (3, b_y) ∷ []) (free (Named (called [] 1) Absent (Joined Located (called [] 3) Absent
    (Joined Member (called [] 5) Absent Alone)))) ≡ one CannotAllocateOrFree 3)
