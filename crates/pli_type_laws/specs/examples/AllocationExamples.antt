-- Worked examples of ALLOCATE, FREE and ALLOCATION: their faults, and their typed forms. Beside the variables
-- of the other examples there are
--
--     DCL K FIXED BIN(31) CTL, G(2) BIT CTL, 1 H CTL, 2 Y BIT;
use Rattle.std.specs.Prelude.{◌≡◌, ℕ, false, Option, Some, None, List, [], ◌∷◌, codes}
use Rattle.pli_base.specs.Statements.{Statement, Numbered, Allocate, Free, Allocation}
use Rattle.pli_base.specs.Syntax.{Referred, Parenthesized, Reference, Named, Alone, Joined, Absent}
use Rattle.pli_base.specs.Syntax.{Given, Expressions, Empty, Listed}
use Rattle.pli_base.specs.declared.code.Code.TheVariants.{NotAVariable, AggregateNotAllowedHere}
use Rattle.pli_base.specs.declared.code.Code.TheVariants.{WrongNumberOfSubscripts, WrongNumberOfArguments}
use Rattle.pli_base.specs.declared.code.Code.TheVariants.{LocatorMissingOrNotAllowed, CannotAllocateOrFree}
use Rattle.pli_base.specs.declared.code.Code.TheVariants.{WrongBuiltInArgument}
use Rattle.pli_base.specs.declared.syntax.Joining.TheVariants.{Member, Located}
use Rattle.pli_map.specs.ParameterTypes.{Stated}
use Rattle.pli_map.specs.Description.{Description, FixedBinary, Bit, Structure, NoMembers, MemberThen}
use Rattle.pli_declare.specs.declared.built_in.BuiltInFunction.TheVariants as functions
use Rattle.pli_type_rules.specs.ExpressionTypes.{with_one}
use Rattle.pli_type_rules.specs.Names.{Begins, NamedAs, AVariable, AFunction}
use Rattle.pli_type_laws.specs.examples.ExampleTrees.{array, faults, one, good, form_of, called, alone_named}
use Rattle.pli_type_laws.specs.examples.ExampleTrees.{named, decimal, assign, x, n, a, label}
use Rattle.pli_type_tree.specs.TypedTree as typed
use Rattle.pli_type_tree.specs.TypedTree.{NewestOf, InSlot, Whole, Generations, Fit, AllocatesControlled}
use Rattle.pli_type_tree.specs.TypedTree.{FreesControlled}

-- a CONTROLLED variable, or a member, by the number of its global
abbrev pub controlled : (number : ℕ) → Description → (path : List ℕ) → NamedAs
controlled number d path =
    AVariable (record {
      storage = Begins (NewestOf number) false;
      whole = Stated d;
      path = path;
      area = None;
    })

-- K
abbrev pub k : NamedAs
k = controlled 0 (FixedBinary 31) []

-- G
abbrev pub g : NamedAs
g = controlled 1 (array 2 (Bit 1)) []

-- what H is
abbrev pub h_whole : Description
h_whole = Structure (MemberThen (Bit 1) NoMembers)

-- H
abbrev pub h : NamedAs
h = controlled 2 h_whole []

-- H.Y
abbrev pub h_y : NamedAs
h_y = controlled 2 h_whole (0 ∷ [])

-- ALLOCATION
abbrev pub allocation : NamedAs
allocation = AFunction functions.Allocation

-- a name in ALLOCATE, with what stands in IN and in SET
abbrev pub item : (at : ℕ) → (area target : Option Reference) → Allocation
item at area target = record { name = called (codes "K") at; area = area; target = target }

-- a name alone
abbrev pub bare : (at : ℕ) → Allocation
bare at = item at None None

-- ALLOCATE at token 0
abbrev pub allocate : List Allocation → Statement
allocate list = Numbered 1 None 0 (Allocate list)

-- FREE at token 0
abbrev pub free : List Reference → Statement
free list = Numbered 1 None 0 (Free list)

-- G(1), at token 1
abbrev pub element : Reference
element = Named (called (codes "G") 1) (Given (Listed (decimal 1 1 3) Empty)) Alone

-- N = ALLOCATION(..), whose name stands at token 2
abbrev pub counted : Expressions → Statement
counted list =
    assign 1 0 (alone_named (codes "N") 0) 1
    (Referred (Named (called (codes "ALLOCATION") 2) (Given list) Alone))

-- ALLOCATE takes a CONTROLLED variable at level 1, without IN and SET; the faults of these come first, those
-- of IN before those of SET; items are looked at one after the other
abbrev pub WhatIsAllocated : Type 0
WhatIsAllocated =
    -- ALLOCATE K, G;
    (form_of ((1, k) ∷ (3, g) ∷ []) (allocate (bare 1 ∷ bare 3 ∷ []))
    ≡ Some (typed.Allocate (AllocatesControlled 0 ∷ AllocatesControlled 1 ∷ [])))
    -- ALLOCATE K, X, L; and of a label, a member, and a name without a type alone
    × (faults ((1, k) ∷ (3, x) ∷ (5, label) ∷ []) (allocate (bare 1 ∷ bare 3 ∷ bare 5 ∷ []))
    ≡ one CannotAllocateOrFree 3)
    × (faults ((1, label) ∷ []) (allocate (bare 1 ∷ [])) ≡ one CannotAllocateOrFree 1)
    × (faults ((1, h_y) ∷ []) (allocate (bare 1 ∷ [])) ≡ one CannotAllocateOrFree 1)
    × (faults [] (allocate (bare 1 ∷ [])) ≡ one CannotAllocateOrFree 1)
    -- ALLOCATE K IN(X); ALLOCATE K SET(X);
    × (faults ((1, k) ∷ (4, x) ∷ []) (allocate (item 1 (Some (alone_named (codes "X") 4)) None ∷ []))
    ≡ one CannotAllocateOrFree 1)
    × (faults ((1, k) ∷ (4, x) ∷ []) (allocate (item 1 None (Some (alone_named (codes "X") 4)) ∷ []))
    ≡ one CannotAllocateOrFree 1)
    -- ALLOCATE K SET(L) IN(A); where A is an array and L a label
    × (faults ((1, k) ∷ (4, label) ∷ (8, a) ∷ [])
    (allocate (item 1 (Some (alone_named (codes "A") 8)) (Some (alone_named (codes "L") 4)) ∷ []))
    ≡ one AggregateNotAllowedHere 8)
    -- ALLOCATE X SET(L);
    × (faults ((1, x) ∷ (4, label) ∷ []) (allocate (item 1 None (Some (alone_named (codes "L") 4)) ∷ []))
    ≡ one NotAVariable 4)

-- FREE takes a whole CONTROLLED variable at level 1; the faults of a reference come first
abbrev pub WhatIsFreed : Type 0
WhatIsFreed =
    -- FREE K, G;
    (form_of ((1, k) ∷ (3, g) ∷ []) (free (alone_named (codes "K") 1 ∷ alone_named (codes "G") 3 ∷ []))
    ≡ Some (typed.Free (FreesControlled 0 ∷ FreesControlled 1 ∷ [])))
    -- FREE K, X; FREE G(1); FREE H.Y; FREE L; FREE G(1, 1);
    × (faults ((1, k) ∷ (3, x) ∷ []) (free (alone_named (codes "K") 1 ∷ alone_named (codes "X") 3 ∷ []))
    ≡ one CannotAllocateOrFree 3)
    × (faults ((1, g) ∷ []) (free (element ∷ [])) ≡ one CannotAllocateOrFree 1)
    × (faults ((1, h_y) ∷ []) (free (Named (called (codes "H") 1) Absent
    (Joined Member (called (codes "Y") 3) Absent Alone) ∷ [])) ≡ one CannotAllocateOrFree 1)
    × (faults ((1, label) ∷ []) (free (alone_named (codes "L") 1 ∷ [])) ≡ one NotAVariable 1)
    × (faults ((1, g) ∷ []) (free (Named (called (codes "G") 1)
    (Given (Listed (decimal 1 1 3) (Listed (decimal 1 1 5) Empty))) Alone ∷ []))
    ≡ one WrongNumberOfSubscripts 1)
    -- FREE X -> K;
    × (faults ((1, x) ∷ (3, k) ∷ []) (free (Named (called (codes "X") 1) Absent
    (Joined Located (called (codes "K") 3) Absent Alone) ∷ [])) ≡ one LocatorMissingOrNotAllowed 3)

-- ALLOCATION takes a whole CONTROLLED variable at level 1
abbrev pub WhatIsCounted : Type 0
WhatIsCounted =
    -- N = ALLOCATION(K); N = ALLOCATION(G);
    (form_of ((0, n) ∷ (2, allocation) ∷ (4, k) ∷ []) (counted (Listed (named (codes "K") 4) Empty))
    ≡ Some (typed.Assign (Whole (InSlot 0 1)) (with_one (Fit (FixedBinary 15)) (Generations 0))))
    × (faults ((0, n) ∷ (2, allocation) ∷ (4, g) ∷ []) (counted (Listed (named (codes "G") 4) Empty)) ≡ good)
    -- of X, H.Y, G(1), (K), 5 and L; without and with two arguments; with a locator before K
    × (faults ((0, n) ∷ (2, allocation) ∷ (4, x) ∷ []) (counted (Listed (named (codes "X") 4) Empty))
    ≡ one WrongBuiltInArgument 2)
    × (faults ((0, n) ∷ (2, allocation) ∷ (4, h_y) ∷ []) (counted (Listed (named (codes "Y") 4) Empty))
    ≡ one WrongBuiltInArgument 2)
    × (faults ((0, n) ∷ (2, allocation) ∷ (4, g) ∷ [])
    (counted (Listed (Referred (Named (called (codes "G") 4) (Given (Listed (decimal 1 1 6) Empty)) Alone))
    Empty)) ≡ one WrongBuiltInArgument 2)
    × (faults ((0, n) ∷ (2, allocation) ∷ (5, k) ∷ [])
    (counted (Listed (Parenthesized 4 (named (codes "K") 5)) Empty)) ≡ one WrongBuiltInArgument 2)
    × (faults ((0, n) ∷ (2, allocation) ∷ []) (counted (Listed (decimal 5 1 4) Empty))
    ≡ one WrongBuiltInArgument 2)
    × (faults ((0, n) ∷ (2, allocation) ∷ (4, label) ∷ []) (counted (Listed (named (codes "L") 4) Empty))
    ≡ one NotAVariable 4)
    × (faults ((0, n) ∷ (2, allocation) ∷ []) (counted Empty) ≡ one WrongNumberOfArguments 2)
    × (faults ((0, n) ∷ (2, allocation) ∷ (4, k) ∷ (6, k) ∷ [])
    (counted (Listed (named (codes "K") 4) (Listed (named (codes "K") 6) Empty)))
    ≡ one WrongNumberOfArguments 2)
    × (faults ((0, n) ∷ (2, allocation) ∷ (4, x) ∷ (6, k) ∷ [])
    (counted (Listed (Referred (Named (called (codes "X") 4) Absent
    (Joined Located (called (codes "K") 6) Absent Alone))) Empty)) ≡ one LocatorMissingOrNotAllowed 6)
