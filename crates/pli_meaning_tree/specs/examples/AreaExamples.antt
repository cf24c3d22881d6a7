-- Worked examples of areas and offsets, in a unit M whose external procedure is block 0 and statement 1, and
-- whose statement 2 declares its variables.
use Rattle.std.specs.Prelude.{◌≡◌, ℕ, pos, false, Some, None, List, [], ◌∷◌, ◌++◌, codes}
use Rattle.pli_run.specs.declared.ending.Ending.TheVariants.{Ended, Error}
use Rattle.pli_run.specs.declared.ending.RunError.{RunError}
use Rattle.pli_run.specs.declared.ending.RunError.TheVariants as error
use Rattle.pli_map.specs.Description.{Description, FixedBinary, Character, Pointer, Offset, Area, Array}
use Rattle.pli_map.specs.Description.{Structure, NoMembers, MemberThen}
use Rattle.pli_program.specs.declared.kind.VariableKind.TheVariants.{Controlled}
use Rattle.pli_type_tree.specs.TypedTree.{Fit, InSlot, NewestOf, Located, TypedExpression, Held, Address}
use Rattle.pli_type_tree.specs.TypedTree.{AsPointer, AsOffset, TypedReference, Whole, Part, NoSubscript}
use Rattle.pli_type_tree.specs.TypedTree.{SubscriptThen, ByOperations, AsOffsetIn, ToBy, TypedStatement}
use Rattle.pli_type_tree.specs.TypedTree.{Statement, Form, Assign, AssignArea, EmptyArea, Put, Allocate, Free}
use Rattle.pli_type_tree.specs.TypedTree.{Iterate, AllocatesInArea, FreesBased, OwnVariable}
use Rattle.pli_meaning_tree.specs.ProgramMeaning.{whole_run}
use Rattle.pli_meaning_tree.specs.examples.TreeExamples.{of, listed, main_of, unit_of, nothing_given, Prints}
use Rattle.pli_meaning_tree.specs.examples.TreeExamples.{number, slot, held_in, text, shown, alone}

-- what these statements of a procedure with these variables print, till an error at a statement ends them
abbrev pub FailBy : List Description → List TypedStatement → List ℕ → (column : ℕ) → RunError
    → (statement : ℕ) → Type 0
FailBy variables statements output column e statement =
    Prints (alone variables statements) 20 output (Error e (codes "M") statement) column

-- an area of 64 bytes
abbrev pub small : Description
small = Area 64

-- the area A of slot 0
abbrev pub area : TypedReference
area = slot 0 0

-- what the offset in a slot leads to in the area of a slot: a variable of a description
abbrev pub by_offset : (area offset : ℕ) → Description → TypedReference
by_offset area offset d = Whole (Located (AsPointer (slot 0 area) (held_in 0 offset)) d)

-- what the pointer in a slot leads to
abbrev pub by_pointer : (slot : ℕ) → Description → TypedReference
by_pointer slot d = Whole (Located (held_in 0 slot) d)

-- `ALLOCATE K IN(A) SET(P);`, P a POINTER in a slot
abbrev pub allocates : (pointer : ℕ) → Description → Form
allocates pointer d =
    Allocate (AllocatesInArea area (of d) 0 (slot 0 pointer) (ByOperations []) ∷ [])

-- the same with `SET(O)`, O an OFFSET(A)
abbrev pub allocates_by_offset : TypedReference → Description → Form
allocates_by_offset target d = Allocate (AllocatesInArea area (of d) 0 target (AsOffsetIn area) ∷ [])

-- `DCL (A, B) AREA(64), O OFFSET(A), Q OFFSET(B), K CHAR(4) BASED; ALLOCATE K IN(A) SET(O); O -> K = 'WXYZ';
-- B = A; Q = O; PUT LIST(Q -> K); B = EMPTY(); PUT LIST(Q -> K);`
abbrev pub OffsetCopied : Type 0
OffsetCopied =
    FailBy (small ∷ small ∷ Offset ∷ Offset ∷ [])
    (Statement 3 (allocates_by_offset (slot 0 2) (Character 4))
    ∷ Statement 4 (Assign (by_offset 0 2 (Character 4)) (text (codes "WXYZ")))
    ∷ Statement 5 (AssignArea (slot 0 1) area) ∷ Statement 6 (Assign (slot 0 3) (held_in 0 2))
    ∷ Statement 7 (Put false (Held (by_offset 1 3 (Character 4)) ∷ []))
    ∷ Statement 8 (EmptyArea (slot 0 1))
    ∷ Statement 9 (Put false (Held (by_offset 1 3 (Character 4)) ∷ [])) ∷ [])
    (codes "WXYZ ") 6 error.DeadLocator 9

-- `1 L BASED, 2 F(10) FIXED BIN(31)`
abbrev pub longer : Description
longer =
    Structure (MemberThen (Array (record { low = pos 1; high = pos 10 } ∷ []) (FixedBinary 31)) NoMembers)

-- `R -> F(n)`, R the POINTER of slot 3
abbrev pub element : (n : ℕ) → TypedReference
element n =
    Part (Located (held_in 0 3) longer) 0 (FixedBinary 31)
    (SubscriptThen (record { low = pos 1; high = pos 10; multiplier = 4 }) (number n) NoSubscript)

-- `DCL A AREA(64), (P, Q, R) PTR, K CHAR(8) BASED; ALLOCATE K IN(A) SET(P); ALLOCATE K IN(A) SET(Q);
-- FREE P -> K; FREE Q -> K; ALLOCATE L IN(A) SET(R); R -> F(3) = n; R -> F(4) = m; PUT LIST(Q -> K);`: Q
-- leads to no block, whatever stands before its position
abbrev pub DeadHeader : (n m : ℕ) → Type 0
DeadHeader n m =
    FailBy (small ∷ Pointer ∷ Pointer ∷ Pointer ∷ [])
    (Statement 3 (allocates 1 (Character 8)) ∷ Statement 4 (allocates 2 (Character 8))
    ∷ Statement 5 (Free (FreesBased (held_in 0 1) (Character 8) ∷ []))
    ∷ Statement 6 (Free (FreesBased (held_in 0 2) (Character 8) ∷ []))
    ∷ Statement 7 (allocates 3 longer)
    ∷ Statement 8 (Assign (element 3) (number n)) ∷ Statement 9 (Assign (element 4) (number m))
    ∷ Statement 10 (Put false (Held (by_pointer 2 (Character 8)) ∷ [])) ∷ []) [] 1 error.DeadLocator 10

-- what would be a description's number and a size is none
abbrev pub DeadHeaderNamed : Type 0
DeadHeaderNamed = DeadHeader 1 16 × DeadHeader 0 8

-- `P(e)`, `P(5) PTR` in slot 1
abbrev pub pointer_of : TypedExpression → TypedReference
pointer_of e =
    Part (InSlot 0 1) 0 Pointer
    (SubscriptThen (record { low = pos 1; high = pos 5; multiplier = 8 }) e NoSubscript)

-- `A AREA(64), P(5) PTR, I FIXED BIN(15)`
abbrev pub with_pointers : List Description
with_pointers =
    small ∷ Array (record { low = pos 1; high = pos 5 } ∷ []) Pointer ∷ FixedBinary 15 ∷ []

-- `ALLOCATE K IN(A) SET(P(e));`, `K CHAR(8) BASED`
abbrev pub allocates_block : TypedExpression → Form
allocates_block e =
    Allocate (AllocatesInArea area (of (Character 8)) 0 (pointer_of e) (ByOperations []) ∷ [])

-- `DO I = 1 TO last; ALLOCATE K IN(A) SET(P(I)); ..`, statement 3
abbrev pub allocates_blocks : (last : ℕ) → (more : List TypedStatement) → TypedStatement
allocates_blocks last more = Statement 3 (Iterate (record {
  control = slot 0 2;
  conversion = ByOperations (Fit (FixedBinary 15) ∷ []);
  start = number 1;
  range = ToBy (number last) None;
  condition = None;
  temporary = 1;
}) (listed (Statement 4 (allocates_block (held_in 0 2)) ∷ more)))

-- `DCL A AREA(64), P(5) PTR, K CHAR(8) BASED, I FIXED BIN(15); DO I = 1 TO 5; ALLOCATE K IN(A) SET(P(I));
-- PUT LIST(I); END;`: 64 bytes have room for four such blocks with their headers
abbrev pub AreaFull : Type 0
AreaFull =
    FailBy with_pointers
    (allocates_blocks 5 (Statement 5 (Put false (shown (held_in 0 2) ∷ [])) ∷ []) ∷ [])
    (codes "   1                       2                       3                       4 ") 78 error.Area 4

-- with `O OFFSET(A)`, `X FIXED BIN(31)` and `P PTR`: `O = ADDR(X);`, `O = ADDR(A);`, and a block of B with
-- `ALLOCATE K IN(B) SET(P); O = P;`
abbrev pub OutsideAreaNamed : Type 0
OutsideAreaNamed =
    fails (Statement 3 (takes (Address (slot 0 3))) ∷ []) 3
    × fails (Statement 3 (takes (Address area)) ∷ []) 3
    × fails (Statement 3 (Allocate (AllocatesInArea (slot 0 1) (of (Character 4)) 0 (slot 0 4)
    (ByOperations []) ∷ [])) ∷ Statement 4 (takes (held_in 0 4)) ∷ []) 4
  where
    takes : TypedExpression → Form
    takes e = Assign (slot 0 2) (AsOffset area e)

    fails : List TypedStatement → (statement : ℕ) → Type 0
    fails statements statement =
        FailBy (small ∷ small ∷ Offset ∷ FixedBinary 31 ∷ Pointer ∷ []) statements [] 1 error.OutsideArea
        statement

-- `ALLOCATE K IN(A) SET(P); FREE P -> K; ALLOCATE K IN(A) SET(Q); Q -> K = 'AB'; PUT LIST(P -> K);
-- FREE P -> K; FREE Q -> K;`: an equal block at the same position serves an older pointer
abbrev pub BlockFreed : Type 0
BlockFreed =
    FailBy (small ∷ Pointer ∷ Pointer ∷ [])
    (Statement 3 (allocates 1 (Character 2)) ∷ Statement 4 (frees 1) ∷ Statement 5 (allocates 2 (Character 2))
    ∷ Statement 6 (Assign (by_pointer 2 (Character 2)) (text (codes "AB")))
    ∷ Statement 7 (Put false (Held (by_pointer 1 (Character 2)) ∷ []))
    ∷ Statement 8 (frees 1) ∷ Statement 9 (frees 2) ∷ []) (codes "AB ") 4 error.DeadLocator 9
  where
    frees : (pointer : ℕ) → Form
    frees pointer = Free (FreesBased (held_in 0 pointer) (Character 2) ∷ [])

-- `1 N BASED, 2 V FIXED BIN(31), 2 NEXT OFFSET(A)`
abbrev pub node : Description
node = Structure (MemberThen (FixedBinary 31) (MemberThen Offset NoMembers))

-- V by an offset of the area in a slot
abbrev pub number_by : (area : ℕ) → TypedExpression → TypedReference
number_by area e = Part (Located (AsPointer (slot 0 area) e) node) 0 (FixedBinary 31) NoSubscript

-- NEXT by an offset of the area in a slot
abbrev pub next_by : (area : ℕ) → TypedExpression → TypedReference
next_by area e = Part (Located (AsPointer (slot 0 area) e) node) 4 Offset NoSubscript

-- `ALLOCATE N SET(O); O -> V = n; O -> NEXT = H; H = O;`, O in slot 2, H in slot 3
abbrev pub links : (first second third fourth n : ℕ) → List TypedStatement
links first second third fourth n =
    Statement first (allocates_by_offset (slot 0 2) node)
    ∷ Statement second (Assign (number_by 0 (held_in 0 2)) (number n))
    ∷ Statement third (Assign (next_by 0 (held_in 0 2)) (held_in 0 3))
    ∷ Statement fourth (Assign (slot 0 3) (held_in 0 2)) ∷ []

-- so with 1 and with 2; then `B = A;`, and the list is read in B: `PUT LIST(V, NEXT -> V);` from H on
abbrev pub ListInArea : Type 0
ListInArea =
    Prints
    (alone (small ∷ small ∷ Offset ∷ Offset ∷ [])
    (links 3 4 5 6 1 ++ links 7 8 9 10 2
    ++ Statement 11 (AssignArea (slot 0 1) area)
    ∷ Statement 12 (Put false (shown (Held (number_by 1 (held_in 0 3)))
    ∷ shown (Held (number_by 1 (Held (next_by 1 (held_in 0 3))))) ∷ [])) ∷ [])) 11
    (codes "   2 " ++ codes "                   " ++ codes "   1 ") Ended 30

-- with a CONTROLLED area C that has no generation, `PUT LIST(O -> K);` ends so, though O is null: the area is
-- evaluated in each conversion
abbrev pub NoAreaIsError : Type 0
NoAreaIsError =
    whole_run (record {
      units =
          unit_of (codes "M") nothing_given (OwnVariable Controlled (of small) ∷ [])
          (main_of (of Offset ∷ []) (listed
          (Statement 3 (Put false (Held (Whole
          (Located (AsPointer (Whole (NewestOf 0)) (held_in 0 0)) (Character 4))) ∷ [])) ∷ [])) ∷ []) ∷ [];
      main = 0;
      greatest = 63;
    }) 9
    ≡ Some (record { output = []; ending = Error error.NoGeneration (codes "M") 3; column = 1 })
