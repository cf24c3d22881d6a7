-- Worked examples of typed statements and references.
use Rattle.std.specs.Prelude.{◌≡◌, true, Some, [], ◌∷◌, codes}
use Rattle.pli_base.specs.Statements.{Else}
use Rattle.pli_base.specs.Syntax.{Referred, Parenthesized, Prefix, Infix, Named, Alone, Joined, Absent}
use Rattle.pli_base.specs.Syntax.{Given, Empty, Listed}
use Rattle.pli_base.specs.declared.syntax.InfixOperator.TheVariants as infixes
use Rattle.pli_base.specs.declared.syntax.Joining.TheVariants.{Member}
use Rattle.pli_base.specs.declared.syntax.PrefixOperator.TheVariants as prefixes
use Rattle.pli_map.specs.Description.{Character, Varying, Bit, FixedBinary}
use Rattle.pli_operation.specs.declared.operation.Operation.TheVariants.{Negate, FromBits, ToCharacters, Add}
use Rattle.pli_operation.specs.declared.operation.Operation.TheVariants.{Compare, Concatenate, Divide}
use Rattle.pli_operation.specs.declared.operation.Relation.TheVariants.{Equal}
use Rattle.pli_type_rules.specs.ExpressionTypes.{with_one, with_two}
use Rattle.pli_type_laws.specs.examples.ExampleTrees.{form_of, reference_meant, called, alone_named, named}
use Rattle.pli_type_laws.specs.examples.ExampleTrees.{text}
use Rattle.pli_type_laws.specs.examples.ExampleTrees.{decimal, assign, put, choice, null, a_number, held}
use Rattle.pli_type_laws.specs.examples.ExampleTrees.{stride}
use Rattle.pli_type_laws.specs.examples.ExampleTrees.{characters, s_element, x, n, v, c, a, r, p, s, s_b, w_d}
use Rattle.pli_type_laws.specs.examples.ExampleTrees.{divide}
use Rattle.pli_type_laws.specs.examples.ExampleTrees.{high_bound}
use Rattle.pli_type_tree.specs.TypedTree as typed
use Rattle.pli_type_tree.specs.TypedTree.{Fit, Operate}
use Rattle.pli_type_tree.specs.TypedTree.{InSlot, Whole, Part, NoSubscript, SubscriptThen, AssignAggregate}

-- A constant that is all that is converted is FIXED DECIMAL; a prefix `+` leaves nothing; every value is
-- fitted to its target; bits are read as characters beside characters
abbrev pub ConversionsStand : Type 0
ConversionsStand =
    -- V = -(12);
    (form_of ((0, v) ∷ []) (assign 1 0 (alone_named (codes "V") 0) 1 (Prefix prefixes.Minus 2 (Parenthesized
    3 (decimal 12 2 4)))) ≡ Some (typed.Assign (Whole (InSlot 0 3)) (with_one (Fit (Varying 20)) (with_one
    (Operate (ToCharacters 5)) (with_one (Operate Negate) (a_number 12))))))
    -- V = +5;
    × (form_of ((0, v) ∷ []) (assign 1 0 (alone_named (codes "V") 0) 1 (Prefix prefixes.Plus 2 (decimal 5 1
    3))) ≡ Some (typed.Assign (Whole (InSlot 0 3)) (with_one (Fit (Varying 20)) (with_one
    (Operate (ToCharacters 4)) (a_number 5)))))
    -- V = 5 + 5;
    × (form_of ((0, v) ∷ []) (assign 1 0 (alone_named (codes "V") 0) 1 (Infix infixes.Add 3 (decimal 5 1 2)
    (decimal 5 1 4))) ≡ Some (typed.Assign (Whole (InSlot 0 3)) (with_one (Fit (Varying 20)) (with_one
    (Operate (ToCharacters 6)) (with_two Add (a_number 5) (a_number 5))))))
    -- N = DIVIDE(1, 1, 063);
    × (form_of ((0, n) ∷ (2, divide) ∷ []) (assign 1 0 (alone_named (codes "N") 0) 1 (Referred (Named
    (called (codes "DIVIDE") 2) (Given (Listed (decimal 1 1 4) (Listed (decimal 1 1 6) (Listed (decimal 63 3
    8) Empty)))) Alone))) ≡ Some (typed.Assign (Whole (InSlot 0 1)) (with_one (Fit (FixedBinary 15))
    (with_two (Divide 63) (a_number 1) (a_number 1)))))
    -- N = HBOUND(R, 1);
    × (form_of ((0, n) ∷ (2, high_bound) ∷ (4, r) ∷ []) (assign 1 0 (alone_named (codes "N") 0) 1 (Referred
    (Named (called (codes "HBOUND") 2) (Given (Listed (named (codes "R") 4) (Listed (decimal 1 1 6) Empty)))
    Alone))) ≡ Some (typed.Assign (Whole (InSlot 0 1)) (with_one (Fit (FixedBinary 15)) (a_number 3))))
    -- X = X = '1 ';
    × (form_of ((0, x) ∷ (2, x) ∷ []) (assign 1 0 (alone_named (codes "X") 0) 1 (Infix infixes.Equal 3
    (named (codes "X") 2) (text (codes "1 ") 4))) ≡ Some (typed.Assign (Whole (InSlot 0 0)) (with_one (Fit
    (Bit 1)) (with_two (Compare Equal) (with_one (Operate FromBits) (held 0)) (characters (codes "1 "))))))
    -- C = X || 'X';
    × (form_of ((0, c) ∷ (2, x) ∷ []) (assign 1 0 (alone_named (codes "C") 0) 1 (Infix infixes.Concatenate 3
    (named (codes "X") 2) (text (codes "X") 4))) ≡ Some (typed.Assign (Whole (InSlot 0 4)) (with_one (Fit
    (Character 6)) (with_two Concatenate (with_one (Operate FromBits) (held 0)) (characters (codes "X"))))))
    -- C = X;
    × (form_of ((0, c) ∷ (2, x) ∷ []) (assign 1 0 (alone_named (codes "C") 0) 1 (named (codes "X") 2)) ≡
    Some (typed.Assign (Whole (InSlot 0 4)) (with_one (Fit (Character 6)) (with_one (Operate FromBits)
    (held 0)))))
    -- P = P;
    × (form_of ((0, p) ∷ (2, p) ∷ []) (assign 1 0 (alone_named (codes "P") 0) 1 (named (codes "P") 2)) ≡
    Some (AssignAggregate (Whole (InSlot 0 7)) (Whole (InSlot 0 7))))
    -- PUT SKIP LIST(N, X, C, 007);
    × (form_of ((4, n) ∷ (6, x) ∷ (8, c) ∷ []) (put 1 0 true ((named (codes "N") 4) ∷ (named (codes "X") 6)
    ∷ (named (codes "C") 8) ∷ (decimal 7 3 10) ∷ [])) ≡ Some (typed.Put true (with_one
    (Operate (ToCharacters 9))
    (held 1) ∷ held 0 ∷ held 4 ∷ with_one (Operate (ToCharacters 6)) (a_number 7) ∷ [])))
    -- IF X THEN ; ELSE ;
    × (form_of ((1, x) ∷ []) (choice 1 0 (named (codes "X") 1) (null 2 3) (Else (null 3 5))) ≡ Some
    (typed.If (held 0) (typed.Statement 2 typed.Null) (typed.Else (typed.Statement 3 typed.Null))))

-- A part has the offset that it has where all subscripts are the lowest, and the bytes from one element to
-- the next of each dimension, for all levels in turn
abbrev pub SubscriptsHaveStrides : Type 0
SubscriptsHaveStrides =
    -- S.B(1, 4, 1)
    (reference_meant ((0, s_b) ∷ []) (Named (called (codes "S") 0) Absent (Joined Member (called (codes "B")
    2) (Given (Listed (decimal 1 1 4) (Listed (decimal 4 1 6) (Listed (decimal 1 1 8) Empty)))) Alone)) ≡
    Some (Part (InSlot 0 9) 4 (Character 3) (SubscriptThen (stride 1 2 24) (a_number 1) (SubscriptThen
    (stride 3 5 6) (a_number 4) (SubscriptThen (stride 1 2 3) (a_number 1) NoSubscript)))))
    -- S(1).B(4, 1)
    × (reference_meant ((0, s_b) ∷ []) (Named (called (codes "S") 0) (Given (Listed (decimal 1 1 2) Empty))
    (Joined Member (called (codes "B") 5) (Given (Listed (decimal 4 1 7) (Listed (decimal 1 1 9) Empty)))
    Alone)) ≡ Some (Part (InSlot 0 9) 4 (Character 3) (SubscriptThen (stride 1 2 24) (a_number 1)
    (SubscriptThen (stride 3 5 6) (a_number 4) (SubscriptThen (stride 1 2 3) (a_number 1) NoSubscript)))))
    -- S(1)
    × (reference_meant ((0, s) ∷ []) (Named (called (codes "S") 0) (Given (Listed (decimal 1 1 2) Empty))
    Alone) ≡ Some (Part (InSlot 0 9) 0 s_element (SubscriptThen (stride 1 2 24) (a_number 1) NoSubscript)))
    -- S
    × (reference_meant ((0, s) ∷ []) (alone_named (codes "S") 0) ≡ Some (Whole (InSlot 0 9)))
    -- X()
    × (reference_meant ((0, x) ∷ []) (Named (called (codes "X") 0) (Given Empty) Alone) ≡ Some (Whole
    (InSlot 0 0)))
    -- A(2)
    × (reference_meant ((0, a) ∷ []) (Named (called (codes "A") 0) (Given (Listed (decimal 2 1 2) Empty))
    Alone) ≡ Some (Part (InSlot 0 5) 0 (Bit 1) (SubscriptThen (stride 1 2 1) (a_number 2) NoSubscript)))
    -- W(1).D(2)
    × (reference_meant ((0, w_d) ∷ []) (Named (called (codes "W") 0) (Given (Listed (decimal 1 1 2) Empty))
    (Joined Member (called (codes "D") 5) (Given (Listed (decimal 2 1 7) Empty)) Alone)) ≡ Some (Part
    (InSlot 0 10) 0 (Bit 1) (SubscriptThen (stride 1 2 2) (a_number 1) (SubscriptThen (stride 1 2 1)
    (a_number 2) NoSubscript))))
    -- D(1, 2)
    × (reference_meant ((0, w_d) ∷ []) (Named (called (codes "D") 0) (Given (Listed (decimal 1 1 2) (Listed
    (decimal 2 1 4) Empty))) Alone) ≡ Some (Part (InSlot 0 10) 0 (Bit 1) (SubscriptThen (stride 1 2 2)
    (a_number 1) (SubscriptThen (stride 1 2 1) (a_number 2) NoSubscript))))
    -- W(1, 2).D
    × (reference_meant ((0, w_d) ∷ []) (Named (called (codes "W") 0) (Given (Listed (decimal 1 1 2) (Listed
    (decimal 2 1 4) Empty))) (Joined Member (called (codes "D") 7) Absent Alone)) ≡ Some (Part (InSlot 0 10)
    0 (Bit 1) (SubscriptThen (stride 1 2 2) (a_number 1) (SubscriptThen (stride 1 2 1) (a_number 2)
    NoSubscript))))
