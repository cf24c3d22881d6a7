-- Worked examples of whole units: initial values, and a typed unit.
use Rattle.std.specs.Prelude.{◌+◌, Bool, map, ◌≡◌, ℕ, true, false, pos, Some, None, Ok, Err, List, [], ◌∷◌}
use Rattle.std.specs.Prelude.{codes}
use Rattle.pli_base.specs.Declarations.{Simple, SimpleAttribute, Bit}
use Rattle.pli_base.specs.Statements.{Main, Statement, Numbered, Body, Statements, Ended, Before}
use Rattle.pli_base.specs.Statements.{Declare, ExternalProcedure}
use Rattle.pli_base.specs.declared.code.Code.TheVariants.{CannotAssign}
use Rattle.pli_base.specs.declared.declaration.InitialValue.{InitialValue}
use Rattle.pli_base.specs.declared.declaration.InitialValue.TheVariants as initial
use Rattle.pli_map.specs.Description as described
use Rattle.pli_map.specs.Description.{Description, Structure, NoMembers, MemberThen}
use Rattle.pli_type_rules.specs.Checked.{checked}
use Rattle.pli_type_rules.specs.ExpressionTypes.{with_one}
use Rattle.pli_type_rules.specs.InitialScalars.{InitialItem, template_of, initial_scalars}
use Rattle.pli_type_rules.specs.Names.{NamedUnit}
use Rattle.pli_type_laws.specs.examples.ExampleTrees.{array, naming, called, alone_named, text}
use Rattle.pli_type_laws.specs.examples.ExampleTrees.{of_bits, assign, x}
use Rattle.pli_type_tree.specs.Templates.{InitialScalar}
use Rattle.pli_type_tree.specs.TypedTree as typed
use Rattle.pli_type_tree.specs.TypedTree.{TypedUnit, InSlot, Fit, Whole, Literal, NoStatement, StatementThen}
use Rattle.pli_value.specs.Value.{Value, Number, Characters, Bits}

-- statements one after another
abbrev pub all_of : List Statement → Statements
all_of [] = Ended
all_of (s ∷ ss) = Before s (all_of ss)

-- `M: PROC OPTIONS(MAIN); .. END M;`, whose statements begin at token 8 or after it
abbrev pub main : List Statement → ExternalProcedure
main statements = record {
  heading = record {
    name = called (codes "M") 0;
    number = 1;
    parameters = [];
    options = Main ∷ [];
  };
  statements = all_of statements;
  end = 9;
}

-- `DCL X ..;` at token 8
abbrev pub declare : List SimpleAttribute → Statement
declare attributes =
    Numbered 2 None 8
    (Declare (record {
      level = None;
      names = called (codes "X") 9 ∷ [];
      dimensions = [];
      attributes = map Simple attributes;
    } ∷ []))

-- what a statement is
abbrev pub body_of : Statement → Body
body_of (Numbered number label at body) = body

-- FIXED BINARY values without a factor
abbrev pub numbers : List ℕ → List InitialValue
numbers [] = []
numbers (n ∷ ns) = initial.Integer None (record { negative = false; value = n }) ∷ numbers ns

-- an initial value of the scalar that begins on a byte
abbrev pub scalar : (offset : ℕ) → Value → InitialScalar
scalar offset value = record { offset = offset; value = value }

-- bits from ones and zeros, as INITIAL has them
abbrev pub bits : List Bool → InitialValue
bits given = initial.Bits given

-- an item with INITIAL at the end of a path
abbrev pub item : (path : List ℕ) → List InitialValue → InitialItem
item path values = record { path = path; values = values }

-- an array of two structures of two bits
abbrev pub pairs : Description
pairs = array 2 (Structure (MemberThen (described.Bit 1) (MemberThen (described.Bit 1) NoMembers)))

-- 1 S(2), 2 A(2) FIXED BIN INIT(1, 2, 3): A(1, 1), A(1, 2), A(2, 1)
-- 1 S(2), 2 A BIT INIT('1'B, '1'B), 2 B BIT INIT('1'B, '0'B): first A of both elements, then B
-- X(3) FIXED BIN INIT((2) 1): two elements
-- C CHAR(3) INIT('A'), V CHAR(1) VAR INIT('AB'): as they are held
abbrev pub InitialValues : Type 0
InitialValues =
    (initial_scalars
    (array 2 (Structure (MemberThen (array 2 (described.FixedBinary 15)) NoMembers)))
    (item (0 ∷ []) (numbers (1 ∷ 2 ∷ 3 ∷ [])))
    ≡ scalar 0 (Number (pos 1)) ∷ scalar 2 (Number (pos 2)) ∷ scalar 4 (Number (pos 3)) ∷ [])
    × ((template_of pairs
    (item (0 ∷ []) (bits (true ∷ []) ∷ bits (true ∷ []) ∷ [])
    ∷ item (1 ∷ []) (bits (true ∷ []) ∷ bits (false ∷ []) ∷ []) ∷ [])).initial
    ≡ scalar 0 (Bits (true ∷ [])) ∷ scalar 2 (Bits (true ∷ [])) ∷ scalar 1 (Bits (true ∷ []))
    ∷ scalar 3 (Bits (false ∷ [])) ∷ [])
    × (initial_scalars (array 3 (described.FixedBinary 15))
    (item [] (initial.Integer (Some 2) (record { negative = false; value = 1 }) ∷ []))
    ≡ scalar 0 (Number (pos 1)) ∷ scalar 2 (Number (pos 1)) ∷ [])
    × (initial_scalars (described.Character 3) (item [] (initial.Characters (codes "A") ∷ []))
    ≡ scalar 0 (Characters (codes "A  ")) ∷ [])
    × (initial_scalars (described.Varying 1) (item [] (initial.Characters (codes "AB") ∷ []))
    ≡ scalar 0 (Characters (codes "A")) ∷ [])

-- a unit that declares X as BIT, whose name stands at these tokens
abbrev pub with_x : List ℕ → List Statement → NamedUnit
with_x tokens statements = record {
  tree = main (declare (Bit None ∷ []) ∷ statements);
  is_based = λ at. false;
  naming = λ blocks. naming (map (λ at. (at, x)) tokens);
  parameters = λ block. [];
  returned = λ block. None;
  automatic = λ block. template_of (described.Bit 1) [] ∷ [];
  globals = [];
}

-- `X = 'A';` from this token on
abbrev pub bad_assignment : (number at : ℕ) → Statement
bad_assignment number at = assign number at (alone_named (codes "X") at) (at + 1) (text (codes "A") (at + 2))

-- `X = '1'B;` from this token on
abbrev pub good_assignment : (number at : ℕ) → Statement
good_assignment number at =
    assign number at (alone_named (codes "X") at) (at + 1) (of_bits (codes "1") (at + 2))

-- M: PROC OPTIONS(MAIN); DCL X BIT; X = '1'B; END M; as it is typed
abbrev pub typed_unit : TypedUnit
typed_unit = record {
  name = codes "M";
  procedure = codes "M";
  is_main = true;
  signature = record { parameters = []; result = None };
  globals = [];
  procedures = record {
    is_on_unit = false;
    head = record {
      number = 0;
      statement = 1;
      variables = template_of (described.Bit 1) [] ∷ [];
      temporaries = 0;
    };
    parent = None;
    parameters = 0;
    function_end = None;
    statements = StatementThen
        (typed.Statement 3 (typed.Assign (Whole (InSlot 0 0))
        (with_one (Fit (described.Bit 1)) (Literal (Bits (true ∷ [])))))) NoStatement;
  } ∷ [];
}

-- M: PROC OPTIONS(MAIN); DCL X BIT; X = '1'B; END M;
-- with two bad assignments in its place
abbrev pub CheckedUnits : Type 0
CheckedUnits =
    (checked (with_x (12 ∷ []) (good_assignment 3 12 ∷ [])) ≡ Ok typed_unit)
    × (checked (with_x (12 ∷ 16 ∷ []) (bad_assignment 3 12 ∷ bad_assignment 4 16 ∷ []))
    ≡ Err (record { code = CannotAssign; at = 13 } ∷ record { code = CannotAssign; at = 17 } ∷ []))
