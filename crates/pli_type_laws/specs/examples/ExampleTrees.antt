-- What the worked examples have in common: declarations, and parts of trees.
--
--     DCL X BIT, N FIXED BIN(15), I FIXED BIN(31), V CHAR(20) VAR, C CHAR(6), A(2) BIT, R(3) FIXED BIN(15),
--         P(3) BIT, Q(2:4) BIT, 1 S(2), 2 A FIXED BIN(31), 2 B(3:5, 2) CHAR(3), 1 W(2), 2 D(2) BIT,
--         1 T, 2 Y BIT;
--
-- and a label L in the procedure M.
use Rattle.std.specs.Prelude.{ℕ, nat_eq, Bool, false, pos, Option, Some, None, option_map, List, [], ◌∷◌, map}
use Rattle.std.specs.Prelude.{Result, Ok, Err, option_and_then, if◌then◌else◌}
use Rattle.pli_base.specs.Name.{Name}
use Rattle.pli_base.specs.Statements.{Statement, Alternative, Numbered, Assign, Put, If, Null, Ended}
use Rattle.pli_base.specs.Statements.{ExternalProcedure}
use Rattle.pli_base.specs.Syntax.{Expression, Referred, Constant, Reference, Named, Absent, Alone}
use Rattle.pli_base.specs.declared.code.Code.{Code}
use Rattle.pli_base.specs.declared.syntax.ConstantValue.TheVariants.{Decimal, Binary, Characters, Bits}
use Rattle.pli_base.specs.declared.syntax.Identifier.{Identifier}
use Rattle.pli_base.specs.declared.token.Fault.{Fault}
use Rattle.pli_map.specs.ParameterTypes.{Stated}
use Rattle.pli_map.specs.Description.{Description, FixedBinary, Character, Varying, Bit, Array, Structure}
use Rattle.pli_map.specs.Description.{NoMembers, MemberThen}
use Rattle.pli_map.specs.declared.description.Bounds.{Bounds}
use Rattle.pli_type_rules.specs.ExpressionTypes.{width_of}
use Rattle.pli_type_rules.specs.Checked.{in_unit, first_inside}
use Rattle.pli_type_rules.specs.FunctionCalls.{Denoted, DenotesVariable}
use Rattle.pli_type_rules.specs.Names.{NamedAs, AVariable, AFunction, AProcedure, ALabel, Untyped, Naming}
use Rattle.pli_type_rules.specs.Names.{Begins, NamedUnit}
use Rattle.pli_type_rules.specs.NamedUnits.{names_based}
use Rattle.pli_type_rules.specs.References.{AsTarget}
use Rattle.pli_type_rules.specs.StatementTyping.{WithProcedures, statement_typed}
use Rattle.pli_type_rules.specs.Typing.{value_of, referred}
use Rattle.pli_type_tree.specs.Templates.{Template}
use Rattle.pli_type_tree.specs.TypedTree.{InSlot, TypedExpression, Literal, Held, TypedReference, Whole}
use Rattle.pli_type_tree.specs.TypedTree.{OfBlock, Stride}
use Rattle.pli_type_tree.specs.TypedTree.{TypedStatement, Form}
use Rattle.pli_type_tree.specs.TypedTree as typed
use Rattle.pli_value.specs.Value as values
use Rattle.pli_value.specs.Value.{Number}
use Rattle.pli_type_rules.specs.declared.expression_type.ExpressionType.{ExpressionType}
use Rattle.pli_declare.specs.declared.built_in.BuiltInFunction.TheVariants as functions

-- from one bound to another
abbrev pub between : (low high : ℕ) → Bounds
between low high = record { low = pos low; high = pos high }

-- an array of one dimension from 1
abbrev pub array : (high : ℕ) → Description → Description
array high d = Array (between 1 high ∷ []) d

-- a variable of its own, or a member, of the variable in a slot
abbrev pub variable : (slot : ℕ) → Description → (path : List ℕ) → NamedAs
variable slot d path =
    AVariable (record { storage = Begins (InSlot 0 slot) false; whole = Stated d; path = path; area = None })

-- a variable of its own, in a slot
abbrev pub alone : (slot : ℕ) → Description → NamedAs
alone slot d = variable slot d []

-- X
abbrev pub x : NamedAs
x = alone 0 (Bit 1)

-- N
abbrev pub n : NamedAs
n = alone 1 (FixedBinary 15)

-- I
abbrev pub i : NamedAs
i = alone 2 (FixedBinary 31)

-- V
abbrev pub v : NamedAs
v = alone 3 (Varying 20)

-- C
abbrev pub c : NamedAs
c = alone 4 (Character 6)

-- A
abbrev pub a : NamedAs
a = alone 5 (array 2 (Bit 1))

-- R
abbrev pub r : NamedAs
r = alone 6 (array 3 (FixedBinary 15))

-- P
abbrev pub p : NamedAs
p = alone 7 (array 3 (Bit 1))

-- Q
abbrev pub q : NamedAs
q = alone 8 (Array (between 2 4 ∷ []) (Bit 1))

-- the structure that is an element of S
abbrev pub s_element : Description
s_element =
    Structure (MemberThen (FixedBinary 31)
    (MemberThen (Array (between 3 5 ∷ between 1 2 ∷ []) (Character 3)) NoMembers))

-- S
abbrev pub s : NamedAs
s = alone 9 (array 2 s_element)

-- S.A
abbrev pub s_a : NamedAs
s_a = variable 9 (array 2 s_element) (0 ∷ [])

-- S.B
abbrev pub s_b : NamedAs
s_b = variable 9 (array 2 s_element) (1 ∷ [])

-- what W is
abbrev pub w_whole : Description
w_whole = array 2 (Structure (MemberThen (array 2 (Bit 1)) NoMembers))

-- W
abbrev pub w : NamedAs
w = alone 10 w_whole

-- W.D
abbrev pub w_d : NamedAs
w_d = variable 10 w_whole (0 ∷ [])

-- T
abbrev pub t : NamedAs
t = alone 11 (Structure (MemberThen (Bit 1) NoMembers))

-- a label of statement 7
abbrev pub label : NamedAs
label = ALabel 7

-- a procedure without parameters that gives nothing
abbrev pub procedure : NamedAs
procedure = AProcedure (record { callee = OfBlock 0; parameters = []; returned = None; area = None })

-- ABS
abbrev pub abs : NamedAs
abs = AFunction functions.Abs

-- MAX
abbrev pub greatest : NamedAs
greatest = AFunction functions.Max

-- MIN
abbrev pub least : NamedAs
least = AFunction functions.Min

-- MOD
abbrev pub modulo : NamedAs
modulo = AFunction functions.Mod

-- DIVIDE
abbrev pub divide : NamedAs
divide = AFunction functions.Divide

-- SIGN
abbrev pub sign : NamedAs
sign = AFunction functions.Sign

-- LENGTH
abbrev pub length_of : NamedAs
length_of = AFunction functions.Length

-- INDEX
abbrev pub index : NamedAs
index = AFunction functions.Index

-- LBOUND
abbrev pub low_bound : NamedAs
low_bound = AFunction functions.LowBound

-- HBOUND
abbrev pub high_bound : NamedAs
high_bound = AFunction functions.HighBound

-- SUBSTR
abbrev pub substring : NamedAs
substring = AFunction functions.Substring

-- what names at tokens mean
abbrev pub meaning_in : List (ℕ × NamedAs) → (at : ℕ) → NamedAs
meaning_in [] at = Untyped
meaning_in (m ∷ ms) at = if nat_eq m.0 at then m.1 else meaning_in ms at

-- the BASED variable of block 1 is a FIXED BIN(15); no other block has any
abbrev pub based_in : (block : ℕ) → List Template
based_in block =
    if nat_eq block 1 then record { description = FixedBinary 15; initial = [] } ∷ [] else []

-- what names mean, where numbers have at most 63 binary digits
abbrev pub naming : List (ℕ × NamedAs) → Naming
naming meanings = record {
  greatest = 63;
  based = based_in;
  returned_area = λ block. None;
  meaning = meaning_in meanings;
}

-- which of them are names of BASED variables
abbrev pub based_named : List (ℕ × NamedAs) → (at : ℕ) → Bool
based_named meanings at = names_based (meaning_in meanings at)

-- a unit of this tree, whose names mean the same in all its blocks, and which has no variables
abbrev pub unit_of : ExternalProcedure → List (ℕ × NamedAs) → NamedUnit
unit_of tree meanings = record {
  tree = tree;
  is_based = based_named meanings;
  naming = λ blocks. naming meanings;
  parameters = λ block. [];
  returned = λ block. None;
  automatic = λ block. [];
  globals = [];
}

-- a unit without statements
abbrev pub no_tree : ExternalProcedure
no_tree = record {
  heading = record { name = record { name = []; at = 0 }; number = 1; parameters = []; options = [] };
  statements = Ended;
  end = 2;
}

-- a statement directly in the external procedure
abbrev pub typed_statement : List (ℕ × NamedAs) → Statement
    → Result (WithProcedures TypedStatement) (List Fault)
typed_statement meanings statement =
    statement_typed (unit_of no_tree meanings) (in_unit None Ended) first_inside statement

-- parts of trees

-- a name at a token
abbrev pub called : Name → (at : ℕ) → Identifier
called name at = record { name = name; at = at }

-- a constant of characters at a token
abbrev pub text : List ℕ → (at : ℕ) → Expression
text characters at = Constant at (Characters characters)

-- a decimal constant at a token
abbrev pub decimal : (value digits at : ℕ) → Expression
decimal value digits at = Constant at (Decimal value digits)

-- a binary constant at a token
abbrev pub binary : (value digits at : ℕ) → Expression
binary value digits at = Constant at (Binary value digits)

-- a name without parentheses and further parts
abbrev pub alone_named : Name → (at : ℕ) → Reference
alone_named name at = Named (called name at) Absent Alone

-- the same as an expression
abbrev pub named : Name → (at : ℕ) → Expression
named name at = Referred (alone_named name at)

-- an assignment, by number and first token
abbrev pub assign : (number at : ℕ) → Reference → (equals : ℕ) → Expression → Statement
assign number at target equals e = Numbered number None at (Assign target equals e)

-- PUT LIST
abbrev pub put : (number at : ℕ) → (skip : Bool) → List Expression → Statement
put number at skip items = Numbered number None at (Put skip items)

-- IF
abbrev pub choice : (number at : ℕ) → Expression → Statement → Alternative → Statement
choice number at condition consequence alternative =
    Numbered number None at (If condition consequence alternative)

-- a null statement
abbrev pub null : (number at : ℕ) → Statement
null number at = Numbered number None at Null

-- bits from the characters 0 and 1
abbrev pub of_bits : List ℕ → (at : ℕ) → Expression
of_bits characters at = Constant at (Bits (map (nat_eq 49) characters))

-- what the examples ask

-- the faults that an answer tells
abbrev pub faults_in : {A : Type 0} → Result A (List Fault) → List Fault
faults_in (Ok x) = []
faults_in (Err fs) = fs

-- the faults of a statement, the first of whose tokens has the number 0
abbrev pub faults : List (ℕ × NamedAs) → Statement → List Fault
faults meanings statement = faults_in (typed_statement meanings statement)

-- one fault at a token
abbrev pub one : Code → (at : ℕ) → List Fault
one code at = record { code = code; at = at } ∷ []

-- no fault
abbrev pub good : List Fault
good = []

-- what there is without a fault
abbrev pub if_good : {A E : Type 0} → Result A E → Option A
if_good (Ok x) = Some x
if_good (Err e) = None

-- the type of an expression
abbrev pub type_given : List (ℕ × NamedAs) → Expression → Option ExpressionType
type_given meanings e = option_map (λ v. v.kind) (if_good (value_of (naming meanings) e))

-- in how many columns it is printed
abbrev pub width_printed : List (ℕ × NamedAs) → Expression → Option ℕ
width_printed meanings e = option_and_then width_of (type_given meanings e)

-- the form of a typed statement
abbrev pub form_in : TypedStatement → Form
form_in (typed.Statement number form) = form

-- the typed form of a statement
abbrev pub form_of : List (ℕ × NamedAs) → Statement → Option Form
form_of meanings statement =
    option_map (λ s. form_in s.part) (if_good (typed_statement meanings statement))

-- the variable or part of one that is denoted
abbrev pub part_in : Denoted → Option TypedReference
part_in (DenotesVariable r) = Some r.reference
part_in denoted = None

-- the variable or part of one that a target is
abbrev pub reference_meant : List (ℕ × NamedAs) → Reference → Option TypedReference
reference_meant meanings reference =
    option_and_then part_in (if_good (referred (naming meanings) AsTarget reference))

-- a number, in a typed tree
abbrev pub a_number : ℕ → TypedExpression
a_number value = Literal (Number (pos value))

-- characters, in a typed tree
abbrev pub characters : List ℕ → TypedExpression
characters codes_of = Literal (values.Characters codes_of)

-- what the variable in a slot holds
abbrev pub held : (slot : ℕ) → TypedExpression
held slot = Held (Whole (InSlot 0 slot))

-- the stride of a subscript
abbrev pub stride : (low high multiplier : ℕ) → Stride
stride low high multiplier = record { low = pos low; high = pos high; multiplier = multiplier }
