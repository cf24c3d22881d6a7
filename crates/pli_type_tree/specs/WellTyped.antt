-- Well-typed trees: what a type checker promises, so that a run never asks for what is not there. A typing
-- context says what is known at a place of the text: the blocks around it, the innermost first, each with the
-- types of its slots and the labels that a GOTO may lead to.
use Rattle.std.specs.Prelude.{◌≡◌, ℕ, suc, ◌+◌, ◌*◌, nat_eq, Bool, true, false, ℤ, ◌-ℤ◌, int_le, unsigned_abs}
use Rattle.std.specs.Prelude.{◌≤◌, IsTrue, Option, Some, None}
use Rattle.std.specs.Prelude.{List, [], ◌∷◌, ◌++◌, length, map, slice_get, if◌then◌else◌}
use Rattle.std.specs.List.{list_any}
use Rattle.pli_map.specs.Description.{Description, Character, Varying, Bit, Pointer, Array}
use Rattle.pli_map.specs.ParameterTypes.{ParameterType, Stated, AnyString, AnyArray, agrees, element_type}
use Rattle.pli_map.specs.Scalars.{first_scalar, is_area, scalars_of}
use Rattle.pli_map.specs.Sizes.{size_of}
use Rattle.pli_map.specs.Values.{holds}
use Rattle.pli_map.specs.Variables.{Variable}
use Rattle.pli_map.specs.declared.description.Bounds.{Bounds}
use Rattle.pli_map.specs.declared.parameter.StringForm.{StringForm}
use Rattle.pli_value.specs.Value.{Value}
use Rattle.pli_program.specs.declared.kind.VariableKind.TheVariants.{Static, Controlled}
pub use Rattle.pli_type_tree.specs.Extents.{is_area_type}
use Rattle.pli_type_tree.specs.Globals.{kind_of, described_as, signature_of}
use Rattle.pli_type_tree.specs.Templates.{variable_of}
use Rattle.pli_type_tree.specs.TypedTree.{Root, InSlot, OfProgram, NewestOf, Located, TypedOperation}
use Rattle.pli_type_tree.specs.TypedTree.{TypedExpression, Literal, Held, Calculated, Generations, Address}
use Rattle.pli_type_tree.specs.TypedTree.{AsPointer, AsOffset, Bounded, Conversion, ByOperations, AsPointerIn}
use Rattle.pli_type_tree.specs.TypedTree.{AsOffsetIn, ToPlace}
use Rattle.pli_type_tree.specs.TypedTree.{Callee, OfBlock, OfEntry, Global}
use Rattle.pli_type_tree.specs.TypedTree.{Called, TypedReference, Whole, Part, ElementOf, Operands, NoOperand}
use Rattle.pli_type_tree.specs.TypedTree.{OperandThen}
use Rattle.pli_type_tree.specs.TypedTree.{Subscripts, NoSubscript, SubscriptThen, TypedArguments, NoArgument}
use Rattle.pli_type_tree.specs.TypedTree.{ByPlace, ByDummy, ByString, BlockHead, TypedStatement, Statement}
use Rattle.pli_type_tree.specs.TypedTree.{Form, Null, Assign, AssignString, Allocate, Free, AllocatedItem}
use Rattle.pli_type_tree.specs.TypedTree.{AllocatesControlled}
use Rattle.pli_type_tree.specs.TypedTree.{AllocatesBased, AllocatesInArea, FreedItem, FreesControlled}
use Rattle.pli_type_tree.specs.TypedTree.{FreesBased, AssignAggregate, AssignArea, EmptyArea, Put, If, Begin}
use Rattle.pli_type_tree.specs.TypedTree.{Group, While, Iterate, TypedRange}
use Rattle.pli_type_tree.specs.TypedTree.{Once, ToBy, ByTo, Repeated, RepeatedString, Iteration, Call, Goto}
use Rattle.pli_type_tree.specs.TypedTree.{Return}
use Rattle.pli_type_tree.specs.TypedTree.{ReturnValue, Stop, On, Revert, Signal, OtherWise, NoElse, Else}
use Rattle.pli_type_tree.specs.TypedTree.{TypedStatements}
use Rattle.pli_type_tree.specs.TypedTree.{NoStatement}
use Rattle.pli_type_tree.specs.TypedTree.{StatementThen}
use Rattle.pli_type_tree.specs.ValueTypes.{StringKind, OfBits, ValueType, Numbers, Strings, Pointers}
use Rattle.pli_type_tree.specs.ValueTypes.{Offsets}
use Rattle.pli_type_tree.specs.ValueTypes.{type_held, type_kept, kind_of_form, longest}
use Rattle.pli_type_tree.specs.ValueTypes.{bound_precision, count_precision}
use Rattle.pli_type_tree.specs.ValueTypes.{IsOf, IsHeldBy}
use Rattle.pli_type_tree.specs.ValueTypes.{Operates}

-- a value for each scalar
abbrev pub AreHeld : List Description → List Value → Type 0
AreHeld [] [] = Unit {0}
AreHeld (d ∷ ds) (v ∷ vs) = IsTrue (holds d v) × AreHeld ds vs
AreHeld ds vs = ⊥

-- how many bytes a variable takes at most (own)
abbrev pub variable_limit : ℕ
variable_limit = 1000000

-- a variable takes no more bytes than it may, and begins with values of its scalars
abbrev pub IsMade : Variable → Type 0
IsMade v = (size_of v.description ≤ variable_limit) × AreHeld (scalars_of v.description) v.initial

-- each of these
abbrev pub AreMade : List Variable → Type 0
AreMade [] = Unit {0}
AreMade (v ∷ vs) = IsMade v × AreMade vs

-- no bound is farther from 0 than so
abbrev pub AreNear : List Bounds → Type 0
AreNear [] = Unit {0}
AreNear (b ∷ bs) = (unsigned_abs b.low ≤ 32768) × (unsigned_abs b.high ≤ 32768) × AreNear bs

-- a string, or an element of an array, is no longer than a string may be, and no bound farther from 0
abbrev pub IsNarrowDescription : Description → Type 0
IsNarrowDescription (Character n) = n ≤ longest
IsNarrowDescription (Varying n) = n ≤ longest
IsNarrowDescription (Bit n) = n ≤ longest
IsNarrowDescription (Array bounds element) = AreNear bounds × IsNarrowDescription element
IsNarrowDescription d = Unit {0}

-- what is stated of a type is so
abbrev pub IsNarrow : ParameterType → Type 0
IsNarrow (Stated d) = IsNarrowDescription d
IsNarrow type = Unit {0}

-- a block around: its number; its slots, the first ones, so many, those of its parameters; the labels of its
-- lists that are running; and those among them that last while it runs, of its own list and of none of its
-- groups
pub record BlockAround : Type 0 where
  pub number : ℕ
  pub parameters : ℕ
  pub slots : List ParameterType
  pub labels : List ℕ
  pub lasting : List ℕ

-- a procedure or an ON-unit: the block around it and the blocks around it as its statements know them, its
-- parameters, and its value if it is a function
pub record KnownProcedure : Type 0 where
  pub is_on_unit : Bool
  pub parent : Option ℕ
  pub around : List BlockAround
  pub parameters : List ParameterType
  pub value : Option Description

-- what is known: the globals and the procedures of the unit, the blocks around, of which so many are BEGIN
-- blocks of the procedure, and its value if it is a function
pub record TypingContext : Type 0 where
  pub globals : List Global
  pub procedures : (number : ℕ) → Option KnownProcedure
  pub blocks : List BlockAround
  pub begins : ℕ
  pub value : Option Description

-- references

-- what the variable in a slot of a block is
abbrev pub slot_of : Option BlockAround → (slot : ℕ) → Option ParameterType
slot_of None slot = None
slot_of (Some b) slot = slice_get b.slots slot

-- how many slots of a block are its parameters'
abbrev pub parameters_in : Option BlockAround → ℕ
parameters_in None = 0
parameters_in (Some b) = b.parameters

-- where a reference begins stands a variable's generation as a whole: it is no parameter, for which a part of
-- one may stand
abbrev pub BeginsWhole : TypingContext → Root → Type 0
BeginsWhole s (InSlot outward slot) = parameters_in (slice_get s.blocks outward) ≤ slot
BeginsWhole s root = Unit {0}

-- a reference does not begin at what a locator leads to
abbrev pub IsUnlocated : Root → Type 0
IsUnlocated (Located locator whole) = ⊥
IsUnlocated root = Unit {0}

-- a global is a CONTROLLED variable
abbrev pub IsControlled : TypingContext → (number : ℕ) → Type 0
IsControlled s number = kind_of (slice_get s.globals number) ≡ Some Controlled

-- the subscripts, where they are within their bounds, lead to a part of this description; and each bounds are
-- those of some subscript
abbrev pub LeadTo : (whole : Description) → (offset : ℕ) → Subscripts → (part : Description) → Type 0
LeadTo whole offset NoSubscript part = (k : ℕ) × (first_scalar whole offset part ≡ Some k)
LeadTo whole offset (SubscriptThen stride e more) part =
    IsTrue (int_le stride.low stride.high)
    × ((x : ℤ) → IsTrue (int_le stride.low x) → IsTrue (int_le x stride.high)
    → LeadTo whole (offset + unsigned_abs (x -ℤ stride.low) * stride.multiplier) more part)

-- calls

-- labels are among others
abbrev pub AreAmong : (labels others : List ℕ) → Type 0
AreAmong labels others =
    (label : ℕ) → IsTrue (list_any (nat_eq label) labels) → IsTrue (list_any (nat_eq label) others)

-- the same blocks, where at least these labels are known, and last
abbrev pub AreAround : (here around : List BlockAround) → Type 0
AreAround [] [] = Unit {0}
AreAround (b ∷ bs) (c ∷ cs) =
    (b.number ≡ c.number) × ((b.parameters ≡ c.parameters) × (b.slots ≡ c.slots))
    × AreAmong c.labels b.labels × AreAmong c.lasting b.lasting × AreAround bs cs
AreAround bs cs = ⊥

-- the blocks around an ON-unit that stands here: of the innermost one it knows the labels that last, as it
-- may run while no group there does
abbrev pub AreAroundOnUnit : (here around : List BlockAround) → Type 0
AreAroundOnUnit (b ∷ bs) (c ∷ cs) =
    (b.number ≡ c.number) × ((b.parameters ≡ c.parameters) × (b.slots ≡ c.slots))
    × AreAmong c.labels b.lasting × AreAmong c.lasting b.lasting × AreAround bs cs
AreAroundOnUnit bs cs = ⊥

-- the blocks around from the nearest of a number on
abbrev pub blocks_from : (number : ℕ) → List BlockAround → Option (List BlockAround)
blocks_from number [] = None
blocks_from number (b ∷ bs) = if nat_eq b.number number then Some (b ∷ bs) else blocks_from number bs

-- a procedure whose block around has this number, or which has none, is reached
abbrev pub IsReached : Option ℕ → (here around : List BlockAround) → Type 0
IsReached None here around = around ≡ []
IsReached (Some parent) here around =
    (found : List BlockAround) × (blocks_from parent here ≡ Some found) × AreAround found around

-- what is called takes these parameters, and gives a value of this description if it is a function: a
-- procedure of the unit that is reached, or an external one
abbrev pub IsCallee : List Global → (procedures : ℕ → Option KnownProcedure) → (here : List BlockAround)
    → Callee → (parameters : List ParameterType) → (value : Option Description) → Type 0
IsCallee globals procedures here (OfBlock block) parameters value =
    (p : KnownProcedure) × (procedures block ≡ Some p) × (p.is_on_unit ≡ false)
    × IsReached p.parent here p.around × (p.parameters ≡ parameters) × (p.value ≡ value)
IsCallee globals procedures here (OfEntry number) parameters value =
    signature_of (slice_get globals number) ≡ Some (record { parameters = parameters; result = value })

-- how many operands there are
abbrev pub operand_count : Operands → ℕ
operand_count NoOperand = 0
operand_count (OperandThen e more) = suc (operand_count more)

-- expressions
abbrev mutual
  -- an expression gives values of a type
  pub IsTyped : (greatest : ℕ) → TypingContext → TypedExpression → ValueType → Type 0
  IsTyped n s (Literal v) t = IsOf t v
  IsTyped n s (Held r) t = (type : ParameterType) × IsPlaced n s r type × (type_kept type ≡ Some t)
  IsTyped n s (Calculated operation operands) t =
      (ts : List ValueType) × AreTyped n s operands ts × Operates n operation ts t
  IsTyped n s (Called callee arguments) t =
      (parameters : List ParameterType) × (d : Description)
      × IsCallee s.globals s.procedures s.blocks callee parameters (Some d)
      × ArePassed n s arguments parameters × (type_held d ≡ Some t)
  IsTyped n s (Generations number) t = IsControlled s number × (t ≡ Numbers count_precision)
  IsTyped n s (Address r) t = IsAddressed n s r × (t ≡ Pointers)
  IsTyped n s (AsPointer area e) t = IsTyped n s e Offsets × IsAreaReference n s area × (t ≡ Pointers)
  IsTyped n s (AsOffset area e) t = IsTyped n s e Pointers × IsAreaReference n s area × (t ≡ Offsets)
  IsTyped n s (Bounded which k r) t =
      ((j : ℕ) × (element : ParameterType) × IsPlaced n s r (AnyArray j element) × (1 ≤ k) × (k ≤ j))
      × (t ≡ Numbers bound_precision)

  -- a pointer leads to a whole variable that is no parameter
  pub IsAddressed : (greatest : ℕ) → TypingContext → TypedReference → Type 0
  IsAddressed n s (Whole root) = BeginsWhole s root × ((d : Description) × IsRooted n s root (Stated d))
  IsAddressed n s (Part root offset part subscripts) = ⊥
  IsAddressed n s (ElementOf root subscripts) = ⊥

  -- a reference leads to an area: it is a whole variable, and none that a locator leads to
  pub IsAreaReference : (greatest : ℕ) → TypingContext → TypedReference → Type 0
  IsAreaReference n s (Whole root) =
      IsUnlocated root × ((d : Description) × IsRooted n s root (Stated d) × (is_area d ≡ true))
  IsAreaReference n s (Part root offset part subscripts) = ⊥
  IsAreaReference n s (ElementOf root subscripts) = ⊥

  -- what the variable is at which a reference begins; a locator gives pointers. What is no parameter is
  -- stated
  pub IsRooted : (greatest : ℕ) → TypingContext → Root → ParameterType → Type 0
  IsRooted n s (InSlot outward slot) type = slot_of (slice_get s.blocks outward) slot ≡ Some type
  IsRooted n s (OfProgram number) type =
      (d : Description) × (type ≡ Stated d) × (described_as Static (slice_get s.globals number) ≡ Some d)
  IsRooted n s (NewestOf number) type =
      (d : Description) × (type ≡ Stated d) × (described_as Controlled (slice_get s.globals number) ≡ Some d)
  IsRooted n s (Located locator whole) type = (type ≡ Stated whole) × IsTyped n s locator Pointers

  -- a reference leads to a variable or a part of this type
  pub IsPlaced : (greatest : ℕ) → TypingContext → TypedReference → ParameterType → Type 0
  IsPlaced n s (Whole root) type = IsRooted n s root type
  IsPlaced n s (Part root offset part subscripts) type =
      (type ≡ Stated part)
      × ((whole : Description) × IsRooted n s root (Stated whole) × LeadTo whole offset subscripts part)
      × AreSubscripts n s subscripts
  IsPlaced n s (ElementOf root subscripts) type =
      ((array : ParameterType) × IsRooted n s root array
      × (element_type (operand_count subscripts) array ≡ Some type))
      × (1 ≤ operand_count subscripts) × AreNumbers n s subscripts

  -- operands give values of these types
  pub AreTyped : (greatest : ℕ) → TypingContext → Operands → List ValueType → Type 0
  AreTyped n s NoOperand ts = ts ≡ []
  AreTyped n s (OperandThen e more) ts =
      (t : ValueType) × (others : List ValueType) × (ts ≡ t ∷ others) × IsTyped n s e t
      × AreTyped n s more others

  -- each subscript gives numbers
  pub AreSubscripts : (greatest : ℕ) → TypingContext → Subscripts → Type 0
  AreSubscripts n s NoSubscript = Unit {0}
  AreSubscripts n s (SubscriptThen stride e more) =
      ((p : ℕ) × IsTyped n s e (Numbers p)) × AreSubscripts n s more

  -- so does each operand
  pub AreNumbers : (greatest : ℕ) → TypingContext → Operands → Type 0
  AreNumbers n s NoOperand = Unit {0}
  AreNumbers n s (OperandThen e more) = ((p : ℕ) × IsTyped n s e (Numbers p)) × AreNumbers n s more

  -- arguments fit parameters: a place that agrees with the parameter's type, for an area that of an area; or a
  -- value that a dummy of it holds; or a string, which is no longer than a dummy of any length may be
  pub ArePassed : (greatest : ℕ) → TypingContext → TypedArguments → List ParameterType → Type 0
  ArePassed n s NoArgument parameters = parameters ≡ []
  ArePassed n s (ByPlace r more) parameters =
      (parameter : ParameterType) × (argument : ParameterType) × (others : List ParameterType)
      × (parameters ≡ parameter ∷ others) × IsPlaced n s r argument
      × IsTrue (agrees parameter argument) × IsNarrow argument
      × (is_area_type parameter ≡ true → IsAreaReference n s r) × ArePassed n s more others
  ArePassed n s (ByDummy d e more) parameters =
      (others : List ParameterType) × (parameters ≡ Stated d ∷ others)
      × ((t : ValueType) × IsTyped n s e t × IsHeldBy d t) × ArePassed n s more others
  ArePassed n s (ByString form e more) parameters =
      (others : List ParameterType) × (parameters ≡ AnyString form ∷ others)
      × ((least : ℕ) × (most : ℕ) × IsTyped n s e (Strings (kind_of_form form) least most) × (most ≤ longest))
      × ArePassed n s more others

-- an expression gives values that a variable of the description holds
abbrev pub IsValueFor : (greatest : ℕ) → TypingContext → Description → TypedExpression → Type 0
IsValueFor n s d e = (t : ValueType) × IsTyped n s e t × IsHeldBy d t

-- an expression gives strings of a kind
abbrev pub IsString : (greatest : ℕ) → TypingContext → StringKind → TypedExpression → Type 0
IsString n s kind e = (least : ℕ) × (most : ℕ) × IsTyped n s e (Strings kind least most)

-- each item of PUT gives strings of a kind
abbrev pub AreItems : (greatest : ℕ) → TypingContext → List TypedExpression → Type 0
AreItems n s [] = Unit {0}
AreItems n s (e ∷ es) = ((kind : StringKind) × IsString n s kind e) × AreItems n s es

-- conversions

-- one operation after another takes values of a type to values that a variable of the description holds
abbrev pub Convert : (greatest : ℕ) → List TypedOperation → ValueType → Description → Type 0
Convert n [] t d = IsHeldBy d t
Convert n (operation ∷ more) t d =
    (u : ValueType) × Operates n operation (t ∷ []) u × Convert n more u d

-- one operation after another takes values of a type to strings of a kind
abbrev pub ConvertToKind : (greatest : ℕ) → List TypedOperation → ValueType → StringKind → Type 0
ConvertToKind n [] t kind = (least : ℕ) × (most : ℕ) × (t ≡ Strings kind least most)
ConvertToKind n (operation ∷ more) t kind =
    (u : ValueType) × Operates n operation (t ∷ []) u × ConvertToKind n more u kind

-- a conversion takes values of a type to values that a variable of the description holds
abbrev pub ConvertsTo : (greatest : ℕ) → TypingContext → Conversion → ValueType → Description → Type 0
ConvertsTo n s (ByOperations operations) t d = Convert n operations t d
ConvertsTo n s (AsPointerIn area) t d = IsAreaReference n s area × (t ≡ Offsets) × IsHeldBy d Pointers
ConvertsTo n s (AsOffsetIn area) t d = IsAreaReference n s area × (t ≡ Pointers) × IsHeldBy d Offsets
ConvertsTo n s (ToPlace operations) t d = ⊥

-- a conversion takes values of a type to strings of a kind, which are then fitted to their place
abbrev pub ConvertsToKind : (greatest : ℕ) → Conversion → ValueType → StringKind → Type 0
ConvertsToKind n (ToPlace operations) t kind = ConvertToKind n operations t kind
ConvertsToKind n conversion t kind = ⊥

-- a conversion takes values of a type to what a variable of another type gets
abbrev pub IsConversion : (greatest : ℕ) → TypingContext → Conversion → ValueType → ParameterType → Type 0
IsConversion n s conversion t (Stated d) = ConvertsTo n s conversion t d
IsConversion n s conversion t (AnyString form) = ConvertsToKind n conversion t (kind_of_form form)
IsConversion n s conversion t type = ⊥

-- what ALLOCATE makes and FREE ends

-- an item of ALLOCATE is of a CONTROLLED variable; of a BASED one that is made well, and sets a POINTER; or
-- of one in an area, which is none itself, and sets what the pointer to it is converted to
abbrev pub IsAllocated : (greatest : ℕ) → TypingContext → AllocatedItem → Type 0
IsAllocated n s (AllocatesControlled number) = IsControlled s number
IsAllocated n s (AllocatesBased t temporary target) =
    IsMade (variable_of t) × IsPlaced n s target (Stated Pointer)
IsAllocated n s (AllocatesInArea area t temporary target conversion) =
    IsAreaReference n s area × (IsMade (variable_of t) × (is_area t.description ≡ false))
    × ((d : Description) × IsPlaced n s target (Stated d) × ConvertsTo n s conversion Pointers d)

-- each item is
abbrev pub AreAllocated : (greatest : ℕ) → TypingContext → List AllocatedItem → Type 0
AreAllocated n s [] = Unit {0}
AreAllocated n s (item ∷ items) = IsAllocated n s item × AreAllocated n s items

-- an item of FREE is of a CONTROLLED variable, or ends what a pointer leads to
abbrev pub IsFreed : (greatest : ℕ) → TypingContext → FreedItem → Type 0
IsFreed n s (FreesControlled number) = IsControlled s number
IsFreed n s (FreesBased locator d) = IsTyped n s locator Pointers

-- each item is
abbrev pub AreFreed : (greatest : ℕ) → TypingContext → List FreedItem → Type 0
AreFreed n s [] = Unit {0}
AreFreed n s (item ∷ items) = IsFreed n s item × AreFreed n s items

-- groups with a control variable

-- an expression gives numbers
abbrev pub IsNumber : (greatest : ℕ) → TypingContext → TypedExpression → Type 0
IsNumber n s e = (p : ℕ) × IsTyped n s e (Numbers p)

-- so does one that may be left out
abbrev pub IsPossibleNumber : (greatest : ℕ) → TypingContext → Option TypedExpression → Type 0
IsPossibleNumber n s None = Unit {0}
IsPossibleNumber n s (Some e) = IsNumber n s e

-- a variable of the description counts: it is a number, and each number is converted to it
abbrev pub Counts : (greatest : ℕ) → TypingContext → Conversion → Description → Type 0
Counts n s conversion d =
    ((q : ℕ) × (type_held d ≡ Some (Numbers q))) × ((p : ℕ) → ConvertsTo n s conversion (Numbers p) d)

-- with TO or BY the control variable counts, and these are numbers; REPEAT gives values that it holds
abbrev pub IsRange : (greatest : ℕ) → TypingContext → Conversion → Description → TypedRange → Type 0
IsRange n s conversion d Once = Unit {0}
IsRange n s conversion d (ToBy to by) =
    Counts n s conversion d × IsNumber n s to × IsPossibleNumber n s by
IsRange n s conversion d (ByTo by to) =
    Counts n s conversion d × IsNumber n s by × IsPossibleNumber n s to
IsRange n s conversion d (Repeated next) = IsValueFor n s d next
IsRange n s conversion d (RepeatedString next) = ⊥

-- a string of any length does not count; REPEAT gives strings of its kind
abbrev pub IsOpenRange : (greatest : ℕ) → TypingContext → StringKind → TypedRange → Type 0
IsOpenRange n s kind Once = Unit {0}
IsOpenRange n s kind (RepeatedString next) = IsString n s kind next
IsOpenRange n s kind range = ⊥

-- a range suits a control variable of a type
abbrev pub IsRangeFor : (greatest : ℕ) → TypingContext → Conversion → ParameterType → TypedRange → Type 0
IsRangeFor n s conversion (Stated d) range = IsRange n s conversion d range
IsRangeFor n s conversion (AnyString form) range = IsOpenRange n s (kind_of_form form) range
IsRangeFor n s conversion type range = ⊥

-- a condition that may be left out gives bits
abbrev pub IsPossibleCondition : (greatest : ℕ) → TypingContext → Option TypedExpression → Type 0
IsPossibleCondition n s None = Unit {0}
IsPossibleCondition n s (Some e) = IsString n s OfBits e

-- the control variable is a scalar, to which the start's values are converted
abbrev pub IsIteration : (greatest : ℕ) → TypingContext → Iteration → Type 0
IsIteration n s i =
    (type : ParameterType) × IsPlaced n s i.control type
    × ((t : ValueType) × IsTyped n s i.start t × IsConversion n s i.conversion t type)
    × IsRangeFor n s i.conversion type i.range × IsPossibleCondition n s i.condition

-- statements

-- the labels of a list are the numbers of its statements
abbrev pub labels_of : TypedStatements → List ℕ
labels_of NoStatement = []
labels_of (StatementThen (Statement number form) more) = number ∷ labels_of more

-- the innermost block, with these labels too
abbrev pub with_labels : List ℕ → List BlockAround → List BlockAround
with_labels labels [] = []
with_labels labels (b ∷ bs) = record b { labels = labels ++ b.labels } ∷ bs

-- in a group, its labels are known too
abbrev pub in_group : TypedStatements → TypingContext → TypingContext
in_group statements s = record s { blocks = with_labels (labels_of statements) s.blocks }

-- a block as its own statements know it
abbrev pub block_of : BlockHead → (parameters : List ParameterType) → TypedStatements → BlockAround
block_of head parameters statements = record {
  number = head.number;
  parameters = length parameters;
  slots = parameters ++ map (λ v. Stated v.description) head.variables;
  labels = labels_of statements;
  lasting = labels_of statements;
}

-- in a BEGIN block
abbrev pub in_begin : BlockHead → TypedStatements → TypingContext → TypingContext
in_begin head statements s =
    record s { blocks = block_of head [] statements ∷ s.blocks; begins = suc s.begins }

-- the labels of a block, if there is one, include this one
abbrev pub knows_label : Option BlockAround → (label : ℕ) → Type 0
knows_label None label = ⊥
knows_label (Some b) label = IsTrue (list_any (nat_eq label) b.labels)

-- the number of the innermost block
abbrev pub innermost : List BlockAround → Option ℕ
innermost [] = None
innermost (b ∷ bs) = Some b.number

-- a block is an ON-unit that stands here; it takes nothing and gives nothing
abbrev pub IsOnUnitHere : TypingContext → (block : ℕ) → Type 0
IsOnUnitHere s block =
    (p : KnownProcedure) × (s.procedures block ≡ Some p) × (p.is_on_unit ≡ true)
    × (p.parent ≡ innermost s.blocks) × AreAroundOnUnit s.blocks p.around × (p.parameters ≡ [])
    × (p.value ≡ None)

abbrev mutual
  -- a statement is well typed
  pub IsTypedStatement : (greatest : ℕ) → TypingContext → TypedStatement → Type 0
  IsTypedStatement n s (Statement number form) = IsTypedForm n s form

  -- a form is: its values suit what takes them, and its GOTO, RETURN and calls lead to what is there
  pub IsTypedForm : (greatest : ℕ) → TypingContext → Form → Type 0
  IsTypedForm n s Null = Unit {0}
  IsTypedForm n s (Assign target e) =
      (d : Description) × IsPlaced n s target (Stated d) × IsValueFor n s d e
  IsTypedForm n s (AssignString target e) =
      (form : StringForm) × IsPlaced n s target (AnyString form) × IsString n s (kind_of_form form) e
  IsTypedForm n s (AssignAggregate target source) =
      (d : Description) × IsPlaced n s target (Stated d) × IsPlaced n s source (Stated d)
      × (is_area d ≡ false)
  IsTypedForm n s (AssignArea target source) = IsAreaReference n s target × IsAreaReference n s source
  IsTypedForm n s (EmptyArea target) = IsAreaReference n s target
  IsTypedForm n s (Put skip items) = AreItems n s items
  IsTypedForm n s (Allocate items) = AreAllocated n s items
  IsTypedForm n s (Free items) = AreFreed n s items
  IsTypedForm n s (If condition consequence alternative) =
      IsString n s OfBits condition × IsTypedStatement n s consequence × IsTypedElse n s alternative
  IsTypedForm n s (Begin head statements) =
      AreMade (map variable_of head.variables) × AreTypedStatements n (in_begin head statements s) statements
  IsTypedForm n s (Group statements) = AreTypedStatements n (in_group statements s) statements
  IsTypedForm n s (While condition statements) =
      IsString n s OfBits condition × AreTypedStatements n (in_group statements s) statements
  IsTypedForm n s (Iterate iteration statements) =
      IsIteration n s iteration × AreTypedStatements n (in_group statements s) statements
  IsTypedForm n s (Call callee arguments) =
      (parameters : List ParameterType) × IsCallee s.globals s.procedures s.blocks callee parameters None
      × ArePassed n s arguments parameters
  IsTypedForm n s (Goto outward label) = knows_label (slice_get s.blocks outward) label
  IsTypedForm n s (Return outward) = (outward ≡ s.begins) × (s.value ≡ None)
  IsTypedForm n s (ReturnValue outward e) =
      (outward ≡ s.begins) × ((d : Description) × (s.value ≡ Some d) × IsValueFor n s d e)
  IsTypedForm n s Stop = Unit {0}
  IsTypedForm n s (On condition block) = IsOnUnitHere s block
  IsTypedForm n s (Revert condition) = Unit {0}
  IsTypedForm n s (Signal condition) = Unit {0}

  -- an ELSE is
  pub IsTypedElse : (greatest : ℕ) → TypingContext → OtherWise → Type 0
  IsTypedElse n s NoElse = Unit {0}
  IsTypedElse n s (Else statement) = IsTypedStatement n s statement

  -- each statement of a list is
  pub AreTypedStatements : (greatest : ℕ) → TypingContext → TypedStatements → Type 0
  AreTypedStatements n s NoStatement = Unit {0}
  AreTypedStatements n s (StatementThen first more) = IsTypedStatement n s first × AreTypedStatements n s more
