-- Worked examples: decks, each with its bytes, of the third version save where it is said otherwise.
use Rattle.std.specs.Prelude.{◌≡◌, ℕ, true, false, pos, List, [], ◌∷◌, None, Ok, Err, take, ◌++◌, slice_set}
use Rattle.pli_map.specs.Description.{FixedBinary, Bit, Pointer, Offset, Area}
use Rattle.pli_map.specs.ParameterTypes.{Stated, AnyString, AnyArray}
use Rattle.pli_map.specs.declared.parameter.StringForm.TheVariants as forms
use Rattle.pli_value.specs.Value.{Number, Located}
use Rattle.pli_value.specs.declared.locator.Locator.TheVariants as locators
use Rattle.pli_code.specs.declared.fault.DeckFault.TheVariants.{BadMagic, BadVersion, Truncated, Trailing}
use Rattle.pli_code.specs.declared.fault.DeckFault.TheVariants.{OutOfRange}
use Rattle.pli_code.specs.declared.version.Version.TheVariants.{First, Second, Third}
use Rattle.pli_program.specs.Program.{Procedure}
use Rattle.pli_code.specs.CodeTables.{CodedTemplate, CodedBlock, CodedSignature, Code, Deck}
use Rattle.pli_code.specs.CodeTables.{OwnVariable, ExternalVariable, EntryPoint}
use Rattle.pli_program.specs.declared.instruction.Instruction.TheVariants as op
use Rattle.pli_deck_write.specs.Spelling.{deck_bytes, deck_read}
use Rattle.pli_program.specs.declared.kind.VariableKind.TheVariants.{Static, Controlled}

-- no parameters and no result
abbrev pub without_parameters : CodedSignature
without_parameters = record { parameters = []; result = None }

-- one parameter, of the first description
abbrev pub with_parameter : CodedSignature
with_parameter = record { parameters = 0 ∷ []; result = None }

-- the block of an external procedure that declares no AUTOMATIC variable
abbrev pub outermost : (parameters : ℕ) → CodedBlock
outermost n = record {
  kind = Procedure;
  parent = None;
  parameters = n;
  variables = [];
  temporaries = 0;
  entry = 0;
  statement = 1;
}

-- M: PROC OPTIONS(MAIN); END;
abbrev pub smallest_code : Code
smallest_code = record {
  signature = without_parameters;
  descriptions = [];
  templates = [];
  values = [];
  globals = [];
  blocks = outermost 0 ∷ [];
  instructions = op.Return 0 ∷ [];
}

-- its deck
abbrev pub smallest : Deck
smallest = record { version = Third; name = 77 ∷ []; is_main = true; code = smallest_code }

-- its bytes
abbrev pub smallest_bytes : List ℕ
smallest_bytes =
    80 ∷ 76 ∷ 73 ∷ 68 ∷ 3 ∷ 1 ∷ 77 ∷ 1 ∷ 0 ∷ 255 ∷ 255 ∷ 0 ∷ 0 ∷ 0 ∷ 0 ∷ 0 ∷ 0 ∷ 0 ∷ 0 ∷ 0 ∷ 1 ∷ 0 ∷
    255 ∷ 255 ∷ 0 ∷ 0 ∷ 0 ∷ 0 ∷ 0 ∷ 0 ∷ 0 ∷ 0 ∷ 0 ∷ 0 ∷ 1 ∷ 0 ∷ 1 ∷ 9 ∷ 0 ∷ []

-- what a BIT variable is made from
abbrev pub bit_template : CodedTemplate
bit_template = record { description = 0; initial = [] }

-- M: PROC OPTIONS(MAIN); DCL X BIT EXT, Q ENTRY(BIT); CALL Q(X); END;
abbrev pub calling_code : Code
calling_code = record {
  signature = without_parameters;
  descriptions = Stated (Bit 1) ∷ [];
  templates = bit_template ∷ [];
  values = [];
  globals = ExternalVariable (88 ∷ []) Static 0 ∷ EntryPoint (81 ∷ []) with_parameter ∷ [];
  blocks = outermost 0 ∷ [];
  instructions = op.Step 3 ∷ op.Global 0 ∷ op.CallExternal 1 1 ∷ op.Return 0 ∷ [];
}

-- its deck
abbrev pub calling : Deck
calling = record { version = Third; name = 77 ∷ []; is_main = true; code = calling_code }

-- its bytes
abbrev pub calling_bytes : List ℕ
calling_bytes =
    80 ∷ 76 ∷ 73 ∷ 68 ∷ 3 ∷ 1 ∷ 77 ∷ 1 ∷ 0 ∷ 255 ∷ 255 ∷ 0 ∷ 1 ∷ 4 ∷ 0 ∷ 1 ∷ 0 ∷ 1 ∷ 0 ∷ 0 ∷ 0 ∷ 0 ∷ 0 ∷
    0 ∷ 0 ∷ 0 ∷ 0 ∷ 2 ∷ 2 ∷ 1 ∷ 88 ∷ 0 ∷ 0 ∷ 4 ∷ 1 ∷ 81 ∷ 1 ∷ 0 ∷ 0 ∷ 255 ∷ 255 ∷ 0 ∷ 1 ∷ 0 ∷ 255 ∷ 255 ∷
    0 ∷ 0 ∷ 0 ∷ 0 ∷ 0 ∷ 0 ∷ 0 ∷ 0 ∷ 0 ∷ 0 ∷ 1 ∷ 0 ∷ 4 ∷ 1 ∷ 0 ∷ 0 ∷ 0 ∷ 3 ∷ 14 ∷ 0 ∷ 0 ∷ 7 ∷ 0 ∷ 1 ∷ 1 ∷
    9 ∷ 0 ∷ []

-- Q: PROC(P); DCL P BIT, X BIT EXT; X = P; END;
abbrev pub called_code : Code
called_code = record {
  signature = with_parameter;
  descriptions = Stated (Bit 1) ∷ [];
  templates = bit_template ∷ [];
  values = [];
  globals = ExternalVariable (88 ∷ []) Static 0 ∷ [];
  blocks = outermost 1 ∷ [];
  instructions =
      op.Step 3 ∷ op.Global 0 ∷ op.Local 0 0 ∷ op.Load ∷ op.Fit 0 ∷ op.Store ∷ op.Return 0 ∷ [];
}

-- its deck
abbrev pub called : Deck
called = record { version = Third; name = 81 ∷ []; is_main = false; code = called_code }

-- its bytes
abbrev pub called_bytes : List ℕ
called_bytes =
    80 ∷ 76 ∷ 73 ∷ 68 ∷ 3 ∷ 1 ∷ 81 ∷ 0 ∷ 1 ∷ 0 ∷ 0 ∷ 255 ∷ 255 ∷ 0 ∷ 1 ∷ 4 ∷ 0 ∷ 1 ∷ 0 ∷ 1 ∷ 0 ∷ 0 ∷ 0 ∷
    0 ∷ 0 ∷ 0 ∷ 0 ∷ 0 ∷ 0 ∷ 1 ∷ 2 ∷ 1 ∷ 88 ∷ 0 ∷ 0 ∷ 0 ∷ 1 ∷ 0 ∷ 255 ∷ 255 ∷ 1 ∷ 0 ∷ 0 ∷ 0 ∷ 0 ∷ 0 ∷ 0 ∷
    0 ∷ 0 ∷ 0 ∷ 1 ∷ 0 ∷ 7 ∷ 1 ∷ 0 ∷ 0 ∷ 0 ∷ 3 ∷ 14 ∷ 0 ∷ 0 ∷ 13 ∷ 0 ∷ 0 ∷ 0 ∷ 19 ∷ 23 ∷ 0 ∷ 0 ∷ 20 ∷ 9 ∷
    0 ∷ []

-- M: PROC OPTIONS(MAIN); DCL C BIT CTL, X BIT CTL EXT; ALLOCATE C, X; FREE C; END;
abbrev pub stacking_code : Code
stacking_code = record {
  signature = without_parameters;
  descriptions = Stated (Bit 1) ∷ [];
  templates = bit_template ∷ [];
  values = [];
  globals = OwnVariable Controlled 0 ∷ ExternalVariable (88 ∷ []) Controlled 0 ∷ [];
  blocks = outermost 0 ∷ [];
  instructions =
      op.Step 3 ∷ op.AllocateControlled 0 ∷ op.AllocateControlled 1 ∷ op.Step 4 ∷ op.FreeControlled 0
      ∷ op.Return 0 ∷ [];
}

-- its deck
abbrev pub stacking : Deck
stacking = record { version = Third; name = 77 ∷ []; is_main = true; code = stacking_code }

-- its bytes
abbrev pub stacking_bytes : List ℕ
stacking_bytes =
    80 ∷ 76 ∷ 73 ∷ 68 ∷ 3 ∷ 1 ∷ 77 ∷ 1 ∷ 0 ∷ 255 ∷ 255 ∷ 0 ∷ 1 ∷ 4 ∷ 0 ∷ 1 ∷ 0 ∷ 1 ∷ 0 ∷ 0 ∷ 0 ∷ 0 ∷ 0 ∷
    0 ∷ 0 ∷ 0 ∷ 0 ∷ 2 ∷ 1 ∷ 0 ∷ 0 ∷ 3 ∷ 1 ∷ 88 ∷ 0 ∷ 0 ∷ 0 ∷ 1 ∷ 0 ∷ 255 ∷ 255 ∷ 0 ∷ 0 ∷ 0 ∷ 0 ∷ 0 ∷ 0 ∷
    0 ∷ 0 ∷ 0 ∷ 0 ∷ 1 ∷ 0 ∷ 6 ∷ 1 ∷ 0 ∷ 0 ∷ 0 ∷ 3 ∷ 48 ∷ 0 ∷ 0 ∷ 48 ∷ 0 ∷ 1 ∷ 1 ∷ 0 ∷ 0 ∷ 0 ∷ 4 ∷ 49 ∷
    0 ∷ 0 ∷ 9 ∷ 0 ∷ []

-- M: PROC OPTIONS(MAIN); DCL P POINTER STATIC, X BIT STATIC, B BIT BASED(P); ALLOCATE B; P = ADDR(X); B = X;
-- P = NULL; FREE B; END;
abbrev pub pointing_code : Code
pointing_code = record {
  signature = without_parameters;
  descriptions = Stated Pointer ∷ Stated (Bit 1) ∷ [];
  templates = record { description = 0; initial = [] } ∷ record { description = 1; initial = [] } ∷ [];
  values = Located locators.Null ∷ [];
  globals = OwnVariable Static 0 ∷ OwnVariable Static 1 ∷ [];
  blocks = record (outermost 0) { temporaries = 1 } ∷ [];
  instructions =
      op.Step 3 ∷ op.AllocateBased 1 ∷ op.SetTemporary 0 ∷ op.Global 0 ∷ op.TakeTemporary 0 ∷ op.Store
      ∷ op.Step 4 ∷ op.Global 0 ∷ op.Global 1 ∷ op.AddressOf ∷ op.Store
      ∷ op.Step 5 ∷ op.Global 0 ∷ op.Load ∷ op.Based 1 ∷ op.Global 1 ∷ op.Load ∷ op.Fit 1 ∷ op.Store
      ∷ op.Step 6 ∷ op.Global 0 ∷ op.Constant 0 ∷ op.Store
      ∷ op.Step 7 ∷ op.Global 0 ∷ op.Load ∷ op.FreeBased 1 ∷ op.Return 0 ∷ [];
}

-- its deck
abbrev pub pointing : Deck
pointing = record { version = Third; name = 77 ∷ []; is_main = true; code = pointing_code }

-- its bytes
abbrev pub pointing_bytes : List ℕ
pointing_bytes =
    80 ∷ 76 ∷ 73 ∷ 68 ∷ 3 ∷ 1 ∷ 77 ∷ 1 ∷ 0 ∷ 255 ∷ 255 ∷ 0 ∷ 2 ∷ 5 ∷ 4 ∷ 0 ∷ 1 ∷ 0 ∷ 2 ∷ 0 ∷ 0 ∷ 0 ∷ 0 ∷ 0 ∷
    0 ∷ 0 ∷ 1 ∷ 0 ∷ 0 ∷ 0 ∷ 0 ∷ 0 ∷ 1 ∷ 4 ∷ 0 ∷ 2 ∷ 0 ∷ 0 ∷ 0 ∷ 0 ∷ 0 ∷ 1 ∷ 0 ∷ 1 ∷ 0 ∷ 255 ∷ 255 ∷ 0 ∷ 0 ∷
    0 ∷ 0 ∷ 1 ∷ 0 ∷ 0 ∷ 0 ∷ 0 ∷ 0 ∷ 1 ∷ 0 ∷ 28 ∷ 1 ∷ 0 ∷ 0 ∷ 0 ∷ 3 ∷ 51 ∷ 0 ∷ 1 ∷ 61 ∷ 0 ∷ 0 ∷ 14 ∷ 0 ∷ 0 ∷
    62 ∷ 0 ∷ 0 ∷ 20 ∷ 1 ∷ 0 ∷ 0 ∷ 0 ∷ 4 ∷ 14 ∷ 0 ∷ 0 ∷ 14 ∷ 0 ∷ 1 ∷ 45 ∷ 20 ∷ 1 ∷ 0 ∷ 0 ∷ 0 ∷ 5 ∷ 14 ∷ 0 ∷
    0 ∷ 19 ∷ 15 ∷ 0 ∷ 1 ∷ 14 ∷ 0 ∷ 1 ∷ 19 ∷ 23 ∷ 0 ∷ 1 ∷ 20 ∷ 1 ∷ 0 ∷ 0 ∷ 0 ∷ 6 ∷ 14 ∷ 0 ∷ 0 ∷ 18 ∷ 0 ∷ 0 ∷
    20 ∷ 1 ∷ 0 ∷ 0 ∷ 0 ∷ 7 ∷ 14 ∷ 0 ∷ 0 ∷ 19 ∷ 53 ∷ 0 ∷ 1 ∷ 9 ∷ 0 ∷ []

-- M: PROC OPTIONS(MAIN); DCL A AREA(16) STATIC, O OFFSET(A) STATIC, B BIT BASED(O); ALLOCATE B IN(A);
-- FREE B; O = NULL; A = A; A = EMPTY; END;
abbrev pub holding_code : Code
holding_code = record {
  signature = without_parameters;
  descriptions = Stated (Area 16) ∷ Stated Offset ∷ Stated (Bit 1) ∷ [];
  templates =
      record { description = 0; initial = [] } ∷ record { description = 1; initial = [] }
      ∷ record { description = 2; initial = [] } ∷ [];
  values = Located (locators.Offset 0) ∷ [];
  globals = OwnVariable Static 0 ∷ OwnVariable Static 1 ∷ [];
  blocks = record (outermost 0) { temporaries = 1 } ∷ [];
  instructions =
      op.Step 3 ∷ op.Global 0 ∷ op.AllocateInArea 2 1 ∷ op.SetTemporary 0 ∷ op.Global 1 ∷ op.TakeTemporary 0
      ∷ op.Global 0 ∷ op.ToOffset ∷ op.Store
      ∷ op.Step 4 ∷ op.Global 1 ∷ op.Load ∷ op.Global 0 ∷ op.ToPointer ∷ op.FreeBased 2
      ∷ op.Step 5 ∷ op.Global 1 ∷ op.Constant 0 ∷ op.Store
      ∷ op.Step 6 ∷ op.Global 0 ∷ op.Global 0 ∷ op.AssignArea
      ∷ op.Step 7 ∷ op.Global 0 ∷ op.EmptyArea ∷ op.Return 0 ∷ [];
}

-- its deck
abbrev pub holding : Deck
holding = record { version = Third; name = 77 ∷ []; is_main = true; code = holding_code }

-- its bytes
abbrev pub holding_bytes : List ℕ
holding_bytes =
    80 ∷ 76 ∷ 73 ∷ 68 ∷ 3 ∷ 1 ∷ 77 ∷ 1 ∷ 0 ∷ 255 ∷ 255 ∷ 0 ∷ 3 ∷ 7 ∷ 0 ∷ 0 ∷ 0 ∷ 16 ∷ 6 ∷ 4 ∷ 0 ∷ 1 ∷ 0 ∷
    3 ∷ 0 ∷ 0 ∷ 0 ∷ 0 ∷ 0 ∷ 0 ∷ 0 ∷ 1 ∷ 0 ∷ 0 ∷ 0 ∷ 0 ∷ 0 ∷ 2 ∷ 0 ∷ 0 ∷ 0 ∷ 0 ∷ 0 ∷ 1 ∷ 5 ∷ 0 ∷ 2 ∷ 0 ∷
    0 ∷ 0 ∷ 0 ∷ 0 ∷ 1 ∷ 0 ∷ 1 ∷ 0 ∷ 255 ∷ 255 ∷ 0 ∷ 0 ∷ 0 ∷ 0 ∷ 1 ∷ 0 ∷ 0 ∷ 0 ∷ 0 ∷ 0 ∷ 1 ∷ 0 ∷ 27 ∷ 1 ∷
    0 ∷ 0 ∷ 0 ∷ 3 ∷ 14 ∷ 0 ∷ 0 ∷ 52 ∷ 0 ∷ 2 ∷ 0 ∷ 1 ∷ 61 ∷ 0 ∷ 0 ∷ 14 ∷ 0 ∷ 1 ∷ 62 ∷ 0 ∷ 0 ∷ 14 ∷ 0 ∷ 0 ∷
    47 ∷ 20 ∷ 1 ∷ 0 ∷ 0 ∷ 0 ∷ 4 ∷ 14 ∷ 0 ∷ 1 ∷ 19 ∷ 14 ∷ 0 ∷ 0 ∷ 46 ∷ 53 ∷ 0 ∷ 2 ∷ 1 ∷ 0 ∷ 0 ∷ 0 ∷ 5 ∷
    14 ∷ 0 ∷ 1 ∷ 18 ∷ 0 ∷ 0 ∷ 20 ∷ 1 ∷ 0 ∷ 0 ∷ 0 ∷ 6 ∷ 14 ∷ 0 ∷ 0 ∷ 14 ∷ 0 ∷ 0 ∷ 54 ∷ 1 ∷ 0 ∷ 0 ∷ 0 ∷ 7 ∷
    14 ∷ 0 ∷ 0 ∷ 55 ∷ 9 ∷ 0 ∷ []

-- M: PROC OPTIONS(MAIN); DCL X FIXED BIN(p) STATIC INIT(5); END;
abbrev pub counting_code : (precision : ℕ) → Code
counting_code precision = record {
  signature = without_parameters;
  descriptions = Stated (FixedBinary precision) ∷ [];
  templates =
      record { description = 0; initial = record { offset = 0; value = Number (pos 5) } ∷ [] } ∷ [];
  values = [];
  globals = OwnVariable Static 0 ∷ [];
  blocks = outermost 0 ∷ [];
  instructions = op.Return 0 ∷ [];
}

-- its deck with 31 digits in the first version
abbrev pub narrow : Deck
narrow = record { version = First; name = 77 ∷ []; is_main = true; code = counting_code 31 }

-- its bytes, four of which have the number
abbrev pub narrow_bytes : List ℕ
narrow_bytes =
    80 ∷ 76 ∷ 73 ∷ 68 ∷ 1 ∷ 1 ∷ 77 ∷ 1 ∷ 0 ∷ 255 ∷ 255 ∷ 0 ∷ 1 ∷ 1 ∷ 31 ∷ 0 ∷ 1 ∷ 0 ∷ 0 ∷ 0 ∷ 0 ∷ 0 ∷ 1 ∷
    0 ∷ 0 ∷ 0 ∷ 0 ∷ 1 ∷ 0 ∷ 0 ∷ 0 ∷ 5 ∷ 0 ∷ 0 ∷ 0 ∷ 1 ∷ 0 ∷ 0 ∷ 0 ∷ 0 ∷ 1 ∷ 0 ∷ 255 ∷ 255 ∷ 0 ∷ 0 ∷ 0 ∷
    0 ∷ 0 ∷ 0 ∷ 0 ∷ 0 ∷ 0 ∷ 0 ∷ 1 ∷ 0 ∷ 1 ∷ 9 ∷ 0 ∷ []

-- its deck with 63 digits, in the second version
abbrev pub wide : Deck
wide = record { version = Second; name = 77 ∷ []; is_main = true; code = counting_code 63 }

-- its bytes, eight of which have the number
abbrev pub wide_bytes : List ℕ
wide_bytes =
    80 ∷ 76 ∷ 73 ∷ 68 ∷ 2 ∷ 1 ∷ 77 ∷ 1 ∷ 0 ∷ 255 ∷ 255 ∷ 0 ∷ 1 ∷ 1 ∷ 63 ∷ 0 ∷ 1 ∷ 0 ∷ 0 ∷ 0 ∷ 0 ∷ 0 ∷ 1 ∷
    0 ∷ 0 ∷ 0 ∷ 0 ∷ 1 ∷ 0 ∷ 0 ∷ 0 ∷ 0 ∷ 0 ∷ 0 ∷ 0 ∷ 5 ∷ 0 ∷ 0 ∷ 0 ∷ 1 ∷ 0 ∷ 0 ∷ 0 ∷ 0 ∷ 1 ∷ 0 ∷ 255 ∷
    255 ∷ 0 ∷ 0 ∷ 0 ∷ 0 ∷ 0 ∷ 0 ∷ 0 ∷ 0 ∷ 0 ∷ 0 ∷ 1 ∷ 0 ∷ 1 ∷ 9 ∷ 0 ∷ []

-- the smallest deck in the first version
abbrev pub smallest_before : Deck
smallest_before = record smallest { version = First }

-- and in the second
abbrev pub smallest_second : Deck
smallest_second = record smallest { version = Second }

-- Q: PROC(P, A); DCL P CHAR(*), A(*) BIT(*); END;
abbrev pub starred_code : Code
starred_code = record {
  signature = record { parameters = 0 ∷ 1 ∷ []; result = None };
  descriptions = AnyString forms.Character ∷ AnyArray 1 (AnyString forms.Bit) ∷ [];
  templates = [];
  values = [];
  globals = [];
  blocks = outermost 2 ∷ [];
  instructions = op.Return 0 ∷ [];
}

-- its deck
abbrev pub starred : Deck
starred = record { version = Third; name = 81 ∷ []; is_main = false; code = starred_code }

-- its bytes
abbrev pub starred_bytes : List ℕ
starred_bytes =
    80 ∷ 76 ∷ 73 ∷ 68 ∷ 3 ∷ 1 ∷ 81 ∷ 0 ∷ 2 ∷ 0 ∷ 0 ∷ 0 ∷ 1 ∷ 255 ∷ 255 ∷ 0 ∷ 2 ∷ 10 ∷ 13 ∷ 1 ∷ 12 ∷ 0 ∷ 0 ∷
    0 ∷ 0 ∷ 0 ∷ 0 ∷ 0 ∷ 1 ∷ 0 ∷ 255 ∷ 255 ∷ 2 ∷ 0 ∷ 0 ∷ 0 ∷ 0 ∷ 0 ∷ 0 ∷ 0 ∷ 0 ∷ 0 ∷ 1 ∷ 0 ∷ 1 ∷ 9 ∷ 0 ∷ []

-- how they are written
abbrev pub WrittenSo : Type 0
WrittenSo =
    (deck_bytes smallest ≡ smallest_bytes) × (deck_bytes calling ≡ calling_bytes)
    × (deck_bytes called ≡ called_bytes) × (deck_bytes stacking ≡ stacking_bytes)
    × (deck_bytes pointing ≡ pointing_bytes) × (deck_bytes holding ≡ holding_bytes)
    × (deck_bytes smallest_before ≡ slice_set smallest_bytes 4 1)
    × (deck_bytes smallest_second ≡ slice_set smallest_bytes 4 2)
    × (deck_bytes narrow ≡ narrow_bytes) × (deck_bytes wide ≡ wide_bytes)
    × (deck_bytes starred ≡ starred_bytes)

-- how they are read, and what is wrong where a byte is missing, one stands after the end, the version is
-- another, or a precision or a type is none of its version
abbrev pub ReadSo : Type 0
ReadSo =
    (deck_read smallest_bytes ≡ Ok smallest) × (deck_read calling_bytes ≡ Ok calling)
    × (deck_read called_bytes ≡ Ok called) × (deck_read stacking_bytes ≡ Ok stacking)
    × (deck_read pointing_bytes ≡ Ok pointing) × (deck_read holding_bytes ≡ Ok holding)
    × (deck_read (slice_set smallest_bytes 4 1) ≡ Ok smallest_before)
    × (deck_read (slice_set smallest_bytes 4 2) ≡ Ok smallest_second)
    × (deck_read narrow_bytes ≡ Ok narrow) × (deck_read wide_bytes ≡ Ok wide)
    × (deck_read starred_bytes ≡ Ok starred)
    × (deck_read (slice_set smallest_bytes 4 4) ≡ Err BadVersion)
    × (deck_read (slice_set wide_bytes 4 1) ≡ Err OutOfRange)
    × (deck_read (slice_set starred_bytes 4 2) ≡ Err OutOfRange)
    × (deck_read [] ≡ Err BadMagic)
    × (deck_read (take 3 smallest_bytes) ≡ Err BadMagic)
    × (deck_read (take 4 smallest_bytes) ≡ Err Truncated)
    × (deck_read (take 38 smallest_bytes) ≡ Err Truncated)
    × (deck_read (smallest_bytes ++ 0 ∷ []) ≡ Err Trailing)
