-- The bytes of a deck, as they are written (own): PLID, its version, the name of its procedure, whether it is
-- a main one, and its code. A law joins them with the fields by which decks are read.
use Rattle.std.specs.Prelude.{ℕ, zero, suc, ℤ, List, [], ◌∷◌, ◌++◌, length, map, codes, Option, Some, None}
use Rattle.std.specs.Prelude.{if◌then◌else◌}
use Rattle.std.specs.Int.{w32, w64, cast_unsigned}
use Rattle.std.specs.List.{flat_map}
use Rattle.byteorder.specs.Endian.{big_bytes}
use Rattle.pli_base.specs.Name.{Name}
use Rattle.pli_map.specs.declared.description.Bounds.{Bounds}
use Rattle.pli_map.specs.declared.parameter.StringForm.TheVariants as forms
use Rattle.pli_map.specs.Description.{FixedBinary, Character, Varying, Bit, Pointer, Offset}
use Rattle.pli_map.specs.Description.{Area, Array, Structure, listed}
use Rattle.pli_map.specs.ParameterTypes.{ParameterType, Stated, AnyString, AnyArray, ArrayOf, StructureOf}
use Rattle.pli_map.specs.ParameterTypes.{listed_types}
use Rattle.pli_value.specs.Packing.{packed}
use Rattle.pli_value.specs.Value.{Value, Number, Characters, Bits, Located}
use Rattle.pli_value.specs.declared.locator.Locator.TheVariants as locators
use Rattle.pli_program.specs.declared.kind.VariableKind.TheVariants.{Static, Controlled}
use Rattle.pli_type_tree.specs.Templates.{InitialScalar}
use Rattle.pli_code.specs.CodeTables.{CodedTemplate, CodedBlock, CodedSignature, Code, Deck}
use Rattle.pli_code.specs.CodeTables.{CodedGlobal, OwnVariable, ExternalVariable, EntryPoint}
use Rattle.pli_code.specs.Numbered.{kind_number}
use Rattle.pli_code.specs.Versions.{version_number}
use Rattle.pli_code.specs.declared.version.Version.{Version}
use Rattle.pli_code.specs.declared.version.Version.TheVariants.{First, Second, Third}
use Rattle.pli_deck_write.specs.InstructionBytes.{two, four, bound_bytes, instruction_bytes}

-- items, each by its bytes, after their count in two bytes
abbrev pub counted : {X : Type 0} → (X → List ℕ) → List X → List ℕ
counted item xs = two (length xs) ++ flat_map item xs

-- the same, with a count in one byte
abbrev pub few_counted : {X : Type 0} → (X → List ℕ) → List X → List ℕ
few_counted item xs = big_bytes 1 (length xs) ++ flat_map item xs

-- a name: how many characters, and these
abbrev pub name_bytes : Name → List ℕ
name_bytes n = big_bytes 1 (length n) ++ n

-- the bounds of a dimension
abbrev pub bounds_bytes : Bounds → List ℕ
bounds_bytes b = bound_bytes b.low ++ bound_bytes b.high

-- a type: a tag, and what it is of; where it has more levels than so many, there is a 0 for what is deeper
unfoldable pub type_bytes : (levels : ℕ) → ParameterType → List ℕ
type_bytes zero type = 0 ∷ []
type_bytes (suc n) (Stated (FixedBinary precision)) = 1 ∷ precision ∷ []
type_bytes (suc n) (Stated (Character length)) = 2 ∷ two length
type_bytes (suc n) (Stated (Varying length)) = 3 ∷ two length
type_bytes (suc n) (Stated (Bit length)) = 4 ∷ two length
type_bytes (suc n) (Stated Pointer) = 5 ∷ []
type_bytes (suc n) (Stated Offset) = 6 ∷ []
type_bytes (suc n) (Stated (Area size)) = 7 ∷ four size
type_bytes (suc n) (Stated (Array bounds element)) =
    8 ∷ few_counted bounds_bytes bounds ++ type_bytes n (Stated element)
type_bytes (suc n) (Stated (Structure ds)) = 9 ∷ counted (type_bytes n) (map Stated (listed ds))
type_bytes (suc n) (AnyString forms.Character) = 10 ∷ []
type_bytes (suc n) (AnyString forms.Varying) = 11 ∷ []
type_bytes (suc n) (AnyString forms.Bit) = 12 ∷ []
type_bytes (suc n) (AnyArray dimensions element) = 13 ∷ dimensions ∷ type_bytes n element
type_bytes (suc n) (ArrayOf bounds element) = 8 ∷ few_counted bounds_bytes bounds ++ type_bytes n element
type_bytes (suc n) (StructureOf types) = 9 ∷ counted (type_bytes n) (listed_types types)

-- a number, in two's complement: in four bytes in the first version, else in eight
abbrev pub integer_bytes : Version → ℤ → List ℕ
integer_bytes First x = four (cast_unsigned w32 x)
integer_bytes Second x = big_bytes 8 (cast_unsigned w64 x)
integer_bytes Third x = big_bytes 8 (cast_unsigned w64 x)

-- a constant: a tag, and the value; of locators there is the tag alone
abbrev pub constant_bytes : Version → Value → List ℕ
constant_bytes v (Number x) = 1 ∷ integer_bytes v x
constant_bytes v (Characters text) = 2 ∷ two (length text) ++ text
constant_bytes v (Bits bits) = 3 ∷ two (length bits) ++ packed bits
constant_bytes v (Located (locators.Offset position)) = 5 ∷ []
constant_bytes v (Located pointer) = 4 ∷ []

-- an initial value after the byte of the variable on which it stands
abbrev pub initial_bytes : Version → InitialScalar → List ℕ
initial_bytes v i = four i.offset ++ constant_bytes v i.value

-- a template: the number of its description, and its initial values, whose count has four bytes
abbrev pub template_bytes : Version → CodedTemplate → List ℕ
template_bytes v t = two t.description ++ four (length t.initial) ++ flat_map (initial_bytes v) t.initial

-- a number, or 65,535 for none
abbrev pub optional_bytes : Option ℕ → List ℕ
optional_bytes None = two 65535
optional_bytes (Some n) = two n

-- what a procedure takes and gives
abbrev pub signature_bytes : CodedSignature → List ℕ
signature_bytes s = few_counted two s.parameters ++ optional_bytes s.result

-- a global: a tag, and what it is
abbrev pub global_bytes : CodedGlobal → List ℕ
global_bytes (OwnVariable Static template) = 0 ∷ two template
global_bytes (OwnVariable Controlled template) = 1 ∷ two template
global_bytes (ExternalVariable name Static template) = 2 ∷ name_bytes name ++ two template
global_bytes (ExternalVariable name Controlled template) = 3 ∷ name_bytes name ++ two template
global_bytes (EntryPoint name signature) = 4 ∷ name_bytes name ++ signature_bytes signature

-- a block: its kind, the one around it, its parameters, its variables, temporaries, entry and statement
abbrev pub block_bytes : CodedBlock → List ℕ
block_bytes b =
    kind_number b.kind ∷ optional_bytes b.parent
    ++ (b.parameters ∷ counted two b.variables ++ (two b.temporaries ++ (two b.entry ++ four b.statement)))

-- code: its signature, its tables and its instructions
unfoldable pub code_bytes : Version → Code → List ℕ
code_bytes v c =
    signature_bytes c.signature
    ++ (counted (type_bytes 512) c.descriptions
    ++ (counted (template_bytes v) c.templates
    ++ (counted (constant_bytes v) c.values
    ++ (counted global_bytes c.globals
    ++ (counted block_bytes c.blocks ++ counted instruction_bytes c.instructions)))))

-- a deck
abbrev pub deck_written : Deck → List ℕ
deck_written d =
    codes "PLID" ++ version_number d.version ∷ name_bytes d.name ++ (if d.is_main then 1 else 0)
    ∷ code_bytes d.version d.code
