-- The bytes of a deck's items: numbers, and what they stand in, by the version.
use Rattle.std.specs.Prelude.{ℕ, ◌+◌, ◌/◌, nat_eq, nat_le, nat_lt, Bool, true, false, ℤ}
use Rattle.std.specs.Prelude.{List, [], ◌∷◌, ◌++◌, length, take, drop, Option, Some, None, Result, Ok}
use Rattle.std.specs.Prelude.{Err, get_or}
use Rattle.std.specs.Prelude.{if◌then◌else◌}
use Rattle.std.specs.Int.{w32, w64}
use Rattle.std.specs.Str.{bytes_eq}
use Rattle.pli_base.specs.Name.{Name, name_of}
use Rattle.pli_map.specs.ParameterTypes.{ParameterType}
use Rattle.pli_value.specs.Locators.{is_null}
use Rattle.pli_value.specs.Packing.{packed, unpacked}
use Rattle.pli_value.specs.Value.{Value, Number, Characters, Bits, Located}
use Rattle.pli_value.specs.declared.locator.Locator.{Locator}
use Rattle.pli_value.specs.declared.locator.Locator.TheVariants as locators
use Rattle.pli_code.specs.declared.fault.DeckFault.TheVariants.{Truncated, BadMagic, BadVersion}
use Rattle.pli_code.specs.declared.fault.DeckFault.{DeckFault}
use Rattle.pli_program.specs.Kinds.{BlockKind, Procedure, BeginBlock, OnUnit}
use Rattle.pli_type_tree.specs.Templates.{InitialScalar}
use Rattle.pli_code.specs.Decks.{CodedTemplate, CodedBlock, CodedSignature, Code, Deck}
use Rattle.pli_code.specs.Decks.{CodedGlobal, OwnVariable, ExternalVariable, EntryPoint}
use Rattle.pli_code.specs.CodedInstruction.{Instruction}
use Rattle.pli_base.specs.Results.{◌>>=◌}
use Rattle.pli_code.specs.Fields.{Field, Form, Reader, byte_at, nothing, checked, held, signed, followed}
use Rattle.pli_code.specs.Fields.{◌⊗◌, shaped, list_of, form, made, unknown, tagged, byte, u1, u2, u4}
use Rattle.pli_code.specs.Fields.{from_to, count_of_one, list}
use Rattle.pli_deck_write.specs.Descriptions.{description}
use Rattle.pli_code.specs.Instructions.{instruction_in}
use Rattle.pli_code.specs.Versions.{version_number}
use Rattle.pli_code.specs.declared.version.Version.{Version}
use Rattle.pli_code.specs.declared.version.Version.TheVariants.{First, Second, Third}
use Rattle.pli_program.specs.declared.kind.VariableKind.TheVariants.{Static, Controlled}
use Rattle.pli_code.specs.Numbered.{kind_number}

-- a text is this name, as it is written in upper case
abbrev pub is_written : Option Name → List ℕ → Bool
is_written None text = false
is_written (Some n) text = bytes_eq n text

-- a text is a name in upper case
abbrev pub is_name : List ℕ → Bool
is_name text = is_written (name_of text) text

-- a name as it is written in upper case: how many characters, and the characters
unfoldable pub name : Field Name
name = checked is_name (list_of (from_to 1 31 count_of_one) byte)

-- 0 for no, 1 for yes
abbrev pub flag : Field Bool
flag = shaped (λ n. nat_eq n 1) (λ b. if b then 1 else 0) (from_to 0 1 u1)

-- the number that two bytes stand for: one below 65,535, or none
abbrev pub number_if : ℕ → Option ℕ
number_if n = if nat_lt n 65535 then Some n else None

-- the number that stands for it: 65,535 for none
abbrev pub none_last : Option ℕ → ℕ
none_last None = 65535
none_last (Some n) = n

-- it has one
abbrev pub is_number_if : Option ℕ → Bool
is_number_if None = true
is_number_if (Some n) = nat_lt n 65535

-- a number below 65,535, or none
unfoldable pub optional : Field (Option ℕ)
optional = record {
  bytes_of = λ o. u2.bytes_of (none_last o);
  fits = is_number_if;
  read = λ bytes. u2.read bytes >>= λ n. Ok (number_if n.0, n.1);
}

-- how many bytes so many bits take
abbrev pub byte_count : (bits : ℕ) → ℕ
byte_count bits = (bits + 7) / 8

-- so many bits of these bytes, whose last one has zeros after the bits
abbrev pub bits_in : (count : ℕ) → List ℕ → (rest : List ℕ) → Result (List Bool × List ℕ) DeckFault
bits_in count bytes rest =
    held (bytes_eq bytes (packed (unpacked count bytes))) (unpacked count bytes, rest)

-- so many bits from the front
unfoldable pub bits_at : (count : ℕ) → Reader (List Bool)
bits_at count bytes =
    if nat_lt (length bytes) (byte_count count) then Err Truncated
    else bits_in count (take (byte_count count) bytes) (drop (byte_count count) bytes)

-- how many bits, and the bits, eight to a byte, the first bit highest, with zeros after the last
unfoldable pub bit_string : Field (List Bool)
bit_string = record {
  bytes_of = λ bits. u2.bytes_of (length bits) ++ packed bits;
  fits = λ bits. nat_le (length bits) 32767;
  read = λ bytes. (from_to 0 32767 u2).read bytes >>= λ n. bits_at n.0 n.1;
}

-- a number: of at most 31 binary digits in four bytes, or of at most 63 in eight
abbrev pub integer : Version → Field ℤ
integer First = signed 4 w32 2147483647
integer Second = signed 8 w64 9223372036854775807
integer Third = signed 8 w64 9223372036854775807

-- a string of characters, with a count of two bytes
unfoldable pub characters : Field (List ℕ)
characters = list_of (from_to 0 32767 u2) byte

-- the tag of a locator: 4 of a pointer, 5 of an offset
abbrev pub locator_tag : Locator → ℕ
locator_tag (locators.Offset position) = 5
locator_tag pointer = 4

-- the form of a constant; of locators null alone has a spelling, a tag after which nothing stands
abbrev pub constant_form : Version → Value → Form
constant_form v (Number x) = form 1 (integer v) x
constant_form v (Characters text) = form 2 characters text
constant_form v (Bits bits) = form 3 bit_string bits
constant_form v (Located l) = record { tag = locator_tag l; bytes = []; fits = is_null l }

-- how each form of constants is read, by its tag
abbrev pub constant_readers : Version → List (Reader Value)
constant_readers v =
    unknown
    ∷ made Number (integer v)
    ∷ made Characters characters
    ∷ made Bits bit_string
    ∷ made (λ _. Located locators.Null) nothing
    ∷ made (λ _. Located (locators.Offset 0)) nothing
    ∷ []

-- a constant
unfoldable pub constant : Version → Field Value
constant v = tagged (constant_form v) (constant_readers v)

-- an initial value, with the byte on which it stands
unfoldable pub initial : Version → Field InitialScalar
initial v =
    shaped (λ p. record { offset = p.0; value = p.1 }) (λ i. (i.offset, i.value)) (u4 ⊗ constant v)

-- a template: the number of its description, and its initial values with a count of four bytes
unfoldable pub template : Version → Field CodedTemplate
template v = shaped (λ p. record { description = p.0; initial = p.1 }) (λ t. (t.description, t.initial))
    (u2 ⊗ list_of u4 (initial v))

-- a count of at most 64 parameters
abbrev pub parameter_count : Field ℕ
parameter_count = from_to 0 64 count_of_one

-- the same as a number
abbrev pub parameter_number : Field ℕ
parameter_number = from_to 0 64 u1

-- the descriptions of parameters and of the result
unfoldable pub signature : Field CodedSignature
signature = shaped (λ p. record { parameters = p.0; result = p.1 }) (λ s. (s.parameters, s.result))
    (list_of parameter_count u2 ⊗ optional)

-- the form of a global
abbrev pub global_form : CodedGlobal → Form
global_form (OwnVariable Static t) = form 0 u2 t
global_form (OwnVariable Controlled t) = form 1 u2 t
global_form (ExternalVariable n Static t) = form 2 (name ⊗ u2) (n, t)
global_form (ExternalVariable n Controlled t) = form 3 (name ⊗ u2) (n, t)
global_form (EntryPoint n s) = form 4 (name ⊗ signature) (n, s)

-- how each form of globals is read, by its tag
abbrev pub global_readers : List (Reader CodedGlobal)
global_readers =
    made (OwnVariable Static) u2
    ∷ made (OwnVariable Controlled) u2
    ∷ made (λ p. ExternalVariable p.0 Static p.1) (name ⊗ u2)
    ∷ made (λ p. ExternalVariable p.0 Controlled p.1) (name ⊗ u2)
    ∷ made (λ p. EntryPoint p.0 p.1) (name ⊗ signature)
    ∷ []

-- a global
unfoldable pub global : Field CodedGlobal
global = tagged global_form global_readers

-- the kind of a number from 0 to 2
abbrev pub kind_of : ℕ → BlockKind
kind_of n = get_or (Procedure ∷ BeginBlock ∷ []) n OnUnit

-- the kind of a block, by its number from 0 to 2
abbrev pub block_kind : Field BlockKind
block_kind = shaped kind_of kind_number (from_to 0 2 u1)

-- a block of its parts
abbrev pub block_of : BlockKind × (Option ℕ × (ℕ × (List ℕ × (ℕ × (ℕ × ℕ))))) → CodedBlock
block_of p = record {
  kind = p.0;
  parent = p.1.0;
  parameters = p.1.1.0;
  variables = p.1.1.1.0;
  temporaries = p.1.1.1.1.0;
  entry = p.1.1.1.1.1.0;
  statement = p.1.1.1.1.1.1;
}

-- its parts: kind, parent, parameters, AUTOMATIC variables, temporaries, first instruction, statement
abbrev pub block_parts : CodedBlock → BlockKind × (Option ℕ × (ℕ × (List ℕ × (ℕ × (ℕ × ℕ)))))
block_parts b =
    (b.kind, (b.parent, (b.parameters, (b.variables, (b.temporaries, (b.entry, b.statement))))))

-- a block
unfoldable pub block : Field CodedBlock
block = shaped block_of block_parts
    (block_kind ⊗ optional ⊗ parameter_number ⊗ list u2 ⊗ u2 ⊗ u2 ⊗ u4)

-- what stands after bytes that are the same everywhere, if they stand in front
abbrev pub after_prefix : List ℕ → List ℕ → Option (List ℕ)
after_prefix [] bytes = Some bytes
after_prefix (x ∷ xs) [] = None
after_prefix (x ∷ xs) (b ∷ bytes) = if nat_eq x b then after_prefix xs bytes else None

-- what is read after them, or a fault where they do not stand
abbrev pub past : {X : Type 0} → DeckFault → Reader X → Option (List ℕ) → Result (X × List ℕ) DeckFault
past fault read None = Err fault
past fault read (Some bytes) = read bytes

-- the magic; bytes that begin otherwise, or are fewer, have a fault of their own
abbrev pub after_magic : {X : Type 0} → List ℕ → Field X → Field X
after_magic magic f = record {
  bytes_of = λ x. magic ++ f.bytes_of x;
  fits = f.fits;
  read = λ bytes. past BadMagic f.read (after_prefix magic bytes);
}

-- a version, if it may stand there
abbrev pub if_it_may : (may_stand : Version → Bool) → Version → Option Version
if_it_may may_stand v = if may_stand v then Some v else None

-- the version of a number, if one has it that may stand there
abbrev pub version_among : (may_stand : Version → Bool) → ℕ → Option Version
version_among may_stand n =
    if nat_eq n 1 then if_it_may may_stand First
    else if nat_eq n 2 then if_it_may may_stand Second
    else if nat_eq n 3 then if_it_may may_stand Third
    else None

-- that version, or that there is none
abbrev pub or_bad_version : Option Version → (rest : List ℕ) → Result (Version × List ℕ) DeckFault
or_bad_version None rest = Err BadVersion
or_bad_version (Some v) rest = Ok (v, rest)

-- a version that may stand there, by its number; no other number may
abbrev pub version_in : (may_stand : Version → Bool) → Field Version
version_in may_stand = record {
  bytes_of = λ v. version_number v ∷ [];
  fits = may_stand;
  read = λ bytes. byte_at bytes >>= λ n. or_bad_version (version_among may_stand n.0) n.1;
}

-- each version may
abbrev pub any_version : Version → Bool
any_version v = true

-- the parts of code in the order of their bytes: its signature, its tables and its instructions
abbrev pub CodeParts : Type 0
CodeParts =
    CodedSignature × (List ParameterType × (List CodedTemplate × (List Value × (List CodedGlobal
    × (List CodedBlock × List Instruction)))))

-- code of its parts
abbrev pub code_of : CodeParts → Code
code_of p = record {
  signature = p.0;
  descriptions = p.1.0;
  templates = p.1.1.0;
  values = p.1.1.1.0;
  globals = p.1.1.1.1.0;
  blocks = p.1.1.1.1.1.0;
  instructions = p.1.1.1.1.1.1;
}

-- its parts
abbrev pub code_parts : Code → CodeParts
code_parts c =
    (c.signature, (c.descriptions, (c.templates, (c.values, (c.globals, (c.blocks, c.instructions))))))

-- the code of a unit
unfoldable pub code : Version → Field Code
code v = shaped code_of code_parts
    (signature ⊗ list (description v) ⊗ list (template v) ⊗ list (constant v) ⊗ list global ⊗ list block
    ⊗ list (instruction_in v))

-- what a deck has after its version: the procedure's name, whether it is the main one, and the code
abbrev pub Contents : Type 0
Contents = Name × (Bool × Code)

-- its bytes
unfoldable pub contents : Version → Field Contents
contents v = name ⊗ flag ⊗ code v

-- a deck of its parts
abbrev pub deck_of : Version × Contents → Deck
deck_of p = record { version = p.0; name = p.1.0; is_main = p.1.1.0; code = p.1.1.1 }

-- its parts, in the order of their bytes
abbrev pub deck_parts : Deck → Version × Contents
deck_parts d = (d.version, (d.name, (d.is_main, d.code)))

-- PLID, a version that may stand there, and the contents
unfoldable pub deck_in_versions : (may_stand : Version → Bool) → Field Deck
deck_in_versions may_stand =
    after_magic (80 ∷ 76 ∷ 73 ∷ 68 ∷ [])
    (shaped deck_of deck_parts (followed (version_in may_stand) contents))

-- a deck in any version
abbrev pub deck : Field Deck
deck = deck_in_versions any_version
