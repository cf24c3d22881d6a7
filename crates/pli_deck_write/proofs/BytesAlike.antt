-- Decks and modules are written as the bytes of the fields by which they are read.
use Rattle.std.specs.Prelude.{◌≡◌, ℕ, zero, suc, ℤ, Bool, List, [], ◌∷◌, ◌++◌, length, map, Option, Some, None}
use Rattle.std.specs.List.{flat_map}
use Rattle.std.proofs.Common.{refl, ap, ◌∙◌}
use Rattle.byteorder.specs.Endian.{big_bytes}
use Rattle.pli_base.specs.Name.{Name}
use Rattle.pli_map.specs.declared.parameter.StringForm.TheVariants as forms
use Rattle.pli_map.specs.Description.{Array, Structure, listed}
use Rattle.pli_map.specs.ParameterTypes.{ParameterType, Stated, AnyString, AnyArray, ArrayOf, StructureOf, listed_types}
use Rattle.pli_operation.specs.declared.operation.Operation.{Operation}
use Rattle.pli_operation.specs.declared.operation.Operation.TheVariants as calculate
use Rattle.pli_program.specs.declared.kind.VariableKind.TheVariants.{Static, Controlled}
use Rattle.pli_type_tree.specs.Templates.{InitialScalar}
use Rattle.pli_value.specs.Value.{Value, Number, Characters, Located}
use Rattle.pli_value.specs.declared.locator.Locator.TheVariants as locators
use Rattle.pli_code.specs.CodedInstruction.{Instruction}
use Rattle.pli_program.specs.declared.instruction.Instruction.TheVariants as op
use Rattle.pli_code.specs.declared.version.Version.{Version}
use Rattle.pli_code.specs.declared.version.Version.TheVariants.{First}
use Rattle.pli_code.specs.CodeTables.{CodedTemplate, CodedBlock, CodedSignature, Code, Deck, CodedGlobal, OwnVariable, ExternalVariable, EntryPoint}
use Rattle.pli_code.specs.Instructions.{operation_form, instruction}
use Rattle.pli_code.specs.Modules.{External, Member, Module}
use Rattle.pli_code.specs.Numbered.{kind_number}
use Rattle.pli_deck_write.specs.Descriptions.{description_within, description}
use Rattle.pli_deck_write.specs.DeckFields.{name, optional, bit_string, integer, characters, constant, initial, template, signature, global, block, code, contents, any_version, deck_in_versions}
use Rattle.pli_deck_write.specs.ModuleFields.{external_after, bytes_after, member, module_field}
use Rattle.pli_deck_write.specs.ModuleSpelling.{module_bytes}
use Rattle.pli_deck_write.specs.InstructionBytes.{two, four, operation_bytes, instruction_bytes}
use Rattle.pli_deck_write.specs.DeckBytes.{counted, few_counted, name_bytes, bounds_bytes, type_bytes, integer_bytes, constant_bytes, initial_bytes, template_bytes, optional_bytes, signature_bytes, global_bytes, block_bytes, code_bytes, deck_written}
use Rattle.pli_deck_write.specs.ModuleBytes.{external_written, member_written, module_written}

-- items that have the same bytes each have the same bytes together
module _ {X : Type 0} (f g : X → List ℕ) (same : (x : X) → f x ≡ g x) where
  all_same : (xs : List X) → flat_map f xs ≡ flat_map g xs
  all_same [] = refl
  all_same (x ∷ xs) = ap (λ bs. bs ++ flat_map f xs) (same x) ∙ ap (λ bs. g x ++ bs) (all_same xs)

-- bytes are their own
each_alone : (bytes : List ℕ) → flat_map (λ b. b ∷ []) bytes ≡ bytes
each_alone [] = refl
each_alone (b ∷ bytes) = ap (λ bs. b ∷ bs) (each_alone bytes)

operation_same : (o : Operation) → (operation_form o).tag ∷ (operation_form o).bytes ≡ operation_bytes o
operation_same calculate.Add = refl
operation_same o = refl

instruction_same : (i : Instruction) → instruction.bytes_of i ≡ instruction_bytes i
unfolding instruction
instruction_same (op.Operate o) = operation_same o
instruction_same i = refl

type_same : (n : ℕ) (v : Version) (type : ParameterType) → (description_within v n).bytes_of type ≡ type_bytes n type
unfolding description_within type_bytes
type_same zero v type = refl
type_same (suc n) v (Stated (Array bounds element)) =
    ap (λ bs. 8 ∷ few_counted bounds_bytes bounds ++ bs) (type_same n v (Stated element))
type_same (suc n) v (Stated (Structure ds)) =
    ap (λ bs. 9 ∷ two (length (map Stated (listed ds))) ++ bs)
    (all_same (description_within v n).bytes_of (type_bytes n) (type_same n v) (map Stated (listed ds)))
type_same (suc n) v (AnyString forms.Character) = refl
type_same (suc n) v (AnyArray dimensions element) = ap (λ bs. 13 ∷ dimensions ∷ bs) (type_same n v element)
type_same (suc n) v (ArrayOf bounds element) =
    ap (λ bs. 8 ∷ few_counted bounds_bytes bounds ++ bs) (type_same n v element)
type_same (suc n) v (StructureOf types) =
    ap (λ bs. 9 ∷ two (length (listed_types types)) ++ bs)
    (all_same (description_within v n).bytes_of (type_bytes n) (type_same n v) (listed_types types))
type_same (suc n) v type = refl

integer_same : (v : Version) (x : ℤ) → (integer v).bytes_of x ≡ integer_bytes v x
integer_same First x = refl
integer_same v x = refl

constant_same : (v : Version) (x : Value) → (constant v).bytes_of x ≡ constant_bytes v x
unfolding constant characters bit_string
constant_same v (Number x) = ap (λ bs. 1 ∷ bs) (integer_same v x)
constant_same v (Characters text) = ap (λ bs. 2 ∷ two (length text) ++ bs) (each_alone text)
constant_same v (Located (locators.Offset position)) = refl
constant_same v x = refl

initial_same : (v : Version) (i : InitialScalar) → (initial v).bytes_of i ≡ initial_bytes v i
unfolding initial
initial_same v i = ap (λ bs. four i.offset ++ bs) (constant_same v i.value)

template_same : (v : Version) (t : CodedTemplate) → (template v).bytes_of t ≡ template_bytes v t
unfolding template
template_same v t =
    ap (λ bs. two t.description ++ four (length t.initial) ++ bs)
    (all_same (initial v).bytes_of (initial_bytes v) (initial_same v) t.initial)

optional_same : (n : Option ℕ) → optional.bytes_of n ≡ optional_bytes n
unfolding optional
optional_same None = refl
optional_same (Some n) = refl

signature_same : (s : CodedSignature) → signature.bytes_of s ≡ signature_bytes s
unfolding signature
signature_same s = ap (λ bs. few_counted two s.parameters ++ bs) (optional_same s.result)

pub name_same : (n : Name) → name.bytes_of n ≡ name_bytes n
unfolding name
name_same n = ap (λ bs. big_bytes 1 (length n) ++ bs) (each_alone n)

global_same : (g : CodedGlobal) → global.bytes_of g ≡ global_bytes g
unfolding global
global_same (ExternalVariable n Static t) = ap (λ bs. 2 ∷ bs ++ two t) (name_same n)
global_same (ExternalVariable n Controlled t) = ap (λ bs. 3 ∷ bs ++ two t) (name_same n)
global_same (EntryPoint n s) =
    ap (λ bs. 4 ∷ bs ++ signature.bytes_of s) (name_same n) ∙ ap (λ bs. 4 ∷ name_bytes n ++ bs) (signature_same s)
global_same (OwnVariable Static t) = refl
global_same (OwnVariable Controlled t) = refl

block_same : (b : CodedBlock) → block.bytes_of b ≡ block_bytes b
unfolding block
block_same b =
    ap (λ bs. kind_number b.kind ∷ bs ++ (b.parameters ∷ counted two b.variables ++ (two b.temporaries ++ (two b.entry ++ four b.statement))))
    (optional_same b.parent)

code_same : (v : Version) (c : Code) → (code v).bytes_of c ≡ code_bytes v c
unfolding code code_bytes
code_same v c =
    rw (
      signature_same c.signature,
      all_same (description_within v 512).bytes_of (type_bytes 512) (type_same 512 v) c.descriptions,
      all_same (template v).bytes_of (template_bytes v) (template_same v) c.templates,
      all_same (constant v).bytes_of (constant_bytes v) (constant_same v) c.values,
      all_same global.bytes_of global_bytes global_same c.globals,
      all_same block.bytes_of block_bytes block_same c.blocks,
      all_same instruction.bytes_of instruction_bytes instruction_same c.instructions,
    ) refl

pub deck_same : (may_stand : Version → Bool) (d : Deck) → (deck_in_versions may_stand).bytes_of d ≡ deck_written d
unfolding deck_in_versions contents
deck_same may_stand d = rw (name_same d.name, code_same d.version d.code) refl

external_same : (before : Option External) (e : External) → (external_after before).bytes_of e ≡ external_written e
unfolding external_after
external_same before e = rw (name_same e.name) refl

externals_same : (before : Option External) (es : List External) → bytes_after external_after before es ≡ flat_map external_written es
externals_same before [] = refl
externals_same before (e ∷ es) =
    ap (λ bs. bs ++ bytes_after external_after (Some e) es) (external_same before e)
    ∙ ap (λ bs. external_written e ++ bs) (externals_same (Some e) es)

member_same : (v : Version) (m : Member) → (member v).bytes_of m ≡ member_written m
unfolding member
member_same v m = rw (name_same m.name, deck_same any_version m.deck) refl

pub module_same : (m : Module) → module_bytes m ≡ module_written m
unfolding module_field
module_same m =
    rw (
      externals_same None m.externals,
      all_same (member m.version).bytes_of member_written (member_same m.version) m.units,
    ) refl
