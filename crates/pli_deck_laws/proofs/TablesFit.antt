-- The tables of a well-formed unit: each entry is within limits, and what is named has its number there.
use Rattle.std.proofs.Common.{◌≡◌, ℕ, ◌+◌, ◌<◌, ◌≤◌, nat_lt, Bool, false, Option, Some, None, List, [], ◌∷◌, ◌++◌, length, map, slice_get, arith}
use Rattle.std.specs.List.{flat_map, list_any, AllByRecursion}
use Rattle.std.proofs.lemmas.List.{length-map}
use Rattle.std.proofs.lemmas.Option.{slice_get_within}
use Rattle.pli_map.specs.Description.{Description}
use Rattle.pli_map.specs.ParameterTypes.{ParameterType, Stated, same_type}
use Rattle.pli_map.specs.laws.ParameterLaws.{same_type_decides}
use Rattle.pli_program.specs.Program as programs
use Rattle.pli_program.specs.declared.instruction.Instruction.TheVariants as op
use Rattle.pli_type_tree.specs.Templates.{Template}
use Rattle.pli_type_tree.specs.TypedTree.{Signature, Global, OwnVariable, ExternalVariable, EntryPoint, TypedUnit}
use Rattle.pli_code.specs.CodeTables.{there}
use Rattle.pli_value.specs.Value.{Value}
use Rattle.pli_gen_emit.specs.TreeTranslation.{BlockTree, place_after, block_code}
use Rattle.pli_gen_emit.specs.Encoding.{number_in, descriptions_named, templates_named, values_named, signature_descriptions, global_descriptions, global_templates, block_templates}
use Rattle.pli_gen_emit.specs.Encoding.{NumberedTables, tables_for, description_number, template_number, coded_blocks}
use Rattle.pli_gen.specs.Limits.{has_many_slots}
use Rattle.pli_type_keys.specs.Same.{same_value, same_template}
use Rattle.pli_type_keys.specs.laws.KeyLaws.{value_decides, template_decides}
use Rattle.pli_gen.specs.laws.ListLaws.{all_front, all_back}
use Rattle.pli_gen.proofs.SimpleCode.{all_both}
use Rattle.pli_gen_emit.proofs.TableNumbers.{Has, number_stands, has_all}
use Rattle.pli_gen.proofs.UnitLemmas.{put_all}
use Rattle.pli_gen.proofs.LimitLemmas.{few}
use Rattle.pli_deck_laws.specs.Limits.{IfThere, IsDescription, IsParameterType, IsConstant, IsTemplate, IsSignature, IsGlobal}
use Rattle.pli_deck_laws.specs.WellFormed.{slots_of, IsHead}
use Rattle.pli_deck_laws.proofs.AllowedLemmas.{Allowed}
use Rattle.pli_deck_laws.proofs.FieldsFit.{neither}
use Rattle.pli_deck_laws.proofs.UnitBlocks.{all_as}

-- ---- entries

pub all_joined : {X Y : Type 0} (f : Y → List X) (P : X → Type 0) (Q : Y → Type 0) → ((y : Y) → Q y → AllByRecursion P (f y)) → (ys : List Y) → AllByRecursion Q ys
    → AllByRecursion P (flat_map f ys)
all_joined f P Q each [] h = tt
all_joined f P Q each (y ∷ ys) h = all_both P (f y) (flat_map f ys) (each y h.0) (all_joined f P Q each ys h.1)

result_described : (o : Option Description) → IfThere IsDescription o → AllByRecursion IsParameterType (map Stated (there o))
result_described None h = tt
result_described (Some d) h = (h, tt)

signature_described : (s : Signature) → IsSignature s → AllByRecursion IsParameterType (signature_descriptions s)
signature_described s h = all_both IsParameterType s.parameters (map Stated (there s.result)) h.1 (result_described s.result h.2)

global_described : (g : Global) → IsGlobal g → AllByRecursion IsParameterType (global_descriptions g)
global_described (OwnVariable kind t) h = (h.0.0, tt)
global_described (ExternalVariable name kind t) h = (h.0.0, tt)
global_described (EntryPoint name s) h = signature_described s h

global_made : (g : Global) → IsGlobal g → AllByRecursion IsTemplate (global_templates g)
global_made (OwnVariable kind t) h = (h, tt)
global_made (ExternalVariable name kind t) h = (h, tt)
global_made (EntryPoint name s) h = tt

templates_described : (ts : List Template) → AllByRecursion IsTemplate ts → AllByRecursion IsParameterType (map (λ t. Stated t.description) ts)
templates_described [] h = tt
templates_described (t ∷ ts) h = (h.0.0.0, templates_described ts h.1)

-- what instructions name
module _ (globals blocks last : ℕ) where
  code_described : (i : programs.Instruction) → Allowed globals blocks last i → AllByRecursion IsParameterType (descriptions_named i)
  code_described (op.Field offset d) h = (h.1, tt)
  code_described (op.MakeDummy t) h = (h.0.0, tt)
  code_described (op.Fit d) h = (h, tt)
  code_described (op.Based d) h = (h, tt)
  code_described (op.AllocateBased t) h = (h.0.0, tt)
  code_described (op.AllocateInArea t target) h = (h.0.0.0, tt)
  code_described (op.FreeBased d) h = (h, tt)
  code_described i h = tt

  code_made : (i : programs.Instruction) → Allowed globals blocks last i → AllByRecursion IsTemplate (templates_named i)
  code_made (op.MakeDummy t) h = (h, tt)
  code_made (op.AllocateBased t) h = (h, tt)
  code_made (op.AllocateInArea t target) h = (h.0, tt)
  code_made i h = tt

  code_valued : (i : programs.Instruction) → Allowed globals blocks last i → AllByRecursion IsConstant (values_named i)
  code_valued (op.Constant v) h = (h, tt)
  code_valued i h = tt

  -- the tables of a unit of these blocks and instructions
  module _ (u : TypedUnit) (bs : List BlockTree) (code : List programs.Instruction) (signature : IsSignature u.signature) (all_globals : AllByRecursion IsGlobal u.globals)
      (heads : AllByRecursion (λ b. IsHead b.head b.statements) bs) (allowed : AllByRecursion (Allowed globals blocks last) code) where
    variables_made : AllByRecursion IsTemplate (block_templates bs)
    variables_made = all_joined (λ b. b.head.variables) IsTemplate (λ b. IsHead b.head b.statements) (λ b h. h.1) bs heads

    pub descriptions_good : AllByRecursion IsParameterType (tables_for u bs code).descriptions
    descriptions_good =
        let from_signature = signature_descriptions u.signature in
        let from_globals = flat_map global_descriptions u.globals in
        let from_blocks = map (λ t. Stated t.description) (block_templates bs) in
        let from_code = flat_map descriptions_named code in
        put_all IsParameterType same_type (from_signature ++ from_globals ++ from_blocks ++ from_code) [] tt
        (all_both IsParameterType (from_signature ++ from_globals ++ from_blocks) from_code
        (all_both IsParameterType (from_signature ++ from_globals) from_blocks
        (all_both IsParameterType from_signature from_globals (signature_described u.signature signature)
        (all_joined global_descriptions IsParameterType IsGlobal global_described u.globals all_globals))
        (templates_described (block_templates bs) variables_made))
        (all_joined descriptions_named IsParameterType (Allowed globals blocks last) code_described code allowed))

    pub templates_good : AllByRecursion IsTemplate (tables_for u bs code).templates
    templates_good =
        let outside = flat_map global_templates u.globals in
        let inside = block_templates bs in
        let from_code = flat_map templates_named code in
        put_all IsTemplate same_template (outside ++ inside ++ from_code) [] tt
        (all_both IsTemplate (outside ++ inside) from_code
        (all_both IsTemplate outside inside (all_joined global_templates IsTemplate IsGlobal global_made u.globals all_globals) variables_made)
        (all_joined templates_named IsTemplate (Allowed globals blocks last) code_made code allowed))

    pub values_good : AllByRecursion IsConstant (tables_for u bs code).values
    values_good = put_all IsConstant same_value (flat_map values_named code) [] tt (all_joined values_named IsConstant (Allowed globals blocks last) code_valued code allowed)

-- ---- numbers

module _ (tables : NumberedTables) where
  abbrev pub StandsDescription : ParameterType → Type 0
  StandsDescription d = slice_get tables.descriptions (description_number tables d) ≡ Some d

  abbrev pub StandsTemplate : Template → Type 0
  StandsTemplate t = slice_get tables.templates (template_number tables t) ≡ Some t

  abbrev pub StandsValue : Value → Type 0
  StandsValue v = slice_get tables.values (number_in same_value tables.values v) ≡ Some v

  pub description_within : (d : ParameterType) → StandsDescription d → description_number tables d < length tables.descriptions
  description_within d h = slice_get_within tables.descriptions (description_number tables d) d h

  pub template_within : (t : Template) → StandsTemplate t → template_number tables t < length tables.templates
  template_within t h = slice_get_within tables.templates (template_number tables t) t h

  pub value_within : (v : Value) → StandsValue v → number_in same_value tables.values v < length tables.values
  value_within v h = slice_get_within tables.values (number_in same_value tables.values v) v h

-- all that a unit names stands at its number
pub record AllStand (u : TypedUnit) (bs : List BlockTree) (code : List programs.Instruction) (tables : NumberedTables) : Type 0 where
  pub signature : AllByRecursion (StandsDescription tables) (signature_descriptions u.signature)
  pub described_globals : AllByRecursion (StandsDescription tables) (flat_map global_descriptions u.globals)
  pub made_globals : AllByRecursion (StandsTemplate tables) (flat_map global_templates u.globals)
  pub variables : AllByRecursion (StandsTemplate tables) (block_templates bs)
  pub descriptions : AllByRecursion (StandsDescription tables) (flat_map descriptions_named code)
  pub templates : AllByRecursion (StandsTemplate tables) (flat_map templates_named code)
  pub values : AllByRecursion (StandsValue tables) (flat_map values_named code)

pub all_stand : (u : TypedUnit) (bs : List BlockTree) (code : List programs.Instruction) → AllStand u bs code (tables_for u bs code)
all_stand u bs code =
    let tables = tables_for u bs code in
    let from_signature = signature_descriptions u.signature in
    let from_globals = flat_map global_descriptions u.globals in
    let from_blocks = map (λ t. Stated t.description) (block_templates bs) in
    let from_code = flat_map descriptions_named code in
    let outside = flat_map global_templates u.globals in
    let inside = block_templates bs in
    let made = flat_map templates_named code in
    let D = StandsDescription tables in
    let T = StandsTemplate tables in
    let every = from_signature ++ from_globals ++ from_blocks ++ from_code in
    let every_made = outside ++ inside ++ made in
    let described : AllByRecursion D every = all_as (Has same_type same_type_decides tables.descriptions) D (λ d h. number_stands same_type same_type_decides tables.descriptions d h) every (has_all same_type same_type_decides every []) in
    let mades : AllByRecursion T every_made =
    all_as (Has same_template template_decides tables.templates) T (λ t h. number_stands same_template template_decides tables.templates t h) every_made (has_all same_template template_decides every_made []) in
    let values : AllByRecursion (StandsValue tables) (flat_map values_named code) =
    all_as (Has same_value value_decides tables.values) (StandsValue tables) (λ v h. number_stands same_value value_decides tables.values v h) (flat_map values_named code)
    (has_all same_value value_decides (flat_map values_named code) []) in
    let front = all_front D (from_signature ++ from_globals ++ from_blocks) from_code described in
    let outer = all_front D (from_signature ++ from_globals) from_blocks front in
    let front_made = all_front T (outside ++ inside) made mades in
    record {
      signature = all_front D from_signature from_globals outer;
      described_globals = all_back D from_signature from_globals outer;
      made_globals = all_front T outside inside front_made;
      variables = all_back T outside inside front_made;
      descriptions = all_back D (from_signature ++ from_globals ++ from_blocks) from_code described;
      templates = all_back T (outside ++ inside) made mades;
      values = values;
    }

-- ---- limits of what is not too long

pub none_of : {X : Type 0} (f : X → Bool) (xs : List X) → list_any f xs ≡ false → AllByRecursion (λ x. f x ≡ false) xs
none_of f [] h = tt
none_of f (x ∷ xs) h = let n = neither (f x) (list_any f xs) h in (n.0, none_of f xs n.1)

module _ (tables : NumberedTables) where
  pub few_slots : (bs : List BlockTree) (p : ℕ) → list_any has_many_slots (coded_blocks tables bs p) ≡ false → AllByRecursion (λ b. slots_of b ≤ 65535) bs
  few_slots [] p h = tt
  few_slots (b ∷ bs) p h =
      let q = place_after (block_code b p) p in
      let slots = b.parameters + length (map (template_number tables) b.head.variables) in
      let n = neither (nat_lt 65535 slots) (list_any has_many_slots (coded_blocks tables bs q)) h in
      let count = length-map b.head.variables (template_number tables) in
      let limit = few 65535 slots n.0 in
      (omega (arith, count, limit), few_slots bs q n.1)
