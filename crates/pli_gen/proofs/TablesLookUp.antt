-- The tables of a unit's code have what its instructions and blocks name.
use Rattle.std.specs.Prelude.{◌≡◌, ℕ, Option, Some, List, [], ◌∷◌, ◌++◌, map, refl}
use Rattle.std.specs.List.{flat_map, AllByRecursion}
use Rattle.std.specs.Option.{option_and_then}
use Rattle.std.proofs.Common.{ap, ◌∙◌, option_map}
use Rattle.std.proofs.lemmas.Option.{slice_get-map}
use Rattle.pli_map.specs.Description.{Description}
use Rattle.pli_map.specs.ParameterTypes.{ParameterType, Stated, same_type, stated}
use Rattle.pli_map.specs.Variables.{Variable}
use Rattle.pli_program.specs.Program as programs
use Rattle.pli_program.specs.declared.instruction.Instruction.TheVariants as op
use Rattle.pli_program.specs.Program.{Block, UnitCode}
use Rattle.pli_type_tree.specs.Templates.{Template, variable_of}
use Rattle.pli_type_tree.specs.TypedTree.{Global, OwnVariable, ExternalVariable, EntryPoint, TypedUnit}
use Rattle.pli_code.specs.CodeTables.{Code, looked_up, template_at, variables_at, block_looked_up, program_of, there, with_description, described, stated_at}
use Rattle.pli_code.specs.CodeTables.{global_before, globals_linked}
use Rattle.pli_gen_emit.specs.TreeTranslation.{BlockTree, blocks_of, blocks_at, block_at, block_code, place_after, instructions_of, globals_code, unit_code}
use Rattle.pli_gen_emit.specs.Encoding.{NumberedTables, tables_for, descriptions_named, templates_named, values_named}
use Rattle.pli_type_keys.specs.Same.{same_value, same_template}
use Rattle.pli_gen_emit.specs.Encoding.{signature_descriptions, global_descriptions, global_templates, block_templates}
use Rattle.pli_gen_emit.specs.Encoding.{stated_number, template_number, instruction_code, template_code, global_code, coded_blocks, coded_unit, code_of}
use Rattle.pli_gen.specs.laws.ListLaws.{all_front, all_back}
use Rattle.pli_map.specs.laws.ParameterLaws.{same_type_decides}
use Rattle.pli_type_keys.specs.laws.KeyLaws.{value_decides, template_decides}
use Rattle.pli_gen_emit.proofs.TableNumbers.{Has, number_stands, has_all}
use Rattle.pli_gen.proofs.UnitLemmas.{globals_described}

module _ (tables : NumberedTables) (u : TypedUnit) (bs : List BlockTree) (code : List programs.Instruction) where
  abbrev c : Code
  c = coded_unit tables u bs code

  abbrev HasDescription : ParameterType → Type 0
  HasDescription d = Has same_type same_type_decides tables.descriptions d

  abbrev HasTemplate : Template → Type 0
  HasTemplate t = Has same_template template_decides tables.templates t

  description_there : (d : Description) → HasDescription (Stated d) → stated_at c (stated_number tables d) ≡ Some d
  description_there d h = ap (option_and_then stated) (number_stands same_type same_type_decides tables.descriptions (Stated d) h)

  template_there : (t : Template) → HasTemplate t → HasDescription (Stated t.description) → template_at c (template_number tables t) ≡ Some t
  template_there t h d =
      ap (with_description c) (slice_get-map (template_code tables) tables.templates (template_number tables t) ∙ ap (option_map (template_code tables)) (number_stands same_template template_decides tables.templates t h))
      ∙ ap (described c t.initial) (description_there t.description d)

  -- a template with its description
  abbrev InTables : Template → Type 0
  InTables t = HasTemplate t × HasDescription (Stated t.description)

  both : (ts : List Template) → AllByRecursion HasTemplate ts → AllByRecursion HasDescription (map (λ t. Stated t.description) ts) → AllByRecursion InTables ts
  both [] h d = tt
  both (t ∷ ts) h d = ((h.0, d.0), both ts h.1 d.1)

  templates_there : (ts : List Template) → AllByRecursion InTables ts → flat_map (λ n. there (template_at c n)) (map (template_number tables) ts) ≡ ts
  templates_there [] h = refl
  templates_there (t ∷ ts) h =
      ap (λ o. there o ++ flat_map (λ n. there (template_at c n)) (map (template_number tables) ts)) (template_there t h.0.0 h.0.1) ∙ ap (λ ts. t ∷ ts) (templates_there ts h.1)

  variables_there : (ts : List Template) → AllByRecursion InTables ts → variables_at c (map (template_number tables) ts) ≡ map variable_of ts
  variables_there ts h = ap (map variable_of) (templates_there ts h)

  globals_there : (gs : List Global) (links : List ℕ) → AllByRecursion InTables (flat_map global_templates gs)
      → globals_linked c (map (global_code tables) gs) links ≡ globals_code gs links
  globals_there [] links h = refl
  globals_there (OwnVariable kind t ∷ gs) links h =
      ap (λ o. global_before c (option_map (programs.OwnVariable kind) (option_map variable_of o)) (globals_linked c (map (global_code tables) gs) links)) (template_there t h.0.0 h.0.1)
      ∙ ap (λ gs. programs.OwnVariable kind (variable_of t) ∷ gs) (globals_there gs links h.1)
  globals_there (ExternalVariable name kind t ∷ gs) [] h = globals_there gs [] h.1
  globals_there (ExternalVariable name kind t ∷ gs) (link ∷ links) h =
      ap (λ o. global_before c (option_map (programs.ExternalVariable link kind) (option_map variable_of o)) (globals_linked c (map (global_code tables) gs) links)) (template_there t h.0.0 h.0.1)
      ∙ ap (λ gs. programs.ExternalVariable link kind (variable_of t) ∷ gs) (globals_there gs links h.1)
  globals_there (EntryPoint name s ∷ gs) [] h = globals_there gs [] h
  globals_there (EntryPoint name s ∷ gs) (link ∷ links) h = ap (λ gs. programs.EntryPoint link ∷ gs) (globals_there gs links h)

  instruction_there : (i : programs.Instruction) → AllByRecursion HasDescription (descriptions_named i) → AllByRecursion HasTemplate (templates_named i)
      → AllByRecursion (Has same_value value_decides tables.values) (values_named i) → looked_up c (instruction_code tables i) ≡ Some i
  instruction_there (op.Field offset d) ds ts vs = ap (option_map (op.Field offset)) (description_there d ds.0)
  instruction_there (op.Constant v) ds ts vs = ap (option_map op.Constant) (number_stands same_value value_decides tables.values v vs.0)
  instruction_there (op.MakeDummy t) ds ts vs = ap (option_map op.MakeDummy) (template_there t ts.0 ds.0)
  instruction_there (op.Fit d) ds ts vs = ap (option_map op.Fit) (description_there d ds.0)
  instruction_there (op.Based d) ds ts vs = ap (option_map op.Based) (description_there d ds.0)
  instruction_there (op.AllocateBased t) ds ts vs = ap (option_map op.AllocateBased) (template_there t ts.0 ds.0)
  instruction_there (op.AllocateInArea t target) ds ts vs = ap (option_map (λ t. op.AllocateInArea t target)) (template_there t ts.0 ds.0)
  instruction_there (op.FreeBased d) ds ts vs = ap (option_map op.FreeBased) (description_there d ds.0)
  instruction_there i ds ts vs = refl

  instructions_there : (is : List programs.Instruction) → AllByRecursion HasDescription (flat_map descriptions_named is) → AllByRecursion HasTemplate (flat_map templates_named is)
      → AllByRecursion (Has same_value value_decides tables.values) (flat_map values_named is) → map (looked_up c) (map (instruction_code tables) is) ≡ map Some is
  instructions_there [] ds ts vs = refl
  instructions_there (i ∷ is) ds ts vs =
      let here = instruction_there i (all_front HasDescription (descriptions_named i) (flat_map descriptions_named is) ds) (all_front HasTemplate (templates_named i) (flat_map templates_named is) ts)
      (all_front (Has same_value value_decides tables.values) (values_named i) (flat_map values_named is) vs) in
      let rest = instructions_there is (all_back HasDescription (descriptions_named i) (flat_map descriptions_named is) ds) (all_back HasTemplate (templates_named i) (flat_map templates_named is) ts)
      (all_back (Has same_value value_decides tables.values) (values_named i) (flat_map values_named is) vs) in
      ap (λ x. x ∷ map (looked_up c) (map (instruction_code tables) is)) here ∙ ap (λ xs. Some i ∷ xs) rest

  abbrev block_with : BlockTree → ℕ → List Variable → Block
  block_with b p vs = record { kind = b.kind; parent = b.parent; parameters = b.parameters; variables = vs; temporaries = b.head.temporaries; entry = p; statement = b.head.statement }

  blocks_there : (bs : List BlockTree) (p : ℕ) → AllByRecursion InTables (flat_map (λ b. b.head.variables) bs) → map (block_looked_up c) (coded_blocks tables bs p) ≡ blocks_at bs p
  blocks_there [] p h = refl
  blocks_there (b ∷ bs) p h =
      let q = place_after (block_code b p) p in
      let vs = b.head.variables in
      let more = flat_map (λ b. b.head.variables) bs in
      ap (λ vs. block_with b p vs ∷ map (block_looked_up c) (coded_blocks tables bs q)) (variables_there vs (all_front InTables vs more h))
      ∙ ap (λ blocks. block_at b p ∷ blocks) (blocks_there bs q (all_back InTables vs more h))

pub looked_up_is_unit_code : (u : TypedUnit) (links : List ℕ) → program_of (code_of u) u.name links ≡ unit_code u links
looked_up_is_unit_code u links =
    let bs = blocks_of u in
    let code = instructions_of bs in
    let t = tables_for u bs code in
    let inside = block_templates bs in
    let outside = flat_map global_templates u.globals in
    let from_signature = signature_descriptions u.signature in
    let from_globals = flat_map global_descriptions u.globals in
    let from_blocks = map (λ t. Stated t.description) inside in
    let from_code = flat_map descriptions_named code in
    let has = HasDescription t u bs code in
    let has_template = HasTemplate t u bs code in
    let described_all = has_all same_type same_type_decides (from_signature ++ from_globals ++ from_blocks ++ from_code) [] in
    let templates_all = has_all same_template template_decides (outside ++ inside ++ flat_map templates_named code) [] in
    let values_all = has_all same_value value_decides (flat_map values_named code) [] in
    let described_front = all_front has (from_signature ++ from_globals ++ from_blocks) from_code described_all in
    let templates_front = all_front has_template (outside ++ inside) (flat_map templates_named code) templates_all in
    let globals_in = both t u bs code outside (all_front has_template outside inside templates_front)
    (globals_described t.descriptions u.globals (all_back has from_signature from_globals (all_front has (from_signature ++ from_globals) from_blocks described_front))) in
    let blocks_in = both t u bs code inside (all_back has_template outside inside templates_front) (all_back has (from_signature ++ from_globals) from_blocks described_front) in
    let globals = globals_there t u bs code u.globals links globals_in in
    let blocks = blocks_there t u bs code bs 0 blocks_in in
    let instructions = instructions_there t u bs code code
    (all_back has (from_signature ++ from_globals ++ from_blocks) from_code described_all)
    (all_back has_template (outside ++ inside) (flat_map templates_named code) templates_all)
    values_all in
    let with : List programs.GlobalCode → List Block → List (Option programs.Instruction) → UnitCode = λ g b i. record { name = u.name; globals = g; blocks = b; instructions = i } in
    let p = program_of (code_of u) u.name links in
    ap (λ g. with g p.blocks p.instructions) globals
    ∙ ap (λ b. with (globals_code u.globals links) b p.instructions) blocks
    ∙ ap (with (globals_code u.globals links) (blocks_at bs 0)) instructions
