-- What was emitted for a unit: the tables, the numbers and the instructions of its code.
use Rattle.std.proofs.Common.{◌≡◌, ◌++◌, ℕ, ◌≤◌, ◌∙◌, not, Bool, true, false, List, [], map, length, refl, sym, ap, subst, arith}
use Rattle.std.specs.List.{flat_map, list_all}
use Rattle.pli_map.specs.ParameterTypes.{Stated, same_type}
use Rattle.pli_program.specs.Program as programs
use Rattle.pli_type_keys.specs.Same.{same_template}
use Rattle.pli_type_tree.specs.TypedTree.{TypedUnit}
use Rattle.pli_code.specs.CodedInstruction.{Instruction}
use Rattle.pli_gen_emit.specs.Encoding.{NumberedTables, tables_for, instruction_code, coded_unit, code_of}
use Rattle.pli_gen_emit.specs.Encoding.{descriptions_named, templates_named, signature_descriptions, global_descriptions, global_templates, block_templates}
use Rattle.pli_gen_emit.specs.TreeTranslation.{BlockTree, blocks_code, places_of, instructions_of}
use Rattle.pli_gen_emit.specs.answers.Emitting.{Emission, emitted, extended}
use Rattle.pli_gen_emit.specs.answers.Instructions.{instruction_fits, step_place}
use Rattle.pli_gen_emit.specs.answers.Units.{before_code, IsEmitted}
use Rattle.pli_gen_emit.specs.declared.emitting.Emitted.{Emitted}
use Rattle.pli_gen_emit.specs.views.BlockView.{block_trees}
use Rattle.pli_gen_emit.specs.views.TableView.{tables_view}
use Rattle.pli_gen_emit.proofs.EmitLemmas.{counted}
use Rattle.pli_gen_emit.proofs.JumpLemmas.{after_is}
use Rattle.pli_gen_emit.proofs.KeyLemmas.{numbered_after, same_tables}
use Rattle.pli_gen.specs.Limits.{is_too_long}
use Rattle.pli_gen.specs.answers.Pieces.{first_step, gotos_landed, HaveDescriptions}
use Rattle.pli_gen.proofs.CodeEmitted.{wide_is, tables_after, tables_are, code_is, gotos_in, gotos_are, all_landed, all_whole}
use Rattle.pli_gen.proofs.CodeFits.{unit_fits, places_fit}
use Rattle.pli_gen.proofs.LimitLemmas.{Short, short_parts}
use Rattle.pli_gen.proofs.StepPlaces.{steps_are_places, steps_emitted}
use Rattle.pli_gen.proofs.UnitLemmas.{all_targets, have_descriptions, unit_is, limits_are}

module _ (u : TypedUnit) (e : Emitted) (made : IsEmitted u e) where
  abbrev pub blocks : List BlockTree
  blocks = block_trees e.blocks.items

  abbrev pub code : List programs.Instruction
  code = blocks_code blocks 0

  abbrev pub tables : NumberedTables
  tables = tables_view e.emitter.tables

  abbrev before : Emission
  before = before_code u blocks

  after : tables ≡ tables_after before.tables code
  after = ap (λ (s : Emission). s.tables) made.code ∙ tables_are before code

  pub numbered_for : tables ≡ tables_for u blocks code
  numbered_for =
      let ds = signature_descriptions u.signature ++ flat_map global_descriptions u.globals ++ map (λ t. Stated t.description) (block_templates blocks) in
      let ts = flat_map global_templates u.globals ++ block_templates blocks in
      after
      ∙ same_tables _ _ _ _ _ _
      (sym (numbered_after same_type [] ds (flat_map descriptions_named code)))
      (sym (numbered_after same_template [] ts (flat_map templates_named code)))
      refl

  pub have : HaveDescriptions tables
  have = have_descriptions u blocks code tables made.blocks refl numbered_for

  pub limits : is_too_long (coded_unit tables u blocks code) ≡ is_too_long (code_of u)
  limits = limits_are u blocks code tables made.blocks refl numbered_for

  pub whole : coded_unit tables u blocks (instructions_of blocks) ≡ code_of u
  whole = unit_is u blocks code tables made.blocks refl numbered_for

  pub short : is_too_long (code_of u) ≡ false → Short tables u blocks code
  short h = short_parts tables u blocks code (limits ∙ h)

  pub counts : length e.emitter.code.items ≡ length code
  counts =
      let a : length e.emitter.code.items ≡ length (extended before code).code = ap (λ (s : Emission). length s.code) made.code in
      let b = counted before code in
      let c = after_is code 0 in
      omega (arith, a, b, c)

  not_not : (b : Bool) → not (not b) ≡ b
  not_not true = refl
  not_not false = refl

  pub narrow : not e.emitter.is_wide ≡ list_all instruction_fits code
  narrow = ap (λ (s : Emission). not s.is_wide) made.code ∙ ap not (wide_is before code) ∙ not_not (list_all instruction_fits code)

  -- the instructions with their targets
  pub instructions : (mid : List Instruction) → mid ≡ e.emitter.code.items → is_too_long (code_of u) ≡ false
      → gotos_landed (λ n. first_step mid 0 n 0) mid e.emitter.gotos.items ≡ map (instruction_code tables) (instructions_of blocks)
  instructions mid is h =
      let s = short h in
      let fits = unit_fits blocks 65535 s.instructions in
      let all = map (emitted tables) code in
      let place : ℕ → ℕ = λ n. first_step all 0 n 0 in
      let emitted_so : mid ≡ all =
      is ∙ ap (λ (s : Emission). s.code) made.code ∙ code_is before code ∙ ap (λ t. map (emitted t) code) (sym after) in
      let gotos : e.emitter.gotos.items ≡ gotos_in code 0 = ap (λ (s : Emission). s.gotos) made.code ∙ gotos_are before code in
      let begin : (n : ℕ) → place n ≡ step_place code 0 n 0 = λ n. steps_emitted tables code 0 n 0 in
      let near : (n : ℕ) → place n ≤ 65535 = λ n. subst (λ k. k ≤ 65535) (sym (begin n)) (places_fit code n 65535 s.instructions) in
      ap (λ xs. gotos_landed (λ n. first_step xs 0 n 0) xs e.emitter.gotos.items) emitted_so
      ∙ ap (gotos_landed place all) gotos
      ∙ all_landed tables place code []
      ∙ all_whole tables place s.descriptions s.templates s.values near code fits s.code_numbers
      ∙ ap (map (instruction_code tables)) (all_targets (places_of blocks 0) place (λ n. begin n ∙ steps_are_places blocks n) code)
