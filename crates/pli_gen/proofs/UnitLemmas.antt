-- The code of a unit from its parts.
use Rattle.std.proofs.Common.{◌≡◌, ℕ, ◌||◌, ◌&&◌, not, nat_lt, Bool, true, false, if◌then◌else◌, None, List, [], ◌∷◌, ◌++◌, map, length, refl, sym, ap, subst, ◌∙◌}
use Rattle.std.specs.List.{flat_map, list_all, list_any, AllByRecursion}
use Rattle.std.proofs.lemmas.List.{length-map}
use Rattle.pli_map.specs.ParameterTypes.{ParameterType, Stated, same_type}
use Rattle.pli_map.specs.laws.ParameterLaws.{same_type_decides}
use Rattle.pli_value.specs.Value.{Value}
use Rattle.pli_program.specs.Program as programs
use Rattle.pli_program.specs.declared.instruction.Instruction.TheVariants as op
use Rattle.pli_type_tree.specs.Templates.{Template}
use Rattle.pli_type_tree.specs.TypedTree.{Global, OwnVariable, ExternalVariable, EntryPoint, TypedUnit}
use Rattle.pli_code.specs.CodeFields as fields
use Rattle.pli_code.specs.CodeTables.{CodedTemplate, CodedBlock, CodedSignature, CodedGlobal, Code}
use Rattle.pli_code.specs.CodedInstruction.{Instruction}
use Rattle.pli_gen_emit.specs.TreeTranslation.{BlockTree, place_after, block_code, blocks_code, blocks_of, places_of, statement_place, with_target, instructions_of}
use Rattle.pli_gen_emit.specs.Encoding.{NumberedTables, tables_for, numbered, descriptions_named, templates_named, values_named}
use Rattle.pli_type_keys.specs.Same.{same_template, same_value}
use Rattle.pli_gen_emit.specs.Encoding.{signature_descriptions, global_descriptions, global_templates, block_templates}
use Rattle.pli_gen_emit.specs.Encoding.{template_code, signature_code, global_code, instruction_code, coded_block, coded_blocks, coded_unit, code_of}
use Rattle.pli_gen.specs.Limits.{is_over, has_many_slots, has_many_types, initial_bytes, is_too_long}
use Rattle.pli_gen.specs.laws.ListLaws.{all_front, all_back}
use Rattle.pli_gen_emit.specs.answers.Pieces.{entries_of}
use Rattle.pli_gen_emit.specs.answers.Instructions.{instruction_fits, retargeted}
use Rattle.pli_gen.specs.answers.Pieces.{blocks_with_entries, HaveDescriptions, no_code}
use Rattle.pli_gen.proofs.FieldLemmas.{instructions_as_coded}
use Rattle.pli_gen.proofs.SimpleCode.{all_both}
use Rattle.pli_gen_emit.proofs.TableNumbers.{Has, has_all}

-- entries that are numbered are among those that were put
module _ {X : Type 0} (P : X → Type 0) (alike : X → X → Bool) where
  put_one : (table : List X) (x : X) (b : Bool) → AllByRecursion P table → P x → AllByRecursion P (if b then table else table ++ x ∷ [])
  put_one table x true h k = h
  put_one table x false h k = all_both P table (x ∷ []) h (k, tt)

  pub put_all : (xs table : List X) → AllByRecursion P table → AllByRecursion P xs → AllByRecursion P (numbered alike table xs)
  put_all [] table h k = h
  put_all (x ∷ xs) table h k =
      let b = list_any (alike x) table in
      put_all xs (if b then table else table ++ x ∷ []) (put_one table x b h k.0) k.1

module _ (ds : List ParameterType) where
  abbrev HasIts : Template → Type 0
  HasIts t = list_any (same_type (Stated t.description)) ds ≡ true

  variables_stand : (ts : List Template) → AllByRecursion (Has same_type same_type_decides ds) (map (λ t. Stated t.description) ts) → AllByRecursion HasIts ts
  variables_stand [] h = tt
  variables_stand (t ∷ ts) h = (h.0, variables_stand ts h.1)

  -- those of globals
  pub globals_described : (gs : List Global) → AllByRecursion (Has same_type same_type_decides ds) (flat_map global_descriptions gs)
      → AllByRecursion (Has same_type same_type_decides ds) (map (λ t. Stated t.description) (flat_map global_templates gs))
  globals_described [] h = tt
  globals_described (OwnVariable kind t ∷ gs) h = (h.0, globals_described gs h.1)
  globals_described (ExternalVariable name kind t ∷ gs) h = (h.0, globals_described gs h.1)
  globals_described (EntryPoint name s ∷ gs) h =
      globals_described gs (all_back (Has same_type same_type_decides ds) (signature_descriptions s) (flat_map global_descriptions gs) h)

  templates_stand : (is : List programs.Instruction) → AllByRecursion (Has same_type same_type_decides ds) (flat_map descriptions_named is) → AllByRecursion HasIts (flat_map templates_named is)
  templates_stand [] h = tt
  templates_stand (op.MakeDummy t ∷ is) h = (h.0, templates_stand is h.1)
  templates_stand (op.AllocateBased t ∷ is) h = (h.0, templates_stand is h.1)
  templates_stand (op.AllocateInArea t target ∷ is) h = (h.0, templates_stand is h.1)
  templates_stand (i ∷ is) h = templates_stand is (all_back (Has same_type same_type_decides ds) (descriptions_named i) (flat_map descriptions_named is) h)

-- each template's description is in its table
pub tables_stand : (u : TypedUnit) (bs : List BlockTree) (code : List programs.Instruction) → HaveDescriptions (tables_for u bs code)
tables_stand u bs code =
    let variables = block_templates bs in
    let outside = flat_map global_templates u.globals in
    let from_signature = signature_descriptions u.signature in
    let from_globals = flat_map global_descriptions u.globals in
    let from_blocks = map (λ t. Stated t.description) variables in
    let from_code = flat_map descriptions_named code in
    let ds = (tables_for u bs code).descriptions in
    let has = Has same_type same_type_decides ds in
    let all = has_all same_type same_type_decides (from_signature ++ from_globals ++ from_blocks ++ from_code) [] in
    let front = all_front has (from_signature ++ from_globals ++ from_blocks) from_code all in
    let globals = all_back has from_signature from_globals (all_front has (from_signature ++ from_globals) from_blocks front) in
    let blocks = all_back has (from_signature ++ from_globals) from_blocks front in
    put_all (HasIts ds) same_template (outside ++ variables ++ flat_map templates_named code) [] tt
    (all_both (HasIts ds) (outside ++ variables) (flat_map templates_named code)
    (all_both (HasIts ds) outside variables (variables_stand ds outside (globals_described ds u.globals globals)) (variables_stand ds variables blocks))
    (templates_stand ds code (all_back has (from_signature ++ from_globals ++ from_blocks) from_code all)))

-- what a GOTO names is the same wherever it leads
module _ (places : List (ℕ × ℕ)) where
  same_descriptions : (i : programs.Instruction) → descriptions_named (with_target places i) ≡ descriptions_named i
  same_descriptions (op.Goto outward label) = refl
  same_descriptions i = refl

  same_templates : (i : programs.Instruction) → templates_named (with_target places i) ≡ templates_named i
  same_templates (op.Goto outward label) = refl
  same_templates i = refl

  same_values : (i : programs.Instruction) → values_named (with_target places i) ≡ values_named i
  same_values (op.Goto outward label) = refl
  same_values i = refl

  named_again : {X : Type 0} (f : programs.Instruction → List X) → ((i : programs.Instruction) → f (with_target places i) ≡ f i) → (is : List programs.Instruction)
      → flat_map f (map (with_target places) is) ≡ flat_map f is
  named_again f h [] = refl
  named_again f h (i ∷ is) = ap (λ xs. xs ++ flat_map f (map (with_target places) is)) (h i) ∙ ap (λ xs. f i ++ xs) (named_again f h is)

  same_fields : (i : programs.Instruction) → instruction_fits (with_target places i) ≡ instruction_fits i
  same_fields (op.Goto outward label) = refl
  same_fields i = refl

  all_fields : (is : List programs.Instruction) → list_all instruction_fits (map (with_target places) is) ≡ list_all instruction_fits is
  all_fields [] = refl
  all_fields (i ∷ is) =
      ap (λ b. b && list_all instruction_fits (map (with_target places) is)) (same_fields i) ∙ ap (λ r. instruction_fits i && r) (all_fields is)

  -- a table of places
  module _ (place : ℕ → ℕ) (e : (n : ℕ) → place n ≡ statement_place places n) where
    one_target : (i : programs.Instruction) → retargeted place i ≡ with_target places i
    one_target (op.Goto outward label) = ap (op.Goto outward) (e label)
    one_target i = refl

    pub all_targets : (is : List programs.Instruction) → map (retargeted place) is ≡ map (with_target places) is
    all_targets [] = refl
    all_targets (i ∷ is) = ap (λ x. x ∷ map (retargeted place) is) (one_target i) ∙ ap (λ xs. with_target places i ∷ xs) (all_targets is)

abbrev pub coded : CodedSignature → List ParameterType → List CodedTemplate → List Value → List CodedGlobal → List CodedBlock → List Instruction → Code
coded s ds ts vs gs bs is = record { signature = s; descriptions = ds; templates = ts; values = vs; globals = gs; blocks = bs; instructions = is }

module _ (t : NumberedTables) where
  blocks_placed : (bs : List BlockTree) (p : ℕ) → blocks_with_entries t bs (entries_of bs p) ≡ coded_blocks t bs p
  blocks_placed [] p = refl
  blocks_placed (b ∷ bs) p = ap (λ cs. coded_block t b p ∷ cs) (blocks_placed bs (place_after (block_code b p) p))

  -- a unit's code, part by part
  pub unit_coded : (u : TypedUnit) (bs : List BlockTree) (code : List programs.Instruction) (entries : List ℕ)
      (s : CodedSignature) (ds : List ParameterType) (ts : List CodedTemplate) (vs : List Value) (gs : List CodedGlobal) (cs : List CodedBlock) (is : List Instruction)
      → entries ≡ entries_of bs 0 → s ≡ signature_code t u.signature
      → ds ≡ t.descriptions → ts ≡ map (template_code t) t.templates → vs ≡ t.values → gs ≡ map (global_code t) u.globals → cs ≡ blocks_with_entries t bs entries
      → is ≡ map (instruction_code t) code
      → coded s ds ts vs gs cs is ≡ coded_unit t u bs code
  unit_coded u bs code entries s ds ts vs gs cs is begin sign d te v g c i =
      let blocks : cs ≡ coded_blocks t bs 0 = c ∙ ap (blocks_with_entries t bs) begin ∙ blocks_placed bs 0 in
      let signature = signature_code t u.signature in
      let templates = map (template_code t) t.templates in
      let globals = map (global_code t) u.globals in
      ap (λ x. coded x ds ts vs gs cs is) sign ∙ ap (λ x. coded signature x ts vs gs cs is) d ∙ ap (λ x. coded signature t.descriptions x vs gs cs is) te
      ∙ ap (λ x. coded signature t.descriptions templates x gs cs is) v
      ∙ ap (λ x. coded signature t.descriptions templates t.values x cs is) g
      ∙ ap (λ x. coded signature t.descriptions templates t.values globals x is) blocks
      ∙ ap (coded signature t.descriptions templates t.values globals (coded_blocks t bs 0)) i

tables_again : (u : TypedUnit) (bs : List BlockTree) → tables_for u bs (blocks_code bs 0) ≡ tables_for u bs (instructions_of bs)
tables_again u bs =
    let code = blocks_code bs 0 in
    let places = places_of bs 0 in
    let with : List ParameterType → List Template → List Value → NumberedTables = λ ds ts vs. record {
      descriptions = numbered same_type [] (signature_descriptions u.signature ++ flat_map global_descriptions u.globals ++ map (λ t. Stated t.description) (block_templates bs) ++ ds);
      templates = numbered same_template [] (flat_map global_templates u.globals ++ block_templates bs ++ ts);
      values = numbered same_value [] vs;
    } in
    sym (
    ap (λ ds. with ds (flat_map templates_named (instructions_of bs)) (flat_map values_named (instructions_of bs))) (named_again places descriptions_named (same_descriptions places) code)
    ∙ ap (λ ts. with (flat_map descriptions_named code) ts (flat_map values_named (instructions_of bs))) (named_again places templates_named (same_templates places) code)
    ∙ ap (λ vs. with (flat_map descriptions_named code) (flat_map templates_named code) vs) (named_again places values_named (same_values places) code)
    )

-- only how many instructions there are, and whether their numbers fit, matters to a unit's limits
limits_again : (t : NumberedTables) (u : TypedUnit) (bs : List BlockTree) (code other : List programs.Instruction) → length code ≡ length other
    → list_all instruction_fits code ≡ list_all instruction_fits other
    → is_too_long (coded_unit t u bs code) ≡ is_too_long (coded_unit t u bs other)
limits_again t u bs code other e fit =
    let c = coded_unit t u bs code in
    let number = instruction_code t in
    let count : length (map number code) ≡ length (map number other) = length-map code number ∙ e ∙ sym (length-map other number) in
    let narrow : list_all fields.instruction_fits (map number code) ≡ list_all fields.instruction_fits (map number other) =
    instructions_as_coded t code ∙ fit ∙ sym (instructions_as_coded t other) in
    let with : ℕ → Bool → Bool = λ n b. is_over c.descriptions || is_over c.templates || is_over c.values || is_over c.globals || is_over c.blocks || nat_lt 65535 n
    || list_any has_many_slots c.blocks || list_any has_many_types c.descriptions || nat_lt 16777216 (initial_bytes c)
    || not (list_all fields.block_fits c.blocks && b) in
    ap (λ n. with n (list_all fields.instruction_fits (map number code))) count ∙ ap (with (length (map number other))) narrow

-- the parts of a unit, as they are made
module _ (u : TypedUnit) (bs : List BlockTree) (code : List programs.Instruction) (t : NumberedTables)
    (blocks : bs ≡ blocks_of u) (made : code ≡ blocks_code bs 0) (numbers : t ≡ tables_for u bs code) where
  pub have_descriptions : HaveDescriptions t
  have_descriptions = subst HaveDescriptions (sym numbers) (tables_stand u bs code)

  whole : t ≡ tables_for u bs (instructions_of bs)
  whole = numbers ∙ ap (tables_for u bs) made ∙ tables_again u bs

  abbrev unit_with : List BlockTree → Code
  unit_with bs = coded_unit (tables_for u bs (instructions_of bs)) u bs (instructions_of bs)

  pub unit_is : coded_unit t u bs (instructions_of bs) ≡ code_of u
  unit_is = ap (λ t. coded_unit t u bs (instructions_of bs)) whole ∙ ap unit_with blocks

  pub limits_are : is_too_long (coded_unit t u bs code) ≡ is_too_long (code_of u)
  limits_are =
      limits_again t u bs code (instructions_of bs) (ap length made ∙ sym (length-map (blocks_code bs 0) (with_target (places_of bs 0))))
      (ap (list_all instruction_fits) made ∙ sym (all_fields (places_of bs 0) (blocks_code bs 0))) ∙ ap is_too_long unit_is

abbrev signed : List ℕ → CodedSignature
signed ps = record { parameters = ps; result = None }

-- code whose parts are empty
pub nothing_coded : (ps : List ℕ) (ds : List ParameterType) (ts : List CodedTemplate) (vs : List Value) (gs : List CodedGlobal) (cs : List CodedBlock) (is : List Instruction)
    → ps ≡ [] → ds ≡ [] → ts ≡ [] → vs ≡ [] → gs ≡ [] → cs ≡ [] → is ≡ [] → coded (signed ps) ds ts vs gs cs is ≡ no_code
nothing_coded ps ds ts vs gs cs is p d t v g c i =
    let s = signed [] in
    ap (λ x. coded (signed x) ds ts vs gs cs is) p ∙ ap (λ x. coded s x ts vs gs cs is) d ∙ ap (λ x. coded s [] x vs gs cs is) t ∙ ap (λ x. coded s [] [] x gs cs is) v
    ∙ ap (λ x. coded s [] [] [] x cs is) g ∙ ap (λ x. coded s [] [] [] [] x is) c ∙ ap (coded s [] [] [] [] []) i
