-- The deck of a well-formed unit is one that bytes spell.
use Rattle.std.proofs.Common.{◌≡◌, ℕ, suc, ◌+◌, ◌<◌, ◌≤◌, is_some, not, ◌&&◌, Bool, true, false, nat_le, nat_lt, if◌then◌else◌, Option, Some, None, List, [], ◌∷◌, ◌++◌, length, map, slice_get, refl, ap, sym, subst, ◌∙◌, arith}
use Rattle.std.specs.Prelude.{fold}
use Rattle.std.specs.List.{flat_map, list_all, list_any, sum_by, AllByRecursion}
use Rattle.std.proofs.lemmas.Bool.{lt-ltb, le-leb}
use Rattle.std.proofs.lemmas.List.{length-map}
use Rattle.pli_base.specs.Name.{Name}
use Rattle.pli_map.specs.Description.{Description}
use Rattle.std.specs.Option.{option_and_then}
use Rattle.pli_map.specs.ParameterTypes.{ParameterType, Stated, stated, same_type}
use Rattle.pli_map.specs.laws.ParameterLaws.{same_type_decides}
use Rattle.pli_program.specs.Program as programs
use Rattle.pli_type_tree.specs.Templates.{InitialScalar, Template}
use Rattle.pli_type_tree.specs.TypedTree.{Global, TypedUnit}
use Rattle.pli_code.specs.CodeTables.{CodedTemplate, CodedBlock, Code, Deck}
use Rattle.pli_gen_emit.specs.TreeTranslation.{BlockTree, blocks_of, instructions_of}
use Rattle.pli_gen_emit.specs.Encoding.{NumberedTables, tables_for, descriptions_named, templates_named, values_named, template_code, global_code, instruction_code, coded_blocks, code_of}
use Rattle.pli_gen.specs.Limits.{has_many_types, bytes_of, initial_bytes_of, is_too_long}
use Rattle.pli_gen.specs.WellNumbered.{IsWellNumbered}
use Rattle.pli_gen.proofs.SimpleCode.{all_both}
use Rattle.pli_gen_emit.proofs.TableNumbers.{number_stands}
use Rattle.pli_gen.proofs.UnitLemmas.{tables_stand}
use Rattle.pli_gen.specs.laws.ListLaws.{all_front, all_back}
use Rattle.pli_code.specs.Fields.{Field, u2, list}
use Rattle.pli_deck_write.specs.Descriptions.{description}
use Rattle.pli_code.specs.Instructions.{instruction_in}
use Rattle.pli_code.specs.Versions.{written}
use Rattle.pli_code.specs.declared.version.Version.{Version}
use Rattle.pli_code.proofs.VersionLemmas.{fits_written}
use Rattle.pli_deck_write.specs.DeckFields.{name, flag, constant, template, signature, global, block, contents}
use Rattle.pli_deck_write.specs.DeckFields as field
use Rattle.pli_code.specs.declared.fault.DeckFault.TheVariants.{BadJump, BadNumber, OverLimit}
use Rattle.pli_deck_write.specs.DeckFaults.{Naming, OfParameter, OfDescription, OfTemplate, OfValue, OfGlobal, OfBlock, OfInstruction, named_by_signature, named_by_template, named_by_global, named_by_block, named_by_instruction, named_by_variables, named_by_blocks, named_by}
use Rattle.pli_deck_write.specs.DeckFaults.{is_there, targets_of, jumps_within, is_good_template, within_limits}
use Rattle.pli_deck_write.specs.DeckFaults as fault
use Rattle.pli_deck_write.specs.Spelling.{IsDeck}
use Rattle.pli_deck_laws.specs.DeckLaws.{UnitsAreSaid}
use Rattle.pli_deck_laws.specs.Limits.{IsParameterType, IsConstant, IsTemplate}
use Rattle.pli_deck_laws.specs.UnitTypes.{IsName, HasBytes, BeginsWithBytes, IsTypedCode}
use Rattle.pli_deck_laws.specs.WellFormed.{IsHead, IsWellFormed}
use Rattle.pli_deck_laws.proofs.AllowedLemmas.{Allowed}
use Rattle.pli_gen.proofs.LimitLemmas.{Short, short_parts, blocks_counted}
use Rattle.pli_deck_laws.proofs.FieldsFit.{both_hold, each_holds, all_mapped, fits_short, fits_list, fits_name, fits_type, fits_constant}
use Rattle.pli_deck_laws.proofs.InstructionsFit.{Named, HasTemplate, HasValue, GoodInstruction, instruction_good}
use Rattle.pli_deck_laws.proofs.PartsFit.{GoodTemplate, template_good, GoodSignature, signature_good, GoodGlobal, globals_good, GoodCodedBlock, blocks_good}
use Rattle.pli_deck_laws.proofs.TablesFit.{all_joined, descriptions_good, templates_good, values_good, StandsDescription, StandsTemplate, StandsValue, template_within, value_within, AllStand, all_stand, none_of, few_slots}
use Rattle.pli_deck_laws.proofs.UnitBlocks.{all_as, all_pairs, one_block}
use Rattle.pli_deck_laws.proofs.UnitCode.{Final, BlockWithin, HasFew, IsWithin, code_within}

-- ---- instructions

module _ (tables : NumberedTables) (globals blocks last : ℕ) (few_descriptions : length tables.descriptions ≤ 65535) (few_templates : length tables.templates ≤ 65535) (few_values : length tables.values ≤ 65535)
    (few_globals : globals ≤ 65535) (few_blocks : blocks ≤ 65535) (few_instructions : last ≤ 65535) where
  all_instructions : (is : List programs.Instruction) → AllByRecursion (Final globals blocks last) is → AllByRecursion (StandsDescription tables) (flat_map descriptions_named is)
      → AllByRecursion (StandsTemplate tables) (flat_map templates_named is) → AllByRecursion (StandsValue tables) (flat_map values_named is)
      → AllByRecursion (λ i. GoodInstruction tables globals blocks last (instruction_code tables i)) is
  all_instructions [] h ds ts vs = tt
  all_instructions (i ∷ is) h ds ts vs =
      let D = StandsDescription tables in
      let T = StandsTemplate tables in
      let V = StandsValue tables in (
        instruction_good tables globals blocks last few_descriptions few_templates few_values few_globals few_blocks few_instructions i h.0.0 h.0.1
            (all_front D (descriptions_named i) (flat_map descriptions_named is) ds)
            (all_as T (HasTemplate tables globals blocks last) (template_within tables) (templates_named i) (all_front T (templates_named i) (flat_map templates_named is) ts))
            (all_as V (HasValue tables globals blocks last) (value_within tables) (values_named i) (all_front V (values_named i) (flat_map values_named is) vs)),
        all_instructions is h.1 (all_back D (descriptions_named i) (flat_map descriptions_named is) ds) (all_back T (templates_named i) (flat_map templates_named is) ts)
            (all_back V (values_named i) (flat_map values_named is) vs),
      )

-- ---- sums of bytes

same_sums : {X : Type 0} (f g : X → ℕ) → ((x : X) → f x ≡ g x) → (xs : List X) (n : ℕ) → fold (λ s x. s + f x) n xs ≡ fold (λ s x. s + g x) n xs
same_sums f g same [] n = refl
same_sums f g same (x ∷ xs) n = ap (λ k. fold (λ s x. s + f x) (n + k) xs) (same x) ∙ same_sums f g same xs (n + g x)

no_bytes : (o : Option Description) → fault.initial_bytes o [] ≡ 0
no_bytes None = refl
no_bytes (Some d) = refl

some_bytes : (o : Option Description) (i : InitialScalar) (is : List InitialScalar) → fault.initial_bytes o (i ∷ is) ≡ bytes_of o
some_bytes None i is = refl
some_bytes (Some d) i is = refl

abbrev coded_template : ℕ → List InitialScalar → CodedTemplate
coded_template n is = record { description = n; initial = is }

-- the description of a number among types
abbrev described_at : List ParameterType → ℕ → Option Description
described_at ds n = option_and_then stated (slice_get ds n)

bytes_said : (ds : List ParameterType) (n : ℕ) (is : List InitialScalar) → fault.initial_bytes (described_at ds n) is ≡ initial_bytes_of ds (coded_template n is)
bytes_said ds n [] = no_bytes (described_at ds n)
bytes_said ds n (i ∷ is) = some_bytes (described_at ds n) i is

abbrev bytes_in_deck : List ParameterType → CodedTemplate → ℕ
bytes_in_deck ds t = fault.initial_bytes (described_at ds t.description) t.initial

bytes_summed : (ds : List ParameterType) (ts : List CodedTemplate) → sum_by (bytes_in_deck ds) ts ≡ sum_by (initial_bytes_of ds) ts
bytes_summed ds ts = same_sums (bytes_in_deck ds) (initial_bytes_of ds) (λ t. bytes_said ds t.description t.initial) ts 0

-- ---- decks without faults

no_fault : (a b c : Bool) → a ≡ true → b ≡ true → c ≡ true → (if not a then Some BadJump else if not b then Some BadNumber else if not c then Some OverLimit else None) ≡ None
no_fault a b c h k l = rw (h, k, l)

flag_fits : (b : Bool) → flag.fits b ≡ true
flag_fits true = refl
flag_fits false = refl

-- a list of few entries, each of which fits
listed : {X : Type 0} (f : Field X) (xs : List X) → length xs ≤ 65535 → AllByRecursion (λ x. f.fits x ≡ true) xs → (list f).fits xs ≡ true
listed f xs few all = fits_list u2 f xs (fits_short (length xs) few) (each_holds f.fits (λ x. f.fits x ≡ true) (λ x e. e) xs all)

-- code whose parts fit, name what is there, and are within limits
record GoodCode (tables : NumberedTables) (globals blocks last : ℕ) (c : Code) : Type 0 where
  descriptions : c.descriptions ≡ tables.descriptions
  templates : length c.templates ≡ length tables.templates
  values : length c.values ≡ length tables.values
  count_globals : length c.globals ≡ globals
  count_blocks : length c.blocks ≡ blocks
  instructions : length c.instructions ≡ suc last
  few_descriptions : length tables.descriptions ≤ 65535
  few_templates : length tables.templates ≤ 65535
  few_values : length tables.values ≤ 65535
  few_globals : globals ≤ 65535
  few_blocks : blocks ≤ 65535
  few_instructions : suc last ≤ 65535
  some_block : 1 ≤ blocks
  signature_fits : signature.fits c.signature ≡ true
  descriptions_fit : AllByRecursion (λ x. (description written).fits x ≡ true) c.descriptions
  templates_fit : AllByRecursion (λ x. (template written).fits x ≡ true) c.templates
  values_fit : AllByRecursion (λ x. (constant written).fits x ≡ true) c.values
  globals_fit : AllByRecursion (λ x. global.fits x ≡ true) c.globals
  blocks_fit : AllByRecursion (λ x. block.fits x ≡ true) c.blocks
  instructions_fit : AllByRecursion (λ x. (instruction_in written).fits x ≡ true) c.instructions
  signature_named : AllByRecursion (Named tables globals blocks last) (named_by_signature c.signature)
  templates_named : AllByRecursion (λ x. AllByRecursion (Named tables globals blocks last) (named_by_template x)) c.templates
  globals_named : AllByRecursion (λ x. AllByRecursion (Named tables globals blocks last) (named_by_global x)) c.globals
  blocks_named : AllByRecursion (λ x. AllByRecursion (Named tables globals blocks last) (named_by_block x)) c.blocks
  instructions_named : AllByRecursion (λ x. AllByRecursion (Named tables globals blocks last) (named_by_instruction x)) c.instructions
  jumps : AllByRecursion (λ x. AllByRecursion (λ n. n ≤ last) (targets_of x)) c.instructions
  templates_good : AllByRecursion (λ (t : CodedTemplate). is_good_template (described_at c.descriptions t.description) t.initial ≡ true) c.templates
  bytes : sum_by (bytes_in_deck c.descriptions) c.templates ≤ 16777216

module _ (tables : NumberedTables) (globals blocks last : ℕ) (c : Code) (g : GoodCode tables globals blocks last c) where
  few_there : (n m : ℕ) → n ≡ m → m ≤ 65535 → n ≤ 65535
  few_there n m e h = omega (arith, e, h)

  code_fits : (field.code written).fits c ≡ true
  unfolding field.code
  code_fits =
      both_hold _ _ g.signature_fits
      (both_hold _ _ (listed (description written) c.descriptions (few_there (length c.descriptions) (length tables.descriptions) (ap length g.descriptions) g.few_descriptions) g.descriptions_fit)
      (both_hold _ _ (listed (template written) c.templates (few_there (length c.templates) (length tables.templates) g.templates g.few_templates) g.templates_fit)
      (both_hold _ _ (listed (constant written) c.values (few_there (length c.values) (length tables.values) g.values g.few_values) g.values_fit)
      (both_hold _ _ (listed global c.globals (few_there (length c.globals) globals g.count_globals g.few_globals) g.globals_fit)
      (both_hold _ _ (listed block c.blocks (few_there (length c.blocks) blocks g.count_blocks g.few_blocks) g.blocks_fit)
      (listed (instruction_in written) c.instructions (few_there (length c.instructions) (suc last) g.instructions g.few_instructions) g.instructions_fit))))))

  below : (n m k : ℕ) → n < m → k ≡ m → nat_lt n k ≡ true
  below n m k h e = lt-ltb n k (omega (arith, h, e))

  named_there : (x : Naming) → Named tables globals blocks last x → is_there c x ≡ true
  named_there (OfParameter n) h = below n (length tables.descriptions) (length c.descriptions) h (ap length g.descriptions)
  named_there (OfDescription n) h = ap (λ ts. is_some (described_at ts n)) g.descriptions ∙ ap (λ o. is_some (option_and_then stated o)) h.1
  named_there (OfTemplate n) h = below n (length tables.templates) (length c.templates) h g.templates
  named_there (OfValue n) h = below n (length tables.values) (length c.values) h g.values
  named_there (OfGlobal n) h = below n globals (length c.globals) h g.count_globals
  named_there (OfBlock n) h = below n blocks (length c.blocks) h g.count_blocks
  named_there (OfInstruction n) h = below n (suc last) (length c.instructions) (omega (arith, h)) g.instructions

  all_named : AllByRecursion (Named tables globals blocks last) (named_by c)
  all_named =
      let P = Named tables globals blocks last in
      let templates = all_joined named_by_template P (λ x. AllByRecursion P (named_by_template x)) (λ x h. h) c.templates g.templates_named in
      let globals = all_joined named_by_global P (λ x. AllByRecursion P (named_by_global x)) (λ x h. h) c.globals g.globals_named in
      let block_names = all_joined named_by_block P (λ x. AllByRecursion P (named_by_block x)) (λ x h. h) c.blocks g.blocks_named in
      let instructions = all_joined named_by_instruction P (λ x. AllByRecursion P (named_by_instruction x)) (λ x h. h) c.instructions g.instructions_named in
      let some = g.some_block in
      all_both P (named_by_signature c.signature ++ named_by_variables c) (named_by_blocks c)
      (all_both P (named_by_signature c.signature) (named_by_variables c) g.signature_named
      (all_both P (flat_map named_by_template c.templates ++ flat_map named_by_global c.globals) (OfBlock 0 ∷ [])
      (all_both P (flat_map named_by_template c.templates) (flat_map named_by_global c.globals) templates globals) (omega (arith, some), tt)))
      (all_both P (flat_map named_by_block c.blocks) (flat_map named_by_instruction c.instructions) block_names instructions)

  all_jump : jumps_within c ≡ true
  all_jump =
      each_holds (λ i. nat_lt i (length c.instructions)) (λ n. n ≤ last) (λ n h. below n (suc last) (length c.instructions) (omega (arith, h)) g.instructions) (flat_map targets_of c.instructions)
      (all_joined targets_of (λ n. n ≤ last) (λ x. AllByRecursion (λ n. n ≤ last) (targets_of x)) (λ x h. h) c.instructions g.jumps)

  all_within : within_limits c ≡ true
  all_within =
      both_hold (list_all (λ t. is_good_template (described_at c.descriptions t.description) t.initial) c.templates) (nat_le (sum_by (bytes_in_deck c.descriptions) c.templates) 16777216)
      (each_holds (λ (t : CodedTemplate). is_good_template (described_at c.descriptions t.description) t.initial) (λ (t : CodedTemplate). is_good_template (described_at c.descriptions t.description) t.initial ≡ true)
      (λ t h. h) c.templates g.templates_good)
      (le-leb (sum_by (bytes_in_deck c.descriptions) c.templates) 16777216 g.bytes)

  -- the deck of this name
  module _ (n : Name) (is_main : Bool) (named : name.fits n ≡ true) where
    abbrev named_deck : Deck
    named_deck = record { version = written; name = n; is_main = is_main; code = c }

    deck_fits : field.deck.fits named_deck ≡ true
    unfolding field.deck_in_versions contents
    deck_fits =
        both_hold (name.fits n) (flag.fits is_main && (field.code written).fits c) named
        (both_hold (flag.fits is_main) ((field.code written).fits c) (flag_fits is_main) code_fits)

    good_is_deck : IsDeck named_deck
    good_is_deck = record {
      fits = deck_fits;
      faultless = no_fault (jumps_within c) (list_all (is_there c) (named_by c)) (within_limits c) all_jump
          (each_holds (is_there c) (Named tables globals blocks last) named_there (named_by c) all_named) all_within;
    }

-- ---- units

unmapped : {X Y : Type 0} (f : X → Y) (P : Y → Type 0) (xs : List X) → AllByRecursion P (map f xs) → AllByRecursion (λ x. P (f x)) xs
unmapped f P [] h = tt
unmapped f P (x ∷ xs) h = (h.0, unmapped f P xs h.1)

module _ (t : TypedUnit) (well : IsWellNumbered t) (formed : IsWellFormed t) (fits_in : is_too_long (code_of t) ≡ false) (typed : IsTypedCode (code_of t)) where
  abbrev bs : List BlockTree
  bs = blocks_of t

  abbrev all_code : List programs.Instruction
  all_code = instructions_of bs

  abbrev tables : NumberedTables
  tables = tables_for t bs all_code

  abbrev G : ℕ
  G = length t.globals

  abbrev B : ℕ
  B = length bs

  short : Short tables t bs all_code
  short = short_parts tables t bs all_code fits_in

  few : HasFew t
  few = record { globals = short.globals; blocks = short.blocks; instructions = short.instructions; slots = few_slots tables bs 0 short.slots }

  module _ (last : ℕ) (within : IsWithin t last) where
    few_last : suc last ≤ 65535
    few_last =
        let size = within.size in
        let limit = short.instructions in
        omega (arith, limit, size)

    last_few : last ≤ 65535
    last_few = let h = few_last in omega (arith, h)

    allowed : AllByRecursion (Allowed G B last) all_code
    allowed = all_as (Final G B last) (Allowed G B last) (λ i h. h.0) all_code within.instructions

    heads : AllByRecursion (λ b. IsHead b.head b.statements) bs
    heads = all_as (BlockWithin B) (λ b. IsHead b.head b.statements) (λ b w. w.head) bs within.blocks

    values : AllByRecursion IsConstant tables.values
    values = values_good G B last t bs all_code formed.signature formed.globals heads allowed

    stand : AllStand t bs all_code tables
    stand = all_stand t bs all_code

    abbrev GoodT : Template → Type 0
    GoodT x = GoodTemplate tables G B last short.descriptions short.templates x

    -- a template whose initial values are bytes
    abbrev Begun : Template → Type 0
    Begun x = IsTemplate x × BeginsWithBytes (template_code tables x)

    begun : AllByRecursion Begun tables.templates
    begun =
        all_pairs IsTemplate (λ x. BeginsWithBytes (template_code tables x)) Begun (λ x h k. (h, k)) tables.templates
        (templates_good G B last t bs all_code formed.signature formed.globals heads allowed) (unmapped (template_code tables) BeginsWithBytes tables.templates typed.templates)

    made : AllByRecursion GoodT tables.templates
    made =
        all_pairs Begun (λ x. list_any (same_type (Stated x.description)) tables.descriptions ≡ true) GoodT
        (λ x h k. template_good tables G B last short.descriptions short.templates x h.0 h.1 (number_stands same_type same_type_decides tables.descriptions (Stated x.description) k)) tables.templates
        begun (tables_stand t bs all_code)

    abbrev GoodI : programs.Instruction → Type 0
    GoodI i = GoodInstruction tables G B last (instruction_code tables i)

    instrs : AllByRecursion GoodI all_code
    instrs =
        all_instructions tables G B last short.descriptions short.templates short.values short.globals short.blocks last_few all_code within.instructions stand.descriptions stand.templates stand.values

    sign : GoodSignature tables G B last short.descriptions short.templates t.signature
    sign = signature_good tables G B last short.descriptions short.templates t.signature formed.signature stand.signature

    abbrev GoodG : Global → Type 0
    GoodG g = GoodGlobal tables G B last short.descriptions short.templates g

    outside : AllByRecursion GoodG t.globals
    outside = globals_good tables G B last short.descriptions short.templates t.globals formed.globals typed.globals stand.described_globals stand.made_globals

    abbrev GoodB : CodedBlock → Type 0
    GoodB b = GoodCodedBlock tables G B last short.descriptions short.templates b

    inside : AllByRecursion GoodB (coded_blocks tables bs 0)
    inside =
        blocks_good tables G B last short.descriptions short.templates short.blocks few_last bs 0 within.end within.blocks stand.variables

    described : AllByRecursion (λ d. (description written).fits d ≡ true) tables.descriptions
    described =
        all_pairs IsParameterType (λ d. has_many_types d ≡ false) (λ d. (description written).fits d ≡ true) fits_type tables.descriptions
        (descriptions_good G B last t bs all_code formed.signature formed.globals heads allowed) (none_of has_many_types tables.descriptions short.members)

    good_code : GoodCode tables G B last (code_of t)
    good_code =
        let T = template_code tables in
        let N = Named tables G B last in
        let sums = bytes_summed tables.descriptions (map T tables.templates) in
        let bytes = short.bytes in
        record {
          descriptions = refl;
          templates = length-map tables.templates T;
          values = refl;
          count_globals = length-map t.globals (global_code tables);
          count_blocks = blocks_counted tables bs 0;
          instructions = length-map all_code (instruction_code tables) ∙ within.size;
          few_descriptions = short.descriptions;
          few_templates = short.templates;
          few_values = short.values;
          few_globals = short.globals;
          few_blocks = short.blocks;
          few_instructions = few_last;
          some_block = one_block t well formed.some;
          signature_fits = sign.fits;
          descriptions_fit = described;
          templates_fit = all_mapped T GoodT (λ x. (template written).fits x ≡ true) (λ x g. g.fits) tables.templates made;
          values_fit = all_pairs IsConstant HasBytes (λ v. (constant written).fits v ≡ true) fits_constant tables.values values typed.values;
          globals_fit = all_mapped (global_code tables) GoodG (λ x. global.fits x ≡ true) (λ x g. g.fits) t.globals outside;
          blocks_fit = all_as GoodB (λ x. block.fits x ≡ true) (λ x g. g.fits) (coded_blocks tables bs 0) inside;
          instructions_fit = all_mapped (instruction_code tables) GoodI (λ x. (instruction_in written).fits x ≡ true) (λ x g. fits_written (instruction_code tables x) g.fits) all_code instrs;
          signature_named = sign.names;
          templates_named = all_mapped T GoodT (λ x. AllByRecursion N (named_by_template x)) (λ x g. g.names) tables.templates made;
          globals_named = all_mapped (global_code tables) GoodG (λ x. AllByRecursion N (named_by_global x)) (λ x g. g.names) t.globals outside;
          blocks_named = all_as GoodB (λ x. AllByRecursion N (named_by_block x)) (λ x g. g.names) (coded_blocks tables bs 0) inside;
          instructions_named = all_mapped (instruction_code tables) GoodI (λ x. AllByRecursion N (named_by_instruction x)) (λ x g. g.names) all_code instrs;
          jumps = all_mapped (instruction_code tables) GoodI (λ x. AllByRecursion (λ n. n ≤ last) (targets_of x)) (λ x g. g.jumps) all_code instrs;
          templates_good = all_mapped T GoodT (λ (x : CodedTemplate). is_good_template (described_at tables.descriptions x.description) x.initial ≡ true) (λ x g. g.is) tables.templates made;
          bytes = omega (arith, sums, bytes);
        }

  said : (n : Name) (is_main : Bool) → IsName n → IsDeck (record { version = written; name = n; is_main = is_main; code = code_of t })
  said n is_main named = let r = code_within t well formed few in good_is_deck tables G B r.0 (code_of t) (good_code r.0 r.1) n is_main (fits_name n named)

pub units_are_said : UnitsAreSaid
units_are_said t d well formed fits_in version of typed =
    subst (λ (v : Version). IsDeck (record { version = v; name = d.name; is_main = d.is_main; code = d.code })) (sym version)
    (subst (λ (c : Code). IsDeck (record { version = written; name = d.name; is_main = d.is_main; code = c })) (sym of)
    (said t well formed fits_in (subst IsTypedCode of typed.code) d.name d.is_main typed.name))
