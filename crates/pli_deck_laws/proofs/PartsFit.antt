-- Templates, globals, blocks and instructions of a well-formed unit fit the fields of a deck.
use Rattle.std.proofs.Common.{◌≡◌, ℕ, suc, ◌<◌, ◌≤◌, true, nat_le, Option, Some, None, option_map, List, [], ◌∷◌, ◌++◌, length, map, slice_get, refl, ap, ◌∙◌, arith}
use Rattle.std.specs.List.{flat_map, list_all, AllByRecursion}
use Rattle.std.proofs.lemmas.Bool.{le-leb}
use Rattle.std.proofs.lemmas.List.{length-map}
use Rattle.pli_map.specs.Description.{Description}
use Rattle.std.specs.Option.{option_and_then}
use Rattle.pli_map.specs.ParameterTypes.{Stated, stated}
use Rattle.pli_map.specs.Sizes.{size_of}
use Rattle.pli_program.specs.Program as programs
use Rattle.pli_program.specs.declared.kind.VariableKind.TheVariants.{Static, Controlled}
use Rattle.pli_type_tree.specs.Templates.{InitialScalar, Template}
use Rattle.pli_type_tree.specs.TypedTree.{Signature, Global, OwnVariable, ExternalVariable, EntryPoint}
use Rattle.pli_code.specs.CodeTables as code
use Rattle.pli_code.specs.CodeTables.{there}
use Rattle.pli_code.specs.Versions.{written}
use Rattle.pli_gen_emit.specs.TreeTranslation.{BlockTree, place_after, block_code, blocks_code}
use Rattle.pli_gen_emit.specs.Encoding.{NumberedTables, signature_descriptions, global_descriptions, global_templates, block_templates, description_number, template_number, template_code, signature_code, global_code, coded_block, coded_blocks}
use Rattle.pli_gen.specs.laws.ListLaws.{all_front, all_back}
use Rattle.pli_gen.proofs.SimpleCode.{all_both}
use Rattle.pli_code.specs.Fields.{u1, u2, u4, list_of, ◌⊗◌}
use Rattle.pli_deck_write.specs.DeckFields.{name, constant, initial, template, signature, global, block_kind, optional, block}
use Rattle.pli_deck_write.specs.DeckFaults.{Naming, OfParameter, OfTemplate, OfInstruction, named_by_result, named_by_signature, named_by_template, named_by_global, named_by_parent, named_by_block}
use Rattle.pli_deck_write.specs.DeckFaults.{scalar_at, fits_scalar, is_good_template}
use Rattle.pli_bytes.specs.Contents.{scalars_at}
use Rattle.pli_bytes.proofs.Rising.{rises}
use Rattle.pli_bytes.proofs.ScalarsOn.{on_lies}
use Rattle.pli_deck_laws.specs.Limits.{IfThere, IsMade, IsInitial, IsTemplate, IsSignature, IsGlobal}
use Rattle.pli_deck_laws.proofs.FieldsFit.{both_hold, each_holds, all_mapped, fits_byte, fits_short, fits_word, fits_range, fits_pair, fits_list, fits_optional, fits_name, fits_constant, fits_signature}
use Rattle.pli_deck_laws.proofs.InstructionsFit.{Named}
use Rattle.pli_deck_laws.proofs.ScalarsStand.{stands}
use Rattle.pli_deck_laws.proofs.TablesFit.{StandsDescription, StandsTemplate, description_within, template_within}
use Rattle.pli_deck_laws.proofs.CodeGrows.{block_is_some}
use Rattle.pli_gen.proofs.CodeEnds.{both_within}
use Rattle.pli_deck_laws.proofs.KeptTemporaries.{few_temporaries}
use Rattle.pli_deck_laws.proofs.UnitBlocks.{all_as, all_pairs}
use Rattle.pli_deck_laws.proofs.UnitCode.{BlockWithin}
use Rattle.pli_deck_laws.specs.UnitTypes.{HasBytes, BeginsWithBytes, HasName}

-- ---- initial values

-- an initial value of a description
record GoodInitial (d : Description) (i : InitialScalar) : Type 0 where
  fits : (initial written).fits i ≡ true
  is : fits_scalar (scalar_at d i.offset) i.value ≡ true

good_initial : (d : Description) → IsMade d → (i : InitialScalar) → IsInitial d i → HasBytes i.value → GoodInitial d i
unfolding initial
good_initial d made i h bytes =
    let s = h.0.0 in
    let lies = on_lies i.offset 0 (scalars_at d) (size_of d) s (rises d) h.0.1 in
    record {
      fits = fits_pair u4 (constant written) i.offset i.value (fits_word i.offset (omega (arith, lies.is, lies.before, made.1))) (fits_constant i.value h.1 bytes);
      is = ap (λ s. fits_scalar s i.value) (stands d i.offset s h.0.1) ∙ h.0.2;
    }

module _ (tables : NumberedTables) (globals blocks last : ℕ) (few_descriptions : length tables.descriptions ≤ 65535) (few_templates : length tables.templates ≤ 65535) where
  abbrev IsNamed : Naming → Type 0
  IsNamed n = Named tables globals blocks last n

  -- ---- templates

  pub record GoodTemplate (t : Template) : Type 0 where
    pub fits : (template written).fits (template_code tables t) ≡ true
    pub names : AllByRecursion IsNamed (named_by_template (template_code tables t))
    pub is : is_good_template (option_and_then stated (slice_get tables.descriptions (description_number tables (Stated t.description)))) t.initial ≡ true

  pub template_good : (t : Template) → IsTemplate t → BeginsWithBytes (template_code tables t) → StandsDescription tables (Stated t.description) → GoodTemplate t
  unfolding template
  template_good t h bytes stands =
      let d = t.description in
      let number = description_number tables (Stated d) in
      let below = description_within tables (Stated d) stands in
      let good : AllByRecursion (GoodInitial d) t.initial = all_pairs (IsInitial d) (λ (i : InitialScalar). HasBytes i.value) (GoodInitial d) (good_initial d h.0) t.initial h.1 bytes in
      record {
        fits = fits_pair u2 (list_of u4 (initial written)) number t.initial (fits_short number (omega (arith, below, few_descriptions)))
            (fits_list u4 (initial written) t.initial (fits_word (length t.initial) h.2) (each_holds (initial written).fits (GoodInitial d) (λ i g. g.fits) t.initial good));
        names = ((d, stands), tt);
        is = ap (λ o. is_good_template (option_and_then stated o) t.initial) stands
            ∙ both_hold (nat_le (size_of d) 1000000) (list_all (λ i. fits_scalar (scalar_at d i.offset) i.value) t.initial) (le-leb (size_of d) 1000000 h.0.1)
            (each_holds (λ i. fits_scalar (scalar_at d i.offset) i.value) (GoodInitial d) (λ i g. g.is) t.initial good);
      }

  -- ---- signatures and globals

  below_last : (n : ℕ) → n < length tables.descriptions → n < 65535
  below_last n h = omega (arith, h, few_descriptions)

  result_below : (o : Option Description) → AllByRecursion (StandsDescription tables) (map Stated (there o)) → IfThere (λ n. n < 65535) (option_map (λ d. description_number tables (Stated d)) o)
  result_below None h = tt
  result_below (Some d) h = below_last (description_number tables (Stated d)) (description_within tables (Stated d) h.0)

  result_named : (o : Option Description) → AllByRecursion (StandsDescription tables) (map Stated (there o)) → AllByRecursion IsNamed (named_by_result (option_map (λ d. description_number tables (Stated d)) o))
  result_named None h = tt
  result_named (Some d) h = ((d, h.0), tt)

  pub record GoodSignature (s : Signature) : Type 0 where
    pub fits : signature.fits (signature_code tables s) ≡ true
    pub names : AllByRecursion IsNamed (named_by_signature (signature_code tables s))

  pub signature_good : (s : Signature) → IsSignature s → AllByRecursion (StandsDescription tables) (signature_descriptions s) → GoodSignature s
  signature_good s h stands =
      let numbers = map (description_number tables) s.parameters in
      let result = option_map (λ d. description_number tables (Stated d)) s.result in
      let given = map Stated (there s.result) in
      let all : AllByRecursion (λ n. n < length tables.descriptions) numbers = all_mapped (description_number tables) (StandsDescription tables) (λ n. n < length tables.descriptions)
      (description_within tables) s.parameters (all_front (StandsDescription tables) s.parameters given stands) in
      let one = all_back (StandsDescription tables) s.parameters given stands in
      let count : length numbers ≡ length s.parameters = length-map s.parameters (description_number tables) in
      let few = h.0 in
      record {
        fits = fits_signature numbers result (omega (arith, few, count)) (all_as (λ n. n < length tables.descriptions) (λ n. n < 65535) below_last numbers all) (result_below s.result one);
        names = all_both IsNamed (map OfParameter numbers) (named_by_result result) (all_mapped OfParameter (λ n. n < length tables.descriptions) IsNamed (λ n e. e) numbers all) (result_named s.result one);
      }

  pub record GoodGlobal (g : Global) : Type 0 where
    pub fits : global.fits (global_code tables g) ≡ true
    pub names : AllByRecursion IsNamed (named_by_global (global_code tables g))

  number_fits : (t : Template) → StandsTemplate tables t → u2.fits (template_number tables t) ≡ true
  number_fits t h = let below = template_within tables t h in fits_short (template_number tables t) (omega (arith, below, few_templates))

  global_good : (g : Global) → IsGlobal g → HasName (global_code tables g) → AllByRecursion (StandsDescription tables) (global_descriptions g) → AllByRecursion (StandsTemplate tables) (global_templates g) → GoodGlobal g
  unfolding global
  global_good (OwnVariable Static t) h named ds ts = record { fits = number_fits t ts.0; names = (template_within tables t ts.0, tt) }
  global_good (OwnVariable Controlled t) h named ds ts = record { fits = number_fits t ts.0; names = (template_within tables t ts.0, tt) }
  global_good (ExternalVariable n Static t) h named ds ts =
      record { fits = fits_pair name u2 n (template_number tables t) (fits_name n named) (number_fits t ts.0); names = (template_within tables t ts.0, tt) }
  global_good (ExternalVariable n Controlled t) h named ds ts =
      record { fits = fits_pair name u2 n (template_number tables t) (fits_name n named) (number_fits t ts.0); names = (template_within tables t ts.0, tt) }
  global_good (EntryPoint n s) h named ds ts =
      let g = signature_good s h ds in
      record { fits = fits_pair name signature n (signature_code tables s) (fits_name n named) g.fits; names = g.names }

  pub globals_good : (gs : List Global) → AllByRecursion IsGlobal gs → AllByRecursion HasName (map (global_code tables) gs) → AllByRecursion (StandsDescription tables) (flat_map global_descriptions gs)
      → AllByRecursion (StandsTemplate tables) (flat_map global_templates gs) → AllByRecursion GoodGlobal gs
  globals_good [] h named ds ts = tt
  globals_good (g ∷ gs) h named ds ts = (
    global_good g h.0 named.0 (all_front (StandsDescription tables) (global_descriptions g) (flat_map global_descriptions gs) ds)
        (all_front (StandsTemplate tables) (global_templates g) (flat_map global_templates gs) ts),
    globals_good gs h.1 named.1 (all_back (StandsDescription tables) (global_descriptions g) (flat_map global_descriptions gs) ds)
        (all_back (StandsTemplate tables) (global_templates g) (flat_map global_templates gs) ts),
  )

  -- ---- blocks

  pub record GoodCodedBlock (b : code.CodedBlock) : Type 0 where
    pub fits : block.fits b ≡ true
    pub names : AllByRecursion IsNamed (named_by_block b)

  kind_fits : (k : programs.BlockKind) → block_kind.fits k ≡ true
  kind_fits programs.Procedure = refl
  kind_fits programs.BeginBlock = refl
  kind_fits programs.OnUnit = refl

  module _ (few_blocks : blocks ≤ 65535) (few_instructions : suc last ≤ 65535) where
    parent_fits : (o : Option ℕ) → IfThere (λ n. n < blocks) o → optional.fits o ≡ true
    parent_fits None h = fits_optional None tt
    parent_fits (Some n) h = fits_optional (Some n) (omega (arith, h, few_blocks))

    parent_named : (o : Option ℕ) → IfThere (λ n. n < blocks) o → AllByRecursion IsNamed (named_by_parent o)
    parent_named None h = tt
    parent_named (Some n) h = (h, tt)

    block_good : (b : BlockTree) (p : ℕ) → p ≤ last → b.head.temporaries ≤ 65535 → BlockWithin blocks b → AllByRecursion (StandsTemplate tables) b.head.variables → GoodCodedBlock (coded_block tables b p)
    unfolding block
    block_good b p entry temporaries h stand =
        let numbers = map (template_number tables) b.head.variables in
        let few = h.parameters in
        let slots = h.slots in
        let all : AllByRecursion (λ n. n < length tables.templates) numbers = all_mapped (template_number tables) (StandsTemplate tables) (λ n. n < length tables.templates) (template_within tables) b.head.variables stand in
        let count : length numbers ≡ length b.head.variables = length-map b.head.variables (template_number tables) in
        let last_parts = fits_pair u2 u4 p b.head.statement (fits_short p (omega (arith, entry, few_instructions))) (fits_word b.head.statement h.head.0) in
        let four = fits_pair u2 (u2 ⊗ u4) b.head.temporaries (p, b.head.statement) (fits_short b.head.temporaries temporaries) last_parts in
        let variables = fits_list u2 u2 numbers (fits_short (length numbers) (omega (arith, count, slots)))
        (each_holds u2.fits (λ n. n < length tables.templates) (λ n e. fits_short n (omega (arith, e, few_templates))) numbers all) in
        let parameters = fits_range 0 64 b.parameters u1 (fits_byte b.parameters (omega (arith, few))) (omega arith) few in
        record {
          fits = both_hold _ _ (kind_fits b.kind) (both_hold _ _ (parent_fits b.parent h.parent) (both_hold _ _ parameters (both_hold _ _ variables four)));
          names = all_both IsNamed (named_by_parent b.parent ++ map OfTemplate numbers) (OfInstruction p ∷ [])
              (all_both IsNamed (named_by_parent b.parent) (map OfTemplate numbers) (parent_named b.parent h.parent)
              (all_mapped OfTemplate (λ n. n < length tables.templates) IsNamed (λ n e. e) numbers all)) (entry, tt);
        }

    pub blocks_good : (bs : List BlockTree) (p : ℕ) → place_after (blocks_code bs p) p ≤ suc last → AllByRecursion (BlockWithin blocks) bs → AllByRecursion (StandsTemplate tables) (block_templates bs)
        → AllByRecursion GoodCodedBlock (coded_blocks tables bs p)
    blocks_good [] p end h stand = tt
    blocks_good (b ∷ bs) p end h stand =
        let q = place_after (block_code b p) p in
        let w = both_within (block_code b p) (blocks_code bs q) p (suc last) end in
        let here : q ≤ suc last = w.0 in
        let some : suc p ≤ q = block_is_some b p in (
          block_good b p (omega (arith, some, here)) (few_temporaries b p 65535 h.0.head.2 (omega (arith, here, few_instructions))) h.0 (all_front (StandsTemplate tables) b.head.variables (block_templates bs) stand),
          blocks_good bs q w.1 h.1 (all_back (StandsTemplate tables) b.head.variables (block_templates bs) stand),
        )
