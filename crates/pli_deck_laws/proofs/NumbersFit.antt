-- The code of a unit that is well formed and numbered well has no number that is wider than its field, where its tables
-- are short.
use Rattle.std.proofs.Common.{◌≡◌, ℕ, ◌<◌, ◌≤◌, not, ◌&&◌, true, nat_lt, Option, Some, None, List, [], ◌∷◌, length, map, refl, ap, sym, ◌∙◌, arith}
use Rattle.std.specs.List.{list_all, AllByRecursion}
use Rattle.std.proofs.lemmas.Bool.{le-leb, lt-ltb}
use Rattle.std.proofs.lemmas.List.{length-map}
use Rattle.pli_program.specs.Program as programs
use Rattle.pli_program.specs.declared.instruction.Instruction.TheVariants as op
use Rattle.pli_type_tree.specs.TypedTree.{TypedUnit}
use Rattle.pli_code.specs.CodeFields.{is_byte, is_short, parent_fits, block_fits, instruction_fits}
use Rattle.pli_code.specs.CodedInstruction.{Instruction}
use Rattle.pli_gen_emit.specs.TreeTranslation.{BlockTree, place_after, block_code, blocks_code, blocks_of, instructions_of}
use Rattle.pli_gen_emit.specs.Encoding.{NumberedTables, tables_for, instruction_code, global_code, coded_block, coded_blocks, code_of}
use Rattle.pli_gen.proofs.CodeEnds.{both_within}
use Rattle.pli_gen.proofs.LimitLemmas.{few, blocks_counted}
use Rattle.pli_deck_laws.specs.DeckLaws.{HasShortTables, NumbersFit}
use Rattle.pli_deck_laws.specs.Limits.{link_limit, IfThere}
use Rattle.pli_deck_laws.proofs.AllowedLemmas.{Allowed}
use Rattle.pli_deck_laws.proofs.FieldsFit.{both_hold, each_holds, all_mapped}
use Rattle.pli_deck_laws.proofs.KeptTemporaries.{few_temporaries}
use Rattle.pli_deck_laws.proofs.TablesFit.{few_slots}
use Rattle.pli_deck_laws.proofs.UnitCode.{Final, BlockWithin, HasFew, code_within}

byte : (n : ℕ) → n ≤ 255 → is_byte n ≡ true
byte n h = le-leb n 255 h

short : (n : ℕ) → n ≤ 65535 → is_short n ≡ true
short n h = le-leb n 65535 h

link : (n : ℕ) → n ≤ link_limit → is_byte n ≡ true
link n h = byte n (omega (arith, h))

module _ (tables : NumberedTables) (globals blocks last : ℕ) (few_globals : globals ≤ 65535) (few_blocks : blocks ≤ 65535) where
  -- an instruction whose numbers fit
  abbrev Fits : Instruction → Type 0
  Fits i = instruction_fits i ≡ true

  block_number : (n : ℕ) → n < blocks → is_short n ≡ true
  block_number n h = short n (omega (arith, h, few_blocks))

  global_number : (n : ℕ) → n < globals → is_short n ≡ true
  global_number n h = short n (omega (arith, h, few_globals))

  few_arguments : (n : ℕ) → n ≤ 64 → is_byte n ≡ true
  few_arguments n h = byte n (omega (arith, h))

  instruction_narrow : (i : programs.Instruction) → Allowed globals blocks last i → Fits (instruction_code tables i)
  instruction_narrow (op.Goto outward n) h = link outward h
  instruction_narrow (op.Call b a) h = both_hold (is_short b) (is_byte a) (block_number b h.0) (few_arguments a h.1)
  instruction_narrow (op.CallExternal g a) h = both_hold (is_short g) (is_byte a) (global_number g h.0) (few_arguments a h.1)
  instruction_narrow (op.Begin b) h = block_number b h
  instruction_narrow (op.Return outward) h = link outward h
  instruction_narrow (op.ReturnValue outward) h = link outward h
  instruction_narrow (op.Local outward slot) h = both_hold (is_byte outward) (is_short slot) (link outward h.0) (short slot h.1)
  instruction_narrow (op.Global n) h = global_number n h
  instruction_narrow (op.AllocateControlled n) h = global_number n h
  instruction_narrow (op.FreeControlled n) h = global_number n h
  instruction_narrow (op.CountGenerations n) h = global_number n h
  instruction_narrow (op.On c b) h = block_number b h
  instruction_narrow (op.SetTemporary n) h = short n h
  instruction_narrow (op.TakeTemporary n) h = short n h
  instruction_narrow (op.SubscriptIn k) h = byte k (omega (arith, h.1))
  instruction_narrow i h = refl

  parent_narrow : (o : Option ℕ) → IfThere (λ n. n < blocks) o → parent_fits o ≡ true
  parent_narrow None h = refl
  parent_narrow (Some n) h = lt-ltb n 65535 (omega (arith, h, few_blocks))

  block_narrow : (b : BlockTree) (p : ℕ) → b.head.temporaries ≤ 65535 → BlockWithin blocks b → block_fits (coded_block tables b p) ≡ true
  block_narrow b p temporaries h =
      both_hold (parent_fits b.parent) (is_byte b.parameters && is_short b.head.temporaries) (parent_narrow b.parent h.parent)
      (both_hold (is_byte b.parameters) (is_short b.head.temporaries) (few_arguments b.parameters h.parameters) (short b.head.temporaries temporaries))

  blocks_narrow : (bs : List BlockTree) (p : ℕ) → place_after (blocks_code bs p) p ≤ 65535 → AllByRecursion (BlockWithin blocks) bs → list_all block_fits (coded_blocks tables bs p) ≡ true
  blocks_narrow [] p end h = refl
  blocks_narrow (b ∷ bs) p end h =
      let q = place_after (block_code b p) p in
      let w = both_within (block_code b p) (blocks_code bs q) p 65535 end in
      both_hold (block_fits (coded_block tables b p)) (list_all block_fits (coded_blocks tables bs q))
      (block_narrow b p (few_temporaries b p 65535 h.0.head.2 w.0) h.0) (blocks_narrow bs q w.1 h.1)

  instructions_narrow : (is : List programs.Instruction) → AllByRecursion (Final globals blocks last) is → list_all instruction_fits (map (instruction_code tables) is) ≡ true
  instructions_narrow is h =
      each_holds instruction_fits Fits (λ i e. e) (map (instruction_code tables) is)
      (all_mapped (instruction_code tables) (Final globals blocks last) Fits (λ i f. instruction_narrow i f.0) is h)

few_numbers : (t : TypedUnit) → HasShortTables (code_of t) → HasFew t
few_numbers t h =
    let bs = blocks_of t in
    let code = instructions_of bs in
    let tables = tables_for t bs code in
    record {
      globals = few 65535 (length t.globals) (ap (nat_lt 65535) (sym (length-map t.globals (global_code tables))) ∙ h.globals);
      blocks = few 65535 (length bs) (ap (nat_lt 65535) (sym (blocks_counted tables bs 0)) ∙ h.blocks);
      instructions = few 65535 (length code) (ap (nat_lt 65535) (sym (length-map code (instruction_code tables))) ∙ h.instructions);
      slots = few_slots tables bs 0 h.slots;
    }

pub numbers_fit : NumbersFit
numbers_fit t well formed short_tables =
    let bs = blocks_of t in
    let code = instructions_of bs in
    let tables = tables_for t bs code in
    let limits = few_numbers t short_tables in
    let r = code_within t well formed limits in
    let within = r.1 in
    let size = within.size in
    let end = within.end in
    let most = limits.instructions in
    let blocks = blocks_narrow tables (length t.globals) (length bs) r.0 limits.globals limits.blocks bs 0 (omega (arith, size, end, most)) within.blocks in
    let instructions = instructions_narrow tables (length t.globals) (length bs) r.0 limits.globals limits.blocks code within.instructions in
    ap not (both_hold (list_all block_fits (coded_blocks tables bs 0)) (list_all instruction_fits (map (instruction_code tables) code)) blocks instructions)
