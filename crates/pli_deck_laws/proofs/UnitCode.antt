-- The code of a unit that is well formed and numbered well is within limits, where its tables are short.
use Rattle.std.proofs.Common.{◌≡◌, ℕ, zero, suc, ◌<◌, ◌≤◌, List, [], ◌∷◌, ◌++◌, length, map, refl, subst, ◌∙◌, arith}
use Rattle.std.specs.List.{AllByRecursion}
use Rattle.std.proofs.lemmas.List.{length-map}
use Rattle.pli_program.specs.Program as programs
use Rattle.pli_program.specs.declared.instruction.Instruction.TheVariants as op
use Rattle.pli_type_tree.specs.TypedTree.{TypedUnit}
use Rattle.pli_gen_emit.specs.TreeTranslation.{BlockTree, place_after, block_code, blocks_code, blocks_of, places_of, statement_place, with_target, instructions_of}
use Rattle.pli_gen_emit.proofs.JumpLemmas.{after_is}
use Rattle.pli_gen.specs.WellNumbered.{IsWellNumbered}
use Rattle.pli_gen.proofs.CodeEnds.{grows}
use Rattle.pli_gen.proofs.CodeFits.{begins_within}
use Rattle.pli_gen.proofs.SimpleCode.{after_both}
use Rattle.pli_gen.proofs.StepPlaces.{steps_are_places}
use Rattle.pli_deck_laws.specs.Limits.{parameter_limit, IfThere}
use Rattle.pli_deck_laws.specs.WellFormed.{slots_of, IsHead, HasBlock, HasSlot, IsWellFormed}
use Rattle.pli_deck_laws.proofs.AllowedLemmas.{Allowed}
use Rattle.pli_deck_laws.proofs.AllowedCode.{GoodBlock, blocks_allowed}
use Rattle.pli_deck_laws.proofs.CodeGrows.{block_is_some}
use Rattle.pli_deck_laws.proofs.FieldsFit.{all_mapped}
use Rattle.pli_deck_laws.proofs.UnitBlocks.{all_pairs, block_named, slot_there, one_block, good_blocks}

-- where a jump of an instruction leads, if it is a GOTO
abbrev pub leads : programs.Instruction → ℕ
leads (op.Goto outward target) = target
leads i = 0

module _ (globals blocks last : ℕ) where
  -- an instruction within limits, with a GOTO that leads to an instruction
  abbrev pub Final : programs.Instruction → Type 0
  Final i = Allowed globals blocks last i × (leads i ≤ last)

  module _ (places : List (ℕ × ℕ)) (within : (label : ℕ) → statement_place places label ≤ last) where
    final : (i : programs.Instruction) → Allowed globals blocks last i → Final (with_target places i)
    final (op.Goto outward label) h = (h, within label)
    final i h = (h, omega arith)

    all_final : (is : List programs.Instruction) → AllByRecursion (Allowed globals blocks last) is → AllByRecursion Final (map (with_target places) is)
    all_final is h = all_mapped (with_target places) (Allowed globals blocks last) Final final is h

-- a block within limits
pub record BlockWithin (blocks : ℕ) (b : BlockTree) : Type 0 where
  pub parent : IfThere (λ n. n < blocks) b.parent
  pub parameters : b.parameters ≤ parameter_limit
  pub head : IsHead b.head b.statements
  pub slots : slots_of b ≤ 65535

-- a unit whose numbers are few
pub record HasFew (t : TypedUnit) : Type 0 where
  pub globals : length t.globals ≤ 65535
  pub blocks : length (blocks_of t) ≤ 65535
  pub instructions : length (instructions_of (blocks_of t)) ≤ 65535
  pub slots : AllByRecursion (λ b. slots_of b ≤ 65535) (blocks_of t)

-- its blocks and instructions are within limits, and its last instruction has this number
pub record IsWithin (t : TypedUnit) (last : ℕ) : Type 0 where
  pub size : length (instructions_of (blocks_of t)) ≡ suc last
  pub end : place_after (blocks_code (blocks_of t) 0) 0 ≤ suc last
  pub blocks : AllByRecursion (BlockWithin (length (blocks_of t))) (blocks_of t)
  pub instructions : AllByRecursion (Final (length t.globals) (length (blocks_of t)) last) (instructions_of (blocks_of t))

some_last : (n : ℕ) → 1 ≤ n → (last : ℕ) × (n ≡ suc last)
some_last zero h = absurd (omega (arith, h))
some_last (suc n) h = (n, refl)

some_code : (bs : List BlockTree) (p : ℕ) → 1 ≤ length bs → suc p ≤ place_after (blocks_code bs p) p
some_code [] p h = absurd (omega (arith, h))
some_code (b ∷ bs) p h =
    let code = block_code b p in
    let q = place_after code p in
    let e : place_after (code ++ blocks_code bs q) p ≡ place_after (blocks_code bs q) q = after_both code (blocks_code bs q) p in
    let g : q ≤ place_after (blocks_code bs q) q = grows (blocks_code bs q) q in
    let some : suc p ≤ q = block_is_some b p in
    omega (arith, e, g, some)

module _ (t : TypedUnit) (well : IsWellNumbered t) (formed : IsWellFormed t) (few : HasFew t) where
  abbrev bs : List BlockTree
  bs = blocks_of t

  abbrev plain : List programs.Instruction
  plain = blocks_code bs 0

  abbrev G : ℕ
  G = length t.globals

  abbrev B : ℕ
  B = length bs

  named : (n : ℕ) → HasBlock t n → n < B
  named n h = block_named t well n h

  slotted : (n : ℕ) → HasSlot t n → n ≤ 65535
  slotted n h = slot_there t well few.slots n h

  counted : length (instructions_of bs) ≡ length plain
  counted = length-map plain (with_target (places_of bs 0))

  module _ (last : ℕ) (size : length plain ≡ suc last) where
    end : place_after plain 0 ≤ suc last
    end = let e = after_is plain 0 in omega (arith, e, size)

    few_last : suc last ≤ 65535
    few_last = let limit = few.instructions in omega (arith, counted, limit, size)

    abbrev Good : BlockTree → Type 0
    Good b = GoodBlock G B last t refl named slotted b

    good : AllByRecursion Good bs
    good = good_blocks G last t refl named slotted well formed

    within : (label : ℕ) → statement_place (places_of bs 0) label ≤ last
    within label = subst (λ n. n ≤ last) (steps_are_places bs label) (begins_within plain 0 label last end)

    is_within : IsWithin t last
    is_within = record {
      size = counted ∙ size;
      end = end;
      blocks = all_pairs Good (λ b. slots_of b ≤ 65535) (BlockWithin B)
          (λ b g s. record { parent = g.parent; parameters = g.parameters; head = g.head; slots = s }) bs good few.slots;
      instructions = all_final G B last (places_of bs 0) within plain (blocks_allowed G B last t refl named slotted bs 0 few_last good end);
    }

  pub code_within : (last : ℕ) × IsWithin t last
  code_within =
      let e = after_is plain 0 in
      let some = some_code bs 0 (one_block t well formed.some) in
      let r = some_last (length plain) (omega (arith, e, some)) in
      (r.0, is_within r.0 r.1)
