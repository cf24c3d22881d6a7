-- Numbers of blocks and instructions are within their fields before what they name is numbered as after it.
use Rattle.std.proofs.Common.{◌≡◌, ℕ, zero, suc, ◌<◌, ◌&&◌, Bool, true, false, true≢false, List, [], ◌∷◌, map, get_or, length, refl, sym, ap, ◌∙◌, arith}
use Rattle.std.specs.List.{list_all}
use Rattle.pli_program.specs.Program as programs
use Rattle.pli_program.specs.declared.instruction.Instruction.TheVariants as op
use Rattle.pli_code.specs.CodeFields as fields
use Rattle.pli_gen_emit.specs.TreeTranslation.{BlockTree, place_after, block_code}
use Rattle.pli_gen_emit.specs.Encoding.{NumberedTables, instruction_code, coded_blocks}
use Rattle.pli_gen_emit.specs.answers.Instructions.{instruction_fits}
use Rattle.pli_gen.specs.answers.Pieces.{block_fits}

pub both_of : (x y : Bool) → (x && y) ≡ true → (x ≡ true) × (y ≡ true)
both_of true y h = (refl, h)
both_of false y h = absurd (true≢false (sym h))

-- one of a list
pub one_of_all : {X Y : Type 0} (p : Y → Bool) (f : X → Y) (xs : List X) (i : ℕ) (d : X) → i < length xs → list_all p (map f xs) ≡ true → p (f (get_or xs i d)) ≡ true
one_of_all p f [] i d lt h = absurd (omega (arith, lt))
one_of_all p f (x ∷ xs) zero d lt h = (both_of (p (f x)) (list_all p (map f xs)) h).0
one_of_all p f (x ∷ xs) (suc i) d lt h = one_of_all p f xs i d (omega (arith, lt)) (both_of (p (f x)) (list_all p (map f xs)) h).1

module _ (t : NumberedTables) where
  pub blocks_as_coded : (bs : List BlockTree) (p : ℕ) → list_all fields.block_fits (coded_blocks t bs p) ≡ list_all block_fits bs
  blocks_as_coded [] p = refl
  blocks_as_coded (b ∷ bs) p = ap (λ r. block_fits b && r) (blocks_as_coded bs (place_after (block_code b p) p))

  one_as_coded : (i : programs.Instruction) → fields.instruction_fits (instruction_code t i) ≡ instruction_fits i
  one_as_coded (op.Operate operation) = refl
  one_as_coded i = refl

  pub instructions_as_coded : (is : List programs.Instruction) → list_all fields.instruction_fits (map (instruction_code t) is) ≡ list_all instruction_fits is
  instructions_as_coded [] = refl
  instructions_as_coded (i ∷ is) =
      ap (λ b. b && list_all fields.instruction_fits (map (instruction_code t) is)) (one_as_coded i)
      ∙ ap (λ r. instruction_fits i && r) (instructions_as_coded is)
