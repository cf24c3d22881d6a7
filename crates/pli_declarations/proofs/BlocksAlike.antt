-- The blocks of a unit and their numbers are what the passes find.
use Rattle.std.specs.Prelude.{◌≡◌, refl, ℕ, ◌+◌, is_some, Option, Some, None, option_map, List, [], ◌∷◌, ◌++◌, get_or, if◌then◌else◌}
use Rattle.std.specs.List.{filter_map, enumerate_from, cons_option}
use Rattle.std.specs.Option.{unwrap_or}
use Rattle.std.proofs.Common.{sym, ap, ◌∙◌, arith}
use Rattle.std.proofs.lemmas.List.{append_assoc, append-nil}
use Rattle.pli_declare_outline.specs.Outlines.{Region}
use Rattle.pli_declare.specs.BlockNumbers as old
use Rattle.pli_declare.specs.BlockNumbers.{block_kind}
use Rattle.pli_declare.specs.declared.block_numbers.BlockRegion.{BlockRegion}
use Rattle.pli_declare.specs.declared.block_numbers.ResolvedBlockKind.{ResolvedBlockKind}
use Rattle.pli_declarations.specs.Blocks.{block_regions, numbers_after, block_numbers}

begun : (number : ℕ) (r : Region) (kind : Option ResolvedBlockKind) (bs : List BlockRegion)
    → old.block_begun number r kind ++ bs ≡ cons_option (option_map (λ k. record { region = number; kind = k; outer = r.outer }) kind) bs
begun number r None bs = refl
begun number r (Some kind) bs = refl

blocks_from : (before : List BlockRegion) (number : ℕ) (rs : List Region)
    → old.blocks_after before number rs
    ≡ before ++ filter_map (λ p. option_map (λ k. record { region = p.0; kind = k; outer = p.1.outer }) (block_kind p.1.kind)) (enumerate_from number rs)
blocks_from before number [] = sym (append-nil before)
blocks_from before number (r ∷ rs) =
    blocks_from (before ++ old.block_begun number r (block_kind r.kind)) (number + 1) rs
    ∙ append_assoc before (old.block_begun number r (block_kind r.kind)) _
    ∙ ap (λ bs. before ++ bs) (begun number r (block_kind r.kind) _)

pub blocks_alike : (rs : List Region) → block_regions rs ≡ old.block_regions rs
blocks_alike rs = sym (blocks_from [] 0 rs)

outside : (numbers : List ℕ) (outer : Option ℕ) → unwrap_or (option_map (λ o. get_or numbers o 0) outer) 0 ≡ old.number_outside numbers outer
outside numbers None = refl
outside numbers (Some outer) = refl

numbers_from : (numbers : List ℕ) (next : ℕ) (rs : List Region) → numbers_after numbers next rs ≡ old.numbers_after numbers next rs
numbers_from numbers next [] = refl
numbers_from numbers next (r ∷ rs) = by (block_kind r.kind) (λ ns n. numbers_from ns n rs)
  where
    by : (k : Option ResolvedBlockKind) → ((ns : List ℕ) (n : ℕ) → numbers_after ns n rs ≡ old.numbers_after ns n rs)
        → (if is_some k then numbers_after (numbers ++ next ∷ []) (next + 1) rs
        else numbers_after (numbers ++ unwrap_or (option_map (λ o. get_or numbers o 0) r.outer) 0 ∷ []) next rs)
        ≡ old.numbers_after (numbers ++ old.number_with numbers next r.outer k ∷ []) (next + old.begun_by k) rs
    by (Some kind) later = later (numbers ++ next ∷ []) (next + 1)
    by None later =
        let same : next ≡ next + 0 = omega arith in
        λ i. later (numbers ++ outside numbers r.outer i ∷ []) (same i) i

pub numbers_alike : (rs : List Region) → block_numbers rs ≡ old.block_numbers rs
numbers_alike rs = numbers_from [] 0 rs
