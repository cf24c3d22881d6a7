-- The place after a block's code is later than where it begins.
use Rattle.std.proofs.Common.{◌≡◌, ℕ, suc, ◌≤◌, Option, Some, None, ◌++◌, arith}
use Rattle.pli_gen_emit.specs.TreeTranslation.{BlockTree, place_after, list_code, end_code, block_code}
use Rattle.pli_gen.proofs.CodeEnds.{grows}
use Rattle.pli_gen.proofs.SimpleCode.{after_both}

pub end_is_some : (e : Option ℕ) (p : ℕ) → suc p ≤ place_after (end_code e) p
end_is_some None p = omega arith
end_is_some (Some number) p = omega arith

pub block_is_some : (b : BlockTree) (p : ℕ) → suc p ≤ place_after (block_code b p) p
block_is_some b p =
    let code = list_code b.statements p in
    let ending = end_code b.function_end in
    let e : place_after (code ++ ending) p ≡ place_after ending (place_after code p) = after_both code ending p in
    let g : p ≤ place_after code p = grows code p in
    let k = end_is_some b.function_end (place_after code p) in
    omega (arith, e, g, k)
