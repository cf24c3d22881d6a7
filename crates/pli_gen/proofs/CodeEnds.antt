-- Where code ends in which other code stands, and that its parts end no later.
use Rattle.std.proofs.Common.{◌≡◌, ℕ, suc, ◌≤◌, List, [], ◌∷◌, ◌++◌, ap, ◌∙◌, arith}
use Rattle.pli_program.specs.Program as programs
use Rattle.pli_program.specs.declared.instruction.Instruction.TheVariants as op
use Rattle.pli_type_tree.specs.Iterations.{is_iterated}
use Rattle.pli_type_tree.specs.TypedTree.{Iteration}
use Rattle.pli_gen_emit.specs.TreeTranslation.{place_after, one_way, two_ways, turns_code, advances_code, tests_code, back_code, turn_place, list_place, iterate_code}
use Rattle.pli_gen_emit.proofs.JumpLemmas.{after_is}
use Rattle.pli_gen.proofs.IterationCode.{iterate_ends}
use Rattle.pli_gen.proofs.SimpleCode.{after_both}

pub grows : (is : List programs.Instruction) (p : ℕ) → p ≤ place_after is p
grows is p = let e = after_is is p in omega (arith, e)

-- what stands after other code
pub both_within : (code rest : List programs.Instruction) (p n : ℕ) → place_after (code ++ rest) p ≤ n → (place_after code p ≤ n) × (place_after rest (place_after code p) ≤ n)
both_within code rest p n h =
    let e : place_after (code ++ rest) p ≡ place_after rest (place_after code p) = after_both code rest p in
    let g : place_after code p ≤ place_after rest (place_after code p) = grows rest (place_after code p) in
    (omega (arith, e, g, h), omega (arith, e, h))

-- an IF without ELSE
pub one_way_ends : (test : List programs.Instruction) (part : ℕ → List programs.Instruction) (p : ℕ) → place_after (one_way test part p) p ≡ place_after (part (suc (place_after test p))) (suc (place_after test p))
one_way_ends test part p = let q = suc (place_after test p) in after_both test (op.JumpUnless (place_after (part q) q) ∷ part q) p

pub one_way_within : (test : List programs.Instruction) (part : ℕ → List programs.Instruction) (p n : ℕ) → place_after (one_way test part p) p ≤ n → place_after (part (suc (place_after test p))) (suc (place_after test p)) ≤ n
one_way_within test part p n h = let e = one_way_ends test part p in omega (arith, e, h)

-- an IF with ELSE
pub two_ways_ends : (test : List programs.Instruction) (part other : ℕ → List programs.Instruction) (p : ℕ)
    → let q = suc (place_after test p) in let r = suc (place_after (part q) q) in place_after (two_ways test part other p) p ≡ place_after (other r) r
two_ways_ends test part other p =
    let q = suc (place_after test p) in
    let r = suc (place_after (part q) q) in
    after_both (test ++ op.JumpUnless r ∷ part q) (op.Jump (place_after (other r) r) ∷ other r) p
    ∙ ap (λ k. place_after (other r) (suc k)) (after_both test (op.JumpUnless r ∷ part q) p)

pub two_ways_within : (test : List programs.Instruction) (part other : ℕ → List programs.Instruction) (p n : ℕ) → place_after (two_ways test part other p) p ≤ n
    → let q = suc (place_after test p) in let r = suc (place_after (part q) q) in (r ≤ n) × (place_after (other r) r ≤ n)
two_ways_within test part other p n h =
    let q = suc (place_after test p) in
    let r = suc (place_after (part q) q) in
    let e : place_after (two_ways test part other p) p ≡ place_after (other r) r = two_ways_ends test part other p in
    let g : r ≤ place_after (other r) r = grows (other r) r in
    (omega (arith, e, g, h), omega (arith, e, h))

-- turns of a loop
pub turns_ends : (number : ℕ) (test : List programs.Instruction) (list : ℕ → List programs.Instruction) (p : ℕ)
    → let q = suc (suc (place_after test (suc p))) in place_after (turns_code number test list p) p ≡ suc (place_after (list q) q)
turns_ends number test list p =
    let q = suc (suc (place_after test (suc p))) in
    let front = op.Line number ∷ test ++ op.JumpUnless (suc (place_after (list q) q)) ∷ op.Step number ∷ list q in
    after_both front (op.Jump p ∷ []) p ∙ ap suc (after_both test (op.JumpUnless (suc (place_after (list q) q)) ∷ op.Step number ∷ list q) (suc p))

pub turns_within : (number : ℕ) (test : List programs.Instruction) (list : ℕ → List programs.Instruction) (p n : ℕ) → place_after (turns_code number test list p) p ≤ n
    → let q = suc (suc (place_after test (suc p))) in (p ≤ n) × (suc (place_after (list q) q) ≤ n)
turns_within number test list p n h =
    let q = suc (suc (place_after test (suc p))) in
    let e : place_after (turns_code number test list p) p ≡ suc (place_after (list q) q) = turns_ends number test list p in
    let g : p ≤ place_after (turns_code number test list p) p = grows (turns_code number test list p) p in
    (omega (arith, g, h), omega (arith, e, h))

-- an iteration: where its turns and its list begin, and where these and the whole end
pub iterate_within : (number : ℕ) (i : Iteration) (list : ℕ → List programs.Instruction) (p n : ℕ) → place_after (iterate_code number i list p) p ≤ n
    → let q = list_place i p in let back = back_code (is_iterated i.range) number (advances_code i.range i) (turn_place i p) in
    (turn_place i p ≤ n) × (q ≤ n) × (place_after (list q) q ≤ n) × (place_after back (place_after (list q) q) ≤ n)
iterate_within number i list p n h =
    let q = list_place i p in
    let back = back_code (is_iterated i.range) number (advances_code i.range i) (turn_place i p) in
    let e : place_after (iterate_code number i list p) p ≡ place_after back (place_after (list q) q) = iterate_ends number i list p in
    let a : turn_place i p ≤ place_after (tests_code i 0) (turn_place i p) = grows (tests_code i 0) (turn_place i p) in
    let b : q ≤ place_after (list q) q = grows (list q) q in
    let c : place_after (list q) q ≤ place_after back (place_after (list q) q) = grows back (place_after (list q) q) in
    (omega (arith, a, b, c, e, h), omega (arith, b, c, e, h), omega (arith, c, e, h), omega (arith, e, h))
