-- Code of groups with a control variable, whose jumps land after it.
use Rattle.std.proofs.Common.{◌≡◌, ◌+◌, ◌++◌, ◌∷◌, [], ℕ, suc, List, Option, Some, None, length, min, refl, ap, ◌∙◌, sym}
use Rattle.std.proofs.lemmas.List.{length-append}
use Rattle.pli_program.specs.Program as programs
use Rattle.pli_program.specs.declared.instruction.Instruction.TheVariants as op
use Rattle.pli_type_tree.specs.Iterations.{is_iterated}
use Rattle.pli_type_tree.specs.TypedTree.{Iteration}
use Rattle.pli_gen_emit.specs.TreeTranslation.{place_after, start_code, limit_test, while_test, guarded, tests_code, advances_code, back_code, turn_place, list_place, iterate_code}
use Rattle.pli_gen_emit.specs.answers.Emitting.{Emission, with_instruction, extended, landed, guard_landed}
use Rattle.pli_gen_emit.specs.answers.Pieces.{jump_place, IsTurn}
use Rattle.pli_gen_emit.specs.declared.iteration.Turn.{Turn}
use Rattle.pli_gen_emit.proofs.EmitLemmas.{extended_both, longer, counted}
use Rattle.pli_gen_emit.proofs.JumpLemmas.{after_is, test_lands}

-- a jump after a test gets its target
guard_lands : (e : Emission) (test : Option (List programs.Instruction)) (rest : List programs.Instruction) (from to : ℕ)
    → guard_landed (jump_place test (length e.code)) to (extended e (guarded test from ++ rest)) ≡ extended e (guarded test to ++ rest)
guard_lands e None rest from to = refl
guard_lands e (Some test) rest from to =
    let tested = extended e test in
    let apart : (n : ℕ) → extended e ((test ++ op.JumpUnless n ∷ []) ++ rest) ≡ extended tested (op.JumpUnless n ∷ rest) =
    λ n. extended_both e (test ++ op.JumpUnless n ∷ []) rest ∙ ap (λ s. extended s rest) (extended_both e test (op.JumpUnless n ∷ [])) in
    ap (λ p. landed p (op.JumpUnless (min to 65535)) (extended e ((test ++ op.JumpUnless from ∷ []) ++ rest))) (sym (counted e test))
    ∙ ap (landed (length tested.code) (op.JumpUnless (min to 65535))) (apart from) ∙ test_lands tested from to rest ∙ sym (apart to)

guard_ends : (test : Option (List programs.Instruction)) (a b p : ℕ) → place_after (guarded test a) p ≡ place_after (guarded test b) p
guard_ends None a b p = refl
guard_ends (Some test) a b p =
    after_is (test ++ op.JumpUnless a ∷ []) p
    ∙ ap (λ k. p + k) (length-append test (op.JumpUnless a ∷ []) ∙ sym (length-append test (op.JumpUnless b ∷ [])))
    ∙ sym (after_is (test ++ op.JumpUnless b ∷ []) p)

-- an iteration
pub iterate_made : (old started tested stepping done back all : Emission) (number : ℕ) (i : Iteration) (list : ℕ → List programs.Instruction) (turn : Turn)
    → started ≡ extended old (start_code i) → tested ≡ extended started (tests_code i 0) → IsTurn i (length started.code) turn
    → stepping ≡ with_instruction tested (op.Step number) → done ≡ extended stepping (list (length stepping.code))
    → back ≡ extended done (back_code (is_iterated i.range) number (advances_code i.range i) turn.place)
    → all ≡ guard_landed turn.condition (length back.code) (guard_landed turn.limit (length back.code) back)
    → all ≡ extended old (iterate_code number i list (length old.code))
iterate_made old started tested stepping done back all number i list turn s t is j d b a =
    let p = length old.code in
    let q = list_place i p in
    let code = list q in
    let last = back_code (is_iterated i.range) number (advances_code i.range i) (turn_place i p) in
    let out = place_after last (place_after code q) in
    let at0 : length started.code ≡ turn_place i p = longer old started (start_code i) s in
    let at1 : length tested.code ≡ place_after (tests_code i 0) (turn_place i p) = longer started tested (tests_code i 0) t ∙ ap (place_after (tests_code i 0)) at0 in
    let at : length stepping.code ≡ q = longer tested stepping (op.Step number ∷ []) j ∙ ap suc at1 in
    let d2 : done ≡ extended stepping code = d ∙ ap (λ n. extended stepping (list n)) at in
    let b2 : back ≡ extended done last = b ∙ ap (λ n. extended done (back_code (is_iterated i.range) number (advances_code i.range i) n)) (is.place ∙ at0) in
    let z : length back.code ≡ out = longer done back last b2 ∙ ap (place_after last) (longer stepping done code d2 ∙ ap (place_after code) at) in
    let limit : ℕ → List programs.Instruction = λ n. guarded (limit_test i) n in
    let condition : ℕ → List programs.Instruction = λ n. guarded (while_test i.condition) n in
    let rest = op.Step number ∷ (code ++ last) in
    let apart : (m n : ℕ) → extended started (limit m ++ (condition n ++ rest)) ≡ extended (extended started (limit m ++ condition n)) rest =
    λ m n. extended_both started (limit m) (condition n ++ rest) ∙ extended_both (extended started (limit m)) (condition n) rest
    ∙ ap (λ s. extended s rest) (sym (extended_both started (limit m) (condition n))) in
    let whole : back ≡ extended started (limit 0 ++ (condition 0 ++ rest)) =
    b2 ∙ ap (λ s. extended s last) (d2 ∙ ap (λ s. extended s code) (j ∙ ap (λ s. with_instruction s (op.Step number)) t))
    ∙ sym (extended_both (with_instruction (extended started (limit 0 ++ condition 0)) (op.Step number)) code last)
    ∙ sym (apart 0 0) in
    let first : guard_landed turn.limit out back ≡ extended (extended started (limit out)) (condition 0 ++ rest) =
    ap (guard_landed turn.limit out) whole
    ∙ ap (λ k. guard_landed k out (extended started (limit 0 ++ (condition 0 ++ rest)))) is.limit
    ∙ guard_lands started (limit_test i) (condition 0 ++ rest) 0 out
    ∙ extended_both started (limit out) (condition 0 ++ rest) in
    let place : place_after (limit 0) (length started.code) ≡ length (extended started (limit out)).code =
    guard_ends (limit_test i) 0 out (length started.code) ∙ sym (counted started (limit out)) in
    a ∙ ap (λ n. guard_landed turn.condition n (guard_landed turn.limit n back)) z
    ∙ ap (guard_landed turn.condition out) first
    ∙ ap (λ k. guard_landed k out (extended (extended started (limit out)) (condition 0 ++ rest))) (is.condition ∙ ap (jump_place (while_test i.condition)) place)
    ∙ guard_lands (extended started (limit out)) (while_test i.condition) rest 0 out
    ∙ sym (extended_both started (limit out) (condition out ++ rest)) ∙ apart out out
    ∙ ap (λ s. extended s rest) (ap (λ s. extended s (limit out ++ condition out)) s ∙ sym (extended_both old (start_code i) (limit out ++ condition out)))
    ∙ sym (extended_both old (start_code i ++ tests_code i out) rest)
