-- The temporaries that the iterations of a block, and its items of ALLOCATE, keep are no more than its instructions.
use Rattle.std.proofs.Common.{◌≡◌, ℕ, suc, ◌+◌, ◌≤◌, List, [], ◌∷◌, ◌++◌, length, refl, arith}
use Rattle.pli_gen_emit.specs.TreeTranslation.{BlockTree, value_code, place_code, place_after, keeps_code, sets_code, tests_code, advances_code, back_code, turn_place, list_place, conversion_code, allocation_code, allocations_code, statement_code, form_code, list_code, end_code, block_code}
use Rattle.pli_gen.proofs.CodeEnds.{grows, one_way_ends, two_ways_ends, turns_ends}
use Rattle.pli_gen.proofs.IterationCode.{iterate_ends}
use Rattle.pli_gen.proofs.SimpleCode.{after_both}
use Rattle.pli_program.specs.declared.instruction.Instruction.TheVariants as op
use Rattle.pli_type_tree.specs.Allocations.{kept_for, all_kept_for}
use Rattle.pli_type_tree.specs.Iterations.{kept_by, temporaries_of, is_iterated}
use Rattle.pli_type_tree.specs.TypedTree.{TypedExpression, TypedStatement, Statement, TypedStatements, NoStatement, StatementThen, NoElse, Else, Iteration}
use Rattle.pli_type_tree.specs.TypedTree.{Form, If, Group, While, Iterate, Allocate, AllocatedItem, AllocatesControlled, AllocatesBased, AllocatesInArea}
use Rattle.pli_deck_laws.specs.WellFormed.{kept_in, kept_in_form, kept_among}

keeps_long : (t : ℕ) (es : List TypedExpression) (p : ℕ) → p + length es ≤ place_after (keeps_code t es) p
keeps_long t [] p = omega arith
keeps_long t (e ∷ es) p =
    let rest = keeps_code (suc t) es in
    let q = place_after (value_code e) p in
    let a : place_after (keeps_code t (e ∷ es)) p ≡ place_after rest (suc q) = after_both (value_code e) (op.SetTemporary t ∷ rest) p in
    let g : p ≤ q = grows (value_code e) p in
    let k = keeps_long (suc t) es (suc q) in
    omega (arith, a, g, k)

start_long : (i : Iteration) (p : ℕ) → p + temporaries_of i.range ≤ turn_place i p
start_long i p =
    let keeps = keeps_code i.temporary (i.start ∷ kept_by i.range) in
    let sets = sets_code i (op.TakeTemporary i.temporary ∷ []) in
    let a : place_after (keeps ++ sets) p ≡ place_after sets (place_after keeps p) = after_both keeps sets p in
    let g : place_after keeps p ≤ place_after sets (place_after keeps p) = grows sets (place_after keeps p) in
    let k = keeps_long i.temporary (i.start ∷ kept_by i.range) p in
    omega (arith, a, g, k)

allocation_long : (item : AllocatedItem) (p : ℕ) → p + kept_for item ≤ place_after (allocation_code item p) p
allocation_long (AllocatesControlled number) p = omega arith
allocation_long (AllocatesBased template temporary target) p =
    let rest = place_code target ++ op.TakeTemporary temporary ∷ op.Store ∷ [] in
    let e : place_after (allocation_code (AllocatesBased template temporary target) p) p ≡ place_after rest (suc (suc p)) = refl in
    let g : suc (suc p) ≤ place_after rest (suc (suc p)) = grows rest (suc (suc p)) in
    omega (arith, e, g)
allocation_long (AllocatesInArea area template temporary target conversion) p =
    let q = place_after (place_code area) p in
    let rest = op.SetTemporary temporary ∷ (place_code target ++ (op.TakeTemporary temporary ∷ (conversion_code conversion ++ op.Store ∷ []))) in
    let e : place_after (allocation_code (AllocatesInArea area template temporary target conversion) p) p ≡ place_after rest (suc q) =
    after_both (place_code area) (op.AllocateInArea template p ∷ rest) p in
    let g : p ≤ q = grows (place_code area) p in
    let k : suc q ≤ place_after rest (suc q) = grows rest (suc q) in
    omega (arith, e, g, k)

allocations_long : (items : List AllocatedItem) (p : ℕ) → p + all_kept_for items ≤ place_after (allocations_code items p) p
allocations_long [] p = omega arith
allocations_long (item ∷ items) p =
    let code = allocation_code item p in
    let q = place_after code p in
    let rest = allocations_code items q in
    let e : place_after (code ++ rest) p ≡ place_after rest q = after_both code rest p in
    let k : p + kept_for item ≤ q = allocation_long item p in
    let l : q + all_kept_for items ≤ place_after rest q = allocations_long items q in
    omega (arith, e, k, l)

mutual
  kept_in_statement : (s : TypedStatement) (p : ℕ) → p + kept_in s ≤ place_after (statement_code s p) p
  kept_in_statement (Statement number form) p = let k = kept_in_this number form (suc p) in omega (arith, k)

  kept_in_this : (number : ℕ) (f : Form) (p : ℕ) → p + kept_in_form f ≤ place_after (form_code number f p) p
  kept_in_this number (If test part NoElse) p =
      let q = suc (place_after (value_code test) p) in
      let e : place_after (form_code number (If test part NoElse) p) p ≡ place_after (statement_code part q) q = one_way_ends (value_code test) (statement_code part) p in
      let g : p ≤ place_after (value_code test) p = grows (value_code test) p in
      let k = kept_in_statement part q in
      omega (arith, e, g, k)
  kept_in_this number (If test part (Else other)) p =
      let q = suc (place_after (value_code test) p) in
      let r = suc (place_after (statement_code part q) q) in
      let e : place_after (form_code number (If test part (Else other)) p) p ≡ place_after (statement_code other r) r = two_ways_ends (value_code test) (statement_code part) (statement_code other) p in
      let g : p ≤ place_after (value_code test) p = grows (value_code test) p in
      let k = kept_in_statement part q in
      let l = kept_in_statement other r in
      omega (arith, e, g, k, l)
  kept_in_this number (Group statements) p = kept_in_list statements p
  kept_in_this number (While test statements) p =
      let q = suc (suc (place_after (value_code test) (suc p))) in
      let e : place_after (form_code number (While test statements) p) p ≡ suc (place_after (list_code statements q) q) = turns_ends number (value_code test) (list_code statements) p in
      let g : suc p ≤ place_after (value_code test) (suc p) = grows (value_code test) (suc p) in
      let k = kept_in_list statements q in
      omega (arith, e, g, k)
  kept_in_this number (Iterate i statements) p =
      let turn = turn_place i p in
      let q = list_place i p in
      let code = list_code statements q in
      let back = back_code (is_iterated i.range) number (advances_code i.range i) turn in
      let e : place_after (form_code number (Iterate i statements) p) p ≡ place_after back (place_after code q) = iterate_ends number i (list_code statements) p in
      let s = start_long i p in
      let a : turn ≤ place_after (tests_code i 0) turn = grows (tests_code i 0) turn in
      let c : place_after code q ≤ place_after back (place_after code q) = grows back (place_after code q) in
      let k = kept_in_list statements q in
      omega (arith, e, s, a, c, k)
  kept_in_this number (Allocate items) p = allocations_long items p
  kept_in_this number f p = let g = grows (form_code number f p) p in omega (arith, g)

  kept_in_list : (ss : TypedStatements) (p : ℕ) → p + kept_among ss ≤ place_after (list_code ss p) p
  kept_in_list NoStatement p = omega arith
  kept_in_list (StatementThen first more) p =
      let code = statement_code first p in
      let q = place_after code p in
      let rest = list_code more q in
      let e : place_after (code ++ rest) p ≡ place_after rest q = after_both code rest p in
      let k = kept_in_statement first p in
      let l = kept_in_list more q in
      omega (arith, e, k, l)

-- where a block's code is short, its temporaries are few
pub few_temporaries : (b : BlockTree) (p n : ℕ) → b.head.temporaries ≤ kept_among b.statements → place_after (block_code b p) p ≤ n → b.head.temporaries ≤ n
few_temporaries b p n h short =
    let code = list_code b.statements p in
    let last = end_code b.function_end in
    let e : place_after (code ++ last) p ≡ place_after last (place_after code p) = after_both code last p in
    let g : place_after code p ≤ place_after last (place_after code p) = grows last (place_after code p) in
    let k = kept_in_list b.statements p in
    omega (arith, h, short, e, g, k)
