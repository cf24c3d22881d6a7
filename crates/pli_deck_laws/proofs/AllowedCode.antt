-- The code of statements and blocks of a well-formed unit has numbers within limits, and its jumps lead to its instructions.
use Rattle.std.proofs.Common.{◌≡◌, ℕ, suc, ◌<◌, ◌≤◌, Option, Some, None, List, [], ◌∷◌, ◌++◌, length, arith}
use Rattle.std.specs.List.{AllByRecursion}
use Rattle.pli_gen_emit.specs.TreeTranslation.{BlockTree, value_code, place_code, skip_code, items_code, place_after, start_code, tests_code, advances_code, back_code, turn_place, list_place}
use Rattle.pli_gen_emit.specs.TreeTranslation.{statement_code, form_code, list_code, end_code, block_code, blocks_code, blocks_in, blocks_of_form, blocks_among}
use Rattle.pli_gen.proofs.CodeEnds.{both_within, one_way_within, two_ways_within, turns_within, iterate_within}
use Rattle.pli_gen.proofs.SimpleCode.{after_both}
use Rattle.pli_gen.specs.laws.ListLaws.{all_front, all_back}
use Rattle.pli_gen.specs.WellNumbered.{next_temporary, KeepsApart, KeepsApartForm, KeepApart}
use Rattle.pli_program.specs.Program as programs
use Rattle.pli_program.specs.declared.instruction.Instruction.TheVariants as op
use Rattle.pli_type_tree.specs.Iterations.{is_iterated}
use Rattle.pli_type_tree.specs.TypedTree.{TypedExpression, TypedStatement, Statement, TypedStatements, NoStatement, StatementThen, NoElse, Else, TypedUnit}
use Rattle.pli_type_tree.specs.TypedTree.{Form, Null, Assign, AssignString, AssignAggregate, AssignArea, EmptyArea, Put, If, Begin, Group, While, Iterate, Call, Goto, Return, ReturnValue, Stop, On, Revert, Signal, Allocate, Free}
use Rattle.pli_deck_laws.specs.Limits.{parameter_limit, word_limit, IfThere}
use Rattle.pli_deck_laws.specs.WellFormed.{IsHead, HasBlock, HasSlot, IsExpression, IsStatement, IsForm, AreStatements}
use Rattle.pli_deck_laws.proofs.CodeGrows.{end_is_some}
use Rattle.pli_deck_laws.proofs.KeptTemporaries.{few_temporaries}
use Rattle.pli_deck_laws.proofs.AllowedLemmas.{AllAllowed, joined, value_allowed, place_allowed, called_allowed, skip_allowed, items_allowed, allocations_allowed, freeings_allowed, start_allowed, tests_allowed, back_allowed}

-- blocks of a list with numbers below a limit
abbrev pub AreBelow : (blocks : ℕ) → List BlockTree → Type 0
AreBelow blocks bs = AllByRecursion (λ b. b.head.number < blocks) bs

module _ (globals blocks last : ℕ) (t : TypedUnit) (counted : length t.globals ≡ globals) (named : (n : ℕ) → HasBlock t n → n < blocks) (slotted : (n : ℕ) → HasSlot t n → n ≤ 65535) where
  abbrev All : List programs.Instruction → Type 0
  All is = AllAllowed globals blocks last is

  test_part : (test : TypedExpression) (target : ℕ) (code : List programs.Instruction) → IsExpression t test → target ≤ last → All code → All (value_code test ++ op.JumpUnless target ∷ code)
  test_part test target code h to rest =
      joined globals blocks last (value_code test) (op.JumpUnless target ∷ code) (value_allowed globals blocks last t counted named slotted test h) (to, rest)

  mutual
    statement_allowed : (s : TypedStatement) (parent used room p : ℕ) → room ≤ 65535 → IsStatement t s → KeepsApart used room s → AreBelow blocks (blocks_in parent s)
        → place_after (statement_code s p) p ≤ last → All (statement_code s p)
    statement_allowed (Statement number form) parent used room p most h apart inner end = (h.0, form_allowed number form parent used room (suc p) most h.0 h.1 apart inner end)

    form_allowed : (number : ℕ) (f : Form) (parent used room p : ℕ) → room ≤ 65535 → number < word_limit → IsForm t f → KeepsApartForm used room f
        → AreBelow blocks (blocks_of_form parent f) → place_after (form_code number f p) p ≤ last → All (form_code number f p)
    form_allowed number (If test part NoElse) parent used room p most n h apart inner end =
        let q = suc (place_after (value_code test) p) in
        let to = one_way_within (value_code test) (statement_code part) p last end in
        test_part test (place_after (statement_code part q) q) (statement_code part q) h.0 to
        (statement_allowed part parent used room q most h.1 apart.0 (all_front (λ b. b.head.number < blocks) (blocks_in parent part) [] inner) to)
    form_allowed number (If test part (Else other)) parent used room p most n h apart inner end =
        let q = suc (place_after (value_code test) p) in
        let r = suc (place_after (statement_code part q) q) in
        let w = two_ways_within (value_code test) (statement_code part) (statement_code other) p last end in
        let to : place_after (statement_code part q) q ≤ last = let k = w.0 in omega (arith, k) in
        joined globals blocks last (value_code test ++ op.JumpUnless r ∷ statement_code part q) (op.Jump (place_after (statement_code other r) r) ∷ statement_code other r)
        (test_part test r (statement_code part q) h.0 w.0
        (statement_allowed part parent used room q most h.1 apart.0 (all_front (λ b. b.head.number < blocks) (blocks_in parent part) (blocks_in parent other) inner) to))
        (w.1, statement_allowed other parent used room r most h.2 apart.1 (all_back (λ b. b.head.number < blocks) (blocks_in parent part) (blocks_in parent other) inner) w.1)
    form_allowed number (Group statements) parent used room p most n h apart inner end = list_allowed statements parent used room p most h apart inner end
    form_allowed number (While test statements) parent used room p most n h apart inner end =
        let q = suc (suc (place_after (value_code test) (suc p))) in
        let code = list_code statements q in
        let w = turns_within number (value_code test) (list_code statements) p last end in
        let to : place_after code q ≤ last = let k = w.1 in omega (arith, k) in
        joined globals blocks last (op.Line number ∷ value_code test ++ op.JumpUnless (suc (place_after code q)) ∷ op.Step number ∷ code) (op.Jump p ∷ [])
        (n, test_part test (suc (place_after code q)) (op.Step number ∷ code) h.0 w.1 (n, list_allowed statements parent used room q most h.1 apart inner to)) (w.0, tt)
    form_allowed number (Iterate i statements) parent used room p most n h apart inner end =
        let q = list_place i p in
        let code = list_code statements q in
        let back = back_code (is_iterated i.range) number (advances_code i.range i) (turn_place i p) in
        let out = place_after back (place_after code q) in
        let w = iterate_within number i (list_code statements) p last end in
        let enough : next_temporary i ≤ 65535 = let k = apart.1 in omega (arith, k, most) in
        joined globals blocks last (start_code i ++ tests_code i out) (op.Step number ∷ (code ++ back))
        (joined globals blocks last (start_code i) (tests_code i out) (start_allowed globals blocks last t counted named slotted i h.0 enough) (tests_allowed globals blocks last t counted named slotted i out h.0 enough w.3)) (
          n,
          joined globals blocks last code back (list_allowed statements parent (next_temporary i) room q most h.1 apart.2 inner w.2)
              (back_allowed globals blocks last t counted named slotted (is_iterated i.range) number i (turn_place i p) n h.0 enough w.0),
        )
    form_allowed number Null parent used room p most n h apart inner end = tt
    form_allowed number (Assign target value) parent used room p most n h apart inner end =
        joined globals blocks last (place_code target ++ value_code value) (op.Store ∷ [])
        (joined globals blocks last (place_code target) (value_code value) (place_allowed globals blocks last t counted named slotted target h.0) (value_allowed globals blocks last t counted named slotted value h.1))
        (tt, tt)
    form_allowed number (AssignString target value) parent used room p most n h apart inner end =
        joined globals blocks last (place_code target ++ value_code value) (op.FitToPlace ∷ op.Store ∷ [])
        (joined globals blocks last (place_code target) (value_code value) (place_allowed globals blocks last t counted named slotted target h.0) (value_allowed globals blocks last t counted named slotted value h.1))
        (tt, (tt, tt))
    form_allowed number (AssignAggregate target source) parent used room p most n h apart inner end =
        joined globals blocks last (place_code target ++ place_code source) (op.Copy ∷ [])
        (joined globals blocks last (place_code target) (place_code source) (place_allowed globals blocks last t counted named slotted target h.0) (place_allowed globals blocks last t counted named slotted source h.1))
        (tt, tt)
    form_allowed number (AssignArea target source) parent used room p most n h apart inner end =
        joined globals blocks last (place_code target ++ place_code source) (op.AssignArea ∷ [])
        (joined globals blocks last (place_code target) (place_code source) (place_allowed globals blocks last t counted named slotted target h.0) (place_allowed globals blocks last t counted named slotted source h.1))
        (tt, tt)
    form_allowed number (EmptyArea target) parent used room p most n h apart inner end =
        joined globals blocks last (place_code target) (op.EmptyArea ∷ []) (place_allowed globals blocks last t counted named slotted target h) (tt, tt)
    form_allowed number (Put skip items) parent used room p most n h apart inner end =
        joined globals blocks last (skip_code skip) (items_code items) (skip_allowed globals blocks last t counted named slotted skip) (items_allowed globals blocks last t counted named slotted items h)
    form_allowed number (Begin head statements) parent used room p most n h apart inner end = (inner.0, tt)
    form_allowed number (Call callee arguments) parent used room p most n h apart inner end = called_allowed globals blocks last t counted named slotted callee arguments h.0 h.1 h.2
    form_allowed number (Goto outward label) parent used room p most n h apart inner end = (h, tt)
    form_allowed number (Return outward) parent used room p most n h apart inner end = (h, tt)
    form_allowed number (ReturnValue outward value) parent used room p most n h apart inner end =
        joined globals blocks last (value_code value) (op.ReturnValue outward ∷ []) (value_allowed globals blocks last t counted named slotted value h.1) (h.0, tt)
    form_allowed number Stop parent used room p most n h apart inner end = (tt, tt)
    form_allowed number (On condition block) parent used room p most n h apart inner end = (named block h, tt)
    form_allowed number (Revert condition) parent used room p most n h apart inner end = (tt, tt)
    form_allowed number (Signal condition) parent used room p most n h apart inner end = (tt, tt)
    form_allowed number (Allocate items) parent used room p most n h apart inner end = allocations_allowed globals blocks last t counted named slotted items used room p most h apart end
    form_allowed number (Free items) parent used room p most n h apart inner end = freeings_allowed globals blocks last t counted named slotted items h

    list_allowed : (ss : TypedStatements) (parent used room p : ℕ) → room ≤ 65535 → AreStatements t ss → KeepApart used room ss → AreBelow blocks (blocks_among parent ss)
        → place_after (list_code ss p) p ≤ last → All (list_code ss p)
    list_allowed NoStatement parent used room p most h apart inner end = tt
    list_allowed (StatementThen first more) parent used room p most h apart inner end =
        let q = place_after (statement_code first p) p in
        let w = both_within (statement_code first p) (list_code more q) p last end in
        joined globals blocks last (statement_code first p) (list_code more q)
        (statement_allowed first parent used room p most h.0 apart.0 (all_front (λ b. b.head.number < blocks) (blocks_in parent first) (blocks_among parent more) inner) w.0)
        (list_allowed more parent used room q most h.1 apart.1 (all_back (λ b. b.head.number < blocks) (blocks_in parent first) (blocks_among parent more) inner) w.1)

  end_allowed : (e : Option ℕ) → IfThere (λ n. n < word_limit) e → All (end_code e)
  end_allowed None h = (omega arith, tt)
  end_allowed (Some number) h = (h, (tt, tt))

  -- a block is within limits: the block around it has a number, as have those inside it, its temporaries are apart, and what it executes is well formed
  pub record GoodBlock (b : BlockTree) : Type 0 where
    pub parent : IfThere (λ n. n < blocks) b.parent
    pub parameters : b.parameters ≤ parameter_limit
    pub head : IsHead b.head b.statements
    pub end : IfThere (λ n. n < word_limit) b.function_end
    pub statements : AreStatements t b.statements
    pub apart : KeepApart 0 b.head.temporaries b.statements
    pub inner : AreBelow blocks (blocks_among b.head.number b.statements)

  block_allowed : (b : BlockTree) (p : ℕ) → suc last ≤ 65535 → GoodBlock b → place_after (block_code b p) p ≤ suc last → All (block_code b p)
  block_allowed b p few good end =
      let code = list_code b.statements p in
      let ending = end_code b.function_end in
      let e : place_after (code ++ ending) p ≡ place_after ending (place_after code p) = after_both code ending p in
      let g = end_is_some b.function_end (place_after code p) in
      joined globals blocks last code ending
      (list_allowed b.statements b.head.number 0 b.head.temporaries p (few_temporaries b p 65535 good.head.2 (omega (arith, end, few))) good.statements good.apart good.inner (omega (arith, e, g, end))) (end_allowed b.function_end good.end)

  pub blocks_allowed : (bs : List BlockTree) (p : ℕ) → suc last ≤ 65535 → AllByRecursion GoodBlock bs → place_after (blocks_code bs p) p ≤ suc last → All (blocks_code bs p)
  blocks_allowed [] p few good end = tt
  blocks_allowed (b ∷ bs) p few good end =
      let q = place_after (block_code b p) p in
      let w = both_within (block_code b p) (blocks_code bs q) p (suc last) end in
      joined globals blocks last (block_code b p) (blocks_code bs q) (block_allowed b p few good.0 w.0) (blocks_allowed bs q few good.1 w.1)
