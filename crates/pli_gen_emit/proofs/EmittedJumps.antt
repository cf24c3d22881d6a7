-- Code with jumps that was emitted, unless memory was wanting.
use Rattle.std.proofs.Common.{◌≡◌, ◌∷◌, [], ℕ, List, false, length, min, ap, ◌∙◌, sym}
use Rattle.pli_program.specs.Program as programs
use Rattle.pli_program.specs.declared.instruction.Instruction.TheVariants as op
use Rattle.pli_type_tree.specs.Iterations.{is_iterated}
use Rattle.pli_type_tree.specs.TypedTree.{Iteration}
use Rattle.pli_code.specs.CodedInstruction.{Instruction}
use Rattle.pli_gen_emit.specs.TreeTranslation.{one_way, two_ways, turns_code, start_code, tests_code, advances_code, back_code, iterate_code}
use Rattle.pli_gen_emit.specs.answers.Emitting.{emission, landed, Emits, Lands}
use Rattle.pli_gen_emit.specs.answers.Pieces.{IsTurn, LandsTurn}
use Rattle.pli_gen_emit.specs.declared.emitter.Emitter.{Emitter}
use Rattle.pli_gen_emit.specs.declared.iteration.Turn.{Turn}
use Rattle.pli_gen_emit.proofs.IterationLemmas.{iterate_made}
use Rattle.pli_gen_emit.proofs.JumpLemmas.{one_way_made, two_ways_made, turns_made}

-- where a jump lands, in other words
pub lands_as : (old new : Emitter) (p q m n : ℕ) (jump : ℕ → Instruction) → Lands old new p (jump (min m 65535)) → p ≡ q → m ≡ n → Lands old new q (jump (min n 65535))
lands_as old new p q m n jump l e f =
    (l.0, l.1 ∙ ap (λ k. landed k (jump (min m 65535)) (emission old)) e ∙ ap (λ k. landed q (jump (min k 65535)) (emission old)) f)

-- an IF without an ELSE part
pub one_way_emitted : (old tested jumping done all : Emitter) (test : List programs.Instruction) (part : ℕ → List programs.Instruction)
    → Emits old tested test → Emits tested jumping (op.JumpUnless 0 ∷ []) → Emits jumping done (part (length jumping.code.items))
    → Lands done all (length tested.code.items) (op.JumpUnless (min (length done.code.items) 65535))
    → Emits old all (one_way test part (length old.code.items))
one_way_emitted old tested jumping done all test part t j d a = (
  λ h. t.0 (j.0 (d.0 (sym a.0 ∙ h))),
  λ h. let last = sym a.0 ∙ h in
      let two = d.0 last in
      one_way_made (emission old) (emission tested) (emission jumping) (emission done) (emission all) test part (t.1 (j.0 two)) (j.1 two) (d.1 last) a.1,
)

-- an IF with one
pub two_ways_emitted : (old tested jumping done over put last all : Emitter) (test : List programs.Instruction) (part other : ℕ → List programs.Instruction)
    → Emits old tested test → Emits tested jumping (op.JumpUnless 0 ∷ []) → Emits jumping done (part (length jumping.code.items))
    → Emits done over (op.Jump 0 ∷ [])
    → Lands over put (length tested.code.items) (op.JumpUnless (min (length over.code.items) 65535))
    → Emits put last (other (length put.code.items))
    → Lands last all (length done.code.items) (op.Jump (min (length last.code.items) 65535))
    → Emits old all (two_ways test part other (length old.code.items))
two_ways_emitted old tested jumping done over put last all test part other t j d o p l a = (
  λ h. t.0 (j.0 (d.0 (o.0 (sym p.0 ∙ l.0 (sym a.0 ∙ h))))),
  λ h. let five = sym a.0 ∙ h in
      let four = sym p.0 ∙ l.0 five in
      let three = o.0 four in
      let two = d.0 three in
      two_ways_made (emission old) (emission tested) (emission jumping) (emission done) (emission over) (emission put) (emission last) (emission all) test part other
      (t.1 (j.0 two)) (j.1 two) (d.1 three) (o.1 four) p.1 (l.1 five) a.1,
)

-- the turns of a loop
pub turns_emitted : (old lined tested jumping stepping done back all : Emitter) (number : ℕ) (test : List programs.Instruction) (list : ℕ → List programs.Instruction)
    → Emits old lined (op.Line number ∷ []) → Emits lined tested test → Emits tested jumping (op.JumpUnless 0 ∷ [])
    → Emits jumping stepping (op.Step number ∷ []) → Emits stepping done (list (length stepping.code.items))
    → Emits done back (op.Jump (length old.code.items) ∷ [])
    → Lands back all (length tested.code.items) (op.JumpUnless (min (length back.code.items) 65535))
    → Emits old all (turns_code number test list (length old.code.items))
turns_emitted old lined tested jumping stepping done back all number test list n t j s d b a = (
  λ h. n.0 (t.0 (j.0 (s.0 (d.0 (b.0 (sym a.0 ∙ h)))))),
  λ h. let five = sym a.0 ∙ h in
      let four = b.0 five in
      let three = d.0 four in
      let two = s.0 three in
      let one = j.0 two in
      turns_made (emission old) (emission lined) (emission tested) (emission jumping) (emission stepping) (emission done) (emission back) (emission all) number test list
      (n.1 (t.0 one)) (t.1 one) (j.1 two) (s.1 three) (d.1 four) (b.1 five) a.1,
)

-- an iteration
pub iterate_emitted : (old started tested stepping done back all : Emitter) (number : ℕ) (i : Iteration) (list : ℕ → List programs.Instruction) (turn : Turn)
    → Emits old started (start_code i) → Emits started tested (tests_code i 0) → (tested.tables.lacks_memory ≡ false → IsTurn i (length started.code.items) turn)
    → Emits tested stepping (op.Step number ∷ []) → Emits stepping done (list (length stepping.code.items))
    → Emits done back (back_code (is_iterated i.range) number (advances_code i.range i) turn.place)
    → LandsTurn back all turn (length back.code.items)
    → Emits old all (iterate_code number i list (length old.code.items))
iterate_emitted old started tested stepping done back all number i list turn s t is j d b a = (
  λ h. s.0 (t.0 (j.0 (d.0 (b.0 (sym a.0 ∙ h))))),
  λ h. let four = sym a.0 ∙ h in
      let three = b.0 four in
      let two = d.0 three in
      let one = j.0 two in
      iterate_made (emission old) (emission started) (emission tested) (emission stepping) (emission done) (emission back) (emission all) number i list turn
      (s.1 (t.0 one)) (t.1 one) (is one) (j.1 two) (d.1 three) (b.1 four) a.1,
)
