use Rattle.std.proofs.Common.{◌≡◌, ◌-◌, Some, [], ◌∷◌, ◌++◌, length, slice_get, refl, sym, ap, subst, ◌∙◌, arith}
use Rattle.std.specs.Prelude.{vec_len, IfSome}
use Rattle.std.proofs.Math.Seq.{get_or-append_seam}
use Rattle.std.proofs.lemmas.List.{length-append, nil_from_length}
use Rattle.std.proofs.lemmas.List.Elements.{All-pop}
use Rattle.std.proofs.lemmas.Option.{slice_get_read}
use Rattle.pli_machine_activations.specs.answers.EmptyLists.{AreEmptied, AreReady}
use Rattle.pli_machine_activations.proofs.spare.Spare.take_ready.Goals as goal

pub invariant_of-self : goal.invariant_of-self
invariant_of-self c = record {
  emptied = (All-pop AreEmptied c.args.self.now.lists.items c.take_last-lists.new.self.items (Some c.take_last-lists.result) c.take_last-lists.ensures.items c.args.self.now.emptied).0;
}

pub returns-clause-owned : goal.returns-clause-owned
returns-clause-owned c =
    let last = (All-pop AreEmptied c.args.self.now.lists.items c.take_last-lists.new.self.items (Some c.take_last-lists.result) c.take_last-lists.ensures.items c.args.self.now.emptied).1 in
    nil_from_length _ last.owned

pub returns-clause-empty : goal.returns-clause-empty
returns-clause-empty c =
    let last = (All-pop AreEmptied c.args.self.now.lists.items c.take_last-lists.new.self.items (Some c.take_last-lists.result) c.take_last-lists.ensures.items c.args.self.now.emptied).1 in
    record { no_operand = nil_from_length _ last.operands; none_pending = nil_from_length _ last.pending }

pub returns-clause-ready : goal.returns-clause-ready
returns-clause-ready c =
    let all = c.args.self.now.lists in
    let rest = c.take_last-lists.new.self.items in
    let last = c.take_last-lists.result in
    let here : vec_len all - 1 ≡ length rest = omega (arith, length-append rest (last ∷ []), ap length c.take_last-lists.ensures.items, all.ok.0) in
    let found : slice_get all.items (vec_len all - 1) ≡ Some last =
    ap (λ k. slice_get all.items k) here
    ∙ ap (λ xs. slice_get xs (length rest)) c.take_last-lists.ensures.items
    ∙ slice_get_read (rest ++ last ∷ []) (length (rest ++ last ∷ [])) (length rest) last refl (omega (arith, length-append rest (last ∷ []))) (sym (get_or-append_seam rest last [] last)) in
    let ready = subst (λ o. IfSome o AreReady) found c.requires.ready in
    record { slots = omega (arith, c.clear.ensures.capacity, ready.slots); owned = ready.owned; none = ready.none }
