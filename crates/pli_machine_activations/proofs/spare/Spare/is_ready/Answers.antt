use Rattle.std.proofs.Common.{◌≡◌, ◌-◌, ◌<◌, Some, length, slice_get, refl, sym, ap, subst, ◌∙◌, arith}
use Rattle.std.specs.Prelude.{vec_capacity, vec_len, IfSome}
use Rattle.std.proofs.lemmas.Option.{slice_get_read}
use Rattle.pli_machine_activations.specs.answers.EmptyLists.{AreReady}
use Rattle.pli_machine_activations.specs.declared.room.Room.{Room}
use Rattle.pli_machine_activations.proofs.spare.Spare.is_ready.Goals as goal

pub returns-clause-ready : goal.returns-clause-ready
returns-clause-ready c = λ clear.
    let all = c.args.self.now.lists in
    let count = c.len-count.result in
    let is : count ≡ vec_len all = c.len-count.ensures in
    let last = c.index-lists.result.now in
    let within : count - 1 < length all.items = omega (arith, all.ok.0, is, c.if-count-eq0.false) in
    let here : slice_get all.items (count - 1) ≡ Some last = slice_get_read all.items (length all.items) (count - 1) last refl within c.index-lists.ensures in
    subst (λ o. IfSome o AreReady) (sym (ap (λ n. slice_get all.items (n - 1)) (sym is) ∙ here))
    (record {
      slots = omega (arith, c.if-capacity-lt2.false);
      owned = subst (λ (r : Room). 1 < vec_capacity r.owned) c.deref.ensures (c.is_clear.ensures.owned clear);
      none = ap (λ (r : Room). r.temporaries.items) (sym c.deref.ensures) ∙ c.is_clear.ensures.none clear;
    })
