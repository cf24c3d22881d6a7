use Rattle.std.proofs.Common.{◌≡◌, [], ◌∷◌, ◌++◌, length, get_or, refl, ap, subst, ◌∙◌, arith}
use Rattle.std.proofs.lemmas.List.{length-append}
use Rattle.std.proofs.Math.Seq.{get_or-append_seam}
use Rattle.pli_world.specs.Storage.{without}
use Rattle.pli_store.specs.declared.kind.Handle.{Handle}
use Rattle.pli_store.specs.views.StorageView.{storage_view}
use Rattle.pli_stacks.specs.views.StackView.{stack_view}
use Rattle.pli_stacks.proofs.StacksSaid.{newest_popped}
use Rattle.pli_stacks.proofs.stacking.pop_at_once.Goals as goal

pub returns-clause-popped : goal.returns-clause-popped
returns-clause-popped c = λ done.
    let s = c.args.stack.now in
    let left = c.take_last-newest.new.self.items in
    let h = c.take_last-newest.result in
    let last = c.in-Some.last in
    let read = c.index.result.now in
    let popped = c.take_last-newest.ensures.items in
    let here : last ≡ length left = omega (arith, length-append left (h ∷ []), ap length popped, s.generations.ok.0, c.len.ensures, c.in-Some.ensures) in
    let same : read ≡ h =
    c.index.ensures
    ∙ ap (λ items. get_or items last read) popped
    ∙ ap (λ k. get_or (left ++ h ∷ []) k read) here
    ∙ get_or-append_seam left h [] read in
    record {
      number = h.number;
      places = ap (λ ps. record (stack_view s) { places = ps }) (newest_popped (stack_view s).variable.description s.generations.items left h popped);
      ended =
          subst (λ n. storage_view c.end_at_once.new.self ≡ without (n ∷ []) (storage_view c.args.storage.now))
          (ap (λ (x : Handle). x.number) same) (c.if-not-end_at_once.ensures.ended refl);
      made = c.end_at_once.ensures.made;
    }
