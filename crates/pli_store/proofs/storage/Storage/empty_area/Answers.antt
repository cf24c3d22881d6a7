use Rattle.std.proofs.Common.{[], sym, ap, ◌∙◌, arith}
use Rattle.std.proofs.lemmas.Result.{err_from_is_err_and}
use Rattle.pli_store.specs.views.StorageView.{place_view, with_storage}
use Rattle.pli_world.specs.World.{Yields}
use Rattle.pli_store.proofs.AreaAnswers.{emptied_refused, emptied_there}
use Rattle.pli_store.proofs.ChangedBlocks.{area_here, area_inside, area_number, blocks_kept, blocks_said, others_of}
use Rattle.pli_store.proofs.storage.Storage.empty_area.Goals as goal

pub returns-in_err-at-clause-answer : goal.returns-in_err-at-clause-answer
returns-in_err-at-clause-answer c = λ w.
    let p = err_from_is_err_and c.from_residual.result c.from_residual.ensures.1 in
    let before = with_storage c.args.self.now w in
    rw (p.1, p.2) (emptied_refused (place_view c.args.area) before {T = Unit {0}} (λ x. tt) before c.in_err-at.field-0.0 (c.in_err-at.ensures w))

pub index_mut-requires : goal.index_mut-requires
index_mut-requires c =
    let inside = area_inside c.args.self.now.generations.items (place_view c.args.area) c.in_ok-at.at c.in_ok-at.ensures in
    omega (arith, inside)

pub invariant_of-self : goal.invariant_of-self
invariant_of-self c =
    let items = c.args.self.now.generations.items in
    let g = c.index_mut.result.now in
    let here = area_here items (place_view c.args.area) c.in_ok-at.at c.in_ok-at.ensures g c.index_mut.ensures.value in
    let kept = blocks_kept items c.in_ok-at.at g c.end_blocks.new.generation here c.args.self.now.made c.args.self.now.rising
    (others_of g c.end_blocks.new.generation (λ bs. []) c.end_blocks.ensures) in
    record { counted = c.args.self.now.counted ∙ sym kept.counted; limited = c.args.self.now.limited; rising = kept.rising }

pub returns-clause-answer : goal.returns-clause-answer
returns-clause-answer c = λ w.
    let items = c.args.self.now.generations.items in
    let p = place_view c.args.area in
    let s = c.in_ok-at.ensures in
    let g = c.index_mut.result.now in
    let read = c.index_mut.ensures.value in
    let before = with_storage c.args.self.now w in
    emptied_there p before c.in_ok-at.at s
    ∙ ap (λ gs. Yields tt (record before { storage = gs }))
    (sym (blocks_said items c.in_ok-at.at g c.end_blocks.new.generation (area_here items p c.in_ok-at.at s g read) c.args.self.now.made c.args.self.now.rising (λ bs. [])
    c.end_blocks.ensures p.generation (area_number items p c.in_ok-at.at s g read)))
