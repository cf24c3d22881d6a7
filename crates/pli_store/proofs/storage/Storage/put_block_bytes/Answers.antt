use Rattle.std.proofs.Common.{List, sym, ap, ◌∙◌, arith}
use Rattle.std.proofs.lemmas.Result.{err_from_is_err_and}
use Rattle.pli_bytes.specs.Contents.{values_of}
use Rattle.pli_map.specs.views.DescriptionView.{description_view}
use Rattle.pli_world.specs.Storage.{Block, with_block_values, with_values_at}
use Rattle.pli_world.specs.World.{Yields}
use Rattle.pli_store.specs.views.StorageView.{place_view, with_storage}
use Rattle.pli_store.proofs.BlockPlaces.{block_here, block_inside, block_number, block_stands, block_unwritten, block_written}
use Rattle.pli_store.proofs.ChangedBlocks.{blocks_kept, blocks_said, changed_to}
use Rattle.pli_store.proofs.storage.Storage.put_block_bytes.Goals as goal

pub returns-in_err-at-clause-answer : goal.returns-in_err-at-clause-answer
returns-in_err-at-clause-answer c = λ w.
    let p = err_from_is_err_and c.from_residual.result c.from_residual.ensures.1 in
    let before = with_storage c.args.self.now w in
    rw (p.1, p.2) (block_unwritten (place_view c.args.place) before {T = Unit {0}} (λ x. tt) before
    (values_of (description_view c.args.place.description.now) c.args.bytes.now) c.in_err-at.field-0.0 c.in_err-at.ensures)

pub index_mut-requires : goal.index_mut-requires
index_mut-requires c =
    let inside = block_inside c.args.self.now.generations.items (place_view c.args.place) c.in_ok-at.at c.in_ok-at.ensures in
    omega (arith, inside)

pub write_block-requires-clause-there : goal.write_block-requires-clause-there
write_block-requires-clause-there c =
    (block_here c.args.self.now.generations.items (place_view c.args.place) c.in_ok-at.at c.in_ok-at.ensures c.index_mut.result.now c.index_mut.ensures.value).part

pub invariant_of-self : goal.invariant_of-self
invariant_of-self c =
    let items = c.args.self.now.generations.items in
    let g = c.index_mut.result.now in
    let here = block_stands items (place_view c.args.place) c.in_ok-at.at c.in_ok-at.ensures g c.index_mut.ensures.value in
    let kept = blocks_kept items c.in_ok-at.at g c.write_block.new.generation here c.args.self.now.made c.args.self.now.rising c.write_block.ensures.others in
    record { counted = c.args.self.now.counted ∙ sym kept.counted; limited = c.args.self.now.limited; rising = kept.rising }

pub returns-clause-answer : goal.returns-clause-answer
returns-clause-answer c = λ w.
    let items = c.args.self.now.generations.items in
    let p = place_view c.args.place in
    let l = c.in_ok-at.ensures in
    let g = c.index_mut.result.now in
    let read = c.index_mut.ensures.value in
    let before = with_storage c.args.self.now w in
    let vs = values_of (description_view c.args.place.description.now) c.args.bytes.now in
    let put = c.write_block.ensures.put in
    let t = put.there in
    let change : List Block → List Block = λ bs. with_block_values bs p.position (with_values_at t.scalar vs t.block.values) in
    block_written p before c.in_ok-at.at (block_here items p c.in_ok-at.at l g read) t vs
    ∙ ap (λ gs. Yields tt (record before { storage = gs }))
    (sym (blocks_said items c.in_ok-at.at g c.write_block.new.generation (block_stands items p c.in_ok-at.at l g read) c.args.self.now.made c.args.self.now.rising change
    (changed_to g c.write_block.new.generation change c.write_block.ensures.others put.changed) p.generation (block_number items p c.in_ok-at.at l g read)))
