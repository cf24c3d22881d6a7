use Rattle.std.proofs.Common.{◌≡◌, List, length, Some, slice_get, refl, sym, ◌∙◌, arith}
use Rattle.std.proofs.lemmas.Option.{slice_get_read}
use Rattle.pli_world.specs.Areas.{without_block}
use Rattle.pli_world.specs.Storage.{Block}
use Rattle.pli_store.specs.views.GenerationView.{generation_view}
use Rattle.pli_store.specs.views.StorageView.{storage_view}
use Rattle.pli_store.proofs.ChangedBlocks.{blocks_kept, blocks_said, others_of}
use Rattle.pli_store.proofs.PartAnswers.{number_found}
use Rattle.pli_store.proofs.PlaceLemmas.{stored_one, within_store}
use Rattle.pli_store.proofs.RisingNumbers.{no_blocks_changed}
use Rattle.pli_store.proofs.storage.Storage.free_block.Goals as goal

pub index_mut-requires : goal.index_mut-requires
index_mut-requires c =
    let inside = within_store c.args.self.now.generations.items c.args.block.generation c.in-Some.at c.in-Some.ensures in
    omega (arith, inside)

pub invariant_of-self : goal.invariant_of-self
invariant_of-self c =
    let items = c.args.self.now.generations.items in
    let at = c.in-Some.at in
    let g = c.index_mut.result.now in
    let here : slice_get items at ≡ Some g = slice_get_read items (length items) at g refl (within_store items c.args.block.generation at c.in-Some.ensures) c.index_mut.ensures.value in
    let kept = blocks_kept items at g c.end_block.new.generation here c.args.self.now.made c.args.self.now.rising
    (others_of g c.end_block.new.generation (λ bs. without_block bs c.args.block.position) c.end_block.ensures) in
    record { counted = c.args.self.now.counted ∙ sym kept.counted; limited = c.args.self.now.limited; rising = kept.rising }

pub returns-in-Some-clause-storage : goal.returns-in-Some-clause-storage
returns-in-Some-clause-storage c =
    let items = c.args.self.now.generations.items in
    let at = c.in-Some.at in
    let g = c.index_mut.result.now in
    let here : slice_get items at ≡ Some g = slice_get_read items (length items) at g refl (within_store items c.args.block.generation at c.in-Some.ensures) c.index_mut.ensures.value in
    let change : List Block → List Block = λ bs. without_block bs c.args.block.position in
    blocks_said items at g c.end_block.new.generation here c.args.self.now.made c.args.self.now.rising change c.end_block.ensures c.args.block.generation
    (number_found (storage_view c.args.self.now) c.args.block.generation (generation_view g) (stored_one items c.args.block.generation at g c.in-Some.ensures here))

pub returns-in_default-clause-storage : goal.returns-in_default-clause-storage
returns-in_default-clause-storage c =
    sym (no_blocks_changed (storage_view c.args.self.now) c.args.block.generation (λ bs. without_block bs c.args.block.position) c.in_default.ensures)
