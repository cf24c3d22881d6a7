use Rattle.std.proofs.Common.{ℕ, arith}
use Rattle.std.specs.Global.{Vec}
use Rattle.std.proofs.lemmas.Result.{err_from_is_err_and}
use Rattle.pli_bytes.specs.Contents.{values_of}
use Rattle.pli_map.specs.views.DescriptionView.{description_view}
use Rattle.pli_store.specs.views.StorageView.{place_view, with_storage}
use Rattle.pli_store.proofs.BlockPlaces.{block_here, block_inside, block_read, block_unread}
use Rattle.pli_store.proofs.storage.Storage.block_bytes.Goals as goal

pub returns-in_err-at-clause-held : goal.returns-in_err-at-clause-held
returns-in_err-at-clause-held c = λ w.
    let p = err_from_is_err_and c.from_residual.result c.from_residual.ensures.1 in
    let before = with_storage c.args.self.now w in
    rw (p.1, p.2) (block_unread (place_view c.args.place) before (λ (bytes : Vec ℕ). values_of (description_view c.args.place.description.now) bytes.items) before
    c.in_err-at.field-0.0 c.in_err-at.ensures)

pub index-requires : goal.index-requires
index-requires c =
    let inside = block_inside c.args.self.now.generations.items (place_view c.args.place) c.in_ok-at.at c.in_ok-at.ensures in
    omega (arith, inside)

pub read_block-requires : goal.read_block-requires
read_block-requires c =
    (block_here c.args.self.now.generations.items (place_view c.args.place) c.in_ok-at.at c.in_ok-at.ensures c.index.result.now c.index.ensures).part

pub returns-clause-held : goal.returns-clause-held
returns-clause-held c = λ w.
    block_read (place_view c.args.place) (with_storage c.args.self.now w) c.in_ok-at.at
    (block_here c.args.self.now.generations.items (place_view c.args.place) c.in_ok-at.at c.in_ok-at.ensures c.index.result.now c.index.ensures)
    (values_of (description_view c.args.place.description.now) c.in_ok-read_block.field-0.items) c.in_ok-read_block.ensures.held
