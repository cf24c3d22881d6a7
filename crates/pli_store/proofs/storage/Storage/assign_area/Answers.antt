use Rattle.std.proofs.Common.{◌≡◌, ◌≤◌, ◌<◌, sym, ap, ◌∙◌, subst, arith}
use Rattle.std.proofs.lemmas.Option.{MatchOption-at_none, MatchOption-at_some}
use Rattle.std.proofs.lemmas.Result.{err_from_is_err_and}
use Rattle.pli_area_blocks.specs.views.AreaBlocksView.{blocks_view}
use Rattle.pli_world.specs.Areas.{end_of_blocks}
use Rattle.pli_map.specs.Sizes.{size_of}
use Rattle.pli_map.specs.views.DescriptionView.{description_view}
use Rattle.pli_world.specs.Storage.{Generation}
use Rattle.pli_world.specs.World.{Yields}
use Rattle.pli_store.specs.answers.Blocks.{TakesOver}
use Rattle.pli_store.specs.views.GenerationView.{generation_view}
use Rattle.pli_store.specs.views.StorageView.{place_view, storage_view, with_storage}
use Rattle.pli_store.proofs.AreaAnswers.{assigned_from_none, assigned_to_none, assigned_there, assigned_full}
use Rattle.pli_store.proofs.ChangedBlocks.{area_described, area_here, area_inside, area_is, area_number, blocks_kept, blocks_said, other_blocks, nothing_there, others_of}
use Rattle.pli_store.proofs.RisingNumbers.{size_at}
use Rattle.pli_store.proofs.Searches.{stands_in_view}
use Rattle.pli_store.proofs.storage.Storage.assign_area.Goals as goal

pub returns-in_err-from-clause-answer : goal.returns-in_err-from-clause-answer
returns-in_err-from-clause-answer c = λ w.
    let p = err_from_is_err_and c.from_residual.result c.from_residual.ensures.1 in
    let before = with_storage c.args.self.now w in
    rw (p.1, p.2) (assigned_from_none (place_view c.args.source) (place_view c.args.target) before {T = Unit {0}} (λ x. tt) before c.in_err-from.field-0.0 (c.in_err-from.ensures w))

pub returns-in_err-to-clause-answer : goal.returns-in_err-to-clause-answer
returns-in_err-to-clause-answer c = λ w.
    let p = err_from_is_err_and c.from_residual-in_err-to.result c.from_residual-in_err-to.ensures.1 in
    let before = with_storage c.args.self.now w in
    rw (p.1, p.2) (assigned_to_none (place_view c.args.source) (place_view c.args.target) before c.in_ok-from.from c.in_ok-from.ensures {T = Unit {0}} (λ x. tt) before
    c.in_err-to.field-0.0 (c.in_err-to.ensures w))

pub index-requires : goal.index-requires
index-requires c =
    let inside = area_inside c.args.self.now.generations.items (place_view c.args.target) c.in_ok-to.to c.in_ok-to.ensures in
    omega (arith, inside)

pub index-requires-2 : goal.index-requires-2
index-requires-2 c =
    let inside = area_inside c.args.self.now.generations.items (place_view c.args.source) c.in_ok-from.from c.in_ok-from.ensures in
    omega (arith, inside)

pub area_with-requires-clause-area : goal.area_with-requires-clause-area
area_with-requires-clause-area c =
    area_described c.args.self.now.generations.items (place_view c.args.target) c.in_ok-to.to c.in_ok-to.ensures c.index.result.now c.index.ensures

pub area_with-requires-clause-size : goal.area_with-requires-clause-size
area_with-requires-clause-size c =
    let items = c.args.self.now.generations.items in
    let g = c.index.result.now in
    let here = area_here items (place_view c.args.target) c.in_ok-to.to c.in_ok-to.ensures g c.index.ensures in
    let lives = size_at (storage_view c.args.self.now) c.in_ok-to.to (generation_view g) (stands_in_view items c.in_ok-to.to g here) in
    omega (arith, lives, c.args.self.now.counted, c.args.self.now.limited)

pub area_with-requires-clause-source : goal.area_with-requires-clause-source
area_with-requires-clause-source c =
    area_described c.args.self.now.generations.items (place_view c.args.source) c.in_ok-from.from c.in_ok-from.ensures c.index-2.result.now c.index-2.ensures

pub returns-in_default-clause-answer : goal.returns-in_default-clause-answer
returns-in_default-clause-answer c = λ w.
    let items = c.args.self.now.generations.items in
    let p = place_view c.args.source in
    let q = place_view c.args.target in
    let s = c.in_ok-from.ensures in
    let t = c.in_ok-to.ensures in
    let from = c.index-2.result.now in
    let over : size_of (description_view c.index.result.now.description.now) < end_of_blocks (generation_view from).blocks =
    MatchOption-at_none _ _ (nothing_there c.in_ok-area.field-0 c.in_default.not-Some) c.in_ok-area.ensures in
    assigned_full p q (with_storage c.args.self.now w) c.in_ok-from.from s c.in_ok-to.to t
    (subst (λ (x : Generation). size_of x.description < end_of_blocks s.generation.blocks) (sym (area_is items q c.in_ok-to.to t c.index.result.now c.index.ensures))
    (subst (λ (x : Generation). size_of (description_view c.index.result.now.description.now) < end_of_blocks x.blocks)
    (sym (area_is items p c.in_ok-from.from s from c.index-2.ensures)) over))

pub index_mut-requires : goal.index_mut-requires
index_mut-requires c =
    let inside = area_inside c.args.self.now.generations.items (place_view c.args.target) c.in_ok-to.to c.in_ok-to.ensures in
    omega (arith, inside)

pub put_area-requires-clause-area : goal.put_area-requires-clause-area
put_area-requires-clause-area c =
    area_described c.args.self.now.generations.items (place_view c.args.target) c.in_ok-to.to c.in_ok-to.ensures c.index_mut.result.now c.index_mut.ensures.value

pub put_area-requires-clause-room : goal.put_area-requires-clause-room
put_area-requires-clause-room c =
    let items = c.args.self.now.generations.items in
    let q = place_view c.args.target in
    let t = c.in_ok-to.ensures in
    (MatchOption-at_some _ _ c.in-Some.area c.in-Some.is c.in_ok-area.ensures).room
    ∙ ap (λ (x : Generation). size_of x.description)
    (sym (area_is items q c.in_ok-to.to t c.index.result.now c.index.ensures) ∙ area_is items q c.in_ok-to.to t c.index_mut.result.now c.index_mut.ensures.value)

pub invariant_of-self : goal.invariant_of-self
invariant_of-self c =
    let items = c.args.self.now.generations.items in
    let h = c.index_mut.result.now in
    let here = area_here items (place_view c.args.target) c.in_ok-to.to c.in_ok-to.ensures h c.index_mut.ensures.value in
    let kept = blocks_kept items c.in_ok-to.to h c.put_area.new.generation here c.args.self.now.made c.args.self.now.rising
    (others_of h c.put_area.new.generation (λ bs. blocks_view c.in-Some.area.value) c.put_area.ensures) in
    record { counted = c.args.self.now.counted ∙ sym kept.counted; limited = c.args.self.now.limited; rising = kept.rising }

pub returns-clause-answer : goal.returns-clause-answer
returns-clause-answer c = λ w.
    let items = c.args.self.now.generations.items in
    let p = place_view c.args.source in
    let q = place_view c.args.target in
    let s = c.in_ok-from.ensures in
    let t = c.in_ok-to.ensures in
    let from = c.index-2.result.now in
    let d = description_view c.index.result.now.description.now in
    let h = c.index_mut.result.now in
    let read = c.index_mut.ensures.value in
    let before = with_storage c.args.self.now w in
    let took : TakesOver (size_of d) (generation_view from).blocks c.in-Some.area = MatchOption-at_some _ _ c.in-Some.area c.in-Some.is c.in_ok-area.ensures in
    let source : s.generation ≡ generation_view from = area_is items p c.in_ok-from.from s from c.index-2.ensures in
    let fits : end_of_blocks s.generation.blocks ≤ size_of t.generation.description =
    subst (λ (x : Generation). end_of_blocks x.blocks ≤ size_of t.generation.description) (sym source)
    (subst (λ (x : Generation). end_of_blocks (generation_view from).blocks ≤ size_of x.description)
    (sym (area_is items q c.in_ok-to.to t c.index.result.now c.index.ensures)) took.fits) in
    let same : blocks_view c.in-Some.area.value ≡ s.generation.blocks = took.blocks ∙ sym (ap (λ (x : Generation). x.blocks) source) in
    assigned_there p q before c.in_ok-from.from s c.in_ok-to.to t fits
    ∙ ap (λ gs. Yields tt (record before { storage = gs }))
    (sym (blocks_said items c.in_ok-to.to h c.put_area.new.generation (area_here items q c.in_ok-to.to t h read) c.args.self.now.made c.args.self.now.rising (λ bs. s.generation.blocks)
    (other_blocks h c.put_area.new.generation (blocks_view c.in-Some.area.value) s.generation.blocks c.put_area.ensures same) q.generation
    (area_number items q c.in_ok-to.to t h read)))
