use Rattle.std.proofs.Common.{◌≡◌, true, Some, None, List, length, refl, sym, ap, subst, ◌∙◌, arith}
use Rattle.std.proofs.lemmas.Result.{err_from_is_err_and}
use Rattle.pli_area_blocks.specs.answers.Parts.{placed}
use Rattle.pli_area_blocks.proofs.Options.{said_of_err}
use Rattle.pli_bytes.specs.Contents.{values_of}
use Rattle.pli_world.specs.Areas.{place_in}
use Rattle.pli_map.specs.Scalars.{scalars_of}
use Rattle.pli_map.specs.Sizes.{size_of}
use Rattle.pli_map.specs.Values.{are_held}
use Rattle.pli_map.specs.views.DescriptionView.{description_view}
use Rattle.pli_value.specs.declared.locator.Locator.{Locator}
use Rattle.pli_value.specs.declared.locator.Locator.TheVariants.{Pointer}
use Rattle.pli_world.specs.Storage.{Block, Generation}
use Rattle.pli_world.specs.World.{Yields}
use Rattle.pli_store.specs.answers.Blocks.{BlocksChanged}
use Rattle.pli_store.specs.views.GenerationView.{generation_view}
use Rattle.pli_store.specs.views.StorageView.{place_view, with_storage}
use Rattle.pli_store.proofs.AreaAnswers.{allocated_full, allocated_placed, allocated_refused}
use Rattle.pli_store.proofs.ChangedBlocks.{area_described, area_here, area_inside, area_is, area_number, blocks_kept, blocks_said, nothing_said, placed_others}
use Rattle.pli_store.proofs.storage.Storage.allocate_copy_in.Goals as goal

pub returns-in_err-at-clause-answer : goal.returns-in_err-at-clause-answer
returns-in_err-at-clause-answer c = λ w vs begins.
    let p = err_from_is_err_and c.from_residual.result c.from_residual.ensures.1 in
    let d = description_view c.args.description.now in
    let fits : are_held (scalars_of d) vs ≡ true = begins.1 in
    let before = with_storage c.args.self.now w in
    rw (p.1, p.2) (allocated_refused (place_view c.args.area) before d vs fits {T = Locator} (λ l. l) before c.in_err-at.field-0.0 (c.in_err-at.ensures w))

pub index_mut-requires : goal.index_mut-requires
index_mut-requires c =
    let inside = area_inside c.args.self.now.generations.items (place_view c.args.area) c.in_ok-at.at c.in_ok-at.ensures in
    omega (arith, inside)

pub place_block-requires-clause-area : goal.place_block-requires-clause-area
place_block-requires-clause-area c =
    area_described c.args.self.now.generations.items (place_view c.args.area) c.in_ok-at.at c.in_ok-at.ensures c.index_mut.result.now c.index_mut.ensures.value

pub invariant_of-self : goal.invariant_of-self
invariant_of-self c =
    let items = c.args.self.now.generations.items in
    let d = description_view c.args.description.now in
    let g = c.index_mut.result.now in
    let here = area_here items (place_view c.args.area) c.in_ok-at.at c.in_ok-at.ensures g c.index_mut.ensures.value in
    let kept = blocks_kept items c.in_ok-at.at g c.place_block.new.generation here c.args.self.now.made c.args.self.now.rising
    (placed_others g c.place_block.new.generation c.place_block.result (λ position. placed position d (values_of d c.args.bytes.now)) c.place_block.ensures.blocks
    c.place_block.ensures.err) in
    record { counted = c.args.self.now.counted ∙ sym kept.counted; limited = c.args.self.now.limited; rising = kept.rising }

pub returns-in_err-placed-clause-err : goal.returns-in_err-placed-clause-err
returns-in_err-placed-clause-err c =
    let items = c.args.self.now.generations.items in
    let g = c.index_mut.result.now in
    let here = area_here items (place_view c.args.area) c.in_ok-at.at c.in_ok-at.ensures g c.index_mut.ensures.value in
    said_of_err c.from_residual-in_err-placed.result
    (record { storage = nothing_said items c.in_ok-at.at g c.place_block.new.generation here c.in_err-placed.ensures.err; made = refl })

pub returns-in-Some-clause-answer : goal.returns-in-Some-clause-answer
returns-in-Some-clause-answer c = λ w vs begins.
    let items = c.args.self.now.generations.items in
    let p = place_view c.args.area in
    let at = c.in_ok-at.at in
    let s = c.in_ok-at.ensures in
    let g = c.index_mut.result.now in
    let new = c.place_block.new.generation in
    let read = c.index_mut.ensures.value in
    let before = with_storage c.args.self.now w in
    let d = description_view c.args.description.now in
    let position = c.in-Some.position in
    let bytes = c.args.bytes.now in
    let held = begins in
    let sized : length c.args.bytes.now ≡ size_of d = c.requires in
    let fit : place_in (size_of s.generation.description) s.generation.blocks (size_of d) ≡ Some position =
    subst (λ (x : Generation). place_in (size_of x.description) x.blocks (size_of d) ≡ Some position) (sym (area_is items p at s g read))
    (ap (place_in (size_of (generation_view g).description) (generation_view g).blocks) (sym (sized)) ∙ sym c.in_ok-placed.ensures.position ∙ c.in-Some.is) in
    let change : List Block → List Block = placed (Some position) d vs in
    let changed : BlocksChanged g new change =
    subst (λ v. BlocksChanged g new (placed (Some position) d v)) held.0
    (subst (λ o. BlocksChanged g new (placed o d (values_of d bytes))) c.in-Some.is c.in_ok-placed.ensures.blocks) in
    allocated_placed p before d vs held.1 at s position fit
    ∙ ap (λ gs. Yields (Pointer p.generation position) (record before { storage = gs }))
    (sym (blocks_said items at g new (area_here items p at s g read) c.args.self.now.made c.args.self.now.rising change changed p.generation (area_number items p at s g read)))

pub returns-in-None-clause-answer : goal.returns-in-None-clause-answer
returns-in-None-clause-answer c = λ w vs begins.
    let items = c.args.self.now.generations.items in
    let p = place_view c.args.area in
    let at = c.in_ok-at.at in
    let s = c.in_ok-at.ensures in
    let g = c.index_mut.result.now in
    let d = description_view c.args.description.now in
    let held = begins in
    let sized : length c.args.bytes.now ≡ size_of d = c.requires in
    let full : place_in (size_of s.generation.description) s.generation.blocks (size_of d) ≡ None =
    subst (λ (x : Generation). place_in (size_of x.description) x.blocks (size_of d) ≡ None) (sym (area_is items p at s g c.index_mut.ensures.value))
    (ap (place_in (size_of (generation_view g).description) (generation_view g).blocks) (sym (sized)) ∙ sym c.in_ok-placed.ensures.position ∙ c.in-None.is) in
    allocated_full p (with_storage c.args.self.now w) d vs held.1 at s full

pub returns-in-None-clause-err : goal.returns-in-None-clause-err
returns-in-None-clause-err c =
    let items = c.args.self.now.generations.items in
    let g = c.index_mut.result.now in
    let d = description_view c.args.description.now in
    let here = area_here items (place_view c.args.area) c.in_ok-at.at c.in_ok-at.ensures g c.index_mut.ensures.value in
    let changed = subst (λ o. BlocksChanged g c.place_block.new.generation (placed o d (values_of d c.args.bytes.now))) c.in-None.is c.in_ok-placed.ensures.blocks in
    record { storage = nothing_said items c.in_ok-at.at g c.place_block.new.generation here changed.says; made = refl }
