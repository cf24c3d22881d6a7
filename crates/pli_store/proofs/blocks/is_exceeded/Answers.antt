use Rattle.std.proofs.Common.{◌≡◌, sym, ap, ◌∙◌}
use Rattle.pli_area_blocks.specs.views.AreaBlocksView.{blocks_view, capacity_of}
use Rattle.pli_map.specs.Sizes.{size_of}
use Rattle.pli_map.specs.views.DescriptionView.{description_view}
use Rattle.pli_world.specs.Areas.{place_in}
use Rattle.pli_store.specs.answers.Inhabited.{blocks_in, capacity_in}
use Rattle.pli_store.proofs.blocks.is_exceeded.Goals as goal

pub returns-in-Some : goal.returns-in-Some
returns-in-Some c = λ exceeded more above.
    let g = c.args.generation.now in
    let area = c.in-Some.area.value in
    let capacity : capacity_of area ≡ size_of (description_view g.description.now) = sym (ap capacity_in c.in-Some.is) ∙ g.roomy c.requires in
    ap (λ o. place_in (size_of (description_view g.description.now)) (blocks_in o) more) c.in-Some.is
    ∙ ap (λ n. place_in n (blocks_view area) more) (sym capacity)
    ∙ ap (λ a. place_in (capacity_of a) (blocks_view a) more) (sym c.deref.ensures)
    ∙ c.is_exceeded.ensures exceeded more above
