use Rattle.std.proofs.Common.{map, sym, ◌∙◌}
use Rattle.pli_map.specs.views.DescriptionView.{description_view}
use Rattle.pli_store.specs.views.StorageView.{place_view, with_storage}
use Rattle.pli_type_tree.specs.Templates.{variable_of}
use Rattle.pli_type_tree.specs.views.TemplateView.{initial_view}
use Rattle.pli_machine_perform.proofs.AreaMoves.{no_block, located_answers}
use Rattle.pli_machine_perform.proofs.inhabiting.make_block.Goals as goal

pub returns-then-is_area-clause-answer : goal.returns-then-is_area-clause-answer
returns-then-is_area-clause-answer c = λ w.
    no_block (place_view c.args.area) (variable_of (record { description = description_view c.args.description.now; initial = map initial_view c.args.scalars.now }))
    (with_storage c.args.storage.now w) (sym c.is_area.ensures ∙ c.if-is_area.true)

pub returns-clause-answer : goal.returns-clause-answer
returns-clause-answer c = λ w.
    let v = variable_of (record { description = description_view c.args.description.now; initial = map initial_view c.args.scalars.now }) in
    let before = with_storage c.args.storage.now w in
    located_answers c.allocate_in.result before (with_storage c.allocate_in.new.storage w) (place_view c.args.area) v
    (sym c.is_area.ensures ∙ c.if-is_area.false) (c.allocate_in.ensures.answer w)
