use Rattle.std.proofs.Common.{SFits, w64, rules}
use Rattle.std.proofs.lemmas.Int.{to_z-of_z}
use Rattle.pli_map.specs.views.DescriptionView.{description_view}
use Rattle.pli_value.specs.Value.{Number}
use Rattle.pli_machine_operate.specs.views.CalculationView.{immediate_view}
use Rattle.pli_machine_perform.proofs.OperationLemmas.{fits_newest}
use Rattle.pli_machine_perform.proofs.operate.operate_fit.Goals as goal

pub returns-in-Some : goal.returns-in-Some
returns-in-Some c =
    let fits : SFits w64 c.in-Some.number = search rules in
    fits_newest (immediate_view c.fit_number.result)
    c.args.operands.now.items c.pop_number.new.operands.items c.give_immediate.new.operands.items c.give_immediate.result
    (description_view c.args.description.now) (Number c.in-Some.number) c.in-Some.ensures.newest
    (rw (to_z-of_z w64 c.in-Some.number fits) at c.fit_number.ensures) c.give_immediate.ensures
