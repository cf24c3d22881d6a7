use Rattle.std.proofs.Common.{map, refl, ap, ◌∙◌}
use Rattle.std.specs.Prelude.{option_map}
use Rattle.std.proofs.lemmas.Option.{slice_get-map}
use Rattle.pli_code.specs.views.CodeView.{module_view, member_view}
use Rattle.pli_machine_activations.proofs.FoundInTables.{none_in_both}
use Rattle.pli_machine_activations.proofs.globals.unit_at.Goals as goal

pub returns-in_err-linked : goal.returns-in_err-linked
returns-in_err-linked c =
    let units = c.args.loaded.now.«module».now.units.items in
    rw c.from_residual.ensures (slice_get-map member_view units c.args.number ∙ ap (option_map member_view) c.in_err-linked.ensures)

pub returns-in_err-globals : goal.returns-in_err-globals
returns-in_err-globals c =
    let loaded = c.args.loaded.now in
    rw c.from_residual-in_err-globals.ensures
    (none_in_both _ _ (module_view loaded.«module».now).units (map (λ t. t.items) loaded.globals.items) c.args.number loaded.linked c.in_err-globals.ensures)

pub returns : goal.returns
returns c = (refl, refl)
