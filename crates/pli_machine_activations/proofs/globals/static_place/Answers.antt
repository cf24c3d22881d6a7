use Rattle.std.proofs.Common.{map, sym, ap, ◌∙◌}
use Rattle.pli_machine_activations.specs.views.TableView.{lying_at}
use Rattle.pli_machine_activations.proofs.StaticPlaces.{own_table}
use Rattle.pli_machine_activations.proofs.globals.static_place.Goals as goal

pub returns : goal.returns
returns c =
    let u = c.args.unit.now in
    ap lying_at (own_table u.number c.args.number u.globals.now (map (λ t. t.items) u.loaded.now.globals.items) u.table) ∙ sym c.place_at.ensures
