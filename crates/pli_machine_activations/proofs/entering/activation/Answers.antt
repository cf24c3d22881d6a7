use Rattle.std.proofs.Common.{ℕ, List, ap, map, ◌∙◌}
use Rattle.pli_world.specs.Activations as pli
use Rattle.pli_store.specs.views.StorageView.{place_view}
use Rattle.pli_machine_activations.proofs.entering.activation.Goals as goal

pub returns-clause-activation : goal.returns-clause-activation
returns-clause-activation c =
    let made : List ℕ → pli.OnUnits → pli.Activation =
    λ ns units. record {
      unit = c.args.unit;
      block = c.args.number;
      statement = c.args.block.now.statement;
      link = c.args.link;
      slots = map place_view c.args.lists.slots.items;
      pending = ns;
      owned = c.args.lists.room.value.owned.items;
      on_units = units;
    } in
    ap (made c.args.lists.room.value.pending.items) c.no_on_units.ensures ∙ ap (λ ns. made ns pli.no_on_unit) c.requires
