use Rattle.std.proofs.Common.{Some, sym, ap, ◌∙◌}
use Rattle.pli_machine_activations.proofs.FoundInTables.{found, none_found}
use Rattle.pli_machine_activations.proofs.numbered.table_at.Goals as goal

pub returns-in-Some : goal.returns-in-Some
returns-in-Some c =
    let h = c.in-Some.ensures.lookup in
    found (λ t. t.items) c.args.loaded.now.globals.items c.deref.result.now c.deref.ensures.value c.args.number c.in-Some.table.now h.3.0 h.1
    ∙ ap Some (sym c.deref-in-Some.ensures.value)

pub returns-in-None : goal.returns-in-None
returns-in-None c =
    none_found (λ t. t.items) c.args.loaded.now.globals.items c.deref.result.now c.deref.ensures.value c.args.number c.in-None.ensures.lookup.3
