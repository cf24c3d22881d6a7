use Rattle.std.proofs.Common.{◌≡◌, map, slice_get, refl, ap, ◌∙◌}
use Rattle.pli_base.specs.views.StatementView.{unit_view}
use Rattle.pli_declare.specs.ResolvedUnits.{resolved_unit_of}
use Rattle.pli_type_rules.specs.NamedUnits.{parameters_of, returned_of}
use Rattle.pli_type_names.specs.BlockEntries.{parameters_in, returned_in}
use Rattle.pli_type_names.specs.UnitNaming.{naming_in, procedure_in}
use Rattle.pli_type_names.specs.views.EntryView.{entry_view}
use Rattle.pli_type_names.proofs.AnswersSay.{parameters_found, returned_found}
use Rattle.pli_type_names.proofs.naming.Naming.procedure.Goals as goal

pub returns : goal.returns
unfolding procedure_in naming_in
returns c =
    let b = c.args.block in
    let same : c.self.inside.resolved.now ≡ c.args.self.now.unit = ap (λ n. n.unit) c.self.view_is in
    let r = resolved_unit_of (unit_view c.self.inside.resolved.now) in
    let found = c.self.invariant.1.found b in
    let o = slice_get (map entry_view c.self.inside.entries.items) b in
    record {
      callee = refl;
      parameters = c.parameters_at.ensures
          ∙ ap (λ es. parameters_in (slice_get (map entry_view es) b)) c.deref.ensures.value
          ∙ parameters_found r b o found
          ∙ ap (λ u. parameters_of (resolved_unit_of (unit_view u)) b) same;
      returned = c.returned_at.ensures
          ∙ ap (λ es. returned_in (slice_get (map entry_view es) b)) c.deref-3.ensures.value
          ∙ returned_found r b o found
          ∙ ap (λ u. returned_of (resolved_unit_of (unit_view u)) b) same;
      area = c.returned_area.ensures;
    }
