use Rattle.std.proofs.Common.{◌++◌, sym, ap, ◌∙◌}
use Rattle.pli_base.specs.declared.syntax.Identifier.{Identifier}
use Rattle.pli_base.specs.declared.statement.Procedure.{out-Procedure}
use Rattle.pli_base.specs.views.StatementView.{unit_view}
use Rattle.pli_declare_outline.specs.views.OutlineView.{outline_view, mark_view}
use Rattle.pli_declare.specs.AttributeNames.{area_in}
use Rattle.pli_declare.specs.Resolved.{areas_at, named_at}
use Rattle.pli_declare_faults.specs.answers.Targets.{target_uses}
use Rattle.pli_declare_faults.proofs.AttributesMet.{first_area, first_means, heading_simple}
use Rattle.pli_declare_faults.proofs.HeadingLemmas.{name_out}
use Rattle.pli_declare_faults.proofs.known.Known.append_mark.Goals as goal

pub returns-in_ok-add_use-in-Entered-clause-areas : goal.returns-in_ok-add_use-in-Entered-clause-areas
returns-in_ok-add_use-in-Entered-clause-areas c =
    let o = outline_view c.args.self.now.scopes.outline.now in
    let b = c.args.block in
    let before = c.args.areas.now.items in
    let heading = (unit_view c.in-Entered.procedure.now).heading in
    let met = c.meet_returned-met in
    let names = area_in (heading_simple heading) in
    let name = (out-Procedure c.in-Entered.procedure.now).name in
    c.in_ok-add_use-in-Entered.ensures
    ∙ ap (λ t. before ++ target_uses name.at t) c.target_of.ensures
    ∙ ap (λ us. before ++ us) (first_means o b met.result.area names (first_area o b met.result _ _ met.ensures) name.at)
    ∙ ap (λ (i : Identifier). before ++ named_at o b names i) (sym (name_out c.in-Entered.procedure.now))
    ∙ ap (λ m. before ++ areas_at o b (mark_view m)) (sym c.in-Entered.is)
