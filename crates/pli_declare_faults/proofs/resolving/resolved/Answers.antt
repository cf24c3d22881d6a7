use Rattle.std.proofs.Common.{◌≡◌, List, ap, ◌∙◌}
use Rattle.pli_base.specs.views.StatementView.{unit_view}
use Rattle.pli_declare_outline.specs.views.OutlineView.{outline_view, regions_view}
use Rattle.pli_declare.specs.Resolved as plain
use Rattle.pli_declare.specs.Resolved.{resolution_of, resolved_of, meaning_at}
use Rattle.pli_declare.specs.declared.block.Use.{Use}
use Rattle.pli_declare_faults.proofs.resolving.resolved.Goals as goal

pub new-requires : goal.new-requires
unfolding resolved_of
new-requires c =
    let u = unit_view c.args.unit.now in
    let o = outline_view c.args.scopes.now.outline.now in
    let same : resolution_of o ≡ resolved_of u = ap resolution_of c.requires.outlined in
    record {
      regions_are = ap regions_view (c.in_ok-regions.ensures.items ∙ c.deref.ensures.value) ∙ ap (λ (r : plain.Resolved). r.regions) same;
      outermost_is = c.in_ok-outermost.ensures ∙ ap (λ (r : plain.Resolved). r.outermost) same;
      blocks_are = c.in_ok-blocks.ensures ∙ ap (λ (r : plain.Resolved). r.blocks) same;
      meanings_are = λ at. c.in_ok-meanings.ensures.uses at
          ∙ ap (λ (us : List Use). meaning_at us at) (c.requires.uses ∙ ap (λ (r : plain.Resolved). r.uses) same);
      areas_are = λ at. c.in_ok-meanings.ensures.areas at
          ∙ ap (λ (us : List Use). meaning_at us at) (c.requires.areas ∙ ap (λ (r : plain.Resolved). r.areas) same);
      locators_are = λ at. c.in_ok-meanings.ensures.locators at
          ∙ ap (λ (us : List Use). meaning_at us at) (c.requires.locators ∙ ap (λ (r : plain.Resolved). r.locators) same);
    }
