use Rattle.std.proofs.Common.{◌≡◌, [], vec_len, sym, ap, ◌∙◌, arith}
use Rattle.std.proofs.lemmas.List.{nil_from_length}
use Rattle.std.proofs.lemmas.Bool.{eqb-true}
use Rattle.pli_base.specs.views.StatementView.{unit_view}
use Rattle.pli_declare_outline.specs.Outlines.{Outline}
use Rattle.pli_declare_outline.specs.views.OutlineView.{outline_view}
use Rattle.pli_declare.specs.Resolution.{outline_faults, resolution_faults}
use Rattle.pli_declare_faults.proofs.MarksInBlocks.{in_blocks}
use Rattle.pli_declare_faults.proofs.resolving.resolve_told.Goals as goal

pub invariant_of-scopes-clause-placed : goal.invariant_of-scopes-clause-placed
invariant_of-scopes-clause-placed c = in_blocks (unit_view c.args.unit.now) (outline_view c.args.outline.now) c.requires.outlined

pub returns : goal.returns
unfolding resolution_faults
returns c =
    let v = c.in_ok-told.told.faults in
    let none : v.items ≡ [] = nil_from_length v.items (omega (arith, v.ok.0, eqb-true (vec_len v) 0 (sym c.is_empty.ensures ∙ c.if-not-is_empty.false))) in (
      ap (λ (o : Outline). outline_faults o o.marks) (sym c.requires.outlined) ∙ sym c.in_ok-told.ensures.faults ∙ none,
      ap unit_view c.in_ok-resolved.ensures,
    )
