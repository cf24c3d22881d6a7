use Rattle.std.proofs.Common.{ap, sym, ◌∙◌}
use Rattle.pli_declare_outline.specs.Outlines.{outline_of}
use Rattle.pli_declare_outline.specs.StatementPlaces.{unit_starts}
use Rattle.pli_resolve_unit.proofs.resolving.resolve_unit.Goals as goal

pub new-requires-clause-outline : goal.new-requires-clause-outline
new-requires-clause-outline c =
    let same = c.in_ok-declared.ensures.1 in
    record {
      outline_is = c.in_ok-outline.ensures.outline ∙ ap outline_of (sym same);
      starts_are = c.in_ok-outline.ensures.starts ∙ ap unit_starts (sym same);
    }
