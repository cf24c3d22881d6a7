use Rattle.std.proofs.Common.{◌≡◌, drop, map}
use Rattle.std.specs.List.{list_all}
use Rattle.pli_base.specs.views.DeclarationView.{described_view}
use Rattle.pli_declare.specs.Resolution.{names_nothing}
use Rattle.pli_declare_faults.proofs.heading.name_nothing.Given as goal

abbrev pub invariant-loop-attribute : goal.invariant-loop-attribute
invariant-loop-attribute l = list_all names_nothing (map described_view (drop l.attribute-index l.attributes)) ≡ list_all names_nothing (map described_view l.attributes)
