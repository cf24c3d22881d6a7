use Rattle.std.proofs.Common.{◌≡◌, drop, map}
use Rattle.pli_base.specs.views.DeclarationView.{attribute_view}
use Rattle.pli_declare.specs.Faults.{parameters_in}
use Rattle.pli_declare_attributes.proofs.parts.parameters_of.Given as goal

abbrev pub invariant-loop-attribute : goal.invariant-loop-attribute
invariant-loop-attribute l = parameters_in (map attribute_view (drop l.attribute-index l.attributes)) ≡ parameters_in (map attribute_view l.attributes)
