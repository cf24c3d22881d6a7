use Rattle.std.proofs.Common.{◌≡◌, drop, map}
use Rattle.pli_base.specs.views.DeclarationView.{attribute_view}
use Rattle.pli_declare.specs.Faults.{returned_in}
use Rattle.pli_declare_attributes.proofs.parts.returned_of.Given as goal

abbrev pub invariant-loop-attribute : goal.invariant-loop-attribute
invariant-loop-attribute l = returned_in (map attribute_view (drop l.attribute-index l.attributes)) ≡ returned_in (map attribute_view l.attributes)
