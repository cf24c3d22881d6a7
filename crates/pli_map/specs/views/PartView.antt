-- What paths and parts of the program say.
use Rattle.pli_map.specs.views.DescriptionView.{description_view}
use Rattle.pli_map.specs.Parts as parts
use Rattle.pli_map.specs.declared.parts.PlacedPart.{PlacedPart}
use Rattle.pli_map.specs.declared.parts.PathStep.{PathStep}
use Rattle.pli_map.specs.declared.parts.PathStep.TheVariants.{Member, Element}

-- a step
abbrev pub step_view : PathStep → parts.PathStep
step_view (Member number) = parts.Member number
step_view (Element subscripts) = parts.Element subscripts.items

-- a part, by what its description says
abbrev pub part_view : PlacedPart → parts.PlacedPart
part_view p = record { offset = p.offset; description = description_view p.description.now }
