use Rattle.std.proofs.Common.{◌≡◌, drop}
use Rattle.std.specs.List.{list_all}
use Rattle.pli_map.specs.views.DescriptionView.{description_view}
use Rattle.pli_declare.specs.Initials.{fits}
use Rattle.pli_declare_attributes.proofs.initials.all_fit.Given as goal

abbrev pub invariant-loop-value : goal.invariant-loop-value
invariant-loop-value l = list_all (fits (description_view l.description)) (drop l.value-index l.values) ≡ list_all (fits (description_view l.description)) l.values
