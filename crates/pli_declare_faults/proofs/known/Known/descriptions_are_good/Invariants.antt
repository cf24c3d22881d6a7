use Rattle.std.proofs.Common.{◌≡◌, Bool, drop, map}
use Rattle.std.specs.List.{list_all}
use Rattle.pli_base.specs.Declarations.{ParameterDescription}
use Rattle.pli_base.specs.views.DeclarationView.{parameter_view}
use Rattle.pli_declare_outline.specs.views.OutlineView.{outline_view}
use Rattle.pli_declare.specs.Resolution.{described_is_good}
use Rattle.pli_declare_faults.proofs.known.Known.descriptions_are_good.Given as goal

abbrev pub invariant-loop-description : goal.invariant-loop-description
invariant-loop-description l =
    let good : ParameterDescription → Bool = λ d. list_all (described_is_good (outline_view l.self.scopes.outline.now) l.block) d.attributes in
    list_all good (map parameter_view (drop l.description-index l.descriptions)) ≡ list_all good (map parameter_view l.descriptions)
