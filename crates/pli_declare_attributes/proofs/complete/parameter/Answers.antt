use Rattle.std.proofs.Common.{◌≡◌, ◌∙◌, ap, map}
use Rattle.std.proofs.lemmas.Result.{IfOk-weaker}
use Rattle.pli_base.specs.views.DeclarationView.{described_view, parameter_view}
use Rattle.pli_declare.specs.Types.{number_of, has_star}
use Rattle.pli_declare.specs.Sets.{set_of}
use Rattle.pli_declare.specs.Faults.{parameter_place, parameter_of, type_taken}
use Rattle.pli_declare.proofs.ShapeLemmas.{description_sound, sound_alike}
use Rattle.pli_declare_attributes.proofs.complete.parameter.Goals as goal

pub type_taken-requires : goal.type_taken-requires
type_taken-requires c =
    let d = parameter_view c.args.description.now in
    let sound = description_sound parameter_place d.dimensions d.attributes c.requires in
    let set = c.of_description-summary.ensures.set ∙ ap (λ items. set_of (map described_view items)) c.as_slice.ensures.value in
    let number = c.of_description-summary.ensures.number ∙ ap (λ items. number_of (map described_view items)) c.as_slice.ensures.value in
    let here = sound_alike d.dimensions _ _ _ _ set number sound in
    record { precision = here.precision; length = here.length_of; bounds = rw c.as_slice-2.ensures.value here.bounds }

pub returns : goal.returns
unfolding parameter_of
returns c =
    let d = parameter_view c.args.description.now in
    let summary = c.of_description-summary.result in
    let set = c.of_description-summary.ensures.set ∙ ap (λ items. set_of (map described_view items)) c.as_slice.ensures.value in
    let number = c.of_description-summary.ensures.number ∙ ap (λ items. number_of (map described_view items)) c.as_slice.ensures.value in
    let star = c.of_description-summary.ensures.star ∙ ap (λ items. has_star (map described_view items)) c.as_slice.ensures.value in
    let whole : type_taken c.as_slice-2.result.now summary.set.0 summary.number summary.star ≡ parameter_of d =
    ap (λ ds. type_taken ds summary.set.0 summary.number summary.star) c.as_slice-2.ensures.value
    ∙ ap (λ s. type_taken d.dimensions s summary.number summary.star) set
    ∙ ap (λ n. type_taken d.dimensions (set_of d.attributes) n summary.star) number
    ∙ ap (type_taken d.dimensions (set_of d.attributes) (number_of d.attributes)) star in
    IfOk-weaker c.type_taken.result _ _ (λ made is. is ∙ whole) c.type_taken.ensures
