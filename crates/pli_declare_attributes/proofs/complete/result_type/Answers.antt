use Rattle.std.proofs.Common.{[], map}
use Rattle.pli_base.specs.views.DeclarationView.{described_view}
use Rattle.pli_declare.specs.Faults.{result_place}
use Rattle.pli_declare.proofs.ShapeLemmas.{description_sound, sound_alike}
use Rattle.pli_declare_attributes.proofs.complete.result_type.Goals as goal

pub scalar-requires : goal.scalar-requires
scalar-requires c =
    let attributes = map described_view c.args.attributes.now in
    let sound = sound_alike [] _ _ _ _ c.of_description.ensures.set c.of_description.ensures.number (description_sound result_place [] attributes c.requires) in
    record { precision = sound.precision; length = sound.length_of }
