use Rattle.pli_base.specs.views.DeclarationView.{item_view}
use Rattle.pli_declare.proofs.ShapeLemmas.{own_sound, bounds_good, sound_alike}
use Rattle.pli_declare_attributes.proofs.complete.variable.Goals as goal

pub all_described-requires : goal.all_described-requires
all_described-requires c =
    let i = item_view c.args.facts.now.item.now in
    rw c.as_slice-dimensions.ensures.value (bounds_good i.dimensions (own_sound c.args.place i c.requires).bounds)

pub open_type-requires : goal.open_type-requires
open_type-requires c =
    let facts = c.args.facts.now in
    let i = item_view facts.item.now in
    let here = sound_alike i.dimensions _ _ _ _ facts.is_set facts.is_number (own_sound c.args.place i c.requires) in
    record { precision = here.precision; length = here.length_of; bounds = rw c.as_slice-dimensions.ensures.value here.bounds }

pub scalar-requires : goal.scalar-requires
scalar-requires c =
    let facts = c.args.facts.now in
    let i = item_view facts.item.now in
    let here = sound_alike i.dimensions _ _ _ _ facts.is_set facts.is_number (own_sound c.args.place i c.requires) in
    record { precision = here.precision; length = here.length_of }
