-- The worked examples of extents hold by computing.
use Rattle.std.specs.Prelude.{refl}
use Rattle.std.specs.Fmt.{digits}
use Rattle.pli_operation.specs.Operations.{calculated}
use Rattle.pli_world.specs.World.{nothing, made_of, parts_held, parts_stored, held, stored, entered, left_by, at_statement, stepped, height_of, slot_place, dummy_of, printed, error_at}
use Rattle.pli_world.specs.Strings.{string_dummy_of, subscripted_by, bound_of_place, string_as}
use Rattle.pli_meaning_tree.specs.examples.ExtentExamples as example

pub string_is_handed : example.StringIsHanded
unfolding calculated nothing made_of parts_held parts_stored held stored entered left_by at_statement stepped height_of slot_place dummy_of string_dummy_of subscripted_by bound_of_place string_as printed error_at digits
string_is_handed = refl

pub nothing_is_handed : example.NothingIsHanded
unfolding calculated nothing made_of parts_held parts_stored held stored entered left_by at_statement stepped height_of slot_place dummy_of string_dummy_of subscripted_by bound_of_place string_as printed error_at digits
nothing_is_handed = (refl, refl)

pub string_is_fitted : example.StringIsFitted
unfolding calculated nothing made_of parts_held parts_stored held stored entered left_by at_statement stepped height_of slot_place dummy_of string_dummy_of subscripted_by bound_of_place string_as printed error_at digits
string_is_fitted = refl

pub bounds_are_arguments : example.BoundsAreArguments
unfolding calculated nothing made_of parts_held parts_stored held stored entered left_by at_statement stepped height_of slot_place dummy_of string_dummy_of subscripted_by bound_of_place string_as printed error_at digits
bounds_are_arguments = refl

pub control_is_fitted : example.ControlIsFitted
unfolding calculated nothing made_of parts_held parts_stored held stored entered left_by at_statement stepped height_of slot_place dummy_of string_dummy_of subscripted_by bound_of_place string_as printed error_at digits
control_is_fitted = refl
