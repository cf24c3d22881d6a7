-- The worked examples of resolved units compute.
use Rattle.std.proofs.Common.{refl}
use Rattle.pli_declare.specs.Agreement.{set_agrees, is_missing}
use Rattle.pli_declare.specs.Types.{is_bad_precision, is_bad_length, scalar_of}
use Rattle.pli_declare.specs.Extents.{are_bad_bounds}
use Rattle.pli_declare.specs.Initials.{is_bad_initial}
use Rattle.pli_declare.specs.Faults.{is_bad_area, shape_fault, description_fault, own_fault, parameter_of, attributes_fault, item_fault}
use Rattle.pli_declare.specs.Completed.{variable_of, completed_of}
use Rattle.pli_declare.specs.Places.{is_built_in}
use Rattle.pli_declare_outline.specs.Outlines.{outline_of}
use Rattle.pli_declare.specs.Resolution.{resolution_faults}
use Rattle.pli_declare.specs.Resolved.{resolved_of}
use Rattle.pli_declare.specs.examples.ResolvedExamples.{OneVariable, Hiding, Jump, Located, Areas, OfMembers}

pub one_variable : OneVariable
unfolding set_agrees is_missing is_bad_precision is_bad_length scalar_of are_bad_bounds is_bad_initial is_bad_area is_built_in shape_fault description_fault own_fault parameter_of attributes_fault item_fault variable_of completed_of outline_of resolved_of resolution_faults
one_variable = (refl, refl, refl, refl, refl)

pub hiding : Hiding
unfolding set_agrees is_missing is_bad_precision is_bad_length scalar_of are_bad_bounds is_bad_initial is_bad_area is_built_in shape_fault description_fault own_fault parameter_of attributes_fault item_fault variable_of completed_of
hiding = (refl, refl)

pub jump : Jump
unfolding set_agrees is_missing is_bad_precision is_bad_length scalar_of are_bad_bounds is_bad_initial is_bad_area is_built_in shape_fault description_fault own_fault parameter_of attributes_fault item_fault variable_of completed_of
jump = (refl, refl, refl)

pub located : Located
unfolding set_agrees is_missing is_bad_precision is_bad_length scalar_of are_bad_bounds is_bad_initial is_bad_area is_built_in shape_fault description_fault own_fault parameter_of attributes_fault item_fault variable_of completed_of
located = (refl, refl, refl, refl)

pub areas : Areas
unfolding set_agrees is_missing is_bad_precision is_bad_length scalar_of are_bad_bounds is_bad_initial is_bad_area is_built_in shape_fault description_fault own_fault parameter_of attributes_fault item_fault variable_of completed_of
areas = (refl, refl, refl, refl)

pub of_members : OfMembers
unfolding set_agrees is_missing is_bad_precision is_bad_length scalar_of are_bad_bounds is_bad_initial is_bad_area is_built_in shape_fault description_fault own_fault parameter_of attributes_fault item_fault variable_of completed_of
of_members = (refl, refl, refl)
