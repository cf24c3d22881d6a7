-- The worked examples compute.
use Rattle.std.proofs.Common.{refl}
use Rattle.pli_declare.specs.Agreement.{set_agrees, is_missing}
use Rattle.pli_declare.specs.Types.{is_bad_precision, is_bad_length, scalar_of}
use Rattle.pli_declare.specs.Extents.{are_bad_bounds}
use Rattle.pli_declare.specs.Initials.{is_bad_initial}
use Rattle.pli_declare.specs.Faults.{is_bad_area, shape_fault, description_fault, own_fault, parameter_of, attributes_fault, item_fault}
use Rattle.pli_declare.specs.Completed.{variable_of, completed_of}
use Rattle.pli_declare_attributes.specs.examples.Examples.{Defaults, StorageClasses, Arrays, Structures, Entries, Asterisks, BadLengthStars, BadBoundStars, TypesConflict, StorageConflicts, OtherConflicts, Missing, BadNumbers, BadInitials, BadAreas, PartsOfEntries}

pub defaults : Defaults
unfolding set_agrees is_missing is_bad_precision is_bad_length scalar_of are_bad_bounds is_bad_initial is_bad_area shape_fault description_fault own_fault parameter_of attributes_fault item_fault variable_of completed_of
defaults = ((refl, refl), (refl, refl), (refl, refl), (refl, refl), (refl, refl))

pub storage_classes : StorageClasses
unfolding set_agrees is_missing is_bad_precision is_bad_length scalar_of are_bad_bounds is_bad_initial is_bad_area shape_fault description_fault own_fault parameter_of attributes_fault item_fault variable_of completed_of
storage_classes = ((refl, refl), (refl, refl), (refl, refl))

pub arrays : Arrays
unfolding set_agrees is_missing is_bad_precision is_bad_length scalar_of are_bad_bounds is_bad_initial is_bad_area shape_fault description_fault own_fault parameter_of attributes_fault item_fault variable_of completed_of
arrays = (refl, refl)

pub structures : Structures
unfolding set_agrees is_missing is_bad_precision is_bad_length scalar_of are_bad_bounds is_bad_initial is_bad_area shape_fault description_fault own_fault parameter_of attributes_fault item_fault variable_of completed_of
structures = (refl, refl)

pub entries : Entries
unfolding set_agrees is_missing is_bad_precision is_bad_length scalar_of are_bad_bounds is_bad_initial is_bad_area shape_fault description_fault own_fault parameter_of attributes_fault item_fault variable_of completed_of
entries = ((refl, refl), (refl, refl), (refl, refl))

pub asterisks : Asterisks
unfolding set_agrees is_missing is_bad_precision is_bad_length scalar_of are_bad_bounds is_bad_initial is_bad_area shape_fault description_fault own_fault parameter_of attributes_fault item_fault variable_of completed_of
asterisks = ((refl, refl), (refl, refl), (refl, refl), (refl, refl), (refl, refl), (refl, refl))

pub bad_length_stars : BadLengthStars
unfolding set_agrees is_missing is_bad_precision is_bad_length scalar_of are_bad_bounds is_bad_initial is_bad_area shape_fault description_fault own_fault parameter_of attributes_fault item_fault variable_of completed_of
bad_length_stars = (refl, refl, refl, refl)

pub bad_bound_stars : BadBoundStars
unfolding set_agrees is_missing is_bad_precision is_bad_length scalar_of are_bad_bounds is_bad_initial is_bad_area shape_fault description_fault own_fault parameter_of attributes_fault item_fault variable_of completed_of
bad_bound_stars = (refl, refl, refl)

pub types_conflict : TypesConflict
unfolding set_agrees is_missing is_bad_precision is_bad_length scalar_of are_bad_bounds is_bad_initial is_bad_area shape_fault description_fault own_fault parameter_of attributes_fault item_fault variable_of completed_of
types_conflict = (refl, refl, refl, refl, refl)

pub storage_conflicts : StorageConflicts
unfolding set_agrees is_missing is_bad_precision is_bad_length scalar_of are_bad_bounds is_bad_initial is_bad_area shape_fault description_fault own_fault parameter_of attributes_fault item_fault variable_of completed_of
storage_conflicts = (refl, refl, refl, refl, refl, refl)

pub other_conflicts : OtherConflicts
unfolding set_agrees is_missing is_bad_precision is_bad_length scalar_of are_bad_bounds is_bad_initial is_bad_area shape_fault description_fault own_fault parameter_of attributes_fault item_fault variable_of completed_of
other_conflicts = (refl, refl, refl, refl, refl, refl)

pub missing : Missing
unfolding set_agrees is_missing is_bad_precision is_bad_length scalar_of are_bad_bounds is_bad_initial is_bad_area shape_fault description_fault own_fault parameter_of attributes_fault item_fault variable_of completed_of
missing = (refl, refl, refl, refl, refl, refl)

pub bad_numbers : BadNumbers
unfolding set_agrees is_missing is_bad_precision is_bad_length scalar_of are_bad_bounds is_bad_initial is_bad_area shape_fault description_fault own_fault parameter_of attributes_fault item_fault variable_of completed_of
bad_numbers = (refl, refl, refl, refl, refl, refl)

pub bad_initials : BadInitials
unfolding set_agrees is_missing is_bad_precision is_bad_length scalar_of are_bad_bounds is_bad_initial is_bad_area shape_fault description_fault own_fault parameter_of attributes_fault item_fault variable_of completed_of
bad_initials = (refl, refl, refl, refl, refl)

pub bad_areas : BadAreas
unfolding set_agrees is_missing is_bad_precision is_bad_length scalar_of are_bad_bounds is_bad_initial is_bad_area shape_fault description_fault own_fault parameter_of attributes_fault item_fault variable_of completed_of
bad_areas = (refl, refl, refl, refl, refl)

pub parts_of_entries : PartsOfEntries
unfolding set_agrees is_missing is_bad_precision is_bad_length scalar_of are_bad_bounds is_bad_initial is_bad_area shape_fault description_fault own_fault parameter_of attributes_fault item_fault variable_of completed_of
parts_of_entries = (refl, refl, refl)
