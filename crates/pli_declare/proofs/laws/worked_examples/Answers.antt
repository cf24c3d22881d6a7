use Rattle.std.proofs.Common.{refl}
use Rattle.pli_declare.specs.Agreement.{set_agrees, is_missing}
use Rattle.pli_declare.specs.Types.{is_bad_precision, is_bad_length, scalar_of}
use Rattle.pli_declare.specs.Extents.{are_bad_bounds}
use Rattle.pli_declare.specs.Places.{is_built_in}
use Rattle.pli_declare.specs.Initials.{is_bad_initial}
use Rattle.pli_declare.specs.Faults.{is_bad_area, shape_fault, description_fault, own_fault, parameter_of, attributes_fault, item_fault}
use Rattle.pli_declare.proofs.laws.worked_examples.Goals as goal

-- each by computing it
pub returns : goal.returns
unfolding set_agrees is_missing is_bad_precision is_bad_length scalar_of are_bad_bounds is_bad_initial
    is_bad_area is_built_in shape_fault description_fault own_fault parameter_of attributes_fault item_fault
returns c = record {
  of_one_name = (refl, refl, refl, refl);
  of_items = (refl, refl, refl);
  two_members = refl;
  undeclared_names = refl;
  groups = (refl, refl);
  units = (refl, refl);
  blocks = refl;
  locators = refl;
  parameters = refl;
}
