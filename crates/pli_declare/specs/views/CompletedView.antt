-- What completed attributes of the program say, apart from where they lie in memory, and what the functions
-- that complete answer.
use Rattle.std.specs.Prelude.{◌≡◌, List, Some, None, option_map, map, Result, Ok, Err}
use Rattle.pli_base.specs.declared.code.Code.{Code}
use Rattle.pli_base.specs.Declarations as tree
use Rattle.pli_map.specs.views.DescriptionView.{description_view}
use Rattle.pli_map.specs.views.ParameterView.{type_view}
use Rattle.pli_map.specs.declared.description.Description.{Description}
use Rattle.pli_declare.specs.Completed as complete
use Rattle.pli_declare.specs.Faults.{result_fault, described_scalar}
use Rattle.pli_declare.specs.declared.completed.Completed.{Completed}
use Rattle.pli_declare.specs.declared.completed.Completed.TheVariants as variants
use Rattle.pli_declare.specs.declared.completed.Variable.{Variable}

-- the attributes of a variable
abbrev pub variable_view : Variable → complete.Variable
variable_view v =
    record {
      description = option_map description_view v.description;
      bounds = v.bounds.items;
      taken = option_map type_view v.taken;
      storage = v.storage;
      scope = v.scope;
      initial = v.initial.now;
    }

-- what a name is, when its attributes are completed
abbrev pub completed_view : Completed → complete.Completed
completed_view (variants.Variable v) = complete.OfVariable (variable_view v)
completed_view (variants.Entry parameters result) =
    complete.OfEntry (map type_view parameters.items) (option_map description_view result)
completed_view variants.BuiltIn = complete.OfBuiltIn

-- the type of a result, or its least fault
abbrev pub IsResult : Result Description Code → List tree.DescribedAttribute → Type 0
IsResult (Ok d) attributes =
    (result_fault attributes ≡ None) × (description_view d ≡ described_scalar attributes)
IsResult (Err code) attributes = result_fault attributes ≡ Some code
