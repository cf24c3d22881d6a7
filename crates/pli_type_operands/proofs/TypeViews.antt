-- Types of parameters, as the program has them and as definitions do.
use Rattle.std.proofs.Common.{◌≡◌, Result, Ok, Err, IfOk, sym, ap, ◌∙◌}
use Rattle.pli_map.specs.Description.{Description}
use Rattle.pli_map.specs.declared.description.Description as described
use Rattle.pli_map.specs.declared.parameter.ParameterType as program
use Rattle.pli_map.specs.declared.parameter.ParameterType.TheFolds as folds
use Rattle.pli_map.specs.declared.parameter.ParameterType.TheVariants as made
use Rattle.pli_map.specs.declared.parameter.StringForm.{StringForm}
use Rattle.pli_map.specs.views.DescriptionView.{description_view}
use Rattle.pli_map.specs.views.ParameterView.{level_view, type_view}
use Rattle.pli_map.specs.ParameterTypes.{ParameterType, Stated, AnyString}

-- what types of the program say
pub stated_view : (t : program.ParameterType) (d : described.Description) → t ≡ made.Stated d → type_view t ≡ Stated (description_view d)
stated_view t d e = ap type_view (e ∙ sym (made.rolls-Stated d))
    ∙ folds.fold-roll-ParameterType ParameterType level_view (program.ParameterType-F.Stated d)

pub string_view : (t : program.ParameterType) (form : StringForm) → t ≡ made.AnyString form → type_view t ≡ AnyString form
string_view t form e = ap type_view (e ∙ sym (made.rolls-AnyString form))
    ∙ folds.fold-roll-ParameterType ParameterType level_view (program.ParameterType-F.AnyString form)

-- what is so of every limit is so of one
pub at_one : {X E : Type 0} {G : Type 0} (P : G → X → Type 0) (r : Result X E) (g : G) → IfOk r (λ x. (g : G) → P g x) → IfOk r (P g)
at_one P (Ok x) g h = h g
at_one P (Err e) g h = tt
