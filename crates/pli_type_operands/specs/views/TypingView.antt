-- What references and expressions with their types say, apart from where they lie in memory.
use Rattle.pli_map.specs.views.ParameterView.{type_seen}
use Rattle.pli_type_rules.specs.FunctionCalls as calls
use Rattle.pli_type_rules.specs.References as references
use Rattle.pli_type.specs.views.ValueView.{value_view}
use Rattle.pli_type_tree.specs.views.TypedView.{reference_view}
use Rattle.pli_type_operands.specs.declared.argument.Argument.{Argument}
use Rattle.pli_type_operands.specs.declared.meaning.Denoted.{Denoted}
use Rattle.pli_type_operands.specs.declared.meaning.Denoted.TheVariants as denoted
use Rattle.pli_type_operands.specs.declared.meaning.ExpressionMeaning.{ExpressionMeaning}
use Rattle.pli_type_operands.specs.declared.meaning.ExpressionMeaning.TheVariants as meant
use Rattle.pli_type_operands.specs.declared.meaning.Referent.{Referent}
use Rattle.pli_type_operands.specs.declared.role.Role.{Role}
use Rattle.pli_type_operands.specs.declared.role.Role.TheVariants as roles

-- for what a reference stands
abbrev pub role_view : Role → references.Role
role_view roles.Value = references.AsValue
role_view roles.Argument = references.AsArgument
role_view roles.Target = references.AsTarget
role_view roles.Locator = references.AsLocator

-- a variable or a part of one
abbrev pub referent_view : Referent → references.Referent
referent_view r =
    record {
      reference = reference_view r.reference;
      description = type_seen r.description;
      is_parameter = r.is_parameter;
      area = r.area;
    }

-- one value or a whole aggregate
abbrev pub meant_view : ExpressionMeaning → calls.Meant
meant_view (meant.Value v) = calls.OneValue (value_view v)
meant_view (meant.Aggregate r) = calls.WholeAggregate (referent_view r)

-- what an expression denotes
abbrev pub denoted_view : Denoted → calls.Denoted
denoted_view (denoted.Variable r) = calls.DenotesVariable (referent_view r)
denoted_view (denoted.Result v) = calls.DenotesResult (value_view v)
denoted_view denoted.Empty = calls.DenotesEmpty

-- an argument
abbrev pub argument_view : Argument → calls.Argument
argument_view a = record { denoted = denoted_view a.denoted; written = a.written }
