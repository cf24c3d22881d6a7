-- What variables of their own say, apart from where they lie in memory.
use Rattle.pli_map.specs.views.DescriptionView.{description_view}
use Rattle.pli_type_names.specs.OwnVariables as plain
use Rattle.pli_type_names.specs.declared.own_variable.OwnVariable.{OwnVariable}

-- a variable of its own
abbrev pub own_view : OwnVariable → plain.OwnVariable
own_view v = record { begins = v.begins; whole = description_view v.description.now }
