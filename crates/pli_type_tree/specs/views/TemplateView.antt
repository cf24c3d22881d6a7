-- What templates say, apart from where they lie in memory.
use Rattle.std.specs.Prelude.{List, map, replicate}
use Rattle.std.specs.List.{flat_map}
use Rattle.pli_map.specs.views.DescriptionView.{description_view}
use Rattle.pli_value.specs.Value.{value_view}
use Rattle.pli_program.specs.Templates as plain
use Rattle.pli_type_tree.specs.declared.template.InitialScalar.{InitialScalar}
use Rattle.pli_type_tree.specs.declared.template.Template.{Template}
use Rattle.pli_type_tree.specs.declared.template.VariableGroup.{VariableGroup}

-- an initial value with the byte on which its scalar begins
abbrev pub initial_view : InitialScalar → plain.InitialScalar
initial_view i = record { offset = i.offset; value = value_view i.value }

-- what a variable is made from
abbrev pub template_view : Template → plain.Template
template_view t = record {
  description = description_view t.description;
  initial = map initial_view t.initial.items;
}

-- a template for each variable
abbrev pub group_view : VariableGroup → List plain.Template
group_view g = replicate g.count (template_view g.template)

-- what variables are made from, which lie in groups
abbrev pub groups_view : List VariableGroup → List plain.Template
groups_view gs = flat_map group_view gs
