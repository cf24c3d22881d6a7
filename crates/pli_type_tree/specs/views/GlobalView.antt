-- What the globals of a unit say, apart from where they lie in memory.
use Rattle.std.specs.Prelude.{List, option_map, map}
use Rattle.std.specs.List.{flat_map}
use Rattle.pli_map.specs.views.DescriptionView.{description_view}
use Rattle.pli_map.specs.views.ParameterView.{type_view}
use Rattle.pli_type_tree.specs.TypedTree as plain
use Rattle.pli_type_tree.specs.views.TemplateView.{template_view, group_view}
use Rattle.pli_type_tree.specs.declared.unit.GlobalGroup.{GlobalGroup}
use Rattle.pli_type_tree.specs.declared.unit.GlobalGroup.TheVariants as groups
use Rattle.pli_type_tree.specs.declared.unit.Signature.{Signature}

-- what an external procedure takes and gives
abbrev pub signature_view : Signature → plain.Signature
signature_view s = record {
  parameters = map type_view s.parameters.items;
  result = option_map description_view s.result;
}

-- a global for each variable, or for each name
abbrev pub global_group_view : GlobalGroup → List plain.Global
global_group_view (groups.OwnVariables kind variables) = map (plain.OwnVariable kind) (group_view variables)
global_group_view (groups.ExternalVariables names kind template) =
    map (λ name. plain.ExternalVariable name kind (template_view template)) names.items
global_group_view (groups.EntryPoints names signature) =
    map (λ name. plain.EntryPoint name (signature_view signature)) names.items

-- the globals of a unit, which lie in groups
abbrev pub globals_view : List GlobalGroup → List plain.Global
globals_view gs = flat_map global_group_view gs
