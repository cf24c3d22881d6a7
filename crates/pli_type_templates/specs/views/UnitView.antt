-- What the variables of a unit are made from, apart from where it lies in memory.
use Rattle.std.specs.Global.{Global}
use Rattle.std.specs.Prelude.{ℕ, List, [], Vec, get_or, map}
use Rattle.pli_type_templates.specs.declared.unit_templates.UnitTemplates.{UnitTemplates}
use Rattle.pli_type_tree.specs.Templates.{Template}
use Rattle.pli_type_tree.specs.declared.template.VariableGroup.{VariableGroup}
use Rattle.pli_type_tree.specs.views.TemplateView.{groups_view}

-- variables of one block
abbrev pub row_view : Vec VariableGroup Global → List Template
row_view v = groups_view v.items

-- the AUTOMATIC variables of the block of this number
abbrev pub automatic_at : UnitTemplates → (block : ℕ) → List Template
automatic_at t block = get_or (map row_view t.automatic.items) block []

-- the BASED variables of the block of this number
abbrev pub based_at : UnitTemplates → (block : ℕ) → List Template
based_at t block = get_or (map row_view t.based.items) block []
