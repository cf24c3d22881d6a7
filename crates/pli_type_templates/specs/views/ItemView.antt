-- What items with INITIAL say, apart from where they lie in memory.
use Rattle.std.specs.Global.{Global}
use Rattle.std.specs.Prelude.{List, Vec, map}
use Rattle.pli_declare_outline.specs.Outlines.{PlacedMark}
use Rattle.pli_map.specs.views.DescriptionView.{description_view}
use Rattle.pli_type_rules.specs.InitialScalars.{InitialItem}
use Rattle.pli_type_templates.specs.Groups as plain
use Rattle.pli_type_templates.specs.Groups.{HasItem, template_with}
use Rattle.pli_type_templates.specs.declared.made_variable.MadeVariable.{MadeVariable}
use Rattle.pli_type_templates.specs.declared.items.ValuedItem.{ValuedItem}
use Rattle.pli_type_templates.specs.declared.members.Owned.{Owned}
use Rattle.pli_type_tree.specs.Templates.{Template}

-- an item with INITIAL
abbrev pub item_view : ValuedItem → InitialItem
item_view i = record { path = i.path.now; values = i.values.now }

-- such items
abbrev pub items_view : List ValuedItem → List InitialItem
items_view is = map item_view is

-- the items of each of many
abbrev pub rows_view : List (Vec ValuedItem Global) → List (List InitialItem)
rows_view rows = map (λ v. items_view v.items) rows

-- a member, and the variable that it is a member of
abbrev pub owned_view : Owned → plain.Owned
owned_view o = record { root = o.root; item = item_view o.item }

-- a variable that is made
abbrev pub made_view : MadeVariable → plain.MadeVariable
made_view m = record {
  at = m.at;
  description = description_view m.description.now;
  values = m.values.now;
  members = items_view m.members.now;
}

-- what it is made from
abbrev pub made_template : MadeVariable → Template
made_template m = template_with (made_view m)

-- its name is one of an item that has its values
abbrev pub HasMadeItem : List PlacedMark → MadeVariable → Type 0
HasMadeItem marks m = HasItem marks (made_view m)
