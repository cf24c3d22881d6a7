-- The unit whose items are numbered, as its marks.
use Rattle.std.specs.Prelude.{List}
use Rattle.pli_base.specs.views.StatementView.{unit_view}
use Rattle.pli_declare_outline.specs.Outlines.{PlacedMark, outline_of}
use Rattle.pli_type_templates.specs.declared.item_numbers.ItemNumbers.{ItemNumbers}

-- the marks of the unit
abbrev pub marks_of : ItemNumbers → List PlacedMark
marks_of items = (outline_of (unit_view items.unit.now)).marks
