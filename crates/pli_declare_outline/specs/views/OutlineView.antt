-- What an outline of the program says, apart from where it lies in memory.
use Rattle.std.specs.Prelude.{ℕ, List, map}
use Rattle.pli_base.specs.views.DeclarationView.{item_view}
use Rattle.pli_base.specs.views.StatementView.{unit_view}
use Rattle.pli_declare_outline.specs.Outlines as plain
use Rattle.pli_declare_outline.specs.views.NamesView.{names_view}
use Rattle.pli_declare_outline.specs.declared.region.Region.{Region}
use Rattle.pli_declare_outline.specs.declared.region.Mark.{Mark}
use Rattle.pli_declare_outline.specs.declared.region.Mark.TheVariants as marks
use Rattle.pli_declare_outline.specs.declared.region.PlacedMark.{PlacedMark}
use Rattle.pli_declare_outline.specs.declared.region.Outline.{Outline}

-- a region
abbrev pub region_view : Region → plain.Region
region_view r = record { kind = r.kind; outer = r.outer }

-- what the text declares or uses
abbrev pub mark_view : Mark → plain.Mark
mark_view (marks.Declared items) = plain.Declared (map item_view items.now)
mark_view (marks.Labelled label) = plain.Labelled label
mark_view (marks.Entered procedure region) = plain.Entered (unit_view procedure.now).heading region
mark_view (marks.Used names) = plain.Used (names_view names)
mark_view (marks.Jumped label) = plain.Jumped label

-- a mark with its region
abbrev pub placed_view : PlacedMark → plain.PlacedMark
placed_view p = record { region = p.region; mark = mark_view p.mark }

-- the regions
abbrev pub regions_view : List Region → List plain.Region
regions_view rs = map region_view rs

-- the numbers of the statements with which they begin
abbrev pub starts_view : List Region → List ℕ
starts_view rs = map (λ r. r.statement) rs

-- the marks
abbrev pub marks_view : List PlacedMark → List plain.PlacedMark
marks_view ps = map placed_view ps

-- an outline
abbrev pub outline_view : Outline → plain.Outline
outline_view o = record { regions = regions_view o.regions.items; marks = marks_view o.marks.items }
