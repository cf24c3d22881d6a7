-- What a walk over statements puts after the regions, marks and statements that are there.
use Rattle.std.specs.Prelude.{◌≡◌, ℕ, ◌+◌, length, List, [], ◌∷◌, ◌++◌}
use Rattle.pli_base.specs.Statements.{Statement, Statements}
use Rattle.pli_base.specs.Statements as body
use Rattle.pli_declare_outline.specs.Outlines as plain
use Rattle.pli_declare_outline.specs.Outlines.{optional_marks, control_marks, expression_marks, head_marks}
use Rattle.pli_declare_outline.specs.Outlines.{statement_regions, statement_marks, statements_regions}
use Rattle.pli_declare_outline.specs.Outlines.{statements_marks, body_regions, body_marks}
use Rattle.pli_declare_outline.specs.StatementPlaces.{statement_starts, statement_places, statements_starts}
use Rattle.pli_declare_outline.specs.StatementPlaces.{statements_places, body_starts, body_places, end_place}
use Rattle.pli_declare_outline.specs.views.OutlineView.{region_view, regions_view, starts_view, marks_view}
use Rattle.pli_declare_outline.specs.declared.region.Region.{Region}
use Rattle.pli_declare_outline.specs.declared.region.PlacedMark.{PlacedMark}
use Rattle.pli_declare_outline.specs.declared.statement_places.StatementPlace.{StatementPlace}

-- what is put: regions, the numbers of the statements with which they begin, marks, and statements
pub record Put : Type 0 where
  pub regions : List plain.Region
  pub starts : List ℕ
  pub marks : List plain.PlacedMark
  pub places : List StatementPlace

-- after these regions, marks and statements stand those that are put, of which there are so many regions more
pub record Walked (before after : List Region) (before' after' : List PlacedMark)
    (before'' after'' : List StatementPlace) (put : Put) (many : ℕ) : Type 0 where
  pub regions : regions_view after ≡ regions_view before ++ put.regions
  pub starts : starts_view after ≡ starts_view before ++ put.starts
  pub marks : marks_view after' ≡ marks_view before' ++ put.marks
  pub places : after'' ≡ before'' ++ put.places
  pub count : length after ≡ length before + many

-- what a statement of the region here puts; the first region that begins in it has the number next
abbrev pub of_statement : (here next : ℕ) → Statement → Put
of_statement here next s = record {
  regions = statement_regions here next s;
  starts = statement_starts s;
  marks = statement_marks here next s;
  places = statement_places here next s;
}

-- what each statement of a list puts
abbrev pub of_statements : (here next : ℕ) → Statements → Put
of_statements here next ss = record {
  regions = statements_regions here next ss;
  starts = statements_starts ss;
  marks = statements_marks here next ss;
  places = statements_places here next ss;
}

-- what a statement of this number puts for what it says
abbrev pub of_body : (here number next : ℕ) → body.Body → Put
of_body here number next b = record {
  regions = body_regions here next b;
  starts = body_starts number b;
  marks = body_marks here next b;
  places = body_places here next b;
}

-- what is put, after a region that begins
abbrev pub begun : Region → Put → Put
begun r put = record {
  regions = region_view r ∷ put.regions;
  starts = r.statement ∷ put.starts;
  marks = put.marks;
  places = put.places;
}

-- what is put, and then the END of the region
abbrev pub until_end : Put → (region end : ℕ) → Put
until_end put region end = record {
  regions = put.regions;
  starts = put.starts;
  marks = put.marks;
  places = put.places ++ end_place region end;
}

-- the marks of a statement's own, apart from those of the statements inside it; next is the number of the
-- region that it begins, if it begins one
abbrev pub own_marks : (next : ℕ) → body.Body → List plain.Mark
own_marks next (body.Procedure heading statements end) = plain.Entered heading next ∷ []
own_marks next (body.Do control statements end) = optional_marks control_marks control
own_marks next (body.If condition consequence alternative) = expression_marks condition
own_marks next other = head_marks other
