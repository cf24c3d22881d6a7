use Rattle.std.proofs.Common.{◌≡◌, ◌++◌, ◌∷◌, ◌+◌, [], ℕ, None, length, List, ap, ◌∙◌, sym}
use Rattle.pli_base.specs.views.StatementView.{statements_view, unit_view}
use Rattle.pli_base.specs.laws.StatementLaws.{unit_statements}
use Rattle.pli_base.specs.declared.statement.Procedure.{out-Procedure}
use Rattle.pli_declare_outline.specs.Outlines.{Entered, placed, outline_of, statements_regions, statements_marks}
use Rattle.pli_declare_outline.specs.Outlines as plain
use Rattle.pli_declare_outline.specs.StatementPlaces.{statements_starts, statements_places, end_place, unit_starts, unit_places}
use Rattle.pli_declare_outline.specs.views.OutlineView.{regions_view, starts_view, marks_view}
use Rattle.pli_declare_outline.specs.declared.region.RegionKind.TheVariants as kinds
use Rattle.pli_declare_outline.specs.declared.statement_places.StatementPlace.{StatementPlace}
use Rattle.pli_declare_outline.proofs.UnitParts.{number_out, end_out}
use Rattle.pli_declare_outline.proofs.walk.outline.Goals as goal

abbrev outlined : List plain.Region → List plain.PlacedMark → plain.Outline
outlined rs ms = record { regions = rs; marks = ms }

both : (rs ss : List plain.Region) (ms ns : List plain.PlacedMark) → rs ≡ ss → ms ≡ ns → outlined rs ms ≡ outlined ss ns
both rs ss ms ns r m = ap (λ xs. outlined xs ms) r ∙ ap (outlined ss) m

abbrev the_unit : plain.Region
the_unit = record { kind = kinds.Procedure; outer = None }

-- its PROCEDURE
abbrev first_place : (number : ℕ) → StatementPlace
first_place number = record { number = number; region = 0; label = None }

pub returns-clause-outline : goal.returns-clause-outline
unfolding outline_of
returns-clause-outline c =
    let u = c.args.unit.now in
    let listed = statements_view c.as_slice.result.now in
    let same : listed ≡ (unit_view u).statements = ap statements_view c.as_slice.ensures.value ∙ sym (unit_statements u) in
    both _ _ _ _
    (c.in_ok-walk_region.ensures.regions
    ∙ ap (λ xs. regions_view xs ++ the_unit ∷ statements_regions (length xs) (length xs + 1) listed) c.new-regions.ensures.items
    ∙ ap (λ ss. the_unit ∷ statements_regions 0 1 ss) same)
    (c.in_ok-walk_region.ensures.marks
    ∙ ap (λ xs. marks_view c.mark.new.marks.items ++ statements_marks (length xs) (length xs + 1) listed) c.new-regions.ensures.items
    ∙ ap (λ ms. ms ++ statements_marks 0 1 listed) (c.in_ok-mark.ensures ∙ ap (λ xs. marks_view xs ++ placed 0 (Entered (unit_view u).heading 0 ∷ [])) c.new-marks.ensures.items)
    ∙ ap (λ ss. placed 0 (Entered (unit_view u).heading 0 ∷ []) ++ statements_marks 0 1 ss) same)

pub returns-clause-starts : goal.returns-clause-starts
unfolding unit_starts
returns-clause-starts c =
    let u = c.args.unit.now in
    let n = (out-Procedure u).number in
    let listed = statements_view c.as_slice.result.now in
    let same : listed ≡ (unit_view u).statements = ap statements_view c.as_slice.ensures.value ∙ sym (unit_statements u) in
    c.in_ok-walk_region.ensures.starts
    ∙ ap (λ xs. starts_view xs ++ n ∷ statements_starts listed) c.new-regions.ensures.items
    ∙ ap (λ ss. n ∷ statements_starts ss) same
    ∙ ap (λ n. n ∷ statements_starts (unit_view u).statements) (sym (number_out u))

pub returns-clause-places : goal.returns-clause-places
unfolding unit_places
returns-clause-places c =
    let u = c.args.unit.now in
    let n = (out-Procedure u).number in
    let e = (out-Procedure u).end in
    let listed = statements_view c.as_slice.result.now in
    let same : listed ≡ (unit_view u).statements = ap statements_view c.as_slice.ensures.value ∙ sym (unit_statements u) in
    c.in_ok-walk_region.ensures.places
    ∙ ap (λ xs. xs ++ (statements_places (length c.new-regions.result.items) (length c.new-regions.result.items + 1) listed ++ end_place (length c.new-regions.result.items) e)) (c.in_ok-push.ensures.items ∙ ap (λ xs. xs ++ first_place n ∷ []) c.new-places.ensures.items)
    ∙ ap (λ xs. first_place n ∷ (statements_places (length xs) (length xs + 1) listed ++ end_place (length xs) e)) c.new-regions.ensures.items
    ∙ ap (λ ss. first_place n ∷ (statements_places 0 1 ss ++ end_place 0 e)) same
    ∙ ap (λ m. first_place m ∷ (statements_places 0 1 (unit_view u).statements ++ end_place 0 e)) (sym (number_out u))
    ∙ ap (λ m. first_place (unit_view u).heading.number ∷ (statements_places 0 1 (unit_view u).statements ++ end_place 0 m)) (sym (end_out u))
