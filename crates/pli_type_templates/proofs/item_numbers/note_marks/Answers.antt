use Rattle.std.proofs.Common.{◌≡◌, ◌<◌, List, get_or, length, nat_eq, sym, subst, arith}
use Rattle.std.proofs.lemmas.List.{get_or-map, length-map, take_all}
use Rattle.indexmap.specs.IndexMap.{get}
use Rattle.pli_declare_outline.specs.Outlines.{PlacedMark}
use Rattle.pli_declare_outline.specs.views.OutlineView.{marks_view, placed_view}
use Rattle.pli_type_templates.specs.NotedNames.{NoteMarks}
use Rattle.pli_type_templates.proofs.NamesNoted.{marks_more}
use Rattle.pli_type_templates.proofs.item_numbers.note_marks.Goals as goal

pub loop-number-preserved : goal.loop-number-preserved
loop-number-preserved c =
    let l = c.loop-number in
    let marks = c.args.marks.now in
    let d = c.index-marks-number.result in
    let p = get_or marks l.number d in
    let lt : l.number < length (marks_view marks) = omega (arith, c.loop-number-test.true, length-map marks placed_view) in
    let is : placed_view p ≡ get_or (marks_view marks) l.number (placed_view p) =
    sym (get_or-map placed_view marks l.number d (placed_view p) c.loop-number-test.true) in
    marks_more (get nat_eq l.numbers) (get nat_eq c.note_mark.new.numbers) (marks_view marks) l.number (placed_view p) lt is l.invariant
    c.in_ok-note_mark.ensures.kept c.in_ok-note_mark.ensures.here

pub returns : goal.returns
returns c =
    let l = c.loop-number in
    let marks = marks_view c.args.marks.now in
    subst (λ (xs : List PlacedMark). NoteMarks (get nat_eq l.numbers) xs)
    (take_all l.number marks (omega (arith, c.loop-number-test.false, length-map c.args.marks.now placed_view))) l.invariant
