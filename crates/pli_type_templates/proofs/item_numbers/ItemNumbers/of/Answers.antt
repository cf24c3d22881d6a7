use Rattle.std.proofs.Common.{◌≡◌, ◌≤◌, List, length, nat_eq, ap, subst, ◌∙◌, arith}
use Rattle.std.proofs.lemmas.List.{length-map}
use Rattle.indexmap.specs.IndexMap.{get}
use Rattle.pli_base.specs.Statements.{ExternalProcedure}
use Rattle.pli_base.specs.views.StatementView.{unit_view}
use Rattle.pli_declare_outline.specs.Outlines.{Outline, PlacedMark, outline_of}
use Rattle.pli_declare_outline.specs.declared.region.Outline as program
use Rattle.pli_declare_outline.specs.views.OutlineView.{marks_view, outline_view, placed_view, region_view}
use Rattle.pli_type_templates.specs.ItemNames.{HasFewMarks, HasFewRegions}
use Rattle.pli_type_templates.specs.NotedNames.{NoteMarks}
use Rattle.pli_type_templates.proofs.NamesNoted.{notes_tell}
use Rattle.pli_type_templates.proofs.item_numbers.ItemNumbers.of.Goals as goal

-- an outline has as many regions and marks as its unit
few_regions : (o : program.Outline) (u : ExternalProcedure) → outline_view o ≡ outline_of u → length o.regions.items ≤ 1152921504606846976 → HasFewRegions u
few_regions o u same few = omega (arith, ap (λ (p : Outline). length p.regions) same, length-map o.regions.items region_view, few)

few_marks : (o : program.Outline) (u : ExternalProcedure) → outline_view o ≡ outline_of u → length o.marks.items ≤ 1152921504606846976 → HasFewMarks u
few_marks o u same few = omega (arith, ap (λ (p : Outline). length p.marks) same, length-map o.marks.items placed_view, few)

pub returns-then-not-are_asked_for-clause-regions : goal.returns-then-not-are_asked_for-clause-regions
returns-then-not-are_asked_for-clause-regions c =
    few_regions c.args.outline.now (unit_view c.args.unit.now) c.requires c.look_at.ensures.regions

pub returns-then-not-are_asked_for-clause-marks : goal.returns-then-not-are_asked_for-clause-marks
returns-then-not-are_asked_for-clause-marks c =
    few_marks c.args.outline.now (unit_view c.args.unit.now) c.requires c.look_at.ensures.marks

pub returns-clause-regions : goal.returns-clause-regions
returns-clause-regions c = few_regions c.args.outline.now (unit_view c.args.unit.now) c.requires c.look_at.ensures.regions

pub returns-clause-marks : goal.returns-clause-marks
returns-clause-marks c = few_marks c.args.outline.now (unit_view c.args.unit.now) c.requires c.look_at.ensures.marks

pub invariant_of-result : goal.invariant_of-result
invariant_of-result c =
    let notes = get nat_eq c.in_ok-numbers.numbers in
    let same = ap marks_view c.deref.ensures.value ∙ ap (λ (o : Outline). o.marks) c.requires in
    record { tell = notes_tell notes _ (subst (λ (ms : List PlacedMark). NoteMarks notes ms) same c.in_ok-numbers.ensures) }
