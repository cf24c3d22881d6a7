use Rattle.std.proofs.Common.{◌≡◌, ◌++◌, [], ◌∷◌, ℕ, ◌+◌, get_or, set, map, replicate, length, take, refl, sym, ap, ◌∙◌, arith}
use Rattle.std.proofs.lemmas.List.{length-map}
use Rattle.pli_base.specs.views.StatementView.{unit_view}
use Rattle.pli_base.specs.laws.StatementLaws.{unit_out}
use Rattle.pli_declare_outline.specs.Outlines.{Entered}
use Rattle.pli_declare_outline.specs.views.OutlineView.{regions_view, region_view, marks_view, mark_view, placed_view}
use Rattle.pli_declare_outline.specs.declared.region.Mark as written
use Rattle.pli_declare_outline.specs.declared.region.Mark.TheVariants as marks
use Rattle.pli_declare.specs.Resolution.{headed}
use Rattle.pli_declare.specs.Tables.{numbers_from}
use Rattle.pli_declare_faults.proofs.NumberLists.{replicate_numbers}
use Rattle.pli_declare.proofs.ParametersOfBlocks.{gathered}
use Rattle.pli_declare_faults.proofs.ParametersGathered.{marks_reached, none_gathered, entered_gathered}
use Rattle.pli_declare_faults.proofs.parameters.parameters.Goals as goal

pub loop-placed-init : goal.loop-placed-init
loop-placed-init c =
    c.in_ok-all.ensures ∙ ap (λ n. replicate n []) (omega (arith, c.len.ensures, length-map c.args.outline.now.regions.items region_view))
    ∙ replicate_numbers [] 0 (length (regions_view c.args.outline.now.regions.items) + 1)

not_entered : (m : written.Mark) → ((procedure : _) (region : ℕ) → m ≡ marks.Entered procedure region → ⊥) → (b : ℕ) → headed b (mark_view m) ≡ []
not_entered (marks.Declared items) h b = refl
not_entered (marks.Labelled label) h b = refl
not_entered (marks.Entered procedure region) h b = absurd (h procedure region refl)
not_entered (marks.Used names) h b = refl
not_entered (marks.Jumped label) h b = refl

pub loop-placed-preserved-in_default : goal.loop-placed-preserved-in_default
loop-placed-preserved-in_default c =
    let n = c.loop-placed.placed-index in
    let x = c.placed-item.result in
    let all = c.args.outline.now.marks.items in
    let count = length (regions_view c.args.outline.now.regions.items) + 1 in
    none_gathered count (marks_view (take n all)) (placed_view x) (map (λ list. list.items) c.loop-placed.all.items) (λ b low. not_entered x.mark c.in_default.not-Entered b) c.loop-placed.invariant
    ∙ ap (λ ms. map (gathered ms) (numbers_from 0 count))
    (sym (marks_reached all c.deref-placed-items.result.now n x c.deref-placed-items.ensures.value
    (omega arith) c.placed-item.is))

pub loop-placed-preserved : goal.loop-placed-preserved
loop-placed-preserved c =
    let n = c.loop-placed.placed-index in
    let x = c.placed-item.result in
    let all = c.args.outline.now.marks.items in
    let count = length (regions_view c.args.outline.now.regions.items) + 1 in
    let p = c.in-Entered.procedure.now in
    let region = c.in-Entered.region in
    let lists = map (λ list. list.items) c.loop-placed.all.items in
    let next = map (λ list. list.items) c.append_at.new.all.items in
    let changed : next ≡ set lists region (get_or lists region [] ++ map (λ i. i.name) (unit_view p).heading.parameters) =
    c.in_ok-append_at.ensures
    ∙ ap (λ ps. set lists region (get_or lists region [] ++ map (λ i. i.name) ps)) (c.deref.ensures.value ∙ sym (ap (λ u. u.heading.parameters) (unit_out p))) in
    let view : placed_view x ≡ record { region = x.region; mark = Entered (unit_view p).heading region } = ap (λ m. record { region = x.region; mark = mark_view m }) c.in-Entered.is in
    entered_gathered count (marks_view (take n all)) x.region (unit_view p).heading region lists next changed c.loop-placed.invariant
    ∙ ap (λ ms. map (gathered ms) (numbers_from 0 count))
    (ap (λ q. marks_view (take n all) ++ q ∷ []) (sym view)
    ∙ sym (marks_reached all c.deref-placed-items.result.now n x c.deref-placed-items.ensures.value
    (omega arith) c.placed-item.is))
