use Rattle.std.proofs.Common.{ℕ, ◌-◌, ◌<◌, List, map, get_or, length, Option, option_map, sym, ◌∙◌, subst, arith}
use Rattle.std.proofs.lemmas.List.{length-map, length-set}
use Rattle.pli_map.specs.Description.{Description}
use Rattle.pli_declare.specs.Extents.{all_bounds}
use Rattle.pli_declare.specs.Faults.{with_bounds, described_scalar}
use Rattle.pli_declare.specs.Sets.{outermost}
use Rattle.pli_declare.specs.Tables as tables
use Rattle.pli_declare_tables.specs.views.TableView.{entry_view, entries_view}
use Rattle.pli_declare.specs.Places.{item_in}
use Rattle.pli_declare.specs.Descriptions.{described, inside}
use Rattle.pli_declare_variables.specs.answers.Measures.{IsMeasured, AreMeasured}
use Rattle.pli_declare_variables.specs.declared.sizes.Measured.{Measured}
use Rattle.pli_declare_variables.specs.declared.sizes.Measured.TheVariants.{Unknown}
use Rattle.pli_declare_variables.proofs.DescriptionLemmas.{rows, row}
use Rattle.pli_declare_variables.proofs.MembersFound.{viewed, shapeless, shaped, one_more}
use Rattle.pli_declare_variables.proofs.sizes.measure_all.Goals.{then-has_bad_shape, else-has_bad_shape}
use Rattle.pli_declare_variables.proofs.sizes.measure_all.Goals as goal

pub index-requires : goal.index-requires
index-requires c =
    omega (arith, c.in_ok-members.members.ok.0, c.loop-done-test.true, rows (entries_view c.args.entries.now) c.in_ok-members.members.items (length c.args.entries.now) c.in_ok-members.ensures)

pub loop-done-preserved : goal.loop-done-preserved
loop-done-preserved c =
    let program = c.args.entries.now in
    let entries = entries_view program in
    let codes = c.args.codes.now in
    let size = length program in
    let done = c.loop-done.done in
    let n = size - 1 - done in
    let taken = c.if-has_bad_shape.taken in
    let measured = c.loop-done.measured.items in
    let within : n < size = omega (arith, c.loop-done-test.true) in
    let here : IsMeasured taken (described size entries codes n) = elim c.if-has_bad_shape.branch [
      | then-has_bad_shape w ↦
          subst (λ m. IsMeasured m (described size entries codes n)) (sym w.taken-is)
          (shapeless size entries codes n (sym c.has_bad_shape.ensures ∙ w.if-has_bad_shape.true))
      | else-has_bad_shape w ↦
          let e = w.index-entries-number.result in
          let found = w.deref.ensures.value ∙ row entries c.in_ok-members.members.items size n w.index.result.now c.in_ok-members.ensures within w.index.ensures in
          let says = subst (λ (x : tables.Entry). (describe : ℕ → Option Description) → AreMeasured describe w.deref-else-has_bad_shape.result.now w.deref.result.now
          → IsMeasured w.measure-taken.result (option_map (with_bounds (all_bounds (item_in x.entity).dimensions)) (inside describe (described_scalar (map outermost (item_in x.entity).attributes)) w.deref.result.now)))
          (sym (viewed program n e within w.index-entries-number.is)) w.measure-taken.ensures in
          subst (λ m. IsMeasured m (described size entries codes n)) (sym w.taken-is)
          (shaped size entries c.requires.owners codes (sym (length-map program entry_view)) w.deref-else-has_bad_shape.result.now n within
          (sym c.has_bad_shape.ensures ∙ w.if-has_bad_shape.false) w.deref.result.now found
          (λ k from to. subst (λ (ms : List Measured). IsMeasured (get_or ms k Unknown) (described size entries codes k)) (sym w.deref-else-has_bad_shape.ensures.value)
          (c.loop-done.invariant.known k (omega (arith, from, within)) to))
          w.measure-taken.result says)
    ] in
    record {
      count = length-set measured n taken ∙ c.loop-done.invariant.count;
      known = one_more (λ k m. IsMeasured m (described size entries codes k)) measured size done taken c.loop-done.invariant.count c.loop-done-test.true c.loop-done.invariant.known here;
    }
