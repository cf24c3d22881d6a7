use Rattle.std.proofs.Common.{List, Bool, length, ap, ◌∙◌, arith}
use Rattle.pli_declare_tables.specs.views.TableView.{entries_view}
use Rattle.pli_declare_variables.specs.answers.Walks.{cut_place_in}
use Rattle.pli_declare_variables.specs.answers.Walks.{has_members_at, above_at}
use Rattle.pli_declare_variables.specs.declared.places.LevelsAbove.{LevelsAbove}
use Rattle.pli_declare_variables.proofs.NumberLemmas.{mapped_more, mapped_length}
use Rattle.pli_declare_variables.proofs.PlaceLemmas.{placed_at, element_at}
use Rattle.pli_declare_variables.proofs.places.places.Goals as goal

pub index-requires : goal.index-requires
index-requires c =
    let count = length c.args.entries.now in
    let long = ap (λ (xs : List Bool). length xs) c.in_ok-marks.ensures ∙ mapped_length (has_members_at (entries_view c.args.entries.now)) count in
    omega (arith, long, c.loop-number-test.true)

pub index-requires-in-loop-number : goal.index-requires-in-loop-number
index-requires-in-loop-number c =
    let count = length c.args.entries.now in
    let long = ap (λ (xs : List LevelsAbove). length xs) c.in_ok-aboves.ensures ∙ mapped_length (above_at (entries_view c.args.entries.now)) count in
    omega (arith, long, c.loop-number-test.true)

pub loop-number-preserved : goal.loop-number-preserved
loop-number-preserved c =
    let entries = entries_view c.args.entries.now in
    let count = length c.args.entries.now in
    let n = c.loop-number.number in
    let lt = c.loop-number-test.true in
    let marked = element_at (has_members_at entries) c.in_ok-marks.marks.items count n c.index.result.now c.in_ok-marks.ensures lt c.index.ensures in
    let known = element_at (above_at entries) c.in_ok-aboves.aboves.items count n c.index-in-loop-number.result.now c.in_ok-aboves.ensures lt c.index-in-loop-number.ensures in
    let here = c.place-place.ensures ∙ placed_at c.args.entries.now n c.index-entries-number.result lt c.index-entries-number.is c.args.parameters.now
    c.in_ok-parameters.parameters.keys c.in_ok-parameters.ensures c.index.result.now marked c.index-in-loop-number.result.now known in
    c.in_ok-push.ensures.items ∙ mapped_more (cut_place_in entries c.args.parameters.now) c.loop-number.places.items n c.place-place.result c.loop-number.invariant here
