use Rattle.std.proofs.Common.{◌≡◌, ◌∷◌, [], inl, inr, Some, length, map, option_map, ap, ◌∙◌, sym, arith}
use Rattle.std.proofs.lemmas.List.{nil_from_length}
use Rattle.std.specs.Iterator.Adapters.{zip_first, zip_second}
use Rattle.std.specs.Slice.Iter.{iter_rest}
use Rattle.std.specs.Vec.Iter.{into_iter_items}
use Rattle.pli_map.specs.views.ParameterView.{type_seen}
use Rattle.pli_type_rules.specs.ProcedureCalls.{all_passed}
use Rattle.pli_type_tree.specs.views.TypedView.{argument_before}
use Rattle.pli_type_operands.specs.views.TypingView.{argument_view}
use Rattle.pli_type_operands.proofs.PassingLemmas.{arguments_before, before_none, one_passed}
use Rattle.pli_type_operands.proofs.passing.all_passed.Goals as goal

pub loop-taken-preserved : goal.loop-taken-preserved
loop-taken-preserved c =
    let l = c.loop-taken in
    let turn = c.in-Some.ensures.steps in
    let greatest = c.args.greatest in
    let done = l.made.items in
    let parameters = iter_rest (zip_first c.next.new.self) in
    let arguments = into_iter_items (zip_second c.next.new.self) in
    let rest = all_passed greatest (map type_seen parameters) (map argument_view arguments) in
    let given = into_iter_items (zip_second l.taken-iterator) in
    record {
      lengths = omega (arith, l.invariant.lengths, ap length turn.0, ap length turn.1.0);
      passed = l.invariant.passed
          ∙ ap (λ ps. option_map (arguments_before done) (all_passed greatest (map type_seen ps) (map argument_view given))) turn.0
          ∙ ap (λ gs. option_map (arguments_before done) (all_passed greatest (map type_seen (c.in-Some.taken.now ∷ parameters)) (map argument_view gs))) turn.1.0
          ∙ one_passed greatest (type_seen c.in-Some.taken.now) (argument_view c.in-Some.argument) c.in-Some-2.one
          (λ more. ap (option_map (λ a. argument_before a more)) (sym c.in-Some-2.is) ∙ c.in_ok-one.ensures more) done rest
          ∙ ap (λ made. option_map (arguments_before made) rest) (sym c.in_ok-push.ensures.items);
    }

pub returns : goal.returns
returns c =
    let l = c.loop-taken in
    let greatest = c.args.greatest in
    let done = l.made.items in
    let left = iter_rest (zip_first l.taken-iterator) in
    let given = into_iter_items (zip_second l.taken-iterator) in
    let over : length left ≡ 0 = elim c.in-None.ensures.steps [
      | inl h ↦ h.1.0
      | inr h ↦ sym l.invariant.lengths ∙ sym (zip_second l.taken-iterator).rest.ok.0 ∙ h.1.0
    ] in
    sym (l.invariant.passed
    ∙ ap (λ ps. option_map (arguments_before done) (all_passed greatest (map type_seen ps) (map argument_view given))) (nil_from_length left over)
    ∙ ap (λ gs. option_map (arguments_before done) (all_passed greatest [] (map argument_view gs))) (nil_from_length given (l.invariant.lengths ∙ over))
    ∙ ap (λ made. Some made) (before_none done))
