use Rattle.std.proofs.Common.{◌≡◌, length, map, option_map}
use Rattle.std.specs.Iterator.Adapters.{zip_first, zip_second}
use Rattle.std.specs.Slice.Iter.{iter_rest}
use Rattle.std.specs.Vec.Iter.{into_iter_items}
use Rattle.pli_map.specs.views.ParameterView.{type_seen}
use Rattle.pli_type_rules.specs.ProcedureCalls.{all_passed}
use Rattle.pli_type_operands.specs.views.TypingView.{argument_view}
use Rattle.pli_type_operands.proofs.PassingLemmas.{arguments_before}
use Rattle.pli_type_operands.proofs.passing.all_passed.Given as goal

-- the arguments so far in front of those that are left
abbrev pub invariant-loop-taken : goal.invariant-loop-taken
invariant-loop-taken l =
    let parameters = iter_rest (zip_first l.taken-iterator) in
    let arguments = into_iter_items (zip_second l.taken-iterator) in
    record {
      lengths : length arguments ≡ length parameters;
      passed : all_passed l.greatest (map type_seen l.parameters) (map argument_view l.fn.arguments.items)
          ≡ option_map (arguments_before l.made.items)
          (all_passed l.greatest (map type_seen parameters) (map argument_view arguments));
    }
