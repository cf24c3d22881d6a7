use Rattle.std.proofs.Common.{◌≡◌, ◌++◌, map, option_map}
use Rattle.std.specs.Vec.Iter.{into_iter_items}
use Rattle.pli_type_rules.specs.FunctionCalls.{values_in}
use Rattle.pli_type.specs.views.ValueView.{value_view}
use Rattle.pli_type_operands.specs.views.TypingView.{argument_view}
use Rattle.pli_type_operands.proofs.function.values_in.Given as goal

-- the values so far, and those of the arguments that are left
abbrev pub invariant-loop-argument : goal.invariant-loop-argument
invariant-loop-argument l =
    values_in (map argument_view l.fn.arguments.items)
    ≡ option_map (λ vs. map value_view l.values.items ++ vs) (values_in (map argument_view (into_iter_items l.argument-iterator)))
