use Rattle.std.proofs.Common.{ℕ, get_or, ap, ◌∙◌, rules}
use Rattle.std.specs.Ordering.{nat_cmp}
use Rattle.std.proofs.lemmas.Cmp.{nat_cmp_total}
use Rattle.std.proofs.lemmas.Fn.{always_returns_same}
use Rattle.pli_sort.proofs.SortedOnce.{in_order_from_sort}
use Rattle.pli_type_rules.specs.TextOrder.{in_order}
use Rattle.pli_type_names.proofs.order.sorted_numbers.Goals as goal

pub returns : goal.returns
returns c =
    let token : ℕ → ℕ = λ number. get_or c.args.tokens.now number 0 in
    in_order_from_sort token nat_cmp nat_cmp_total _ _
    (c.in_ok-sort_by_key.ensures.sorted token (always_returns_same _ _ _ (λ a r f' k. search rules)))
    (c.in_ok-sort_by_key.ensures.stable token (always_returns_same _ _ _ (λ a r f' k. search rules)))
    ∙ ap (in_order token) c.in_ok-numbers.ensures
