use Rattle.std.proofs.Common.{rules}
use Rattle.std.specs.Cmp.Lexicographic.{slice_cmp}
use Rattle.std.specs.Ordering.{nat_cmp}
use Rattle.std.proofs.lemmas.Cmp.{nat_list_cmp_total}
use Rattle.std.proofs.lemmas.List.Sorted.{answers_always}
use Rattle.pli_sort.proofs.SortedOnce.{in_order_from_sort}
use Rattle.pli_link.specs.Link.{name_alone}
use Rattle.pli_link.proofs.order.sort.Goals as goal

pub returns : goal.returns
returns c =
    in_order_from_sort name_alone (slice_cmp nat_cmp) nat_list_cmp_total _ _
    (c.in_ok-sort_by_key.ensures.sorted name_alone (answers_always _ _ _ (λ f a r g h. search rules)))
    (c.in_ok-sort_by_key.ensures.stable name_alone (answers_always _ _ _ (λ f a r g h. search rules)))
