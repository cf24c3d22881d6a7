use Rattle.std.proofs.lemmas.Cmp.{nat_cmp_total}
use Rattle.std.specs.Ordering.{nat_cmp}
use Rattle.pli_sort.proofs.SortedLemmas.{items_are_sorted}
use Rattle.pli_sort.proofs.laws.numbers_are_sorted.Goals as goal

pub returns : goal.returns
returns c = λ key. items_are_sorted key nat_cmp nat_cmp_total
