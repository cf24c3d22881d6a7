use Rattle.std.specs.Cmp.Lexicographic.{slice_cmp}
use Rattle.std.specs.Ordering.{nat_cmp}
use Rattle.std.proofs.lemmas.Cmp.{nat_list_cmp_total}
use Rattle.pli_sort.proofs.SortedLemmas.{items_are_sorted}
use Rattle.pli_link.specs.Link.{name_alone}
use Rattle.pli_link.proofs.laws.names_are_sorted.Goals as goal

pub returns : goal.returns
returns c = items_are_sorted name_alone (slice_cmp nat_cmp) nat_list_cmp_total
