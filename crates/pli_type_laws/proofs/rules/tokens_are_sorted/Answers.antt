use Rattle.std.proofs.Common.{length}
use Rattle.std.specs.Ordering.{nat_cmp}
use Rattle.std.proofs.lemmas.Cmp.{nat_cmp_total}
use Rattle.pli_sort.proofs.SortedLemmas.{items_are_sorted}
use Rattle.pli_type_rules.specs.TextOrder.{numbers_from}
use Rattle.pli_type_laws.specs.laws.TextSorting.{token_of}
use Rattle.pli_type_laws.proofs.rules.tokens_are_sorted.Goals as goal

pub returns : goal.returns
returns c = λ tokens. items_are_sorted (token_of tokens) nat_cmp nat_cmp_total (numbers_from 0 (length tokens))
