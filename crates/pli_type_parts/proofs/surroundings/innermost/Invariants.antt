use Rattle.std.proofs.Common.{◌≡◌, drop}
use Rattle.pli_type_parts.specs.views.AroundView.{lists_view}
use Rattle.pli_type_parts.proofs.SearchLemmas.{number_from}
use Rattle.pli_type_parts.proofs.surroundings.innermost.Given as goal

-- the lists that are left give what all give
abbrev pub invariant-loop-list : goal.invariant-loop-list
invariant-loop-list l = number_from l.number (lists_view (drop l.list-index l.lists)) ≡ number_from 0 (lists_view l.lists)
