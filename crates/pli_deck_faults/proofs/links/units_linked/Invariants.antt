use Rattle.std.proofs.Common.{◌≡◌, drop, map}
use Rattle.std.specs.List.{filter, list_all}
use Rattle.pli_deck_write.specs.ModuleFields.{is_external}
use Rattle.pli_deck_write.specs.ModuleSpelling.{are_good_links}
use Rattle.pli_code.specs.views.CodeView.{member_view, module_view}
use Rattle.pli_deck_faults.proofs.links.units_linked.Given as goal

-- what is left passes as all pass
abbrev pub invariant-loop-unit : goal.invariant-loop-unit
invariant-loop-unit l =
    list_all (λ u. are_good_links (module_view l.program) (filter is_external u.deck.code.globals) u.links) (map member_view (drop l.unit-index l.units))
    ≡ list_all (λ u. are_good_links (module_view l.program) (filter is_external u.deck.code.globals) u.links) (map member_view l.units)
