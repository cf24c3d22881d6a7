use Rattle.std.proofs.Common.{◌≡◌, drop, map}
use Rattle.std.specs.List.{filter}
use Rattle.pli_code.specs.views.CodeView.{global_view, module_view}
use Rattle.pli_deck_write.specs.ModuleFields.{is_external}
use Rattle.pli_deck_write.specs.ModuleSpelling.{are_good_links}
use Rattle.pli_deck_faults.proofs.links.globals_linked.Given as goal

-- what is left of the globals and of their links is good as all is
abbrev pub invariant-loop-global : goal.invariant-loop-global
invariant-loop-global l =
    are_good_links (module_view l.program) (filter is_external (map global_view (drop l.global-index l.globals))) (drop l.at l.links)
    ≡ are_good_links (module_view l.program) (filter is_external (map global_view l.globals)) l.links
