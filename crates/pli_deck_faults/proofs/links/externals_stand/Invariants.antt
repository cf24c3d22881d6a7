use Rattle.std.proofs.Common.{◌≡◌, drop, map}
use Rattle.std.specs.List.{list_all}
use Rattle.pli_deck_write.specs.ModuleSpelling.{has_kind, global_at}
use Rattle.pli_code.specs.views.CodeView.{external_view, member_view}
use Rattle.pli_deck_faults.proofs.links.externals_stand.Given as goal

-- what is left passes as all pass
abbrev pub invariant-loop-external : goal.invariant-loop-external
invariant-loop-external l =
    list_all (λ e. has_kind e.kind (global_at (map member_view l.units) e.unit e.global)) (map external_view (drop l.external-index l.externals))
    ≡ list_all (λ e. has_kind e.kind (global_at (map member_view l.units) e.unit e.global)) (map external_view l.externals)
