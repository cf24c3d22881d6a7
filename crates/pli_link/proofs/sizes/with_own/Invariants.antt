use Rattle.std.proofs.Common.{◌≡◌, ◌≤◌, map, drop}
use Rattle.pli_link.specs.ModuleSize.{own_of}
use Rattle.pli_link.specs.answers.Counting.{counted}
use Rattle.pli_code.specs.views.CodeView.{code_view, global_view}
use Rattle.pli_link.proofs.sizes.with_own.Given as goal

-- the bytes so far, with those of the globals that are left, are those of all
abbrev pub invariant-loop-global : goal.invariant-loop-global
invariant-loop-global l =
    (l.bytes ≤ 16777216)
    × (counted l.bytes (own_of (code_view l.code) (map global_view (drop l.global-index l.globals)))
    ≡ counted l.initial.bytes (own_of (code_view l.code) (map global_view l.globals)))
