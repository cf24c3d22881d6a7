use Rattle.std.proofs.Common.{◌≡◌, [], map, drop}
use Rattle.pli_link.specs.Mismatches.{each_once, faulty_names}
use Rattle.pli_link.specs.answers.Classes.{Grows}
use Rattle.pli_link.specs.answers.Tables.{units_in}
use Rattle.pli_code.specs.views.CodeView.{code_view, global_view}
use Rattle.pli_link.proofs.mismatches.names_with_fault.Given as goal

-- the names so far, with those of the globals that are left, are those of all
abbrev pub invariant-loop-global : goal.invariant-loop-global
invariant-loop-global l =
    (each_once l.found.keys (faulty_names (units_in l.names) l.fault (code_view l.code) (map global_view (drop l.global-index l.globals)))
    ≡ each_once [] (faulty_names (units_in l.names) l.fault (code_view l.code) (map global_view l.globals)))
    × Grows l.initial.known.keys l.known.keys
