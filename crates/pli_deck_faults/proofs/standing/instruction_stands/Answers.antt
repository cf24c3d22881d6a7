use Rattle.std.proofs.Common.{sym, ap}
use Rattle.std.specs.List.{list_all}
use Rattle.pli_deck_write.specs.DeckFaults.{is_there}
use Rattle.pli_code.specs.views.CodeView.{code_view}
use Rattle.pli_deck_faults.proofs.NamelessLemmas.{names_nothing}
use Rattle.pli_deck_faults.proofs.standing.instruction_stands.Goals as goal

pub returns-in_default : goal.returns-in_default
returns-in_default c =
    sym (ap (list_all (is_there (code_view c.args.code.now))) (names_nothing c.args.instruction.now c.in_default.not-Call c.in_default.not-CallExternal c.in_default.not-Begin c.in_default.not-Global c.in_default.not-Based c.in_default.not-Field c.in_default.not-Constant c.in_default.not-MakeDummy c.in_default.not-Fit c.in_default.not-AllocateControlled c.in_default.not-FreeControlled c.in_default.not-CountGenerations c.in_default.not-AllocateBased c.in_default.not-AllocateInArea c.in_default.not-FreeBased c.in_default.not-On))
