use Rattle.std.proofs.Common.{◌∙◌, ap, arith, map}
use Rattle.std.proofs.lemmas.Grind.{common_steps}
use Rattle.pli_link.specs.Mismatches.{each_once, faulty_names, linked_in}
use Rattle.pli_link.specs.answers.Tables.{units_in}
use Rattle.pli_code.specs.views.CodeView.{code_view, global_view}
use Rattle.pli_link.proofs.ClassLemmas.{classed_stay, grows_not, grows_on}
use Rattle.pli_link.proofs.MismatchLemmas.{one_unit}
use Rattle.pli_link.proofs.mismatches.faulty_names.Goals as goal

pub loop-unit-init : goal.loop-unit-init
loop-unit-init c = (grind (arith, common_steps), grows_not c.args.known.now.keys)

pub names_with_fault-requires-clause-classes : goal.names_with_fault-requires-clause-classes
names_with_fault-requires-clause-classes c =
    classed_stay c.args.known.now.keys c.loop-unit.known.keys c.args.names.now.externals.now.entries c.loop-unit.invariant.1 c.requires.classes

pub returns-in_err-found-clause-grows : goal.returns-in_err-found-clause-grows
returns-in_err-found-clause-grows c =
    grows_on c.args.known.now.keys c.loop-unit.known.keys c.names_with_fault.new.known.keys c.loop-unit.invariant.1 c.names_with_fault.ensures.grows

pub returns-in_err-add_linked-clause-grows : goal.returns-in_err-add_linked-clause-grows
returns-in_err-add_linked-clause-grows c =
    grows_on c.args.known.now.keys c.loop-unit.known.keys c.names_with_fault.new.known.keys c.loop-unit.invariant.1 c.names_with_fault.ensures.grows

pub returns-clause-grows : goal.returns-clause-grows
returns-clause-grows c = c.loop-unit.invariant.1

pub loop-unit-preserved : goal.loop-unit-preserved
loop-unit-preserved c =
    let cs = units_in c.args.names.now in
    let unit = c.unit-item.result in
    let told = c.in_ok-found.ensures.found ∙ ap (λ gs. each_once _ (faulty_names cs c.args.fault (code_view unit.deck.now.code) (map global_view gs))) c.deref.ensures.value in (
      one_unit cs c.args.fault c.args.units.now c.loop-unit.unit-index unit c.loop-unit.linked.items c.add_linked.new.linked.items (linked_in unit.unit c.in_ok-found.found.keys) _
          (omega (arith, c.loop-unit-test.true)) c.unit-item.is c.in_ok-add_linked.ensures (ap (linked_in unit.unit) told) c.loop-unit.invariant.0,
      grows_on c.args.known.now.keys c.loop-unit.known.keys c.names_with_fault.new.known.keys c.loop-unit.invariant.1 c.in_ok-found.ensures.grows,
    )
