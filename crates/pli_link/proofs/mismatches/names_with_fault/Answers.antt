use Rattle.std.proofs.Common.{◌≡◌, ◌∙◌, ap, sym, arith}
use Rattle.std.proofs.lemmas.Grind.{common_steps}
use Rattle.pli_link.specs.answers.Tables.{HaveClasses, units_in}
use Rattle.pli_code.specs.views.CodeView.{code_view}
use Rattle.pli_link.proofs.ClassLemmas.{classed_stay, grows_not, grows_on}
use Rattle.pli_link.proofs.MismatchLemmas.{put, one_global, all_globals}
use Rattle.pli_link.proofs.mismatches.names_with_fault.Goals as goal
use Rattle.pli_link.proofs.mismatches.names_with_fault.Goals.{in-Some+in_ok-insert, in_default}

pub loop-global-init : goal.loop-global-init
loop-global-init c = (grind (arith, common_steps), grows_not c.args.known.now.keys)

pub loop-global-preserved : goal.loop-global-preserved
loop-global-preserved c =
    let before = c.args.known.now.keys in
    let known = c.class_for.new.known.keys in
    let grown = grows_on before c.loop-global.known.keys known c.loop-global.invariant.1 c.in_ok-class.ensures.grows in
    let have : HaveClasses known c.args.names.now = classed_stay before known c.args.names.now.externals.now.entries grown c.requires.classes in
    let names = c.loop-global.found.keys in
    let next : c.match-faulty_name.found.keys ≡ put c.faulty_name.result names =
    elim c.match-faulty_name.branch [
      | in-Some+in_ok-insert w ↦ ap (λ v. v.keys) w.found-is ∙ w.in_ok-insert.ensures.keys ∙ ap (λ r. put r names) (sym w.in-Some.is)
      | in_default w ↦ ap (λ v. v.keys) w.found-is ∙ ap (λ r. put r names) (sym w.in_default.is)
    ] in (
      one_global (units_in c.args.names.now) c.args.fault (code_view c.args.code.now) c.args.globals.now c.loop-global.global-index c.global-item.result names _ _ c.faulty_name.result
          (omega (arith, c.loop-global-test.true)) c.global-item.is (c.faulty_name.ensures known have c.in_ok-class.ensures.class) next c.loop-global.invariant.0,
      grown,
    )

pub returns-clause-found : goal.returns-clause-found
returns-clause-found c =
    all_globals (units_in c.args.names.now) c.args.fault (code_view c.args.code.now) c.args.globals.now c.loop-global.global-index c.loop-global.found.keys _
    (omega (arith, c.loop-global-test.false)) c.loop-global.invariant.0

pub returns-clause-grows : goal.returns-clause-grows
returns-clause-grows c = c.loop-global.invariant.1

pub returns-in_err-class-clause-grows : goal.returns-in_err-class-clause-grows
returns-in_err-class-clause-grows c =
    grows_on c.args.known.now.keys c.loop-global.known.keys c.class_for.new.known.keys c.loop-global.invariant.1 c.class_for.ensures.grows

pub returns-in_err-insert-clause-grows : goal.returns-in_err-insert-clause-grows
returns-in_err-insert-clause-grows c =
    grows_on c.args.known.now.keys c.loop-global.known.keys c.class_for.new.known.keys c.loop-global.invariant.1 c.class_for.ensures.grows
