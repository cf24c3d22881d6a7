use Rattle.std.proofs.Common.{None, Some, Ok, sym, ap, subst, ◌∙◌}
use Rattle.std.specs.Prelude.{option_map, get_or}
use Rattle.std.proofs.lemmas.Result.{err_from_is_err_and}
use Rattle.pli_code.specs.CodeTables.{variable_at}
use Rattle.pli_code.specs.views.CodeView.{code_view}
use Rattle.pli_machine_loading.specs.answers.MadeGlobals.{Placed}
use Rattle.pli_machine_loading.specs.declared.shared.Shared.{Shared}
use Rattle.pli_machine_loading.specs.views.StandingView.{standing_view}
use Rattle.pli_machine_loading.proofs.ExternalPlaces.{placed_noted, placed_out, known_same, known_new}
use Rattle.pli_machine_loading.proofs.linking.make_external.Goals as goal

pub returns-in_ok-note_external-in-Ok-Some : goal.returns-in_ok-note_external-in-Ok-Some
returns-in_ok-note_external-in-Ok-Some c = λ statics externals known.
    let v = variable_at (code_view c.args.code.now) c.args.template in
    let old = c.args.shared.now in
    let mid = c.make_variable.new.shared in
    let new : Shared = record { storage = mid.storage; stacks = mid.stacks; externals = c.note_external.new.externals } in
    record {
      placed =
          placed_noted c.args.kind v _ old mid c.note_external.new.externals statics (Ok (Some c.in-Ok-Some.standing))
          (subst (λ b. Placed c.args.kind v b old mid statics (Ok (Some c.in-Ok-Some.standing)))
          (sym (known c.args.number ∙ ap (option_map standing_view) c.requires))
          (subst (λ o. Placed c.args.kind v None old mid statics (Ok o)) c.in-Ok-Some.field-0-is (c.in-Ok-Some.ensures.placed statics)));
      known =
          known_new mid new externals c.args.number c.in-Ok-Some.standing (known_same old mid externals known c.in-Ok-Some.ensures.same)
          (ap (λ xs. get_or xs.items c.args.number None) c.in-Ok-Some.ensures.same ∙ c.requires) c.in_ok-note_external-in-Ok-Some.ensures;
    }

pub returns-in_err-note_external-in-Ok-Some : goal.returns-in_err-note_external-in-Ok-Some
returns-in_err-note_external-in-Ok-Some c = λ statics externals known.
    let p = err_from_is_err_and c.from_residual.result c.from_residual.ensures.1 in
    let v = variable_at (code_view c.args.code.now) c.args.template in
    let old = c.args.shared.now in
    let mid = c.make_variable.new.shared in
    rw (p.1, p.2)
    (record {
      placed =
          placed_out c.args.kind v None _ old mid _ statics c.in-Ok-Some.standing
          (subst (λ o. Placed c.args.kind v None old mid statics (Ok o)) c.in-Ok-Some.field-0-is (c.in-Ok-Some.ensures.placed statics));
      known = tt;
    })
