use Rattle.std.proofs.Common.{◌≡◌, ◌++◌, ◌∙◌, ap, sym, map, refl, append-nil, arith}
use Rattle.pli_code.specs.CodeTables.{there}
use Rattle.pli_code.specs.views.CodeView.{global_view}
use Rattle.pli_link.specs.Links.{link_in, links_of}
use Rattle.pli_link.proofs.LoopLemmas.{more_joined}
use Rattle.pli_link.proofs.links.links_of.Goals as goal
use Rattle.pli_link.proofs.links.links_of.Goals.{in-Some+in_ok-push, in_default}

pub loop-global-preserved : goal.loop-global-preserved
loop-global-preserved c = λ names numbered.
    let procedures = c.args.procedures.now.entries in
    let before = c.loop-global.links.items in
    let next : c.match-link_in.links.items ≡ before ++ there c.link_in.result =
    elim c.match-link_in.branch [
      | in-Some+in_ok-push w ↦ ap (λ v. v.items) w.links-is ∙ w.in_ok-push.ensures.items ∙ ap (λ r. before ++ there r) (sym w.in-Some.is)
      | in_default w ↦ ap (λ v. v.items) w.links-is ∙ sym (append-nil before) ∙ ap (λ r. before ++ there r) (sym w.in_default.is)
    ] in
    more_joined (λ gs. links_of names procedures (map global_view gs)) (λ g. link_in names procedures (global_view g)) (λ g gs. refl)
    c.args.globals.now c.loop-global.global-index c.global-item.result before _ _ (omega (arith, c.loop-global-test.true)) c.global-item.is
    (next ∙ ap (λ l. before ++ l) (c.link_in.ensures names numbered)) (c.loop-global.invariant names numbered)
