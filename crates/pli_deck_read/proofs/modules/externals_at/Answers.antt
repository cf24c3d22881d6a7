use Rattle.std.proofs.Common.{◌≡◌, ◌-◌, ◌+◌, ◌++◌, ◌∷◌, [], List, map, None, Ok, ap, ◌∙◌, subst}
use Rattle.std.proofs.lemmas.List.{map_push}
use Rattle.pli_deck_write.specs.ModuleFields.{external_after, many_after}
use Rattle.pli_code.specs.views.CodeView.{external_view}
use Rattle.pli_code.specs.declared.module.External.{External}
use Rattle.pli_deck_read.specs.Earlier.{last_of}
use Rattle.pli_base.specs.answers.FailureAnswers.{Fails}
use Rattle.pli_deck_read.proofs.LoopLemmas.{with_front}
use Rattle.pli_deck_read.proofs.LoopAfterLemmas.{last_pushed, goes_on_after, ends_after, is_done_after}
use Rattle.pli_deck_read.proofs.modules.externals_at.Goals as goal

pub returns-in-Err : goal.returns-in-Err
returns-in-Err c =
    let front = map external_view c.loop.externals.items in
    let e = c.in-Err.error in
    let failed : Fails e ((external_after (last_of front)).read c.loop.rest.now) =
    subst (λ (xs : List External). Fails e ((external_after (last_of (map external_view xs))).read c.loop.rest.now)) c.deref.ensures.value c.in-Err.ensures in
    ends_after external_after (last_of front) e front c.args.count c.loop.counter c.loop.rest.now (many_after external_after None c.args.count c.args.bytes.now)
    c.loop-test.true failed c.loop.invariant

pub loop-preserved : goal.loop-preserved
loop-preserved c =
    let front = map external_view c.loop.externals.items in
    let n = c.in-Ok.external in
    let after = c.in-Ok.after.now in
    let left = c.args.count - (c.loop.counter + 1) in
    let ok : (external_after (last_of front)).read c.loop.rest.now ≡ Ok (external_view n, after) =
    subst (λ (xs : List External). (external_after (last_of (map external_view xs))).read c.loop.rest.now ≡ Ok (external_view n, after)) c.deref.ensures.value c.in-Ok.ensures in
    let pushed : map external_view c.push.new.self.items ≡ front ++ external_view n ∷ [] = rw c.in_ok-push-in-Ok.ensures.items (map_push _ c.loop.externals.items n) in
    ap (λ es. with_front es (many_after external_after (last_of es) left after)) pushed
    ∙ ap (λ b. with_front (front ++ external_view n ∷ []) (many_after external_after b left after)) (last_pushed front (external_view n))
    ∙ goes_on_after external_after (last_of front) front c.args.count c.loop.counter c.loop.rest.now (external_view n) after
    (many_after external_after None c.args.count c.args.bytes.now) c.loop-test.true ok c.loop.invariant

pub returns : goal.returns
returns c =
    let front = map external_view c.loop.externals.items in
    is_done_after external_after (last_of front) front c.args.count c.loop.counter c.loop.rest.now (many_after external_after None c.args.count c.args.bytes.now)
    c.loop-test.false c.loop.invariant
