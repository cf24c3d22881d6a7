use Rattle.std.proofs.Common.{◌≡◌, ◌<◌, ◌++◌, ◌∷◌, [], ℕ, length, IfSome, sym, ap, subst, ◌∙◌}
use Rattle.pli_declare_scopes.specs.answers.Reaches.{outermost_of}
use Rattle.pli_declare_scopes.proofs.IndexKept.{owners_added}
use Rattle.pli_declare_scopes.proofs.ReachesKept.{noted_within, reaching_more}
use Rattle.pli_declare_scopes.proofs.reach.reach_on.Goals as goal

pub outermost-top-requires-clause-within : goal.outermost-top-requires-clause-within
outermost-top-requires-clause-within c =
    subst (λ (n : ℕ). IfSome c.args.before (λ b. b < n)) (sym c.requires.reaching.tops_all ∙ sym (ap length c.deref-2.ensures.value))
    (noted_within c.args.items.now c.args.item.now c.args.before c.requires.before c.requires.none)

pub returns : goal.returns
returns c =
    let items = c.args.items.now in
    let item = c.args.item.now in
    let before = c.args.before in
    let lasts = c.args.lasts.now.items in
    let tops = c.args.tops.now.items in
    let now = c.close-is_after.new.lasts.items in
    let within = noted_within items item before c.requires.before c.requires.none in
    let reaching = reaching_more items c.requires.owners lasts now tops c.args.is_ordered c.is_in_order.result c.requires.reaching item c.requires.owned before
    c.requires.before within c.close-is_after.result c.close-is_after.ensures.closed
    c.is_in_order.ensures.so_far c.is_in_order.ensures.after c.is_in_order.ensures.counted (owners_added items item c.requires.owners c.requires.owned) in
    let top : c.outermost-top.result ≡ outermost_of now tops before (length items) =
    c.outermost-top.ensures ∙ ap (λ ls. outermost_of ls c.deref-2.result.now before (length items)) c.deref.ensures.value
    ∙ ap (λ ts. outermost_of now ts before (length items)) c.deref-2.ensures.value in
    let tops_now = c.push_within-2.ensures ∙ ap (λ t. tops ++ t ∷ []) top in
    rw c.push_within.ensures (rw tops_now reaching)
