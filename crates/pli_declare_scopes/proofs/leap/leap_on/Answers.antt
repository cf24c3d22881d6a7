use Rattle.std.proofs.Common.{◌≡◌, ◌<◌, ℕ, length, IfSome, sym, subst, ◌∙◌}
use Rattle.pli_declare_scopes.specs.answers.Leaps.{AreLeaps}
use Rattle.pli_declare_scopes.proofs.LeapsKept.{leaps_more}
use Rattle.pli_declare_scopes.proofs.leap.leap_on.Goals as goal

pub returns : goal.returns
returns c = λ items item kept link.
    let leaps = c.args.leaps.now.items in
    let leap = c.leap_from-leap.result in
    let before = c.args.before in
    let read : c.deref.result.now ≡ leaps = c.deref.ensures.value in
    let number : c.args.number ≡ length items = c.requires.all ∙ kept.all in
    let within = subst (λ (n : ℕ). IfSome before (λ b. b < n)) kept.all c.requires.within in
    rw c.push_within.ensures (leaps_more items leaps kept item leap before link within
    (λ e. c.leap_from-leap.ensures.none e ∙ number)
    (λ name b is h. c.leap_from-leap.ensures.some items name b (subst (AreLeaps items) (sym read) kept) is h)
    c.leap_from-leap.ensures.back)
