use Rattle.std.proofs.Common.{subst, sym, ap, ◌∙◌, Option, Some}
use Rattle.pli_base.specs.Words.{Tokens}
use Rattle.pli_ledger.specs.answers.Compiling.{recompiled, unit_is_stale}
use Rattle.pli_ledger.specs.views.KeptView.{HaveResult, texts_of}
use Rattle.pli_ledger.proofs.UnitKept.{result_put}
use Rattle.pli_ledger.proofs.kept.KeptUnit.put_result.Goals as goal

pub invariant_of-self : goal.invariant_of-self
invariant_of-self c =
    let inside = c.self.inside in
    let stale = ap unit_is_stale c.self.view_is ∙ c.requires.stale in
    let put = result_put inside.last (texts_of inside.last inside.before inside.compiled) c.args.compiled stale in
    subst (λ (t : Option Tokens). HaveResult t (Some c.args.compiled)) (ap (λ u. (recompiled u).1.compiled) (sym c.self.view_is) ∙ sym put) c.requires.result

pub returns : goal.returns
returns c =
    let inside = c.self.inside in
    let stale = ap unit_is_stale c.self.view_is ∙ c.requires.stale in
    let put = result_put inside.last (texts_of inside.last inside.before inside.compiled) c.args.compiled stale in
    (λ i. (inside.name, record { expansion = inside.last; compiled = put i })) ∙ ap recompiled c.self.view_is
