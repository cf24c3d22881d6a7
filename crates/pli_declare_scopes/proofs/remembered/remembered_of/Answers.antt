use Rattle.std.proofs.Common.{◌≡◌, IfSome, sym, subst, ◌∙◌}
use Rattle.pli_declare_scopes.proofs.RememberedLemmas.{recalled}
use Rattle.pli_declare_scopes.proofs.remembered.remembered_of.Goals as goal

pub returns : goal.returns
returns c =
    λ find all. subst (λ r. IfSome r (λ found. found ≡ find c.args.names.now)) (sym (c.copied.ensures ∙ c.get.ensures.value))
    (recalled find c.args.names.now c.args.remembered.now.entries all)
