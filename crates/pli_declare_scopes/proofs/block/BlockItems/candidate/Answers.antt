use Rattle.std.proofs.Common.{[], None, Some, sym, subst, arith}
use Rattle.pli_declare_scopes.specs.answers.Leaps.{IsLastUpTo}
use Rattle.pli_declare_scopes.specs.answers.Reaches.{IsReach, IsCandidate}
use Rattle.pli_declare_scopes.proofs.CandidateLemmas.{candidate_none, candidate_some}
use Rattle.pli_declare_scopes.proofs.block.BlockItems.candidate.Goals as goal

pub returns-in_err-reached : goal.returns-in_err-reached
returns-in_err-reached c =
    let items = c.self.inside.items.items in
    let names = c.args.names.now in
    let last = c.in_ok-last.ensures.item.3 in
    subst (λ o. IsCandidate c.args.self.now names c.args.number o) (sym c.from_residual-in_err-reached.ensures)
    (subst (λ is. IsCandidate is names c.args.number None) c.self.view_is
    (candidate_none items c.self.invariant.0.owners names last.0 c.args.number
    (subst (λ is. IsReach is names c.args.number None) (sym c.self.view_is) (subst (λ o. IsReach c.args.self.now names c.args.number o) c.in_err-reached.was c.reached.ensures))))

pub returns : goal.returns
returns c =
    let items = c.self.inside.items.items in
    let names = c.args.names.now in
    let last = c.in_ok-last.ensures.item.3 in
    let far : IsReach c.args.self.now names c.args.number (Some c.in_ok-reached.reached) =
    subst (λ o. IsReach c.args.self.now names c.args.number o) c.in_ok-reached.was c.reached.ensures in
    let both : IsReach c.args.self.now names c.args.number (Some c.min-bound.result) =
    λ n lt le counts part. omega (arith, c.min-bound.ensures, far n lt le counts part, c.reached_apart.ensures n lt le counts part) in
    subst (λ is. IsCandidate is names c.args.number c.last_up_to.result) c.self.view_is
    (candidate_some items c.self.invariant.0.owners names last.0 c.args.number c.min-bound.result c.min.result
    (subst (λ is. IsReach is names c.args.number (Some c.min-bound.result)) (sym c.self.view_is) both)
    c.min.ensures c.last_up_to.result
    (subst (λ x. IsLastUpTo items x c.min.result c.last_up_to.result) (last.1 [])
    (subst (λ is. IsLastUpTo is c.in_ok-last.last.now c.min.result c.last_up_to.result) (sym c.self.view_is) c.last_up_to.ensures)))
