use Rattle.std.proofs.Common.{◌≡◌, ◌<◌, Some, None, length, IfSome, subst, sym, ap, ◌∙◌, rules}
use Rattle.std.proofs.lemmas.List.{get_or_default}
use Rattle.pli_declare_constructs.specs.Regions.{innermost, blocks_from}
use Rattle.pli_declare_constructs.proofs.BlocksAround.{finds}
use Rattle.pli_declare_constructs.proofs.nesting.Nesting.innermost.Goals as goal

found : (c : goal.After-result-1) → c.index.result.now ≡ innermost c.args.self.now c.args.region
found c =
    let lt : c.args.region < length c.self.inside.innermost.items = search rules in
    c.index.ensures ∙ get_or_default c.self.inside.innermost.items c.args.region c.index.result.now None lt ∙ c.self.invariant.each c.args.region
    ∙ ap (λ regions. innermost regions c.args.region) c.self.view_is

pub returns-then-region-len-clause-blocks : goal.returns-then-region-len-clause-blocks
returns-then-region-len-clause-blocks c = (finds c.args.self.now c.args.region).blocks ∙ ap (blocks_from c.args.self.now) (sym (found c))

pub returns-then-region-len-clause-itself : goal.returns-then-region-len-clause-itself
returns-then-region-len-clause-itself c = subst (λ r. IfSome r (λ b. innermost c.args.self.now b ≡ Some b)) (sym (found c)) (finds c.args.self.now c.args.region).itself

pub returns-then-region-len-clause-within : goal.returns-then-region-len-clause-within
returns-then-region-len-clause-within c = subst (λ r. IfSome r (λ b. b < length c.args.self.now)) (sym (found c)) (finds c.args.self.now c.args.region).within
