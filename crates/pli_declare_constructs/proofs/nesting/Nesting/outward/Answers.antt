use Rattle.std.proofs.Common.{◌≡◌, ◌<◌, ◌∷◌, None, length, subst, sym, ap, ◌∙◌, arith}
use Rattle.std.proofs.lemmas.List.{get_or_default}
use Rattle.pli_declare_constructs.specs.Regions.{innermost, blocks_from}
use Rattle.pli_declare_constructs.proofs.BlocksAround.{Outwards, leads, within_it, next, next_before, next_after, next_none}
use Rattle.pli_declare_constructs.proofs.nesting.Nesting.outward.Goals as goal

some : (c : goal.After-result-1) → Outwards c.args.self.now c.args.block c.index-in-Some.result.now
some c =
    let regions = c.self.inside.regions.items in
    let blocks = c.self.inside.innermost.items in
    let leads : Outwards c.args.self.now c.args.block (next c.args.self.now c.args.block c.index.result.now.outer) = leads c.args.self.now regions c.self.view_is c.args.block c.requires c.index.result.now c.index.ensures in
    let within : c.in-Some.outer < length blocks =
    omega (arith, c.if-outer-block.true, within_it c.args.self.now c.args.block c.requires, c.self.invariant.count, ap length c.self.view_is) in
    let found : c.index-in-Some.result.now ≡ innermost c.args.self.now c.in-Some.outer =
    c.index-in-Some.ensures ∙ get_or_default blocks c.in-Some.outer c.index-in-Some.result.now None within ∙ c.self.invariant.each c.in-Some.outer
    ∙ ap (λ rs. innermost rs c.in-Some.outer) c.self.view_is in
    subst (Outwards c.args.self.now c.args.block) (next_before c.args.self.now c.args.block c.index.result.now.outer c.in-Some.outer c.in-Some.is c.if-outer-block.true ∙ sym found) leads

pub returns-in-Some-clause-blocks : goal.returns-in-Some-clause-blocks
returns-in-Some-clause-blocks c = (some c).blocks

pub returns-in-Some-clause-itself : goal.returns-in-Some-clause-itself
returns-in-Some-clause-itself c = (some c).itself

pub returns-in-Some-clause-before : goal.returns-in-Some-clause-before
returns-in-Some-clause-before c = (some c).earlier

pub returns-in_default-clause-blocks : goal.returns-in_default-clause-blocks
returns-in_default-clause-blocks c =
    let leads : Outwards c.args.self.now c.args.block (next c.args.self.now c.args.block c.index.result.now.outer) = leads c.args.self.now c.self.inside.regions.items c.self.view_is c.args.block c.requires c.index.result.now c.index.ensures in
    leads.blocks ∙ ap (λ r. c.args.block ∷ blocks_from c.args.self.now r) (next_after c.args.self.now c.args.block c.index.result.now.outer c.in-Some.outer c.in-Some.is c.if-outer-block.false)

pub returns-in_default-2-clause-blocks : goal.returns-in_default-2-clause-blocks
returns-in_default-2-clause-blocks c =
    let leads : Outwards c.args.self.now c.args.block (next c.args.self.now c.args.block c.index.result.now.outer) = leads c.args.self.now c.self.inside.regions.items c.self.view_is c.args.block c.requires c.index.result.now c.index.ensures in
    leads.blocks ∙ ap (λ r. c.args.block ∷ blocks_from c.args.self.now r) (next_none c.args.self.now c.args.block c.index.result.now.outer c.in_default.is)
