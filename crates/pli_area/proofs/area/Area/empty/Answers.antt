use Rattle.std.proofs.Common.{◌≡◌, ◌∙◌, ◌/◌, false, replicate, length, ap, arith}
use Rattle.pli_area.specs.views.AreaView.{blocks_from}
use Rattle.pli_area.proofs.HeldLemmas.{created}
use Rattle.pli_area.proofs.MarkLemmas.{no_blocks}
use Rattle.pli_area.proofs.area.Area.empty.Goals as goal

pub invariant_of-self : goal.invariant_of-self
invariant_of-self c =
    let held = c.self.invariant in
    let eighth : length c.self.inside.marks ≡ length c.self.inside.region / 8 = omega (arith, held.marked) in
    created c.whole-self-inside.new.region c.clear.new.self (length c.self.inside.region) c.whole-self-inside.result.first c.whole-self-inside.ensures.count held.aligned held.small (c.clear.ensures ∙ ap (λ n. replicate n false) eighth) c.whole-self-inside.ensures.spelled

pub returns-clause-blocks : goal.returns-clause-blocks
returns-clause-blocks c = ap (blocks_from c.whole-self-inside.new.region 0) c.clear.ensures ∙ no_blocks c.whole-self-inside.new.region 0 (length c.self.inside.marks)
