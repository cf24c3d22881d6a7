use Rattle.std.proofs.Common.{◌≤◌, ◌∙◌, length, ap, sym, subst, arith}
use Rattle.pli_area.specs.Held.{IsHeld}
use Rattle.pli_area.specs.views.AreaView.{blocks_from}
use Rattle.pli_area.proofs.Assignments.{assigned_blocks, assigned_held, extent_even}
use Rattle.pli_area.proofs.area.Area.assign.Goals as goal

pub put_last-requires-clause-aligned : goal.put_last-requires-clause-aligned
put_last-requires-clause-aligned c = extent_even c.self.invariant c.source.invariant

pub invariant_of-self : goal.invariant_of-self
invariant_of-self c =
    let s = c.source.inside in
    let fits : s.extent ≤ length c.self.inside.region = omega (arith, c.len.ensures, c.if-extent-len.false) in
    subst (λ marks. IsHeld c.put_last.new.region marks s.chain.first s.extent s.count) (sym c.take_over.ensures)
    (assigned_held c.self.invariant c.source.invariant fits c.copy_from.new.self c.put_last.new.region c.copy_from.ensures c.put_last.ensures.leads c.put_last.ensures.kept)

pub returns-clause-assigned : goal.returns-clause-assigned
returns-clause-assigned c =
    let s = c.source.inside in
    let fits : s.extent ≤ length c.self.inside.region = omega (arith, c.len.ensures, c.if-extent-len.false) in
    rw (← c.source.view_is) (ap (blocks_from c.put_last.new.region 0) c.take_over.ensures
    ∙ assigned_blocks c.self.invariant c.source.invariant fits c.copy_from.new.self c.put_last.new.region c.copy_from.ensures c.put_last.ensures.leads c.put_last.ensures.kept)
