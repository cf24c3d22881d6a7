use Rattle.std.proofs.Common.{◌∙◌, length, ap, sym, subst, arith}
use Rattle.pli_area.specs.Held.{IsHeld}
use Rattle.pli_area.specs.views.AreaView.{blocks_from}
use Rattle.pli_area.proofs.Writings.{part_inside, written_blocks, written_count, written_held}
use Rattle.pli_area.proofs.area.Area.write.Goals as goal

pub overflow_add-position : goal.overflow_add-position
overflow_add-position c =
    let inside = part_inside c.self.invariant c.args.position c.args.at (length c.args.from.now) (rw (← c.self.view_is) at c.requires) in
    omega (arith, inside, c.self.invariant.small)

pub write_from-requires : goal.write_from-requires
write_from-requires c = part_inside c.self.invariant c.args.position c.args.at (length c.args.from.now) (rw (← c.self.view_is) at c.requires)

pub invariant_of-self : goal.invariant_of-self
invariant_of-self c =
    let f = c.self.inside in
    subst (λ bs. IsHeld bs f.marks f.chain.first f.extent f.count) (sym c.write_from.ensures) (written_held c.self.invariant c.args.position c.args.at c.args.from.now (rw (← c.self.view_is) at c.requires))

pub returns-clause-blocks : goal.returns-clause-blocks
returns-clause-blocks c =
    rw (← c.self.view_is) (ap (λ bs. blocks_from bs 0 c.self.inside.marks) c.write_from.ensures ∙ written_blocks c.self.invariant c.args.position c.args.at c.args.from.now (rw (← c.self.view_is) at c.requires))

pub returns-clause-capacity : goal.returns-clause-capacity
returns-clause-capacity c =
    rw (← c.self.view_is) (ap length c.write_from.ensures ∙ written_count c.self.invariant c.args.position c.args.at c.args.from.now (rw (← c.self.view_is) at c.requires))
