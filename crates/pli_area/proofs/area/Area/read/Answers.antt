use Rattle.std.proofs.Common.{◌∙◌, length, arith}
use Rattle.pli_area.proofs.Writings.{part_inside, part_read}
use Rattle.pli_area.proofs.area.Area.read.Goals as goal

pub overflow_add-position : goal.overflow_add-position
overflow_add-position c =
    let inside = part_inside c.self.invariant c.args.position c.args.at (length c.args.into.now) (rw (← c.self.view_is) at c.requires) in
    omega (arith, inside, c.self.invariant.small)

pub read_into-requires : goal.read_into-requires
read_into-requires c = part_inside c.self.invariant c.args.position c.args.at (length c.args.into.now) (rw (← c.self.view_is) at c.requires)

pub returns : goal.returns
returns c =
    rw (← c.self.view_is) (c.read_into.ensures ∙ part_read c.self.invariant c.args.position c.args.at (length c.args.into.now) (rw (← c.self.view_is) at c.requires))
