use Rattle.std.proofs.Common.{◌-◌, ◌/◌, ◌^◌, ◌∙◌, arith}
use Rattle.pli_value.proofs.ShortLemmas.{part_small, part_shown}
use Rattle.pli_value.proofs.short_bits.ShortBits.part.Goals as goal

pub ones-requires : goal.ones-requires
ones-requires c = omega (arith, c.requires, c.args.self.few)

pub new-requires : goal.new-requires
new-requires c = record {
  few = omega (arith, c.requires, c.args.self.few);
  small = part_small (c.args.self.number / 2 ^ (c.args.self.count - c.args.before - c.args.count)) c.args.count c.ones.result c.ones.ensures;
}

pub returns : goal.returns
returns c = c.new.ensures ∙ part_shown c.args.self.count c.args.self.number c.args.before c.args.count c.ones.result c.requires c.ones.ensures
