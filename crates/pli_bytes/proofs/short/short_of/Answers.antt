use Rattle.std.proofs.Common.{◌≡◌, ◌∙◌, arith}
use Rattle.pli_value.specs.Short.{short_view}
use Rattle.pli_bytes.proofs.ShortBytes.{none_shown, read_small, read_shown}
use Rattle.pli_bytes.proofs.short.short_of.Goals as goal

pub returns-then-size-eq0 : goal.returns-then-size-eq0
returns-then-size-eq0 c =
    let none : c.args.count ≡ 0 = omega (arith, c.div_ceil-size.ensures, c.if-size-eq0.true) in
    none_shown c.args.count c.args.bytes.now (short_view c.empty.result) none c.empty.ensures

pub new-requires : goal.new-requires
new-requires c = record {
  few = c.requires.few;
  small = read_small c.args.bytes.now c.args.count c.div_ceil-size.result c.number_of.result (λ k. omega (arith, c.type_inv.bytes k)) c.div_ceil-size.ensures c.number_of.ensures;
}

pub returns : goal.returns
returns c =
    c.new.ensures
    ∙ read_shown c.args.bytes.now c.args.count c.div_ceil-size.result c.number_of.result (λ k. omega (arith, c.type_inv.bytes k)) c.div_ceil-size.ensures c.number_of.ensures
