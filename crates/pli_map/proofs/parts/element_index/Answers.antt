use Rattle.std.proofs.Common.{◌≡◌, ◌+◌, ◌*◌, min, length, Some, arith, sym, ap, rules}
use mir.Val.{SFits}
use Rattle.std.specs.Int.{w32}
use Rattle.std.proofs.lemmas.Int.{to_z-of_z}
use Rattle.pli_map.specs.Sizes.{extent_of}
use Rattle.pli_map.specs.Parts.{distance_of}
use Rattle.pli_map.proofs.Counts.{index_unequal, index_left}
use Rattle.pli_map.proofs.parts.element_index.Goals as goal

pub returns-then-dimensions-subscripts : goal.returns-then-dimensions-subscripts
returns-then-dimensions-subscripts c = let none = index_unequal c.args.dimensions.now c.args.subscripts.now c.if-dimensions-subscripts.true in rw none

pub loop-bounds-preserved : goal.loop-bounds-preserved
loop-bounds-preserved c =
    let l = c.loop-bounds in
    let turn = c.in-Some.ensures.steps in
    let fits : SFits w32 c.in-Some.subscript.now = search rules in
    let distance : distance_of c.in-Some.bounds.now c.in-Some.subscript.now ≡ Some c.in_ok-distance.distance = sym (simp to_z-of_z at c.in_ok-distance.ensures.value) in
    let next : c.min-index.result ≡ min (l.index * extent_of c.in-Some.bounds.now + c.in_ok-distance.distance) 1000001 = cc in
    record {
      whole = index_left _ _ _ _ _ _ _ l.index _ _ turn.0 turn.1 distance next l.invariant.whole;
      lengths = omega (arith, ap length turn.0, ap length turn.1, l.invariant.lengths);
      limit = omega (arith, next);
    }
