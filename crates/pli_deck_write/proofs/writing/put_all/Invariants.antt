use Rattle.std.proofs.Common.{◌≡◌, ◌++◌, map, drop}
use Rattle.std.specs.List.{flat_map}
use Rattle.pli_deck_write.proofs.writing.put_all.Given as goal

-- what was put so far, in front of what is left, is all that is put
abbrev pub invariant-loop-value : goal.invariant-loop-value
invariant-loop-value g l =
    let bytes_of = g.P.PutsOne.bytes_of l.writer in
    let say = g.P.PutsOne.say in
    l.out.items ++ flat_map bytes_of (map say (drop l.value-index l.values)) ≡ l.fn.out.items ++ flat_map bytes_of (map say l.values)
