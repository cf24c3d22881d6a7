use Rattle.std.proofs.Common.{None, length, refl, sym}
use Rattle.std.proofs.lemmas.List.{get_or_past}
use Rattle.std.proofs.lemmas.Option.{slice_get_read, get_or_from_slice_get}
use Rattle.pli_machine_loading.proofs.linking.known_standing.Goals as goal

pub returns-in-Some : goal.returns-in-Some
returns-in-Some c =
    let xs = c.args.externals.now in
    let x = c.in-Some.standing.now in
    let h = c.in-Some.ensures.lookup in
    sym (get_or_from_slice_get xs c.args.number x None (slice_get_read xs (length xs) c.args.number x refl h.3.0 h.1))

pub returns-in-None : goal.returns-in-None
returns-in-None c = sym (get_or_past c.args.externals.now c.args.number None c.in-None.ensures.lookup.3)
