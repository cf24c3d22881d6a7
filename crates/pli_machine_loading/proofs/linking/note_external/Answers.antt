use Rattle.std.proofs.Common.{Some, nat_eq, ap, ◌∙◌, if◌then◌else◌}
use Rattle.pli_machine_loading.proofs.ExternalPlaces.{noted_in}
use Rattle.pli_machine_loading.proofs.linking.note_external.Goals as goal

pub returns : goal.returns
returns c = λ other.
    noted_in c.make_room.new.externals.items c.args.number c.args.standing c.in_ok-make_room.ensures.room other
    ∙ ap (λ o. if nat_eq other c.args.number then Some c.args.standing else o) (c.in_ok-make_room.ensures.same other)
