use Rattle.std.proofs.Common.{List, ap, ◌∙◌}
use Rattle.pli_base.specs.Name.{Name}
use Rattle.pli_members.specs.views.Fields.{next_version}
use Rattle.pli_members.specs.Members.{Store, Member}
use Rattle.pli_members.specs.answers.Search.{IsPlace}
use Rattle.pli_members.proofs.StaysKept.{kept_deleted}
use Rattle.pli_members.proofs.members.Members.delete.Goals as goal

-- the store without the member
pub invariant_of-self : goal.invariant_of-self
invariant_of-self c =
    let s : Store = record { entries = c.self.inside.entries.items; next = next_version c.self.inside.next } in
    let place : IsPlace s c.args.name c.in-Ok.at = rw c.self.view_is c.in-Ok.ensures.found in
    rw (c.remove.ensures.items, place.takes) (kept_deleted s c.args.name c.self.invariant)

pub returns-clause-ok : goal.returns-clause-ok
returns-clause-ok c =
    let s : Store = record { entries = c.self.inside.entries.items; next = next_version c.self.inside.next } in
    let place : IsPlace s c.args.name c.in-Ok.at = rw c.self.view_is c.in-Ok.ensures.found in
    let with_entries = λ (es : List (Name × Member)). record s { entries = es } in
    rw (← c.self.view_is) (ap with_entries (c.remove.ensures.items ∙ place.takes))
