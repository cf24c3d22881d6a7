use Rattle.std.proofs.Common.{set, refl, ap}
use Rattle.std.specs.List.{insert}
use Rattle.pli_members.specs.views.Fields.{next_version}
use Rattle.pli_members.specs.Members.{Store, Change, Insert}
use Rattle.pli_members.specs.answers.Search.{CanChange}
use Rattle.pli_members.proofs.ChangeDoes.{insertion_from_none, entry_at_place, change_is_with_change, kept_with_change}
use Rattle.pli_members.proofs.members.Members.insert_line.Goals as goal

-- the line's place is one of the member's
pub put_line-requires : goal.put_line-requires
put_line-requires c =
    let s : Store = record { entries = c.self.inside.entries.items; next = next_version c.self.inside.next } in
    let can : CanChange s c.args.name (Insert c.args.after c.args.text.now) c.in_ok-at.at c.in_ok-at.step = rw c.self.view_is c.in_ok-at.ensures.found in
    let here = entry_at_place s c.args.name c.in_ok-at.at can.place c.index_mut-entry.result.now c.index_mut-entry.ensures.value in
    rw here (insertion_from_none c.args.after c.args.text.now can.place.member.lines can.clear).in_range

-- the store with the line
pub invariant_of-self-2 : goal.invariant_of-self-2
invariant_of-self-2 c =
    let s : Store = record { entries = c.self.inside.entries.items; next = next_version c.self.inside.next } in
    let change : Change = Insert c.args.after c.args.text.now in
    let can : CanChange s c.args.name change c.in_ok-at.at c.in_ok-at.step = rw c.self.view_is c.in_ok-at.ensures.found in
    let same = change_is_with_change s c.args.name c.in_ok-at.at can.place change (set s.entries c.in_ok-at.at c.put_line.new.self) c.index_mut-entry.result.now c.put_line.new.self (insert c.index_mut-entry.result.now.1.lines c.args.after c.in_ok-line.line) c.in_ok-at.step.version (next_version c.in_ok-at.step.next)
    c.index_mut-entry.ensures.value c.in_ok-put_line.ensures.ok (ap (insert c.index_mut-entry.result.now.1.lines c.args.after) c.in_ok-line.ensures) can.left.current can.left.after refl in
    rw same (kept_with_change s c.args.name c.in_ok-at.at can.place change can.clear c.self.invariant (rw can.left.current can.left.fits))

pub returns-clause-ok : goal.returns-clause-ok
returns-clause-ok c =
    let s : Store = record { entries = c.self.inside.entries.items; next = next_version c.self.inside.next } in
    let change : Change = Insert c.args.after c.args.text.now in
    let can : CanChange s c.args.name change c.in_ok-at.at c.in_ok-at.step = rw c.self.view_is c.in_ok-at.ensures.found in
    rw (← c.self.view_is) (change_is_with_change s c.args.name c.in_ok-at.at can.place change (set s.entries c.in_ok-at.at c.put_line.new.self) c.index_mut-entry.result.now c.put_line.new.self (insert c.index_mut-entry.result.now.1.lines c.args.after c.in_ok-line.line) c.in_ok-at.step.version (next_version c.in_ok-at.step.next)
    c.index_mut-entry.ensures.value c.in_ok-put_line.ensures.ok (ap (insert c.index_mut-entry.result.now.1.lines c.args.after) c.in_ok-line.ensures) can.left.current can.left.after refl)
