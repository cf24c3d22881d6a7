use Rattle.std.proofs.Common.{◌-◌, ◌<◌, length, set, refl, ap, arith}
use Rattle.pli_members.specs.views.Fields.{next_version}
use Rattle.pli_members.specs.Members.{Store, Change, Replace}
use Rattle.pli_members.specs.answers.Search.{CanChange}
use Rattle.pli_members.proofs.ChangeDoes.{replacement_from_none, entry_at_place, change_is_with_change, kept_with_change}
use Rattle.pli_members.proofs.members.Members.replace_line.Goals as goal

-- the line is there
pub set_line-requires : goal.set_line-requires
set_line-requires c =
    let s : Store = record { entries = c.self.inside.entries.items; next = next_version c.self.inside.next } in
    let can : CanChange s c.args.name (Replace c.args.number c.args.text.now) c.in_ok-at.at c.in_ok-at.step = rw c.self.view_is c.in_ok-at.ensures.found in
    let here = entry_at_place s c.args.name c.in_ok-at.at can.place c.index_mut-entry.result.now c.index_mut-entry.ensures.value in
    let there = replacement_from_none c.args.number c.args.text.now can.place.member.lines can.clear in
    let within : c.args.number - 1 < length can.place.member.lines = omega (arith, there.counted, there.in_range) in
    rw here within

-- the store with the other text
pub invariant_of-self : goal.invariant_of-self
invariant_of-self c =
    let s : Store = record { entries = c.self.inside.entries.items; next = next_version c.self.inside.next } in
    let change : Change = Replace c.args.number c.args.text.now in
    let can : CanChange s c.args.name change c.in_ok-at.at c.in_ok-at.step = rw c.self.view_is c.in_ok-at.ensures.found in
    let old = c.index_mut-entry.result.now.1.lines in
    let same = change_is_with_change s c.args.name c.in_ok-at.at can.place change (set s.entries c.in_ok-at.at c.set_line.new.self) c.index_mut-entry.result.now c.set_line.new.self (set old (c.args.number - 1) c.in_ok-line.line) c.in_ok-at.step.version (next_version c.in_ok-at.step.next)
    c.index_mut-entry.ensures.value c.set_line.ensures (ap (set old (c.args.number - 1)) c.in_ok-line.ensures) can.left.current can.left.after refl in
    rw same (kept_with_change s c.args.name c.in_ok-at.at can.place change can.clear c.self.invariant (rw can.left.current can.left.fits))

pub returns-clause-ok : goal.returns-clause-ok
returns-clause-ok c =
    let s : Store = record { entries = c.self.inside.entries.items; next = next_version c.self.inside.next } in
    let change : Change = Replace c.args.number c.args.text.now in
    let can : CanChange s c.args.name change c.in_ok-at.at c.in_ok-at.step = rw c.self.view_is c.in_ok-at.ensures.found in
    let old = c.index_mut-entry.result.now.1.lines in
    rw (← c.self.view_is) (change_is_with_change s c.args.name c.in_ok-at.at can.place change (set s.entries c.in_ok-at.at c.set_line.new.self) c.index_mut-entry.result.now c.set_line.new.self (set old (c.args.number - 1) c.in_ok-line.line) c.in_ok-at.step.version (next_version c.in_ok-at.step.next)
    c.index_mut-entry.ensures.value c.set_line.ensures (ap (set old (c.args.number - 1)) c.in_ok-line.ensures) can.left.current can.left.after refl)
