use Rattle.std.proofs.Common.{◌-◌, ◌++◌, take, drop, set, refl, arith}
use Rattle.pli_members.specs.views.Fields.{next_version}
use Rattle.pli_members.specs.Members.{Store, Change, Remove}
use Rattle.pli_members.specs.answers.Search.{CanChange}
use Rattle.pli_members.proofs.ChangeDoes.{removal_from_none, entry_at_place, change_is_with_change, kept_with_change}
use Rattle.pli_members.proofs.members.Members.remove_lines.Goals as goal

-- the lines are there
pub take_lines-requires-clause-in_range : goal.take_lines-requires-clause-in_range
take_lines-requires-clause-in_range c =
    let s : Store = record { entries = c.self.inside.entries.items; next = next_version c.self.inside.next } in
    let can : CanChange s c.args.name (Remove c.args.first c.args.last) c.in_ok-at.at c.in_ok-at.step = rw c.self.view_is c.in_ok-at.ensures.found in
    let here = entry_at_place s c.args.name c.in_ok-at.at can.place c.index_mut-entry.result.now c.index_mut-entry.ensures.value in
    rw here (removal_from_none c.args.first c.args.last can.place.member.lines can.clear).in_range

pub take_lines-requires-clause-order : goal.take_lines-requires-clause-order
take_lines-requires-clause-order c =
    let s : Store = record { entries = c.self.inside.entries.items; next = next_version c.self.inside.next } in
    let can : CanChange s c.args.name (Remove c.args.first c.args.last) c.in_ok-at.at c.in_ok-at.step = rw c.self.view_is c.in_ok-at.ensures.found in
    omega (arith, (removal_from_none c.args.first c.args.last can.place.member.lines can.clear).order)

-- the store without the lines
pub invariant_of-self : goal.invariant_of-self
invariant_of-self c =
    let s : Store = record { entries = c.self.inside.entries.items; next = next_version c.self.inside.next } in
    let change : Change = Remove c.args.first c.args.last in
    let can : CanChange s c.args.name change c.in_ok-at.at c.in_ok-at.step = rw c.self.view_is c.in_ok-at.ensures.found in
    let old = c.index_mut-entry.result.now.1.lines in
    let same = change_is_with_change s c.args.name c.in_ok-at.at can.place change (set s.entries c.in_ok-at.at c.take_lines.new.self) c.index_mut-entry.result.now c.take_lines.new.self (take (c.args.first - 1) old ++ drop c.args.last old) c.in_ok-at.step.version (next_version c.in_ok-at.step.next)
    c.index_mut-entry.ensures.value c.take_lines.ensures refl can.left.current can.left.after refl in
    rw same (kept_with_change s c.args.name c.in_ok-at.at can.place change can.clear c.self.invariant (rw can.left.current can.left.fits))

pub returns-clause-ok : goal.returns-clause-ok
returns-clause-ok c =
    let s : Store = record { entries = c.self.inside.entries.items; next = next_version c.self.inside.next } in
    let change : Change = Remove c.args.first c.args.last in
    let can : CanChange s c.args.name change c.in_ok-at.at c.in_ok-at.step = rw c.self.view_is c.in_ok-at.ensures.found in
    let old = c.index_mut-entry.result.now.1.lines in
    rw (← c.self.view_is) (change_is_with_change s c.args.name c.in_ok-at.at can.place change (set s.entries c.in_ok-at.at c.take_lines.new.self) c.index_mut-entry.result.now c.take_lines.new.self (take (c.args.first - 1) old ++ drop c.args.last old) c.in_ok-at.step.version (next_version c.in_ok-at.step.next)
    c.index_mut-entry.ensures.value c.take_lines.ensures refl can.left.current can.left.after refl)
