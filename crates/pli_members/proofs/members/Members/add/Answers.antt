use Rattle.std.proofs.Common.{◌≡◌, [], ap, ◌∙◌, arith}
use Rattle.std.specs.List.{insert}
use Rattle.pli_base.specs.Name.{Name}
use Rattle.pli_members.specs.views.Fields.{next_version}
use Rattle.pli_members.specs.Members.{Store, Member, added, name_order}
use Rattle.pli_members.specs.answers.Search.{IsGap, IsStep}
use Rattle.pli_members.proofs.EditsByKey.{length-put}
use Rattle.pli_members.proofs.StaysKept.{kept_with_member, inserted_is_added}
use Rattle.pli_members.proofs.members.Members.add.Goals as goal

-- the fields are those of the store with the member
is_added : (c : goal.After-self-1) → record { entries = c.insert.new.self.items; next = next_version c.in_ok-step.step.next } ≡ added (record { entries = c.self.inside.entries.items; next = next_version c.self.inside.next }) c.args.name c.args.kind
is_added c =
    let s : Store = record { entries = c.self.inside.entries.items; next = next_version c.self.inside.next } in
    let gap : IsGap s c.args.name c.in-Err.at = rw c.self.view_is c.in-Err.ensures.absent in
    let step : IsStep s c.in_ok-step.step = rw c.self.view_is c.in_ok-step.ensures.left in
    let put = λ (e : Name × Member). insert s.entries c.in-Err.at e in
    inserted_is_added s c.args.name c.args.kind c.in-Err.at gap c.insert.new.self.items c.new.result.items c.in_ok-step.step.version (next_version c.in_ok-step.step.next)
    (c.in_ok-insert.ensures.items ∙ ap put c.new-entry.ensures) c.new.ensures.items step.current step.after

-- the store with the member
pub invariant_of-self-2 : goal.invariant_of-self-2
invariant_of-self-2 c =
    let es = c.self.inside.entries.items in
    let s : Store = record { entries = es; next = next_version c.self.inside.next } in
    let m : Member = record { kind = c.args.kind; lines = []; version = s.next } in
    let step : IsStep s c.in_ok-step.step = rw c.self.view_is c.in_ok-step.ensures.left in
    let longer = length-put name_order c.args.name m es in
    rw (is_added c) (kept_with_member s c.args.name c.args.kind [] c.self.invariant (rw step.current step.fits) (omega (arith, longer, c.len.ensures)) (omega arith) (λ k d h. absurd (omega arith)))

pub returns-clause-ok : goal.returns-clause-ok
returns-clause-ok c = rw (← c.self.view_is) (is_added c)
