use Rattle.std.proofs.Common.{◌≡◌, [], Ok, Err, subst, ◌∙◌}
use Rattle.std.specs.Prelude.{Result, Option, IfOk}
use Rattle.std.specs.declared.alloc.AllocError.{AllocError}
use Rattle.pli_include.specs.declared.expansion.ExpansionFault.{ExpansionFault}
use Rattle.pli_base.specs.Name.{Name}
use Rattle.pli_members.specs.Members.{Store}
use Rattle.pli_include.specs.declared.walk.ExpansionWalk.{ExpansionWalk}
use Rattle.pli_include.specs.Expanded.{look_in}
use Rattle.pli_include.specs.Expansion.{Progress, Outcome, ◌then◌}
use Rattle.pli_include.specs.answers.Walking.{goes_on, ended, include_from, going}
use Rattle.pli_include.proofs.WalkGoesOn.{unit_read}
use Rattle.pli_include.proofs.walk.ExpansionWalk.read.Goals as goal

-- an answer that is the same as one is the same as another that this is
passes : (r : Result (Option ExpansionFault) AllocError) (s : Progress) (x y : Outcome) → IfOk r (λ fault. ended fault s ≡ x) → x ≡ y → IfOk r (λ fault. ended fault s ≡ y)
passes (Ok fault) s x y h e = h ∙ e
passes (Err error) s x y h e = tt

-- what the unit's directive does
abbrev begins : Store → Name → ExpansionWalk → Outcome
begins s u w = include_from 200000 (look_in s.entries) w.path.keys (record { member = u; line = 1 }) u w.progress then going 200000 (look_in s.entries) [] w.frames.items

pub returns-in-Some : goal.returns-in-Some
returns-in-Some c =
    let look = look_in c.args.members.now.entries in
    unit_read c.args.members.now c.args.unit c.args.self.now _ c.requires.fresh
    (subst (λ f. goes_on 200000 look f c.enter.new.self.progress c.enter.new.self.frames.items ≡ begins c.args.members.now c.args.unit c.args.self.now) c.in-Some.is c.in_ok-fault.ensures.same)

pub returns-in-None : goal.returns-in-None
returns-in-None c =
    let look = look_in c.args.members.now.entries in
    passes c.run.result c.run.new.self.progress _ _ c.run.ensures
    (unit_read c.args.members.now c.args.unit c.args.self.now _ c.requires.fresh
    (subst (λ f. goes_on 200000 look f c.enter.new.self.progress c.enter.new.self.frames.items ≡ begins c.args.members.now c.args.unit c.args.self.now) c.in-None.is c.in_ok-fault.ensures.same))
