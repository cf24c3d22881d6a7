use Rattle.pli_parse_expression.proofs.FrameLemmas.{entered, left}
use Rattle.pli_parse_expression.proofs.assignment.moved.Goals as goal

pub returns-in_ok-push-in-Enters : goal.returns-in_ok-push-in-Enters
returns-in_ok-push-in-Enters c = λ more.
    entered c.args.step c.in-Enters.inner c.in-Enters.next more c.args.around.now.items c.push.new.self.items c.args.frame c.in-Enters.is c.in_ok-push-in-Enters.ensures.items

pub returns-in-Some : goal.returns-in-Some
returns-in-Some c = λ more.
    left c.args.step more c.args.around.now.items c.pop.new.self.items c.args.frame c.in-Some.outer c.after_frame.result c.in-Leaves.is c.in-Some.ensures.items c.after_frame.ensures
