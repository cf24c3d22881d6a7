use Rattle.std.proofs.Common.{◌≡◌, [], sym, ap, ◌∙◌, rules}
use Rattle.std.proofs.lemmas.List.{nil_from_length}
use Rattle.pli_include.specs.Expanded.{look_in}
use Rattle.pli_include.specs.answers.Walking.{going}
use Rattle.pli_include.proofs.WalkGoesOn.{going_none}
use Rattle.pli_include.proofs.walk.ExpansionWalk.run.Goals as goal

pub returns : goal.returns
returns c =
    let look = look_in c.args.members.now.entries in
    let empty : c.loop-frame.self.frames.items ≡ [] = nil_from_length c.loop-frame.self.frames.items (search (rules, c.in_default.ensures.cases)) in
    sym (going_none 200000 look c.loop-frame.self.progress)
    ∙ ap (λ fs. going 200000 look [] fs c.loop-frame.self.progress) (sym empty)
    ∙ c.loop-frame.invariant.same
