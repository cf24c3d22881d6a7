use Rattle.std.proofs.Common.{◌++◌, map, ap, ◌∙◌}
use Rattle.pli_include.specs.Expansion.{origin_of}
use Rattle.pli_include.specs.views.OriginsView.{place_in}
use Rattle.pli_include.proofs.OriginsAppended.{appended, of_runs_then}
use Rattle.pli_include.proofs.origins.Origins.extend.Goals as goal

pub invariant_of-self-2 : goal.invariant_of-self-2
invariant_of-self-2 c =
    of_runs_then c.self.inside.members.items c.run_of.new.members.items c.run_of.ensures.kept.0 c.self.inside.places.items
    c.note_lines.new.places.items c.in_ok-run.run' c.args.member c.args.tokens.now c.self.invariant c.run_of.ensures.kept.1
    (c.note_lines.ensures ∙ ap (λ ps. ps ++ map (place_in c.in_ok-run.run') c.args.tokens.now) c.reserve.ensures.items) c.in_ok-run.ensures.run

pub returns : goal.returns
returns c =
    appended c.self.inside.members.items c.run_of.new.members.items c.run_of.ensures.kept.0 c.self.inside.places.items
    c.note_lines.new.places.items c.in_ok-run.run' c.args.member c.args.tokens.now c.self.invariant c.run_of.ensures.kept.1
    (c.note_lines.ensures ∙ ap (λ ps. ps ++ map (place_in c.in_ok-run.run') c.args.tokens.now) c.reserve.ensures.items) c.in_ok-run.ensures.run
    ∙ ap (λ os. os ++ map (origin_of c.args.member) c.args.tokens.now) c.self.view_is
