use Rattle.std.proofs.Common.{◌≡◌, ◌<◌, ◌≤◌, ◌&&◌, not, length, get_or, sym, ap, ◌∙◌, arith, rules}
use Rattle.std.proofs.lemmas.List.{length-map}
use Rattle.pli_declare_outline.specs.views.OutlineView.{region_view, regions_view}
use Rattle.pli_declare_constructs.specs.Regions.{outside, round_of}
use Rattle.pli_declare_constructs.specs.Reach.{is_group, reaches}
use Rattle.pli_declare_constructs.specs.answers.ReachSteps.{reaches_through}
use Rattle.pli_declare_constructs.proofs.BlocksAround.{read}
use Rattle.pli_declare_constructs.proofs.ReachStepLemmas.{reach_past, reach_here, reach_none, reach_after, reach_outer}
use Rattle.pli_declare_constructs.proofs.ReachLemmas.{walk_is_reach}
use Rattle.pli_declare_constructs.proofs.nesting.Nesting.reaches.Goals as goal
use Rattle.pli_declare_constructs.proofs.nesting.Nesting.reaches.Goals.{then-left, else-left}

pub returns-then-here-label : goal.returns-then-here-label
returns-then-here-label c =
    let regions = c.self.inside.regions.items in
    let within : c.loop-here.here < length regions = search rules in
    let here : c.loop-here.here < length (regions_view regions) = omega (arith, length-map regions region_view, within) in
    let is : get_or (regions_view regions) c.loop-here.here outside ≡ region_view c.index-region.result.now = read regions c.loop-here.here c.index-region.result.now within c.index-region.ensures in
    let both : c.if-left.result ≡ (c.loop-here.left && is_group c.index-region.result.now.kind) = elim c.if-left.branch [
      | then-left w ↦ w.result-is ∙ w.is_group.ensures ∙ sym (ap (λ b. b && is_group c.index-region.result.now.kind) w.if-left.true)
      | else-left w ↦ w.result-is ∙ w.if-left.false ∙ sym (ap (λ b. b && is_group c.index-region.result.now.kind) w.if-left.false)
    ] in
    ap not both ∙ sym (reach_here (regions_view regions) c.loop-here.left c.loop-here.here c.args.label here (region_view c.index-region.result.now) is c.if-here-label.true)
    ∙ c.loop-here.invariant ∙ walk_is_reach (regions_view regions) c.args.from c.args.label ∙ ap (λ rs. reaches rs c.args.from c.args.label) c.self.view_is

pub loop-here-preserved : goal.loop-here-preserved
loop-here-preserved c =
    let regions = c.self.inside.regions.items in
    let within : c.loop-here.here < length regions = search rules in
    let here : c.loop-here.here < length (regions_view regions) = omega (arith, length-map regions region_view, within) in
    let is : get_or (regions_view regions) c.loop-here.here outside ≡ region_view c.index-region.result.now = read regions c.loop-here.here c.index-region.result.now within c.index-region.ensures in
    ap (λ left. reaches_through (regions_view regions) left (round_of (regions_view regions) c.in-Some.outer) c.args.label) c.left_on_unit-left.ensures
    ∙ sym (reach_outer (regions_view regions) c.loop-here.left c.loop-here.here c.args.label here (region_view c.index-region.result.now) is c.if-here-label.false c.in-Some.outer c.in-Some.is c.if-outer-here.true)
    ∙ c.loop-here.invariant

pub returns-in_default : goal.returns-in_default
returns-in_default c =
    let regions = c.self.inside.regions.items in
    let within : c.loop-here.here < length regions = search rules in
    let here : c.loop-here.here < length (regions_view regions) = omega (arith, length-map regions region_view, within) in
    let is : get_or (regions_view regions) c.loop-here.here outside ≡ region_view c.index-region.result.now = read regions c.loop-here.here c.index-region.result.now within c.index-region.ensures in
    sym (reach_after (regions_view regions) c.loop-here.left c.loop-here.here c.args.label here (region_view c.index-region.result.now) is c.if-here-label.false c.in-Some.outer c.in-Some.is c.if-outer-here.false)
    ∙ c.loop-here.invariant ∙ walk_is_reach (regions_view regions) c.args.from c.args.label ∙ ap (λ rs. reaches rs c.args.from c.args.label) c.self.view_is

pub returns-in_default-2 : goal.returns-in_default-2
returns-in_default-2 c =
    let regions = c.self.inside.regions.items in
    let within : c.loop-here.here < length regions = search rules in
    let here : c.loop-here.here < length (regions_view regions) = omega (arith, length-map regions region_view, within) in
    let is : get_or (regions_view regions) c.loop-here.here outside ≡ region_view c.index-region.result.now = read regions c.loop-here.here c.index-region.result.now within c.index-region.ensures in
    sym (reach_none (regions_view regions) c.loop-here.left c.loop-here.here c.args.label here (region_view c.index-region.result.now) is c.if-here-label.false c.in_default.is)
    ∙ c.loop-here.invariant ∙ walk_is_reach (regions_view regions) c.args.from c.args.label ∙ ap (λ rs. reaches rs c.args.from c.args.label) c.self.view_is

pub returns : goal.returns
returns c =
    let regions = c.self.inside.regions.items in
    let past : length regions ≤ c.loop-here.here = search rules in
    sym (reach_past (regions_view regions) c.loop-here.left c.loop-here.here c.args.label (omega (arith, length-map regions region_view, past)))
    ∙ c.loop-here.invariant ∙ walk_is_reach (regions_view regions) c.args.from c.args.label ∙ ap (λ rs. reaches rs c.args.from c.args.label) c.self.view_is
