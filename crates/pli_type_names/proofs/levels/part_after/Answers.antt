use Rattle.std.proofs.Common.{◌≡◌, Some, map, option_map, [], ◌∷◌, ◌++◌, ap, sym, ◌∙◌}
use Rattle.std.proofs.lemmas.Bool.Decides.{Decides-eqb}
use Rattle.std.proofs.lemmas.List.Elements.{All-pop, All-push, All-same}
use Rattle.std.proofs.lemmas.Slice.Eq.{slice_eq-Decides}
use Rattle.pli_map.specs.views.DescriptionView.{members_view}
use Rattle.pli_type_names.specs.OnWays.{IsLevel, part_in}
use Rattle.pli_type_names.specs.views.NameView.{part_view}
use Rattle.pli_type_names.specs.views.VariableView.{own_view}
use Rattle.pli_type_names.proofs.LevelsLead.{member_on_way, same_level}
use Rattle.pli_type_names.proofs.levels.part_after.Goals as goal

pub returns-then-eq-clause-part : goal.returns-then-eq-clause-part
returns-then-eq-clause-part c =
    let variables = map (option_map own_view) c.args.variables.now in
    let found = c.in-Some-pop.found in
    let number = c.in-Some.number.now in
    let is = (All-pop (IsLevel variables) c.loop-found.levels.items c.pop.new.self.items (Some found) c.in-Some-pop.ensures.items c.loop-found.invariant).1 in
    let way : found.way.now ≡ c.in-Some.way.now = (slice_eq-Decides Decides-eqb _ _ _ c.eq.ensures).0 c.if-eq.true in
    c.in_ok-part.ensures.part
    ∙ sym (member_on_way variables found.root found.way.now number (part_view found.element) (members_view found.passed.members.now.items) is.element is.members)
    ∙ ap (λ root. part_in variables root (found.way.now ++ number ∷ [])) c.if-level-root.true
    ∙ ap (λ w. part_in variables c.args.root (w ++ number ∷ [])) way
    ∙ ap (part_in variables c.args.root) (sym c.in-Some.ensures.cases.0)

pub returns-then-eq-clause-levels : goal.returns-then-eq-clause-levels
returns-then-eq-clause-levels c =
    let variables = map (option_map own_view) c.args.variables.now in
    let found = c.in-Some-pop.found in
    let all = All-pop (IsLevel variables) c.loop-found.levels.items c.pop.new.self.items (Some found) c.in-Some-pop.ensures.items c.loop-found.invariant in
    All-same (IsLevel variables) _ _ c.in_ok-push.ensures.items
    (All-push (IsLevel variables) _ _ all.0 (same_level variables c.member.new.level found c.in_ok-part.ensures.same all.1))

pub loop-found-preserved : goal.loop-found-preserved
loop-found-preserved c =
    let variables = map (option_map own_view) c.args.variables.now in
    (All-pop (IsLevel variables) c.loop-found.levels.items c.pop.new.self.items (Some c.in-Some-pop.found) c.in-Some-pop.ensures.items c.loop-found.invariant).0
