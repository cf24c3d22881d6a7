use Rattle.std.proofs.Common.{◌≡◌, ◌+◌, ◌++◌, ◌∷◌, [], map, drop, ap, ◌∙◌, arith}
use Rattle.pli_declare_scopes.specs.Levels.{level_of, nearest, standing, standings_after}
use Rattle.pli_declare_scopes.proofs.NearestItems.{standings_more}
use Rattle.pli_declare_scopes.proofs.level.standings.Goals as goal

pub loop-number-preserved : goal.loop-number-preserved
loop-number-preserved c =
    let before = c.loop-number.before.items in
    let after = c.nearest_among-nearest.new.before.items in
    let n = c.loop-number.number in
    let level = c.unwrap_or-level.result in
    let done = c.loop-number.standings.items in
    let stands : c.standing_after.result ≡ standing level (nearest level before) = c.standing_after.ensures ∙ ap (standing level) c.nearest_among-nearest.ensures.found in
    ap (λ is. c.push.new.self.items ++ standings_after is (n + 1) (map level_of (drop (n + 1) c.args.levels.now))) c.in_ok-push-2.ensures.items
    ∙ ap (λ ss. ss ++ standings_after (after ++ record { number = n; level = level } ∷ []) (n + 1) (map level_of (drop (n + 1) c.args.levels.now)))
    (c.in_ok-push.ensures.items ∙ ap (λ s. done ++ s ∷ []) stands)
    ∙ standings_more before after n level c.nearest_among-nearest.ensures.kept done _ c.args.levels.now (omega arith) c.unwrap_or-level.ensures c.loop-number.invariant
