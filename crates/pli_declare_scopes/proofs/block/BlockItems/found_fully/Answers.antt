use Rattle.std.proofs.Common.{◌≡◌, ◌∷◌, length, get_or, take, Some, sym, ap, subst, ◌∙◌, arith}
use Rattle.std.specs.Prelude.{reverse}
use Rattle.std.proofs.Math.Seq.{take-length}
use Rattle.std.proofs.lemmas.List.{get_or_default}
use Rattle.pli_declare_scopes.specs.declared.path.Step.{Step}
use Rattle.pli_declare_scopes.specs.declared.found.Found.TheVariants.{Nothing}
use Rattle.pli_declare_scopes.specs.Scopes.{fits_fully, found_below}
use Rattle.pli_declare_scopes.specs.answers.Paths.{Spells}
use Rattle.pli_declare_scopes.proofs.ChainLemmas.{backwards, none_is}
use Rattle.pli_declare_scopes.proofs.PathsKept.{path_within, full_found, none_full, missed_full, found_step, missed_step}
use Rattle.pli_declare_scopes.proofs.block.BlockItems.found_fully.Goals as goal

pub returns-in_default : goal.returns-in_default
returns-in_default c =
    let items = c.self.inside.items.items in
    let names = c.args.names.now in
    let steps = c.self.inside.steps.keys in
    let k = c.loop-name.name-index in
    let x = c.name-item.result in
    let at = c.loop-name.above in
    sym (missed_full items c.self.invariant.0.owners steps c.self.inside.paths.items c.self.inside.ended.items c.self.invariant.1 names k x at (omega (arith, c.loop-name-test.true)) c.loop-name.invariant
    (λ p within same. missed_step steps (record { name = x; above = at }) (sym c.get_index_of.ensures.index ∙ none_is c.get_index_of.result c.in_default.not-Some) p within
    (same ∙ ap (λ n. record { name = n; above = at }) (sym c.name-item.is))))
    ∙ ap (λ block. found_below (fits_fully block names) (length block) Nothing) c.self.view_is

pub loop-name-preserved : goal.loop-name-preserved
loop-name-preserved c =
    let names = c.args.names.now in
    let steps = c.self.inside.steps.keys in
    let k = c.loop-name.name-index in
    let x = c.name-item.result in
    let at = c.loop-name.above in
    let p = c.in-Some.path in
    let found = found_step steps (record { name = x; above = at }) p (sym c.get_index_of.ensures.index ∙ c.in-Some.is) in
    let made : Spells steps (Some p) (get_or names k x ∷ reverse (take k names)) =
    (found.0, ap (λ (s : Step). s.name) found.1 ∙ c.name-item.is, subst (λ (s : Step). Spells steps s.above (reverse (take k names))) (sym found.1) c.loop-name.invariant) in
    subst (Spells steps (Some p)) (sym (backwards names k x (omega (arith, c.loop-name-test.true)))) made

pub returns-in-Some-above : goal.returns-in-Some-above
returns-in-Some-above c =
    let items = c.self.inside.items.items in
    let names = c.args.names.now in
    let steps = c.self.inside.steps.keys in
    let ended = c.self.inside.ended.items in
    let p = c.in-Some-above.path in
    let whole : take c.loop-name.name-index names ≡ names = ap (λ k. take k names) (let e : c.loop-name.name-index ≡ length names = omega (arith, c.loop-name-test.false, c.loop-name.auto.name-index-end) in e) ∙ take-length names in
    let spelled : Spells steps (Some p) (reverse names) = subst (λ a. Spells steps a (reverse names)) c.in-Some-above.is (subst (λ ns. Spells steps c.loop-name.above (reverse ns)) whole c.loop-name.invariant) in
    c.index.ensures ∙ get_or_default ended p c.index.result.now Nothing (omega (arith, c.self.invariant.1.count, path_within steps p (reverse names) spelled))
    ∙ full_found items c.self.invariant.0.owners steps c.self.inside.paths.items ended c.self.invariant.1 names p spelled
    ∙ ap (λ block. found_below (fits_fully block names) (length block) Nothing) c.self.view_is

pub returns-in-None : goal.returns-in-None
returns-in-None c =
    let items = c.self.inside.items.items in
    let names = c.args.names.now in
    let steps = c.self.inside.steps.keys in
    let whole : take c.loop-name.name-index names ≡ names = ap (λ k. take k names) (let e : c.loop-name.name-index ≡ length names = omega (arith, c.loop-name-test.false, c.loop-name.auto.name-index-end) in e) ∙ take-length names in
    sym (none_full items c.self.invariant.0.owners steps c.self.inside.paths.items c.self.inside.ended.items c.self.invariant.1 names
    (subst (λ a. Spells steps a (reverse names)) c.in-None.is (subst (λ ns. Spells steps c.loop-name.above (reverse ns)) whole c.loop-name.invariant)))
    ∙ ap (λ block. found_below (fits_fully block names) (length block) Nothing) c.self.view_is
