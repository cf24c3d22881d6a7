use Rattle.std.proofs.Common.{◌≡◌, ◌<◌, ℕ, true, [], length, get_or, Some, None, sym, ap, subst, ◌∙◌, arith}
use Rattle.std.specs.Prelude.{reverse}
use Rattle.std.proofs.lemmas.List.{get_or_default}
use Rattle.pli_declare_scopes.specs.declared.found.Found.TheVariants.{Nothing}
use Rattle.pli_declare_scopes.specs.Scopes.{item_at, is_named, fits_fully, found_below}
use Rattle.pli_declare_scopes.specs.answers.Paths.{Spells}
use Rattle.pli_declare_scopes.proofs.FoundWhereDeclared.{spelled_at_top}
use Rattle.pli_declare_scopes.proofs.PathsKept.{path_within, full_found}
use Rattle.pli_declare_scopes.proofs.block.BlockItems.found_at_top.Goals as goal

pub index-path-requires : goal.index-path-requires
index-path-requires c =
    let within : c.args.number < length c.self.inside.items.items = subst (λ block. c.args.number < length block) (sym c.self.view_is) c.requires.within in
    omega (arith, within, c.self.invariant.1.all)

pub index-requires : goal.index-requires
index-requires c =
    let items = c.self.inside.items.items in
    let steps = c.self.inside.steps.keys in
    let paths = c.self.inside.paths.items in
    let within = subst (λ block. c.args.number < length block) (sym c.self.view_is) c.requires.within in
    let spelled = spelled_at_top items steps paths c.self.inside.ended.items c.self.invariant.0.owners c.self.invariant.1 c.args.names.now c.args.number c.requires.one within
    (subst (λ block. is_named block (get_or c.args.names.now 0 []) c.args.number ≡ true) (sym c.self.view_is) c.requires.named)
    (subst (λ block. (item_at block c.args.number).owner ≡ None) (sym c.self.view_is) c.requires.top) in
    let there : c.index-path.result.now ≡ get_or paths c.args.number 0 = c.index-path.ensures ∙ get_or_default paths c.args.number c.index-path.result.now 0 (omega (arith, within, c.self.invariant.1.all)) in
    let lt = path_within steps (get_or paths c.args.number 0) (reverse c.args.names.now) spelled in
    omega (arith, there, lt, c.self.invariant.1.count)

pub returns : goal.returns
returns c =
    let items = c.self.inside.items.items in
    let steps = c.self.inside.steps.keys in
    let paths = c.self.inside.paths.items in
    let ended = c.self.inside.ended.items in
    let names = c.args.names.now in
    let within = subst (λ block. c.args.number < length block) (sym c.self.view_is) c.requires.within in
    let top = spelled_at_top items steps paths ended c.self.invariant.0.owners c.self.invariant.1 names c.args.number c.requires.one within
    (subst (λ block. is_named block (get_or names 0 []) c.args.number ≡ true) (sym c.self.view_is) c.requires.named)
    (subst (λ block. (item_at block c.args.number).owner ≡ None) (sym c.self.view_is) c.requires.top) in
    let p = c.index-path.result.now in
    let there : p ≡ get_or paths c.args.number 0 = c.index-path.ensures ∙ get_or_default paths c.args.number p 0 (omega (arith, within, c.self.invariant.1.all)) in
    let spelled = subst (λ (q : ℕ). Spells steps (Some q) (reverse names)) (sym there) top in
    c.index.ensures ∙ get_or_default ended p c.index.result.now Nothing (omega (arith, c.self.invariant.1.count, path_within steps p (reverse names) spelled))
    ∙ full_found items c.self.invariant.0.owners steps paths ended c.self.invariant.1 names p spelled
    ∙ ap (λ block. found_below (fits_fully block names) (length block) Nothing) c.self.view_is
