use Rattle.std.proofs.Common.{◌≡◌, ◌++◌, ◌∷◌, [], not, true, ap, ◌∙◌}
use Rattle.std.specs.Prelude.{is_ok, if◌then◌else◌}
use Rattle.std.proofs.lemmas.List.Elements.{All-push, All-same}
use Rattle.pli_type_templates.specs.declared.placed_globals.PlacedGlobal.{PlacedGlobal}
use Rattle.pli_type_templates.specs.views.PlacedView.{HasGlobalItem}
use Rattle.pli_type_templates.proofs.globals.put_global.Goals as goal

pub returns-clause-items : goal.returns-clause-items
returns-clause-items c = λ marks h all.
    let old = c.args.globals.now.items in
    let p : PlacedGlobal = record { at = c.args.symbol.now.identifier.at; global = c.in-Some.global } in
    let pushed : is_ok c.push.result ≡ true = c.is_err.ensures.negation ∙ ap not c.if-is_err.false in
    let items : c.push.new.self.items ≡ old ++ p ∷ [] = c.push.ensures.items ∙ ap (λ b. if b then old ++ p ∷ [] else old) pushed in
    All-same (HasGlobalItem marks) c.push.new.self.items (old ++ p ∷ []) items (All-push (HasGlobalItem marks) old p all (c.in-Some.ensures.item marks h))
