use Rattle.std.proofs.Common.{◌∷◌, Ok, drop, sym, subst}
use Rattle.pli_code.specs.CodeTables.{globals_linked}
use Rattle.pli_code.specs.views.CodeView.{code_view, global_view, signature_view}
use Rattle.pli_machine_loading.specs.answers.MadeGlobals.{Links}
use Rattle.pli_machine_loading.proofs.linking.link_global.Goals as goal

pub returns-in-OwnVariable : goal.returns-in-OwnVariable
returns-in-OwnVariable c = λ more own number statics externals known.
    let code = code_view c.args.unit.now.deck.code in
    let links = drop c.args.taken.now c.args.unit.now.links.items in
    subst (λ g. Links own number statics externals (globals_linked code (global_view g ∷ more) links) (globals_linked code more links) c.args.shared.now c.link_own.new.shared c.link_own.result)
    (sym c.in-OwnVariable.is) (c.link_own.ensures more links own number statics externals known)

pub returns-in-ExternalVariable : goal.returns-in-ExternalVariable
returns-in-ExternalVariable c = λ more own number statics externals known.
    let code = code_view c.args.unit.now.deck.code in
    let links = c.args.unit.now.links.items in
    subst (λ g. Links own number statics externals (globals_linked code (global_view g ∷ more) (drop c.args.taken.now links)) (globals_linked code more (drop c.link_next.new.taken links)) c.args.shared.now c.link_next.new.shared c.link_next.result)
    (sym c.in-ExternalVariable.is) (c.link_next.ensures c.in-ExternalVariable.name more own number statics externals known)

pub returns-in-EntryPoint : goal.returns-in-EntryPoint
returns-in-EntryPoint c = λ more own number statics externals known.
    let code = code_view c.args.unit.now.deck.code in
    let links = c.args.unit.now.links.items in
    let s = c.args.shared.now in
    subst (λ g. Links own number statics externals (globals_linked code (global_view g ∷ more) (drop c.args.taken.now links)) (globals_linked code more (drop c.link_entry.new.taken links)) s s (Ok c.link_entry.result))
    (sym c.in-EntryPoint.is) (c.link_entry.ensures c.in-EntryPoint.name (signature_view c.in-EntryPoint.signature) more own number statics externals known)
