use Rattle.std.proofs.Common.{◌∷◌, drop, sym, subst, ap, ◌∙◌}
use Rattle.pli_code.specs.CodeTables as plain
use Rattle.pli_code.specs.CodeTables.{globals_linked}
use Rattle.pli_code.specs.views.CodeView.{code_view}
use Rattle.pli_machine_loading.specs.answers.MadeGlobals.{Links}
use Rattle.pli_machine_loading.proofs.LinkedGlobals.{none_links}
use Rattle.pli_machine_loading.proofs.linking.link_next.Goals as goal

pub returns-in-Some : goal.returns-in-Some
returns-in-Some c = λ name more own number statics externals known.
    let taken = rw c.deref.ensures.value at c.in-Some.ensures in
    let code = code_view c.args.unit.now.deck.code in
    let links = drop c.next_link.new.taken c.args.unit.now.links.items in
    subst
    (λ all. Links own number statics externals (globals_linked code (plain.ExternalVariable name c.args.kind c.args.template ∷ more) all) (globals_linked code more links)
    c.args.shared.now c.link_external.new.shared c.link_external.result)
    (sym taken) (c.link_external.ensures name more links own number statics externals known)

pub returns-in-None : goal.returns-in-None
returns-in-None c = λ name more own number statics externals known.
    let none = rw c.deref.ensures.value at c.in-None.ensures in
    let code = code_view c.args.unit.now.deck.code in
    let links = c.args.unit.now.links.items in
    let g = plain.ExternalVariable name c.args.kind c.args.template in
    none_links own number statics externals (globals_linked code (g ∷ more) (drop c.args.taken.now links)) (globals_linked code more (drop c.next_link.new.taken links)) c.args.shared.now known
    (ap (globals_linked code (g ∷ more)) none.0 ∙ ap (globals_linked code more) (sym none.0 ∙ ap (λ n. drop n links) (sym none.1)))
