use Rattle.std.proofs.Common.{◌∷◌, drop, refl, sym, ap, ◌∙◌}
use Rattle.pli_program.specs.Program as programs
use Rattle.pli_code.specs.CodeTables as plain
use Rattle.pli_code.specs.CodeTables.{globals_linked}
use Rattle.pli_code.specs.views.CodeView.{code_view}
use Rattle.pli_machine_activations.specs.declared.linked.LinkedGlobal.TheVariants as linked
use Rattle.pli_machine_loading.proofs.LinkedGlobals.{none_links, other_links}
use Rattle.pli_machine_loading.proofs.linking.link_entry.Goals as goal

pub returns-in-Some : goal.returns-in-Some
returns-in-Some c = λ name signature more own number statics externals known.
    let taken = rw c.deref.ensures.value at c.in-Some.ensures in
    let code = code_view c.args.unit.now.deck.code in
    let links = c.args.unit.now.links.items in
    let g = plain.EntryPoint name signature in
    other_links own number statics externals (globals_linked code (g ∷ more) (drop c.args.taken.now links)) (globals_linked code more (drop c.next_link.new.taken links)) c.args.shared.now
    (programs.EntryPoint c.in-Some.other) (linked.EntryPoint c.in-Some.other) known (ap (globals_linked code (g ∷ more)) taken) refl refl refl

pub returns-in-None : goal.returns-in-None
returns-in-None c = λ name signature more own number statics externals known.
    let none = rw c.deref.ensures.value at c.in-None.ensures in
    let code = code_view c.args.unit.now.deck.code in
    let links = c.args.unit.now.links.items in
    let g = plain.EntryPoint name signature in
    none_links own number statics externals (globals_linked code (g ∷ more) (drop c.args.taken.now links)) (globals_linked code more (drop c.next_link.new.taken links)) c.args.shared.now known
    (ap (globals_linked code (g ∷ more)) none.0 ∙ ap (globals_linked code more) (sym none.0 ∙ ap (λ n. drop n links) (sym none.1)))
