use Rattle.std.proofs.Common.{◌∙◌, ap, sym, subst, option_map}
use Rattle.pli_link.specs.answers.Classes.{AreClassed, IsClass, known_in}
use Rattle.pli_link.specs.views.NameView.{externals_view}
use Rattle.pli_type_keys.specs.views.KeyView.{templated}
use Rattle.pli_link.proofs.ClassLemmas.{classed_stay}
use Rattle.pli_link.proofs.NameTables.{was_ok}
use Rattle.pli_link.proofs.Tables.{all_put, external_put, external_left}
use Rattle.pli_link.proofs.names.note_external.Goals as goal

pub returns-clause-first : goal.returns-clause-first
returns-clause-first c =
    ap externals_view (was_ok c.insert.result (sym c.is_err.ensures.value ∙ c.if-is_err.false) c.insert.ensures.entries)
    ∙ external_put c.args.externals.now.entries c.args.name _ (sym c.contains_key.ensures ∙ c.if-contains_key.false)

pub returns-clause-classed : goal.returns-clause-classed
returns-clause-classed c = λ all.
    let known = c.class_of.new.known.keys in
    subst (AreClassed (known_in known))
    (sym (was_ok c.insert.result (sym c.is_err.ensures.value ∙ c.if-is_err.false) c.insert.ensures.entries))
    (all_put (λ e. IsClass (known_in known) (option_map templated e.1.template) e.1.class) c.args.externals.now.entries c.args.name _
    (sym c.contains_key.ensures ∙ c.if-contains_key.false)
    (classed_stay c.args.known.now.keys known c.args.externals.now.entries c.in_ok-class.ensures.grows all)
    c.in_ok-class.ensures.class)

pub returns-then-contains_key-clause-first : goal.returns-then-contains_key-clause-first
returns-then-contains_key-clause-first c = external_left c.args.externals.now.entries c.args.name c.args.external (sym c.contains_key.ensures ∙ c.if-contains_key.true)
