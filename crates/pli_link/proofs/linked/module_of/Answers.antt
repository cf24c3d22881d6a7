use Rattle.std.proofs.Common.{◌∙◌, ap, subst, List, map}
use Rattle.std.specs.Map.{keys_of}
use Rattle.pli_code.specs.Modules.{External, Member, Module}
use Rattle.pli_code.specs.Versions.{written}
use Rattle.pli_code.specs.views.CodeView.{lent_member_view}
use Rattle.pli_link.specs.Links.{external_of, linked_unit}
use Rattle.pli_link.specs.Names.{externals}
use Rattle.pli_link.specs.answers.Tables.{external_name, AreNumbered, units_in}
use Rattle.pli_link.proofs.ExternalNumbers.{names_are}
use Rattle.pli_link.proofs.linked.module_of.Goals as goal

pub returns : goal.returns
returns c =
    let units = units_in c.args.names.now in
    let declared = externals units in
    let names = keys_of declared in
    let made = c.in_ok-externals.externals.items in
    let numbers = c.in_ok-numbers.numbers.entries in
    let module_with : List External → List Member → Module = λ es us. record { version = written; main = c.args.main; externals = es; units = us } in
    let first = c.in_ok-externals.ensures ∙ ap (map external_of) c.requires.names.1 in
    let numbered : AreNumbered numbers names =
    subst (AreNumbered numbers) (ap (map external_name) c.deref.ensures.value ∙ names_are made declared first) c.in_ok-numbers.ensures in
    let second = c.in_ok-units.ensures names numbered ∙ ap (λ ps. map (linked_unit names ps) units) c.requires.names.0 in
    ap (λ es. module_with es (map lent_member_view c.in_ok-units.units.items)) first ∙ ap (module_with (map external_of declared)) second
