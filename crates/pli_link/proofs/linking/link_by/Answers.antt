use Rattle.std.proofs.Common.{◌≡◌, ℕ, rules, ◌∙◌, ap, sym, subst, arith, map, position, length, List, [], Ok, Err, Option, Some, None}
use Rattle.pli_link.specs.Link.{link_faults}
use Rattle.pli_link.specs.answers.Tables.{AreSmall}
use Rattle.pli_link.specs.declared.units.NamedUnit.{NamedUnit}
use Rattle.pli_link.specs.views.UnitView.{compiled_view}
use Rattle.pli_link.proofs.LinkedUnits.{empty_list, main_seen, main_within, few_seen, few_units, linked_without}
use Rattle.pli_link.proofs.MeantFirst.{few_are_small}
use Rattle.pli_link.proofs.linking.link_by.Goals as goal

abbrev main_of : List NamedUnit → Option ℕ
main_of us = position (λ (u : NamedUnit). u.deck.now.is_main) us

pub returns-in_default : goal.returns-in_default
returns-in_default c =
    let us = c.args.names.now.units.now in
    let short : length c.in_ok-faults.faults.items ≡ 0 = search (rules, c.if-not-is_empty.false) in
    let empty = empty_list c.in_ok-faults.faults.items short in
    let none : link_faults (map compiled_view us) ≡ [] = sym c.in_ok-faults.ensures ∙ empty in
    let main = main_seen us ∙ sym c.main_at.ensures ∙ c.in_default.is in
    linked_without (map compiled_view us) [] None none main ∙ ap Err (sym empty)

pub module_of-requires-clause-small : goal.module_of-requires-clause-small
module_of-requires-clause-small c =
    let us = c.args.names.now.units.now in
    let short : length c.in_ok-faults.faults.items ≡ 0 = search (rules, c.if-not-is_empty.false) in
    let none : link_faults (map compiled_view us) ≡ [] = sym c.in_ok-faults.ensures ∙ empty_list c.in_ok-faults.faults.items short in
    subst AreSmall (sym c.requires.names.0) (few_are_small (map compiled_view us) (few_seen us none))

pub overflow_cast-main : goal.overflow_cast-main
overflow_cast-main c =
    let us = c.args.names.now.units.now in
    let short : length c.in_ok-faults.faults.items ≡ 0 = search (rules, c.if-not-is_empty.false) in
    let none : link_faults (map compiled_view us) ≡ [] = sym c.in_ok-faults.ensures ∙ empty_list c.in_ok-faults.faults.items short in
    let main : main_of us ≡ Some c.in-Some.main = sym c.main_at.ensures ∙ c.in-Some.is in
    omega (arith, main_within us c.in-Some.main main, few_units us none)

pub returns : goal.returns
returns c =
    let us = c.args.names.now.units.now in
    let cs = map compiled_view us in
    let short : length c.in_ok-faults.faults.items ≡ 0 = search (rules, c.if-not-is_empty.false) in
    let none : link_faults cs ≡ [] = sym c.in_ok-faults.ensures ∙ empty_list c.in_ok-faults.faults.items short in
    let main = main_seen us ∙ sym c.main_at.ensures ∙ c.in-Some.is in
    linked_without cs [] (Some c.in-Some.main) none main ∙ ap Ok (sym c.in_ok-module_of.ensures)
