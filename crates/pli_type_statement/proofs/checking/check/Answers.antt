use Rattle.std.proofs.Common.{◌++◌, Vec, Global, Ok, map, option_map, refl, ap, sym, ◌∙◌, subst, arith}
use Rattle.pli_base.specs.declared.statement.Procedure.{out-Procedure}
use Rattle.pli_base.specs.views.StatementView.{unit_view}
use Rattle.pli_type_rules.specs.Temporaries.{Next}
use Rattle.pli_type_names.specs.UnitNaming.{Names}
use Rattle.pli_type_tree.specs.declared.statement.TypedStatement.{TypedStatement}
use Rattle.pli_type_tree.specs.declared.unit.GlobalGroup.{GlobalGroup}
use Rattle.pli_type_tree.specs.views.GlobalView.{globals_view, signature_view}
use Rattle.pli_type_tree.specs.views.TemplateView.{groups_view}
use Rattle.pli_type_tree.specs.views.TypedView.{procedure_view, statements_view}
use Rattle.pli_type_rules.specs.Checked.{outer_signature}
use Rattle.pli_type_parts.specs.Parts.{told, Adds, unit_named}
use Rattle.pli_type_walk.specs.Walking.{finished, unit_with}
use Rattle.pli_type_walk.proofs.WalkEndLemmas.{all_of, placed_first}
use Rattle.pli_type_walk.proofs.WalkEndLemmas.{globals_first, templates_first, whole_walked}
use Rattle.pli_type_walk.proofs.RoomLeft.{room_at_first}
use Rattle.pli_type_walk.proofs.Units.{faulty, returned_found, typed, typed_list}
use Rattle.pli_type_statement.proofs.checking.check.Goals as goal

pub type_statements-requires : goal.type_statements-requires
type_statements-requires c =
    let u = c.args.unit.now in
    let named = c.in_ok-made.ensures.naming in
    let same =
    c.as_slice-statements.ensures.value ∙ ap (λ p. (out-Procedure p).statements.items) c.unit-tree.ensures in
    record {
      placed =
          placed_first u _ _ _ c.in_ok-made.made.templates named c.in_ok-surroundings.ensures refl
          c.in_ok-made.ensures.automatic c.take-variables.ensures.others
          c.in_ok-made.ensures.based c.take-variables.ensures.based;
      room = room_at_first u c.as_slice-statements.result.now same c.in_ok-made.ensures.regions c.in_ok-made.ensures.marks;
    }

pub returns-in-Some : goal.returns-in-Some
returns-in-Some c =
    let u = c.args.unit.now in
    let named = c.in_ok-made.ensures.naming in
    let same =
    c.as_slice-statements.ensures.value ∙ ap (λ p. (out-Procedure p).statements.items) c.unit-tree.ensures in
    let gives =
    c.procedure.ensures.returned
    ∙ returned_found c.in_ok-made.made.naming ∙ ap (λ (n : Names). (unit_named n.unit).returned 0) named in
    let new = c.type_statements.new.walk in
    let w =
    whole_walked u _ new c.as_slice-statements.result.now _ _ named c.in_ok-surroundings.ensures gives refl same
    c.in_ok-list.ensures in
    let signature = signature_view c.in_ok-signature-in-Some.signature in
    let globals = globals_view new.templates.globals.items in
    let variables = groups_view c.take-variables.result.items in
    let list = statements_view c.in-Some.list.items in
    typed u signature globals variables new.next.temporary list (finished new)
    (ap (option_map (λ (list : Vec TypedStatement Global). statements_view list.items)) (sym c.in-Some.is)
    ∙ w.part)
    (subst (λ ps. Adds (typed_list u (all_of u)) (map procedure_view ps) (finished new)) c.new-2.ensures.items
    w.procedures)
    (c.in_ok-signature-in-Some.ensures
    ∙ ap (λ (n : Names). outer_signature (unit_named n.unit)) (w.back.naming ∙ named))
    (globals_first u _ (ap (λ (groups : Vec GlobalGroup Global). globals_view groups.items)
    (w.back.globals ∙ c.take-variables.ensures.globals) ∙ c.in_ok-made.ensures.globals))
    (c.take-variables.ensures.taken
    ∙ templates_first u c.in_ok-made.made.templates c.in_ok-made.ensures.automatic 0)
    (ap (λ (n : Next). n.temporary) w.next ∙ omega arith)
    ∙ ap (λ p. Ok (unit_with (unit_view p) signature globals variables new.next.temporary list (finished new)))
    (sym c.unit-tree.ensures)
    ∙ ap Ok (sym c.in_ok-typed_unit-in-Some.ensures)

pub returns : goal.returns
returns c =
    let u = c.args.unit.now in
    let named = c.in_ok-made.ensures.naming in
    let same =
    c.as_slice-statements.ensures.value ∙ ap (λ p. (out-Procedure p).statements.items) c.unit-tree.ensures in
    let gives =
    c.procedure.ensures.returned
    ∙ returned_found c.in_ok-made.made.naming ∙ ap (λ (n : Names). (unit_named n.unit).returned 0) named in
    let new = c.type_statements.new.walk in
    let w =
    whole_walked u _ new c.as_slice-statements.result.now _ _ named c.in_ok-surroundings.ensures gives refl same
    c.in_ok-list.ensures in
    faulty u new.faults.items
    (ap (option_map (λ (list : Vec TypedStatement Global). statements_view list.items)) (sym c.in-None.is)
    ∙ w.part)
    (w.faults ∙ ap (λ fs. fs ++ told (typed_list u (all_of u))) c.new.ensures.items)
