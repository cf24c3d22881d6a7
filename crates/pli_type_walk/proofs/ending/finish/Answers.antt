use Rattle.std.proofs.Common.{◌≡◌, ◌++◌, ◌∷◌, [], None, Some, Vec, Global, false, length, map, option_map, refl, ap, sym, ◌∙◌, subst}
use Rattle.pli_type_rules.specs.StatementTyping as spec
use Rattle.pli_type_tree.specs.TypedTree as typed
use Rattle.pli_type_tree.specs.declared.statement.TypedStatement.{TypedStatement}
use Rattle.pli_type_tree.specs.views.TypedView.{head_view, procedure_view, statements_view}
use Rattle.pli_type_parts.specs.Around.{blocks_of, number_of}
use Rattle.pli_type_walk.specs.Walking.{Ends, around, ended_as, finished, unit_at}
use Rattle.pli_type_parts.specs.views.AroundView.{lists_view}
use Rattle.pli_type_walk.proofs.Blocks.{parameters_are, procedure_parts, returned_is}
use Rattle.std.proofs.lemmas.List.{map_push}
use Rattle.pli_type_walk.proofs.ending.finish.Goals as goal

pub returns-in_default : goal.returns-in_default
returns-in_default c =
    record {
      naming = refl;
      surroundings = refl;
      next = refl;
      templates = refl;
      faults = refl;
      ends = subst (λ l. Ends typed.Null (ended_as c.args.walk.now c.args.end c.args.head) (finished c.args.walk.now) (option_map (λ (list : Vec TypedStatement Global). statements_view list.items) l) (finished c.args.walk.now) None) (sym c.in_default.is) refl;
    }

pub returns : goal.returns
returns c =
    let w = c.args.walk.now in
    let list = statements_view c.in-Some.statements.items in
    let n = c.args.head.number in
    let parent : c.innermost-parent.result ≡ spec.block_at (around w) =
    c.innermost-parent.ensures ∙ ap (λ ls. number_of (blocks_of (lists_view ls))) c.as_slice.ensures.value in
    let many : length c.procedure-procedure.result.parameters.now ≡ length ((unit_at w).parameters n) =
    parameters_are w n c.procedure-procedure.result c.procedure-procedure.ensures in
    let end : c.end_of-function_end.result ≡ spec.function_end ((unit_at w).returned n) c.args.end =
    c.end_of-function_end.ensures ∙ ap (λ d. spec.function_end d c.args.end) (returned_is w n c.procedure-procedure.result c.procedure-procedure.ensures) in
    let put : finished (record { naming = w.naming; surroundings = w.surroundings; next = w.next; templates = w.templates; faults = w.faults; procedures = c.push.new.self })
    ≡ finished w ++ ended_as w c.args.end c.args.head list ∷ [] =
    ap (map procedure_view) c.in_ok-push.ensures.items ∙ map_push procedure_view w.procedures.items _
    ∙ ap (λ p. finished w ++ p ∷ []) (procedure_parts false (head_view c.args.head) list _ _ _ _ _ _ parent many end) in
    record {
      naming = refl;
      surroundings = refl;
      next = refl;
      templates = refl;
      faults = refl;
      ends = subst (λ l. Ends typed.Null (ended_as w c.args.end c.args.head) (finished w) (option_map (λ (list : Vec TypedStatement Global). statements_view list.items) l)
          (finished (record { naming = w.naming; surroundings = w.surroundings; next = w.next; templates = w.templates; faults = w.faults; procedures = c.push.new.self })) (Some typed.Null)) (sym c.in-Some.is) (refl, put);
    }
