use Rattle.std.proofs.Common.{◌≡◌, ◌++◌, ◌∷◌, [], true, None, Some, Vec, Global, map, option_map, refl, ap, sym, ◌∙◌, subst}
use Rattle.std.proofs.lemmas.List.{map_push}
use Rattle.pli_type_rules.specs.StatementTyping as spec
use Rattle.pli_type_tree.specs.TypedTree as typed
use Rattle.pli_type_tree.specs.declared.statement.TypedStatement.{TypedStatement}
use Rattle.pli_type_tree.specs.views.TypedView.{head_view, procedure_view, statements_view}
use Rattle.pli_type_parts.specs.Around.{blocks_of, number_of}
use Rattle.pli_type_walk.specs.Walking.{Ends, around, finished, on_unit_ended}
use Rattle.pli_type_parts.specs.views.AroundView.{lists_view}
use Rattle.pli_type_walk.proofs.Blocks.{procedure_parts}
use Rattle.pli_type_walk.proofs.ending.finish_on_unit.Goals as goal

pub returns-in_default : goal.returns-in_default
returns-in_default c =
    let w = c.args.walk.now in
    record {
      naming = refl;
      surroundings = refl;
      next = refl;
      templates = refl;
      faults = refl;
      ends = subst (λ l. Ends (typed.On c.args.condition c.args.head.number) (on_unit_ended w c.args.head) (finished w)
          (option_map (λ (list : Vec TypedStatement Global). statements_view list.items) l) (finished w) None) (sym c.in_default.is) refl;
    }

pub returns : goal.returns
returns c =
    let w = c.args.walk.now in
    let list = statements_view c.in-Some.statements.items in
    let parent : c.innermost-parent.result ≡ spec.block_at (around w) =
    c.innermost-parent.ensures ∙ ap (λ ls. number_of (blocks_of (lists_view ls))) c.as_slice.ensures.value in
    let put : finished (record { naming = w.naming; surroundings = w.surroundings; next = w.next; templates = w.templates; faults = w.faults; procedures = c.push.new.self })
    ≡ finished w ++ on_unit_ended w c.args.head list ∷ [] =
    ap (map procedure_view) c.in_ok-push.ensures.items ∙ map_push procedure_view w.procedures.items _
    ∙ ap (λ p. finished w ++ p ∷ []) (procedure_parts true (head_view c.args.head) list _ _ 0 0 None None parent refl refl) in
    record {
      naming = refl;
      surroundings = refl;
      next = refl;
      templates = refl;
      faults = refl;
      ends = subst (λ l. Ends (typed.On c.args.condition c.args.head.number) (on_unit_ended w c.args.head) (finished w)
          (option_map (λ (list : Vec TypedStatement Global). statements_view list.items) l)
          (finished (record { naming = w.naming; surroundings = w.surroundings; next = w.next; templates = w.templates; faults = w.faults; procedures = c.push.new.self }))
          (Some (typed.On c.args.condition c.args.head.number))) (sym c.in-Some.is) (refl, put);
    }
