use Rattle.std.proofs.Common.{◌≡◌, ◌||◌, ◌&&◌, ◌∙◌, not, nat_lt, length, ap, sym}
use Rattle.std.specs.List.{list_all, list_any, sum_by}
use Rattle.pli_type_tree.specs.views.GlobalView.{globals_view}
use Rattle.pli_type_tree.specs.views.TypedView.{unit_view}
use Rattle.pli_gen.specs.Limits.{is_over, has_many_types}
use Rattle.pli_gen.specs.answers.Pieces.{block_fits, takes_many_slots, template_bytes}
use Rattle.pli_gen.proofs.LimitLemmas.{long_tables, long_lists, large_parts, limits_apart, lists_viewed}
use Rattle.pli_gen.proofs.UnitEmitted.{blocks, code, tables, have, limits, counts, narrow}
use Rattle.pli_gen.proofs.limits.is_too_long.Goals as goal
use Rattle.pli_gen.proofs.limits.is_too_long.Goals.{then-has_long_table, else-has_long_table}

pub returns-then-has_long_list : goal.returns-then-has_long_list
returns-then-has_long_list c =
    let u = unit_view c.args.unit.now in
    let e = c.args.emitted.now in
    let t = tables u e c.requires in
    let bs = blocks u e c.requires in
    let is = code u e c.requires in
    let stand = have u e c.requires in
    let b = long_lists t u bs is stand in
    let v : c.if-has_long_table.value ≡ (long_tables t u bs is stand || b) = elim c.if-has_long_table.branch [
      | then-has_long_table w ↦ w.value-is ∙ w.if-has_long_table.true ∙ ap (λ x. x || b) (sym w.if-has_long_table.true ∙ c.has_long_table.ensures)
      | else-has_long_table w ↦ w.value-is ∙ w.has_long_list.ensures ∙ ap (λ gs. is_over (globals_view gs) || is_over e.blocks.items || is_over e.emitter.code.items) w.as_slice.ensures.value
          ∙ lists_viewed u.globals e.blocks.items (length e.emitter.code.items) (length is) (counts u e c.requires)
          ∙ ap (λ x. x || b) (sym w.if-has_long_table.false ∙ c.has_long_table.ensures)
    ] in
    c.if-has_long_list.true ∙ ap (λ x. x || large_parts t u bs is stand) (sym c.if-has_long_list.true ∙ v) ∙ limits_apart t u bs is stand
    ∙ limits u e c.requires

pub returns-else-has_long_list : goal.returns-else-has_long_list
returns-else-has_long_list c =
    let u = unit_view c.args.unit.now in
    let e = c.args.emitted.now in
    let t = tables u e c.requires in
    let bs = blocks u e c.requires in
    let is = code u e c.requires in
    let stand = have u e c.requires in
    let b = long_lists t u bs is stand in
    let v : c.if-has_long_table.value ≡ (long_tables t u bs is stand || b) = elim c.if-has_long_table.branch [
      | then-has_long_table w ↦ w.value-is ∙ w.if-has_long_table.true ∙ ap (λ x. x || b) (sym w.if-has_long_table.true ∙ c.has_long_table.ensures)
      | else-has_long_table w ↦ w.value-is ∙ w.has_long_list.ensures ∙ ap (λ gs. is_over (globals_view gs) || is_over e.blocks.items || is_over e.emitter.code.items) w.as_slice.ensures.value
          ∙ lists_viewed u.globals e.blocks.items (length e.emitter.code.items) (length is) (counts u e c.requires)
          ∙ ap (λ x. x || b) (sym w.if-has_long_table.false ∙ c.has_long_table.ensures)
    ] in
    c.has_large_part.ensures
    ∙ ap (λ n. list_any takes_many_slots bs || list_any has_many_types t.descriptions || nat_lt 16777216 (sum_by template_bytes t.templates) || not (list_all block_fits bs && n))
    (narrow u e c.requires)
    ∙ ap (λ x. x || large_parts t u bs is stand) (sym c.if-has_long_list.false ∙ v) ∙ limits_apart t u bs is stand
    ∙ limits u e c.requires
