use Rattle.std.proofs.Common.{◌++◌, map, ap, ◌∙◌, arith}
use Rattle.std.proofs.lemmas.List.{map-append}
use Rattle.pli_type_tree.specs.views.GlobalView.{global_group_view, globals_view}
use Rattle.pli_code.specs.views.CodeView.{global_view}
use Rattle.pli_gen_emit.proofs.LoopLemmas.{more_joined}
use Rattle.pli_gen_emit.specs.Encoding.{global_code}
use Rattle.pli_gen_emit.specs.views.TableView.{tables_view}
use Rattle.pli_gen.proofs.globals.encode_globals.Goals as goal

pub loop-group-preserved : goal.loop-group-preserved
loop-group-preserved c =
    let code = global_code (tables_view c.args.numbers.tables.now) in
    let before = map global_view c.loop-group.globals.items in
    more_joined (λ gs. map code (globals_view gs)) (λ g. map code (global_group_view g)) (λ g gs. map-append code (global_group_view g) (globals_view gs))
    c.args.groups.now c.loop-group.group-index c.group-item.result before _ _ (omega arith)
    (c.in_ok-encode_group.ensures ∙ ap (λ g. before ++ map code (global_group_view g)) c.group-item.is)
    c.loop-group.invariant
