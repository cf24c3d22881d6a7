use Rattle.std.proofs.Common.{◌++◌, ◌∷◌, [], List, Vec, map, replicate, ap, ◌∙◌}
use Rattle.std.specs.Global.{Global}
use Rattle.std.proofs.lemmas.List.{map_push, replicate_more}
use Rattle.pli_declare.specs.Tables.{Entry}
use Rattle.pli_declare_tables.specs.declared.entry.Entry as declared
use Rattle.pli_declare_tables.specs.views.TableView.{entries_view}
use Rattle.pli_declare_tables.proofs.table.empty_blocks.Goals as goal

pub loop-preserved : goal.loop-preserved
loop-preserved c =
    let entries : Vec declared.Entry Global → List Entry = λ v. entries_view v.items in
    ap (map entries) c.in_ok-push.ensures.items ∙ map_push entries c.loop.blocks.items c.new.result
    ∙ ap (λ xs. xs ++ entries c.new.result ∷ []) c.loop.invariant
    ∙ ap (λ es. replicate c.loop.counter [] ++ entries_view es ∷ []) c.new.ensures.items
    ∙ replicate_more c.loop.counter []
