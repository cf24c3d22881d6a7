use Rattle.std.proofs.Common.{subst, sym, ap, ◌∙◌, arith}
use Rattle.pli_declare_outline.specs.views.OutlineView.{outline_view}
use Rattle.pli_declare_faults.specs.answers.Answers.{IsWithin, entries_at}
use Rattle.pli_declare_faults.proofs.BlocksOutwards.{table_read, tables_length}
use Rattle.pli_declare_faults.proofs.look_up.table_at.Goals as goal

pub index-requires : goal.index-requires
index-requires c =
    let o = outline_view c.args.outline.now in
    let within = subst (IsWithin o) c.in-Some.is c.requires.within in
    omega (arith, within, tables_length o c.args.tables.now c.requires.tabled)

pub returns-in-Some : goal.returns-in-Some
returns-in-Some c =
    let o = outline_view c.args.outline.now in
    let within = subst (IsWithin o) c.in-Some.is c.requires.within in
    ap (λ t. t.entries) (table_read o c.args.tables.now c.requires.tabled c.in-Some.block c.index.result.now c.index.ensures within)
    ∙ ap (entries_at o) (sym c.in-Some.is)
