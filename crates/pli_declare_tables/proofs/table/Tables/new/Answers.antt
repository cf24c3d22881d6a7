use Rattle.std.proofs.Common.{◌+◌, List, length, map, sym, ap, ◌∙◌, subst}
use Rattle.pli_declare_outline.specs.views.OutlineView.{outline_view}
use Rattle.pli_declare_scopes.specs.Repeats.{verdicts_of}
use Rattle.pli_declare.specs.Tables.{Entry, written, with_verdicts, numbers_from, table_with}
use Rattle.pli_declare.specs.answers.Owners.{AllAfterOwners}
use Rattle.pli_declare_tables.proofs.TablesOfUnits.{all_after, tables_in, unit_is}
use Rattle.pli_declare_tables.proofs.table.Tables.new.Goals as goal

pub tables_of-requires : goal.tables_of-requires
tables_of-requires c =
    let o = outline_view c.args.outline.now in
    subst (λ (bs : List (List Entry)). AllAfterOwners bs) (sym c.in_ok-declared_blocks.ensures) (all_after o 0 (length o.regions + 1))

pub returns : goal.returns
returns c =
    let o = outline_view c.args.outline.now in
    record {
      blocks = c.in_ok-blocks.ensures ∙ ap (map table_with) c.in_ok-declared_blocks.ensures ∙ tables_in o (numbers_from 0 (length o.regions + 1));
      unit_entries = ap (λ t. t.entries) c.in_ok-unit.ensures ∙ c.in_ok-declared_outside.ensures;
      unit_verdicts = ap (λ t. t.verdicts) c.in_ok-unit.ensures ∙ ap (λ es. verdicts_of (map written es)) c.in_ok-declared_outside.ensures;
      unit_block = ap (λ t. t.block) c.in_ok-unit.ensures
          ∙ ap (λ es. with_verdicts es (verdicts_of (map written es))) c.in_ok-declared_outside.ensures ∙ unit_is o.marks;
    }
