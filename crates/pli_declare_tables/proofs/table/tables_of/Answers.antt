use Rattle.std.proofs.Common.{◌≡◌, suc, ◌++◌, ◌∷◌, List, [], map, Vec, Global, append-nil, append_assoc, sym, ap, ◌∙◌, subst, arith}
use Rattle.std.proofs.lemmas.List.{nil_from_length, map_push}
use Rattle.pli_declare.specs.Tables.{table_with}
use Rattle.pli_declare_tables.specs.views.TableView.{table_view, blocks_view}
use Rattle.pli_declare.specs.answers.Owners.{AllAfterOwners}
use Rattle.pli_declare_tables.specs.declared.entry.Entry.{Entry}
use Rattle.pli_declare_tables.specs.declared.table.Table.{Table}
use Rattle.pli_declare_tables.proofs.table.tables_of.Goals as goal

pub loop-entries-init : goal.loop-entries-init
loop-entries-init c =
    let all = c.into_iter-entries-iterator.ensures.into_iter_gives.0 in
    let rest = c.into_iter-entries-iterator.result.rest.items in
    record {
      tables = ap (λ (ts : List Table). map table_view ts ++ map table_with (blocks_view rest)) c.new-tables.ensures.items ∙ ap (λ bs. map table_with (blocks_view bs)) all;
      after = subst (λ (bs : List (Vec Entry Global)). AllAfterOwners (blocks_view bs)) (sym all) c.requires;
    }

pub new-requires : goal.new-requires
new-requires c =
    let left = subst (λ (bs : List (Vec Entry Global)). AllAfterOwners (blocks_view bs)) c.in-Some.ensures.steps.0 c.loop-entries.invariant.after in
    left 0 (omega arith)

pub loop-entries-preserved : goal.loop-entries-preserved
loop-entries-preserved c =
    let steps = c.in-Some.ensures.steps.0 in
    let done = c.loop-entries.tables.items in
    let table = c.in_ok-new.field-0 in
    let rest = map table_with (blocks_view c.next.new.self.rest.items) in
    let left = subst (λ (bs : List (Vec Entry Global)). AllAfterOwners (blocks_view bs)) steps c.loop-entries.invariant.after in
    record {
      tables = ap (λ (ts : List Table). map table_view ts ++ rest) c.in_ok-push.ensures.items
          ∙ ap (λ ts. ts ++ rest) (map_push table_view done table)
          ∙ append_assoc (map table_view done) (table_view table ∷ []) rest
          ∙ ap (λ t. map table_view done ++ t ∷ rest) c.in_ok-new.ensures
          ∙ sym (ap (λ bs. map table_view done ++ map table_with (blocks_view bs)) steps)
          ∙ c.loop-entries.invariant.tables;
      after = λ n lt. left (suc n) (omega (arith, lt));
    }

pub returns : goal.returns
returns c =
    let done = map table_view c.loop-entries.tables.items in
    let left = c.loop-entries.entries-iterator.rest.items in
    let none : left ≡ [] = nil_from_length left (omega (arith, c.in-None.ensures.steps.0)) in
    sym (append-nil done) ∙ ap (λ bs. done ++ map table_with (blocks_view bs)) (sym none) ∙ c.loop-entries.invariant.tables
