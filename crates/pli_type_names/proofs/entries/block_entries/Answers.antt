use Rattle.std.proofs.Common.{◌≡◌, List, Some, length, map, take, ap, sym, ◌∙◌}
use Rattle.pli_base.specs.views.StatementView.{unit_view}
use Rattle.pli_declare.specs.ResolvedUnits.{resolved_unit_of}
use Rattle.pli_resolve.specs.views.UnitView.{resolved_block_view}
use Rattle.pli_type_names.specs.BlockEntries.{entry_at}
use Rattle.pli_type_names.specs.declared.entries.BlockEntry.{BlockEntry}
use Rattle.pli_type_names.specs.views.EntryView.{entry_view}
use Rattle.pli_type_names.proofs.BlockLemmas.{entries_of, entry_bare, all_entries}
use Rattle.pli_type_names.proofs.ListLemmas.{one_made}
use Rattle.pli_type_names.proofs.entries.block_entries.Goals as goal

pub loop-block-preserved : goal.loop-block-preserved
loop-block-preserved c =
    let made = c.loop-block.made.items in
    let counted : c.len.result ≡ length made = c.len.ensures ∙ c.loop-block.made.ok.0 in
    let r = resolved_unit_of (unit_view c.args.resolved.now) in
    let b = resolved_block_view c.in-Some.block in
    let x = c.in_ok-entry.entry in
    let again : c.len.result ≡ c.len-in-Some.result = c.len.ensures ∙ sym c.len-in-Some.ensures in
    let found = entry_bare r c.len.result (Some b) c.in-Some.ensures ∙ ap (λ n. Some (entry_at r n b)) again ∙ ap Some (sym c.in_ok-entry.ensures) in
    ap (map entry_view) c.in_ok-push.ensures.items
    ∙ one_made entry_view (entries_of r) c.len.result made x counted c.loop-block.invariant found
    ∙ ap (λ (xs : List BlockEntry). take (length xs) (entries_of r)) (sym c.in_ok-push.ensures.items)

pub returns : goal.returns
returns c =
    let r = resolved_unit_of (unit_view c.args.resolved.now) in
    let is = c.loop-block.invariant ∙ ap (λ n. take n (entries_of r)) (sym (c.len.ensures ∙ c.loop-block.made.ok.0)) in
    record { found = all_entries r c.len.result (map entry_view c.loop-block.made.items) c.in_default.ensures is }
