use Rattle.std.proofs.Common.{◌+◌, ◌<◌, length, ap, sym, ◌∙◌, subst}
use Rattle.std.proofs.lemmas.List.{length-map}
use Rattle.pli_declare_outline.specs.views.OutlineView.{outline_view, region_view}
use Rattle.pli_declare.specs.Tables.{table_in}
use Rattle.pli_declare_tables.specs.views.TableView.{table_view}
use Rattle.pli_declare.proofs.ListsByNumber.{seen_length, seen_at}
use Rattle.pli_declare_faults.proofs.known.Known.table.Goals as goal

pub index-requires : goal.index-requires
index-requires c =
    let k = c.args.self.now in
    let o = outline_view k.scopes.outline.now in
    let blocks = k.scopes.tables.now.blocks in
    subst (λ n. c.args.block < n)
    (sym (blocks.ok.0 ∙ seen_length table_view (table_in o) blocks.items (length o.regions + 1) k.scopes.tabled.blocks ∙ ap (λ n. n + 1) (length-map k.scopes.outline.now.regions.items region_view)))
    c.requires

pub returns : goal.returns
returns c =
    let k = c.args.self.now in
    let o = outline_view k.scopes.outline.now in
    let blocks = k.scopes.tables.now.blocks in
    let within = subst (λ n. c.args.block < n + 1) (sym (length-map k.scopes.outline.now.regions.items region_view)) c.requires in
    ap table_view c.index.ensures ∙ seen_at table_view (table_in o) blocks.items (length o.regions + 1) c.args.block c.index.result.now k.scopes.tabled.blocks within
