use Rattle.std.proofs.Common.{◌≡◌, ◌∷◌, ◌+◌, ◌<◌, [], length, get_or, drop, length-set, ℕ, subst, sym, ap, ◌∙◌, arith}
use Rattle.std.proofs.lemmas.List.{drop_more, length-map}
use Rattle.pli_declare_outline.specs.views.OutlineView.{placed_view, marks_view}
use Rattle.pli_declare_constructs.specs.Regions.{block_of, first_or_unit}
use Rattle.pli_declare.specs.Tables.{entries_after}
use Rattle.pli_declare_tables.specs.views.TableView.{blocks_view}
use Rattle.pli_declare_tables.proofs.BlocksByMarks.{block_is, block_within, mark_more}
use Rattle.pli_declare_tables.proofs.table.declare_all.Goals as goal

pub loop-placed-preserved : goal.loop-placed-preserved
loop-placed-preserved c =
    let regions = c.args.nesting.now in
    let marks = c.args.marks.now in
    let n = c.loop-placed.placed-index in
    let p = c.placed-item.result in
    let before = blocks_view c.loop-placed.blocks.items in
    let after = blocks_view c.declare_in.new.blocks.items in
    let block = c.unwrap_or-block.result in
    let is : block ≡ block_of regions p.region = c.unwrap_or-block.ensures ∙ block_is c.innermost.result ∙ ap first_or_unit c.innermost.ensures.value in
    let count : length before ≡ length c.args.blocks.now.items = length-map c.loop-placed.blocks.items _ ∙ c.loop-placed.invariant.count in
    let within : block < length before = subst (λ (k : ℕ). k < length before) (sym c.unwrap_or-block.ensures)
    (block_within c.innermost.result (length regions) (length before) c.innermost.ensures.within (omega (arith, count, c.requires))) in
    let next : marks_view (drop n marks) ≡ placed_view p ∷ marks_view (drop (n + 1) marks) =
    ap marks_view (drop_more marks n p (omega arith) ∙ ap (λ q. q ∷ drop (n + 1) marks) (sym c.placed-item.is)) in
    record {
      count = sym (length-map c.declare_in.new.blocks.items _) ∙ ap length c.in_ok-declare_in.ensures ∙ length-set before block _ ∙ count;
      each = λ b lt. mark_more regions before after (placed_view p) (marks_view (drop (n + 1) marks)) block is within c.in_ok-declare_in.ensures b
          ∙ ap (entries_after regions b (get_or before b [])) (sym next) ∙ c.loop-placed.invariant.each b lt;
    }
