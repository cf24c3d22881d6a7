use Rattle.std.proofs.Common.{◌≡◌, ℕ, ◌<◌, ◌+◌, ◌∷◌, List, [], length, get_or, sym, ap, ◌∙◌, arith}
use Rattle.std.proofs.lemmas.List.{nil_from_length, length-map, length-replicate, get_or-replicate}
use Rattle.pli_declare_outline.specs.views.OutlineView.{outline_view, region_view, marks_view}
use Rattle.pli_declare.specs.Tables.{Entry, inner_marks, entries_after, entries_in}
use Rattle.pli_declare_tables.specs.views.TableView.{blocks_view}
use Rattle.pli_declare_tables.proofs.BlocksByMarks.{all_blocks}
use Rattle.pli_declare_tables.proofs.table.declared_blocks.Goals.{in-Some+in_ok-declare_all, in_default}
use Rattle.pli_declare_tables.proofs.table.declared_blocks.Goals as goal

pub returns : goal.returns
returns c =
    let o = outline_view c.args.outline.now in
    let regions = c.args.outline.now.regions.items in
    let empty = blocks_view c.in_ok-declared.declared.items in
    let many : c.len.result + 1 ≡ length o.regions + 1 = omega (arith, length-map regions region_view) in
    let none : (b : ℕ) → b < length o.regions + 1 → get_or empty b [] ≡ [] =
    λ b lt. ap (λ (bs : List (List Entry)). get_or bs b []) c.in_ok-declared.ensures ∙ get_or-replicate (c.len.result + 1) b [] [] (omega (arith, lt, many)) in
    let count : length empty ≡ length o.regions + 1 = ap length c.in_ok-declared.ensures ∙ length-replicate (c.len.result + 1) [] ∙ many in
    let short : length c.in_ok-declared.declared.items ≡ length o.regions + 1 = sym (length-map c.in_ok-declared.declared.items _) ∙ count in
    elim c.match-split_first.branch [
      | in-Some+in_ok-declare_all w ↦
          (let inner = w.in-Some.inner.now in
          let marks : c.args.outline.now.marks.items ≡ w.in-Some.field-0-0.now ∷ inner = sym c.deref.ensures.value ∙ w.in-Some.ensures.cases.0 in
          ap (λ v. blocks_view v.items) w.declared-is
          ∙ all_blocks (entries_in o) (blocks_view w.declare_all.new.blocks.items) (length o.regions + 1)
          (length-map w.declare_all.new.blocks.items _ ∙ w.in_ok-declare_all.ensures.count ∙ short)
          (λ b lt. w.in_ok-declare_all.ensures.each b (omega (arith, lt, short))
          ∙ ap (λ es. entries_after c.args.nesting.now b es (marks_view inner)) (none b lt)
          ∙ ap (λ rs. entries_after rs b [] (marks_view inner)) c.requires
          ∙ ap (λ ms. entries_after o.regions b [] (inner_marks (marks_view ms))) (sym marks)))
      | in_default w ↦
          (let marks : c.args.outline.now.marks.items ≡ [] = sym c.deref.ensures.value ∙ nil_from_length c.deref.result.now w.in_default.ensures.cases in
          ap (λ v. blocks_view v.items) w.declared-is
          ∙ all_blocks (entries_in o) empty (length o.regions + 1) count
          (λ b lt. none b lt ∙ ap (λ ms. entries_after o.regions b [] (inner_marks (marks_view ms))) (sym marks)))
    ]
