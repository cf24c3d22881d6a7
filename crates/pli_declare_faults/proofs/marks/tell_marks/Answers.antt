use Rattle.std.proofs.Common.{◌≡◌, ◌<◌, ◌≤◌, ◌+◌, ◌++◌, ℕ, Option, List, [], ◌∷◌, length, get_or, set, take, drop, replicate, refl, sym, ap, ◌∙◌, arith, rules}
use Rattle.std.proofs.lemmas.List.{length-map}
use Rattle.pli_base.specs.declared.code.Code.{Code}
use Rattle.pli_declare_constructs.specs.Regions.{block_of}
use Rattle.pli_declare_outline.specs.Outlines.{PlacedMark, Outline}
use Rattle.pli_declare_outline.specs.declared.region.PlacedMark as written
use Rattle.pli_declare_outline.specs.views.OutlineView.{outline_view, mark_view, marks_view, placed_view}
use Rattle.pli_declare.specs.Tables.{entries_in, inner_marks}
use Rattle.pli_declare.specs.Resolution.{item_code, declared_by, faults_after}
use Rattle.pli_declare.specs.DeclaredNames.{declared_names}
use Rattle.pli_declare_faults.specs.answers.Walks.{of_blocks, block_codes, name_faults}
use Rattle.pli_declare_faults.proofs.NumberLists.{replicate_numbers, length_of_numbers}
use Rattle.pli_declare_faults.proofs.ParametersGathered.{marks_more}
use Rattle.pli_declare_faults.proofs.MarksPassed.{room, marks_told, next_told, block_in, at_block, codes_within, codes_at, left_marks, all_marks}
use Rattle.pli_declare.specs.Resolved.{uses_at}
use Rattle.pli_declare_faults.proofs.NamedUses.{passed}
use Rattle.pli_declare_faults.proofs.marks.tell_marks.Goals as goal

pub loop-placed-init : goal.loop-placed-init
loop-placed-init c =
    let o = outline_view c.args.scopes.now.outline.now in
    let count = length o.regions + 1 in
    record {
      next = c.in_ok-next.ensures.items_if_clones_equal (λ y e. e)
          ∙ ap (λ n. replicate n 0) (sym (length-map c.args.codes.now (λ list. list.items)) ∙ ap length c.requires.codes ∙ length_of_numbers (block_codes o) 0 count)
          ∙ replicate_numbers 0 0 count;
      told = refl;
      used = refl;
    }

pub bounds-codes-block : goal.bounds-codes-block
bounds-codes-block c = omega (arith, codes_within (outline_view c.args.scopes.now.outline.now) c.args.codes.now c.placed-item.result.region c.block_of-block.result c.block_of-block.ensures c.requires.codes)

pub offset_bounds-codes-block : goal.offset_bounds-codes-block
offset_bounds-codes-block c =
    let lt = codes_within (outline_view c.args.scopes.now.outline.now) c.args.codes.now c.placed-item.result.region c.block_of-block.result c.block_of-block.ensures c.requires.codes in
    search rules

-- there is a number for the block of a mark
next_within : (o : Outline) (before : List PlacedMark) (next : List ℕ) (region block : ℕ) → block ≡ block_of o.regions region → next ≡ of_blocks o (λ b. declared_by o b before) → block < length next
next_within o before next region block e all = block_in o (λ b. declared_by o b before) next region block e all

pub index-requires : goal.index-requires
index-requires c =
    let before = marks_view (take c.loop-placed.placed-index c.args.marks.now) in
    omega (arith, next_within (outline_view c.args.scopes.now.outline.now) before c.loop-placed.next.items c.placed-item.result.region c.block_of-block.result c.block_of-block.ensures c.loop-placed.invariant.next)

pub index_mut-requires : goal.index_mut-requires
index_mut-requires c =
    let before = marks_view (take c.loop-placed.placed-index c.args.marks.now) in
    omega (arith, next_within (outline_view c.args.scopes.now.outline.now) before c.loop-placed.next.items c.placed-item.result.region c.block_of-block.result c.block_of-block.ensures c.loop-placed.invariant.next)

-- the names of a mark have codes
declared_within : (o : Outline) (ms : List written.PlacedMark) (n : ℕ) (x : written.PlacedMark) (number : ℕ) (codes : List (Option Code)) → n < length ms → x ≡ get_or ms n x → marks_view ms ≡ inner_marks o.marks
    → number ≡ declared_by o (block_of o.regions x.region) (marks_view (take n ms)) → codes ≡ block_codes o (block_of o.regions x.region) → number + length (declared_names (mark_view x.mark)) ≤ length codes
declared_within o ms n x number codes lt read marks counted coded =
    let here = block_of o.regions x.region in
    omega (arith, counted, ap length coded, length_of_numbers (item_code o here) 0 (length (entries_in o here)), room o (marks_view (take n ms)) (placed_view x) (marks_view (drop (n + 1) ms)) (sym marks ∙ all_marks ms n x lt read))

pub tell_declared-requires : goal.tell_declared-requires
tell_declared-requires c =
    let o = outline_view c.args.scopes.now.outline.now in
    let x = c.placed-item.result in
    let b = c.block_of-block.result in
    let is = c.block_of-block.ensures in
    declared_within o c.args.marks.now c.loop-placed.placed-index x c.index.result.now c.deref.result.now (omega arith) c.placed-item.is c.requires.marks
    (c.index.ensures ∙ at_block o (λ k. declared_by o k (marks_view (take c.loop-placed.placed-index c.args.marks.now))) c.loop-placed.next.items x.region b c.index.result.now is c.loop-placed.invariant.next)
    (c.deref.ensures.value ∙ codes_at o c.args.codes.now x.region b is c.requires.codes c.index-codes-block.result c.index-codes-block.is)

pub loop-placed-preserved : goal.loop-placed-preserved
loop-placed-preserved c =
    let o = outline_view c.args.scopes.now.outline.now in
    let ms = c.args.marks.now in
    let n = c.loop-placed.placed-index in
    let x = c.placed-item.result in
    let lt : n < length ms = omega arith in
    let before = marks_view (take n ms) in
    let p = placed_view x in
    let rest = marks_view (drop (n + 1) ms) in
    let b = c.block_of-block.result in
    let here = block_of o.regions x.region in
    let all : inner_marks o.marks ≡ before ++ p ∷ rest = sym c.requires.marks ∙ all_marks ms n x lt c.placed-item.is in
    let codes = c.deref.ensures.value ∙ codes_at o c.args.codes.now x.region b c.block_of-block.ensures c.requires.codes c.index-codes-block.result c.index-codes-block.is in
    let number : c.index.result.now ≡ declared_by o here before =
    c.index.ensures ∙ at_block o (λ k. declared_by o k before) c.loop-placed.next.items x.region b c.index.result.now c.block_of-block.ensures c.loop-placed.invariant.next in
    let faults = c.loop-placed.faults.items in
    let names = declared_names p.mark in
    let front : marks_view (take (n + 1) ms) ≡ before ++ p ∷ [] = marks_more ms n x lt c.placed-item.is in
    let e : c.tell_declared.new.faults.items ≡ faults ++ name_faults (block_codes o here) (declared_by o here before) names =
    c.in_ok-next-2.ensures.faults ∙ ap (λ cs. faults ++ name_faults cs c.index.result.now names) codes ∙ ap (λ k. faults ++ name_faults (block_codes o here) k names) number in
    record {
      next = next_told o before p c.loop-placed.next.items (set c.loop-placed.next.items b c.in_ok-next-2.field-0) c.in_ok-next-2.field-0 c.loop-placed.invariant.next
          (c.in_ok-next-2.ensures.number ∙ ap (λ k. k + length names) number) (ap (λ k. set c.loop-placed.next.items k c.in_ok-next-2.field-0) c.block_of-block.ensures)
          ∙ ap (λ bs. of_blocks o (λ k. declared_by o k bs)) (sym front);
      told = ap (λ bs. c.tell_used.new.faults.items ++ faults_after o bs rest) front
          ∙ marks_told o before p rest all faults c.tell_declared.new.faults.items c.tell_used.new.faults.items _ e c.in_ok-tell_used.ensures.faults
          (ap (λ qs. faults ++ faults_after o before qs) (sym (left_marks ms n x lt c.placed-item.is)) ∙ c.loop-placed.invariant.told);
      used = passed placed_view (λ p. uses_at o p.region p.mark) ms n x c.loop-placed.uses.items c.tell_used.new.uses.items _ lt c.placed-item.is c.in_ok-tell_used.ensures.uses c.loop-placed.invariant.used;
    }
