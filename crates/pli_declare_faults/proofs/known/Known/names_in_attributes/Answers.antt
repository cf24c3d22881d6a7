use Rattle.std.proofs.Common.{◌≡◌, ◌++◌, [], ◌+◌, ◌<◌, map, replicate, length, take, refl, sym, ap, ◌∙◌, Contains, arith}
use Rattle.std.proofs.lemmas.List.{length-map}
use Rattle.pli_declare_outline.specs.views.OutlineView.{outline_view, region_view, marks_view, placed_view}
use Rattle.pli_declare_constructs.specs.Regions.{blocks_round}
use Rattle.pli_declare.specs.Tables.{inner_marks}
use Rattle.pli_declare.specs.Resolved.{areas_at, locators_at}
use Rattle.pli_declare_faults.specs.answers.Walks.{of_blocks}
use Rattle.pli_declare_faults.proofs.NumberLists.{replicate_numbers, length_of_numbers}
use Rattle.pli_declare_faults.proofs.ParametersGathered.{marks_more}
use Rattle.pli_declare_faults.proofs.TablesOfBlocks.{block_within}
use Rattle.pli_declare_faults.proofs.GoodnessOfBlocks.{so_far, mark_passed}
use Rattle.pli_declare_faults.proofs.MarksInBlocks.{mark_stands}
use Rattle.pli_declare_faults.proofs.NamedUses.{passed, same_areas, same_locators}
use Rattle.pli_declare_faults.proofs.known.Known.names_in_attributes.Goals as goal

pub loop-placed-init : goal.loop-placed-init
loop-placed-init c =
    let outline = c.args.self.now.scopes.outline.now in
    record {
      good = c.in_ok-all.ensures ∙ ap (λ n. replicate n []) (omega (arith, c.len.ensures, length-map outline.regions.items region_view))
          ∙ replicate_numbers [] 0 (length (outline_view outline).regions + 1);
      areas = refl;
      locators = refl;
    }

pub append_at-requires : goal.append_at-requires
append_at-requires c =
    let o = outline_view c.args.self.now.scopes.outline.now in
    let before = marks_view (take c.loop-placed.placed-index c.marks_after-marks.result.now) in
    omega (
      arith,
      c.block_of-block.ensures,
      block_within o.regions c.placed-item.result.region,
      length-map c.loop-placed.all.items (λ list. list.items),
      ap length c.loop-placed.invariant.good,
      length_of_numbers (so_far o before) 0 (length o.regions + 1),
    )

pub loop-placed-preserved : goal.loop-placed-preserved
loop-placed-preserved c =
    let o = outline_view c.args.self.now.scopes.outline.now in
    let l = c.loop-placed in
    let marks = c.marks_after-marks.result.now in
    let n = l.placed-index in
    let x = c.placed-item.result in
    let b = c.block_of-block.result in
    let count = length o.regions + 1 in
    let lt : n < length marks = c.loop-placed-test.true in
    let within : b < count = omega (arith, c.block_of-block.ensures, block_within o.regions x.region) in
    let stands : Contains (inner_marks o.marks) (placed_view x) = mark_stands marks n x (inner_marks o.marks) lt c.placed-item.is c.marks_after-marks.ensures in
    let round : blocks_round o.regions b ≡ blocks_round o.regions x.region =
    ap (blocks_round o.regions) c.block_of-block.ensures ∙ c.args.self.now.scopes.placed (placed_view x) stands in
    let added = c.in_ok-append_at.ensures in
    record {
      good = mark_passed o count (marks_view (take n marks)) (placed_view x) (map (λ list. list.items) l.all.items) (map (λ list. list.items) c.append_at.new.all.items)
          b c.block_of-block.ensures within added.answers l.invariant.good
          ∙ ap (λ ms. of_blocks o (so_far o ms)) (sym (marks_more marks n x lt c.placed-item.is));
      areas = passed placed_view (λ p. areas_at o p.region p.mark) marks n x l.areas.items c.append_at.new.areas.items _ lt c.placed-item.is
          (added.areas ∙ ap (λ us. l.areas.items ++ us) (same_areas o x.region b round (placed_view x).mark)) l.invariant.areas;
      locators = passed placed_view (λ p. locators_at o p.region p.mark) marks n x l.locators.items c.append_at.new.locators.items _ lt c.placed-item.is
          (added.locators ∙ ap (λ us. l.locators.items ++ us) (same_locators o x.region b round (placed_view x).mark)) l.invariant.locators;
    }
