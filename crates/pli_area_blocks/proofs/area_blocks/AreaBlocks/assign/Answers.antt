use Rattle.std.proofs.Common.{◌≡◌, ◌<◌, ◌≤◌, ◌++◌, map, sym, ap, ◌∙◌, subst}
use Rattle.pli_area_blocks.specs.answers.Known.{AreKnown}
use Rattle.pli_area_blocks.specs.views.BlocksView.{block_view, wholes}
use Rattle.pli_area_blocks.proofs.Options.{from_err, from_ok}
use Rattle.pli_area_blocks.proofs.ViewedBlocks.{extent_view}
use Rattle.pli_area_blocks.proofs.area_blocks.AreaBlocks.assign.Goals as goal
use Rattle.pli_area_blocks.proofs.area_blocks.AreaBlocks.assign.Goals.{Else-is_err}

pub invariant_of-self : goal.invariant_of-self
invariant_of-self c =
    let self = c.args.self.now in
    let unchanged = from_err c.assign.result (sym c.is_err.ensures.value ∙ c.if-is_err.true) c.assign.ensures.unchanged in
    record { known = subst (AreKnown (wholes self.descriptions.items)) (sym unchanged) self.known }

pub returns-then-is_err-clause-answer : goal.returns-then-is_err-clause-answer
returns-then-is_err-clause-answer c =
    let self = c.args.self.now in
    let source = c.args.source.now in
    let failed = sym c.is_err.ensures.value ∙ c.if-is_err.true in
    let ends = extent_view (wholes source.descriptions.items) 0 source.area.blocks source.known in (
      subst (λ n. self.area.capacity < n) ends (from_err c.assign.result failed c.assign.ensures.full),
      ap (map (block_view (wholes self.descriptions.items))) (from_err c.assign.result failed c.assign.ensures.unchanged),
    )

-- the descriptions that are taken over
taken : (c : Else-is_err) → c.extend_from_slice.new.self.items ≡ c.args.source.now.descriptions.items
taken c =
    c.in_ok-extend_from_slice.ensures.items ∙ ap (λ l. l ++ c.deref.result.now) c.new-descriptions.ensures.items ∙ c.deref.ensures.value

pub invariant_of-self-2 : goal.invariant_of-self-2
invariant_of-self-2 c =
    let source = c.args.source.now in
    let assigned = from_ok c.assign.result (sym c.is_err.ensures.value ∙ c.if-is_err.false) c.assign.ensures.assigned in
    record {
      known = subst (λ l. AreKnown (wholes l) c.assign.new.self.blocks) (sym (taken (goal.at.invariant_of-self-2 c).Else-is_err))
          (subst (AreKnown (wholes source.descriptions.items)) (sym assigned) source.known);
    }

pub returns-clause-answer : goal.returns-clause-answer
returns-clause-answer c =
    let self = c.args.self.now in
    let source = c.args.source.now in
    let passed = sym c.is_err.ensures.value ∙ c.if-is_err.false in
    let ends = extent_view (wholes source.descriptions.items) 0 source.area.blocks source.known in (
      subst (λ n. n ≤ self.area.capacity) ends (from_ok c.assign.result passed c.assign.ensures.fits),
      ap (λ l. map (block_view (wholes l)) c.assign.new.self.blocks) (taken (goal.at.returns-clause-answer c).Else-is_err)
          ∙ ap (map (block_view (wholes source.descriptions.items))) (from_ok c.assign.result passed c.assign.ensures.assigned),
    )
