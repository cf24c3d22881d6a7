use Rattle.std.proofs.Common.{length, refl, sym, subst, arith}
use Rattle.std.proofs.lemmas.List.{drop_all}
use Rattle.pli_map.specs.Marks.{HaveMark}
use Rattle.pli_map.specs.views.DescriptionView.{description_view, members_view}
use Rattle.pli_map.proofs.MarkLemmas.{structure_marked, array_marked, member_before, all_members}
use Rattle.pli_map.proofs.marks.+mark.Goals as goal

pub mark_of_structure-returns : goal.mark_of_structure-returns
mark_of_structure-returns t c = structure_marked (members_view c.args.members.now) _ _ c.mark_of_members.ensures c.told.ensures

pub mark_of_array-returns : goal.mark_of_array-returns
mark_of_array-returns t c = array_marked c.args.bounds.now (description_view c.args.element.now) _ _ _ c.mark_of.ensures c.with_dimensions.ensures c.told.ensures

pub mark_of_members-loop-at-init : goal.mark_of_members-loop-at-init
mark_of_members-loop-at-init t c =
    let members = c.args.members.now in
    subst (λ ds. HaveMark (members_view ds) 1) (sym (drop_all (length members) members (omega arith))) (λ some. (refl, refl))

pub mark_of_members-loop-at-preserved : goal.mark_of_members-loop-at-preserved
mark_of_members-loop-at-preserved t c =
    member_before c.args.members.now c.loop-at.at c.index-members-at.result c.mark_of.result c.loop-at.mark c.with_member-mark.result c.loop-at-test.true c.loop-at.auto.at c.index-members-at.is
    c.mark_of.ensures c.loop-at.invariant c.with_member-mark.ensures

pub mark_of_members-returns : goal.mark_of_members-returns
mark_of_members-returns t c = all_members c.args.members.now c.loop-at.at c.loop-at.mark c.loop-at-test.false c.loop-at.invariant
