use Rattle.std.proofs.Common.{◌≡◌, ◌<◌, ◌+◌, drop, length, ap, sym, ◌∙◌, subst, arith}
use Rattle.std.specs.Prelude.{IfSome}
use Rattle.pli_type_parts.specs.Around.{found_in, gone_into}
use Rattle.pli_type_parts.specs.views.AroundView.{lists_view}
use Rattle.pli_type_parts.proofs.SearchLemmas.{few_links, kept_few, next_few, searched, search_ends, search_next}
use Rattle.pli_type_parts.proofs.labels.outward_to.Goals as goal

pub gone_into-around-requires-clause-outward : goal.gone_into-around-requires-clause-outward
gone_into-around-requires-clause-outward c =
    let l = c.loop-list in
    few_links l.outward l.list-index l.invariant.few (omega arith)

pub gone_into-around-requires-clause-lasting : goal.gone_into-around-requires-clause-lasting
gone_into-around-requires-clause-lasting c =
    let l = c.loop-list in
    few_links l.lasting l.list-index l.invariant.few_lasting (omega arith)

pub loop-list-preserved : goal.loop-list-preserved
loop-list-preserved c =
    let ls = c.args.lists.now in
    let l = c.loop-list in
    let i = l.list-index in
    let x = c.list-item.result in
    let inside : i < length ls = omega arith in
    let next = c.found_in-outward.result in
    let within = c.is_in_block-is_inside.result in
    let goes : next ≡ found_in c.args.label within x.labels.items (gone_into x.block x.is_on_unit l.outward l.lasting) =
    c.found_in-outward.ensures ∙ ap (found_in c.args.label within x.labels.items) c.gone_into-around.ensures in
    let few : IfSome next (λ links. links < i + 1) =
    subst (λ o. IfSome o (λ links. links < i + 1)) (sym goes)
    (next_few c.args.label x.block x.is_on_unit within x.labels.items l.outward l.lasting i l.invariant.few l.invariant.few_lasting) in
    record {
      left = ap (λ o. searched c.args.label next o within (lists_view (drop (i + 1) ls))) c.kept_after-lasting.ensures
          ∙ search_next c.args.label l.outward l.lasting next l.is_inside within ls i x c.list-item.is inside c.is_in_block-is_inside.ensures goes l.invariant.left;
      few = few;
      few_lasting = subst (λ o. IfSome o (λ links. links < i + 1)) (sym c.kept_after-lasting.ensures)
          (kept_few x.block next l.lasting i few l.invariant.few_lasting);
    }

pub returns : goal.returns
returns c =
    search_ends c.args.label c.loop-list.outward c.loop-list.lasting c.loop-list.is_inside c.args.lists.now c.loop-list.list-index
    c.loop-list-test.false c.loop-list.invariant.left
