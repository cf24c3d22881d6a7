use Rattle.std.proofs.Common.{nat_eq}
use Rattle.indexmap.specs.IndexMap.{get}
use Rattle.pli_type_templates.proofs.NamesNoted.{names_more}
use Rattle.pli_type_templates.proofs.item_numbers.note_names.Goals as goal

pub loop-name-preserved : goal.loop-name-preserved
loop-name-preserved c =
    let l = c.loop-name in
    let old = get nat_eq l.numbers in
    let new = get nat_eq c.note_name.new.numbers in
    let kept = c.in_ok-note_name.ensures.kept in
    record {
      here = names_more old new c.args.names.now l.name-index c.name-item.result c.args.number c.loop-name-test.true c.name-item.is l.invariant.here kept
          c.in_ok-note_name.ensures.here;
      kept = λ at number h. kept at number (l.invariant.kept at number h);
    }
