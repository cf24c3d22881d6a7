use Rattle.std.proofs.Common.{refl, arith}
use Rattle.std.specs.List.{flat_map}
use Rattle.pli_declare_faults.specs.answers.Targets.{target_uses}
use Rattle.pli_declare_faults.proofs.Appended.{all_appended, element_gives, one_appended}
use Rattle.pli_declare_faults.proofs.names_in_attributes.append_uses.Goals as goal

pub loop-name-preserved : goal.loop-name-preserved
loop-name-preserved c =
    let l = c.loop-name in
    one_appended (flat_map (λ i. target_uses i.at c.args.target)) c.args.names.now l.name-index l.uses.items c.add_use.new.uses.items _
    (target_uses c.name-item.result.at c.args.target)
    (element_gives (flat_map (λ i. target_uses i.at c.args.target)) c.args.names.now l.name-index c.name-item.result (omega arith) c.name-item.is)
    c.in_ok-add_use.ensures l.invariant

pub returns : goal.returns
returns c =
    let l = c.loop-name in
    all_appended (flat_map (λ i. target_uses i.at c.args.target)) c.args.names.now l.name-index l.uses.items _ (omega arith) refl l.invariant
