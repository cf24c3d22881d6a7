use Rattle.std.proofs.Common.{◌++◌, ap, ◌∙◌}
use Rattle.std.specs.List.{flat_map}
use Rattle.std.proofs.lemmas.Result.{on_ok_weaker}
use Rattle.pli_declare_faults.specs.answers.Targets.{target_uses}
use Rattle.pli_declare_faults.proofs.AttributesMet.{first_means}
use Rattle.pli_declare_faults.proofs.names_in_attributes.append_first.Goals as goal

pub returns : goal.returns
returns c =
    on_ok_weaker c.append_uses.result
    (λ e o here names first. e
    ∙ ap (λ t. c.args.uses.now.items ++ flat_map (λ i. target_uses i.at t) c.args.declared.now) c.target_of.ensures
    ∙ ap (λ f. c.args.uses.now.items ++ flat_map f c.args.declared.now) (λ k i. first_means o here c.args.first names first i.at k))
    c.append_uses.ensures
