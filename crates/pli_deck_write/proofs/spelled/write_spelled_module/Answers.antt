use Rattle.std.proofs.Common.{[], ◌++◌, map, ap, ◌∙◌}
use Rattle.std.specs.List.{flat_map}
use Rattle.pli_code.proofs.PutLemmas.{then_put}
use Rattle.pli_code.specs.views.CodeView.{lent_member_view, lent_module_view}
use Rattle.pli_deck_write.specs.ModuleFields.{member_bytes}
use Rattle.pli_deck_write.specs.answers.ModuleHead.{head_bytes}
use Rattle.pli_deck_write.proofs.ModulePuts.{after_head}
use Rattle.pli_deck_write.proofs.spelled.write_spelled_module.Goals as goal

pub returns : goal.returns
returns c =
    let program = lent_module_view c.args.program.now in
    let head = c.in_ok-put_head.ensures ∙ ap (λ bs. bs ++ head_bytes program) c.new-out.ensures.items in
    then_put [] _ _ (head_bytes program) (flat_map member_bytes program.units) _ head (after_head program)
    (c.in_ok-put_spelled_members.ensures ∙ ap (λ us. c.put_head.new.out.items ++ flat_map member_bytes (map lent_member_view us)) c.deref.ensures.value)
