use Rattle.std.proofs.Common.{◌++◌, map, ap, ◌∙◌}
use Rattle.std.proofs.lemmas.Result.{on_ok_weaker}
use Rattle.std.specs.List.{flat_map}
use Rattle.pli_deck_write.specs.ModuleFields.{member_bytes}
use Rattle.pli_deck_write.specs.answers.ModuleHead.{head_bytes}
use Rattle.pli_code.specs.views.CodeView.{lent_member_view, lent_module_view}
use Rattle.pli_code.proofs.PutLemmas.{then_put}
use Rattle.pli_deck_write.proofs.ModulePuts.{after_head}
use Rattle.pli_deck_write.proofs.modules.put_module.Goals as goal

pub returns : goal.returns
returns c =
    let program = lent_module_view c.args.program.now in
    on_ok_weaker c.put_members.result
    (λ e. then_put c.args.out.now.items _ _ (head_bytes program) _ _ c.in_ok-put_head.ensures (after_head program)
    (e ∙ ap (λ us. c.put_head.new.out.items ++ flat_map member_bytes (map lent_member_view us)) c.deref.ensures.value))
    c.put_members.ensures
