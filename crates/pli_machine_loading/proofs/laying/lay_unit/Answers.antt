use Rattle.std.proofs.Common.{◌≡◌, Some, ◌∷◌, [], length, sym, ap, subst, arith, length-append}
use Rattle.std.specs.Prelude.{IfSome}
use Rattle.pli_type_tree.specs.Templates.{Template}
use Rattle.pli_code.specs.CodeTables.{template_at}
use Rattle.pli_code.specs.views.CodeView.{code_view}
use Rattle.pli_machine_activations.specs.answers.LaidTemplates.{AreLaid}
use Rattle.pli_stacks.specs.answers.LaidBytes.{IsLaid}
use Rattle.pli_store.proofs.OneMore.{each_more}
use Rattle.pli_machine_loading.proofs.laying.lay_unit.Goals as goal

pub loop-number-preserved : goal.loop-number-preserved
loop-number-preserved c =
    let l = c.loop-number in
    let code = code_view c.args.code.now in
    let bytes = c.in_ok-bytes.bytes in
    let more = c.in_ok-push.ensures.items in
    record {
      count = omega (arith, ap length more, length-append l.laid.items (bytes ∷ []), l.invariant.count);
      laid = subst (AreLaid code) (sym more)
          (each_more (λ k o. (t : Template) → template_at code k ≡ Some t → IfSome o (λ bytes. IsLaid t bytes.items))
          l.laid.items bytes l.invariant.laid
          (subst (λ k. (t : Template) → template_at code k ≡ Some t → IfSome bytes (λ bytes. IsLaid t bytes.items))
          (sym l.invariant.count) c.in_ok-bytes.ensures));
    }
