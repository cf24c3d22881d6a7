use Rattle.std.proofs.Common.{◌++◌, ◌∷◌, [], length, ap, ◌∙◌, sym, append_assoc}
use Rattle.pli_program.specs.declared.instruction.Instruction.TheVariants as op
use Rattle.pli_type_tree.specs.views.TemplateView.{template_view}
use Rattle.pli_type_tree.specs.views.TypedView.{reference_view, conversion_view, allocated_view}
use Rattle.pli_gen_emit.specs.TreeTranslation.{place_code, conversion_code, allocation_code}
use Rattle.pli_gen_emit.proofs.EmitLemmas.{emits_as, emits_both}
use Rattle.pli_gen_emit.proofs.simple.emit_allocation.Goals as goal

pub returns-in-InArea : goal.returns-in-InArea
returns-in-InArea c =
    let b = c.in-InArea in
    let old = c.args.code.now in
    let found = c.emit_place.new.code in
    let made = c.allocate_in_area.new.self in
    let kept = c.emit_kept_pointer-in-InArea.new.code in
    let last = c.emit_store.new.code in
    let t = template_view b.template in
    let area = place_code (reference_view b.area) in
    let target = place_code (reference_view b.target) in
    let set = op.SetTemporary b.temporary in
    let take = op.TakeTemporary b.temporary in
    let store = conversion_code (conversion_view b.conversion) ++ op.Store ∷ [] in
    let rest = set ∷ (target ++ take ∷ []) ++ store in
    emits_as old last _ _
    (emits_both old found last area (op.AllocateInArea t c.place-place.result ∷ rest) c.emit_place.ensures
    (emits_both found made last (op.AllocateInArea t c.place-place.result ∷ []) rest c.allocate_in_area.ensures
    (emits_both made kept last (set ∷ (target ++ take ∷ [])) store c.emit_kept_pointer-in-InArea.ensures c.emit_store.ensures)))
    (ap (λ n. area ++ (op.AllocateInArea t n ∷ rest)) c.place-place.ensures
    ∙ ap (λ xs. area ++ (op.AllocateInArea t (length old.code.items) ∷ set ∷ xs)) (append_assoc target (take ∷ []) store)
    ∙ sym (ap (λ x. allocation_code (allocated_view x) (length old.code.items)) b.is))
