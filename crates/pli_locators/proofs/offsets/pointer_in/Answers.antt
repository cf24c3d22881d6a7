use Rattle.std.proofs.Common.{eq-eqb, ne_eqb}
use Rattle.std.proofs.lemmas.Result.{err_from_is_err_and}
use Rattle.pli_store.specs.views.StorageView.{place_view, with_storage}
use Rattle.pli_locators.proofs.OffsetsAnswered.{pointer_refused, null_pointer, pointer_there, no_pointer_of_null, no_pointer_of_pointer}
use Rattle.pli_locators.proofs.offsets.pointer_in.Goals as goal

pub returns-in_err-use_area-in-Offset : goal.returns-in_err-use_area-in-Offset
returns-in_err-use_area-in-Offset c = λ w.
    let p = err_from_is_err_and c.from_residual.result c.from_residual.ensures.1 in
    let q = place_view c.args.area in
    let before = with_storage c.args.storage.now w in
    let f = c.in_err-use_area-in-Offset.field-0.0 in
    rw (p.1, p.2, c.in-Offset.is) (pointer_refused q before c.in-Offset.position f (c.in_err-use_area-in-Offset.ensures w))

pub returns-then-position-eq0 : goal.returns-then-position-eq0
returns-then-position-eq0 c = λ w.
    rw c.in-Offset.is
    (null_pointer (place_view c.args.area) (with_storage c.args.storage.now w) (c.in_ok-use_area-in-Offset.ensures w) c.in-Offset.position
    (eq-eqb c.in-Offset.position 0 c.if-position-eq0.true))

pub returns-else-position-eq0 : goal.returns-else-position-eq0
returns-else-position-eq0 c = λ w.
    rw c.in-Offset.is
    (pointer_there (place_view c.args.area) (with_storage c.args.storage.now w) (c.in_ok-use_area-in-Offset.ensures w) c.in-Offset.position
    (ne_eqb c.in-Offset.position 0 c.if-position-eq0.false))

pub returns-in-Null : goal.returns-in-Null
returns-in-Null c = λ w. rw c.in-Null.is (no_pointer_of_null (place_view c.args.area) (with_storage c.args.storage.now w))

pub returns-in-Pointer : goal.returns-in-Pointer
returns-in-Pointer c = λ w.
    rw c.in-Pointer.is
    (no_pointer_of_pointer (place_view c.args.area) (with_storage c.args.storage.now w) c.in-Pointer.generation c.in-Pointer.position)
