use Rattle.std.proofs.Common.{refl, eq-eqb, ne_eqb, le-ltb, lt-ltb, arith}
use Rattle.std.proofs.lemmas.Result.{err_from_is_err_and}
use Rattle.pli_store.specs.views.StorageView.{place_view, with_storage}
use Rattle.pli_locators.proofs.OffsetsAnswered.{null_refused, offset_refused, null_offset, offset_there, offset_outside, no_offset_of_offset}
use Rattle.pli_locators.proofs.offsets.offset_in.Goals as goal

pub returns-in_err-use_area-in-Null : goal.returns-in_err-use_area-in-Null
returns-in_err-use_area-in-Null c = λ w.
    let p = err_from_is_err_and c.from_residual.result c.from_residual.ensures.1 in
    let q = place_view c.args.area in
    let before = with_storage c.args.storage.now w in
    let f = c.in_err-use_area-in-Null.field-0.0 in
    rw (p.1, p.2, c.in-Null.is) (null_refused q before f (c.in_err-use_area-in-Null.ensures w))

pub returns-in_err-use_area-in-Pointer : goal.returns-in_err-use_area-in-Pointer
returns-in_err-use_area-in-Pointer c = λ w.
    let p = err_from_is_err_and c.from_residual-in_err-use_area-in-Pointer.result c.from_residual-in_err-use_area-in-Pointer.ensures.1 in
    let q = place_view c.args.area in
    let before = with_storage c.args.storage.now w in
    let f = c.in_err-use_area-in-Pointer.field-0.0 in
    rw (p.1, p.2, c.in-Pointer.is) (offset_refused q before c.in-Pointer.generation c.in-Pointer.position f (c.in_err-use_area-in-Pointer.ensures w))

pub returns-then-generation-area : goal.returns-then-generation-area
returns-then-generation-area c = λ w.
    rw c.in-Pointer.is
    (offset_outside (place_view c.args.area) (with_storage c.args.storage.now w) (c.in_ok-use_area-in-Pointer.ensures w) c.in-Pointer.generation
    c.in-Pointer.position (rw (ne_eqb c.in-Pointer.generation c.args.area.generation c.if-generation-area.true) refl))

pub returns-then-position-eq0 : goal.returns-then-position-eq0
returns-then-position-eq0 c = λ w.
    rw c.in-Pointer.is
    (offset_outside (place_view c.args.area) (with_storage c.args.storage.now w) (c.in_ok-use_area-in-Pointer.ensures w) c.in-Pointer.generation
    c.in-Pointer.position (rw (eq-eqb c.in-Pointer.generation c.args.area.generation c.if-generation-area.false) (le-ltb 0 c.in-Pointer.position (omega (arith, c.if-position-eq0.true)))))

pub returns-in_ok-use_area-in-Null : goal.returns-in_ok-use_area-in-Null
returns-in_ok-use_area-in-Null c = λ w.
    rw c.in-Null.is (null_offset (place_view c.args.area) (with_storage c.args.storage.now w) (c.in_ok-use_area-in-Null.ensures w))

pub returns-else-position-eq0 : goal.returns-else-position-eq0
returns-else-position-eq0 c = λ w.
    rw c.in-Pointer.is
    (offset_there (place_view c.args.area) (with_storage c.args.storage.now w) (c.in_ok-use_area-in-Pointer.ensures w) c.in-Pointer.generation
    c.in-Pointer.position (rw (eq-eqb c.in-Pointer.generation c.args.area.generation c.if-generation-area.false) (lt-ltb 0 c.in-Pointer.position (omega (arith, c.if-position-eq0.false)))))

pub returns-in-Offset : goal.returns-in-Offset
returns-in-Offset c = λ w. rw c.in-Offset.is (no_offset_of_offset (place_view c.args.area) (with_storage c.args.storage.now w) _)
