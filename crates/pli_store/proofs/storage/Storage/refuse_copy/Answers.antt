use Rattle.std.proofs.Common.{sym, ◌∙◌}
use Rattle.std.proofs.lemmas.Result.{err_from_is_err_and}
use Rattle.pli_map.specs.views.DescriptionView.{description_view}
use Rattle.pli_store.specs.views.StorageView.{place_view, with_storage}
use Rattle.pli_store.proofs.CopyLemmas.{copy_from_dead, copy_from_area, copy_from_nowhere, copy_to_dead, copy_to_other}
use Rattle.pli_store.proofs.storage.Storage.refuse_copy.Goals as goal

pub returns-in_err-whole : goal.returns-in_err-whole
returns-in_err-whole c = λ w.
    let p = err_from_is_err_and c.from_residual.result c.from_residual.ensures.1 in
    let before = with_storage c.args.self.now w in
    rw (p.1, p.2) (copy_from_dead (place_view c.args.source) (place_view c.args.target) before before {T = Unit {0}} (λ x. tt) c.in_err-whole.field-0.0 (c.in_err-whole.ensures w))

pub returns-then-is_area : goal.returns-then-is_area
returns-then-is_area c = λ w.
    let u = c.in_ok-whole.ensures w in
    copy_from_area (place_view c.args.source) (place_view c.args.target) (with_storage c.args.self.now w) u.0 u.1 (sym c.is_area.ensures ∙ c.if-is_area.true)

pub returns-then-not-is_part : goal.returns-then-not-is_part
returns-then-not-is_part c = λ w.
    let u = c.in_ok-whole.ensures w in
    copy_from_nowhere (place_view c.args.source) (place_view c.args.target) (with_storage c.args.self.now w) u.0 u.1 (description_view c.in_ok-whole.whole.now) u.2
    (sym c.is_part.ensures ∙ c.if-not-is_part.true)

pub returns-in_err-_other : goal.returns-in_err-_other
returns-in_err-_other c = λ w.
    let p = err_from_is_err_and c.from_residual-in_err-_other.result c.from_residual-in_err-_other.ensures.1 in
    let u = c.in_ok-whole.ensures w in
    let part = sym c.is_area.ensures ∙ c.if-is_area.false in
    let before = with_storage c.args.self.now w in
    rw (p.1, p.2) (copy_to_dead (place_view c.args.source) (place_view c.args.target) before u.0 u.1 (description_view c.in_ok-whole.whole.now) u.2
    part (c.requires part) (sym c.is_part.ensures ∙ c.if-not-is_part.false) before {T = Unit {0}} (λ x. tt) c.in_err-_other.field-0.0 (c.in_err-_other.ensures w))

pub returns : goal.returns
returns c = λ w.
    let u = c.in_ok-whole.ensures w in
    let t = c.in_ok-_other.ensures w in
    let part = sym c.is_area.ensures ∙ c.if-is_area.false in
    copy_to_other (place_view c.args.source) (place_view c.args.target) (with_storage c.args.self.now w) u.0 u.1 (description_view c.in_ok-whole.whole.now) u.2
    part (c.requires part) (sym c.is_part.ensures ∙ c.if-not-is_part.false) t.0 t.1
