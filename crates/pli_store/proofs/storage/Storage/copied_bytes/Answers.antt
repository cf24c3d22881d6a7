use Rattle.std.proofs.Common.{◌≡◌, ℕ, true, length, sym, ap, ◌∙◌, subst}
use Rattle.std.specs.Global.{Vec}
use Rattle.std.proofs.lemmas.Result.{err_from_is_err_and}
use Rattle.pli_bytes.specs.Contents.{values_of}
use Rattle.pli_map.specs.Same.{same}
use Rattle.pli_map.specs.Sizes.{size_of}
use Rattle.pli_map.specs.laws.SameLaws.{same_decides}
use Rattle.pli_map.specs.views.DescriptionView.{description_view}
use Rattle.pli_world.specs.World.{parts_stored}
use Rattle.pli_store.specs.answers.Answered.{Answered}
use Rattle.pli_store.specs.views.StorageView.{place_view, with_storage}
use Rattle.pli_store.proofs.ByBytes.{copied_refused, copied_by_bytes}
use Rattle.pli_store.proofs.storage.Storage.copied_bytes.Goals as goal

pub returns-in_err-bytes-clause-answer : goal.returns-in_err-bytes-clause-answer
returns-in_err-bytes-clause-answer c = λ w.
    let p = err_from_is_err_and c.from_residual.result c.from_residual.ensures.1 in
    let d = description_view c.args.source.description.now in
    let before = with_storage c.args.self.now w in
    rw (p.1, p.2) (copied_refused (place_view c.args.source) (place_view c.args.target) before
    {U = Unit {0}} (λ (bytes : Vec ℕ). values_of d bytes.items) (λ x. tt) before c.in_err-bytes.field-0.0 (c.in_err-bytes.ensures.held w))

pub put_part_bytes-requires : goal.put_part_bytes-requires
put_part_bytes-requires c = ap length c.deref.ensures.value ∙ c.in_ok-bytes.ensures.size ∙ ap size_of c.requires.same

pub returns-clause-answer : goal.returns-clause-answer
returns-clause-answer c = λ w.
    let d = description_view c.args.source.description.now in
    let e = description_view c.args.target.description.now in
    let equal : same d e ≡ true = (same_decides d e).1 c.requires.same in
    let target = place_view c.args.target in
    let before = with_storage c.args.self.now w in
    let after = with_storage c.put_part_bytes.new.self w in
    let values : values_of e c.deref.result.now ≡ values_of d c.in_ok-bytes.bytes.items =
    ap (values_of e) c.deref.ensures.value ∙ ap (λ x. values_of x c.in_ok-bytes.bytes.items) (sym c.requires.same) in
    let by = copied_by_bytes (place_view c.args.source) target before c.requires.part equal (values_of d c.in_ok-bytes.bytes.items) (c.in_ok-bytes.ensures.held w) in
    subst (Answered (λ x. tt) c.put_part_bytes.result before after) (sym by)
    (subst (λ vs. Answered (λ x. tt) c.put_part_bytes.result before after (parts_stored target vs before)) values (c.put_part_bytes.ensures.answer w))
