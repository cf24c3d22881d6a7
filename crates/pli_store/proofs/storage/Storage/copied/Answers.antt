use Rattle.std.proofs.Common.{map, sym, ◌∙◌, subst, arith}
use Rattle.std.proofs.lemmas.Bool.Decides.{same_from_decides}
use Rattle.std.proofs.lemmas.Result.{err_from_is_err_and}
use Rattle.pli_map.specs.Same.{same}
use Rattle.pli_map.specs.Scalars.{scalars_in}
use Rattle.pli_map.specs.laws.SameLaws.{same_decides}
use Rattle.pli_map.specs.views.DescriptionView.{description_view}
use Rattle.pli_world.specs.Storage.{values_from}
use Rattle.pli_store.specs.answers.Found.{PartStands}
use Rattle.pli_store.specs.answers.Puts.{ValuesPut}
use Rattle.pli_store.specs.views.GenerationView.{generation_view}
use Rattle.pli_store.specs.views.StorageView.{place_view, storage_view, with_storage}
use Rattle.pli_store.proofs.CopyLemmas.{copied_from_none, copied_to_none, copied_done}
use Rattle.pli_store.proofs.PartAnswers.{kept_put}
use Rattle.pli_store.proofs.StandingParts.{part_lives}
use Rattle.pli_store.proofs.storage.Storage.copied.Goals as goal
use Rattle.pli_store.proofs.storage.Storage.copied.Goals.{After-copy_part}

pub refuse_copy-requires : goal.refuse_copy-requires
refuse_copy-requires c = λ none. let both = sym (sym c.is_area.ensures ∙ c.if-is_area.true) ∙ none in cc

pub refuse_copy-requires-then-not-equals : goal.refuse_copy-requires-then-not-equals
refuse_copy-requires-then-not-equals c = λ none.
    let d = description_view c.args.source.description.now in
    let e = description_view c.args.target.description.now in
    sym (same_from_decides c.equals.result (same d e) c.equals.ensures (same_decides d e)) ∙ c.if-not-equals.true

pub returns-in_err-from-clause-answer : goal.returns-in_err-from-clause-answer
returns-in_err-from-clause-answer c = λ w.
    let p = err_from_is_err_and c.from_residual.result c.from_residual.ensures.1 in
    let before = with_storage c.args.self.now w in
    rw (p.1, p.2) (copied_from_none {T = Unit {0}} (λ x. tt) (place_view c.args.source) (place_view c.args.target) before before c.if-source-ne0.false c.in_err-from.field-0.0 c.in_err-from.ensures)

pub returns-in_err-to-clause-answer : goal.returns-in_err-to-clause-answer
returns-in_err-to-clause-answer c = λ w.
    let d = description_view c.args.source.description.now in
    let e = description_view c.args.target.description.now in
    let told = same_from_decides c.equals.result (same d e) c.equals.ensures (same_decides d e) in
    let p = err_from_is_err_and c.from_residual-in_err-to.result c.from_residual-in_err-to.ensures.1 in
    let before = with_storage c.args.self.now w in
    rw (p.1, p.2) (copied_to_none (place_view c.args.source) (place_view c.args.target) before (sym c.is_area.ensures ∙ c.if-is_area.false) (sym told ∙ c.if-not-equals.false) c.in_ok-from.from c.in_ok-from.ensures {T = Unit {0}} (λ x. tt) before c.if-target-ne0.false c.in_err-to.field-0.0 c.in_err-to.ensures)

pub copied_bytes-requires : goal.copied_bytes-requires
copied_bytes-requires c = record { part = sym c.is_area.ensures ∙ c.if-is_area.false; same = c.equals.ensures.0 c.if-not-equals.false }

pub copy_part-requires : goal.copy_part-requires
copy_part-requires c =
    let gs = storage_view c.args.self.now in
    let target = description_view c.args.target.description.now in
    let same_description = c.equals.ensures.0 c.if-not-equals.false in
    let lives = part_lives gs c.in_ok-to.to target c.in_ok-to.ensures.there in
    record {
      from = subst (PartStands gs c.in_ok-from.from) same_description c.in_ok-from.ensures.there;
      to = c.in_ok-to.ensures.there;
      limit = omega (arith, lives, c.args.self.now.counted, c.args.self.now.limited);
    }

-- what is put: with the source's description in the place of the target's
values_put : (c : After-copy_part) → ValuesPut (storage_view c.args.self.now) (map generation_view c.copy_part.new.generations.items) c.in_ok-to.to
    (description_view c.args.target.description.now)
    (values_from c.in_ok-from.ensures.there.scalar (scalars_in (description_view c.args.source.description.now)) c.in_ok-from.ensures.there.generation.values)
values_put c =
    let gs = storage_view c.args.self.now in
    let new = map generation_view c.copy_part.new.generations.items in
    let target = description_view c.args.target.description.now in
    let same_description = c.equals.ensures.0 c.if-not-equals.false in
    subst
    (λ d. (source : PartStands gs c.in_ok-from.from d) → ValuesPut gs new c.in_ok-to.to target (values_from source.scalar (scalars_in d) source.generation.values))
    (sym same_description) c.copy_part.ensures c.in_ok-from.ensures.there

pub invariant_of-self : goal.invariant_of-self
invariant_of-self c =
    let kept = kept_put (storage_view c.args.self.now) (map generation_view c.copy_part.new.generations.items) c.in_ok-to.to
    c.args.self.now.made c.args.self.now.rising (description_view c.args.target.description.now) _ (values_put c) in
    record { counted = c.args.self.now.counted ∙ sym kept.counted; limited = c.args.self.now.limited; rising = kept.rising }

pub returns-clause-answer : goal.returns-clause-answer
returns-clause-answer c = λ w.
    let d = description_view c.args.source.description.now in
    let e = description_view c.args.target.description.now in
    let told = same_from_decides c.equals.result (same d e) c.equals.ensures (same_decides d e) in
    copied_done (place_view c.args.source) (place_view c.args.target) (with_storage c.args.self.now w) (sym c.is_area.ensures ∙ c.if-is_area.false) (sym told ∙ c.if-not-equals.false)
    c.in_ok-from.from c.in_ok-from.ensures c.in_ok-to.to c.in_ok-to.ensures (map generation_view c.copy_part.new.generations.items)
    c.args.self.now.made c.args.self.now.rising (values_put (goal.at.returns-clause-answer c).After-copy_part)
