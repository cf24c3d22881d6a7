use Rattle.std.proofs.Common.{◌≡◌, ◌<◌, ◌⊎◌, inl, inr, ◌++◌, ◌∷◌, [], ◌-◌, sym, ◌∙◌, map, arith}
use Rattle.std.proofs.lemmas.Bool.{cases_lt}
use Rattle.std.proofs.lemmas.Result.{err_from_is_err_and}
use Rattle.std.proofs.lemmas.List.{map_push}
use Rattle.pli_map.specs.views.ParameterView.{type_view}
use Rattle.pli_code.specs.Fields.{many}
use Rattle.pli_deck_write.specs.Descriptions.{description_within}
use Rattle.pli_deck_read.proofs.DescriptionReading.{without_tag, below_all, after_tag, no_form, no_open_form, any_array_read}
use Rattle.pli_deck_read.proofs.LoopLemmas.{goes_on, ends, is_done}
use Rattle.pli_deck_read.proofs.described.+description.Goals as goal

pub members_at-returns-in_err-member : goal.members_at-returns-in_err-member
members_at-returns-in_err-member t c =
    let p = err_from_is_err_and c.from_residual.result c.from_residual.ensures.1 in
    let read = (description_within c.args.version c.args.levels).read in
    rw (p.1, p.2) (ends read c.in_err-member.field-0.0 (map type_view c.loop.members.items) c.args.count c.loop.counter c.loop.rest.now (many read c.args.count c.args.bytes.now) c.loop-test.true c.in_err-member.ensures c.loop.invariant)

pub members_at-loop-preserved : goal.members_at-loop-preserved
members_at-loop-preserved t c =
    let read = (description_within c.args.version c.args.levels).read in
    let n = c.in_ok-member.member in
    let e : map type_view c.push.new.self.items ≡ map type_view c.loop.members.items ++ type_view n ∷ [] = rw c.in_ok-push.ensures.items (map_push _ c.loop.members.items n) in
    rw e (goes_on read (map type_view c.loop.members.items) c.args.count c.loop.counter c.loop.rest.now (type_view n) c.in_ok-member.after.now (many read c.args.count c.args.bytes.now) c.loop-test.true c.in_ok-member.ensures c.loop.invariant)

pub members_at-returns : goal.members_at-returns
members_at-returns t c =
    let read = (description_within c.args.version c.args.levels).read in
    is_done read (map type_view c.loop.members.items) c.args.count c.loop.counter c.loop.rest.now (many read c.args.count c.args.bytes.now) c.loop-test.false c.loop.invariant

pub description_at-returns-in_err-tag : goal.description_at-returns-in_err-tag
description_at-returns-in_err-tag t c =
    let p = err_from_is_err_and c.from_residual.result c.from_residual.ensures.1 in
    rw (p.1, p.2) (without_tag c.args.version c.args.levels c.args.bytes.now c.in_err-tag.field-0.0 c.in_err-tag.ensures)

pub description_at-returns-then-levels-eq0 : goal.description_at-returns-then-levels-eq0
description_at-returns-then-levels-eq0 t c =
    below_all c.args.version c.args.levels c.args.bytes.now c.in_ok-tag.tag c.in_ok-tag.rest.now (omega (arith, c.if-levels-eq0.true)) c.in_ok-tag.ensures

pub description_at-returns-in-8 : goal.description_at-returns-in-8
description_at-returns-in-8 t c =
    rw (after_tag c.args.version c.args.levels c.args.bytes.now c.in_ok-tag.tag c.in_ok-tag.rest.now (omega (arith, c.if-levels-eq0.false)) c.in_ok-tag.ensures, c.in-8.is) c.array_at.ensures

pub description_at-returns-in-9 : goal.description_at-returns-in-9
description_at-returns-in-9 t c =
    rw (after_tag c.args.version c.args.levels c.args.bytes.now c.in_ok-tag.tag c.in_ok-tag.rest.now (omega (arith, c.if-levels-eq0.false)) c.in_ok-tag.ensures, c.in-9.is) c.structure_at.ensures

pub description_at-returns-in-1-to-7 : goal.description_at-returns-in-1-to-7
description_at-returns-in-1-to-7 t c =
    rw (after_tag c.args.version c.args.levels c.args.bytes.now c.in_ok-tag.tag c.in_ok-tag.rest.now (omega (arith, c.if-levels-eq0.false)) c.in_ok-tag.ensures) (c.scalar_of.ensures (description_within c.args.version (c.args.levels - 1)))

pub description_at-returns-in-10 : goal.description_at-returns-in-10
description_at-returns-in-10 t c =
    rw (after_tag c.args.version c.args.levels c.args.bytes.now c.in_ok-tag.tag c.in_ok-tag.rest.now (omega (arith, c.if-levels-eq0.false)) c.in_ok-tag.ensures, c.in-10.is) (c.any_string_of.ensures (description_within c.args.version (c.args.levels - 1)))

pub description_at-returns-in-11 : goal.description_at-returns-in-11
description_at-returns-in-11 t c =
    rw (after_tag c.args.version c.args.levels c.args.bytes.now c.in_ok-tag.tag c.in_ok-tag.rest.now (omega (arith, c.if-levels-eq0.false)) c.in_ok-tag.ensures, c.in-11.is) (c.any_string_of-in-11.ensures (description_within c.args.version (c.args.levels - 1)))

pub description_at-returns-in-12 : goal.description_at-returns-in-12
description_at-returns-in-12 t c =
    rw (after_tag c.args.version c.args.levels c.args.bytes.now c.in_ok-tag.tag c.in_ok-tag.rest.now (omega (arith, c.if-levels-eq0.false)) c.in_ok-tag.ensures, c.in-12.is) (c.any_string_of-in-12.ensures (description_within c.args.version (c.args.levels - 1)))

pub description_at-returns-in-13 : goal.description_at-returns-in-13
description_at-returns-in-13 t c =
    rw (after_tag c.args.version c.args.levels c.args.bytes.now c.in_ok-tag.tag c.in_ok-tag.rest.now (omega (arith, c.if-levels-eq0.false)) c.in_ok-tag.ensures, c.in-13.is) c.any_array_at.ensures

pub description_at-returns-in_default : goal.description_at-returns-in_default
description_at-returns-in_default t c =
    let tag = c.in_ok-tag.tag in
    let other : (tag ≡ 0) ⊎ (13 < tag) = elim (cases_lt tag 1) [ inl lt ↦ inl (omega arith) | inr le ↦ inr (omega (arith, le, c.in_default)) ] in
    after_tag c.args.version c.args.levels c.args.bytes.now tag c.in_ok-tag.rest.now (omega (arith, c.if-levels-eq0.false)) c.in_ok-tag.ensures
    ∙ no_form c.args.version (description_within c.args.version (c.args.levels - 1)) tag c.in_ok-tag.rest.now other

pub any_array_at-returns-then-has_stars : goal.any_array_at-returns-then-has_stars
any_array_at-returns-then-has_stars t c =
    rw (any_array_read c.args.version (description_within c.args.version c.args.levels) c.args.bytes.now (sym c.has_stars.ensures ∙ c.if-has_stars.true)) c.open_array_at.ensures

pub any_array_at-returns : goal.any_array_at-returns
any_array_at-returns t c =
    no_open_form c.args.version (description_within c.args.version c.args.levels) 13 c.args.bytes.now (sym c.has_stars.ensures ∙ c.if-has_stars.false) (omega arith)
