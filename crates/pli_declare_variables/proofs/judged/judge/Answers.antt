use Rattle.std.proofs.Common.{◌≡◌, Bool, Option, List, length, sym, ap, subst, ◌∙◌, arith}
use Rattle.pli_base.specs.declared.code.Code.{Code}
use Rattle.pli_declare.specs.declared.place.ItemPlace.{ItemPlace}
use Rattle.pli_declare_tables.specs.views.TableView.{entries_view}
use Rattle.pli_declare.specs.Places.{own_code}
use Rattle.pli_declare.specs.Descriptions.{own_codes, is_large_at, ShapesAreSound}
use Rattle.pli_declare_variables.specs.answers.Walks.{nameable_at, cut_place_in}
use Rattle.pli_declare_variables.specs.Judging.{judged_at}
use Rattle.pli_declare_variables.specs.declared.judged.Judged.{Judged}
use Rattle.pli_declare_variables.specs.declared.locators.Nameable.{Nameable}
use Rattle.pli_declare_variables.proofs.Faultless.{all_codes}
use Rattle.pli_declare_variables.proofs.NumberLemmas.{mapped_more, mapped_length}
use Rattle.pli_declare_variables.proofs.PlaceLemmas.{element_at}
use Rattle.pli_declare_variables.proofs.LimitsHaveFaults.{codes_sound}
use Rattle.pli_declare_variables.proofs.judged.judge.Goals as goal

pub own_codes-requires : goal.own_codes-requires
own_codes-requires c =
    ap (λ (xs : List ItemPlace). length xs) (c.deref.ensures.value ∙ c.in_ok-places.ensures)
    ∙ mapped_length (cut_place_in (entries_view c.args.entries.now) c.args.parameters.now) (length c.args.entries.now)

pub too_large-requires-clause-sound : goal.too_large-requires-clause-sound
too_large-requires-clause-sound c =
    let entries = entries_view c.args.entries.now in
    let names = c.args.parameters.now in
    let made = c.in_ok-codes.ensures names (c.deref.ensures.value ∙ c.in_ok-places.ensures) in
    let same : c.as_slice.result.now ≡ own_codes entries names = c.as_slice.ensures.value ∙ all_codes c.args.entries.now names c.in_ok-codes.codes.items made in
    subst (ShapesAreSound entries) (sym same) (codes_sound entries names)

pub index-place-requires : goal.index-place-requires
index-place-requires c =
    let count = length c.args.entries.now in
    let long = ap (λ (xs : List ItemPlace). length xs) c.in_ok-places.ensures ∙ mapped_length (cut_place_in (entries_view c.args.entries.now) c.args.parameters.now) count in
    omega (arith, long, c.loop-number-test.true)

pub index-code-requires : goal.index-code-requires
index-code-requires c =
    let count = length c.args.entries.now in
    let names = c.args.parameters.now in
    let made = c.in_ok-codes.ensures names (c.deref.ensures.value ∙ c.in_ok-places.ensures) in
    let long = ap (λ (xs : List (Option Code)). length xs) made ∙ mapped_length (own_code (entries_view c.args.entries.now) names) count in
    omega (arith, long, c.loop-number-test.true)

pub index-is_too_large-requires : goal.index-is_too_large-requires
index-is_too_large-requires c =
    let count = length c.args.entries.now in
    let long = ap (λ (xs : List Bool). length xs) c.in_ok-large.ensures ∙ mapped_length (is_large_at (entries_view c.args.entries.now) c.as_slice.result.now) count in
    omega (arith, long, c.loop-number-test.true)

pub index-nameable-requires : goal.index-nameable-requires
index-nameable-requires c =
    let count = length c.args.entries.now in
    let long = ap (λ (xs : List Nameable). length xs) c.in_ok-named.ensures ∙ mapped_length (nameable_at (entries_view c.args.entries.now)) count in
    omega (arith, long, c.loop-number-test.true)

pub loop-number-preserved : goal.loop-number-preserved
loop-number-preserved c =
    let entries = entries_view c.args.entries.now in
    let names = c.args.parameters.now in
    let count = length c.args.entries.now in
    let n = c.loop-number.number in
    let lt = c.loop-number-test.true in
    let made = c.in_ok-codes.ensures names (c.deref.ensures.value ∙ c.in_ok-places.ensures) in
    let same : c.as_slice.result.now ≡ own_codes entries names = c.as_slice.ensures.value ∙ all_codes c.args.entries.now names c.in_ok-codes.codes.items made in
    let place = element_at (cut_place_in entries names) c.in_ok-places.places.items count n c.index-place.result.now c.in_ok-places.ensures lt c.index-place.ensures in
    let code = element_at (own_code entries names) c.in_ok-codes.codes.items count n c.index-code.result.now made lt c.index-code.ensures in
    let large = element_at (is_large_at entries c.as_slice.result.now) c.in_ok-large.large.items count n c.index-is_too_large.result.now c.in_ok-large.ensures lt c.index-is_too_large.ensures
    ∙ ap (λ (codes : List (Option Code)). is_large_at entries codes n) same in
    let nameable = element_at (nameable_at entries) c.in_ok-named.named.items count n c.index-nameable.result.now c.in_ok-named.ensures lt c.index-nameable.ensures in
    let x : Judged = record {
      place = c.index-place.result.now;
      code = c.index-code.result.now;
      is_too_large = c.index-is_too_large.result.now;
      is_locator = c.index-nameable.result.now.is_locator;
      is_area = c.index-nameable.result.now.is_area;
    } in
    let locator = ap (λ (m : Nameable). m.is_locator) nameable in
    let area = ap (λ (m : Nameable). m.is_area) nameable in
    let here : x ≡ judged_at entries names n =
    λ k. record { place = place k; code = code k; is_too_large = large k; is_locator = locator k; is_area = area k } in
    c.in_ok-push.ensures.items ∙ mapped_more (judged_at entries names) c.loop-number.judged.items n x c.loop-number.invariant here
