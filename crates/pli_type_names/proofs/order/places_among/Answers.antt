use Rattle.std.proofs.Common.{◌≡◌, ℕ, ◌+◌, ◌-◌, ◌<◌, List, drop, get_or, length, map, slice_set, refl, ap, ◌∙◌, arith}
use Rattle.std.proofs.lemmas.List.{length-map}
use Rattle.pli_type_rules.specs.TextOrder.{numbers_from, place_from}
use Rattle.pli_type_rules.proofs.TextNumbers.{numbers_counted}
use Rattle.pli_type_names.proofs.PlacesOrdered.{place_more, places_first}
use Rattle.pli_type_names.proofs.order.places_among.Goals as goal

pub loop-place-init : goal.loop-place-init
loop-place-init c =
    c.in_ok-places.ensures.items_if_clones_equal (λ y e. e)
    ∙ places_first c.args.numbers.now (length c.args.numbers.now) (omega arith)

pub index_mut-requires : goal.index_mut-requires
index_mut-requires c =
    let l = c.loop-place in
    let numbers = c.args.numbers.now in
    let place = l.place - 1 in
    let within : place < length numbers = omega (arith, l.auto.place, c.loop-place-test.true) in
    let long : length l.places.items ≡ length numbers =
    ap (λ (xs : List ℕ). length xs) l.invariant
    ∙ length-map (numbers_from 0 (length numbers)) (λ n. place_from l.place n (drop l.place numbers))
    ∙ numbers_counted 0 (length numbers) in
    omega (arith, c.requires place 0 within, long)

pub loop-place-preserved : goal.loop-place-preserved
loop-place-preserved c =
    let l = c.loop-place in
    let numbers = c.args.numbers.now in
    let place = l.place - 1 in
    let number = get_or numbers place 0 in
    let next : l.place ≡ place + 1 = omega (arith, c.loop-place-test.true) in
    let within : place < length numbers = omega (arith, l.auto.place, c.loop-place-test.true) in
    ap (λ xs. slice_set xs number place)
    (l.invariant ∙ ap (λ k. map (λ n. place_from k n (drop k numbers)) (numbers_from 0 (length numbers))) next)
    ∙ place_more numbers place number (length numbers) within refl

pub returns : goal.returns
returns c =
    let l = c.loop-place in
    let numbers = c.args.numbers.now in
    let first : l.place ≡ 0 = omega (arith, c.loop-place-test.false) in
    l.invariant ∙ ap (λ k. map (λ n. place_from k n (drop k numbers)) (numbers_from 0 (length numbers))) first
