use Rattle.std.proofs.Common.{◌≡◌, ◌+◌, ◌≤◌, ◌++◌, map, drop, ap, sym, ◌∙◌, arith}
use Rattle.std.specs.Int.{next_multiple_of}
use Rattle.std.proofs.lemmas.List.{append-nil, drop_all}
use Rattle.pli_map.specs.Description as tree
use Rattle.pli_map.specs.views.DescriptionView.{members_view}
use Rattle.pli_map.proofs.Members.{next_member}
use Rattle.pli_deck_faults.specs.Places.{Among, places_view, list_of_places, starts_from, ends_from}
use Rattle.pli_deck_faults.proofs.PlacesMade.{member_fits, listed, listed_places}
use Rattle.pli_deck_faults.proofs.PlacesViews.{among_said}
use Rattle.pli_deck_faults.proofs.places.+places.Goals as goal

pub places_among-layout_of-layout-requires : goal.places_among-layout_of-layout-requires
places_among-layout_of-layout-requires t c =
    let l = c.loop-member in
    let left = next_member c.args.members.now l.member-index c.member-item.result c.loop-member-test.true c.member-item.is in
    omega (arith, member_fits l.at _ _ _ _ left l.invariant.end c.requires)

pub places_among-next_multiple_of-start-requires-clause-fits : goal.places_among-next_multiple_of-start-requires-clause-fits
places_among-next_multiple_of-start-requires-clause-fits t c =
    let l = c.loop-member in
    let left = next_member c.args.members.now l.member-index c.member-item.result c.loop-member-test.true c.member-item.is in
    omega (arith, member_fits l.at _ _ _ _ left l.invariant.end c.requires, ap (next_multiple_of l.at) c.layout_of-layout.ensures.alignment)

pub places_among-overflow_add-at : goal.places_among-overflow_add-at
places_among-overflow_add-at t c =
    let l = c.loop-member in
    let left = next_member c.args.members.now l.member-index c.member-item.result c.loop-member-test.true c.member-item.is in
    let start = c.next_multiple_of-start.ensures.value in
    let fits : c.next_multiple_of-start.result + c.layout_of-layout.result.bytes ≤ 1000000 =
    omega (arith, start, member_fits l.at _ _ _ _ left l.invariant.end c.requires, ap (next_multiple_of l.at) c.layout_of-layout.ensures.alignment, c.layout_of-layout.ensures.bytes) in
    record { fits = omega arith }

pub places_among-returns : goal.places_among-returns
places_among-returns t c =
    let l = c.loop-member in
    let all = members_view c.args.members.now in
    let none : members_view (drop l.member-index c.args.members.now) ≡ tree.NoMembers = ap members_view (drop_all l.member-index c.args.members.now c.loop-member-test.false) in
    let starts_are : l.starts.items ≡ starts_from 0 all = sym (append-nil l.starts.items) ∙ sym (ap (λ ms. l.starts.items ++ starts_from l.at ms) none) ∙ l.invariant.starts_are in
    let ends_are : l.ends.items ≡ ends_from 0 all = sym (append-nil l.ends.items) ∙ sym (ap (λ ms. l.ends.items ++ ends_from l.at ms) none) ∙ l.invariant.ends_are in
    let inner_are : map places_view l.inner.items ≡ listed_places all =
    sym (append-nil (map places_view l.inner.items)) ∙ sym (ap (λ ms. map places_view l.inner.items ++ listed_places ms) none) ∙ l.invariant.inner_are in
    among_said l.starts l.ends l.inner ∙ ap (λ ss. Among ss l.ends.items (list_of_places (map places_view l.inner.items))) starts_are
    ∙ ap (λ es. Among (starts_from 0 all) es (list_of_places (map places_view l.inner.items))) ends_are
    ∙ ap (Among (starts_from 0 all) (ends_from 0 all)) (ap list_of_places inner_are ∙ listed all)
