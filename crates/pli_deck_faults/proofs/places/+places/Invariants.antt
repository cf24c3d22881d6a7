use Rattle.std.proofs.Common.{◌≡◌, ◌++◌, map, drop}
use Rattle.pli_map.specs.Sizes.{end_after}
use Rattle.pli_map.specs.views.DescriptionView.{members_view}
use Rattle.pli_deck_faults.specs.Places.{places_view, starts_from, ends_from}
use Rattle.pli_deck_faults.proofs.PlacesMade.{listed_places}
use Rattle.pli_deck_faults.proofs.places.+places.Given as goal

-- what was found so far, in front of what the members that are left give, is what all give
abbrev pub invariant-places_among-loop-member : goal.invariant-places_among-loop-member
invariant-places_among-loop-member l =
    let left = members_view (drop l.member-index l.members) in
    let all = members_view l.members in
    record {
      end : end_after l.at left ≡ end_after 0 all;
      starts_are : l.starts.items ++ starts_from l.at left ≡ starts_from 0 all;
      ends_are : l.ends.items ++ ends_from l.at left ≡ ends_from 0 all;
      inner_are : map places_view l.inner.items ++ listed_places left ≡ listed_places all;
    }
