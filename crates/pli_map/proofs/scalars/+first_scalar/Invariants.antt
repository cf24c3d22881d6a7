use Rattle.std.proofs.Common.{◌≡◌, ◌≤◌, min, drop, option_map}
use Rattle.pli_map.specs.Scalars.{scalar_after}
use Rattle.pli_map.specs.views.DescriptionView.{description_view, members_view}
use Rattle.pli_map.proofs.FoundScalars.{counted}
use Rattle.pli_map.proofs.scalars.+first_scalar.Given as goal

-- what is found in what is left, after the scalars passed so far, is what is found in all
abbrev pub invariant-scalar_of_member-loop-member : goal.invariant-scalar_of_member-loop-member
invariant-scalar_of_member-loop-member l =
    record {
      whole : option_map (λ k. min k 18446744073709551615) (scalar_after 0 (members_view l.members) l.offset (description_view l.part))
          ≡ counted 18446744073709551615 l.before (scalar_after l.at (members_view (drop l.member-index l.members)) l.offset (description_view l.part));
      near : l.at ≤ l.offset;
    }
