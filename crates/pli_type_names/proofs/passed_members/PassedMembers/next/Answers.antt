use Rattle.std.proofs.Common.{◌≡◌, ℕ, Some, take, ap, sym, ◌∙◌}
use Rattle.std.specs.Int.{next_multiple_of}
use Rattle.pli_map.specs.Parts.{PlacedPart}
use Rattle.pli_map.specs.Sizes.{alignment_of, end_after}
use Rattle.pli_map.specs.views.DescriptionView.{description_view, members_view}
use Rattle.pli_map.proofs.Members.{member_within}
use Rattle.pli_type_names.proofs.passed_members.PassedMembers.next.Goals as goal

pub returns : goal.returns
returns c =
    let xs = c.args.self.members.now.items in
    let x = c.index-description.result.now in
    let place : ℕ → PlacedPart = λ n. record { offset = n; description = description_view x } in
    let after : c.next_multiple_of.result ≡ next_multiple_of (end_after 0 (members_view (take c.args.self.count xs))) (alignment_of (description_view x)) =
    c.next_multiple_of.ensures.value
    ∙ ap (λ n. next_multiple_of n c.alignment.result) c.args.self.ends
    ∙ ap (λ n. next_multiple_of (end_after 0 (members_view (take c.args.self.count xs))) n) c.alignment.ensures.value in
    ap (λ n. Some (place n)) after ∙ sym (member_within 0 xs c.args.self.count x c.requires c.index-description.ensures)
