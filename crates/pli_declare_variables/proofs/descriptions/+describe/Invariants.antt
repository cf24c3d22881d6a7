use Rattle.std.proofs.Common.{◌≡◌, ◌+◌, ◌-◌, ◌*◌, map, drop, length}
use Rattle.pli_map.specs.views.DescriptionView.{description_view}
use Rattle.pli_declare_tables.specs.views.TableView.{entries_view}
use Rattle.pli_declare.specs.Descriptions.{described, members_made}
use Rattle.pli_declare_variables.proofs.DescriptionLemmas.{in_front}
use Rattle.pli_declare_variables.proofs.descriptions.+describe.Given as goal

-- members stand after their owner
abbrev pub decreases-describe : goal.decreases-describe
decreases-describe l = 2 * (length l.entries.now - l.number) + 1

abbrev pub decreases-describe_members : goal.decreases-describe_members
decreases-describe_members l = 2 * (length l.entries.now - l.owner)

-- the descriptions so far, in front of those that are left
abbrev pub invariant-describe_members-loop-number : goal.invariant-describe_members-loop-number
invariant-describe_members-loop-number l =
    in_front (map description_view l.inside.items) (members_made (described (length l.entries) (entries_view l.entries) l.codes) (drop l.number-index l.numbers))
    ≡ members_made (described (length l.entries) (entries_view l.entries) l.codes) l.numbers
