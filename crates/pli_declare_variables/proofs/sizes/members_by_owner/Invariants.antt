use Rattle.std.proofs.Common.{◌≡◌, map, length}
use Rattle.pli_declare.specs.Tables.{numbers_from}
use Rattle.pli_declare_tables.specs.views.TableView.{entries_view}
use Rattle.pli_declare_variables.proofs.MembersFound.{first_members}
use Rattle.pli_declare_variables.proofs.sizes.members_by_owner.Given as goal

abbrev pub invariant-loop : goal.invariant-loop
invariant-loop l = map (λ v. v.items) l.members.items ≡ map (first_members (entries_view l.entries) 0) (numbers_from 0 l.counter)

abbrev pub invariant-loop-number : goal.invariant-loop-number
invariant-loop-number l = map (λ v. v.items) l.members.items ≡ map (first_members (entries_view l.entries) l.number) (numbers_from 0 (length l.entries))
