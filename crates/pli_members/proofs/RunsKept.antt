-- Accepted edits keep what is true of every store.
use Rattle.std.proofs.Common.{◌≡◌, ◌^◌, ◌<◌, [], length, Option, Some, None, refl, sym, ap, ◌∙◌, subst, arith, slice_get}
use Rattle.std.proofs.lemmas.Bool.Decides.{nat_tests}
use Rattle.std.proofs.lemmas.Map.Entries.{place_from_lookup}
use Rattle.std.proofs.lemmas.Map.Lookups.{exact_bytes}
use Rattle.std.proofs.lemmas.Map.Views.{tells_apart}
use Rattle.pli_base.specs.Name.{Name}
use Rattle.pli_members.specs.answers.Kept.{IsKept}
use Rattle.pli_members.specs.Members.{Member, Store, Change, added, is_named, member_of, name_order, with_change}
use Rattle.pli_members.specs.Refusals.{or_exhausted, refusal_of_add, refusal_of_lines, refusal_in_member}
use Rattle.pli_members.specs.Versions.{begun, adding, deleting, changing, RunsKeep}
use Rattle.pli_members.specs.declared.kind.MemberKind.{MemberKind}
use Rattle.pli_members.specs.declared.refusal.Refusal.{Refusal}
use Rattle.pli_members.proofs.EditsByKey.{length-put}
use Rattle.pli_members.proofs.ChangeDoes.{kept_with_change}
use Rattle.pli_members.proofs.SearchFinds.{place_of_entry}
use Rattle.pli_members.proofs.StaysKept.{kept_with_member, kept_deleted}

-- there is room for an addition that is not refused
room_to_add : (s : Store) (name : Name) → refusal_of_add s name ≡ None → record { few : length s.entries < 999; left : s.next < 2 ^ 64 }
room_to_add s name none = record { few = grind (arith, nat_tests); left = grind (arith, nat_tests) }

kept_added : (s : Store) (name : Name) (kind : MemberKind) → IsKept s → refusal_of_add s name ≡ None → IsKept (added s name kind)
kept_added s name kind kept none =
    let room = room_to_add s name none in
    let m : Member = record { kind = kind; lines = []; version = s.next } in
    kept_with_member s name kind [] kept room.left (omega (arith, length-put name_order name m s.entries, room.few)) (omega arith) (λ k d h. absurd (omega arith))

-- nothing refuses the lines, and a version is left
room_to_change : (s : Store) (r : Option Refusal) → or_exhausted s r ≡ None → record { clear : r ≡ None; left : s.next < 2 ^ 64 }
room_to_change s (Some r) none = cc
room_to_change s None none = record { clear = refl; left = grind (arith, nat_tests) }

-- equal options hold equal members
one_member : (m n : Member) → Some m ≡ Some n → m ≡ n
one_member m n e = cc

kept_changed : (s : Store) (name : Name) (change : Change) → IsKept s → (o : Option Member) → member_of s name ≡ o → refusal_in_member s change o ≡ None → IsKept (with_change s name change)
kept_changed s name change kept None found none = cc
kept_changed s name change kept (Some m) found none =
    let entry = place_from_lookup (is_named name) s.entries m found in
    let stands : slice_get s.entries entry.0 ≡ Some (name, m) = entry.2 ∙ ap (λ (n : Name). Some (n, m)) (sym (tells_apart exact_bytes name entry.1 entry.3)) in
    let room = room_to_change s (refusal_of_lines change m.lines) none in
    let place = place_of_entry s kept.ordered name entry.0 m stands in
    let same = one_member m place.member (sym found ∙ place.found) in
    kept_with_change s name entry.0 place change (subst (λ (x : Member). refusal_of_lines change x.lines ≡ None) same room.clear) kept room.left

pub runs_keep : RunsKeep
runs_keep start _ _ begun kept = kept
runs_keep start _ _ (adding given s name kind run fresh) kept = kept_added s name kind (runs_keep start s given run kept) fresh
runs_keep start _ _ (deleting given s name run fresh) kept = kept_deleted s name (runs_keep start s given run kept)
runs_keep start _ _ (changing given s name change run fresh) kept = kept_changed s name change (runs_keep start s given run kept) (member_of s name) refl fresh
