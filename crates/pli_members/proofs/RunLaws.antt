-- The laws of the members.
use Rattle.std.proofs.Common.{◌≡◌, ℕ, zero, suc, ◌+◌, ◌<◌, true, List, length, get_or, Option, Some, None, refl, ap, ◌∙◌, arith}
use Rattle.std.specs.Option.{option_map}
use Rattle.std.specs.Ordering.{is_eq}
use Rattle.std.specs.Cmp.Lexicographic.{nat_list_cmp_total}
use Rattle.std.proofs.lemmas.Cmp.{eq_by_cmp_equiv, tied_itself}
use Rattle.std.proofs.lemmas.Map.{lookup-remove_entry}
use Rattle.std.proofs.lemmas.Map.Keys.{IsDistinct-from_sorted}
use Rattle.std.proofs.lemmas.Map.Lookups.{exact_bytes}
use Rattle.pli_base.specs.Name.{Name}
use Rattle.pli_members.specs.Members.{Store, Member, Change, name_order, is_named, names_of, member_of, with_lines}
use Rattle.pli_members.specs.Refusals.{refusal_in_member}
use Rattle.pli_members.specs.Versions.{Run, begun, adding, deleting, changing, NextIsNew, EditGivesNext, EditKeepsOthers, DeletionTakes, DeletionKeepsOthers}
use Rattle.std.proofs.lemmas.Map.Views.{tells_apart}
use Rattle.pli_members.proofs.EditsAtPlace.{cond-true}
use Rattle.pli_members.proofs.EditsByKey.{lookup-put, lookup-put_other, lookup-taken_other}

pub edit_gives_next : EditGivesNext
edit_gives_next s name kind lines = ap (option_map (λ (m : Member). m.version)) (lookup-put name_order name (record { kind = kind; lines = lines; version = s.next }) nat_list_cmp_total s.entries)

pub edit_keeps_others : EditKeepsOthers
edit_keeps_others s name kind lines other differs = lookup-put_other name_order name (record { kind = kind; lines = lines; version = s.next }) exact_bytes other differs s.entries

pub deletion_takes : DeletionTakes
deletion_takes s name kept =
    let one = λ (x y : Name) (h : is_named name x ≡ true). ap (λ q. is_named q y) (tells_apart exact_bytes name x h) in
    let itself : is_named name name ≡ true = ap is_eq (tied_itself nat_list_cmp_total name) in
    lookup-remove_entry (eq_by_cmp_equiv nat_list_cmp_total) (is_named name) one name s.entries (IsDistinct-from_sorted name_order (names_of s) kept.ordered) ∙ cond-true None (member_of s name) (is_named name name) itself

pub deletion_keeps_others : DeletionKeepsOthers
deletion_keeps_others s name other differs = lookup-taken_other name_order name exact_bytes other differs s.entries

-- a change raises the next version
next-with_lines : (s : Store) (name : Name) (change : Change) (o : Option Member) → refusal_in_member s change o ≡ None → (with_lines s name change o).next ≡ s.next + 1
next-with_lines s name change None h = cc
next-with_lines s name change (Some m) h = refl

-- the versions that were given are below the next
given_below : (start s : Store) (given : List ℕ) → Run start given s → (k d : ℕ) → k < length given → get_or given k d < s.next
given_below start _ _ begun k d h = absurd (omega arith)
given_below start _ _ (adding given s name kind run fresh) zero d h = omega arith
given_below start _ _ (adding given s name kind run fresh) (suc k) d h = omega (arith, given_below start s given run k d (omega arith))
given_below start _ _ (deleting given s name run fresh) k d h = given_below start s given run k d h
given_below start _ _ (changing given s name change run fresh) zero d h = omega (arith, next-with_lines s name change (member_of s name) fresh)
given_below start _ _ (changing given s name change run fresh) (suc k) d h = omega (arith, next-with_lines s name change (member_of s name) fresh, given_below start s given run k d (omega arith))

pub next_is_new : NextIsNew
next_is_new start s given run contained = omega (arith, given_below start s given run contained.0 s.next contained.1, contained.2)
