-- Edits keep what is true of every store.
use Rattle.std.proofs.Common.{◌≡◌, ◌≢◌, true, ℕ, ◌+◌, ◌^◌, ◌<◌, ◌≤◌, List, [], length, Option, Some, None, sym, ap, ◌∙◌, arith}
use mathlib.Core.Bool.{true≢false}
use Rattle.std.proofs.lemmas.Cmp.{tied_itself}
use Rattle.std.proofs.lemmas.Map.Lookups.{exact_bytes}
use Rattle.std.proofs.lemmas.Map.Views.{tells_apart, IfSome-lookup_from_All}
use Rattle.std.specs.Option.{option_map, IfSome}
use Rattle.std.specs.Ordering.{is_eq}
use Rattle.pli_members.proofs.EditsAtPlace.{by_test}
use Rattle.pli_members.proofs.RunLaws.{edit_gives_next, edit_keeps_others, deletion_takes, deletion_keeps_others}
use Rattle.std.specs.List.{All, insert}
use Rattle.std.specs.Option.{SomeIff}
use Rattle.pli_members.specs.views.Fields.{next_version}
use Rattle.pli_members.specs.answers.Search.{IsGap}
use Rattle.std.specs.Cmp.Lexicographic.{nat_list_cmp_total}
use Rattle.std.proofs.lemmas.Map.Views.{All-values-insert_entry, All-map-remove_entry}
use Rattle.pli_base.specs.Name.{Name}
use Rattle.pli_members.specs.Members.{Member, Store, name_order, is_named, with_member, added, deleted, empty_store, version_of, member_of}
use Rattle.pli_members.specs.answers.Kept.{IsKept, IsKeptMember, IsLine}
use Rattle.pli_members.specs.declared.kind.MemberKind.{MemberKind}
use Rattle.pli_members.proofs.EditsByKey.{sorted_none, sorted_put, sorted_taken, length-taken}

-- no members
pub kept_empty : (first : ℕ) → first < 2 ^ 64 → IsKept (empty_store first)
kept_empty first fits = record { ordered = sorted_none name_order; few = omega arith; members = λ k d h. absurd (omega arith); apart = λ a b version found other. cc; bounded = omega arith }

-- a member that was given before stays so
later : (next : ℕ) (m : Member) → IsKeptMember next m → IsKeptMember (next + 1) m
later next m h = record { few = h.few; lines = h.lines; given = omega (arith, h.given) }

-- the version of a member is below the next
below_next : (next : ℕ) (o : Option Member) (version : ℕ) → IfSome o (IsKeptMember next) → option_map (λ m. m.version) o ≡ Some version → version < next
below_next next None version kept found = cc
below_next next (Some m) version kept found = let same : m.version ≡ version = cc in omega (arith, kept.given)

version_below_next : (s : Store) → IsKept s → (name : Name) (version : ℕ) → version_of s name ≡ Some version → version < s.next
version_below_next s kept name version found = below_next s.next (member_of s name) version (IfSome-lookup_from_All (IsKeptMember s.next) (is_named name) s.entries kept.members) found

-- whether two names are one
by_name : {P : Type 0} (a b : Name) → (a ≡ b → P) → (a ≢ b → P) → P
by_name a b same differs = by_test (is_named a b) (λ h. same (tells_apart exact_bytes a b h)) (λ h. differs (λ e. absurd (true≢false (sym (itself a b e) ∙ h))))
  where
    itself : (a b : Name) → a ≡ b → is_named a b ≡ true
    itself a b e = ap (is_named a) (sym e) ∙ ap is_eq (tied_itself nat_list_cmp_total a)

-- equal options hold equal numbers
some_same : (m n : ℕ) → Some m ≡ Some n → m ≡ n
some_same m n e = cc

none_some : (n : ℕ) → None ≡ Some n → ⊥
none_some n e = cc

-- an edited member's version is its alone
with_member_apart : (s : Store) (name : Name) (kind : MemberKind) (lines : List (List ℕ)) → IsKept s → (a b : Name) (version : ℕ) → version_of (with_member s name kind lines) a ≡ Some version → version_of (with_member s name kind lines) b ≡ Some version → a ≡ b
with_member_apart s name kind lines kept a b version at_a at_b =
    let new = with_member s name kind lines in
    let next_at = λ (q : Name) (e : q ≡ name) (at_q : version_of new q ≡ Some version). some_same s.next version (sym (ap (version_of new) e ∙ edit_gives_next s name kind lines) ∙ at_q) in
    let old_at = λ (q : Name) (ne : q ≢ name) (at_q : version_of new q ≡ Some version). sym (ap (option_map (λ (m : Member). m.version)) (edit_keeps_others s name kind lines q ne)) ∙ at_q in
    by_name a name
    (λ ea. by_name b name (λ eb. ea ∙ sym eb) (λ nb. absurd (omega (arith, next_at a ea at_a, version_below_next s kept b version (old_at b nb at_b)))))
    (λ na. by_name b name (λ eb. absurd (omega (arith, next_at b eb at_b, version_below_next s kept a version (old_at a na at_a)))) (λ nb. kept.apart a b version (old_at a na at_a) (old_at b nb at_b)))

-- the members that are left have versions of their own
deleted_apart : (s : Store) (name : Name) → IsKept s → (a b : Name) (version : ℕ) → version_of (deleted s name) a ≡ Some version → version_of (deleted s name) b ≡ Some version → a ≡ b
deleted_apart s name kept a b version at_a at_b =
    let gone = λ (q : Name) (e : q ≡ name) (at_q : version_of (deleted s name) q ≡ Some version). none_some version (sym (ap (version_of (deleted s name)) e ∙ ap (option_map (λ (m : Member). m.version)) (deletion_takes s name kept)) ∙ at_q) in
    let old_at = λ (q : Name) (ne : q ≢ name) (at_q : version_of (deleted s name) q ≡ Some version). sym (ap (option_map (λ (m : Member). m.version)) (deletion_keeps_others s name q ne)) ∙ at_q in
    by_name a name (λ e. absurd (gone a e at_a)) (λ na. by_name b name (λ e. absurd (gone b e at_b)) (λ nb. kept.apart a b version (old_at a na at_a) (old_at b nb at_b)))

-- a member under the next version
pub kept_with_member : (s : Store) (name : Name) (kind : MemberKind) (lines : List (List ℕ)) → IsKept s → s.next < 2 ^ 64 → length (with_member s name kind lines).entries ≤ 999 → length lines ≤ 9999 → All IsLine lines → IsKept (with_member s name kind lines)
kept_with_member s name kind lines kept left few_members few_lines clean =
    let m : Member = record { kind = kind; lines = lines; version = s.next } in
    record {
      ordered = sorted_put name_order name m nat_list_cmp_total s.entries kept.ordered;
      few = few_members;
      members = All-values-insert_entry name_order name m (IsKeptMember (s.next + 1)) s.entries (λ k d h. later s.next _ (kept.members k d h)) (record { few = few_lines; lines = clean; given = omega arith });
      apart = with_member_apart s name kind lines kept;
      bounded = omega arith;
    }

-- a member less
pub kept_deleted : (s : Store) (name : Name) → IsKept s → IsKept (deleted s name)
kept_deleted s name kept = record {
  ordered = sorted_taken name_order name s.entries kept.ordered;
  few = omega (arith, length-taken name_order name s.entries, kept.few);
  members = All-map-remove_entry (is_named name) (λ (e : Name × Member). e.1) (IsKeptMember s.next) s.entries kept.members;
  apart = deleted_apart s name kept;
  bounded = kept.bounded;
}

-- the version after one that fits
pub next_version-raised : (version : ℕ) (next : Option ℕ) → version < 2 ^ 64 → SomeIff next (version + 1 < 2 ^ 64) (version + 1) → next_version next ≡ version + 1
next_version-raised version (Some n) fits h = h.1
next_version-raised version None fits h = let least : 2 ^ 64 ≤ version + 1 = omega (arith, h) in omega arith

-- a store of these parts
abbrev pub store_of : List (Name × Member) → ℕ → Store
store_of es n = record { entries = es; next = n }

-- equal parts make equal stores
pub store-≡ : (es fs : List (Name × Member)) (m n : ℕ) → es ≡ fs → m ≡ n → store_of es m ≡ store_of fs n
store-≡ es fs m n e h = cc

-- a new entry at the gap is an addition
pub inserted_is_added : (s : Store) (name : Name) (kind : MemberKind) (at : ℕ) → IsGap s name at → (es : List (Name × Member)) (lines : List (List ℕ)) (version next : ℕ) → es ≡ insert s.entries at (name, record { kind = kind; lines = lines; version = version }) → lines ≡ [] → s.next ≡ version → next ≡ version + 1 → store_of es next ≡ added s name kind
inserted_is_added s name kind at gap es lines version next put none same raised =
    let entry = λ (l : List (List ℕ)) (v : ℕ). insert s.entries at (name, record { kind = kind; lines = l; version = v }) in
    let entries = put ∙ ap (λ (l : List (List ℕ)). entry l version) none ∙ ap (entry []) (sym same) ∙ gap.puts (record { kind = kind; lines = []; version = s.next }) in
    store-≡ es _ next _ entries (raised ∙ ap (λ v. v + 1) (sym same))
