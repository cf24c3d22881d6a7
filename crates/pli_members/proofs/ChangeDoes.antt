-- What a change of lines that is not refused does.
use Rattle.std.proofs.Common.{◌≡◌, ℕ, Bool, true, false, ◌&&◌, nat_le, zero, suc, [], ◌∷◌, take, drop, subst, ◌+◌, ◌-◌, ◌<◌, ◌≤◌, ◌^◌, List, length, Option, Some, None, refl, ap, sym, ◌∙◌, get_or, set, if◌then◌else◌, arith, length-append, length-drop}
use Rattle.std.specs.List.{All}
use Rattle.std.proofs.lemmas.Bool.Decides.{nat_tests}
use Rattle.pli_members.specs.answers.Kept.{IsKept, IsKeptMember, IsLine}
use Rattle.std.specs.Option.{IfSome}
use Rattle.std.proofs.lemmas.List.{length-set, length-take-le}
use Rattle.std.proofs.lemmas.List.Edits.{length-insert}
use Rattle.std.proofs.lemmas.List.Elements.{All-append, All-take, All-drop, All-set}
use Rattle.std.proofs.lemmas.Map.Views.{IfSome-lookup_from_All}
use Rattle.std.proofs.lemmas.Option.{get_or_from_slice_get}
use Rattle.pli_base.specs.Name.{Name}
use Rattle.pli_members.specs.Members.{Store, Member, Change, Insert, Replace, Remove, changed_lines, is_named, name_order, with_change, with_lines}
use Rattle.pli_members.proofs.StaysKept.{store_of, store-≡, kept_with_member}
use Rattle.std.specs.BTreeMap.{insert_entry}
use Rattle.pli_members.specs.Refusals.{refusal_of_lines, refusal_of_text, or_full, refusal_in_member, refusal_of_change, or_exhausted, is_exhausted}
use Rattle.pli_members.specs.answers.Search.{IsPlace}
use Rattle.pli_members.specs.declared.refusal.Refusal.{Refusal}
use Rattle.pli_members.specs.declared.refusal.Refusal.TheVariants.{NoSuchLine, VersionsExhausted}

pub line_from_none : (text : List ℕ) → refusal_of_text text ≡ None → IsLine text
line_from_none text none = record { short = grind (arith, nat_tests); clean = grind (arith, nat_tests) }

-- where a line may be put, what its text is, and the room for it
pub record IsInsertion (after : ℕ) (text : List ℕ) (lines : List (List ℕ)) : Type 0 where
  pub in_range : after ≤ length lines
  pub room : length lines < 9999
  pub line : IsLine text

-- a line that is there, and what its new text is
pub record IsReplacement (number : ℕ) (text : List ℕ) (lines : List (List ℕ)) : Type 0 where
  pub counted : 1 ≤ number
  pub in_range : number ≤ length lines
  pub line : IsLine text

-- lines that are there
pub record IsRemoval (first last : ℕ) (lines : List (List ℕ)) : Type 0 where
  pub counted : 1 ≤ first
  pub order : first ≤ last
  pub in_range : last ≤ length lines

-- what is not refused has none of the reasons
room_from_none : (lines : List (List ℕ)) (r : Option Refusal) → or_full lines r ≡ None → record { text : r ≡ None; room : length lines < 9999 }
room_from_none lines (Some r) none = cc
room_from_none lines None none = record { text = refl; room = grind (arith, nat_tests) }

-- a test that leaves nothing is passed
passed : (b : Bool) (r : Option Refusal) (q : Refusal) → (if b then r else Some q) ≡ None → record { test : b ≡ true; rest : r ≡ None }
passed true r q none = record { test = refl; rest = none }
passed false r q none = cc

pub insertion_from_none : (after : ℕ) (text : List ℕ) (lines : List (List ℕ)) → refusal_of_lines (Insert after text) lines ≡ None → IsInsertion after text lines
insertion_from_none after text lines none =
    let there = passed (nat_le after (length lines)) (or_full lines (refusal_of_text text)) NoSuchLine none in
    let test : nat_le after (length lines) ≡ true = there.test in
    let free = room_from_none lines (refusal_of_text text) there.rest in
    record { in_range = grind (arith, nat_tests); room = free.room; line = line_from_none text free.text }

pub replacement_from_none : (number : ℕ) (text : List ℕ) (lines : List (List ℕ)) → refusal_of_lines (Replace number text) lines ≡ None → IsReplacement number text lines
replacement_from_none number text lines none =
    let there = passed (nat_le 1 number && nat_le number (length lines)) (refusal_of_text text) NoSuchLine none in
    let test : nat_le 1 number && nat_le number (length lines) ≡ true = there.test in
    record { counted = grind (arith, nat_tests); in_range = grind (arith, nat_tests); line = line_from_none text there.rest }

pub removal_from_none : (first last : ℕ) (lines : List (List ℕ)) → refusal_of_lines (Remove first last) lines ≡ None → IsRemoval first last lines
removal_from_none first last lines none = record { counted = grind (arith, nat_tests); order = grind (arith, nat_tests); in_range = grind (arith, nat_tests) }

-- the one line of a list
All-one : (text : List ℕ) → IsLine text → All IsLine (text ∷ [])
All-one text line zero d h = line
All-one text line (suc k) d h = absurd (omega arith)

-- as many lines as a member may have, each of which may stand in one
pub record AreLines (lines : List (List ℕ)) : Type 0 where
  pub few : length lines ≤ 9999
  pub each : All IsLine lines

-- a change that is not refused leaves lines of a member
pub lines_after : (change : Change) (lines : List (List ℕ)) → refusal_of_lines change lines ≡ None → AreLines lines → AreLines (changed_lines change lines)
lines_after (Insert after text) lines none are =
    let can = insertion_from_none after text lines none in
    let one_more = length-insert lines after text can.in_range in
    record {
      few = omega (arith, one_more, can.room);
      each = All-append IsLine (take after lines) (text ∷ drop after lines) (All-take IsLine after lines are.each) (All-append IsLine (text ∷ []) (drop after lines) (λ k d h. All-one text can.line k d h) (All-drop IsLine after lines are.each));
    }
lines_after (Replace number text) lines none are =
    let can = replacement_from_none number text lines none in
    record { few = omega (arith, length-set lines (number - 1) text, are.few); each = All-set IsLine lines (number - 1) text can.line are.each }
lines_after (Remove first last) lines none are =
    let can = removal_from_none first last lines none in
    record {
      few = omega (arith, length-append (take (first - 1) lines) (drop last lines), length-take-le (first - 1) lines (omega (arith, can.order, can.in_range)), length-drop last lines, can.counted, can.order, can.in_range, are.few);
      each = All-append IsLine (take (first - 1) lines) (drop last lines) (All-take IsLine (first - 1) lines are.each) (All-drop IsLine last lines are.each);
    }

module _ (s : Store) (name : Name) (at : ℕ) (place : IsPlace s name at) where
  -- the entry that is read at the place
  pub entry_at_place : (e : Name × Member) → e ≡ get_or s.entries at e → e ≡ (name, place.member)
  entry_at_place e read = read ∙ get_or_from_slice_get s.entries at (name, place.member) e place.stands

  module _ (change : Change) where
    -- nothing refuses the change by itself, as the lines were read
    pub clear_at_place : (e : Name × Member) (lines : List (List ℕ)) → e ≡ get_or s.entries at e → lines ≡ e.1.lines → None ≡ refusal_of_lines change lines → refusal_of_lines change place.member.lines ≡ None
    clear_at_place e lines read same none =
        let here : lines ≡ place.member.lines = same ∙ ap (λ (x : Name × Member). x.1.lines) (entry_at_place e read) in
        ap (refusal_of_lines change) (sym here) ∙ sym none

    module _ (clear : refusal_of_lines change place.member.lines ≡ None) where
      -- the change of these lines alone is not what is refused
      refusal_is : refusal_of_change s name change ≡ (if is_exhausted s then Some VersionsExhausted else None)
      refusal_is = ap (refusal_in_member s change) place.found ∙ ap (or_exhausted s) clear

      pub refused_exhausted : 2 ^ 64 ≤ s.next → refusal_of_change s name change ≡ Some VersionsExhausted
      refused_exhausted h = refusal_is ∙ grind (arith, nat_tests)

      pub not_refused : s.next < 2 ^ 64 → refusal_of_change s name change ≡ None
      not_refused h = refusal_is ∙ grind (arith, nat_tests)

      -- it keeps what is true of every store
      pub kept_with_change : IsKept s → s.next < 2 ^ 64 → IsKept (with_change s name change)
      kept_with_change kept left =
          let m = place.member in
          let lines = changed_lines change m.lines in
          let new : Member = record { kind = m.kind; lines = lines; version = s.next } in
          let here : IsKeptMember s.next m = subst (λ o. IfSome o (IsKeptMember s.next)) place.found (IfSome-lookup_from_All (IsKeptMember s.next) (is_named name) s.entries kept.members) in
          let as_many : length (insert_entry name_order s.entries name new) ≡ length s.entries = ap length (sym (place.writes new)) ∙ length-set s.entries at (name, new) in
          let are = lines_after change m.lines clear (record { few = here.few; each = here.lines }) in
          subst IsKept (sym (ap (with_lines s name change) place.found)) (kept_with_member s name m.kind lines kept left (omega (arith, as_many, kept.few)) are.few are.each)

    -- lines that are changed at the place are changed under the name
    pub change_is_with_change : (es : List (Name × Member)) (old new : Name × Member) (lines : List (List ℕ)) (version next : ℕ)
        → old ≡ get_or s.entries at old → new ≡ (old.0, record { kind = old.1.kind; lines = lines; version = version }) → lines ≡ changed_lines change old.1.lines → s.next ≡ version → next ≡ version + 1
        → es ≡ set s.entries at new → store_of es next ≡ with_change s name change
    change_is_with_change es old new lines version next read made same current raised put =
        let here = entry_at_place old read in
        let entry = λ (e : Name × Member) (ls : List (List ℕ)) (v : ℕ). let x : Name × Member = (e.0, record { kind = e.1.kind; lines = ls; version = v }) in x in
        let m : Member = record { kind = place.member.kind; lines = changed_lines change place.member.lines; version = s.next } in
        let written : new ≡ (name, m) = made ∙ ap (λ ls. entry old ls version) same ∙ ap (λ (e : Name × Member). entry e (changed_lines change e.1.lines) version) here ∙ ap (entry (name, place.member) (changed_lines change place.member.lines)) (sym current) in
        let entries : es ≡ insert_entry name_order s.entries name m = put ∙ ap (set s.entries at) written ∙ place.writes m in
        store-≡ es _ next _ entries (raised ∙ ap (λ v. v + 1) (sym current)) ∙ ap (with_lines s name change) (sym place.found)
