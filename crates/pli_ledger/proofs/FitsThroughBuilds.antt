-- What lies between what fits the members and what a build of them leaves fits them too.
use Rattle.std.proofs.Common.{◌≡◌, ℕ, zero, suc, ◌<◌, inl, inr, Bool, true, false, cond, List, [], ◌∷◌, Option, None, Some, refl, sym, ap, ◌∙◌, arith, slice_get}
use Rattle.std.specs.Cmp.{nat_cmp_total}
use Rattle.std.specs.Cmp.Lexicographic.{nat_list_cmp_total}
use Rattle.std.specs.FinMap.{get, get-insert, insert, nat_cmp-IsAntisymmetric}
use Rattle.std.specs.Map.{lookup}
use Rattle.std.specs.Option.{option_map, IfSome}
use Rattle.std.specs.Ordering.{nat_cmp, eq_by_cmp, is_eq}
use Rattle.std.proofs.lemmas.Cmp.{eq_by_cmp_equiv, tied_itself}
use Rattle.std.proofs.lemmas.Map.Entries.{lookup_from_place}
use Rattle.std.proofs.lemmas.Map.Keys.{IsDistinct-from_sorted}
use Rattle.std.proofs.lemmas.Map.Views.{IfSome-lookup_from_All, tells_apart}
use Rattle.pli_base.specs.Name.{Name}
use Rattle.pli_include.specs.Expanded.{Expanded, expansion_of}
use Rattle.pli_members.specs.Members.{Store, Member, is_named, member_of, name_order, names_of}
use Rattle.pli_members.specs.answers.Kept.{IsKept, IsKeptMember}
use Rattle.pli_meaning.specs.Scratch.{sources}
use Rattle.pli_ledger.specs.Fits.{Knows, Recalled, Seen, View, seen}
use Rattle.pli_ledger.specs.Kept.{Kept, Units, kept_of}
use Rattle.pli_ledger.specs.Work.{after, kept_after}
use Rattle.pli_ledger.specs.laws.Laws.{AfterFits, BuildsKeepFits}
use Rattle.pli_ledger.proofs.NamesApart.{kept_of-mapped, named_is, on_test}

-- the view with these members, each under its version
abbrev with_members : View → List (Name × Member) → View
with_members view [] = view
with_members view (e ∷ es) = insert (with_members view es) e.1.version (seen e.0 e.1)

-- a version is one of this, or another
version_is : (a b : ℕ) → eq_by_cmp nat_cmp a b ≡ true → a ≡ b
version_is a b h = tells_apart nat_cmp-IsAntisymmetric a b h

version_itself : (a b : ℕ) → a ≡ b → eq_by_cmp nat_cmp a b ≡ true
version_itself a b e = ap (eq_by_cmp nat_cmp a) (sym e) ∙ ap is_eq (tied_itself nat_cmp_total a)

-- what is under a version, once a member is put under one
put_same : (view : View) (version : ℕ) (x : Seen) (q : ℕ) → q ≡ version → get (insert view version x) q ≡ Some x
put_same view version x q e = get-insert nat_cmp_total view version x q ∙ ap (λ (t : Bool). cond t (Some x) (get view q)) (version_itself q version e)

put_other : (view : View) (version : ℕ) (x : Seen) (q : ℕ) → eq_by_cmp nat_cmp q version ≡ false → get (insert view version x) q ≡ get view q
put_other view version x q h = get-insert nat_cmp_total view version x q ∙ ap (λ (t : Bool). cond t (Some x) (get view q)) h

some_one : {X : Type 0} (x y : X) → Some x ≡ Some y → x ≡ y
some_one x y e = cc

-- a member of a store has a version below the next
given_below : (next : ℕ) (o : Option Member) (m : Member) → IfSome o (IsKeptMember next) → o ≡ Some m → m.version < next
given_below next None m kept found = cc
given_below next (Some n) m kept found = let same : n.version ≡ m.version = cc in omega (arith, kept.given)

module _ (s : Store) (kept : IsKept s) where
  -- each of these entries is a member of the store
  record Stand (es : List (Name × Member)) : Type 0 where
    each : (k : ℕ) (name : Name) (m : Member) → slice_get es k ≡ Some (name, m) → member_of s name ≡ Some m

  all_stand : Stand s.entries
  all_stand = record { each = λ k name m h. lookup_from_place (eq_by_cmp_equiv nat_list_cmp_total) s.entries k name m (IsDistinct-from_sorted name_order (names_of s) kept.ordered) h }

  later_stand : (e : Name × Member) (es : List (Name × Member)) → Stand (e ∷ es) → Stand es
  later_stand e es stand = record { each = λ k name m h. stand.each (suc k) name m h }

  below_next : (name : Name) (m : Member) → member_of s name ≡ Some m → m.version < s.next
  below_next name m found = given_below s.next (member_of s name) m (IfSome-lookup_from_All (IsKeptMember s.next) (is_named name) s.entries kept.members) found

  -- members of one version are one
  same_member : (a b : Name) (m n : Member) → member_of s a ≡ Some m → member_of s b ≡ Some n → m.version ≡ n.version → seen a m ≡ seen b n
  same_member a b m n at_a at_b e =
      let one = kept.apart a b n.version (ap (option_map (λ (x : Member). x.version)) at_a ∙ ap Some e) (ap (option_map (λ (x : Member). x.version)) at_b) in
      let same = some_one m n (sym at_a ∙ ap (member_of s) one ∙ at_b) in
      λ i. seen (one i) (same i)

  module _ (view : View) where
    -- the view has each of the members
    has_members : (es : List (Name × Member)) → Stand es → (name : Name) (m : Member) → member_of s name ≡ Some m → lookup (is_named name) es ≡ Some m → Knows (with_members view es) name m
    has_members [] stand name m is found = cc
    has_members (e ∷ es) stand name m is found =
        let first = stand.each zero e.0 e.1 refl in
        on_test (eq_by_cmp nat_cmp m.version e.1.version)
        (λ h. let same = version_is m.version e.1.version h in put_same (with_members view es) e.1.version (seen e.0 e.1) m.version same ∙ ap Some (sym (same_member name e.0 m e.1 is first same)))
        (λ h.
        put_other (with_members view es) e.1.version (seen e.0 e.1) m.version h
        ∙ has_members es (later_stand e es stand) name m is
        (on_test (is_named name e.0)
        (λ at. absurd (other_version (m.version) (e.1.version) h (ap (λ (x : Member). x.version) (some_one m e.1 (sym is ∙ ap (member_of s) (named_is name e.0 at) ∙ first)))))
        (λ at. ap (λ (t : Bool). cond t (Some e.1) (lookup (is_named name) es)) (sym at) ∙ found)))
      where
        other_version : (a b : ℕ) → eq_by_cmp nat_cmp a b ≡ false → a ≡ b → ⊥
        other_version a b h e = let yes_one = version_itself a b e in cc

    module _ (standing : (name : Name) (m : Member) (x : Seen) → member_of s name ≡ Some m → get view m.version ≡ Some x → x ≡ seen name m) where
      -- it has what it had
      keeps_known : (es : List (Name × Member)) → Stand es → (version : ℕ) (x : Seen) → get view version ≡ Some x → get (with_members view es) version ≡ Some x
      keeps_known [] stand version x h = h
      keeps_known (e ∷ es) stand version x h =
          on_test (eq_by_cmp nat_cmp version e.1.version)
          (λ at.
          let same = version_is version e.1.version at in
          put_same (with_members view es) e.1.version (seen e.0 e.1) version same ∙ ap Some (sym (standing e.0 e.1 x (stand.each zero e.0 e.1 refl) (ap (get view) (sym same) ∙ h))))
          (λ at. put_other (with_members view es) e.1.version (seen e.0 e.1) version at ∙ keeps_known es (later_stand e es stand) version x h)

    -- all its versions are below the next
    stays_below : ((version : ℕ) (x : Seen) → get view version ≡ Some x → version < s.next) → (es : List (Name × Member)) → Stand es → (version : ℕ) (x : Seen) → get (with_members view es) version ≡ Some x
        → version < s.next
    stays_below below [] stand version x h = below version x h
    stays_below below (e ∷ es) stand version x h =
        on_test (eq_by_cmp nat_cmp version e.1.version)
        (λ at. let same = version_is version e.1.version at in let low = below_next e.0 e.1 (stand.each zero e.0 e.1 refl) in omega arith)
        (λ at. stays_below below es (later_stand e es stand) version x (sym (put_other (with_members view es) e.1.version (seen e.0 e.1) version at) ∙ h))

-- what a build leaves has the members' expansions
after_is_fresh : (units : Units) (s : Store) (unit : Name) (e : Expanded) → (kept_of (after units s) unit).expansion ≡ Some e → e ≡ expansion_of s unit
after_is_fresh units s unit e h =
    let f = λ (name : Name). kept_after (expansion_of s name) (kept_of units name) in
    elim (kept_of-mapped f (sources s.entries) unit) [
      | inl is ↦ some_one e (expansion_of s unit) (sym h ∙ ap (λ (k : Kept). k.expansion) is)
      | inr is ↦ absurd (none_some e (sym (ap (λ (k : Kept). k.expansion) is) ∙ h))
    ]
  where
    none_some : (e : Expanded) → None ≡ Some e → ⊥
    none_some e h = cc

pub builds_keep_fits : BuildsKeepFits
builds_keep_fits before new s kept fits between =
    let all = all_stand s kept in
    let view = with_members fits.view s.entries in
    let has = λ (name : Name) (m : Member) (found : member_of s name ≡ Some m). has_members s kept fits.view s.entries all name m found found in
    record {
      view = view;
      kept = λ unit e h.
          elim (between.expansion unit) [
            | inl same ↦
                let recalled = fits.kept unit e (sym same ∙ h) in
                let again : Recalled view unit e = record {
                  then = recalled.then;
                  is = recalled.is;
                  known = λ name m looked found. keeps_known s kept fits.view fits.standing s.entries all m.version (seen name m) (recalled.known name m looked found);
                } in again
            | inr same ↦
                let fresh : Recalled view unit e = record { then = s; is = after_is_fresh before s unit e (sym same ∙ h); known = λ name m looked found. has name m found } in fresh
          ];
      below = λ version x h. stays_below s kept fits.view fits.below s.entries all version x h;
      standing = λ name m x found h. some_one x (seen name m) (sym h ∙ has name m found);
    }

pub after_fits : AfterFits
after_fits units s kept fits = builds_keep_fits units (after units s) s kept fits (record { expansion = λ name. inr refl; compiled = λ name. inr refl })
