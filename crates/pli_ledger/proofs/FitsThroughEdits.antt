-- What is kept fits the members after an edit of them.
use Rattle.std.proofs.Common.{◌≡◌, ℕ, List, [], Option, None, Some, sym, ap, ◌∙◌, arith}
use Rattle.std.specs.FinMap.{empty, get, get-empty}
use Rattle.std.specs.Option.{option_map}
use Rattle.std.specs.Ordering.{nat_cmp}
use Rattle.pli_base.specs.Name.{Name}
use Rattle.pli_members.specs.Members.{Store, Member, Change, changed_lines, deleted, member_of, version_of, with_lines, with_member}
use Rattle.pli_members.specs.Versions.{EditGivesNext, EditKeepsOthers, DeletionTakes, DeletionKeepsOthers}
use Rattle.pli_members.specs.declared.kind.MemberKind.{MemberKind}
use Rattle.pli_ledger.specs.Fits.{Fits, Seen}
use Rattle.pli_ledger.specs.Kept.{Units}
use Rattle.pli_ledger.specs.laws.Laws.{NothingFits, AdditionsKeepFits, ChangesKeepFits, DeletionsKeepFits}
use Rattle.pli_ledger.proofs.NamesApart.{by_name}

nothing_known : (version : ℕ) (x : Seen) → get (empty {X = Seen} {R = nat_cmp}) version ≡ Some x → ⊥
nothing_known version x h = let none = get-empty {X = Seen} nat_cmp version in cc

pub nothing_fits : NothingFits
nothing_fits s = record {
  view = empty;
  kept = λ unit e h. absurd (none_some e h);
  below = λ version x h. absurd (nothing_known version x h);
  standing = λ name m x found h. absurd (nothing_known m.version x h);
}
  where
    none_some : {X : Type 0} (x : X) → None ≡ Some x → ⊥
    none_some x h = cc

same_versions : (m n : ℕ) → Some m ≡ Some n → m ≡ n
same_versions m n e = cc

module _ (gives : EditGivesNext) (keeps : EditKeepsOthers) where
  -- a member stands under a version that was never given before
  with_member_fits : (units : Units) (s : Store) (name : Name) (kind : MemberKind) (lines : List (List ℕ)) → Fits units s → Fits units (with_member s name kind lines)
  with_member_fits units s name kind lines fits =
      let new = with_member s name kind lines in
      let is_next = λ (other : Name) (m : Member) (same : other ≡ name) (found : member_of new other ≡ Some m).
      same_versions m.version s.next (sym (ap (option_map (λ (m : Member). m.version)) found) ∙ ap (version_of new) same ∙ gives s name kind lines) in
      record {
        view = fits.view;
        kept = fits.kept;
        below = λ version x h. let low = fits.below version x h in omega arith;
        standing = λ other m x found h.
            by_name other name
            (λ same. let low = fits.below m.version x h in let high = is_next other m same found in absurd (omega arith))
            (λ differs. fits.standing other m x (sym (keeps s name kind lines other differs) ∙ found) h);
      }

  pub additions_keep_fits : AdditionsKeepFits
  additions_keep_fits units s name kind fits = with_member_fits units s name kind [] fits

  with_lines_fits : (units : Units) (s : Store) (name : Name) (change : Change) (o : Option Member) → Fits units s → Fits units (with_lines s name change o)
  with_lines_fits units s name change None fits = fits
  with_lines_fits units s name change (Some m) fits = with_member_fits units s name m.kind (changed_lines change m.lines) fits

  pub changes_keep_fits : ChangesKeepFits
  changes_keep_fits units s name change fits = with_lines_fits units s name change (member_of s name) fits

module _ (takes : DeletionTakes) (keeps : DeletionKeepsOthers) where
  -- a member less stands
  pub deletions_keep_fits : DeletionsKeepFits
  deletions_keep_fits units s name kept fits = record {
    view = fits.view;
    kept = fits.kept;
    below = fits.below;
    standing = λ other m x found h.
        by_name other name
        (λ same. absurd (gone (sym found ∙ ap (member_of (deleted s name)) same ∙ takes s name kept)))
        (λ differs. fits.standing other m x (sym (keeps s name other differs) ∙ found) h);
  }
    where
      gone : {m : Member} → Some m ≡ None → ⊥
      gone h = cc
