-- Whether two names are one, and look-ups by names.
use Rattle.std.proofs.Common.{◌≡◌, ◌≢◌, ◌⊎◌, inl, inr, Bool, true, false, cond, List, [], ◌∷◌, map, Some, refl, sym, ap, ◌∙◌}
use mathlib.Core.Bool.{true≢false}
use Rattle.std.specs.Cmp.Lexicographic.{nat_list_cmp_total}
use Rattle.std.specs.Map.{lookup}
use Rattle.std.specs.Ordering.{is_eq}
use Rattle.std.proofs.lemmas.Cmp.{tied_itself}
use Rattle.std.proofs.lemmas.Map.Lookups.{exact_bytes}
use Rattle.std.proofs.lemmas.Map.Views.{tells_apart}
use Rattle.pli_base.specs.Name.{Name}
use Rattle.pli_members.specs.Members.{is_named}
use Rattle.pli_ledger.specs.Kept.{Kept, Units, nothing_kept, kept_of}
use Rattle.pli_ledger.specs.WorkParts.{or_nothing}

-- by a test
pub on_test : {P : Type 0} (t : Bool) → (t ≡ true → P) → (t ≡ false → P) → P
on_test true yes_then no_then = yes_then refl
on_test false yes_then no_then = no_then refl

pub named_itself : (a : Name) → is_named a a ≡ true
named_itself a = ap is_eq (tied_itself nat_list_cmp_total a)

pub named_is : (a b : Name) → is_named a b ≡ true → a ≡ b
named_is a b h = tells_apart exact_bytes a b h

pub named_same : (a b : Name) → a ≡ b → is_named a b ≡ true
named_same a b e = ap (is_named a) (sym e) ∙ named_itself a

pub not_named : (a b : Name) → a ≢ b → is_named a b ≡ false
not_named a b differs = on_test (is_named a b) (λ h. absurd (differs (named_is a b h))) (λ h. h)

-- whether two names are one
pub by_name : {P : Type 0} (a b : Name) → (a ≡ b → P) → (a ≢ b → P) → P
by_name a b same differs =
    on_test (is_named a b) (λ h. same (named_is a b h)) (λ h. differs (λ e. absurd (true≢false (sym (named_same a b e) ∙ h))))

-- what is kept of the first unit, and of the others
pub kept_first : (name : Name) (u : Name × Kept) (units : Units) → is_named name u.0 ≡ true → kept_of (u ∷ units) name ≡ u.1
kept_first name u units h = ap (λ (t : Bool). or_nothing (cond t (Some u.1) (lookup (is_named name) units))) h

pub kept_later : (name : Name) (u : Name × Kept) (units : Units) → is_named name u.0 ≡ false → kept_of (u ∷ units) name ≡ kept_of units name
kept_later name u units h = ap (λ (t : Bool). or_nothing (cond t (Some u.1) (lookup (is_named name) units))) h

-- of a list of names it is what each has, or nothing
pub kept_of-mapped : (f : Name → Kept) (names : List Name) (name : Name)
    → (kept_of (map (λ n. (n, f n)) names) name ≡ f name) ⊎ (kept_of (map (λ n. (n, f n)) names) name ≡ nothing_kept)
kept_of-mapped f [] name = inr refl
kept_of-mapped f (n ∷ names) name =
    let first : Name × Kept = (n, f n) in
    let others = map (λ (n : Name). let u : Name × Kept = (n, f n) in u) names in
    on_test (is_named name n)
    (λ h. inl (kept_first name first others h ∙ ap f (sym (named_is name n h))))
    (λ h. elim (kept_of-mapped f names name) [ inl e ↦ inl (kept_later name first others h ∙ e) | inr e ↦ inr (kept_later name first others h ∙ e) ])
