-- Lists of units of which the first are at one stage of a build, and the others at the one before.
use Rattle.std.proofs.Common.{◌≡◌, ℕ, zero, suc, ◌+◌, Bool, false, cond, List, [], ◌∷◌, ◌++◌, map, take, drop, refl, sym, ap, subst, ◌∙◌}
use Rattle.std.specs.List.{AllByRecursion, IsDistinct, count_by}
use Rattle.std.specs.Ordering.{eq_by_cmp}
use Rattle.std.proofs.lemmas.List.Sums.{sum_by-cons}
use Rattle.std.proofs.lemmas.Map.Keys.{IsDistinct-head, IsDistinct-tail}
use Rattle.pli_base.specs.Name.{Name}
use Rattle.pli_members.specs.Members.{is_named, name_order}
use Rattle.pli_ledger.specs.Kept.{Kept, Units, kept_of, nothing_kept}
use Rattle.pli_ledger.proofs.NamesApart.{kept_first, kept_later, named_is, named_itself, on_test}
use Rattle.pli_ledger.proofs.NamesInOrder.{all_both, all_dropped, all_taken, other_way}

-- these names at a stage
abbrev pub staged : (Name → Kept) → List Name → Units
staged f names = map (λ name. (name, f name)) names

-- the first n at one stage, the others at another
abbrev pub mixed : (f g : Name → Kept) → ℕ → List Name → Units
mixed f g n names = staged f (take n names) ++ staged g (drop n names)

-- what leads each unit from one stage to the next, done with the first n
pub pass_mixes : (done : Name × Kept → Name × Kept) (f g : Name → Kept) → ((name : Name) → done (name, f name) ≡ (name, g name))
    → (n : ℕ) (names : List Name) → map done (take n (staged f names)) ++ drop n (staged f names) ≡ mixed g f n names
pass_mixes done f g leads zero names = refl
pass_mixes done f g leads (suc n) [] = refl
pass_mixes done f g leads (suc n) (x ∷ xs) = let first = leads x in let others = pass_mixes done f g leads n xs in λ i. first i ∷ others i

-- all of them
pub mixed_all : (f g : Name → Kept) (n : ℕ) (names : List Name) → drop n names ≡ [] → mixed f g n names ≡ staged f names
mixed_all f g zero [] none = refl
mixed_all f g zero (x ∷ xs) none = cc
mixed_all f g (suc n) [] none = refl
mixed_all f g (suc n) (x ∷ xs) none = ap (λ (us : Units). (x, f x) ∷ us) (mixed_all f g n xs none)

-- how many of the first n pass
pub counted_staged : (needs : Name × Kept → Bool) (f : Name → Kept) (n : ℕ) (names : List Name) → count_by needs (take n (staged f names)) ≡ count_by (λ name. needs (name, f name)) (take n names)
counted_staged needs f zero names = refl
counted_staged needs f (suc n) [] = refl
counted_staged needs f (suc n) (x ∷ xs) =
    sum_by-cons (λ (u : Name × Kept). cond (needs u) 1 0) (x, f x) (take n (staged f xs))
    ∙ ap (λ (k : ℕ). cond (needs (x, f x)) 1 0 + k) (counted_staged needs f n xs)
    ∙ sym (sum_by-cons (λ (name : Name). cond (needs (name, f name)) 1 0) x (take n xs))

-- one unit more in front changes nothing for other names
after : (u : Name × Kept) (units : Units) (h : Name → Kept) (names : List Name) → AllByRecursion (λ y. is_named u.0 y ≡ false) names → AllByRecursion (λ y. kept_of units y ≡ h y) names
    → AllByRecursion (λ y. kept_of (u ∷ units) y ≡ h y) names
after u units h names apart all =
    all_both (λ y. is_named u.0 y ≡ false) (λ y. kept_of units y ≡ h y) (λ y. kept_of (u ∷ units) y ≡ h y) (λ y differs is. kept_later y u units (other_way u.0 y differs) ∙ is) names apart all

pub kept_staged : (f : Name → Kept) (names : List Name) → IsDistinct (eq_by_cmp name_order) names → AllByRecursion (λ name. kept_of (staged f names) name ≡ f name) names
kept_staged f [] apart = tt
kept_staged f (x ∷ xs) apart = (
  kept_first x (x, f x) (staged f xs) (named_itself x),
  after (x, f x) (staged f xs) f xs (IsDistinct-head (eq_by_cmp name_order) x xs apart) (kept_staged f xs (IsDistinct-tail (eq_by_cmp name_order) x xs apart)),
)

-- the first n names are at the one stage
pub kept_at_front : (f g : Name → Kept) (n : ℕ) (names : List Name) → IsDistinct (eq_by_cmp name_order) names → AllByRecursion (λ name. kept_of (mixed f g n names) name ≡ f name) (take n names)
kept_at_front f g zero names apart = tt
kept_at_front f g (suc n) [] apart = tt
kept_at_front f g (suc n) (x ∷ xs) apart = (
  kept_first x (x, f x) (mixed f g n xs) (named_itself x),
  after (x, f x) (mixed f g n xs) f (take n xs) (all_taken (λ y. is_named x y ≡ false) n xs (IsDistinct-head (eq_by_cmp name_order) x xs apart)) (kept_at_front f g n xs (IsDistinct-tail (eq_by_cmp name_order) x xs apart)),
)

-- the others at the other
pub kept_at_back : (f g : Name → Kept) (n : ℕ) (names : List Name) → IsDistinct (eq_by_cmp name_order) names → AllByRecursion (λ name. kept_of (mixed f g n names) name ≡ g name) (drop n names)
kept_at_back f g zero names apart = kept_staged g names apart
kept_at_back f g (suc n) [] apart = tt
kept_at_back f g (suc n) (x ∷ xs) apart =
    after (x, f x) (mixed f g n xs) g (drop n xs)
    (all_dropped (λ y. is_named x y ≡ false) n xs (IsDistinct-head (eq_by_cmp name_order) x xs apart))
    (kept_at_back f g n xs (IsDistinct-tail (eq_by_cmp name_order) x xs apart))

-- what relates both stages to a third, at a name, relates the list to that of the third
module _ (R : Kept → Kept → Type 0) (f g h : Name → Kept) (name : Name) (at_f : R (f name) (h name)) (at_g : R (g name) (h name)) (at_none : R nothing_kept nothing_kept) where
  one_more : (k : Name → Kept) (x : Name) (units others : Units) → R (k name) (h name) → R (kept_of units name) (kept_of others name) → R (kept_of ((x, k x) ∷ units) name) (kept_of ((x, h x) ∷ others) name)
  one_more k x units others here there =
      on_test (is_named name x)
      (λ at.
      let same = named_is name x at in
      subst (λ (y : Kept). R y (kept_of ((x, h x) ∷ others) name)) (sym (kept_first name (x, k x) units at ∙ ap k (sym same)))
      (subst (R (k name)) (sym (kept_first name (x, h x) others at ∙ ap h (sym same))) here))
      (λ at.
      subst (λ (y : Kept). R y (kept_of ((x, h x) ∷ others) name)) (sym (kept_later name (x, k x) units at))
      (subst (R (kept_of units name)) (sym (kept_later name (x, h x) others at)) there))

  pub mixed_relates : (n : ℕ) (names : List Name) → R (kept_of (mixed f g n names) name) (kept_of (staged h names) name)
  mixed_relates zero [] = at_none
  mixed_relates zero (x ∷ xs) = one_more g x (staged g xs) (staged h xs) at_g (mixed_relates zero xs)
  mixed_relates (suc n) [] = at_none
  mixed_relates (suc n) (x ∷ xs) = one_more f x (mixed f g n xs) (staged h xs) at_f (mixed_relates n xs)

-- names that pass where the first n of others do
module _ (p q : Name → Bool) where
  none_counted : (names : List Name) → AllByRecursion (λ name. q name ≡ false) names → count_by q names ≡ 0
  none_counted [] all = refl
  none_counted (x ∷ xs) all =
      sum_by-cons (λ (name : Name). cond (q name) 1 0) x xs ∙ ap (λ (t : Bool). cond t 1 0 + count_by q xs) all.0 ∙ ap (λ (k : ℕ). 0 + k) (none_counted xs all.1)

  pub counted_front : (n : ℕ) (names : List Name) → AllByRecursion (λ name. q name ≡ p name) (take n names) → AllByRecursion (λ name. q name ≡ false) (drop n names)
      → count_by q names ≡ count_by p (take n names)
  counted_front zero names front back = none_counted names back
  counted_front (suc n) [] front back = refl
  counted_front (suc n) (x ∷ xs) front back =
      sum_by-cons (λ (name : Name). cond (q name) 1 0) x xs ∙ ap (λ (t : Bool). cond t 1 0 + count_by q xs) front.0 ∙ ap (λ (k : ℕ). cond (p x) 1 0 + k) (counted_front n xs front.1 back)
      ∙ sym (sum_by-cons (λ (name : Name). cond (p name) 1 0) x (take n xs))

  pub counted_same : (names : List Name) → AllByRecursion (λ name. q name ≡ p name) names → count_by q names ≡ count_by p names
  counted_same [] all = refl
  counted_same (x ∷ xs) all =
      sum_by-cons (λ (name : Name). cond (q name) 1 0) x xs ∙ ap (λ (t : Bool). cond t 1 0 + count_by q xs) all.0 ∙ ap (λ (k : ℕ). cond (p x) 1 0 + k) (counted_same xs all.1)
      ∙ sym (sum_by-cons (λ (name : Name). cond (p name) 1 0) x xs)
