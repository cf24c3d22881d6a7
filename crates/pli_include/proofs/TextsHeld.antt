-- The texts of members that an expansion holds.
use Rattle.std.specs.Prelude.{◌≡◌, ℕ, zero, suc, ◌+◌, ◌≤◌, List, [], ◌∷◌, ◌++◌, length, slice_get, get_or, Bool, true, false, Option, None, Some, Ok, IfSome, ◌⊎◌, if◌then◌else◌, refl}
use Rattle.std.specs.Option.{option_map}
use Rattle.std.proofs.Common.{arith, sym, ap, subst, ◌∙◌, inl, inr}
use Rattle.std.proofs.lemmas.Map.Views.{IfSome-lookup_from_All}
use Rattle.std.proofs.lemmas.Option.{slice_get_within, slice_get-get_or}
use Rattle.std.proofs.lemmas.List.{length_push}
use Rattle.pli_base.specs.Name.{Name}
use Rattle.pli_base.specs.declared.token.Token.{Token}
use Rattle.pli_members.specs.answers.Kept.{IsKept, IsKeptMember}
use Rattle.pli_members.specs.Members.{Store, Member, lines_of, member_of, is_named}
use Rattle.pli_base.specs.Words.{is_among}
use Rattle.pli_include.specs.Expansion.{Look, Progress, looking}
use Rattle.pli_include.specs.answers.Walking.{HoldsTexts}

-- a member has at most 9,999 lines
few_lines : (s : Store) (name : Name) (lines : List (List ℕ)) (m : Option Member) → IfSome m (IsKeptMember s.next) → option_map (λ m. m.lines) m ≡ Some lines → length lines ≤ 9999
few_lines s name lines None h e = let bad : ⊥ = cc in absurd bad
few_lines s name lines (Some m) h e = let same : m.lines ≡ lines = cc in subst (λ l. length l ≤ 9999) same h.few

pub lines_are_few : (s : Store) (name : Name) (lines : List (List ℕ)) → IsKept s → Some lines ≡ lines_of s name → length lines ≤ 9999
lines_are_few s name lines kept e = few_lines s name lines (member_of s name) (IfSome-lookup_from_All (IsKeptMember s.next) (is_named name) s.entries kept.members) (sym e)

-- what stands at a place stays, where more come after them
pub stays : {A : Type 0} (xs ys : List A) (i : ℕ) (x : A) → slice_get xs i ≡ Some x → slice_get (xs ++ ys) i ≡ Some x
stays [] ys i x e = let bad : ⊥ = cc in absurd bad
stays (a ∷ xs) ys zero x e = e
stays (a ∷ xs) ys (suc i) x e = stays xs ys i x e

-- what stands at a place stood there, or came last
came : {A : Type 0} (xs : List A) (y : A) (i : ℕ) (x : A) → slice_get (xs ++ y ∷ []) i ≡ Some x → (slice_get xs i ≡ Some x) ⊎ ((i ≡ length xs) × (y ≡ x))
came [] y zero x e = let same : y ≡ x = cc in inr (refl, same)
came [] y (suc i) x e = let bad : ⊥ = cc in absurd bad
came (a ∷ xs) y zero x e = inl e
came (a ∷ xs) y (suc i) x e = elim (came xs y i x e) [ inl h ↦ inl h | inr h ↦ inr (omega (arith, h.0), h.1) ]

-- the text of a name that comes last
pub holds_more : (look : Look) (looked : List Name) (texts : List (List Token)) (name : Name) (tokens : List Token) → HoldsTexts look looked texts → look name ≡ Some (Ok tokens)
    → HoldsTexts look (looked ++ name ∷ []) (texts ++ tokens ∷ [])
holds_more look looked texts name tokens holds e = record {
  count = length_push texts tokens ∙ ap (λ n. n + 1) holds.count ∙ sym (length_push looked name);
  held = λ i n ts p q. both i n ts (came looked name i n p) (came texts tokens i ts q);
}
  where
    both : (i : ℕ) (n : Name) (ts : List Token) → (slice_get looked i ≡ Some n) ⊎ ((i ≡ length looked) × (name ≡ n)) → (slice_get texts i ≡ Some ts) ⊎ ((i ≡ length texts) × (tokens ≡ ts))
        → look n ≡ Some (Ok ts)
    both i n ts (inl p) (inl q) = holds.held i n ts p q
    both i n ts (inl p) (inr q) = absurd (omega (arith, slice_get_within looked i n p, q.0, holds.count))
    both i n ts (inr p) (inl q) = absurd (omega (arith, slice_get_within texts i ts q, p.0, holds.count))
    both i n ts (inr p) (inr q) = subst (λ n. look n ≡ Some (Ok ts)) p.1 (e ∙ ap (λ ts. Some (Ok ts)) q.1)

-- the text at a name's place is the name's
pub held_at : (look : Look) (looked : List Name) (texts : List (List Token)) (slot : ℕ) (name : Name) (d : List Token) → HoldsTexts look looked texts → slice_get looked slot ≡ Some name
    → look name ≡ Some (Ok (get_or texts slot d))
held_at look looked texts slot name d holds at =
    holds.held slot name (get_or texts slot d) at (slice_get-get_or texts slot d (omega (arith, slice_get_within looked slot name at, holds.count)))

-- a name that was not looked up before comes last
pub comes_last : (name : Name) (s : Progress) → is_among name s.looked ≡ false → (looking name s).looked ≡ s.looked ++ name ∷ []
comes_last name s e = ap (λ b. if b then s.looked else s.looked ++ name ∷ []) e

-- and one that was stays
pub comes_again : (name : Name) (s : Progress) → is_among name s.looked ≡ true → (looking name s).looked ≡ s.looked
comes_again name s e = ap (λ b. if b then s.looked else s.looked ++ name ∷ []) e

-- names that were looked up keep their places
pub looked_stays : (name : Name) (s : Progress) (i : ℕ) (n : Name) → slice_get s.looked i ≡ Some n → slice_get (looking name s).looked i ≡ Some n
looked_stays name s i n e = by (is_among name s.looked)
  where
    by : (b : Bool) → slice_get (if b then s.looked else s.looked ++ name ∷ []) i ≡ Some n
    by true = e
    by false = stays s.looked (name ∷ []) i n e
