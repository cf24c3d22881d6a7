-- Texts are the same where the test of them says so.
use Rattle.std.proofs.Common.{◌≡◌, Bool, true, false, ◌&&◌, List, [], ◌∷◌, length, drop, get_or, refl, sym, ap, ◌∙◌, ℕ, ◌+◌, ◌<◌, eq-eqb, nat_eq}
use Rattle.std.proofs.lemmas.List.{drop_more}
use mathlib.Core.Bool.{beq}
use Rattle.std.specs.Cmp.{first_so, second_so}
use Rattle.std.specs.Cmp.Lexicographic.{pointwise, same_text as same_bytes, nat_list_eq_equiv}
use Rattle.std.proofs.lemmas.Bool.{eqb-true}
use denote.Enum.Bare.{same_true, true_same}
use Rattle.pli_base.specs.Words.{Tokens}
use Rattle.pli_base.specs.contracts.token.Sign.{the_type}
use Rattle.pli_base.specs.declared.token.TokenText.{TokenText}
use Rattle.pli_base.specs.declared.token.TokenText.TheVariants.{Word, Decimal, Binary, Characters, Bits, Sign}
use Rattle.pli_ledger.specs.SameTexts.{same_text, same_texts}

same_bit : (a b : Bool) → beq a b ≡ true → a ≡ b
same_bit true true h = refl
same_bit false false h = refl
same_bit true false h = cc
same_bit false true h = cc

bit_itself : (a : Bool) → beq a a ≡ true
bit_itself true = refl
bit_itself false = refl

module _ {X : Type 0} (same : X → X → Bool) where
  all_same : ((a b : X) → same a b ≡ true → a ≡ b) → (xs ys : List X) → pointwise same xs ys ≡ true → xs ≡ ys
  all_same one [] [] h = refl
  all_same one [] (y ∷ ys) h = cc
  all_same one (x ∷ xs) [] h = cc
  all_same one (x ∷ xs) (y ∷ ys) h =
      let first = one x y (first_so (same x y) (pointwise same xs ys) h) in
      let others = all_same one xs ys (second_so (same x y) (pointwise same xs ys) h) in
      λ i. first i ∷ others i

  all_themselves : ((a : X) → same a a ≡ true) → (xs : List X) → pointwise same xs xs ≡ true
  all_themselves one [] = refl
  all_themselves one (x ∷ xs) = let first = one x in let others = all_themselves one xs in λ i. first i && others i

same_number : (a b c d : ℕ) → nat_eq a b && nat_eq c d ≡ true → (a ≡ b) × (c ≡ d)
same_number a b c d h = (eqb-true a b (first_so (nat_eq a b) (nat_eq c d) h), eqb-true c d (second_so (nat_eq a b) (nat_eq c d) h))

number_itself : (a c : ℕ) → nat_eq a a && nat_eq c c ≡ true
number_itself a c = let first = eq-eqb a a refl in let second = eq-eqb c c refl in λ i. first i && second i

text_is : (a b : TokenText) → same_text a b ≡ true → a ≡ b
text_is (Word a) (Word b) h = ap Word (same_bytes a b (sym h))
text_is (Decimal a c) (Decimal b d) h = let e = same_number a b c d h in λ i. Decimal (e.0 i) (e.1 i)
text_is (Binary a c) (Binary b d) h = let e = same_number a b c d h in λ i. Binary (e.0 i) (e.1 i)
text_is (Characters a) (Characters b) h = ap Characters (same_bytes a b (sym h))
text_is (Bits a) (Bits b) h = ap Bits (all_same beq same_bit a b h)
text_is (Sign a) (Sign b) h = ap Sign (same_true the_type tt a b h)
text_is a b h = cc

text_itself : (a : TokenText) → same_text a a ≡ true
text_itself (Word a) = nat_list_eq_equiv.refl a
text_itself (Decimal a c) = number_itself a c
text_itself (Binary a c) = number_itself a c
text_itself (Characters a) = nat_list_eq_equiv.refl a
text_itself (Bits a) = all_themselves beq bit_itself a
text_itself (Sign a) = true_same the_type a a refl

-- what the test finds the same is the same
pub texts_are : (a b : Tokens) → same_texts a b ≡ true → a ≡ b
texts_are = all_same same_text text_is

-- each list of texts is the same as itself
pub texts_themselves : (a : Tokens) → same_texts a a ≡ true
texts_themselves = all_themselves same_text text_itself

-- one text more is compared
pub texts_more : (one other : Tokens) (i : ℕ) (a b : TokenText) → i < length one → i < length other → a ≡ get_or one i a → b ≡ get_or other i b
    → same_texts (drop i one) (drop i other) ≡ same_text a b && same_texts (drop (i + 1) one) (drop (i + 1) other)
texts_more one other i a b low below at_one at_other =
    let first : drop i one ≡ a ∷ drop (i + 1) one = drop_more one i a low ∙ ap (λ (x : TokenText). x ∷ drop (i + 1) one) (sym at_one) in
    let second : drop i other ≡ b ∷ drop (i + 1) other = drop_more other i b below ∙ ap (λ (x : TokenText). x ∷ drop (i + 1) other) (sym at_other) in
    λ j. same_texts (first j) (second j)
