-- The first `*/` of a text, as a loop looks for it.
use Rattle.std.proofs.Common.{◌≡◌, ◌≢◌, ℕ, ◌+◌, ◌<◌, ◌≤◌, false, eqb, ◌&&◌, List, [], ◌∷◌, length, get_or, drop, Option, Some, None, refl, sym, ap, ◌∙◌, length-drop, arith, inl, inr}
use Rattle.std.specs.Option.{option_map}
use Rattle.std.proofs.lemmas.Bool.{cases_Bool}
use Rattle.std.proofs.lemmas.Bool.Decides.{nat_tests}
use Rattle.std.proofs.lemmas.List.{drop_more}
use Rattle.pli_lex.specs.Reading.{closing_width}

-- two characters at a place
pub two_more : (text : List ℕ) (i : ℕ) → i + 1 < length text → drop i text ≡ get_or text i 0 ∷ get_or text (i + 1) 0 ∷ drop (i + 1 + 1) text
two_more text i lt = drop_more text i 0 (omega arith) ∙ ap (λ (l : List ℕ). get_or text i 0 ∷ l) (drop_more text (i + 1) 0 lt)

shifted : (o : Option ℕ) (i : ℕ) → option_map (λ width. width + i) (option_map (λ width. width + 1) o) ≡ option_map (λ width. width + (i + 1)) o
shifted None i = refl
shifted (Some w) i = ap (λ (k : ℕ). Some k) (omega arith)

pub closes_here : (text : List ℕ) (i : ℕ) → i + 1 < length text → get_or text i 0 ≡ 42 → get_or text (i + 1) 0 ≡ 47 → closing_width text ≡ option_map (λ width. width + i) (closing_width (drop i text)) → closing_width text ≡ Some (i + 2)
unfolding closing_width
closes_here text i lt star slash so_far = so_far ∙ rw (two_more text i lt, star, slash) (ap (λ (k : ℕ). Some k) (omega arith))

pub closes_after : (text : List ℕ) (i : ℕ) → i + 1 < length text → (eqb (get_or text i 0) 42 && eqb (get_or text (i + 1) 0) 47) ≡ false
    → closing_width text ≡ option_map (λ width. width + i) (closing_width (drop i text)) → closing_width text ≡ option_map (λ width. width + (i + 1)) (closing_width (drop (i + 1) text))
unfolding closing_width
closes_after text i lt not_here so_far =
    let after : drop (i + 1) text ≡ get_or text (i + 1) 0 ∷ drop (i + 1 + 1) text = drop_more text (i + 1) 0 lt in
    so_far ∙ ap (λ (l : List ℕ). option_map (λ width. width + i) (closing_width l)) (two_more text i lt)
    ∙ rw not_here (shifted (closing_width (get_or text (i + 1) 0 ∷ drop (i + 1 + 1) text)) i)
    ∙ ap (λ (l : List ℕ). option_map (λ width. width + (i + 1)) (closing_width l)) (sym after)

short : (text : List ℕ) → length text ≤ 1 → closing_width text ≡ None
unfolding closing_width
short [] le = refl
short (c ∷ []) le = elim (cases_Bool (eqb c 42)) [ inl is ↦ rw is refl | inr is ↦ rw is refl ]
short (c ∷ d ∷ cs) le = absurd (omega arith)

pub closes_nowhere : (text : List ℕ) (i : ℕ) → length text ≤ i + 1 → closing_width text ≡ option_map (λ width. width + i) (closing_width (drop i text)) → closing_width text ≡ None
closes_nowhere text i le so_far = so_far ∙ rw (short (drop i text) (omega (arith, length-drop i text))) refl

pub not_first : (c d : ℕ) → c ≢ 42 → (eqb c 42 && eqb d 47) ≡ false
not_first c d other = grind (arith, nat_tests)

pub not_both : (c d : ℕ) → d ≢ 47 → (eqb c 42 && eqb d 47) ≡ false
not_both c d other = grind (arith, nat_tests)
