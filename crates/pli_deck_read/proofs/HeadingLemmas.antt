-- What stands in front of a deck.
use Rattle.std.proofs.Common.{◌≡◌, ℕ, ◌≤◌, ◌<◌, nat_eq, Bool, true, false, ◌&&◌, cond, List, [], ◌∷◌, length, take, drop, Option, Some, None, refl, sym, ap, ◌∙◌, arith}
use Rattle.std.specs.Str.{bytes_eq}
use Rattle.pli_deck_write.specs.DeckFields.{after_prefix}

abbrev left_over : (same : Bool) → List ℕ → Option (List ℕ)
left_over same rest = cond same (Some rest) None

one_more : (here others : Bool) (o : Option (List ℕ)) (rest : List ℕ) → o ≡ left_over others rest → cond here o None ≡ left_over (here && others) rest
one_more true others o rest h = h
one_more false others o rest h = refl

after_test : (front bytes : List ℕ) → length front ≤ length bytes → after_prefix front bytes ≡ left_over (bytes_eq front (take (length front) bytes)) (drop (length front) bytes)
after_test [] bytes le = refl
after_test (x ∷ xs) [] le = absurd (omega (arith, le))
after_test (x ∷ xs) (b ∷ bytes) le =
    one_more (nat_eq x b) (bytes_eq xs (take (length xs) bytes)) (after_prefix xs bytes) (drop (length xs) bytes) (after_test xs bytes (omega (arith, le)))

pub too_few : (front bytes : List ℕ) → length bytes < length front → after_prefix front bytes ≡ None
too_few [] bytes lt = absurd (omega (arith, lt))
too_few (x ∷ xs) [] lt = refl
too_few (x ∷ xs) (b ∷ bytes) lt = either (nat_eq x b) (too_few xs bytes (omega (arith, lt)))
  where
    either : (here : Bool) → after_prefix xs bytes ≡ None → cond here (after_prefix xs bytes) None ≡ None
    either true h = h
    either false h = refl

pub after_front : (front bytes first rest : List ℕ) (same : Bool) → length front ≤ length bytes → first ≡ take (length front) bytes → rest ≡ drop (length front) bytes
    → same ≡ bytes_eq front first → after_prefix front bytes ≡ left_over same rest
after_front front bytes first rest same le is_first is_rest is_same =
    after_test front bytes le ∙ ap (λ s. left_over s (drop (length front) bytes)) (ap (bytes_eq front) (sym is_first) ∙ sym is_same)
    ∙ ap (left_over same) (sym is_rest)
