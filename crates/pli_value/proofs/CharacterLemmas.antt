-- Bits that become characters one after another, put after others.
use Rattle.std.proofs.Common.{◌≡◌, ℕ, ◌+◌, ◌-◌, nat_eq, List, [], ◌∷◌, ◌++◌, map, ap, sym, ◌∙◌, append_assoc, zero-add, Bool}
use Rattle.std.proofs.lemmas.List.{map-append}
use Rattle.std.specs.Int.{bit_at}
use Rattle.std.specs.List.{range_with_len}
use Rattle.std.proofs.lemmas.List.FromFn.{map-range_with_len_more}
use Rattle.pli_value.specs.Conversions.{bit_character}

-- the characters of so many of the first bits of a string of few
abbrev pub shown : (count number place : ℕ) → List ℕ
shown count number place = map bit_character (map (λ k. nat_eq (bit_at number (count - 1 - k)) 1) (range_with_len 0 place))

-- one more of them
pub shown_after : (count number place x : ℕ) (first old new : List ℕ) → old ≡ first ++ shown count number place → new ≡ old ++ x ∷ []
    → x ≡ bit_character (nat_eq (bit_at number (count - 1 - place)) 1) → new ≡ first ++ shown count number (place + 1)
shown_after count number place x first old new before after is =
    let bit : ℕ → Bool = λ k. nat_eq (bit_at number (count - 1 - k)) 1 in
    let more : shown count number (place + 1) ≡ shown count number place ++ bit_character (bit place) ∷ [] =
    ap (map bit_character) (map-range_with_len_more bit 0 place place (zero-add place)) ∙ map-append bit_character (map bit (range_with_len 0 place)) (bit place ∷ []) in
    after ∙ ap (λ l. l ++ x ∷ []) before ∙ append_assoc first (shown count number place) (x ∷ []) ∙ ap (λ y. first ++ (shown count number place ++ y ∷ [])) is
    ∙ ap (λ l. first ++ l) (sym more)
