-- The first fault of tokens stands at one place.
use Rattle.std.specs.Prelude.{◌≡◌, ℕ, ◌<◌, ◌≤◌, nat_lt, Bool, true, false, [], ◌∷◌, ◌++◌, length}
use Rattle.std.proofs.Common.{refl, ap, ◌∙◌, sym, subst, arith, ⊎_elim, append_assoc}
use Rattle.std.proofs.lemmas.Bool.{ltb-true, ltb-false}
use Rattle.pli_base.specs.Words.{Tokens}
use Rattle.pli_base.specs.declared.token.Fault.{Fault}
use Rattle.pli_base.specs.declared.token.TokenText.{TokenText}
use Rattle.pli_parse_fault.specs.FirstFaults.{CanBeCompleted, CannotGoOn, HasEnded, IsFirstFault}

-- tokens that can be completed have fronts that can
shorter : {A : Type 0} (Spells : ℕ → Tokens → A → Type 0) (p : ℕ) (front us : Tokens)
    → CanBeCompleted Spells p (front ++ us) → CanBeCompleted Spells p front
shorter Spells p front us (more, value, spelled) =
    (us ++ more, value, subst (λ ts. Spells p ts value) (append_assoc front us more) spelled)

same_head : {t u : TokenText} {ts us : Tokens} → ◌≡◌ {A = Tokens} (t ∷ ts) (u ∷ us) → t ≡ u
same_head h = cc

same_tail : {t u : TokenText} {ts us : Tokens} → ◌≡◌ {A = Tokens} (t ∷ ts) (u ∷ us) → ts ≡ us
same_tail h = cc

-- a longer front has the token after the shorter one
beyond : (one two : Tokens) (t : TokenText) (rest more : Tokens) → one ++ t ∷ rest ≡ two ++ more
    → length one < length two → (us : Tokens) × (two ≡ (one ++ t ∷ []) ++ us)
beyond [] [] t rest more h small = absurd (omega (arith, small))
beyond [] (u ∷ two) t rest more h small = (two, ap (λ v. v ∷ two) (sym (same_head h)))
beyond (u ∷ one) [] t rest more h small = absurd (omega (arith, small))
beyond (u ∷ one) (v ∷ two) t rest more h small =
    let b = beyond one two t rest more (same_tail h) (omega (arith, small)) in
    (b.0, ap (λ w. w ∷ two) (sym (same_head h)) ∙ ap (λ us. u ∷ us) b.1)

-- a token with which tokens cannot be completed is not passed over
not_beyond : {A : Type 0} (Spells : ℕ → Tokens → A → Type 0) (p : ℕ) (one two : Tokens) (t : TokenText)
    (rest more : Tokens) → one ++ t ∷ rest ≡ two ++ more → (CanBeCompleted Spells p (one ++ t ∷ []) → ⊥)
    → CanBeCompleted Spells p two → length two ≤ length one
not_beyond Spells p one two t rest more h never completed = by (nat_lt (length one) (length two)) refl
  where
    by : (b : Bool) → nat_lt (length one) (length two) ≡ b → length two ≤ length one
    by false e = ltb-false (length one) (length two) e
    by true e =
        let b = beyond one two t rest more h (ltb-true (length one) (length two) e) in
        absurd (never (shorter Spells p (one ++ t ∷ []) b.0 (subst (CanBeCompleted Spells p) b.1 completed)))

both_stop : {A : Type 0} (Spells : ℕ → Tokens → A → Type 0) (p : ℕ) (ts : Tokens) (f g : Fault)
    → CannotGoOn Spells p ts f → CannotGoOn Spells p ts g → f.at ≡ g.at
both_stop Spells p ts f g (one, t, rest, shape, at, completed, never) (two, u, more, shape₂, at₂, completed₂, never₂) =
    let less = not_beyond Spells p one two t rest (u ∷ more) (sym shape ∙ shape₂) never completed₂ in
    let more = not_beyond Spells p two one u more (t ∷ rest) (sym shape₂ ∙ shape) never₂ completed in
    omega (arith, at, at₂, less, more)

-- where all can be completed nothing stops
not_ended : {A : Type 0} (Spells : ℕ → Tokens → A → Type 0) (p : ℕ) (ts : Tokens) (f g : Fault)
    → CannotGoOn Spells p ts f → HasEnded Spells p ts g → ⊥
not_ended Spells p ts f g (one, t, rest, shape, at, completed, never) (code, at₂, completed₂) =
    let whole : ts ≡ (one ++ t ∷ []) ++ rest = shape ∙ sym (append_assoc one (t ∷ []) rest) in
    never (shorter Spells p (one ++ t ∷ []) rest (subst (CanBeCompleted Spells p) whole completed₂))

pub one_place : {A : Type 0} (Spells : ℕ → Tokens → A → Type 0) (p : ℕ) (ts : Tokens) (f g : Fault)
    → IsFirstFault Spells p ts f → IsFirstFault Spells p ts g → f.at ≡ g.at
one_place Spells p ts f g first second =
    ⊎_elim
    (λ stops. ⊎_elim (λ also. both_stop Spells p ts f g stops also)
    (λ ends. absurd (not_ended Spells p ts f g stops ends)) second)
    (λ ends. ⊎_elim (λ stops. absurd (not_ended Spells p ts g f stops ends))
    (λ also. ends.1 ∙ sym also.1) second) first
