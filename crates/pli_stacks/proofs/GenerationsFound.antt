-- Which generations are found after a new one, and where one has ended.
use Rattle.std.proofs.Common.{◌≡◌, ◌≢◌, ℕ, Bool, true, false, nat_eq, Some, None, List, [], ◌∷◌, ◌++◌, if◌then◌else◌, refl, sym, ap, ◌∙◌, eqb-true, ne_eqb}
use Rattle.std.proofs.lemmas.Option.{none-some}
use Rattle.pli_world.specs.Storage.{Generation, generation_in, without}

pub added_found : (gs : List Generation) (x : Generation) (number : ℕ) (g : Generation) → generation_in gs number ≡ Some g
    → generation_in (gs ++ x ∷ []) number ≡ Some g
added_found [] x number g h = absurd (none-some g h)
added_found (y ∷ gs) x number g h = by (nat_eq y.number number) h (added_found gs x number g)
  where
    by : (b : Bool) → (if b then Some y else generation_in gs number) ≡ Some g
        → (generation_in gs number ≡ Some g → generation_in (gs ++ x ∷ []) number ≡ Some g)
        → (if b then Some y else generation_in (gs ++ x ∷ []) number) ≡ Some g
    by true e rest = e
    by false e rest = rest e

pub added_none : (gs : List Generation) (x : Generation) (number : ℕ) → generation_in gs number ≡ None → x.number ≢ number
    → generation_in (gs ++ x ∷ []) number ≡ None
added_none [] x number h other = rw (ne_eqb x.number number other) refl
added_none (y ∷ gs) x number h other = by (nat_eq y.number number) h (λ e. added_none gs x number e other)
  where
    by : (b : Bool) → (if b then Some y else generation_in gs number) ≡ None
        → (generation_in gs number ≡ None → generation_in (gs ++ x ∷ []) number ≡ None)
        → (if b then Some y else generation_in (gs ++ x ∷ []) number) ≡ None
    by true e rest = absurd (none-some y (sym e))
    by false e rest = rest e

pub ended_none : (gs : List Generation) (number : ℕ) → generation_in (without (number ∷ []) gs) number ≡ None
ended_none [] number = refl
ended_none (y ∷ gs) number = by (nat_eq y.number number) refl (ended_none gs number)
  where
    by : (b : Bool) → nat_eq y.number number ≡ b → generation_in (without (number ∷ []) gs) number ≡ None
        → generation_in (without (number ∷ []) (y ∷ gs)) number ≡ None
    by true e rest = rw e rest
    by false e rest = rw (e, e) rest

pub ended_other : (gs : List Generation) (number other : ℕ) → other ≢ number
    → generation_in (without (number ∷ []) gs) other ≡ generation_in gs other
ended_other [] number other apart = refl
ended_other (y ∷ gs) number other apart = by (nat_eq y.number number) refl (ended_other gs number other apart)
  where
    by : (b : Bool) → nat_eq y.number number ≡ b → generation_in (without (number ∷ []) gs) other ≡ generation_in gs other
        → generation_in (without (number ∷ []) (y ∷ gs)) other ≡ generation_in (y ∷ gs) other
    by true e rest =
        let no : nat_eq y.number other ≡ false = ne_eqb y.number other (λ same. apart (sym same ∙ eqb-true y.number number e)) in
        rw (e, no) rest
    by false e rest = rw e (ap (λ o. if nat_eq y.number other then Some y else o) rest)
