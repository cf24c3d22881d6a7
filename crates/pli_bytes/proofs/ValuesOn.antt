-- A value put where a scalar begins on a byte: that value of the list changes alone, and each scalar may hold its own.
use Rattle.std.proofs.Common.{◌≡◌, ℕ, suc, ◌+◌, ◌≤◌, Bool, true, false, Some, None, List, [], ◌∷◌, length, if◌then◌else◌, refl, ap, sym, ◌∙◌, arith}
use Rattle.std.proofs.lemmas.Bool.{and_parts, and_from}
use Rattle.std.proofs.lemmas.Option.{none-some, same_Some}
use Rattle.pli_map.specs.Description.{Description}
use Rattle.pli_map.specs.Parts.{PlacedPart}
use Rattle.pli_map.specs.Sizes.{size_of}
use Rattle.pli_map.specs.Values.{holds, are_held}
use Rattle.pli_value.specs.Value.{Value}
use Rattle.pli_bytes.specs.Changes.{IsPut}
use Rattle.pli_bytes.specs.Contents.{begins_on, scalar_on, scalars_at, value_of, value_in, values_of, with_value_on}
use Rattle.pli_bytes.proofs.Kept.{values_at, kept_after}
use Rattle.pli_bytes.proofs.PutBytes.{same_front}
use Rattle.pli_bytes.proofs.PutValues.{put_value, put_before, put_after, put_length}
use Rattle.pli_bytes.proofs.Rising.{Rise, rises}
use Rattle.pli_bytes.proofs.Scalars.{descriptions}
use Rattle.pli_bytes.proofs.ScalarsOn.{on_lies, on_within}

-- ---- lists of values

-- as many as before
pub length_on : (offset : ℕ) (v : Value) (ss : List PlacedPart) (vs : List Value) → length (with_value_on offset v ss vs) ≡ length vs
length_on offset v [] vs = refl
length_on offset v (s ∷ ss) [] = refl
length_on offset v (s ∷ ss) (w ∷ vs) = by (begins_on offset s) (length_on offset v ss vs)
  where
    by : (b : Bool) → length (with_value_on offset v ss vs) ≡ length vs
        → length (if b then (if holds s.description v then v else w) ∷ vs else w ∷ with_value_on offset v ss vs) ≡ suc (length vs)
    by true rest = refl
    by false rest = ap suc rest

-- each scalar may hold its own as before
pub held_on_byte : (offset : ℕ) (v : Value) (ss : List PlacedPart) (vs : List Value) → are_held (descriptions ss) vs ≡ true → are_held (descriptions ss) (with_value_on offset v ss vs) ≡ true
held_on_byte offset v [] vs h = h
held_on_byte offset v (s ∷ ss) [] h = h
held_on_byte offset v (s ∷ ss) (w ∷ vs) h =
    let parts = and_parts (holds s.description w) (are_held (descriptions ss) vs) h in
    by (begins_on offset s) (holds s.description v) refl parts.0 parts.1 (held_on_byte offset v ss vs parts.1)
  where
    by : (b c : Bool) → holds s.description v ≡ c → holds s.description w ≡ true → are_held (descriptions ss) vs ≡ true → are_held (descriptions ss) (with_value_on offset v ss vs) ≡ true
        → are_held (s.description ∷ descriptions ss) (if b then (if c then v else w) ∷ vs else w ∷ with_value_on offset v ss vs) ≡ true
    by true true e one all rest = and_from (holds s.description v) (are_held (descriptions ss) vs) e all
    by true false e one all rest = and_from (holds s.description w) (are_held (descriptions ss) vs) one all
    by false c e one all rest = and_from (holds s.description w) (are_held (descriptions ss) (with_value_on offset v ss vs)) one rest

-- none begins there
pub none_on : (offset : ℕ) (v : Value) (ss : List PlacedPart) (bytes : List ℕ) → scalar_on offset ss ≡ None → values_at ss bytes ≡ with_value_on offset v ss (values_at ss bytes)
none_on offset v [] bytes none = refl
none_on offset v (s ∷ ss) bytes none = by (begins_on offset s) none (none_on offset v ss bytes)
  where
    by : (b : Bool) → (if b then Some s else scalar_on offset ss) ≡ None → (scalar_on offset ss ≡ None → values_at ss bytes ≡ with_value_on offset v ss (values_at ss bytes))
        → values_at (s ∷ ss) bytes
        ≡ (if b then (if holds s.description v then v else value_in bytes s) ∷ values_at ss bytes else value_in bytes s ∷ with_value_on offset v ss (values_at ss bytes))
    by true found rest = absurd (none-some s (sym found))
    by false found rest = ap (λ vs. value_in bytes s ∷ vs) (rest found)

-- the one that begins there may not hold it
pub unheld_on : (offset : ℕ) (v : Value) (ss : List PlacedPart) (s : PlacedPart) (bytes : List ℕ) → scalar_on offset ss ≡ Some s → holds s.description v ≡ false
    → values_at ss bytes ≡ with_value_on offset v ss (values_at ss bytes)
unheld_on offset v [] s bytes found unheld = absurd (none-some s found)
unheld_on offset v (t ∷ ss) s bytes found unheld = by (begins_on offset t) found (λ rest. unheld_on offset v ss s bytes rest unheld)
  where
    by : (b : Bool) → (if b then Some t else scalar_on offset ss) ≡ Some s → (scalar_on offset ss ≡ Some s → values_at ss bytes ≡ with_value_on offset v ss (values_at ss bytes))
        → values_at (t ∷ ss) bytes
        ≡ (if b then (if holds t.description v then v else value_in bytes t) ∷ values_at ss bytes else value_in bytes t ∷ with_value_on offset v ss (values_at ss bytes))
    by true found rest =
        let same : holds t.description v ≡ false = ap (λ p. holds p.description v) (same_Some t s found) ∙ unheld in
        ap (λ b. (if b then v else value_in bytes t) ∷ values_at ss bytes) (sym same)
    by false found rest = ap (λ vs. value_in bytes t ∷ vs) (rest found)

-- ---- a value put

put_among : (offset : ℕ) (v : Value) (low : ℕ) (ss : List PlacedPart) (high : ℕ) (s : PlacedPart) (old new : List ℕ) → Rise low ss high → scalar_on offset ss ≡ Some s
    → holds s.description v ≡ true → s.offset + size_of s.description ≤ length old → IsPut s.description v s.offset old new
    → values_at ss new ≡ with_value_on offset v ss (values_at ss old)
put_among offset v low [] high s old new h found held inside put = absurd (none-some s found)
put_among offset v low (t ∷ ss) high s old new h found held inside put =
    by (begins_on offset t) found (λ rest. put_among offset v (t.offset + size_of t.description) ss high s old new h.1 rest held inside put)
  where
    by : (b : Bool) → (if b then Some t else scalar_on offset ss) ≡ Some s
        → (scalar_on offset ss ≡ Some s → values_at ss new ≡ with_value_on offset v ss (values_at ss old))
        → values_at (t ∷ ss) new
        ≡ (if b then (if holds t.description v then v else value_in old t) ∷ values_at ss old else value_in old t ∷ with_value_on offset v ss (values_at ss old))
    by true found others =
        let is = same_Some t s found in
        let same : holds t.description v ≡ true = ap (λ p. holds p.description v) is ∙ held in
        let place : t.offset + size_of t.description ≡ s.offset + size_of s.description = ap (λ p. p.offset + size_of p.description) is in
        let one : value_in new t ≡ v = ap (value_in new) is ∙ put_value s.description v s.offset old new inside put in
        let rest : values_at ss new ≡ values_at ss old =
        kept_after (s.offset + size_of s.description) (t.offset + size_of t.description) ss high new old (omega (arith, place)) h.1 (put_after s.description v s.offset old new inside put) in
        ap (λ w. w ∷ values_at ss new) one ∙ ap (λ vs. v ∷ vs) rest ∙ ap (λ b. (if b then v else value_in old t) ∷ values_at ss old) (sym same)
    by false found others =
        let lies = on_lies offset (t.offset + size_of t.description) ss high s h.1 found in
        let one : value_in new t ≡ value_in old t =
        ap (value_of t.description) (same_front t.offset (size_of t.description) s.offset new old lies.after (put_before s.description v s.offset old new inside put)) in
        ap (λ w. w ∷ values_at ss new) one ∙ ap (λ vs. value_in old t ∷ vs) (others found)

pub put_on_byte : (d : Description) (offset : ℕ) (s : PlacedPart) (v : Value) (old new : List ℕ) → scalar_on offset (scalars_at d) ≡ Some s → holds s.description v ≡ true
    → length old ≡ size_of d → IsPut s.description v s.offset old new
    → (values_of d new ≡ with_value_on offset v (scalars_at d) (values_of d old)) × (length new ≡ length old)
put_on_byte d offset s v old new found held size put =
    let inside : s.offset + size_of s.description ≤ length old = omega (arith, size, on_within d offset s found) in
    (put_among offset v 0 (scalars_at d) (size_of d) s old new (rises d) found held inside put, put_length s.description v s.offset old new inside put)
