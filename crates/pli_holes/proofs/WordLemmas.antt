-- Words after bytes are written.
use Rattle.std.proofs.Common.{◌≡◌, ℕ, ◌+◌, ◌/◌, ◌%◌, ◌<◌, ◌≤◌, ◌^◌, ◌⊎◌, inl, inr, List, length, get_or, Some, subst, arith, rules, ap, sym, ◌∙◌, refl}
use Rattle.std.proofs.lemmas.List.{places}
use Rattle.pli_region.specs.Words.{word_at, bytes_of, overwritten}
use Rattle.pli_holes.specs.declared.hole.Hole.{Hole}
use Rattle.pli_holes.specs.Steps.{ChangesOnly, IsPut, IsLed}

-- a byte outside what is written
pub byte_other : (xs : List ℕ) (at : ℕ) (new : List ℕ) (q : ℕ) → at + length new ≤ length xs → (q < at) ⊎ (at + length new ≤ q) → get_or (overwritten xs at new) q 0 ≡ get_or xs q 0
byte_other xs at new q fits (inl low) = grind (arith, places)
byte_other xs at new q fits (inr high) = grind (arith, places)

-- a byte within it
pub byte_here : (xs : List ℕ) (at : ℕ) (new : List ℕ) (k q : ℕ) → at + length new ≤ length xs → k < length new → q ≡ at + k → get_or (overwritten xs at new) q 0 ≡ get_or new k 0
byte_here xs at new k q fits low is = grind (arith, places)

pub count_over : (xs : List ℕ) (at : ℕ) (new : List ℕ) → at + length new ≤ length xs → length (overwritten xs at new) ≡ length xs
count_over xs at new fits = search (rules, places)

-- what is written is all that changes
pub changes_over : (xs : List ℕ) (at : ℕ) (new : List ℕ) → at + length new ≤ length xs → ChangesOnly at (at + length new) xs (overwritten xs at new)
changes_over xs at new fits = record { count = count_over xs at new fits; kept = λ q apart. byte_other xs at new q fits apart }

-- a word outside what changes
pub word_kept : {low high : ℕ} {old new : List ℕ} → ChangesOnly low high old new → (q : ℕ) → (q + 4 ≤ low) ⊎ (high ≤ q) → word_at new q ≡ word_at old q
word_kept c q (inl below) =
    let a = c.kept q (inl (omega (arith, below))) in
    let b = c.kept (q + 1) (inl (omega (arith, below))) in
    let d = c.kept (q + 2) (inl (omega (arith, below))) in
    let e = c.kept (q + 3) (inl (omega (arith, below))) in
    omega (arith, a, b, d, e)
word_kept c q (inr above) =
    let a = c.kept q (inr above) in
    let b = c.kept (q + 1) (inr (omega (arith, above))) in
    let d = c.kept (q + 2) (inr (omega (arith, above))) in
    let e = c.kept (q + 3) (inr (omega (arith, above))) in
    omega (arith, a, b, d, e)

-- a word that is written
pub word_here : (xs : List ℕ) (at word : ℕ) → word < 2 ^ 32 → at + 4 ≤ length xs → word_at (overwritten xs at (bytes_of word)) at ≡ word
word_here xs at word small fits =
    let a : get_or (overwritten xs at (bytes_of word)) at 0 ≡ word % 256 = byte_here xs at (bytes_of word) 0 at fits (omega arith) (omega arith) in
    let b : get_or (overwritten xs at (bytes_of word)) (at + 1) 0 ≡ word / 256 % 256 = byte_here xs at (bytes_of word) 1 (at + 1) fits (omega arith) refl in
    let d : get_or (overwritten xs at (bytes_of word)) (at + 2) 0 ≡ word / 65536 % 256 = byte_here xs at (bytes_of word) 2 (at + 2) fits (omega arith) refl in
    let e : get_or (overwritten xs at (bytes_of word)) (at + 3) 0 ≡ word / 16777216 = byte_here xs at (bytes_of word) 3 (at + 3) fits (omega arith) refl in
    omega (arith, a, b, d, e)

-- a word beside one that is written
pub word_other : (xs : List ℕ) (at word q : ℕ) → at + 4 ≤ length xs → (q + 4 ≤ at) ⊎ (at + 4 ≤ q) → word_at (overwritten xs at (bytes_of word)) q ≡ word_at xs q
word_other xs at word q fits apart = word_kept (changes_over xs at (bytes_of word) fits) q apart

-- ---- changes, one after another

pub changes_none : {low high : ℕ} (xs : List ℕ) → ChangesOnly low high xs xs
changes_none xs = record { count = refl; kept = λ q apart. refl }

pub changes_wider : {low high low' high' : ℕ} {old new : List ℕ} → ChangesOnly low high old new → low' ≤ low → high ≤ high' → ChangesOnly low' high' old new
changes_wider {low' = low'} {high' = high'} {old = old} {new = new} c below above = record { count = c.count; kept = wider }
  where
    wider : (q : ℕ) → (q < low') ⊎ (high' ≤ q) → get_or new q 0 ≡ get_or old q 0
    wider q (inl l) = c.kept q (inl (omega (arith, l, below)))
    wider q (inr h) = c.kept q (inr (omega (arith, h, above)))

pub changes_then : {low high : ℕ} {old mid new : List ℕ} → ChangesOnly low high old mid → ChangesOnly low high mid new → ChangesOnly low high old new
changes_then c d = record { count = d.count ∙ c.count; kept = λ q apart. d.kept q apart ∙ c.kept q apart }

-- ---- words of holes

-- two words that are written one after another
pub put_is : (old mid new : List ℕ) (h : Hole) (next : ℕ) → h.start + 8 ≤ length old → h.room < 2 ^ 32 → next < 2 ^ 32 → mid ≡ overwritten old h.start (bytes_of h.room) → new ≡ overwritten mid (h.start + 4) (bytes_of next) → IsPut old new h next
put_is old mid new h next within small fine first second =
    record { room = room; next = onward; changes = changes_then (changes_wider c (omega arith) (omega arith)) (changes_wider d (omega arith) (omega arith)) }
  where
    c : ChangesOnly h.start (h.start + 4) old mid
    c = let P : List ℕ → Type 0 = λ xs. ChangesOnly h.start (h.start + 4) old xs in subst P (sym first) (changes_over old h.start (bytes_of h.room) (omega (arith, within)))

    count : h.start + 4 + 4 ≤ length mid
    count = omega (arith, within, c.count)

    d : ChangesOnly (h.start + 4) (h.start + 4 + 4) mid new
    d = let P : List ℕ → Type 0 = λ xs. ChangesOnly (h.start + 4) (h.start + 4 + 4) mid xs in subst P (sym second) (changes_over mid (h.start + 4) (bytes_of next) count)

    room : word_at new h.start ≡ h.room
    room = word_kept d h.start (inl (omega arith)) ∙ ap (λ xs. word_at xs h.start) first ∙ word_here old h.start h.room small (omega (arith, within))

    onward : word_at new (h.start + 4) ≡ next
    onward = ap (λ xs. word_at xs (h.start + 4)) second ∙ word_here mid (h.start + 4) next fine count

-- the second word of a hole that is written
pub led_is : (old new : List ℕ) (h : Hole) (to first : ℕ) → h.start + 8 ≤ length old → to < 2 ^ 32 → new ≡ overwritten old (h.start + 4) (bytes_of to) → IsLed (Some h) to old first new first
led_is old new h to first within small is =
    (ap (λ xs. word_at xs (h.start + 4)) is ∙ word_here old (h.start + 4) to small (omega (arith, within)), changes_wider c (omega arith) (omega arith), refl)
  where
    c : ChangesOnly (h.start + 4) (h.start + 4 + 4) old new
    c = let P : List ℕ → Type 0 = λ xs. ChangesOnly (h.start + 4) (h.start + 4 + 4) old xs in subst P (sym is) (changes_over old (h.start + 4) (bytes_of to) (omega (arith, within)))
