-- Bytes that are taken from a chain.
use Rattle.std.proofs.Common.{◌≡◌, ℕ, ◌+◌, ◌-◌, ◌*◌, ◌%◌, ◌≤◌, ◌⊎◌, inl, inr, Option, Some, None, List, [], ◌∷◌, ◌++◌, length, get_or, arith, ap, sym, ◌∙◌, refl, subst}
use Rattle.std.specs.Option.{IfSome}
use Rattle.std.proofs.lemmas.Option.{none-some, same_Some}
use Rattle.std.proofs.lemmas.Bool.{cond-true, cond-false, eq-eqb, ne_eqb}
use Rattle.std.proofs.lemmas.List.{append-nil}
use Rattle.pli_region.specs.Words.{word_at}
use Rattle.pli_holes.specs.declared.hole.Hole.{Hole}
use Rattle.pli_holes.specs.Holes.{Leads, Spells, LieWithin, IsOutside, ChangesWithin, shortened, taken}
use Rattle.pli_holes.specs.Steps.{last_from, last_of, Stops, HasStopped, ChangesOnly, IsPut, IsLed, IsShortened}
use Rattle.pli_holes.proofs.WordLemmas.{changes_none, changes_wider}
use Rattle.pli_holes.proofs.LeadLemmas.{lie_order, lie_lower, lie_join}
use Rattle.pli_holes.proofs.ListLemmas.{last_below, last_some, IsFound, found, IsNotFound, not_found, lie_shortened}
use Rattle.pli_holes.proofs.WalkLemmas.{IsAt, is_at, lie_count}
use Rattle.pli_holes.proofs.StepLemmas.{leads_above, led, led_kept, led_count, outside_front, outside_back, spelled_as}

-- ---- a hole that is shortened

-- nothing of it is left
pub shortened_whole : (bytes : List ℕ) (start room next : ℕ) → room ≡ word_at bytes start → next ≡ word_at bytes (start + 4) → IsShortened bytes bytes start room next
shortened_whole bytes start room next all onward = record { leads = leads; changes = λ size is. changes_none bytes }
  where
    leads : (h : Hole) (hs : List Hole) → h.start ≡ start → Leads (word_at bytes) start (h ∷ hs) (length bytes) → LieWithin start (h ∷ hs) (length bytes) → Leads (word_at bytes) next (shortened room h hs) (length bytes)
    leads h hs here m l =
        let same : h.room ≡ room = sym m.1 ∙ ap (λ q. word_at bytes q) here ∙ sym all in
        let P : List Hole → Type 0 = λ xs. Leads (word_at bytes) next xs (length bytes) in
        let Q : ℕ → Type 0 = λ q. Leads (word_at bytes) q hs (length bytes) in
        subst P (sym (cond-true _ _ _ (eq-eqb h.room room same))) (subst Q (ap (λ q. word_at bytes (q + 4)) here ∙ sym onward) m.2)

-- a part of it is left
pub shortened_part : (old new : List ℕ) (start room left next : ℕ) → left + room ≡ word_at old start → 8 ≤ left → next ≡ word_at old (start + 4) → IsPut old new (record { start = start + room; room = left }) next → IsShortened old new start room (start + room)
shortened_part old new start room left next all some onward p = record { leads = leads; changes = λ size is. changes_wider p.changes (omega arith) (omega (arith, all, some, is)) }
  where
    leads : (h : Hole) (hs : List Hole) → h.start ≡ start → Leads (word_at old) start (h ∷ hs) (length old) → LieWithin start (h ∷ hs) (length old) → Leads (word_at new) (start + room) (shortened room h hs) (length new)
    leads h hs here m l =
        let whole : h.room ≡ left + room = sym m.1 ∙ ap (λ q. word_at old q) here ∙ sym all in
        let other : h.room ≡ room → ⊥ = λ e. omega (arith, e, whole, some) in
        let P : List Hole → Type 0 = λ xs. Leads (word_at new) (start + room) xs (length new) in
        let Q : ℕ → Type 0 = λ q. Leads (word_at new) q hs (length old) in
        let E : ℕ → Type 0 = λ n. Leads (word_at new) (word_at new (h.start + room + 4)) hs n in
        let size : word_at new (h.start + room) ≡ h.room - room = ap (λ q. word_at new (q + room)) here ∙ p.room ∙ omega (arith, whole) in
        let link : word_at old (h.start + 4) ≡ word_at new (h.start + room + 4) = ap (λ q. word_at old (q + 4)) here ∙ sym onward ∙ sym p.next ∙ ap (λ q. word_at new (q + room + 4)) (sym here) in
        let rest = leads_above p.changes (word_at old (h.start + 4)) hs (length old) (length old) (lie_lower (h.start + h.room) (start + room + 8) hs (length old) (omega (arith, here, whole, some)) l.3) m.2 in
        subst P (sym (cond-false _ _ _ (ne_eqb h.room room other))) (ap (λ q. q + room) (sym here), size, subst E (sym p.changes.count) (subst Q link rest))

-- ---- where a walk stops

-- a walk to the end
pub to_end : {word : ℕ → ℕ} {end first until room : ℕ} {holes : List Hole} {before : Option Hole} {at count : ℕ} → until ≡ end → HasStopped word end first until room holes before at count → HasStopped word end first end room holes before at count
to_end {word = word} {end = end} {first = first} {room = room} {holes = holes} {before = before} {at = at} {count = count} e s = subst (λ u. HasStopped word end first u room holes before at count) e s

-- the hole before, if there is one
pub if_some : (o : Option Hole) (P : Hole → Type 0) → ((h : Hole) → o ≡ Some h → P h) → IfSome o P
if_some None P f = tt
if_some (Some h) P f = f h refl

-- it has 8 bytes
last_within : (done : List Hole) (h : Hole) (at : ℕ) → LieWithin 0 done at → last_of done ≡ Some h → h.start + 8 ≤ at
last_within [] h at l e = absurd (none-some h e)
last_within (g ∷ gs) h at l e =
    let ends = last_below 0 g gs at l in
    let some = last_some 0 g gs at l in
    let P : Hole → Type 0 = λ x. x.start + 8 ≤ at in subst P (same_Some (last_from g gs) h e) (omega (arith, ends, some))

pub before_within : {word : ℕ → ℕ} {end first until room : ℕ} {holes : List Hole} {before : Option Hole} {at count : ℕ} → HasStopped word end first until room holes before at count → (h : Hole) → before ≡ Some h → h.start + 8 ≤ at
before_within {at = at} s h e = last_within s.walk.done h at s.walk.lie_done (sym s.walk.last ∙ e)

-- ---- no hole has as many

pub taken_none : (old : List ℕ) (first room : ℕ) (holes : List Hole) (before : Option Hole) (at count : ℕ) → HasStopped (word_at old) (length old) first (length old) room holes before at count → at ≡ length old → IsNotFound room holes × (count ≡ length holes)
taken_none old first room holes before at count s all =
    let P : List Hole → Type 0 = λ xs. IsNotFound room xs in
    let e : holes ≡ s.walk.done = s.walk.split ∙ ap (λ xs. s.walk.done ++ xs) (none s.walk.rest s.walk.onward s.walk.lie_rest) ∙ append-nil s.walk.done in
    (subst P (sym e) (not_found (length old) room s.walk.done s.walk.passed), s.walk.counted ∙ ap length (sym e))
  where
    none : (hs : List Hole) → Leads (word_at old) at hs (length old) → LieWithin at hs (length old) → hs ≡ []
    none [] m l = refl
    none (h ∷ hs) m l = let some = l.2 in let rest = lie_order (h.start + h.room) hs (length old) l.3 in let here = m.0 in absurd (omega (arith, some, rest, here, all))

-- ---- the first that has

-- what is known of the hole from which bytes are taken
pub record IsChosen (old : List ℕ) (room : ℕ) (holes done : List Hole) (at count : ℕ) : Type 0 where
  pub hole : Hole
  pub others : List Hole
  pub split : holes ≡ done ++ hole ∷ others
  pub start : at ≡ hole.start
  pub size : word_at old at ≡ hole.room
  pub leads : Leads (word_at old) at (hole ∷ others) (length old)
  pub lie : LieWithin at (hole ∷ others) (length old)
  pub fits : room ≤ hole.room
  pub within : at + word_at old at ≤ length old
  pub counted : 8 * count ≤ at
  pub found : IsFound room holes hole (done ++ shortened room hole others) (count + 1)

pub chosen : (old : List ℕ) (first room : ℕ) (holes : List Hole) (before : Option Hole) (at count : ℕ) (s : HasStopped (word_at old) (length old) first (length old) room holes before at count) → (at ≡ length old → ⊥) → IsChosen old room holes s.walk.done at count
chosen old first room holes before at count s other = record {
  hole = here.hole;
  others = here.others;
  split = split;
  start = here.start;
  size = here.room;
  leads = subst (λ xs. Leads (word_at old) at xs (length old)) here.split s.walk.onward;
  lie = here.lie;
  fits = fits;
  within = here.within;
  counted = let n = lie_count 0 s.walk.done at s.walk.lie_done in omega (arith, n, s.walk.counted);
  found = let P : List Hole → ℕ → Type 0 = λ xs n. IsFound room xs here.hole (s.walk.done ++ shortened room here.hole here.others) n in
      subst (λ n. P holes n) (ap (λ n. n + 1) (sym s.walk.counted)) (subst (λ xs. P xs (length s.walk.done + 1)) (sym split) (found (length old) room s.walk.done here.hole here.others s.walk.passed fits));
}
  where
    here : IsAt (word_at old) (length old) at s.walk.rest
    here = let ends = lie_order at s.walk.rest (length old) s.walk.lie_rest in is_at (word_at old) (length old) at s.walk.rest s.walk.onward s.walk.lie_rest (omega (arith, ends, other))

    split : holes ≡ s.walk.done ++ here.hole ∷ here.others
    split = s.walk.split ∙ ap (λ xs. s.walk.done ++ xs) here.split

    stops : (length old ≤ here.hole.start) ⊎ (room ≤ here.hole.room)
    stops = subst (λ xs. Stops (length old) room xs) here.split s.stops

    fits : room ≤ here.hole.room
    fits = elim stops [ inl past ↦ absurd (omega (arith, past, here.start, here.some, here.within)) | inr enough ↦ enough ]

-- the chain then spells what is left, and only bytes of holes have changed
pub taken_leaves : (old mid new : List ℕ) (first first' room to : ℕ) (holes : List Hole) (before : Option Hole) (at count : ℕ) (s : HasStopped (word_at old) (length old) first (length old) room holes before at count) → (at ≡ length old → ⊥) → room % 8 ≡ 0 → IsShortened old mid at room to → IsLed before to mid first new first' → Spells new first' (taken room holes) × ChangesWithin holes old new
taken_leaves old mid new first first' room to holes before at count s other even short is = (spells, within)
  where
    g : IsChosen old room holes s.walk.done at count
    g = chosen old first room holes before at count s other

    tail : List Hole
    tail = shortened room g.hole g.others

    c : ChangesOnly at (at + word_at old at) old mid
    c = short.changes (word_at old at) refl

    is' : IsLed (last_of s.walk.done) to mid first new first'
    is' = subst (λ o. IsLed o to mid first new first') s.walk.last is

    ends : length new ≡ length old
    ends = led_count mid new first first' to s.walk.done is' ∙ c.count

    lie : LieWithin at tail (length old)
    lie = lie_shortened at room g.hole g.others (length old) g.lie even g.fits

    spells : Spells new first' (taken room holes)
    spells =
        let m = subst (λ n. Leads (word_at mid) to tail n) c.count (short.leads g.hole g.others (sym g.start) g.leads g.lie) in
        spelled_as new first' (s.walk.done ++ tail) (taken room holes) (length old) g.found.left ends
        (led old mid new first first' at to at (at + word_at old at) s.walk.done tail (length old) s.walk.path s.walk.lie_done c lie m is') (lie_join 0 s.walk.done at tail (length old) s.walk.lie_done lie)

    within : ChangesWithin holes old new
    within = record { count = ends; kept = kept }
      where
        kept : (place : ℕ) → IsOutside place holes → get_or new place 0 ≡ get_or old place 0
        kept place o =
            let apart = subst (λ xs. IsOutside place xs) g.split o in
            let beside = (outside_back place s.walk.done (g.hole ∷ g.others) apart).0 in
            led_kept mid new first first' to 0 at s.walk.done place s.walk.lie_done is' (outside_front place s.walk.done (g.hole ∷ g.others) apart)
            ∙ c.kept place (elim beside [ inl below ↦ inl (omega (arith, below, g.start)) | inr above ↦ inr (omega (arith, above, g.start, g.size)) ])
