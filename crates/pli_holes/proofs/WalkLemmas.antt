-- Walks along chains: where they begin, go on and stop.
use Rattle.std.proofs.Common.{◌≡◌, ℕ, ◌+◌, ◌*◌, ◌<◌, ◌≤◌, inl, inr, Option, Some, None, List, [], ◌∷◌, ◌++◌, length, arith, ap, sym, ◌∙◌, refl, subst, append_assoc}
use Rattle.std.proofs.lemmas.List.{length_push}
use Rattle.pli_region.specs.Words.{word_at}
use Rattle.pli_holes.specs.declared.hole.Hole.{Hole}
use Rattle.pli_holes.specs.Holes.{Leads, Spells, LieWithin}
use Rattle.pli_holes.specs.Steps.{ArePassed, Stops, HasPassed, HasStopped}
use Rattle.pli_holes.proofs.LeadLemmas.{lie_order, lie_join, leads_join, leads_low, hole_is}
use Rattle.pli_holes.proofs.ListLemmas.{last_of_more}

-- holes lie from where the chain leads to them
pub lie_from : (word : ℕ → ℕ) (from low : ℕ) (hs : List Hole) (to : ℕ) → LieWithin low hs to → Leads word from hs to → LieWithin from hs to
lie_from word from low [] to l m = omega (arith, m)
lie_from word from low (h ∷ hs) to l m = let is = m.0 in (omega (arith, is), l.1, l.2, l.3)

-- holes have 8 bytes each
pub lie_count : (low : ℕ) (hs : List Hole) (high : ℕ) → LieWithin low hs high → low + 8 * length hs ≤ high
lie_count low [] high l = omega (arith, l)
lie_count low (h ∷ hs) high l = let rest = lie_count (h.start + h.room) hs high l.3 in let above = l.0 in let some = l.2 in omega (arith, rest, above, some)

pub passed_none : (bytes : List ℕ) (first until room : ℕ) (holes : List Hole) → Spells bytes first holes → HasPassed (word_at bytes) (length bytes) first until room holes None first 0
passed_none bytes first until room holes s = record {
  done = [];
  rest = holes;
  split = refl;
  path = refl;
  onward = s.leads;
  lie_done = omega arith;
  lie_rest = lie_from (word_at bytes) first 0 holes (length bytes) s.lie s.leads;
  passed = tt;
  last = refl;
  counted = refl;
}

-- the hole that a walk has come to
pub record IsAt (word : ℕ → ℕ) (end at : ℕ) (rest : List Hole) : Type 0 where
  pub hole : Hole
  pub others : List Hole
  pub split : rest ≡ hole ∷ others
  pub start : at ≡ hole.start
  pub room : word at ≡ hole.room
  pub leads : Leads word (word (at + 4)) others end
  pub lie : LieWithin at (hole ∷ others) end
  pub onward : at + 8 ≤ word (at + 4)
  pub within : at + word at ≤ end
  pub some : 8 ≤ word at

pub is_at : (word : ℕ → ℕ) (end at : ℕ) (rest : List Hole) → Leads word at rest end → LieWithin at rest end → at < end → IsAt word end at rest
is_at word end at [] m l below = absurd (omega (arith, m, below))
is_at word end at (h ∷ hs) m l below =
    let start : at ≡ h.start = m.0 in
    let room : word at ≡ h.room = ap word start ∙ m.1 in
    let P : ℕ → Type 0 = λ q. Leads word (word (q + 4)) hs end in
    let leads = subst P (sym start) m.2 in
    let low = leads_low word (word (at + 4)) (h.start + h.room) hs end l.3 leads in
    let rest = lie_order (h.start + h.room) hs end l.3 in
    let some = l.2 in
    record { hole = h; others = hs; split = refl; start = start; room = room; leads = leads; lie = l; onward = omega (arith, low, some, start); within = omega (arith, rest, start, room); some = omega (arith, some, room) }

-- the walk has come to a hole
pub record IsReached (word : ℕ → ℕ) (end at count : ℕ) : Type 0 where
  pub within : at + 8 ≤ end
  pub onward : at + 8 ≤ word (at + 4)
  pub counted : 8 * count ≤ at

pub is_reached : {word : ℕ → ℕ} {end first until room : ℕ} {holes : List Hole} {before : Option Hole} {at count : ℕ} → HasPassed word end first until room holes before at count → at < until → until ≤ end → IsReached word end at count
is_reached {word = word} {end = end} {at = at} p low within =
    let here = is_at word end at p.rest p.onward p.lie_rest (omega (arith, low, within)) in
    let counted = lie_count 0 p.done at p.lie_done in
    record { within = omega (arith, here.within, here.some); onward = here.onward; counted = omega (arith, counted, p.counted) }

-- one more
pub passed_more : (word : ℕ → ℕ) (end first until room : ℕ) (holes : List Hole) (before : Option Hole) (at count : ℕ) → HasPassed word end first until room holes before at count → at < until → until ≤ end → word at < room → HasPassed word end first until room holes (Some (record { start = at; room = word at })) (word (at + 4)) (count + 1)
passed_more word end first until room holes before at count p low within short = record {
  done = p.done ++ g ∷ [];
  rest = here.others;
  split = p.split ∙ ap (λ xs. p.done ++ xs) here.split ∙ ap (λ x. p.done ++ x ∷ here.others) same ∙ sym (append_assoc p.done (g ∷ []) here.others);
  path = leads_join word first p.done at (g ∷ []) (word (at + 4)) p.path (refl, refl, refl);
  onward = here.leads;
  lie_done = lie_join 0 p.done at (g ∷ []) (word (at + 4)) p.lie_done (subst (λ x. LieWithin at (x ∷ []) (word (at + 4))) same (here.lie.0, here.lie.1, here.lie.2, low_end));
  lie_rest = lie_from word (word (at + 4)) (here.hole.start + here.hole.room) here.others end here.lie.3 here.leads;
  passed = more p.done p.passed;
  last = sym (last_of_more p.done g);
  counted = ap (λ n. n + 1) p.counted ∙ sym (length_push p.done g);
}
  where
    g : Hole
    g = record { start = at; room = word at }

    here : IsAt word end at p.rest
    here = is_at word end at p.rest p.onward p.lie_rest (omega (arith, low, within))

    same : here.hole ≡ g
    same = hole_is here.hole g (sym here.start) (sym here.room)

    low_end : here.hole.start + here.hole.room ≤ word (at + 4)
    low_end = leads_low word (word (at + 4)) (here.hole.start + here.hole.room) here.others end here.lie.3 here.leads

    more : (hs : List Hole) → ArePassed until room hs → ArePassed until room (hs ++ g ∷ [])
    more [] a = (low, short, tt)
    more (h ∷ hs) a = (a.0, a.1, more hs a.2)

-- the walk stops
pub stopped_before : (word : ℕ → ℕ) (end first until room : ℕ) (holes : List Hole) (before : Option Hole) (at count : ℕ) → HasPassed word end first until room holes before at count → until ≤ at → HasStopped word end first until room holes before at count
stopped_before word end first until room holes before at count p low = record { walk = p; stops = stop p.rest p.onward }
  where
    stop : (hs : List Hole) → Leads word at hs end → Stops until room hs
    stop [] m = tt
    stop (h ∷ hs) m = let is = m.0 in inl (omega (arith, low, is))

pub stopped_at : (word : ℕ → ℕ) (end first until room : ℕ) (holes : List Hole) (before : Option Hole) (at count : ℕ) → HasPassed word end first until room holes before at count → room ≤ word at → HasStopped word end first until room holes before at count
stopped_at word end first until room holes before at count p fits = record { walk = p; stops = stop p.rest p.onward }
  where
    stop : (hs : List Hole) → Leads word at hs end → Stops until room hs
    stop [] m = tt
    stop (h ∷ hs) m = let is = ap word m.0 ∙ m.1 in inr (omega (arith, fits, is))
