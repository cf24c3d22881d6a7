-- What the steps of taking and giving back leave of a chain.
use Rattle.std.proofs.Common.{◌≡◌, ℕ, ◌+◌, ◌<◌, ◌≤◌, ◌⊎◌, inl, inr, List, [], ◌∷◌, ◌++◌, length, get_or, arith, ap, sym, ◌∙◌, refl, subst, append_assoc}
use Rattle.pli_region.specs.Words.{word_at}
use Rattle.pli_holes.specs.declared.hole.Hole.{Hole}
use Rattle.pli_holes.specs.Holes.{Leads, Spells, LieWithin, IsOutside}
use Rattle.pli_holes.specs.Steps.{last_from, last_of, ChangesOnly, IsPut, IsLed}
use Rattle.pli_holes.proofs.WordLemmas.{word_kept}
use Rattle.pli_holes.proofs.LeadLemmas.{leads_kept, leads_join, leads_split, same_below, same_above, lie_order, lie_lower}
use Rattle.pli_holes.proofs.ListLemmas.{AreEnded, ended, last_some, lie_ended}

-- ---- where chains lead after a write

-- holes below what is written
pub leads_below : {low high : ℕ} {old new : List ℕ} → ChangesOnly low high old new → (from begin : ℕ) (hs : List Hole) (to : ℕ) → LieWithin begin hs low → Leads (word_at old) from hs to → Leads (word_at new) from hs to
leads_below {low = low} {old = old} {new = new} c from begin hs to l m = leads_kept (word_at old) (word_at new) from hs to (same_below (word_at old) (word_at new) begin hs low l (λ q below. word_kept c q (inl below))) m

-- holes above it
pub leads_above : {low high : ℕ} {old new : List ℕ} → ChangesOnly low high old new → (from : ℕ) (hs : List Hole) (end to : ℕ) → LieWithin high hs end → Leads (word_at old) from hs to → Leads (word_at new) from hs to
leads_above {high = high} {old = old} {new = new} c from hs end to l m = leads_kept (word_at old) (word_at new) from hs to (same_above (word_at old) (word_at new) high hs end l (λ q above. word_kept c q (inr above))) m

-- a hole that is written, and those after it
pub leads_put : (old new : List ℕ) (h : Hole) (next : ℕ) (hs : List Hole) (end to : ℕ) → IsPut old new h next → LieWithin (h.start + 8) hs end → Leads (word_at old) next hs to → Leads (word_at new) h.start (h ∷ hs) to
leads_put old new h next hs end to p l m =
    let rest = leads_above p.changes next hs end to l m in
    let P : ℕ → Type 0 = λ at. Leads (word_at new) at hs to in
    (refl, p.room, subst P (sym p.next) rest)

-- holes that a chain leads through are spelled
pub spelled_as : (bytes : List ℕ) (first : ℕ) (hs holes : List Hole) (end : ℕ) → holes ≡ hs → length bytes ≡ end → Leads (word_at bytes) first hs end → LieWithin 0 hs end → Spells bytes first holes
spelled_as bytes first hs holes end is ends m l =
    let P : List Hole × ℕ → Type 0 = λ x. Leads (word_at bytes) first x.0 x.1 in
    let Q : List Hole × ℕ → Type 0 = λ x. LieWithin 0 x.0 x.1 in
    record { leads = subst P (λ i. (sym is i, sym ends i)) m; lie = subst Q (λ i. (sym is i, sym ends i)) l }

-- ---- a hole that leads elsewhere

-- the last of these holes leads to a place where others follow
led_last : (old mid new : List ℕ) (first at to low high : ℕ) (front : List Hole) (b : Hole) (tail : List Hole) (end : ℕ) → Leads (word_at old) first (front ++ b ∷ []) at → LieWithin 0 (front ++ b ∷ []) low → ChangesOnly low high old mid → LieWithin low tail end → Leads (word_at mid) to tail end → word_at new (b.start + 4) ≡ to → ChangesOnly (b.start + 4) (b.start + 8) mid new → Leads (word_at new) first ((front ++ b ∷ []) ++ tail) end
led_last old mid new first at to low high front b tail end l lie c above m link d =
    rw (append_assoc front (b ∷ []) tail) (leads_join (word_at new) first front b.start (b ∷ tail) end front_leads (refl, same_room, rest))
  where
    lies : LieWithin 0 front b.start × LieWithin b.start (b ∷ []) low
    lies = lie_ended 0 front b low lie

    some : b.start + 8 ≤ low
    some = let eight = lies.1.2 in let ends = lies.1.3 in omega (arith, eight, ends)

    front_leads : Leads (word_at new) first front b.start
    front_leads =
        let s = leads_split (word_at old) first front (b ∷ []) at l in
        let P : ℕ → Type 0 = λ q. Leads (word_at old) first front q in
        let before = subst P s.after.0 s.before in
        let lower = lie_order 0 front b.start lies.0 in
        leads_kept (word_at old) (word_at new) first front b.start
        (same_below (word_at old) (word_at new) 0 front b.start lies.0 (λ q below. word_kept d q (inl (omega (arith, below))) ∙ word_kept c q (inl (omega (arith, below, some))))) before

    same_room : word_at new b.start ≡ b.room
    same_room =
        let s = leads_split (word_at old) first front (b ∷ []) at l in
        word_kept d b.start (inl (omega arith)) ∙ word_kept c b.start (inl (omega (arith, some))) ∙ s.after.1

    rest : Leads (word_at new) (word_at new (b.start + 4)) tail end
    rest =
        let P : ℕ → Type 0 = λ q. Leads (word_at new) q tail end in
        subst P (sym link) (leads_above d to tail end end (lie_lower low (b.start + 8) tail end some above) m)

pub led : (old mid new : List ℕ) (first first' at to low high : ℕ) (done tail : List Hole) (end : ℕ) → Leads (word_at old) first done at → LieWithin 0 done low → ChangesOnly low high old mid → LieWithin low tail end → Leads (word_at mid) to tail end → IsLed (last_of done) to mid first new first' → Leads (word_at new) first' (done ++ tail) end
led old mid new first first' at to low high [] tail end l lie c above m is =
    let P : List ℕ × ℕ → Type 0 = λ x. Leads (word_at x.0) x.1 tail end in subst P (λ i. (sym is.0 i, sym is.1 i)) m
led old mid new first first' at to low high (h ∷ hs) tail end l lie c above m is = at_end (ended h hs)
  where
    at_end : AreEnded (h ∷ hs) (last_from h hs) → Leads (word_at new) first' ((h ∷ hs) ++ tail) end
    at_end e =
        let b = last_from h hs in
        let L : List Hole → Type 0 = λ xs. Leads (word_at old) first xs at in
        let W : List Hole → Type 0 = λ xs. LieWithin 0 xs low in
        let G : List Hole → Type 0 = λ xs. Leads (word_at new) first (xs ++ tail) end in
        let F : ℕ → Type 0 = λ q. Leads (word_at new) q ((h ∷ hs) ++ tail) end in
        subst F (sym is.2) (subst G (sym e.split) (led_last old mid new first at to low high e.front b tail end (subst L e.split l) (subst W e.split lie) c above m is.0 is.1))

-- ---- bytes outside holes

pub outside_front : (place : ℕ) (hs gs : List Hole) → IsOutside place (hs ++ gs) → IsOutside place hs
outside_front place [] gs o = tt
outside_front place (h ∷ hs) gs o = (o.0, outside_front place hs gs o.1)

pub outside_back : (place : ℕ) (hs gs : List Hole) → IsOutside place (hs ++ gs) → IsOutside place gs
outside_back place [] gs o = o
outside_back place (h ∷ hs) gs o = outside_back place hs gs o.1

outside_last : (place : ℕ) (h : Hole) (hs : List Hole) → IsOutside place (h ∷ hs) → (place < (last_from h hs).start) ⊎ ((last_from h hs).start + (last_from h hs).room ≤ place)
outside_last place h [] o = o.0
outside_last place h (g ∷ gs) o = outside_last place g gs o.1

-- where the last hole leads is written within it
pub led_kept : (mid new : List ℕ) (first first' to low high : ℕ) (done : List Hole) (place : ℕ) → LieWithin low done high → IsLed (last_of done) to mid first new first' → IsOutside place done → get_or new place 0 ≡ get_or mid place 0
led_kept mid new first first' to low high [] place l is o = ap (λ xs. get_or xs place 0) is.0
led_kept mid new first first' to low high (h ∷ hs) place l is o =
    let some = last_some low h hs high l in
    elim (outside_last place h hs o) [
      | inl below ↦ is.1.kept place (inl (omega (arith, below)))
      | inr above ↦ is.1.kept place (inr (omega (arith, above, some)))
    ]

pub led_count : (mid new : List ℕ) (first first' to : ℕ) (done : List Hole) → IsLed (last_of done) to mid first new first' → length new ≡ length mid
led_count mid new first first' to [] is = ap length is.0
led_count mid new first first' to (h ∷ hs) is = is.1.count
