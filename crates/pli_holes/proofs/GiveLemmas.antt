-- Bytes that are given back to a chain.
use Rattle.std.proofs.Common.{◌≡◌, ℕ, ◌+◌, ◌%◌, ◌<◌, ◌≤◌, inl, inr, Option, Some, None, List, [], ◌∷◌, ◌++◌, length, get_or, arith, ap, sym, ◌∙◌, subst, append_assoc}
use Rattle.std.proofs.lemmas.Option.{none-some, same_Some}
use Rattle.pli_region.specs.Words.{word_at}
use Rattle.pli_holes.specs.declared.hole.Hole.{Hole}
use Rattle.pli_holes.specs.Holes.{Leads, Spells, LieWithin, IsOutside, IsApart, IsInUse, ChangesWithin, touching, beyond, grown, given, hole_given}
use Rattle.pli_holes.specs.Steps.{last_from, last_of, ArePassed, Stops, HasStopped, IsPut, IsLed, IsTouched, IsTouching}
use Rattle.pli_holes.proofs.LeadLemmas.{lie_order, lie_lower, lie_join, leads_join, leads_split, one_reading}
use Rattle.pli_holes.proofs.ListLemmas.{AreEnded, ended, last_below, last_some, lie_ended, IsGiven, given_apart, given_touched, lie_grown}
use Rattle.pli_holes.proofs.WalkLemmas.{is_at}
use Rattle.pli_holes.proofs.StepLemmas.{leads_below, leads_put, led, led_kept, led_count, outside_front, outside_back, spelled_as}

-- a chain spells one list
pub one_list : (bytes : List ℕ) (first : ℕ) (holes others : List Hole) → Spells bytes first holes → Spells bytes first others → holes ≡ others
one_list bytes first holes others s t = one_reading (word_at bytes) first 0 0 holes others (length bytes) s.lie t.lie s.leads t.leads

-- ---- what lies before and after

apart_front : (start room : ℕ) (hs gs : List Hole) → IsApart start room (hs ++ gs) → IsApart start room hs
apart_front start room [] gs a = tt
apart_front start room (h ∷ hs) gs a = (a.0, apart_front start room hs gs a.1)

apart_back : (start room : ℕ) (hs gs : List Hole) → IsApart start room (hs ++ gs) → IsApart start room gs
apart_back start room [] gs a = a
apart_back start room (h ∷ hs) gs a = apart_back start room hs gs a.1

-- holes that begin before end before
lie_before : (low high start room limit : ℕ) (hs : List Hole) → LieWithin low hs high → ArePassed start limit hs → IsApart start room hs → low ≤ start → 8 ≤ room → LieWithin low hs start
lie_before low high start room limit [] l p a above some = above
lie_before low high start room limit (h ∷ hs) l p a above some =
    let begins = p.0 in
    let ends : h.start + h.room ≤ start = elim a.0 [ inl x ↦ absurd (omega (arith, x, begins, some)) | inr y ↦ y ] in
    (l.0, l.1, l.2, lie_before (h.start + h.room) high start room limit hs l.3 p.2 a.1 ends some)

-- the others begin after
lie_after : (low high start room limit : ℕ) (hs : List Hole) → LieWithin low hs high → Stops start limit hs → IsApart start room hs → start + room ≤ high → 8 ≤ room → high < limit → LieWithin (start + room) hs high
lie_after low high start room limit [] l s a within some wide = within
lie_after low high start room limit (h ∷ hs) l s a within some wide =
    let eight = l.2 in
    let rest = lie_order (h.start + h.room) hs high l.3 in
    let begins : start ≤ h.start = elim s [ inl x ↦ x | inr y ↦ absurd (omega (arith, y, rest, wide)) ] in
    let after : start + room ≤ h.start = elim a.0 [ inl x ↦ x | inr y ↦ absurd (omega (arith, y, begins, eight)) ] in
    (after, l.1, l.2, l.3)

-- where bytes lie that are given back
pub record IsBetween (old : List ℕ) (first start room at : ℕ) (holes : List Hole) (before : Option Hole) : Type 0 where
  pub done : List Hole
  pub rest : List Hole
  pub split : holes ≡ done ++ rest
  pub path : Leads (word_at old) first done at
  pub onward : Leads (word_at old) at rest (length old)
  pub last : before ≡ last_of done
  pub lie_done : LieWithin 0 done start
  pub lie_rest : LieWithin (start + room) rest (length old)
  pub reached : at < length old → at + 8 ≤ length old

pub between : (old : List ℕ) (first start room limit at count : ℕ) (before : Option Hole) (u : IsInUse old first start room) → HasStopped (word_at old) (length old) first start limit u.holes before at count → length old < limit → IsBetween old first start room at u.holes before
between old first start room limit at count before u s wide =
    let w = s.walk in
    let apart = subst (λ xs. IsApart start room xs) w.split u.apart in
    record {
      done = w.done;
      rest = w.rest;
      split = w.split;
      path = w.path;
      onward = w.onward;
      last = w.last;
      lie_done = lie_before 0 at start room limit w.done w.lie_done w.passed (apart_front start room w.done w.rest apart) (omega arith) u.some;
      lie_rest = lie_after at (length old) start room limit w.rest w.lie_rest s.stops (apart_back start room w.done w.rest apart) u.within u.some wide;
      reached = λ below. let here = is_at (word_at old) (length old) at w.rest w.onward w.lie_rest below in omega (arith, here.within, here.some);
    }

-- ---- sums that fit

-- with what they touch, they lie below the end
pub grown_within : (start room : ℕ) (rest : List Hole) (end : ℕ) → room % 8 ≡ 0 → 8 ≤ room → LieWithin (start + room) rest end → start + (room + touching (start + room) rest) ≤ end
grown_within start room rest end even some l =
    let lie = lie_grown 0 start room rest end (omega arith) even some l in lie_order (start + (room + touching (start + room) rest)) (beyond (start + room) rest) end lie.3

pub room_within : {old : List ℕ} {first start room more next at : ℕ} {holes : List Hole} {before : Option Hole} → IsBetween old first start room at holes before → room % 8 ≡ 0 → 8 ≤ room → IsTouching old at (start + room) more next → start + (room + more) ≤ length old
room_within {old = old} {start = start} {room = room} b even some t =
    let is = t.room b.rest b.onward b.lie_rest in let fits = grown_within start room b.rest (length old) even some b.lie_rest in omega (arith, is, fits)

-- the hole before ends no later
last_ends : (done : List Hole) (h : Hole) (start : ℕ) → LieWithin 0 done start → last_of done ≡ Some h → (h.start + h.room ≤ start) × (8 ≤ h.room)
last_ends [] h start l e = absurd (none-some h e)
last_ends (g ∷ gs) h start l e =
    let P : Hole → Type 0 = λ x. (x.start + x.room ≤ start) × (8 ≤ x.room) in subst P (same_Some (last_from g gs) h e) (last_below 0 g gs start l, last_some 0 g gs start l)

pub before_ends : {old : List ℕ} {first start room at : ℕ} {holes : List Hole} {before : Option Hole} → IsBetween old first start room at holes before → (h : Hole) → before ≡ Some h → (h.start + h.room ≤ start) × (8 ≤ h.room)
before_ends {start = start} b h is = last_ends b.done h start b.lie_done (sym b.last ∙ is)

-- the holes before it
ended_as : (done : List Hole) (h : Hole) → last_of done ≡ Some h → AreEnded done h
ended_as [] h e = absurd (none-some h e)
ended_as (g ∷ gs) h e = subst (λ x. AreEnded (g ∷ gs) x) (same_Some (last_from g gs) h e) (ended g gs)

-- ---- what is left of the chain

-- the chain spells what the holes become, the answer is the hole that was joined, and only bytes of holes have changed
pub record IsGivenBack (old new : List ℕ) (first start room : ℕ) (holes : List Hole) (hole : Hole) : Type 0 where
  pub spelled : Spells new first (given start room holes)
  pub joined : hole ≡ hole_given start room holes
  pub kept : ChangesWithin (given start room holes) old new

-- where no hole before is touched
pub given_alone : (old mid new : List ℕ) (first first' start room more next at : ℕ) (holes : List Hole) (before : Option Hole) → IsBetween old first start room at holes before → room % 8 ≡ 0 → 8 ≤ room → IsTouching old at (start + room) more next → IsTouched before start None → IsPut old mid (record { start = start; room = room + more }) next → IsLed before start mid first new first' → IsGivenBack old new first' start room holes (record { start = start; room = room + more })
given_alone old mid new first first' start room more next at holes before b even some t alone p is =
    record { spelled = spelled_as new first' (b.done ++ hole ∷ others) (given start room holes) (length old) list ends leads (lie_join 0 b.done start (hole ∷ others) (length old) b.lie_done lie); joined = same ∙ sym g.hole ∙ sym (ap (λ xs. hole_given start room xs) b.split); kept = record { count = ends; kept = kept } }
  where
    hole : Hole
    hole = record { start = start; room = room + more }

    others : List Hole
    others = beyond (start + room) b.rest

    more_is : more ≡ touching (start + room) b.rest
    more_is = t.room b.rest b.onward b.lie_rest

    same : hole ≡ grown start room b.rest
    same = ap (λ n. let x : Hole = record { start = start; room = room + n } in x) more_is

    lie : LieWithin start (hole ∷ others) (length old)
    lie = subst (λ x. LieWithin start (x ∷ others) (length old)) (sym same) (lie_grown start start room b.rest (length old) (omega arith) even some b.lie_rest)

    put : Leads (word_at mid) start (hole ∷ others) (length old)
    put = leads_put old mid hole next others (length old) (length old) p (lie_lower (start + (room + more)) (start + 8) others (length old) (omega (arith, some)) lie.3) (t.leads b.rest b.onward b.lie_rest)

    is' : IsLed (last_of b.done) start mid first new first'
    is' = subst (λ o. IsLed o start mid first new first') b.last is

    leads : Leads (word_at new) first' (b.done ++ hole ∷ others) (length old)
    leads = led old mid new first first' at start start (start + 8) b.done (hole ∷ others) (length old) b.path b.lie_done p.changes lie put is'

    g : IsGiven start room (b.done ++ b.rest) (b.done ++ grown start room b.rest ∷ others) (grown start room b.rest)
    g = given_apart start room 0 b.done b.rest (length old) b.lie_done b.lie_rest some (λ x e meets. alone x (b.last ∙ e) meets)

    list : given start room holes ≡ b.done ++ hole ∷ others
    list = ap (λ xs. given start room xs) b.split ∙ g.list ∙ ap (λ x. b.done ++ x ∷ others) (sym same)

    ends : length new ≡ length old
    ends = led_count mid new first first' start b.done is' ∙ p.changes.count

    kept : (place : ℕ) → IsOutside place (given start room holes) → get_or new place 0 ≡ get_or old place 0
    kept place o =
        let apart = subst (λ xs. IsOutside place xs) list o in
        let beside = (outside_back place b.done (hole ∷ others) apart).0 in
        led_kept mid new first first' start 0 start b.done place b.lie_done is' (outside_front place b.done (hole ∷ others) apart)
        ∙ p.changes.kept place (elim beside [ inl below ↦ inl below | inr above ↦ inr (omega (arith, above, some)) ])

-- where one is
pub given_joined : (old new : List ℕ) (first start room more next at : ℕ) (holes : List Hole) (before : Option Hole) (h : Hole) → IsBetween old first start room at holes before → room % 8 ≡ 0 → 8 ≤ room → IsTouching old at (start + room) more next → IsTouched before start (Some h) → IsPut old new (record { start = h.start; room = h.room + (room + more) }) next → IsGivenBack old new first start room holes (record { start = h.start; room = h.room + (room + more) })
given_joined old new first start room more next at holes before h b even some t touch p =
    record { spelled = spelled_as new first (e.front ++ hole ∷ others) (given start room holes) (length old) list p.changes.count (leads_join (word_at new) first e.front h.start (hole ∷ others) (length old) front_leads put) (lie_join 0 e.front h.start (hole ∷ others) (length old) lies.0 lie); joined = same ∙ sym g.hole ∙ sym (ap (λ xs. hole_given start room xs) split); kept = record { count = p.changes.count; kept = kept } }
  where
    e : AreEnded b.done h
    e = ended_as b.done h (sym b.last ∙ touch.0)

    lies : LieWithin 0 e.front h.start × LieWithin h.start (h ∷ []) start
    lies = lie_ended 0 e.front h start (subst (λ xs. LieWithin 0 xs start) e.split b.lie_done)

    hole : Hole
    hole = record { start = h.start; room = h.room + (room + more) }

    place : h.start + (h.room + room) ≡ start + room
    place = omega (arith, touch.1)

    others : List Hole
    others = beyond (h.start + (h.room + room)) b.rest

    more_is : more ≡ touching (h.start + (h.room + room)) b.rest
    more_is = t.room b.rest b.onward b.lie_rest ∙ ap (λ q. touching q b.rest) (sym place)

    same : hole ≡ grown h.start (h.room + room) b.rest
    same = ap (λ n. let x : Hole = record { start = h.start; room = n } in x) (omega (arith, more_is))

    lie : LieWithin h.start (hole ∷ others) (length old)
    lie =
        let whole = lies.1.1 in
        let eight = lies.1.2 in
        subst (λ x. LieWithin h.start (x ∷ others) (length old)) (sym same)
        (lie_grown h.start h.start (h.room + room) b.rest (length old) (omega arith) (omega (arith, whole, even)) (omega (arith, eight)) (subst (λ q. LieWithin q b.rest (length old)) (sym place) b.lie_rest))

    put : Leads (word_at new) h.start (hole ∷ others) (length old)
    put =
        let onward = subst (λ q. Leads (word_at old) next (beyond q b.rest) (length old)) (sym place) (t.leads b.rest b.onward b.lie_rest) in
        leads_put old new hole next others (length old) (length old) p (lie_lower (h.start + (h.room + (room + more))) (h.start + 8) others (length old) (omega (arith, some)) lie.3) onward

    front_leads : Leads (word_at new) first e.front h.start
    front_leads =
        let s = leads_split (word_at old) first e.front (h ∷ []) at (subst (λ xs. Leads (word_at old) first xs at) e.split b.path) in
        leads_below p.changes first 0 e.front h.start lies.0 (subst (λ q. Leads (word_at old) first e.front q) s.after.0 s.before)

    split : holes ≡ e.front ++ h ∷ b.rest
    split = b.split ∙ ap (λ xs. xs ++ b.rest) e.split ∙ append_assoc e.front (h ∷ []) b.rest

    g : IsGiven start room (e.front ++ h ∷ b.rest) (e.front ++ grown h.start (h.room + room) b.rest ∷ others) (grown h.start (h.room + room) b.rest)
    g = given_touched start room 0 e.front h b.rest lies.0 lies.1.2 touch.1

    list : given start room holes ≡ e.front ++ hole ∷ others
    list = ap (λ xs. given start room xs) split ∙ g.list ∙ ap (λ x. e.front ++ x ∷ others) (sym same)

    kept : (at : ℕ) → IsOutside at (given start room holes) → get_or new at 0 ≡ get_or old at 0
    kept at o =
        let apart = subst (λ xs. IsOutside at xs) list o in
        let beside = (outside_back at e.front (hole ∷ others) apart).0 in
        p.changes.kept at (elim beside [ inl below ↦ inl below | inr above ↦ inr (omega (arith, above, some)) ])
