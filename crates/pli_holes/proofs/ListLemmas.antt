-- What taking and giving back make of lists of holes.
use Rattle.std.proofs.Common.{◌≡◌, ℕ, suc, ◌+◌, ◌-◌, ◌%◌, ◌≤◌, inl, inr, Some, None, List, [], ◌∷◌, ◌++◌, length, find, nat_le, arith, ap, sym, ◌∙◌, refl, subst}
use Rattle.std.proofs.lemmas.Bool.{cond-true, cond-false, le-leb, lt-leb, lt-ltb, le-ltb, eq-eqb, ne_eqb, cases_eq}
use Rattle.std.proofs.lemmas.Option.{none-some}
use Rattle.pli_holes.specs.declared.hole.Hole.{Hole}
use Rattle.pli_holes.specs.Holes.{LieWithin, shortened, taken, looked_at, beyond, grown, given, hole_given}
use Rattle.pli_holes.specs.Steps.{last_from, last_of, ArePassed}
use Rattle.pli_holes.proofs.LeadLemmas.{lie_order, lie_lower}

-- ---- the last hole

-- the holes before the last
pub record AreEnded (hs : List Hole) (last : Hole) : Type 0 where
  pub front : List Hole
  pub split : hs ≡ front ++ last ∷ []

pub ended : (h : Hole) (hs : List Hole) → AreEnded (h ∷ hs) (last_from h hs)
ended h [] = record { front = []; split = refl }
ended h (g ∷ gs) = let e = ended g gs in record { front = h ∷ e.front; split = ap (λ xs. h ∷ xs) e.split }

last_more : (h : Hole) (hs : List Hole) (g : Hole) → last_from h (hs ++ g ∷ []) ≡ g
last_more h [] g = refl
last_more h (k ∷ ks) g = last_more k ks g

pub last_of_more : (hs : List Hole) (g : Hole) → last_of (hs ++ g ∷ []) ≡ Some g
last_of_more [] g = refl
last_of_more (h ∷ hs) g = ap Some (last_more h hs g)

-- the last hole ends where the others do, at the latest
pub last_below : (low : ℕ) (h : Hole) (hs : List Hole) (high : ℕ) → LieWithin low (h ∷ hs) high → (last_from h hs).start + (last_from h hs).room ≤ high
last_below low h [] high l = l.3
last_below low h (g ∷ gs) high l = last_below (h.start + h.room) g gs high l.3

pub last_some : (low : ℕ) (h : Hole) (hs : List Hole) (high : ℕ) → LieWithin low (h ∷ hs) high → 8 ≤ (last_from h hs).room
last_some low h [] high l = l.2
last_some low h (g ∷ gs) high l = last_some (h.start + h.room) g gs high l.3

-- holes that end at the last lie below where it ends
pub lie_ended : (low : ℕ) (hs : List Hole) (b : Hole) (high : ℕ) → LieWithin low (hs ++ b ∷ []) high → LieWithin low hs b.start × LieWithin b.start (b ∷ []) high
lie_ended low [] b high l = (l.0, (omega arith, l.1, l.2, l.3))
lie_ended low (h ∷ hs) b high l = let r = lie_ended (h.start + h.room) hs b high l.3 in ((l.0, l.1, l.2, r.0), r.1)

-- ---- what is taken

-- what is found, and what is left
pub record IsFound (room : ℕ) (holes : List Hole) (h : Hole) (others : List Hole) (number : ℕ) : Type 0 where
  pub first : find (λ g. nat_le room g.room) holes ≡ Some h
  pub left : taken room holes ≡ others
  pub count : looked_at room holes ≡ number

pub found : (until room : ℕ) (done : List Hole) (h : Hole) (hs : List Hole) → ArePassed until room done → room ≤ h.room → IsFound room (done ++ h ∷ hs) h (done ++ shortened room h hs) (length done + 1)
found until room [] h hs p fits =
    let e = le-leb room h.room fits in record { first = cond-true _ _ _ e; left = cond-true _ _ _ e; count = cond-true _ _ _ e }
found until room (g ∷ gs) h hs p fits =
    let e = lt-leb room g.room p.1 in
    let r = found until room gs h hs p.2 fits in
    record { first = cond-false _ _ _ e ∙ r.first; left = cond-false _ _ _ e ∙ ap (λ xs. g ∷ xs) r.left; count = cond-false _ _ _ e ∙ ap (λ n. suc n) r.count ∙ omega arith }

-- nothing is found
pub record IsNotFound (room : ℕ) (holes : List Hole) : Type 0 where
  pub none : find (λ g. nat_le room g.room) holes ≡ None
  pub left : taken room holes ≡ holes
  pub count : looked_at room holes ≡ length holes

pub not_found : (until room : ℕ) (done : List Hole) → ArePassed until room done → IsNotFound room done
not_found until room [] p = record { none = refl; left = refl; count = refl }
not_found until room (g ∷ gs) p =
    let e = lt-leb room g.room p.1 in
    let r = not_found until room gs p.2 in
    record { none = cond-false _ _ _ e ∙ r.none; left = cond-false _ _ _ e ∙ ap (λ xs. g ∷ xs) r.left; count = cond-false _ _ _ e ∙ ap (λ n. suc n) r.count }

-- what is left lies where the hole did
pub lie_shortened : (low room : ℕ) (h : Hole) (hs : List Hole) (high : ℕ) → LieWithin low (h ∷ hs) high → room % 8 ≡ 0 → room ≤ h.room → LieWithin low (shortened room h hs) high
lie_shortened low room h hs high l even fits =
    let P : List Hole → Type 0 = λ xs. LieWithin low xs high in
    let above = l.0 in
    let whole = l.1 in
    elim (cases_eq h.room room) [
      | inl e ↦ subst P (sym (cond-true _ _ _ (eq-eqb h.room room e))) (lie_lower (h.start + h.room) low hs high (omega (arith, above)) l.3)
      | inr ne ↦ subst P (sym (cond-false _ _ _ (ne_eqb h.room room ne)))
          (omega (arith, above), omega (arith, whole, even, fits), omega (arith, whole, even, fits, ne), lie_lower (h.start + h.room) (h.start + room + (h.room - room)) hs high (omega (arith, fits)) l.3)
    ]

-- ---- what is given back

-- what the holes become, and which hole it is a part of
pub record IsGiven (start room : ℕ) (holes becomes : List Hole) (joined : Hole) : Type 0 where
  pub list : given start room holes ≡ becomes
  pub hole : hole_given start room holes ≡ joined

-- holes that end before a place, if the last does not end there
abbrev pub EndBefore : List Hole → (place : ℕ) → Type 0
EndBefore hs place = (b : Hole) → last_of hs ≡ Some b → b.start + b.room ≡ place → ⊥

first_before : (low : ℕ) (g : Hole) (gs : List Hole) (start : ℕ) → LieWithin low (g ∷ gs) start → EndBefore (g ∷ gs) start → g.start + g.room ≡ start → ⊥
first_before low g [] start l apart touch = apart g refl touch
first_before low g (k ∷ ks) start l apart touch =
    let up = l.3.0 in let some = l.3.2 in let rest = lie_order (k.start + k.room) ks start l.3.3 in omega (arith, up, some, rest, touch)

rest_before : (g : Hole) (gs : List Hole) (start : ℕ) → EndBefore (g ∷ gs) start → EndBefore gs start
rest_before g [] start apart = λ b e t. absurd (none-some b e)
rest_before g (k ∷ ks) start apart = apart

pub given_apart : (start room low : ℕ) (done rest : List Hole) (end : ℕ) → LieWithin low done start → LieWithin (start + room) rest end → 8 ≤ room → EndBefore done start → IsGiven start room (done ++ rest) (done ++ grown start room rest ∷ beyond (start + room) rest) (grown start room rest)
given_apart start room low [] [] end l m some apart = record { list = refl; hole = refl }
given_apart start room low [] (h ∷ hs) end l m some apart =
    let above = m.0 in
    let e = lt-ltb start h.start (omega (arith, above, some)) in
    record { list = cond-true _ _ _ e; hole = cond-true _ _ _ e }
given_apart start room low (g ∷ gs) rest end l m some apart =
    let ends = lie_order (g.start + g.room) gs start l.3 in
    let e = le-ltb start g.start (omega (arith, ends)) in
    let n = ne_eqb (g.start + g.room) start (first_before low g gs start l apart) in
    let r = given_apart start room (g.start + g.room) gs rest end l.3 m some (rest_before g gs start apart) in
    record { list = cond-false _ _ _ e ∙ cond-false _ _ _ n ∙ ap (λ xs. g ∷ xs) r.list; hole = cond-false _ _ _ e ∙ cond-false _ _ _ n ∙ r.hole }

pub given_touched : (start room low : ℕ) (front : List Hole) (b : Hole) (rest : List Hole) → LieWithin low front b.start → 8 ≤ b.room → b.start + b.room ≡ start → IsGiven start room (front ++ b ∷ rest) (front ++ grown b.start (b.room + room) rest ∷ beyond (b.start + (b.room + room)) rest) (grown b.start (b.room + room) rest)
given_touched start room low [] b rest l some touch =
    let e = le-ltb start b.start (omega (arith, touch)) in
    let t = eq-eqb (b.start + b.room) start touch in
    record { list = cond-false _ _ _ e ∙ cond-true _ _ _ t; hole = cond-false _ _ _ e ∙ cond-true _ _ _ t }
given_touched start room low (g ∷ gs) b rest l some touch =
    let ends = lie_order (g.start + g.room) gs b.start l.3 in
    let e = le-ltb start g.start (omega (arith, ends, touch)) in
    let n = ne_eqb (g.start + g.room) start (λ meets. omega (arith, ends, some, touch, meets)) in
    let r = given_touched start room (g.start + g.room) gs b rest l.3 some touch in
    record { list = cond-false _ _ _ e ∙ cond-false _ _ _ n ∙ ap (λ xs. g ∷ xs) r.list; hole = cond-false _ _ _ e ∙ cond-false _ _ _ n ∙ r.hole }

-- what is joined lies where the two did
pub lie_grown : (low start room : ℕ) (rest : List Hole) (end : ℕ) → low ≤ start → room % 8 ≡ 0 → 8 ≤ room → LieWithin (start + room) rest end → LieWithin low (grown start room rest ∷ beyond (start + room) rest) end
lie_grown low start room [] end above even some l = (above, omega (arith, even), omega (arith, some), omega (arith, l))
lie_grown low start room (h ∷ hs) end above even some l =
    let P : ℕ × List Hole → Type 0 = λ x. (low ≤ start) × ((room + x.0) % 8 ≡ 0) × (8 ≤ room + x.0) × LieWithin (start + (room + x.0)) x.1 end in
    let whole = l.1 in
    elim (cases_eq (start + room) h.start) [
      | inl e ↦ let t = eq-eqb (start + room) h.start e in
          subst P (λ i. (sym (cond-true _ h.room 0 t) i, sym (cond-true _ hs (h ∷ hs) t) i))
          (above, omega (arith, even, whole), omega (arith, some), lie_lower (h.start + h.room) (start + (room + h.room)) hs end (omega (arith, e)) l.3)
      | inr ne ↦ let t = ne_eqb (start + room) h.start ne in
          subst P (λ i. (sym (cond-false _ h.room 0 t) i, sym (cond-false _ hs (h ∷ hs) t) i))
          (above, omega (arith, even), omega (arith, some), lie_lower (start + room) (start + (room + 0)) (h ∷ hs) end (omega arith) l)
    ]
