-- Where chains lead.
use Rattle.std.proofs.Common.{◌≡◌, ℕ, ◌+◌, ◌≤◌, List, [], ◌∷◌, ◌++◌, arith, ap, sym, ◌∙◌, refl, subst}
use Rattle.pli_holes.specs.declared.hole.Hole.{Hole}
use Rattle.pli_holes.specs.Holes.{Leads, LieWithin}

-- ---- holes in order

pub lie_order : (from : ℕ) (hs : List Hole) (to : ℕ) → LieWithin from hs to → from ≤ to
lie_order from [] to l = l
lie_order from (h ∷ hs) to l = let rest = lie_order (h.start + h.room) hs to l.3 in let first = l.0 in omega (arith, rest, first)

pub lie_lower : (from from' : ℕ) (hs : List Hole) (to : ℕ) → from' ≤ from → LieWithin from hs to → LieWithin from' hs to
lie_lower from from' [] to low l = omega (arith, low, l)
lie_lower from from' (h ∷ hs) to low l = let first = l.0 in (omega (arith, low, first), l.1, l.2, l.3)

pub lie_join : (from : ℕ) (hs : List Hole) (mid : ℕ) (gs : List Hole) (to : ℕ) → LieWithin from hs mid → LieWithin mid gs to → LieWithin from (hs ++ gs) to
lie_join from [] mid gs to l m = lie_lower mid from gs to l m
lie_join from (h ∷ hs) mid gs to l m = (l.0, l.1, l.2, lie_join (h.start + h.room) hs mid gs to l.3 m)

-- ---- words that stay

-- the words of these holes are the same
abbrev pub SameWords : (word word' : ℕ → ℕ) → List Hole → Type 0
SameWords word word' [] = Unit {0}
SameWords word word' (h ∷ hs) = (word' h.start ≡ word h.start) × (word' (h.start + 4) ≡ word (h.start + 4)) × SameWords word word' hs

pub leads_kept : (word word' : ℕ → ℕ) (from : ℕ) (hs : List Hole) (to : ℕ) → SameWords word word' hs → Leads word from hs to → Leads word' from hs to
leads_kept word word' from [] to same l = l
leads_kept word word' from (h ∷ hs) to same l =
    (l.0, same.0 ∙ l.1, leads_kept word word' (word' (h.start + 4)) hs to same.2 (let P : ℕ → Type 0 = λ at. Leads word at hs to in subst P (sym same.1) l.2))

pub same_below : (word word' : ℕ → ℕ) (low : ℕ) (hs : List Hole) (high : ℕ) → LieWithin low hs high → ((q : ℕ) → q + 4 ≤ high → word' q ≡ word q) → SameWords word word' hs
same_below word word' low [] high l same = tt
same_below word word' low (h ∷ hs) high l same =
    let above = lie_order (h.start + h.room) hs high l.3 in
    let some = l.2 in
    (same h.start (omega (arith, above, some)), same (h.start + 4) (omega (arith, above, some)), same_below word word' (h.start + h.room) hs high l.3 same)

pub same_above : (word word' : ℕ → ℕ) (low : ℕ) (hs : List Hole) (high : ℕ) → LieWithin low hs high → ((q : ℕ) → low ≤ q → word' q ≡ word q) → SameWords word word' hs
same_above word word' low [] high l same = tt
same_above word word' low (h ∷ hs) high l same =
    let above = l.0 in
    (same h.start above, same (h.start + 4) (omega (arith, above)), same_above word word' (h.start + h.room) hs high l.3 (λ q up. same q (omega (arith, above, up))))

-- ---- chains, one after another

pub leads_join : (word : ℕ → ℕ) (from : ℕ) (hs : List Hole) (mid : ℕ) (gs : List Hole) (to : ℕ) → Leads word from hs mid → Leads word mid gs to → Leads word from (hs ++ gs) to
leads_join word from [] mid gs to l m = let P : ℕ → Type 0 = λ at. Leads word at gs to in subst P (sym l) m
leads_join word from (h ∷ hs) mid gs to l m = (l.0, l.1, leads_join word (word (h.start + 4)) hs mid gs to l.2 m)

-- where the second part begins
pub record AreSplit (word : ℕ → ℕ) (from : ℕ) (hs gs : List Hole) (to : ℕ) : Type 0 where
  pub mid : ℕ
  pub before : Leads word from hs mid
  pub after : Leads word mid gs to

pub leads_split : (word : ℕ → ℕ) (from : ℕ) (hs gs : List Hole) (to : ℕ) → Leads word from (hs ++ gs) to → AreSplit word from hs gs to
leads_split word from [] gs to l = record { mid = from; before = refl; after = l }
leads_split word from (h ∷ hs) gs to l =
    let s = leads_split word (word (h.start + 4)) hs gs to l.2 in record { mid = s.mid; before = (l.0, l.1, s.before); after = s.after }

-- a chain leads no lower than its holes lie
pub leads_low : (word : ℕ → ℕ) (from low : ℕ) (hs : List Hole) (to : ℕ) → LieWithin low hs to → Leads word from hs to → low ≤ from
leads_low word from low [] to l m = omega (arith, l, m)
leads_low word from low (h ∷ hs) to l m = let first = l.0 in let is = m.0 in omega (arith, first, is)

-- a chain has one reading
pub hole_is : (h g : Hole) → h.start ≡ g.start → h.room ≡ g.room → h ≡ g
hole_is h g s r = ap (λ at. let x : Hole = record { start = at; room = h.room } in x) s ∙ ap (λ n. let x : Hole = record { start = g.start; room = n } in x) r

pub one_reading : (word : ℕ → ℕ) (from low low' : ℕ) (hs gs : List Hole) (to : ℕ) → LieWithin low hs to → LieWithin low' gs to → Leads word from hs to → Leads word from gs to → hs ≡ gs
one_reading word from low low' [] [] to l m n o = refl
one_reading word from low low' [] (g ∷ gs) to l m n o = let some = m.2 in let rest = lie_order (g.start + g.room) gs to m.3 in let first = o.0 in absurd (omega (arith, some, rest, first, n))
one_reading word from low low' (h ∷ hs) [] to l m n o = let some = l.2 in let rest = lie_order (h.start + h.room) hs to l.3 in let first = n.0 in absurd (omega (arith, some, rest, first, o))
one_reading word from low low' (h ∷ hs) (g ∷ gs) to l m n o =
    let start : h.start ≡ g.start = sym n.0 ∙ o.0 in
    let room : h.room ≡ g.room = sym n.1 ∙ ap word start ∙ o.1 in
    let P : ℕ → Type 0 = λ at. Leads word (word (at + 4)) gs to in
    let rest = one_reading word (word (h.start + 4)) (h.start + h.room) (g.start + g.room) hs gs to l.3 m.3 n.2 (subst P (sym start) o.2) in
    ap (λ x. x ∷ hs) (hole_is h g start room) ∙ ap (λ xs. g ∷ xs) rest
