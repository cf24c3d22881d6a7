-- Names stand after the items that they are members of.
use Rattle.std.proofs.Common.{◌≡◌, ℕ, zero, suc, ◌+◌, ◌<◌, ◌≤◌, ◌==◌, Bool, true, false, List, [], ◌∷◌, ◌++◌, length, map, append-nil, Option, None, Some, IfSome, option_map, if◌then◌else◌, sym, subst, arith}
use Rattle.std.proofs.lemmas.List.{length-map}
use Rattle.std.specs.List.{flat_map}
use Rattle.pli_base.specs.declared.syntax.Identifier.{Identifier}
use Rattle.pli_base.specs.Declarations.{Item}
use Rattle.pli_declare_outline.specs.Outlines.{Region, Mark, Declared, Labelled, Entered, Used, Jumped, PlacedMark}
use Rattle.pli_declare_constructs.specs.Regions.{block_of}
use Rattle.pli_declare_scopes.specs.Levels.{standings_of}
use Rattle.pli_declare_scopes.specs.laws.RepeatLaws.{written_at}
use Rattle.pli_declare_scopes.specs.declared.level.ItemStanding.{ItemStanding}
use Rattle.pli_declare.specs.Tables.{Entry, written, named, item_entries, entries_of, entries_after, inner_marks, heading_entries, unit_entries}
use Rattle.pli_declare.specs.answers.Owners.{AreAfterOwners}
use Rattle.pli_declare.specs.laws.TableLaws.{OwnersStandBefore}
use Rattle.pli_declare.proofs.ItemsStandAfter.{StandFrom, standings_stand}

-- each of some names that stand after so many others has its owner before it
abbrev pub After : ℕ → List Entry → Type 0
After n [] = Unit {0}
After n (e ∷ es) = IfSome e.owner (λ o. o < n) × After (n + 1) es

wider : (owner : Option ℕ) (m n : ℕ) → m ≤ n → IfSome owner (λ o. o < m) → IfSome owner (λ o. o < n)
wider None m n le h = tt
wider (Some o) m n le h = omega (arith, h)

owned : (base n m : ℕ) (owner : Option ℕ) → n ≡ base + m → IfSome owner (λ o. o < m) → IfSome (option_map (λ o. base + o) owner) (λ o. o < n)
owned base n m None e h = tt
owned base n m (Some o) e h = omega (arith, h)

after_items : (xs : List (Identifier × Item)) (ss : List ItemStanding) (base n m : ℕ) → n ≡ base + m → StandFrom m ss → After n (item_entries base xs ss)
after_items [] ss base n m e h = tt
after_items (x ∷ xs) [] base n m e h = tt
after_items (x ∷ xs) (s ∷ ss) base n m e h = (owned base n m s.owner e h.0, after_items xs ss base (n + 1) (m + 1) (omega arith) h.1)

after_of : (base here : ℕ) (mark : Mark) → After base (entries_of base here mark)
after_of base here (Declared items) =
    let names = flat_map named items in
    after_items names (standings_of (map (λ x. x.1.level) names)) base base 0 (omega arith) (standings_stand (map (λ x. x.1.level) names))
after_of base here (Labelled label) = (tt, tt)
after_of base here (Entered heading region) = (tt, tt)
after_of base here (Used names) = tt
after_of base here (Jumped label) = tt

after_both : (xs ys : List Entry) (n m : ℕ) → m ≡ n + length xs → After n xs → After m ys → After n (xs ++ ys)
after_both [] ys n m e h k = subst (λ (j : ℕ). After j ys) (let same : m ≡ n = omega arith in same) k
after_both (x ∷ xs) ys n m e h k = (h.0, after_both xs ys (n + 1) m (omega arith) h.1 k)

after_more : (entries : List Entry) (here : ℕ) (mark : Mark) (b : Bool) → After 0 entries
    → After 0 (entries ++ (if b then entries_of (length entries) here mark else []))
after_more entries here mark true h = after_both entries _ 0 (length entries) (omega arith) h (after_of (length entries) here mark)
after_more entries here mark false h = subst (After 0) (sym (append-nil entries)) h

all_stand_after : (regions : List Region) (block : ℕ) (entries : List Entry) (ps : List PlacedMark) → After 0 entries → After 0 (entries_after regions block entries ps)
all_stand_after regions block entries [] h = h
all_stand_after regions block entries (p ∷ ps) h =
    all_stand_after regions block (entries ++ (if block_of regions p.region == block then entries_of (length entries) p.region p.mark else [])) ps (after_more entries p.region p.mark (block_of regions p.region == block) h)

at_each : (es : List Entry) (n k : ℕ) → After n es → k < length es → IfSome (written_at (map written es) k).owner (λ o. o < n + k)
at_each [] n k h lt = absurd (omega arith)
at_each (e ∷ es) n zero h lt = wider e.owner n (n + 0) (omega arith) h.0
at_each (e ∷ es) n (suc k) h lt = wider (written_at (map written es) k).owner ((n + 1) + k) (n + suc k) (omega arith) (at_each es (n + 1) k h.1 (omega arith))

from_each : (es : List Entry) (n : ℕ) → ((k : ℕ) → k < length es → IfSome (written_at (map written es) k).owner (λ o. o < n + k)) → After n es
from_each [] n h = tt
from_each (e ∷ es) n h = (
  wider e.owner (n + 0) n (omega arith) (h 0 (omega arith)),
  from_each es (n + 1) (λ k lt. wider (written_at (map written es) k).owner (n + suc k) ((n + 1) + k) (omega arith) (h (suc k) (omega arith))),
)

-- the same at each number
pub after_owners : (es : List Entry) → After 0 es → AreAfterOwners es
after_owners es h n lt = wider (written_at (map written es) n).owner (0 + n) n (omega arith) (at_each es 0 n h (omega (arith, length-map es written)))

pub owners_after : (es : List Entry) → AreAfterOwners es → After 0 es
owners_after es h = from_each es 0 (λ k lt. wider (written_at (map written es) k).owner k (0 + k) (omega arith) (h k (omega (arith, length-map es written))))

pub owners_stand_before : OwnersStandBefore
owners_stand_before o block = after_owners _ (all_stand_after o.regions block [] (inner_marks o.marks) tt)

after_heading : (mark : Mark) → After 0 (heading_entries mark)
after_heading (Declared items) = tt
after_heading (Labelled label) = tt
after_heading (Entered heading region) = (tt, tt)
after_heading (Used names) = tt
after_heading (Jumped label) = tt

-- the unit's own name is a member of none
pub unit_after : (ps : List PlacedMark) → AreAfterOwners (unit_entries ps)
unit_after [] = after_owners [] tt
unit_after (p ∷ ps) = after_owners (heading_entries p.mark) (after_heading p.mark)
