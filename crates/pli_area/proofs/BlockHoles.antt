-- Holes between blocks: where they lie, and what they are with a block more and with one fewer.
use Rattle.std.proofs.Common.{◌≡◌, ℕ, ◌+◌, ◌-◌, ◌*◌, ◌%◌, ◌<◌, ◌≤◌, ◌⊎◌, max, List, [], ◌∷◌, ◌++◌, length, Some, None, refl, sym, ap, ◌∙◌, subst, arith, eq-eqb, ne_eqb, inl, inr}
use Rattle.std.proofs.lemmas.Bool.{cases_lt, cases_eq, lt-ltb, le-ltb, le-leb, lt-leb}
use Rattle.std.proofs.lemmas.Option.{same_Some, none-some}
use Rattle.pli_holes.proofs.LeadLemmas.{lie_lower, SameWords}
use Rattle.pli_holes.specs.Holes as hole
use Rattle.pli_holes.specs.Holes.{Leads, LieWithin, grown, beyond, given, hole_given, taken}
use Rattle.pli_area.specs.Areas.{Block, Hole, Stand, rounded, start_of, end_of, end_from, hole_between, holes_from, block_at, with_block, without_block}
use Rattle.pli_area.proofs.FirstFits.{hole_start, hole_first, hole_passed, stands_above}

abbrev hole_of : (start room : ℕ) → Hole
hole_of start room = record { start = start; room = room }

-- two holes of the same place and room
hole_is : (a b c d : ℕ) → a ≡ c → b ≡ d → hole_of a b ≡ hole_of c d
hole_is a b c d e f = ap (λ n. hole_of n b) e ∙ ap (λ n. hole_of c n) f

-- ---- where holes lie

gap_lies : (from to : ℕ) (hs : List Hole) (end : ℕ) → from ≤ to → from % 8 ≡ 0 → to % 8 ≡ 0 → LieWithin to hs end → LieWithin from (hole_between from to hs) end
gap_lies from to hs end le even even_to l =
    elim (cases_lt from to) [
      | inl some ↦ let same : to ≡ from + (to - from) = omega (arith, some) in rw (lt-ltb from to some) (omega arith, omega (arith, even, even_to), omega (arith, some, even, even_to), subst (λ n. LieWithin n hs end) same l)
      | inr none ↦ rw (le-ltb from to none) (lie_lower to from hs end le l)
    ]

pub lies : (from c : ℕ) (bs : List Block) → from % 8 ≡ 0 → c % 8 ≡ 0 → Stand from bs → end_from from bs ≤ c → LieWithin from (holes_from from c bs) c
lies from c [] even even_c s within =
    let end : LieWithin c [] c = omega arith in
    gap_lies from c [] c within even even_c end
lies from c (b ∷ bs) even even_c s within =
    let low = s.0 in
    let aligned = s.1 in
    let inner = lies (end_of b) c bs (omega (arith, aligned)) even_c s.3 within in
    gap_lies from (start_of b) (holes_from (end_of b) c bs) c (omega (arith, low)) even (omega (arith, low, aligned)) (lie_lower (end_of b) (start_of b) (holes_from (end_of b) c bs) c (omega arith) inner)

-- where a block stands that is one of these
pub record StandsAt (from : ℕ) (b : Block) (position to : ℕ) : Type 0 where
  pub here : b.position ≡ position
  pub low : from + 8 ≤ b.position
  pub aligned : b.position % 8 ≡ 0
  pub counted : length b.bytes ≡ b.size
  pub high : end_of b ≤ to

pub stands_at : (from : ℕ) (bs : List Block) (position : ℕ) (b : Block) → Stand from bs → block_at bs position ≡ Some b → StandsAt from b position (end_from from bs)
stands_at from [] position b s e = absurd (none-some b e)
stands_at from (d ∷ ds) position b s e =
    elim (cases_eq d.position position) [
      | inl same ↦ subst (λ x. StandsAt from x position (end_from from (d ∷ ds))) (same_Some d b (sym (rw (eq-eqb d.position position same) refl) ∙ e)) (record {
        here = same;
        low = s.0;
        aligned = s.1;
        counted = s.2;
        high = stands_above (end_of d) ds s.3;
      })
      | inr other ↦ let inner = stands_at (end_of d) ds position b s.3 (sym (rw (ne_eqb d.position position other) refl) ∙ e) in let low = s.0 in let further = inner.low in record {
        here = inner.here;
        low = omega (arith, low, further);
        aligned = inner.aligned;
        counted = inner.counted;
        high = inner.high;
      }
    ]

-- ---- no hole is where a block is

apart_from : (start room from to : ℕ) (hs : List Hole) → ((start + room ≤ from) ⊎ (to ≤ start)) → hole.IsApart start room hs → hole.IsApart start room (hole_between from to hs)
apart_from start room from to hs side a =
    elim (cases_lt from to) [
      | inl some ↦ rw (lt-ltb from to some) (by some side, a)
      | inr none ↦ rw (le-ltb from to none) a
    ]
  where
    by : from < to → (start + room ≤ from) ⊎ (to ≤ start) → (start + room ≤ from) ⊎ (from + (to - from) ≤ start)
    by some (inl before) = inl before
    by some (inr after) = inr (omega (arith, some, after))

apart_before : (start room low : ℕ) (hs : List Hole) (to : ℕ) → LieWithin low hs to → start + room ≤ low → hole.IsApart start room hs
apart_before start room low [] to l before = tt
apart_before start room low (h ∷ hs) to l before =
    let above = l.0 in
    (inl (omega (arith, above, before)), apart_before start room (h.start + h.room) hs to l.3 (omega (arith, above, before)))

pub block_apart : (from c : ℕ) (bs : List Block) (position : ℕ) (b : Block) → from % 8 ≡ 0 → c % 8 ≡ 0 → Stand from bs → end_from from bs ≤ c → block_at bs position ≡ Some b → hole.IsApart (start_of b) (8 + rounded b.size) (holes_from from c bs)
block_apart from c [] position b even even_c s within e = absurd (none-some b e)
block_apart from c (d ∷ ds) position b even even_c s within e =
    elim (cases_eq d.position position) [
      | inl same ↦ subst (λ x. hole.IsApart (start_of x) (8 + rounded x.size) (holes_from from c (d ∷ ds))) (same_Some d b (sym (rw (eq-eqb d.position position same) refl) ∙ e)) first
      | inr other ↦ let there = sym (rw (ne_eqb d.position position other) refl) ∙ e in next there (block_apart (end_of d) c ds position b even_end even_c s.3 within there)
    ]
  where
    even_end : end_of d % 8 ≡ 0
    even_end = let aligned = s.1 in omega (arith, aligned)

    first : hole.IsApart (start_of d) (8 + rounded d.size) (holes_from from c (d ∷ ds))
    first =
        let low = s.0 in
        apart_from (start_of d) (8 + rounded d.size) from (start_of d) (holes_from (end_of d) c ds) (inr (omega arith))
        (apart_before (start_of d) (8 + rounded d.size) (end_of d) (holes_from (end_of d) c ds) c (lies (end_of d) c ds even_end even_c s.3 within) (omega (arith, low)))

    next : block_at ds position ≡ Some b → hole.IsApart (start_of b) (8 + rounded b.size) (holes_from (end_of d) c ds) → hole.IsApart (start_of b) (8 + rounded b.size) (holes_from from c (d ∷ ds))
    next there rest =
        let low = (stands_at (end_of d) ds position b s.3 there).low in
        apart_from (start_of b) (8 + rounded b.size) from (start_of d) (holes_from (end_of d) c ds) (inr (omega (arith, low))) rest

-- no block is below this place
none_before : (from : ℕ) (bs : List Block) (position : ℕ) → Stand from bs → position < from + 8 → block_at bs position ≡ None
none_before from [] position s low = refl
none_before from (d ∷ ds) position s low =
    let above = s.0 in
    rw (ne_eqb d.position position (omega (arith, above, low))) (none_before (end_of d) ds position s.3 (omega (arith, above, low)))

-- ---- a block more

gap_taken : (room from to : ℕ) (hs : List Hole) → 8 ≤ room → from + room ≤ to → taken room (hole_between from to hs) ≡ hole_between (from + room) to hs
gap_taken room from to hs big fits =
    elim (cases_lt (from + room) to) [
      | inl more ↦ rw (lt-ltb from to (omega (arith, big, fits)), le-leb room (to - from) (omega (arith, fits)), ne_eqb (to - from) room (omega (arith, more)), lt-ltb (from + room) to more) (ap (λ h. h ∷ hs) (hole_is (from + room) (to - from - room) (from + room) (to - (from + room)) refl (omega arith)))
      | inr all ↦ rw (lt-ltb from to (omega (arith, big, fits)), le-leb room (to - from) (omega (arith, fits)), eq-eqb (to - from) room (omega (arith, all, fits)), le-ltb (from + room) to all) refl
    ]

gap_left : (room from to : ℕ) (hs : List Hole) → to < from + room → taken room (hole_between from to hs) ≡ hole_between from to (taken room hs)
gap_left room from to hs short =
    elim (cases_lt from to) [
      | inl some ↦ rw (lt-ltb from to some, lt-leb room (to - from) (omega (arith, some, short))) refl
      | inr none ↦ rw (le-ltb from to none) refl
    ]

-- nothing is between a place and itself
no_gap : (from to : ℕ) (hs : List Hole) → to ≤ from → hole_between from to hs ≡ hs
no_gap from to hs none = rw (le-ltb from to none) refl

pub record Placed (from c room : ℕ) (bs : List Block) (b : Block) : Type 0 where
  pub low : from + 8 ≤ b.position
  pub aligned : b.position % 8 ≡ 0
  pub below : end_of b ≤ c
  pub absent : block_at bs b.position ≡ None
  pub stand : length b.bytes ≡ b.size → Stand from (with_block bs b)
  pub within : end_from from (with_block bs b) ≤ c
  pub holes : holes_from from c (with_block bs b) ≡ taken room (holes_from from c bs)
  pub end : end_from from (with_block bs b) ≡ max (end_from from bs) (end_of b)
  pub count : length (with_block bs b) ≡ length bs + 1

-- a block is put at the front of the first hole that is long enough
pub placed : (from c room start : ℕ) (bs : List Block) (b : Block) → from % 8 ≡ 0 → room ≡ 8 + rounded b.size → b.position ≡ start + 8 → Stand from bs → end_from from bs ≤ c → hole_start room (holes_from from c bs) ≡ Some start → Placed from c room bs b
placed from c room start [] b even is_room here s within e =
    elim (cases_lt c (from + room)) [
      | inl short ↦ absurd (none-some start (sym (hole_passed room from c [] short) ∙ e))
      | inr fits ↦ let same = same_Some from start (sym (hole_first room from c [] (omega (arith, is_room)) fits) ∙ e) in record {
        low = omega (arith, here, same);
        aligned = omega (arith, here, same, even);
        below = omega (arith, here, same, is_room, fits);
        absent = refl;
        stand = λ counted. (omega (arith, here, same), omega (arith, here, same, even), counted, tt);
        within = omega (arith, here, same, is_room, fits);
        holes = no_gap from (start_of b) (holes_from (end_of b) c []) (omega (arith, here, same))
            ∙ ap (λ n. hole_between n c []) (end_is same)
            ∙ sym (gap_taken room from c [] (omega (arith, is_room)) fits);
        end = omega (arith, here, same);
        count = refl;
      }
    ]
  where
    end_is : from ≡ start → end_of b ≡ from + room
    end_is same = omega (arith, here, same, is_room)
placed from c room start (d ∷ ds) b even is_room here s within e =
    elim (cases_lt (start_of d) (from + room)) [
      | inl short ↦ after short (placed (end_of d) c room start ds b even_end is_room here s.3 within (sym (hole_passed room from (start_of d) (holes_from (end_of d) c ds) short) ∙ e))
      | inr fits ↦ front fits (same_Some from start (sym (hole_first room from (start_of d) (holes_from (end_of d) c ds) (omega (arith, is_room)) fits) ∙ e))
    ]
  where
    even_end : end_of d % 8 ≡ 0
    even_end = let aligned = s.1 in omega (arith, aligned)

    end_is : from ≡ start → end_of b ≡ from + room
    end_is same = omega (arith, here, same, is_room)

    front : from + room ≤ start_of d → from ≡ start → Placed from c room (d ∷ ds) b
    front fits same =
        let low = s.0 in
        let above = stands_above (end_of d) ds s.3 in
        let first = lt-ltb b.position d.position (omega (arith, here, same, is_room, fits)) in
        record {
          low = omega (arith, here, same);
          aligned = omega (arith, here, same, even);
          below = omega (arith, here, same, is_room, fits, above, within, low);
          absent = rw (ne_eqb d.position b.position (omega (arith, here, same, is_room, fits))) (none_before (end_of d) ds b.position s.3 (omega (arith, here, same, low, is_room, fits)));
          stand = λ counted. rw first (omega (arith, here, same), omega (arith, here, same, even), counted, (omega (arith, here, same, is_room, fits, low), s.1, s.2, s.3));
          within = rw first within;
          holes = rw first (no_gap from (start_of b) (hole_between (end_of b) (start_of d) (holes_from (end_of d) c ds)) (omega (arith, here, same))
              ∙ ap (λ n. hole_between n (start_of d) (holes_from (end_of d) c ds)) (end_is same)
              ∙ sym (gap_taken room from (start_of d) (holes_from (end_of d) c ds) (omega (arith, is_room)) fits));
          end = rw first (omega (arith, here, same, is_room, fits, above, low));
          count = rw first (search arith);
        }

    after : start_of d < from + room → Placed (end_of d) c room ds b → Placed from c room (d ∷ ds) b
    after short inner =
        let low = s.0 in
        let further = inner.low in
        let second = le-ltb b.position d.position (omega (arith, further)) in
        record {
          low = omega (arith, low, further);
          aligned = inner.aligned;
          below = inner.below;
          absent = rw (ne_eqb d.position b.position (omega (arith, further))) inner.absent;
          stand = λ counted. rw second (s.0, s.1, s.2, inner.stand counted);
          within = rw second inner.within;
          holes = rw second (ap (hole_between from (start_of d)) inner.holes ∙ sym (gap_left room from (start_of d) (holes_from (end_of d) c ds) short));
          end = rw second inner.end;
          count = let n = inner.count in rw second (omega (arith, n));
        }

-- where no hole is long enough nothing is taken
pub none_taken : (room : ℕ) (hs : List Hole) → hole_start room hs ≡ None → taken room hs ≡ hs
none_taken room [] e = refl
none_taken room (h ∷ hs) e =
    elim (cases_lt h.room room) [
      | inl short ↦ rw (lt-leb room h.room short) (ap (λ gs. h ∷ gs) (none_taken room hs (sym (rw (lt-leb room h.room short) refl) ∙ e)))
      | inr long ↦ absurd (none-some h.start (sym e ∙ rw (le-leb room h.room long) refl))
    ]

-- a byte outside all holes is outside what is taken
pub outside_taken : (room start place : ℕ) (hs : List Hole) → hole_start room hs ≡ Some start → hole.IsOutside place hs → (place < start) ⊎ (start + room ≤ place)
outside_taken room start place [] e o = absurd (none-some start e)
outside_taken room start place (h ∷ hs) e o =
    elim (cases_lt h.room room) [
      | inl short ↦ outside_taken room start place hs (sym (rw (lt-leb room h.room short) refl) ∙ e) o.1
      | inr long ↦ by long (same_Some h.start start (sym (rw (le-leb room h.room long) refl) ∙ e)) o.0
    ]
  where
    by : room ≤ h.room → h.start ≡ start → (place < h.start) ⊎ (h.start + h.room ≤ place) → (place < start) ⊎ (start + room ≤ place)
    by long same (inl before) = inl (omega (arith, same, before))
    by long same (inr after) = inr (omega (arith, same, long, after))

-- a byte of what is apart from holes is outside them
pub outside_holes : (start room place : ℕ) (hs : List Hole) → hole.IsApart start room hs → start ≤ place → place < start + room → hole.IsOutside place hs
outside_holes start room place [] a low high = tt
outside_holes start room place (h ∷ hs) a low high = (by a.0, outside_holes start room place hs a.1 low high)
  where
    by : (start + room ≤ h.start) ⊎ (h.start + h.room ≤ start) → (place < h.start) ⊎ (h.start + h.room ≤ place)
    by (inl before) = inl (omega (arith, high, before))
    by (inr after) = inr (omega (arith, low, after))

-- what lies before a gap is outside it
pub outside_gap : (place from to : ℕ) → place < from → hole.IsOutside place (hole_between from to [])
outside_gap place from to less =
    elim (cases_lt from to) [
      | inl some ↦ rw (lt-ltb from to some) (inl less, tt)
      | inr none ↦ rw (le-ltb from to none) tt
    ]

-- words that differ only in what is apart from holes are the same in these
pub same_apart : (word word' : ℕ → ℕ) (start room low : ℕ) (hs : List Hole) (to : ℕ) → hole.IsApart start room hs → LieWithin low hs to → ((q : ℕ) → (q + 4 ≤ start) ⊎ (start + room ≤ q) → word' q ≡ word q) → SameWords word word' hs
same_apart word word' start room low [] to a l same = tt
same_apart word word' start room low (h ∷ hs) to a l same =
    (same h.start (first a.0), same (h.start + 4) (second a.0), same_apart word word' start room (h.start + h.room) hs to a.1 l.3 same)
  where
    first : (start + room ≤ h.start) ⊎ (h.start + h.room ≤ start) → (h.start + 4 ≤ start) ⊎ (start + room ≤ h.start)
    first (inl before) = inr before
    first (inr after) = let some = l.2 in inl (omega (arith, some, after))

    second : (start + room ≤ h.start) ⊎ (h.start + h.room ≤ start) → (h.start + 4 + 4 ≤ start) ⊎ (start + room ≤ h.start + 4)
    second (inl before) = inr (omega (arith, before))
    second (inr after) = let some = l.2 in inl (omega (arith, some, after))

-- ---- a block fewer

-- the first of these holes, if there is one, begins after a place
abbrev BeginAfter : (place : ℕ) → List Hole → Type 0
BeginAfter place [] = Unit {0}
BeginAfter place (h ∷ hs) = place < h.start

begin_after : (place low : ℕ) (hs : List Hole) (to : ℕ) → place < low → LieWithin low hs to → BeginAfter place hs
begin_after place low [] to less l = tt
begin_after place low (h ∷ hs) to less l =
    let above = l.0 in
    omega (arith, less, above)

gap_after : (place from to : ℕ) (hs : List Hole) → place < from → from ≤ to → BeginAfter to hs → BeginAfter place (hole_between from to hs)
gap_after place from to hs less le b =
    elim (cases_lt from to) [
      | inl some ↦ rw (lt-ltb from to some) less
      | inr none ↦ rw (le-ltb from to none) (by hs b)
    ]
  where
    by : (gs : List Hole) → BeginAfter to gs → BeginAfter place gs
    by [] b = tt
    by (g ∷ gs) b = omega (arith, less, le, b)

-- a hole joined to a gap that it touches
grown_gap : (start room from to : ℕ) (hs : List Hole) → from ≡ start + room → from ≤ to → BeginAfter to hs → grown start room (hole_between from to hs) ≡ hole_of start (to - start)
grown_gap start room from to hs same le b =
    elim (cases_lt from to) [
      | inl some ↦ rw (lt-ltb from to some, eq-eqb (start + room) from (sym same)) (hole_is start (room + (to - from)) start (to - start) refl (omega (arith, some, same)))
      | inr none ↦ rw (le-ltb from to none) (by hs b none)
    ]
  where
    by : (gs : List Hole) → BeginAfter to gs → to ≤ from → grown start room gs ≡ hole_of start (to - start)
    by [] b none = hole_is start (room + 0) start (to - start) refl (omega (arith, same, le, none))
    by (g ∷ gs) b none = rw (ne_eqb (start + room) g.start (omega (arith, same, b, le, none))) (hole_is start (room + 0) start (to - start) refl (omega (arith, same, le, none)))

beyond_gap : (from to : ℕ) (hs : List Hole) → from ≤ to → BeginAfter to hs → beyond from (hole_between from to hs) ≡ hs
beyond_gap from to hs le b =
    elim (cases_lt from to) [
      | inl some ↦ rw (lt-ltb from to some, eq-eqb from from refl) refl
      | inr none ↦ rw (le-ltb from to none) (by hs b none)
    ]
  where
    by : (gs : List Hole) → BeginAfter to gs → to ≤ from → beyond from gs ≡ gs
    by [] b none = refl
    by (g ∷ gs) b none = rw (ne_eqb from g.start (omega (arith, b, le, none))) refl

-- what is given back before all holes
given_before : (start room : ℕ) (hs : List Hole) → BeginAfter start hs → given start room hs ≡ grown start room hs ∷ beyond (start + room) hs
given_before start room [] b = refl
given_before start room (h ∷ hs) b = rw (lt-ltb start h.start b) refl

hole_before : (start room : ℕ) (hs : List Hole) → BeginAfter start hs → hole_given start room hs ≡ grown start room hs
hole_before start room [] b = refl
hole_before start room (h ∷ hs) b = rw (lt-ltb start h.start b) refl

-- what is given back between two gaps, of which each may be empty, is one with them
record Joins (start room from end to : ℕ) (hs : List Hole) : Type 0 where
  list : given start room (hole_between from start (hole_between end to hs)) ≡ hole_between from to hs
  begin : (hole_given start room (hole_between from start (hole_between end to hs))).start ≡ from

joins : (start room from end to : ℕ) (hs : List Hole) → end ≡ start + room → 8 ≤ room → from ≤ start → end ≤ to → BeginAfter to hs → Joins start room from end to hs
joins start room from end to hs same big low high b =
    elim (cases_lt from start) [
      | inl some ↦ record {
        list = rw (lt-ltb from start some, le-ltb start from (omega (arith, some)), eq-eqb (from + (start - from)) start (omega (arith, some)), lt-ltb from to (omega (arith, low, same, high, big))) (both (from + (start - from + room)) (omega (arith, some, same)) (widened some));
        begin = rw (lt-ltb from start some, le-ltb start from (omega (arith, some)), eq-eqb (from + (start - from)) start (omega (arith, some))) (ap (λ (h : Hole). h.start) (widened some));
      }
      | inr none ↦ record {
        list = rw (le-ltb from start none, lt-ltb from to (omega (arith, low, same, high, big))) (given_before start room (hole_between end to hs) after ∙ both (start + room) same (alone none));
        begin = rw (le-ltb from start none) (ap (λ (h : Hole). h.start) (hole_before start room (hole_between end to hs) after ∙ alone none));
      }
    ]
  where
    after : BeginAfter start (hole_between end to hs)
    after = gap_after start end to hs (omega (arith, same, big)) high b

    widened : from < start → grown from (start - from + room) (hole_between end to hs) ≡ hole_of from (to - from)
    widened some = grown_gap from (start - from + room) end to hs (omega (arith, some, same)) high b

    alone : start ≤ from → grown start room (hole_between end to hs) ≡ hole_of from (to - from)
    alone none =
        let is : start ≡ from = omega (arith, none, low) in
        grown_gap start room end to hs same high b ∙ hole_is start (to - start) from (to - from) is (ap (λ n. to - n) is)

    both : {h : Hole} (place : ℕ) → end ≡ place → h ≡ hole_of from (to - from) → h ∷ beyond place (hole_between end to hs) ≡ hole_of from (to - from) ∷ hs
    both {h} place is e = ap (λ g. g ∷ beyond place (hole_between end to hs)) e ∙ ap (λ gs. hole_of from (to - from) ∷ gs) (ap (λ n. beyond n (hole_between end to hs)) (sym is) ∙ beyond_gap end to hs high b)

-- what is given back after a gap
given_after : (start room from to : ℕ) (hs : List Hole) → to < start → given start room (hole_between from to hs) ≡ hole_between from to (given start room hs)
given_after start room from to hs less =
    elim (cases_lt from to) [
      | inl some ↦ rw (lt-ltb from to some, le-ltb start from (omega (arith, some, less)), ne_eqb (from + (to - from)) start (omega (arith, some, less))) refl
      | inr none ↦ rw (le-ltb from to none) refl
    ]

hole_after : (start room from to : ℕ) (hs : List Hole) → to < start → hole_given start room (hole_between from to hs) ≡ hole_given start room hs
hole_after start room from to hs less =
    elim (cases_lt from to) [
      | inl some ↦ rw (lt-ltb from to some, le-ltb start from (omega (arith, some, less)), ne_eqb (from + (to - from)) start (omega (arith, some, less))) refl
      | inr none ↦ rw (le-ltb from to none) refl
    ]

lower_stand : (low from : ℕ) (bs : List Block) → low ≤ from → Stand from bs → Stand low bs
lower_stand low from [] le s = tt
lower_stand low from (b ∷ bs) le s =
    let above = s.0 in
    (omega (arith, above, le), s.1, s.2, s.3)

pub record Removed (from c : ℕ) (bs : List Block) (position : ℕ) (b : Block) : Type 0 where
  pub stand : Stand from (without_block bs position)
  pub within : end_from from (without_block bs position) ≤ c
  pub holes : holes_from from c (without_block bs position) ≡ given (start_of b) (8 + rounded b.size) (holes_from from c bs)
  pub last : end_of b ≡ end_from from bs → end_from from (without_block bs position) ≡ (hole_given (start_of b) (8 + rounded b.size) (holes_from from c bs)).start
  pub other : (end_of b ≡ end_from from bs → ⊥) → end_from from (without_block bs position) ≡ end_from from bs
  pub count : length (without_block bs position) + 1 ≡ length bs

-- the first is taken away
first_removed : (from c : ℕ) (b : Block) (bs : List Block) (position : ℕ) → b.position ≡ position → c % 8 ≡ 0 → Stand from (b ∷ bs) → end_from from (b ∷ bs) ≤ c → Removed from c (b ∷ bs) position b
first_removed from c b [] position here even s within =
    let low = s.0 in
    let gone = eq-eqb b.position position here in
    let join = joins (start_of b) (8 + rounded b.size) from (end_of b) c [] (omega (arith, low)) (omega arith) (omega (arith, low)) within tt in
    record {
      stand = rw gone tt;
      within = rw gone (omega (arith, low, within));
      holes = rw gone (sym join.list);
      last = λ ends. rw gone (sym join.begin);
      other = λ not_last. absurd (not_last refl);
      count = rw gone (search arith);
    }
first_removed from c b (d ∷ ds) position here even s within =
    let low = s.0 in
    let next = s.3.0 in
    let aligned = s.3.1 in
    let above = stands_above (end_of d) ds s.3.3 in
    let gone = eq-eqb b.position position here in
    let rest = holes_from (end_of d) c ds in
    let after = begin_after (start_of d) (end_of d) rest c (omega (arith, next)) (lies (end_of d) c ds (omega (arith, aligned)) even s.3.3 within) in
    let join = joins (start_of b) (8 + rounded b.size) from (end_of b) (start_of d) rest (omega (arith, low)) (omega arith) (omega (arith, low)) (omega (arith, next)) after in
    record {
      stand = rw gone (lower_stand from (end_of b) (d ∷ ds) (omega (arith, low)) s.3);
      within = rw gone within;
      holes = rw gone (sym join.list);
      last = λ ends. absurd (omega (arith, ends, next, above));
      other = λ not_last. rw gone refl;
      count = rw gone (search arith);
    }

-- the block at a position is taken away
pub removed : (from c : ℕ) (bs : List Block) (position : ℕ) (b : Block) → c % 8 ≡ 0 → Stand from bs → end_from from bs ≤ c → block_at bs position ≡ Some b → Removed from c bs position b
removed from c [] position b even s within e = absurd (none-some b e)
removed from c (d ∷ ds) position b even s within e =
    elim (cases_eq d.position position) [
      | inl same ↦ subst (Removed from c (d ∷ ds) position) (same_Some d b (sym (rw (eq-eqb d.position position same) refl) ∙ e)) (first_removed from c d ds position same even s within)
      | inr other ↦ let there = sym (rw (ne_eqb d.position position other) refl) ∙ e in next other there (removed (end_of d) c ds position b even s.3 within there)
    ]
  where
    next : (d.position ≡ position → ⊥) → block_at ds position ≡ Some b → Removed (end_of d) c ds position b → Removed from c (d ∷ ds) position b
    next other there inner =
        let low = (stands_at (end_of d) ds position b s.3 there).low in
        let less : start_of d < start_of b = omega (arith, low) in
        let stays = ne_eqb d.position position other in
        record {
          stand = rw stays (s.0, s.1, s.2, inner.stand);
          within = rw stays inner.within;
          holes = rw stays (ap (hole_between from (start_of d)) inner.holes ∙ sym (given_after (start_of b) (8 + rounded b.size) from (start_of d) (holes_from (end_of d) c ds) less));
          last = λ ends. rw stays (inner.last ends ∙ ap (λ (h : Hole). h.start) (sym (hole_after (start_of b) (8 + rounded b.size) from (start_of d) (holes_from (end_of d) c ds) less)));
          other = λ not_last. rw stays (inner.other not_last);
          count = let n = inner.count in rw stays (omega (arith, n));
        }

-- ---- another capacity

-- the holes before the last block
abbrev pub holes_below : (from : ℕ) → List Block → List Hole
holes_below from [] = []
holes_below from (b ∷ bs) = hole_between from (start_of b) (holes_below (end_of b) bs)

gap_append : (from to : ℕ) (hs gs : List Hole) → hole_between from to (hs ++ gs) ≡ hole_between from to hs ++ gs
gap_append from to hs gs =
    elim (cases_lt from to) [
      | inl some ↦ rw (lt-ltb from to some) refl
      | inr none ↦ rw (le-ltb from to none) refl
    ]

pub below_and_last : (from c : ℕ) (bs : List Block) → holes_from from c bs ≡ holes_below from bs ++ hole_between (end_from from bs) c []
below_and_last from c [] = refl
below_and_last from c (b ∷ bs) =
    ap (hole_between from (start_of b)) (below_and_last (end_of b) c bs) ∙ gap_append from (start_of b) (holes_below (end_of b) bs) (hole_between (end_from (end_of b) bs) c [])

pub below_lies : (from : ℕ) (bs : List Block) → from % 8 ≡ 0 → Stand from bs → LieWithin from (holes_below from bs) (end_from from bs)
below_lies from [] even s = omega arith
below_lies from (b ∷ bs) even s =
    let low = s.0 in
    let aligned = s.1 in
    let inner = below_lies (end_of b) bs (omega (arith, aligned)) s.3 in
    gap_lies from (start_of b) (holes_below (end_of b) bs) (end_from (end_of b) bs) (omega (arith, low)) even (omega (arith, low, aligned)) (lie_lower (end_of b) (start_of b) (holes_below (end_of b) bs) (end_from (end_of b) bs) (omega arith) inner)

-- where the last hole begins
pub last_begins : (word : ℕ → ℕ) (at from to : ℕ) → from ≤ to → Leads word at (hole_between from to []) to → at ≡ from
last_begins word at from to le l =
    elim (cases_lt from to) [
      | inl some ↦ (rw (lt-ltb from to some) at l).0
      | inr none ↦ let same = rw (le-ltb from to none) at l in omega (arith, same, le, none)
    ]

pub even_end : (from : ℕ) (bs : List Block) → from % 8 ≡ 0 → Stand from bs → end_from from bs % 8 ≡ 0
even_end from [] even s = even
even_end from (b ∷ bs) even s =
    let aligned = s.1 in
    even_end (end_of b) bs (omega (arith, aligned)) s.3

-- each block takes at least 8 bytes
pub few_blocks : (from : ℕ) (bs : List Block) → Stand from bs → from + 8 * length bs ≤ end_from from bs
few_blocks from [] s = omega arith
few_blocks from (b ∷ bs) s =
    let e = few_blocks (end_of b) bs s.3 in
    let low = s.0 in
    omega (arith, e, low)
