-- Bytes that are written: what blocks then are.
use Rattle.std.proofs.Common.{◌≡◌, ℕ, suc, ◌+◌, ◌*◌, ◌<◌, ◌≤◌, Bool, true, false, List, [], ◌∷◌, length, take, drop, get_or, Some, refl, sym, ap, ◌∙◌, subst, arith, rules, eq-eqb, ne_eqb, inl, inr}
use Rattle.std.proofs.lemmas.Bool.{cases_eq}
use Rattle.std.proofs.lemmas.List.{same_lists, places, get_or_default}
use Rattle.std.proofs.lemmas.Option.{same_Some, none-some}
use Rattle.pli_region.specs.Words.{word_at, overwritten}
use Rattle.pli_holes.proofs.WordLemmas.{byte_other}
pub use Rattle.pli_holes.proofs.WordLemmas.{count_over}
use Rattle.pli_area.specs.Areas.{Block, Stand, start_of, end_of, end_from, holes_from, block_at, with_bytes, hole_between}
use Rattle.pli_area.specs.views.AreaView.{block_from, blocks_from}
use Rattle.pli_area.proofs.BlockHoles.{stands_at}
use Rattle.pli_area.proofs.FirstFits.{stands_above}
use Rattle.pli_area.proofs.MarkLemmas.{found, same_blocks}

-- the bytes of two lists from one place to another are the same
abbrev pub Same : (xs ys : List ℕ) (from to : ℕ) → Type 0
Same xs ys from to = (k : ℕ) → from ≤ k → k < to → get_or ys k 0 ≡ get_or xs k 0

-- ---- a block of other bytes

abbrev block_of : (position description size : ℕ) (bytes : List ℕ) → Block
block_of position description size bytes = record { position = position; description = description; size = size; bytes = bytes }

pub word_same : (xs ys : List ℕ) (from to at : ℕ) → Same xs ys from to → from ≤ at → at + 4 ≤ to → word_at ys at ≡ word_at xs at
word_same xs ys from to at same low high =
    let a = same at low (omega (arith, high)) in
    let b = same (at + 1) (omega (arith, low)) (omega (arith, high)) in
    let c = same (at + 2) (omega (arith, low)) (omega (arith, high)) in
    let d = same (at + 3) (omega (arith, low)) (omega (arith, high)) in
    omega (arith, a, b, c, d)

part_same : (xs ys : List ℕ) (from count : ℕ) → from + count ≤ length xs → from + count ≤ length ys → Same xs ys from (from + count) → take count (drop from ys) ≡ take count (drop from xs)
part_same xs ys from count short long same =
    same_lists (take count (drop from ys)) (take count (drop from xs)) (search (rules, places)) each
  where
    counts : length (take count (drop from ys)) ≡ count
    counts = search (rules, places)

    each : (k d : ℕ) → k < length (take count (drop from ys)) → get_or (take count (drop from ys)) k d ≡ get_or (take count (drop from xs)) k d
    each k d l =
        let less : k < count = omega (arith, l, counts) in
        let here = same (from + k) (omega arith) (omega (arith, less)) in
        let left : get_or (take count (drop from ys)) k d ≡ get_or ys (from + k) d = grind (arith, places) in
        let right : get_or (take count (drop from xs)) k d ≡ get_or xs (from + k) d = grind (arith, places) in
        left ∙ get_or_default ys (from + k) d 0 (omega (arith, less, long)) ∙ here ∙ get_or_default xs (from + k) 0 d (omega (arith, less, short)) ∙ sym right

pub block_same : (xs ys : List ℕ) (at : ℕ) → at + 8 + word_at xs (at + 4) ≤ length xs → at + 8 + word_at xs (at + 4) ≤ length ys → Same xs ys at (at + 8 + word_at xs (at + 4)) → block_from ys at ≡ block_from xs at
block_same xs ys at short long same =
    ap (λ d. block_of (at + 8) d (word_at ys (at + 4)) (take (word_at ys (at + 4)) (drop (at + 8) ys))) (word_same xs ys at (at + 8 + word_at xs (at + 4)) at same (omega arith) (omega arith))
    ∙ ap (λ n. block_of (at + 8) (word_at xs at) n (take n (drop (at + 8) ys))) (word_same xs ys at (at + 8 + word_at xs (at + 4)) (at + 4) same (omega arith) (omega arith))
    ∙ ap (block_of (at + 8) (word_at xs at) (word_at xs (at + 4))) (part_same xs ys (at + 8) (word_at xs (at + 4)) short long (λ k low high. same k (omega (arith, low)) high))

-- ---- blocks of other bytes

-- where the bytes that each block covers are the same, blocks are
pub blocks_kept : (xs ys : List ℕ) (marks : List Bool) → Stand 0 (blocks_from xs 0 marks) → end_from 0 (blocks_from xs 0 marks) ≤ length xs → length ys ≡ length xs
    → ((position : ℕ) (b : Block) → block_at (blocks_from xs 0 marks) position ≡ Some b → Same xs ys (start_of b) (end_of b)) → blocks_from ys 0 marks ≡ blocks_from xs 0 marks
blocks_kept xs ys marks s within counts same = same_blocks xs ys 0 marks each
  where
    each : (k : ℕ) → get_or marks k false ≡ true → block_from ys (0 + 8 * k) ≡ block_from xs (0 + 8 * k)
    each k is_set =
        let there = found xs 0 marks k (0 + 8 * k) refl is_set in
        let high = (stands_at 0 (blocks_from xs 0 marks) (0 + 8 * k + 8) (block_from xs (0 + 8 * k)) s there).high in
        let bytes = same (0 + 8 * k + 8) (block_from xs (0 + 8 * k)) there in
        block_same xs ys (0 + 8 * k) (omega (arith, high, within)) (omega (arith, high, within, counts)) (λ n low less. bytes n (omega (arith, low)) (omega (arith, less)))

-- where all bytes from one place to another are the same, blocks between them are
pub blocks_alike : (xs ys : List ℕ) (low from to : ℕ) (marks : List Bool) → Stand low (blocks_from xs from marks) → end_from low (blocks_from xs from marks) ≤ to → to ≤ length xs → to ≤ length ys
    → Same xs ys low to → blocks_from ys from marks ≡ blocks_from xs from marks
blocks_alike xs ys low from to [] s within short long same = refl
blocks_alike xs ys low from to (false ∷ marks) s within short long same = blocks_alike xs ys low (from + 8) to marks s within short long same
blocks_alike xs ys low from to (true ∷ marks) s within short long same =
    let first = s.0 in
    let above = stands_above (end_of (block_from xs from)) (blocks_from xs (from + 8) marks) s.3 in
    let block = block_same xs ys from (omega (arith, above, within, short)) (omega (arith, above, within, long)) (λ k low less. same k (omega (arith, first, low)) (omega (arith, above, within, less))) in
    let rest = blocks_alike xs ys (end_of (block_from xs from)) (from + 8) to marks s.3 within short long (λ k low less. same k (omega (arith, first, low)) less) in
    ap (λ d. d ∷ blocks_from ys (from + 8) marks) block ∙ ap (λ ds. block_from xs from ∷ ds) rest

-- ---- bytes of a block

-- a part of a part
pub part_of_part : (xs : List ℕ) (from count at few : ℕ) → at + few ≤ count → from + count ≤ length xs → take few (drop (from + at) xs) ≡ take few (drop at (take count (drop from xs)))
part_of_part xs from count at few fits high = same_lists _ _ (search (rules, places)) (λ k d h. grind (arith, places))

-- the part within which bytes are written has them
part_within : (xs : List ℕ) (at : ℕ) (new : List ℕ) (from count : ℕ) → at + length new ≤ count → from + count ≤ length xs → take count (drop from (overwritten xs (from + at) new)) ≡ overwritten (take count (drop from xs)) at new
part_within xs at new from count fits high = same_lists _ _ (search (rules, places)) (λ k d h. grind (arith, places))

-- the block into which they are written
block_written : (xs : List ℕ) (at : ℕ) (new : List ℕ) (from : ℕ) → from + 8 + word_at xs (from + 4) ≤ length xs → at + length new ≤ word_at xs (from + 4)
    → block_from (overwritten xs (from + 8 + at) new) from ≡ record (block_from xs from) { bytes = overwritten (take (word_at xs (from + 4)) (drop (from + 8) xs)) at new }
block_written xs at new from high fits =
    ap (λ d. block_of (from + 8) d (word_at (overwritten xs (from + 8 + at) new) (from + 4)) (take (word_at (overwritten xs (from + 8 + at) new) (from + 4)) (drop (from + 8) (overwritten xs (from + 8 + at) new)))) (word_same xs (overwritten xs (from + 8 + at) new) from (from + 8) from header (omega arith) (omega arith))
    ∙ ap (λ n. block_of (from + 8) (word_at xs from) n (take n (drop (from + 8) (overwritten xs (from + 8 + at) new)))) (word_same xs (overwritten xs (from + 8 + at) new) from (from + 8) (from + 4) header (omega arith) (omega arith))
    ∙ ap (block_of (from + 8) (word_at xs from) (word_at xs (from + 4))) (part_within xs at new (from + 8) (word_at xs (from + 4)) fits high)
  where
    header : Same xs (overwritten xs (from + 8 + at) new) from (from + 8)
    header k low less = byte_other xs (from + 8 + at) new k (omega (arith, fits, high)) (inl (omega (arith, less)))

-- bytes are written into the block at a position
pub written : (xs : List ℕ) (at : ℕ) (new : List ℕ) (low from : ℕ) (marks : List Bool) (position : ℕ) (b : Block) → Stand low (blocks_from xs from marks) → end_from low (blocks_from xs from marks) ≤ length xs
    → block_at (blocks_from xs from marks) position ≡ Some b → at + length new ≤ b.size → blocks_from (overwritten xs (position + at) new) from marks ≡ with_bytes (blocks_from xs from marks) position at new
written xs at new low from [] position b s within e fits = absurd (none-some b e)
written xs at new low from (false ∷ marks) position b s within e fits = written xs at new low (from + 8) marks position b s within e fits
written xs at new low from (true ∷ marks) position b s within e fits =
    elim (cases_eq (from + 8) position) [
      | inl same ↦ subst (λ n. blocks_from (overwritten xs (n + at) new) from (true ∷ marks) ≡ with_bytes (blocks_from xs from (true ∷ marks)) n at new) same (here (subst (λ (d : Block). at + length new ≤ d.size) (sym (same_Some (block_from xs from) b (sym (rw (eq-eqb (from + 8) position same) refl) ∙ e))) fits))
      | inr other ↦ let there = sym (rw (ne_eqb (from + 8) position other) refl) ∙ e in further other (stands_at (end_of (block_from xs from)) (blocks_from xs (from + 8) marks) position b s.3 there).here (stands_at (end_of (block_from xs from)) (blocks_from xs (from + 8) marks) position b s.3 there).low (stands_at (end_of (block_from xs from)) (blocks_from xs (from + 8) marks) position b s.3 there).high (written xs at new (end_of (block_from xs from)) (from + 8) marks position b s.3 within there fits)
    ]
  where
    above : end_of (block_from xs from) ≤ length xs
    above = let e = stands_above (end_of (block_from xs from)) (blocks_from xs (from + 8) marks) s.3 in omega (arith, e, within)

    here : at + length new ≤ word_at xs (from + 4) → blocks_from (overwritten xs (from + 8 + at) new) from (true ∷ marks) ≡ with_bytes (blocks_from xs from (true ∷ marks)) (from + 8) at new
    here fit =
        let block = block_written xs at new from (omega (arith, above)) fit in
        let rest = blocks_alike xs (overwritten xs (from + 8 + at) new) (end_of (block_from xs from)) (from + 8) (length xs) marks s.3 within (omega arith) (let n = count_over xs (from + 8 + at) new (omega (arith, fit, above)) in omega (arith, n)) (λ k low less. byte_other xs (from + 8 + at) new k (omega (arith, fit, above)) (inr (omega (arith, fit, low)))) in
        rw (eq-eqb (from + 8) (from + 8) refl) (ap (λ d. d ∷ blocks_from (overwritten xs (from + 8 + at) new) (from + 8) marks) block ∙ ap (λ ds. record (block_from xs from) { bytes = overwritten (take (word_at xs (from + 4)) (drop (from + 8) xs)) at new } ∷ ds) rest)

    further : (from + 8 ≡ position → ⊥) → b.position ≡ position → end_of (block_from xs from) + 8 ≤ b.position → end_of b ≤ end_from (end_of (block_from xs from)) (blocks_from xs (from + 8) marks)
        → blocks_from (overwritten xs (position + at) new) (from + 8) marks ≡ with_bytes (blocks_from xs (from + 8) marks) position at new
        → blocks_from (overwritten xs (position + at) new) from (true ∷ marks) ≡ with_bytes (blocks_from xs from (true ∷ marks)) position at new
    further other is after high rest =
        let inside : position + at + length new ≤ length xs = omega (arith, is, high, within, fits) in
        let n = count_over xs (position + at) new inside in
        let block = block_same xs (overwritten xs (position + at) new) from (omega (arith, above)) (omega (arith, above, n)) (λ k low less. byte_other xs (position + at) new k inside (inl (omega (arith, less, is, after)))) in
        rw (ne_eqb (from + 8) position other) (ap (λ d. d ∷ blocks_from (overwritten xs (position + at) new) (from + 8) marks) block ∙ ap (λ ds. block_from xs from ∷ ds) rest)

-- ---- blocks with other bytes

pub stand_written : (low : ℕ) (bs : List Block) (position at : ℕ) (new : List ℕ) (b : Block) → Stand low bs → block_at bs position ≡ Some b → at + length new ≤ b.size → Stand low (with_bytes bs position at new)
stand_written low [] position at new b s e fits = tt
stand_written low (d ∷ ds) position at new b s e fits =
    elim (cases_eq d.position position) [
      | inl same ↦ rw (eq-eqb d.position position same) (s.0, s.1, here (same_Some d b (sym (rw (eq-eqb d.position position same) refl) ∙ e)), s.3)
      | inr other ↦ rw (ne_eqb d.position position other) (s.0, s.1, s.2, stand_written (end_of d) ds position at new b s.3 (sym (rw (ne_eqb d.position position other) refl) ∙ e) fits)
    ]
  where
    here : d ≡ b → length (overwritten d.bytes at new) ≡ d.size
    here is =
        let counts = s.2 in
        let fit = subst (λ (x : Block). at + length new ≤ x.size) (sym is) fits in
        count_over d.bytes at new (omega (arith, counts, fit)) ∙ counts

pub end_written : (low : ℕ) (bs : List Block) (position at : ℕ) (new : List ℕ) → end_from low (with_bytes bs position at new) ≡ end_from low bs
end_written low [] position at new = refl
end_written low (d ∷ ds) position at new =
    elim (cases_eq d.position position) [
      | inl same ↦ rw (eq-eqb d.position position same) refl
      | inr other ↦ rw (ne_eqb d.position position other) (end_written (end_of d) ds position at new)
    ]

pub count_written : (bs : List Block) (position at : ℕ) (new : List ℕ) → length (with_bytes bs position at new) ≡ length bs
count_written [] position at new = refl
count_written (d ∷ ds) position at new =
    elim (cases_eq d.position position) [
      | inl same ↦ rw (eq-eqb d.position position same) refl
      | inr other ↦ rw (ne_eqb d.position position other) (ap suc (count_written ds position at new))
    ]

pub holes_written : (from c : ℕ) (bs : List Block) (position at : ℕ) (new : List ℕ) → holes_from from c (with_bytes bs position at new) ≡ holes_from from c bs
holes_written from c [] position at new = refl
holes_written from c (d ∷ ds) position at new =
    elim (cases_eq d.position position) [
      | inl same ↦ rw (eq-eqb d.position position same) refl
      | inr other ↦ rw (ne_eqb d.position position other) (ap (hole_between from (start_of d)) (holes_written (end_of d) c ds position at new))
    ]
