-- What an allocation leaves of an area's fields, and what its blocks then are.
use Rattle.std.proofs.Common.{◌≡◌, ℕ, ◌+◌, ◌-◌, ◌/◌, ◌%◌, ◌^◌, ◌<◌, ◌≤◌, ◌⊎◌, max, Bool, true, false, nat_le, Option, List, [], length, take, drop, replicate, get_or, set, Some, None, refl, sym, ap, ◌∙◌, subst, arith, rules, inl, inr}
use Rattle.std.specs.Option.{option_map}
use Rattle.std.proofs.lemmas.Bool.{cases_Bool}
use Rattle.std.proofs.lemmas.List.{get_or-set_same, length-replicate, length-set, places}
use Rattle.std.proofs.lemmas.Option.{MatchOption-at_some, MatchOption-at_none, none-some}
use Rattle.pli_region.specs.Words.{word_at, bytes_of, overwritten}
use Rattle.pli_holes.specs.Holes as hole
use Rattle.pli_holes.specs.Holes.{Leads, LieWithin, Spells, ChangesWithin, taken}
use Rattle.pli_holes.specs.Steps.{ChangesOnly}
use Rattle.pli_holes.proofs.LeadLemmas.{leads_kept}
use Rattle.pli_holes.proofs.WordLemmas.{changes_over, changes_then, changes_wider, count_over, word_here, word_kept, word_other}
use Rattle.pli_area.specs.Areas.{Block, Blocks, IsAdded, IsArea, IsFull, IsLeast, rounded, start_of, end_of, holes_from, block_at, with_block, first_fit}
use Rattle.pli_area.specs.Held.{AreHeld, IsHeld}
use Rattle.pli_area.specs.views.AreaView.{block_from, blocks_from}
use Rattle.pli_area.proofs.BlockBytes.{Same, blocks_kept}
use Rattle.pli_area.proofs.BlockHoles.{Placed, block_apart, few_blocks, none_taken, outside_holes, outside_taken, placed, same_apart, stands_at}
use Rattle.pli_area.proofs.FirstFits.{first_is_least, hole_start, mapped}
use Rattle.pli_area.proofs.MarkLemmas.{found, marked}

-- the first hole that is long enough, as the first fit
pub fit_at : (a : Blocks) (size : ℕ) (o : Option ℕ) → hole_start (8 + rounded size) (holes_from 0 a.capacity a.blocks) ≡ o → first_fit a size ≡ option_map (λ n. n + 8) o
fit_at a size o e = mapped (λ n. n + 8) (λ h. nat_le (8 + rounded size) h.room) (holes_from 0 a.capacity a.blocks) ∙ ap (option_map (λ n. n + 8)) e

-- the fields are those of an area
pub held_area : {bytes : List ℕ} {marks : List Bool} {first end count visited : ℕ} → IsHeld bytes marks first end count → IsArea (record { capacity = length bytes; blocks = blocks_from bytes 0 marks; visited = visited })
held_area held = record { aligned = held.aligned; small = held.small; stand = held.stand; within = held.within }

-- the least position, and none
pub least_of : (a : Blocks) (size position : ℕ) → IsArea a → first_fit a size ≡ Some position → IsLeast a size position
least_of a size position is place = MatchOption-at_some (IsFull a size) (IsLeast a size) position place (first_is_least a size is)

pub full_of : (a : Blocks) (size : ℕ) → IsArea a → first_fit a size ≡ None → IsFull a size
full_of a size is place = MatchOption-at_none (IsFull a size) (IsLeast a size) place (first_is_least a size is)

-- where nothing is taken
pub full_held : {bytes : List ℕ} {marks : List Bool} {first end count : ℕ} → IsHeld bytes marks first end count → (room : ℕ) (new : List ℕ) (first' : ℕ) → hole_start room (holes_from 0 (length bytes) (blocks_from bytes 0 marks)) ≡ None → new ≡ bytes
    → Spells new first' (taken room (holes_from 0 (length bytes) (blocks_from bytes 0 marks))) → IsHeld new marks first' end count
full_held {bytes} {marks} {first} {end} {count} held room new first' none same spelled =
    subst (λ bs. IsHeld bs marks first' end count) (sym same) (record {
      aligned = held.aligned;
      small = held.small;
      marked = held.marked;
      stand = held.stand;
      within = held.within;
      spelled = subst (Spells bytes first') (none_taken room (holes_from 0 (length bytes) (blocks_from bytes 0 marks)) none) (subst (λ bs. Spells bs first' (taken room (holes_from 0 (length bytes) (blocks_from bytes 0 marks)))) same spelled);
      ends = held.ends;
      counted = held.counted;
    })

module _ {bytes : List ℕ} {marks : List Bool} {first end count : ℕ} (held : IsHeld bytes marks first end count) (description size start : ℕ)
    (fits : hole_start (8 + rounded size) (holes_from 0 (length bytes) (blocks_from bytes 0 marks)) ≡ Some start) where
  -- the block with any bytes
  place_with : (bs : List ℕ) → Placed 0 (length bytes) (8 + rounded size) (blocks_from bytes 0 marks) (record { position = start + 8; description = description; size = size; bytes = bs })
  place_with bs = placed 0 (length bytes) (8 + rounded size) start (blocks_from bytes 0 marks) (record { position = start + 8; description = description; size = size; bytes = bs }) refl refl refl held.stand held.within fits

  pub start_even : start % 8 ≡ 0
  start_even =
      let a = (place_with []).aligned in
      omega (arith, a)

  pub start_below : start + 8 + rounded size ≤ length bytes
  start_below =
      let b = (place_with []).below in
      omega (arith, b)

  pub mark_inside : start / 8 < length marks
  mark_inside =
      let b = start_below in
      let n = held.marked in
      omega (arith, b, n)

  mark_clear : get_or marks (start / 8) false ≡ false
  mark_clear =
      elim (cases_Bool (get_or marks (start / 8) false)) [
        | inl is_set ↦ absurd (none-some (block_from bytes start) (sym (place_with []).absent ∙ found bytes 0 marks (start / 8) start (let e = start_even in omega (arith, e)) is_set))
        | inr clear ↦ clear
      ]

  pub room_for_one : count + 1 ≤ length bytes
  room_for_one =
      let place = place_with (replicate size 0) in
      let few = few_blocks 0 (with_block (blocks_from bytes 0 marks) (record { position = start + 8; description = description; size = size; bytes = replicate size 0 })) (place.stand (length-replicate size 0)) in
      let more = place.count in
      let within = place.within in
      let counted = held.counted in
      omega (arith, few, more, within, counted)

  module _ (mid new : List ℕ) (first' : ℕ) (kept : ChangesWithin (holes_from 0 (length bytes) (blocks_from bytes 0 marks)) bytes mid)
      (is : new ≡ overwritten (overwritten mid start (bytes_of description)) (start + 4) (bytes_of size)) (small_description : description < 2 ^ 32) (small_size : size < 2 ^ 32) where
    abbrev block : Block
    block = record { position = start + 8; description = description; size = size; bytes = take size (drop (start + 8) new) }

    place : Placed 0 (length bytes) (8 + rounded size) (blocks_from bytes 0 marks) block
    place = place_with (take size (drop (start + 8) new))

    inside : start + 8 ≤ length mid
    inside =
        let b = start_below in
        let n = kept.count in
        omega (arith, b, n)

    -- the first word, and then the second
    half : List ℕ
    half = overwritten mid start (bytes_of description)

    half_inside : start + 4 + 4 ≤ length half
    unfolding half
    half_inside =
        let i = inside in
        let n = count_over mid start (bytes_of description) (omega (arith, i)) in
        omega (arith, i, n)

    both : ChangesOnly start (start + 8) mid (overwritten half (start + 4) (bytes_of size))
    unfolding half
    both =
        let i = inside in
        let h = half_inside in
        changes_then (changes_wider (changes_over mid start (bytes_of description) (omega (arith, i))) (omega arith) (omega arith)) (changes_wider (changes_over half (start + 4) (bytes_of size) (omega (arith, h))) (omega arith) (omega arith))

    changes : ChangesOnly start (start + 8) mid new
    unfolding half
    changes = subst (ChangesOnly start (start + 8) mid) (sym is) both

    pub allocated_count : length new ≡ length bytes
    allocated_count = changes.count ∙ kept.count

    described : word_at new start ≡ description
    unfolding half
    described =
        let i = inside in
        ap (λ bs. word_at bs start) is ∙ word_other half (start + 4) size start half_inside (inl (omega arith)) ∙ word_here mid start description small_description (omega (arith, i))

    sized : word_at new (start + 4) ≡ size
    unfolding half
    sized = ap (λ bs. word_at bs (start + 4)) is ∙ word_here half (start + 4) size small_size half_inside

    header : block_from new start ≡ block
    header =
        ap (λ d. let b : Block = record { position = start + 8; description = d; size = word_at new (start + 4); bytes = take (word_at new (start + 4)) (drop (start + 8) new) } in b) described
        ∙ ap (λ n. let b : Block = record { position = start + 8; description = description; size = n; bytes = take n (drop (start + 8) new) } in b) sized

    same : (position : ℕ) (b : Block) → block_at (blocks_from bytes 0 marks) position ≡ Some b → Same bytes new (start_of b) (end_of b)
    same position b e k low high =
        let apart = block_apart 0 (length bytes) (blocks_from bytes 0 marks) position b refl held.aligned held.stand held.within e in
        let above = (stands_at 0 (blocks_from bytes 0 marks) position b held.stand e).low in
        let outside = outside_holes (start_of b) (8 + rounded b.size) k (holes_from 0 (length bytes) (blocks_from bytes 0 marks)) apart low (omega (arith, high, above)) in
        changes.kept k (by k (outside_taken (8 + rounded size) start k (holes_from 0 (length bytes) (blocks_from bytes 0 marks)) fits outside)) ∙ kept.kept k outside
      where
        by : (k : ℕ) → (k < start) ⊎ (start + (8 + rounded size) ≤ k) → (k < start) ⊎ (start + 8 ≤ k)
        by k (inl before) = inl before
        by k (inr after) = inr (omega (arith, after))

    news : blocks_from new 0 (set marks (start / 8) true) ≡ with_block (blocks_from bytes 0 marks) block
    news =
        marked new 0 marks (start / 8) start (let e = start_even in omega (arith, e)) mark_inside mark_clear
        ∙ ap (λ bs. with_block bs (block_from new start)) (blocks_kept bytes new marks held.stand held.within allocated_count same)
        ∙ ap (with_block (blocks_from bytes 0 marks)) header

    counts : length block.bytes ≡ size
    counts =
        let below = start_below in
        let n = allocated_count in
        let inside : start + 8 + size ≤ length new = omega (arith, below, n) in
        search (rules, places)

    pub allocated_added : IsAdded (blocks_from bytes 0 marks) (blocks_from new 0 (set marks (start / 8) true)) (start + 8) description size
    allocated_added = record { bytes = take size (drop (start + 8) new); count = counts; blocks = news }

    there : block_at (with_block (blocks_from bytes 0 marks) block) (start + 8) ≡ Some block
    there =
        ap (λ bs. block_at bs (start + 8)) (sym news)
        ∙ found new 0 (set marks (start / 8) true) (start / 8) start (let e = start_even in omega (arith, e)) (get_or-set_same marks (start / 8) true false mark_inside)
        ∙ ap Some header

    apart : hole.IsApart start (8 + rounded size) (taken (8 + rounded size) (holes_from 0 (length bytes) (blocks_from bytes 0 marks)))
    apart =
        let begin : start + 8 - 8 ≡ start = omega arith in
        subst (hole.IsApart start (8 + rounded size)) place.holes (subst (λ n. hole.IsApart n (8 + rounded size) (holes_from 0 (length bytes) (with_block (blocks_from bytes 0 marks) block))) begin
        (block_apart 0 (length bytes) (with_block (blocks_from bytes 0 marks) block) (start + 8) block refl held.aligned (place.stand counts) place.within there))

    spells : Spells mid first' (taken (8 + rounded size) (holes_from 0 (length bytes) (blocks_from bytes 0 marks))) → Spells new first' (taken (8 + rounded size) (holes_from 0 (length bytes) (blocks_from bytes 0 marks)))
    spells spelled = record {
      leads = subst (Leads (word_at new) first' (taken (8 + rounded size) (holes_from 0 (length bytes) (blocks_from bytes 0 marks)))) (sym changes.count)
          (leads_kept (word_at mid) (word_at new) first' (taken (8 + rounded size) (holes_from 0 (length bytes) (blocks_from bytes 0 marks))) (length mid)
          (same_apart (word_at mid) (word_at new) start (8 + rounded size) 0 (taken (8 + rounded size) (holes_from 0 (length bytes) (blocks_from bytes 0 marks))) (length mid) apart spelled.lie (λ q side. word_kept changes q (by q side)))
          spelled.leads);
      lie = subst (LieWithin 0 (taken (8 + rounded size) (holes_from 0 (length bytes) (blocks_from bytes 0 marks)))) (sym changes.count) spelled.lie;
    }
      where
        by : (q : ℕ) → (q + 4 ≤ start) ⊎ (start + (8 + rounded size) ≤ q) → (q + 4 ≤ start) ⊎ (start + 8 ≤ q)
        by q (inl before) = inl before
        by q (inr after) = inr (omega (arith, after))

    pub allocated_held : Spells mid first' (taken (8 + rounded size) (holes_from 0 (length bytes) (blocks_from bytes 0 marks))) → IsHeld new (set marks (start / 8) true) first' (max end (start + (8 + rounded size))) (count + 1)
    allocated_held spelled =
        let n = allocated_count in
        subst (λ bs. AreHeld bs new (set marks (start / 8) true) first' (max end (start + (8 + rounded size))) (count + 1)) (sym news) (record {
          aligned = subst (λ n. n % 8 ≡ 0) (sym n) held.aligned;
          small = omega (arith, n, held.small);
          marked = let m = length-set marks (start / 8) true in omega (arith, m, held.marked, n);
          stand = place.stand counts;
          within = let w = place.within in omega (arith, w, n);
          spelled = subst (Spells new first') (sym (ap (λ c. holes_from 0 c (with_block (blocks_from bytes 0 marks) block)) n ∙ place.holes)) (spells spelled);
          ends = let e = place.end in let old = held.ends in omega (arith, e, old);
          counted = let e = place.count in let old = held.counted in omega (arith, e, old);
        })
