-- What a release leaves of an area's fields, and what its blocks then are.
use Rattle.std.proofs.Common.{◌≡◌, ℕ, ◌+◌, ◌-◌, ◌*◌, ◌/◌, ◌%◌, ◌<◌, ◌≤◌, Bool, true, false, nat_eq, cond, List, length, get_or, set, Some, refl, sym, ap, ◌∙◌, subst, arith, eq-eqb, ne_eqb, inl, inr}
use Rattle.std.proofs.lemmas.Bool.{cases_eq}
use Rattle.std.proofs.lemmas.List.{length-set}
use Rattle.pli_region.specs.Words.{word_at}
use Rattle.pli_holes.specs.Holes as hole
use Rattle.pli_holes.specs.Holes.{Spells, IsInUse, ChangesWithin, given, hole_given}
use Rattle.pli_area.specs.Areas.{Hole, Stand, rounded, extent, holes_from, block_at, without_block}
use Rattle.pli_area.specs.Held.{AreHeld, IsHeld, is_marked}
use Rattle.pli_area.specs.views.AreaView.{block_from, blocks_from}
use Rattle.pli_area.proofs.BlockBytes.{blocks_kept}
use Rattle.pli_area.proofs.BlockHoles.{Removed, StandsAt, block_apart, removed}
use Rattle.pli_area.proofs.MarkLemmas.{cleared}
use Rattle.pli_area.proofs.HeldLemmas.{marked_at, marked_block, block_stands, covered}

module _ {bytes : List ℕ} {marks : List Bool} {first end count : ℕ} (held : IsHeld bytes marks first end count) (position : ℕ) (live : is_marked marks position ≡ true) where
  pub live_block : block_at (blocks_from bytes 0 marks) position ≡ Some (block_from bytes (position - 8))
  live_block = marked_block bytes marks position live

  pub live_stands : StandsAt 0 (block_from bytes (position - 8)) position (extent (blocks_from bytes 0 marks))
  live_stands = block_stands held position (block_from bytes (position - 8)) live_block

  pub live_above : 8 ≤ position
  live_above = let h = live_stands.here in omega (arith, h)

  pub live_below : position + rounded (word_at bytes (position - 8 + 4)) ≤ length bytes
  live_below =
      let h = live_stands.here in
      let high = live_stands.high in
      let within = held.within in
      omega (arith, h, high, within)

  pub live_mark : (position - 8) / 8 < length marks
  live_mark =
      let b = live_below in
      let a = live_above in
      let n = held.marked in
      omega (arith, a, b, n)

  mark_number : position - 8 ≡ 0 + 8 * ((position - 8) / 8)
  mark_number =
      let h = (marked_at marks position live).0 in
      omega (arith, h)

  mark_set : get_or marks ((position - 8) / 8) false ≡ true
  mark_set =
      let m = marked_at marks position live in
      let h = m.0 in
      let same : position / 8 - 1 ≡ (position - 8) / 8 = omega (arith, h) in
      ap (λ n. get_or marks n false) (sym same) ∙ m.1

  -- its block is at the position
  start_is : position - 8 + 8 - 8 ≡ position - 8
  start_is = omega arith

  rest : blocks_from bytes 0 (set marks ((position - 8) / 8) false) ≡ without_block (blocks_from bytes 0 marks) position
  rest =
      let a = live_above in
      let here : position - 8 + 8 ≡ position = omega (arith, a) in
      subst (λ p. blocks_from bytes 0 (set marks ((position - 8) / 8) false) ≡ without_block (blocks_from bytes 0 marks) p) here (cleared bytes 0 marks ((position - 8) / 8) (position - 8) mark_number mark_set)

  gone : Removed 0 (length bytes) (blocks_from bytes 0 marks) position (block_from bytes (position - 8))
  gone = removed 0 (length bytes) (blocks_from bytes 0 marks) position (block_from bytes (position - 8)) held.aligned held.stand held.within live_block

  pub some_block : 1 ≤ count
  some_block =
      let n = gone.count in
      let c = held.counted in
      omega (arith, n, c)

  module _ (room : ℕ) (is_room : room ≡ 8 + rounded (word_at bytes (position - 8 + 4))) where
    apart : hole.IsApart (position - 8) room (holes_from 0 (length bytes) (blocks_from bytes 0 marks))
    apart =
        subst (λ n. hole.IsApart n room (holes_from 0 (length bytes) (blocks_from bytes 0 marks))) start_is
        (subst (λ n. hole.IsApart (position - 8 + 8 - 8) n (holes_from 0 (length bytes) (blocks_from bytes 0 marks))) (sym is_room)
        (block_apart 0 (length bytes) (blocks_from bytes 0 marks) position (block_from bytes (position - 8)) refl held.aligned held.stand held.within live_block))

    pub live_end : position - 8 + room ≤ length bytes
    live_end =
        let a = live_above in
        let b = live_below in
        omega (arith, a, b, is_room)

    pub live_in_use : IsInUse bytes first (position - 8) room
    live_in_use = record {
      holes = holes_from 0 (length bytes) (blocks_from bytes 0 marks);
      spelled = held.spelled;
      apart = apart;
      within = live_end;
      aligned = omega (arith, is_room);
      some = omega (arith, is_room);
    }

    given_is : given (position - 8 + 8 - 8) (8 + rounded (word_at bytes (position - 8 + 4))) (holes_from 0 (length bytes) (blocks_from bytes 0 marks)) ≡ given (position - 8) room (holes_from 0 (length bytes) (blocks_from bytes 0 marks))
    given_is = ap (λ n. given n (8 + rounded (word_at bytes (position - 8 + 4))) (holes_from 0 (length bytes) (blocks_from bytes 0 marks))) start_is ∙ ap (λ n. given (position - 8) n (holes_from 0 (length bytes) (blocks_from bytes 0 marks))) (sym is_room)

    hole_is : hole_given (position - 8 + 8 - 8) (8 + rounded (word_at bytes (position - 8 + 4))) (holes_from 0 (length bytes) (blocks_from bytes 0 marks)) ≡ hole_given (position - 8) room (holes_from 0 (length bytes) (blocks_from bytes 0 marks))
    hole_is = ap (λ n. hole_given n (8 + rounded (word_at bytes (position - 8 + 4))) (holes_from 0 (length bytes) (blocks_from bytes 0 marks))) start_is ∙ ap (λ n. hole_given (position - 8) n (holes_from 0 (length bytes) (blocks_from bytes 0 marks))) (sym is_room)

    holes_are : holes_from 0 (length bytes) (without_block (blocks_from bytes 0 marks) position) ≡ given (position - 8) room (holes_from 0 (length bytes) (blocks_from bytes 0 marks))
    holes_are = gone.holes ∙ given_is

    module _ (new : List ℕ) (kept : ChangesWithin (given (position - 8) room (holes_from 0 (length bytes) (blocks_from bytes 0 marks))) bytes new) where
      pub released_blocks : blocks_from new 0 (set marks ((position - 8) / 8) false) ≡ without_block (blocks_from bytes 0 marks) position
      released_blocks =
          blocks_kept bytes new (set marks ((position - 8) / 8) false) (subst (Stand 0) (sym rest) gone.stand) (subst (λ bs. extent bs ≤ length bytes) (sym rest) gone.within) kept.count
          (covered (length bytes) (blocks_from bytes 0 (set marks ((position - 8) / 8) false)) bytes new held.aligned (subst (Stand 0) (sym rest) gone.stand) (subst (λ bs. extent bs ≤ length bytes) (sym rest) gone.within)
          (subst (λ hs. ChangesWithin hs bytes new) (sym (ap (holes_from 0 (length bytes)) rest ∙ holes_are)) kept))
          ∙ rest

      -- where the last block then ends
      ends_then : (begin : ℕ) → begin ≡ (hole_given (position - 8) room (holes_from 0 (length bytes) (blocks_from bytes 0 marks))).start → cond (nat_eq (position - 8 + room) end) begin end ≡ extent (without_block (blocks_from bytes 0 marks) position)
      ends_then begin is =
          elim (cases_eq (position - 8 + room) end) [
            | inl last ↦ rw (eq-eqb (position - 8 + room) end last) (is ∙ ap (λ (h : Hole). h.start) (sym hole_is) ∙ sym (gone.last (let e = held.ends in omega (arith, last, e, is_room))))
            | inr other ↦ rw (ne_eqb (position - 8 + room) end other) (held.ends ∙ sym (gone.other (λ last. other (let e = held.ends in omega (arith, last, e, is_room)))))
          ]

      pub released_held : (first' begin : ℕ) → Spells new first' (given (position - 8) room (holes_from 0 (length bytes) (blocks_from bytes 0 marks))) → begin ≡ (hole_given (position - 8) room (holes_from 0 (length bytes) (blocks_from bytes 0 marks))).start
          → IsHeld new (set marks ((position - 8) / 8) false) first' (cond (nat_eq (position - 8 + room) end) begin end) (count - 1)
      released_held first' begin spelled is =
          let n = kept.count in
          subst (λ bs. AreHeld bs new (set marks ((position - 8) / 8) false) first' (cond (nat_eq (position - 8 + room) end) begin end) (count - 1)) (sym released_blocks) (record {
            aligned = subst (λ n. n % 8 ≡ 0) (sym n) held.aligned;
            small = let s = held.small in omega (arith, n, s);
            marked = let m = length-set marks ((position - 8) / 8) false in let k = held.marked in omega (arith, m, k, n);
            stand = gone.stand;
            within = let w = gone.within in omega (arith, w, n);
            spelled = subst (Spells new first') (sym (ap (λ c. holes_from 0 c (without_block (blocks_from bytes 0 marks) position)) n ∙ holes_are)) spelled;
            ends = ends_then begin is;
            counted = let e = gone.count in let old = held.counted in omega (arith, e, old);
          })
