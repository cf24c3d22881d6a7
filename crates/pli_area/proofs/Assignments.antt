-- What an assignment leaves of an area's fields, and what its blocks then are.
use Rattle.std.proofs.Common.{◌≡◌, ℕ, ◌+◌, ◌-◌, ◌*◌, ◌/◌, ◌%◌, ◌<◌, ◌≤◌, Bool, true, false, List, [], ◌++◌, length, take, drop, replicate, get_or, refl, sym, ap, ◌∙◌, subst, arith, rules}
use Rattle.std.proofs.lemmas.List.{places}
use Rattle.pli_region.specs.Words.{word_at, overwritten}
use Rattle.pli_holes.specs.Holes.{Leads, Spells, ChangesWithin}
use Rattle.pli_holes.proofs.LeadLemmas.{leads_kept, leads_join, leads_split, same_below}
use Rattle.pli_holes.proofs.WordLemmas.{count_over, byte_here}
use Rattle.pli_area.specs.Areas.{extent, holes_from, hole_between}
use Rattle.pli_area.specs.Held.{AreHeld, IsHeld}
use Rattle.pli_area.specs.views.AreaView.{block_from, blocks_from}
use Rattle.pli_area.proofs.BlockBytes.{Same, blocks_alike, word_same}
use Rattle.pli_area.proofs.BlockHoles.{below_and_last, below_lies, even_end, holes_below, last_begins, lies, outside_gap}
use Rattle.pli_area.proofs.MarkLemmas.{found, none_more}
use Rattle.pli_area.proofs.HeldLemmas.{block_stands}

module _ {bytes others : List ℕ} {marks marks' : List Bool} {first first' end end' count count' : ℕ} (held : IsHeld bytes marks first end count) (source : IsHeld others marks' first' end' count') where
  pub extent_even : end' % 8 ≡ 0
  extent_even = subst (λ n. n % 8 ≡ 0) (sym source.ends) (even_end 0 (blocks_from others 0 marks') refl source.stand)

  pub extent_inside : end' ≤ length others
  extent_inside =
      let e = source.ends in
      let w = source.within in
      omega (arith, e, w)

  pub extent_marks : end' / 8 ≤ length marks'
  extent_marks =
      let i = extent_inside in
      let m = source.marked in
      omega (arith, i, m)

  module _ (fits : end' ≤ length bytes) where
    pub extent_fits : end' / 8 ≤ length marks
    extent_fits =
        let m = held.marked in
        omega (arith, fits, m)

    module _ (mid new : List ℕ) (is : mid ≡ overwritten bytes 0 (take end' (drop 0 others))) (leads : Leads (word_at new) end' (hole_between end' (length mid) []) (length mid)) (kept : ChangesWithin (hole_between end' (length mid) []) mid new) where
      counts : length (take end' (drop 0 others)) ≡ end'
      counts =
          let i = extent_inside in
          search (rules, places)

      mid_count : length mid ≡ length bytes
      mid_count =
          let n = counts in
          ap length is ∙ count_over bytes 0 (take end' (drop 0 others)) (omega (arith, n, fits))

      pub assigned_count : length new ≡ length bytes
      assigned_count = kept.count ∙ mid_count

      same : Same others new 0 end'
      same k low high =
          let n = counts in
          let i = extent_inside in
          let copied : get_or (take end' (drop 0 others)) k 0 ≡ get_or others k 0 = grind (arith, places) in
          kept.kept k (outside_gap k end' (length mid) high)
          ∙ ap (λ bs. get_or bs k 0) is
          ∙ byte_here bytes 0 (take end' (drop 0 others)) k k (omega (arith, n, fits)) (omega (arith, n, high)) (omega arith)
          ∙ copied

      few : (n : ℕ) → get_or marks' n false ≡ true → n < end' / 8
      few n is_set =
          let there = found others 0 marks' n (0 + 8 * n) refl is_set in
          let high = (block_stands source (0 + 8 * n + 8) (block_from others (0 + 8 * n)) there).high in
          let e = source.ends in
          omega (arith, high, e)

      pub assigned_blocks : blocks_from new 0 (take (end' / 8) marks' ++ replicate (length marks - end' / 8) false) ≡ blocks_from others 0 marks'
      assigned_blocks =
          let e = source.ends in
          let n = assigned_count in
          none_more new 0 marks' (end' / 8) (length marks - end' / 8) few
          ∙ blocks_alike others new 0 0 end' marks' source.stand (omega (arith, e)) extent_inside (omega (arith, n, fits)) same

      spells : Spells new first' (holes_from 0 (length new) (blocks_from others 0 marks'))
      spells =
          let n = assigned_count in
          let m = mid_count in
          let e = source.ends in
          let w : extent (blocks_from others 0 marks') ≤ length new = omega (arith, e, fits, n) in
          let split = leads_split (word_at others) first' (holes_below 0 (blocks_from others 0 marks')) (hole_between (extent (blocks_from others 0 marks')) (length others) []) (length others)
          (subst (λ hs. Leads (word_at others) first' hs (length others)) (below_and_last 0 (length others) (blocks_from others 0 marks')) source.spelled.leads) in
          let before = subst (Leads (word_at others) first' (holes_below 0 (blocks_from others 0 marks'))) (last_begins (word_at others) split.mid (extent (blocks_from others 0 marks')) (length others) source.within split.after) split.before in
          let words = same_below (word_at others) (word_at new) 0 (holes_below 0 (blocks_from others 0 marks')) (extent (blocks_from others 0 marks')) (below_lies 0 (blocks_from others 0 marks') refl source.stand) (λ q high. word_same others new 0 end' q same (omega arith) (omega (arith, high, e))) in
          let last = subst (λ at. Leads (word_at new) at (hole_between at (length new) []) (length new)) e (subst (λ c. Leads (word_at new) end' (hole_between end' c []) c) (sym kept.count) leads) in
          record {
            leads = subst (λ hs. Leads (word_at new) first' hs (length new)) (sym (below_and_last 0 (length new) (blocks_from others 0 marks')))
                (leads_join (word_at new) first' (holes_below 0 (blocks_from others 0 marks')) (extent (blocks_from others 0 marks')) (hole_between (extent (blocks_from others 0 marks')) (length new) []) (length new)
                (leads_kept (word_at others) (word_at new) first' (holes_below 0 (blocks_from others 0 marks')) (extent (blocks_from others 0 marks')) words before) last);
            lie = lies 0 (length new) (blocks_from others 0 marks') refl (subst (λ n. n % 8 ≡ 0) (sym n) held.aligned) source.stand w;
          }

      pub assigned_held : IsHeld new (take (end' / 8) marks' ++ replicate (length marks - end' / 8) false) first' end' count'
      assigned_held =
          let n = assigned_count in
          let e = source.ends in
          subst (λ bs. AreHeld bs new (take (end' / 8) marks' ++ replicate (length marks - end' / 8) false) first' end' count') (sym assigned_blocks) (record {
            aligned = subst (λ n. n % 8 ≡ 0) (sym n) held.aligned;
            small = let s = held.small in omega (arith, n, s);
            marked = let m = held.marked in let k = all_marks in omega (arith, m, n, k);
            stand = source.stand;
            within = omega (arith, e, fits, n);
            spelled = spells;
            ends = e;
            counted = source.counted;
          })
        where
          all_marks : length (take (end' / 8) marks' ++ replicate (length marks - end' / 8) false) ≡ length marks
          all_marks =
              let a = extent_marks in
              let b = extent_fits in
              search (rules, places)
