-- Items that are judged one after another as they are declared are judged as the rule on their list says.
use Rattle.std.proofs.Common.{◌≡◌, ℕ, zero, suc, ◌<◌, Bool, true, false, ◌&&◌, List, [], ◌∷◌, ◌++◌, length, get_or, append-nil, append_assoc, Option, None, Some, IfSome, refl, sym, ap, subst, ◌∙◌, arith}
use Rattle.std.specs.List.{list_any}
use Rattle.std.proofs.lemmas.List.Folds.{list_any_at}
use Rattle.pli_declare_scopes.specs.Repeats.{repeats, is_counting, counts_above, judged, verdicts_after, verdicts_of}
use Rattle.pli_declare_scopes.specs.Scopes.{BlockItems, item_at}
use Rattle.pli_declare_scopes.specs.answers.Judged.{as_written, declared_as, declared_with, counts_over, is_taken}
use Rattle.pli_declare_scopes.specs.laws.RepeatLaws.{written_at, verdict_at, OwnersFirst}
use Rattle.pli_declare_scopes.specs.declared.block.Declared.{Declared}
use Rattle.pli_declare_scopes.specs.declared.repeat.Written.{Written}
use Rattle.pli_declare_scopes.specs.declared.repeat.Verdict.{Verdict}
use Rattle.pli_declare_scopes.specs.declared.repeat.Verdict.TheVariants.{Counts, Beneath}
use Rattle.pli_declare_scopes.proofs.CountedItems.{repeats_from, any_there, again, above, verdict_is, again_to, all_are_judged}
use Rattle.pli_declare_scopes.proofs.IndexKept.{both_true}
use Rattle.pli_declare_scopes.proofs.ReferencesMeanOne.{any_to, any_from}
use Rattle.pli_declare_scopes.proofs.RepeatsLemmas.{repeats_same}
use Rattle.pli_declare_scopes.proofs.TakenPaths.{both_ways}

item_is : (ws : List Written) (vs : List Verdict) (n : ℕ) → length vs ≡ length ws → n < length ws → item_at (declared_with ws vs) n ≡ declared_as (written_at ws n) (get_or vs n Beneath)
item_is [] vs n e lt = absurd (omega arith)
item_is (w ∷ ws) [] n e lt = absurd (omega arith)
item_is (w ∷ ws) (v ∷ vs) zero e lt = refl
item_is (w ∷ ws) (v ∷ vs) (suc n) e lt = item_is ws vs n (omega arith) (omega arith)

item_count : (ws : List Written) (vs : List Verdict) → length vs ≡ length ws → length (declared_with ws vs) ≡ length ws
item_count [] vs e = refl
item_count (w ∷ ws) [] e = absurd (omega arith)
item_count (w ∷ ws) (v ∷ vs) e = let more : length (declared_with ws vs) ≡ length ws = item_count ws vs (omega arith) in omega (arith, more)

declared_more : (ws : List Written) (vs : List Verdict) (w : Written) (v : Verdict) → length vs ≡ length ws → declared_with (ws ++ w ∷ []) (vs ++ v ∷ []) ≡ declared_with ws vs ++ declared_as w v ∷ []
declared_more [] [] w v e = refl
declared_more [] (u ∷ vs) w v e = absurd (omega arith)
declared_more (x ∷ ws) [] w v e = absurd (omega arith)
declared_more (x ∷ ws) (u ∷ vs) w v e = ap (λ is. declared_as x u ∷ is) (declared_more ws vs w v (omega arith))

verdicts_more : (xs before : List Written) (vs : List Verdict) (w : Written)
    → verdicts_after before vs (xs ++ w ∷ []) ≡ verdicts_after before vs xs ++ judged (counts_above (verdicts_after before vs xs) w.owner) (list_any (repeats w) (before ++ xs)) ∷ []
verdicts_more [] before vs w = ap (λ bs. vs ++ judged (counts_above vs w.owner) (list_any (repeats w) bs) ∷ []) (sym (append-nil before))
verdicts_more (x ∷ xs) before vs w =
    let next : List Verdict = vs ++ judged (counts_above vs x.owner) (list_any (repeats x) before) ∷ [] in
    verdicts_more xs (before ++ x ∷ []) next w
    ∙ ap (λ bs. verdicts_after (before ++ x ∷ []) next xs ++ judged (counts_above (verdicts_after (before ++ x ∷ []) next xs) w.owner) (list_any (repeats w) bs) ∷ [])
    (append_assoc before (x ∷ []) xs)

module _ (ws : List Written) (owners : OwnersFirst ws) (w : Written) (owned : IfSome w.owner (λ o. o < length ws)) where
  abbrev declared_so : BlockItems
  declared_so = declared_with ws (verdicts_of ws)

  over : (owner : Option ℕ) → IfSome owner (λ o. o < length ws) → counts_over declared_so owner ≡ counts_above (verdicts_of ws) owner
  over None h = refl
  over (Some o) h = ap (λ (j : Declared). j.counts) (item_is ws (verdicts_of ws) o (all_are_judged ws) h)

  -- where one of its like stands before, one counts, if their owner does
  first : counts_above (verdicts_of ws) w.owner ≡ true → (k n : ℕ) → n < k → n < length ws → repeats w (written_at ws n) ≡ true
      → (m : ℕ) × (m < length ws) × (verdict_at ws m ≡ Counts) × (repeats w (written_at ws m) ≡ true)
  first counts zero n lt within h = absurd (omega (arith, lt))
  first counts (suc k) n lt within h = by (again ws n owners within) refl (first counts k)
    where
      same : w ≡ written_at ws n
      same = repeats_same w (written_at ws n) h

      counting : above ws n owners within ≡ true
      counting = ap (λ (v : Written). counts_above (verdicts_of ws) v.owner) (sym same) ∙ counts

      by : (b : Bool) → again ws n owners within ≡ b
          → ((j : ℕ) → j < k → j < length ws → repeats w (written_at ws j) ≡ true → (m : ℕ) × (m < length ws) × (verdict_at ws m ≡ Counts) × (repeats w (written_at ws m) ≡ true))
          → (m : ℕ) × (m < length ws) × (verdict_at ws m ≡ Counts) × (repeats w (written_at ws m) ≡ true)
      by false e go = (n, within, verdict_is ws n owners within ∙ ap (λ a. judged a (again ws n owners within)) counting ∙ ap (judged true) e, h)
      by true e go =
          let r = again_to ws n owners within e in
          go r.number (omega (arith, r.before, lt)) (omega (arith, r.before, within))
          (repeats_from w (written_at ws r.number) (ap (λ (v : Written). v.name) same ∙ sym r.named) (ap (λ (v : Written). v.owner) same ∙ sym r.owned))

  written_is : (n : ℕ) → n < length ws → as_written (item_at declared_so n) ≡ written_at ws n
  written_is n lt = ap as_written (item_is ws (verdicts_of ws) n (all_are_judged ws) lt)

  count : length declared_so ≡ length ws
  count = item_count ws (verdicts_of ws) (all_are_judged ws)

  taken_to : is_taken declared_so w ≡ true → list_any (repeats w) ws ≡ true
  taken_to h =
      let r = any_to (λ n. (item_at declared_so n).counts && repeats w (as_written (item_at declared_so n))) (length declared_so) h in
      let lt : r.0 < length ws = omega (arith, r.1, count) in
      list_any_at (repeats w) ws r.0 (record { name = []; owner = None }) lt
      (ap (repeats w) (sym (written_is r.0 lt)) ∙ (both_true (item_at declared_so r.0).counts (repeats w (as_written (item_at declared_so r.0))) r.2).1)

  taken_from : counts_above (verdicts_of ws) w.owner ≡ true → list_any (repeats w) ws ≡ true → is_taken declared_so w ≡ true
  taken_from counts h =
      let r = any_there (repeats w) ws h in
      let f = first counts (length ws) r.0 r.1 r.1 r.2 in
      let counted : (item_at declared_so f.0).counts ≡ true = ap (λ (j : Declared). j.counts) (item_is ws (verdicts_of ws) f.0 (all_are_judged ws) f.1) ∙ ap is_counting f.2 in
      let like : repeats w (as_written (item_at declared_so f.0)) ≡ true = ap (repeats w) (written_is f.0 f.1) ∙ f.3 in
      any_from (λ n. (item_at declared_so n).counts && repeats w (as_written (item_at declared_so n))) (length declared_so) f.0 (omega (arith, f.1, count))
      (ap (λ b. b && repeats w (as_written (item_at declared_so f.0))) counted ∙ like)

  judged_is : judged (counts_over declared_so w.owner) (is_taken declared_so w) ≡ judged (counts_above (verdicts_of ws) w.owner) (list_any (repeats w) ws)
  judged_is = ap (λ a. judged a (is_taken declared_so w)) (over w.owner owned) ∙ by (counts_above (verdicts_of ws) w.owner) refl
    where
      by : (b : Bool) → counts_above (verdicts_of ws) w.owner ≡ b → judged b (is_taken declared_so w) ≡ judged b (list_any (repeats w) ws)
      by true e = ap (judged true) (both_ways (is_taken declared_so w) (list_any (repeats w) ws) taken_to (taken_from e))
      by false e = refl

pub block_count : (ws : List Written) (vs : List Verdict) (items : BlockItems) → vs ≡ verdicts_of ws → items ≡ declared_with ws vs → length items ≡ length ws
block_count ws vs items told is = ap length is ∙ item_count ws vs (ap length told ∙ all_are_judged ws)

-- one more item is judged and declared
pub block_more : (ws : List Written) (w : Written) (v : Verdict) (items next : BlockItems) (vs more : List Verdict) → OwnersFirst ws → IfSome w.owner (λ o. o < length items)
    → vs ≡ verdicts_of ws → items ≡ declared_with ws vs → v ≡ judged (counts_over items w.owner) (is_taken items w)
    → next ≡ items ++ declared_as w v ∷ [] → more ≡ vs ++ v ∷ []
    → (more ≡ verdicts_of (ws ++ w ∷ [])) × (next ≡ declared_with (ws ++ w ∷ []) more)
block_more ws w v items next vs more owners owned told is said made grown =
    let whole : items ≡ declared_with ws (verdicts_of ws) = is ∙ ap (declared_with ws) told in
    let all : length vs ≡ length ws = ap length told ∙ all_are_judged ws in
    let long : length items ≡ length ws = block_count ws vs items told is in
    let here : IfSome w.owner (λ o. o < length ws) = subst (λ (n : ℕ). IfSome w.owner (λ o. o < n)) long owned in
    let verdict : v ≡ judged (counts_above (verdicts_of ws) w.owner) (list_any (repeats w) ws) =
    said ∙ ap (λ (is : BlockItems). judged (counts_over is w.owner) (is_taken is w)) whole ∙ judged_is ws owners w here in (
      grown ∙ ap (λ us. us ++ v ∷ []) told ∙ ap (λ u. verdicts_of ws ++ u ∷ []) verdict ∙ sym (verdicts_more ws [] [] w),
      made ∙ ap (λ js. js ++ declared_as w v ∷ []) is ∙ sym (declared_more ws vs w v all) ∙ ap (declared_with (ws ++ w ∷ [])) (sym grown),
    )
