-- What items count, in terms of the items alone.
use Rattle.std.proofs.Common.{◌≡◌, ℕ, zero, suc, ◌+◌, ◌<◌, ◌↔◌, Bool, true, false, ◌||◌, ◌&&◌, nat_eq, List, [], ◌∷◌, ◌++◌, length, get_or, take, length-append, append_assoc, Option, None, Some, IfSome, refl, sym, ap, subst, ◌∙◌, arith}
use Rattle.std.specs.List.{list_any}
use Rattle.std.specs.Option.{option_eq}
use Rattle.std.proofs.lemmas.Bool.Decides.{nat_tests}
use Rattle.std.proofs.lemmas.List.{get_or-take, length-take-le}
use Rattle.std.proofs.Math.ListN.{get_or-append}
use Rattle.std.proofs.Math.Seq.{get_or-append_seam}
use Rattle.std.proofs.lemmas.List.Folds.{list_any_at}
use Rattle.pli_base.specs.laws.NameLaws.{pointwise-refl}
use Rattle.pli_base.specs.Words.{same_name}
use Rattle.pli_declare_scopes.specs.declared.repeat.Written.{Written}
use Rattle.pli_declare_scopes.specs.declared.repeat.Verdict.{Verdict}
use Rattle.pli_declare_scopes.specs.declared.repeat.Verdict.TheVariants.{Counts, Twice, Beneath}
use Rattle.pli_declare_scopes.specs.Repeats.{repeats, is_counting, counts_above, judged, verdicts_after, verdicts_of}
use Rattle.pli_declare_scopes.specs.laws.RepeatLaws.{written_at, verdict_at, OwnersFirst, IsRepeated, OwnerCounts, AllAreJudged, CountsOnce, LaterIsFault, MembersArePassedOver}
use Rattle.pli_declare_scopes.proofs.RepeatsLemmas.{repeats_same}

verdicts_kept : (is before : List Written) (verdicts : List Verdict) (n : ℕ) → n < length verdicts → get_or (verdicts_after before verdicts is) n Beneath ≡ get_or verdicts n Beneath
verdicts_kept [] before verdicts n lt = refl
verdicts_kept (i ∷ is) before verdicts n lt =
    let v : Verdict = judged (counts_above verdicts i.owner) (list_any (repeats i) before) in
    verdicts_kept is (before ++ i ∷ []) (verdicts ++ v ∷ []) n (omega (arith, length-append verdicts (v ∷ []))) ∙ get_or-append verdicts (v ∷ []) Beneath n lt

verdict_count : (is before : List Written) (verdicts : List Verdict) → length (verdicts_after before verdicts is) ≡ length verdicts + length is
verdict_count [] before verdicts = let e : length verdicts ≡ length verdicts + 0 = omega arith in e
verdict_count (i ∷ is) before verdicts =
    let v : Verdict = judged (counts_above verdicts i.owner) (list_any (repeats i) before) in
    verdict_count is (before ++ i ∷ []) (verdicts ++ v ∷ [])
    ∙ (let e : length (verdicts ++ v ∷ []) + length is ≡ length verdicts + length (i ∷ is) = omega (arith, length-append verdicts (v ∷ [])) in e)

owner_kept : (is before : List Written) (verdicts : List Verdict) (owner : Option ℕ) → IfSome owner (λ o. o < length verdicts)
    → counts_above (verdicts_after before verdicts is) owner ≡ counts_above verdicts owner
owner_kept is before verdicts None h = refl
owner_kept is before verdicts (Some o) h = ap is_counting (verdicts_kept is before verdicts o h)

verdict_step : (is before : List Written) (verdicts : List Verdict) (k : ℕ) → k < length is
    → IfSome (written_at is k).owner (λ o. o < length verdicts + k)
    → get_or (verdicts_after before verdicts is) (length verdicts + k) Beneath
    ≡ judged (counts_above (verdicts_after before verdicts is) (written_at is k).owner) (list_any (repeats (written_at is k)) (before ++ take k is))
verdict_step [] before verdicts k lt owned = absurd (omega arith)
verdict_step (i ∷ is) before verdicts zero lt owned =
    let v : Verdict = judged (counts_above verdicts i.owner) (list_any (repeats i) before) in
    let here : length verdicts + 0 ≡ length verdicts = omega arith in
    let shown : IfSome i.owner (λ o. o < length verdicts) = subst (λ (n : ℕ). IfSome i.owner (λ o. o < n)) here owned in
    ap (λ n. get_or (verdicts_after (before ++ i ∷ []) (verdicts ++ v ∷ []) is) n Beneath) here
    ∙ verdicts_kept is (before ++ i ∷ []) (verdicts ++ v ∷ []) (length verdicts) (omega (arith, length-append verdicts (v ∷ [])))
    ∙ get_or-append_seam verdicts v [] Beneath
    ∙ ap (λ b. judged b (list_any (repeats i) before)) (sym (owner_kept (i ∷ is) before verdicts i.owner shown))
    ∙ ap (λ bs. judged (counts_above (verdicts_after before verdicts (i ∷ is)) i.owner) (list_any (repeats i) bs)) (sym (append_nil before))
  where
    append_nil : (xs : List Written) → xs ++ [] ≡ xs
    append_nil [] = refl
    append_nil (x ∷ xs) = ap (λ ys. x ∷ ys) (append_nil xs)
verdict_step (i ∷ is) before verdicts (suc k) lt owned =
    let v : Verdict = judged (counts_above verdicts i.owner) (list_any (repeats i) before) in
    let there : length verdicts + suc k ≡ length (verdicts ++ v ∷ []) + k = omega (arith, length-append verdicts (v ∷ [])) in
    ap (λ n. get_or (verdicts_after (before ++ i ∷ []) (verdicts ++ v ∷ []) is) n Beneath) there
    ∙ verdict_step is (before ++ i ∷ []) (verdicts ++ v ∷ []) k (omega arith) (subst (λ (n : ℕ). IfSome (written_at is k).owner (λ o. o < n)) there owned)
    ∙ ap (λ bs. judged (counts_above (verdicts_after (before ++ i ∷ []) (verdicts ++ v ∷ []) is) (written_at is k).owner) (list_any (repeats (written_at is k)) bs))
    (append_assoc before (i ∷ []) (take k is))

-- an item before has the like
pub any_there : (test : Written → Bool) (xs : List Written) → list_any test xs ≡ true → (n : ℕ) × (n < length xs) × (test (written_at xs n) ≡ true)
any_there test [] h = cc
any_there test (x ∷ xs) h = by (test x) refl (any_there test xs) h
  where
    by : (b : Bool) → test x ≡ b → (list_any test xs ≡ true → (n : ℕ) × (n < length xs) × (test (written_at xs n) ≡ true))
        → (b || list_any test xs) ≡ true → (n : ℕ) × (n < length (x ∷ xs)) × (test (written_at (x ∷ xs) n) ≡ true)
    by true e go g = (0, omega arith, e)
    by false e go g = let r = go g in (suc r.0, omega (arith, r.1), r.2)

pub owner_refl : (o : Option ℕ) → option_eq nat_eq o o ≡ true
owner_refl None = refl
owner_refl (Some n) = grind (arith, nat_tests)

pub repeats_from : (i j : Written) → i.name ≡ j.name → i.owner ≡ j.owner → repeats i j ≡ true
repeats_from i j p q =
    ap (λ b. b && option_eq nat_eq i.owner j.owner) (subst (λ n. same_name i.name n ≡ true) p (pointwise-refl i.name))
    ∙ subst (λ o. option_eq nat_eq i.owner o ≡ true) q (owner_refl i.owner)

counting_to : (v : Verdict) → is_counting v ≡ true → v ≡ Counts
counting_to Counts h = refl
counting_to Twice h = cc
counting_to Beneath h = cc

above_to : (verdicts : List Verdict) (owner : Option ℕ) → counts_above verdicts owner ≡ true → IfSome owner (λ o. get_or verdicts o Beneath ≡ Counts)
above_to verdicts None h = tt
above_to verdicts (Some o) h = counting_to (get_or verdicts o Beneath) h

above_from : (verdicts : List Verdict) (owner : Option ℕ) → IfSome owner (λ o. get_or verdicts o Beneath ≡ Counts) → counts_above verdicts owner ≡ true
above_from verdicts None h = refl
above_from verdicts (Some o) h = ap is_counting h

module _ (items : List Written) (n : ℕ) (owners : OwnersFirst items) (lt : n < length items) where
  abbrev pub above : Bool
  above = counts_above (verdicts_of items) (written_at items n).owner

  abbrev pub again : Bool
  again = list_any (repeats (written_at items n)) (take n items)

  pub verdict_is : verdict_at items n ≡ judged above again
  verdict_is =
      let on : 0 + n ≡ n = omega arith in
      ap (λ k. get_or (verdicts_of items) k Beneath) (sym on)
      ∙ verdict_step items [] [] n lt (subst (λ (k : ℕ). IfSome (written_at items n).owner (λ o. o < k)) (sym on) (owners n lt))

  pub again_to : again ≡ true → IsRepeated items n
  again_to h =
      let r = any_there (repeats (written_at items n)) (take n items) h in
      let within : r.0 < n = omega (arith, r.1, length-take-le n items (omega arith)) in
      let read : written_at (take n items) r.0 ≡ written_at items r.0 = get_or-take n items r.0 (record { name = []; owner = None }) within in
      let same : written_at items n ≡ written_at items r.0 = repeats_same (written_at items n) (written_at (take n items) r.0) r.2 ∙ read in
      record { number = r.0; before = within; named = sym (ap (λ j. j.name) same); owned = sym (ap (λ j. j.owner) same) }

  again_from : IsRepeated items n → again ≡ true
  again_from h =
      let read : written_at (take n items) h.number ≡ written_at items h.number = get_or-take n items h.number (record { name = []; owner = None }) h.before in
      list_any_at (repeats (written_at items n)) (take n items) h.number _ (omega (arith, h.before, length-take-le n items (omega arith)))
      (ap (repeats (written_at items n)) read ∙ repeats_from (written_at items n) (written_at items h.number) (sym h.named) (sym h.owned))

  judged_counts : (a r : Bool) → judged a r ≡ Counts → (a ≡ true) × (r ≡ false)
  judged_counts true false h = (refl, refl)
  judged_counts true true h = cc
  judged_counts false r h = cc

  judged_twice : (a r : Bool) → judged a r ≡ Twice → (a ≡ true) × (r ≡ true)
  judged_twice true true h = (refl, refl)
  judged_twice true false h = cc
  judged_twice false r h = cc

  judged_beneath : (a r : Bool) → judged a r ≡ Beneath → a ≡ false
  judged_beneath true true h = cc
  judged_beneath true false h = cc
  judged_beneath false r h = refl

  pub not_true : (b : Bool) → (b ≡ true → ⊥) → b ≡ false
  not_true true h = absurd (h refl)
  not_true false h = refl

  pub counts : (verdict_at items n ≡ Counts) ↔ (OwnerCounts items n × (IsRepeated items n → ⊥))
  counts = (to, from)
    where
      to : verdict_at items n ≡ Counts → OwnerCounts items n × (IsRepeated items n → ⊥)
      to h =
          let t = judged_counts above again (sym verdict_is ∙ h) in
          (above_to (verdicts_of items) (written_at items n).owner t.0, (λ r. let bad : true ≡ false = sym (again_from r) ∙ t.1 in cc))

      from : OwnerCounts items n × (IsRepeated items n → ⊥) → verdict_at items n ≡ Counts
      from h =
          verdict_is ∙ ap (λ a. judged a again) (above_from (verdicts_of items) (written_at items n).owner h.0)
          ∙ ap (judged true) (not_true again (λ e. h.1 (again_to e)))

  pub twice : (verdict_at items n ≡ Twice) ↔ (OwnerCounts items n × IsRepeated items n)
  twice = (to, from)
    where
      to : verdict_at items n ≡ Twice → OwnerCounts items n × IsRepeated items n
      to h =
          let t = judged_twice above again (sym verdict_is ∙ h) in
          (above_to (verdicts_of items) (written_at items n).owner t.0, again_to t.1)

      from : OwnerCounts items n × IsRepeated items n → verdict_at items n ≡ Twice
      from h =
          verdict_is ∙ ap (λ a. judged a again) (above_from (verdicts_of items) (written_at items n).owner h.0) ∙ ap (judged true) (again_from h.1)

  pub beneath : (verdict_at items n ≡ Beneath) ↔ (OwnerCounts items n → ⊥)
  beneath = (to, from)
    where
      to : verdict_at items n ≡ Beneath → OwnerCounts items n → ⊥
      to h o =
          let bad : true ≡ false = sym (above_from (verdicts_of items) (written_at items n).owner o) ∙ judged_beneath above again (sym verdict_is ∙ h) in
          cc

      from : (OwnerCounts items n → ⊥) → verdict_at items n ≡ Beneath
      from h =
          verdict_is ∙ ap (λ a. judged a again) (not_true above (λ e. h (above_to (verdicts_of items) (written_at items n).owner e)))

pub all_are_judged : AllAreJudged
all_are_judged items = verdict_count items [] [] ∙ (let e : 0 + length items ≡ length items = omega arith in e)

pub counts_once : CountsOnce
counts_once items n owners lt = counts items n owners lt

pub later_is_fault : LaterIsFault
later_is_fault items n owners lt = twice items n owners lt

pub members_are_passed_over : MembersArePassedOver
members_are_passed_over items n owners lt = beneath items n owners lt
