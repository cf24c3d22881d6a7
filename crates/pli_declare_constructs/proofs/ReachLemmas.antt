-- The way outwards, walked region by region, tells which labels a GOTO reaches.
use Rattle.std.proofs.Common.{◌≡◌, ◌<◌, ◌≤◌, ℕ, zero, suc, nat_lt, Bool, true, false, not, ◌&&◌, ◌||◌, ◌==◌, List, [], ◌∷◌, Option, Some, None, IfSome, length, get_or, refl, ap, subst, ◌∙◌, sym, arith, if◌then◌else◌}
use Rattle.std.specs.List.{list_any}
use Rattle.std.proofs.lemmas.Bool.{ltb-true, ltb-false, eqb-true, eq-eqb, ne_eqb}
use Rattle.pli_declare_outline.specs.Outlines.{Region}
use Rattle.pli_declare_outline.specs.declared.region.RegionKind.{RegionKind}
use Rattle.pli_declare_outline.specs.declared.region.RegionKind.TheVariants as kinds
use Rattle.pli_declare_constructs.specs.Regions.{round_of, rounds_after, outside, is_block, kind_at, innermost, block_of, first_or_unit}
use Rattle.pli_declare_constructs.specs.Reach.{is_group, is_on_unit, encloses, in_front_of, is_on_unit_of, on_unit_between, reaches}
use Rattle.pli_declare_constructs.specs.answers.ReachSteps.{left_on_unit, reaches_through}
use Rattle.pli_declare_constructs.proofs.RegionsAround.{before, round_step, round_past}
use Rattle.pli_declare_constructs.proofs.BlocksAround.{finds, next, innermost_step}

-- what stands round a region: nothing more, or what stands round the outer one
data Outwards (rs : List Region) (n : ℕ) : Type 0 where
  ends : round_of rs n ≡ n ∷ [] → Outwards rs n
  goes_on : (o : ℕ) → o < n → round_of rs n ≡ n ∷ round_of rs o → (is_block (kind_at rs n) ≡ false → innermost rs n ≡ innermost rs o) → Outwards rs n

outwards : (rs : List Region) (n : ℕ) → n < length rs → Outwards rs n
outwards rs n lt = to (get_or rs n outside).outer (round_step rs n lt)
    (λ f. innermost_step rs n lt ∙ ap (λ (b : Bool). if b then Some n else next rs n (get_or rs n outside).outer) f)
  where
    by : (o : ℕ) (b : Bool) → nat_lt o n ≡ b → round_of rs n ≡ n ∷ (if b then round_of rs o else [])
        → (is_block (kind_at rs n) ≡ false → innermost rs n ≡ (if b then innermost rs o else None)) → Outwards rs n
    by o true t e i = goes_on o (ltb-true o n t) e i
    by o false t e i = ends e

    to : (outer : Option ℕ) → round_of rs n ≡ n ∷ before (rounds_after [] rs) n outer
        → (is_block (kind_at rs n) ≡ false → innermost rs n ≡ next rs n outer) → Outwards rs n
    to None e i = ends e
    to (Some o) e i = by o (nat_lt o n) refl e i

-- a region stands before what its list encloses
encloses_step : (rs : List Region) (n label : ℕ) → ((o : ℕ) → o < n → encloses rs o label ≡ true → label ≤ o) → encloses rs n label ≡ true → label ≤ n
encloses_step rs n label inner e = within (nat_lt n (length rs)) refl
  where
    here : (b : Bool) → (n == label) ≡ b → (o : ℕ) → o < n → (b || encloses rs o label) ≡ true → label ≤ n
    here true t o less e = omega (arith, eqb-true n label t)
    here false t o less e = omega (arith, less, inner o less e)

    last : (b : Bool) → (n == label) ≡ b → (b || false) ≡ true → label ≤ n
    last true t e = omega (arith, eqb-true n label t)
    last false t e = cc

    way : Outwards rs n → label ≤ n
    way (ends f) = last (n == label) refl (ap (list_any (λ r. r == label)) (sym f) ∙ e)
    way (goes_on o less f i) = here (n == label) refl o less (ap (list_any (λ r. r == label)) (sym f) ∙ e)

    beyond : false ≡ true → ⊥
    beyond e = cc

    within : (b : Bool) → nat_lt n (length rs) ≡ b → label ≤ n
    within true t = way (outwards rs n (ltb-true n (length rs) t))
    within false t = absurd (beyond (ap (list_any (λ r. r == label)) (sym (round_past rs n (ltb-false n (length rs) t))) ∙ e))

encloses_later : (rs : List Region) (fuel n label : ℕ) → n < fuel → encloses rs n label ≡ true → label ≤ n
encloses_later rs zero n label lt e = absurd (omega (arith, lt))
encloses_later rs (suc fuel) n label lt e = encloses_step rs n label (λ o less. encloses_later rs fuel o label (omega (arith, lt, less))) e

near : (f : Option ℕ) (n : ℕ) → IfSome f (λ b. b ≤ n) → first_or_unit f ≤ n
near None n h = omega arith
near (Some b) n h = h

-- what the walk from a region on tells, where an ON-unit of its block was left or not
abbrev told : List Region → (left : Bool) → List ℕ → (n label : ℕ) → Bool
told rs left round n label =
    list_any (λ r. r == label) round
    && not (is_group (kind_at rs label) && ((left && (block_of rs n == block_of rs label)) || list_any (is_on_unit_of rs label) (in_front_of label round)))

at_label : (left group same : Bool) → same ≡ true → not (left && group) ≡ not (group && ((left && same) || false))
at_label left group false e = absurd cc
at_label true true true e = refl
at_label true false true e = refl
at_label false true true e = refl
at_label false false true e = refl

at_block : (group left same unit enclosed : Bool) → (enclosed ≡ true → same ≡ false) → (enclosed && not (group && unit)) ≡ (enclosed && not (group && ((left && same) || unit)))
at_block group left same unit false other = refl
at_block group true same unit true other = ap (λ s. not (group && (s || unit))) (sym (other refl))
at_block group false same unit true other = refl

at_unit : (left same unit : Bool) → (same || unit) ≡ ((left && same) || (same || unit))
at_unit true true unit = refl
at_unit true false unit = refl
at_unit false same unit = refl

-- one region further outwards
module _ (group left unit enclosed outer_same same : Bool) where
  abbrev Goes : RegionKind → Type 0
  Goes k = (enclosed && not (group && ((left_on_unit left k && outer_same) || unit))) ≡ (enclosed && not (group && ((left && same) || ((is_on_unit k && same) || unit))))

  goes : (k : RegionKind) → (is_block k ≡ true → enclosed ≡ true → same ≡ false) → (is_block k ≡ false → outer_same ≡ same) → Goes k
  goes kinds.Procedure other alike = at_block group left same unit enclosed (other refl)
  goes kinds.Begin other alike = at_block group left same unit enclosed (other refl)
  goes kinds.Group other alike = ap (λ s. enclosed && not (group && ((left && s) || unit))) (alike refl)
  goes kinds.OnUnit other alike =
      ap (λ s. enclosed && not (group && (s || unit))) (alike refl) ∙ ap (λ s. enclosed && not (group && s)) (at_unit left same unit)

module _ (rs : List Region) (label : ℕ) where
  -- a block inside the label's region is not the label's own
  other_block : (n o : ℕ) → n < length rs → o < n → is_block (kind_at rs n) ≡ true → encloses rs o label ≡ true → (block_of rs n == block_of rs label) ≡ false
  other_block n o lt less block e =
      let itself : block_of rs n ≡ n = ap first_or_unit (innermost_step rs n lt ∙ ap (λ (b : Bool). if b then Some n else next rs n (get_or rs n outside).outer) block) in
      let first : label ≤ o = encloses_later rs (suc o) o label (omega arith) e in
      let low : block_of rs label ≤ label = near (innermost rs label) label (finds rs label).near in
      ne_eqb (block_of rs n) (block_of rs label) (λ same. omega (arith, itself, first, low, less, same))

  abbrev Tells : (left : Bool) → List ℕ → ℕ → Type 0
  Tells left round n = reaches_through rs left round label ≡ told rs left round n label

  tells_step : (n : ℕ) → ((o : ℕ) → o < n → (left : Bool) → Tells left (round_of rs o) o) → (left : Bool) → Tells left (round_of rs n) n
  tells_step n inner left = within (nat_lt n (length rs)) refl
    where
      last : (b : Bool) → (n == label) ≡ b
          → (if b then not (left && is_group (kind_at rs n)) else false)
          ≡ ((b || false) && not (is_group (kind_at rs label) && ((left && (block_of rs n == block_of rs label)) || list_any (is_on_unit_of rs label) (if b then [] else n ∷ []))))
      last true t =
          let same : n ≡ label = eqb-true n label t in
          ap (λ k. not (left && is_group (kind_at rs k))) same
          ∙ at_label left (is_group (kind_at rs label)) (block_of rs n == block_of rs label) (eq-eqb (block_of rs n) (block_of rs label) (ap (block_of rs) same))
      last false t = refl

      here : (o : ℕ) → n < length rs → o < n → (is_block (kind_at rs n) ≡ false → innermost rs n ≡ innermost rs o) → (b : Bool) → (n == label) ≡ b
          → (if b then not (left && is_group (kind_at rs n)) else reaches_through rs (left_on_unit left (kind_at rs n)) (round_of rs o) label)
          ≡ ((b || encloses rs o label) && not (is_group (kind_at rs label) && ((left && (block_of rs n == block_of rs label)) || list_any (is_on_unit_of rs label) (if b then [] else n ∷ in_front_of label (round_of rs o)))))
      here o is less i true t =
          let same : n ≡ label = eqb-true n label t in
          ap (λ k. not (left && is_group (kind_at rs k))) same
          ∙ at_label left (is_group (kind_at rs label)) (block_of rs n == block_of rs label) (eq-eqb (block_of rs n) (block_of rs label) (ap (block_of rs) same))
      here o is less i false t =
          inner o less (left_on_unit left (kind_at rs n))
          ∙ goes (is_group (kind_at rs label)) left (on_unit_between rs o label) (encloses rs o label) (block_of rs o == block_of rs label) (block_of rs n == block_of rs label)
          (kind_at rs n) (other_block n o is less) (λ f. ap (λ b. first_or_unit b == block_of rs label) (sym (i f)))

      way : n < length rs → Outwards rs n → Tells left (round_of rs n) n
      way is (ends e) = subst (λ round. Tells left round n) (sym e) (last (n == label) refl)
      way is (goes_on o less e i) = subst (λ round. Tells left round n) (sym e) (here o is less i (n == label) refl)

      within : (b : Bool) → nat_lt n (length rs) ≡ b → Tells left (round_of rs n) n
      within true t = way (ltb-true n (length rs) t) (outwards rs n (ltb-true n (length rs) t))
      within false t = subst (λ round. Tells left round n) (sym (round_past rs n (ltb-false n (length rs) t))) refl

  tells : (fuel n : ℕ) → n < fuel → (left : Bool) → Tells left (round_of rs n) n
  tells zero n lt left = absurd (omega (arith, lt))
  tells (suc fuel) n lt left = tells_step n (λ o less. tells fuel o (omega (arith, lt, less))) left

-- the walk from a GOTO on tells what it reaches
pub walk_is_reach : (rs : List Region) (from label : ℕ) → reaches_through rs false (round_of rs from) label ≡ reaches rs from label
walk_is_reach rs from label = tells rs label (suc from) from (omega arith) false
