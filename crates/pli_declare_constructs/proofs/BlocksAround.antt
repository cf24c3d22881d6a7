-- The blocks round a region, step by step.
use Rattle.std.proofs.Common.{◌≡◌, ◌<◌, ◌≤◌, ℕ, zero, suc, ◌+◌, nat_lt, Bool, true, false, List, [], ◌∷◌, ◌++◌, Option, Some, None, IfSome, length, get_or, refl, ap, subst, ◌∙◌, sym, arith, if◌then◌else◌}
use Rattle.std.specs.List.{filter}
use Rattle.std.proofs.lemmas.Bool.{lt-ltb, le-ltb, ltb-true, ltb-false}
use Rattle.std.proofs.lemmas.List.{get_or-map, length-map, get_or_append_left, get_or_past}
use Rattle.std.proofs.Math.Seq.{get_or-append_seam}
use Rattle.pli_declare_outline.specs.Outlines.{Region}
use Rattle.pli_declare_outline.specs.views.OutlineView.{region_view, regions_view}
use Rattle.pli_declare_outline.specs.declared.region.Region.{Region as Written}
use Rattle.pli_declare_constructs.specs.Regions.{round_of, rounds_after, outside, is_block, kind_at, blocks_round, first_of, innermost, blocks_from}
use Rattle.pli_declare_constructs.specs.answers.Kept.{HasInnermost}
use Rattle.pli_declare_constructs.proofs.RegionsAround.{before, round_step, round_past}

-- the blocks round the outer region, if it stands before
abbrev pub beyond : List Region → ℕ → Option ℕ → List ℕ
beyond rs n None = []
beyond rs n (Some outer) = if nat_lt outer n then blocks_round rs outer else []

-- the innermost of them
abbrev pub next : List Region → ℕ → Option ℕ → Option ℕ
next rs n None = None
next rs n (Some outer) = if nat_lt outer n then innermost rs outer else None

among : (rs : List Region) (n : ℕ) (outer : Option ℕ) → filter (λ r. is_block (kind_at rs r)) (before (rounds_after [] rs) n outer) ≡ beyond rs n outer
among rs n None = refl
among rs n (Some o) = by (nat_lt o n)
  where
    by : (b : Bool) → filter (λ r. is_block (kind_at rs r)) (if b then round_of rs o else []) ≡ (if b then blocks_round rs o else [])
    by true = refl
    by false = refl

pub blocks_step : (rs : List Region) (n : ℕ) → n < length rs
    → blocks_round rs n ≡ (if is_block (kind_at rs n) then n ∷ beyond rs n (get_or rs n outside).outer else beyond rs n (get_or rs n outside).outer)
blocks_step rs n lt =
    ap (filter (λ r. is_block (kind_at rs r))) (round_step rs n lt)
    ∙ ap (λ (ns : List ℕ). if is_block (kind_at rs n) then n ∷ ns else ns) (among rs n (get_or rs n outside).outer)

pub blocks_past : (rs : List Region) (n : ℕ) → length rs ≤ n → blocks_round rs n ≡ []
blocks_past rs n past = ap (filter (λ r. is_block (kind_at rs r))) (round_past rs n past)

first_beyond : (rs : List Region) (n : ℕ) (outer : Option ℕ) → first_of (beyond rs n outer) ≡ next rs n outer
first_beyond rs n None = refl
first_beyond rs n (Some o) = by (nat_lt o n)
  where
    by : (b : Bool) → first_of (if b then blocks_round rs o else []) ≡ (if b then innermost rs o else None)
    by true = refl
    by false = refl

pub innermost_past : (rs : List Region) (n : ℕ) → length rs ≤ n → innermost rs n ≡ None
innermost_past rs n past = ap first_of (blocks_past rs n past)

pub innermost_step : (rs : List Region) (n : ℕ) → n < length rs
    → innermost rs n ≡ (if is_block (kind_at rs n) then Some n else next rs n (get_or rs n outside).outer)
innermost_step rs n lt = ap first_of (blocks_step rs n lt) ∙ by (is_block (kind_at rs n))
  where
    by : (b : Bool) → first_of (if b then n ∷ beyond rs n (get_or rs n outside).outer else beyond rs n (get_or rs n outside).outer) ≡ (if b then Some n else next rs n (get_or rs n outside).outer)
    by true = refl
    by false = first_beyond rs n (get_or rs n outside).outer

-- what the innermost block round a region is
pub record Finds (rs : List Region) (n : ℕ) (found : Option ℕ) : Type 0 where
  pub blocks : blocks_round rs n ≡ blocks_from rs found
  pub itself : IfSome found (λ b. innermost rs b ≡ Some b)
  pub within : IfSome found (λ b. b < length rs)
  pub near : IfSome found (λ b. b ≤ n)

nearer : (found : Option ℕ) (o n : ℕ) → o ≤ n → IfSome found (λ b. b ≤ o) → IfSome found (λ b. b ≤ n)
nearer None o n le h = tt
nearer (Some b) o n le h = omega (arith, le, h)

before_it : (found : Option ℕ) (o n : ℕ) → o < n → IfSome found (λ b. b ≤ o) → IfSome found (λ b. b < n)
before_it None o n lt h = tt
before_it (Some b) o n lt h = omega (arith, lt, h)

module _ (rs : List Region) (n : ℕ) (inner : (o : ℕ) → o < n → Finds rs o (innermost rs o)) where
  finds_none : blocks_round rs n ≡ [] → Finds rs n None
  finds_none e = record { blocks = e; itself = tt; within = tt; near = tt }

  finds_before : (o : ℕ) (b : Bool) → nat_lt o n ≡ b → blocks_round rs n ≡ (if b then blocks_round rs o else []) → Finds rs n (if b then innermost rs o else None)
  finds_before o true lt e =
      let less : o < n = ltb-true o n lt in
      let h = inner o less in
      record { blocks = e ∙ h.blocks; itself = h.itself; within = h.within; near = nearer (innermost rs o) o n (omega (arith, less)) h.near }
  finds_before o false lt e = finds_none e

  finds_next : (outer : Option ℕ) → blocks_round rs n ≡ beyond rs n outer → Finds rs n (next rs n outer)
  finds_next None e = finds_none e
  finds_next (Some o) e = finds_before o (nat_lt o n) refl e

  finds_here : n < length rs → (b : Bool) → is_block (kind_at rs n) ≡ b → Finds rs n (innermost rs n)
  finds_here lt true e =
      let outer = (get_or rs n outside).outer in
      let it : innermost rs n ≡ Some n = innermost_step rs n lt ∙ ap (λ (b : Bool). if b then Some n else next rs n outer) e in
      subst (Finds rs n) (sym it) (record { blocks = refl; itself = it; within = lt; near = omega arith })
  finds_here lt false e =
      let outer = (get_or rs n outside).outer in
      let it : innermost rs n ≡ next rs n outer = innermost_step rs n lt ∙ ap (λ (b : Bool). if b then Some n else next rs n outer) e in
      subst (Finds rs n) (sym it) (finds_next outer (blocks_step rs n lt ∙ ap (λ (b : Bool). if b then n ∷ beyond rs n outer else beyond rs n outer) e))

  finds_step : (b : Bool) → nat_lt n (length rs) ≡ b → Finds rs n (innermost rs n)
  finds_step true e = finds_here (ltb-true n (length rs) e) (is_block (kind_at rs n)) refl
  finds_step false e =
      let past : length rs ≤ n = ltb-false n (length rs) e in
      subst (Finds rs n) (sym (innermost_past rs n past)) (finds_none (blocks_past rs n past))

finds_below : (rs : List Region) (m n : ℕ) → n < m → Finds rs n (innermost rs n)
finds_below rs zero n lt = absurd (omega (arith, lt))
finds_below rs (suc m) n lt = finds_step rs n (λ o less. finds_below rs m o (omega (arith, lt, less))) (nat_lt n (length rs)) refl

pub finds : (rs : List Region) (n : ℕ) → Finds rs n (innermost rs n)
finds rs n = finds_below rs (suc n) n (omega arith)

-- a block stands in front of those round its outer region
module _ (rs : List Region) (n : ℕ) (it : innermost rs n ≡ Some n) where
  pub within_it : n < length rs
  within_it = subst (λ (r : Option ℕ). IfSome r (λ b. b < length rs)) it (finds rs n).within

  not_before : (o : ℕ) (b : Bool) → nat_lt o n ≡ b → (if b then innermost rs o else None) ≡ Some n → ⊥
  not_before o true lt e =
      let less : o < n = ltb-true o n lt in
      let near : n ≤ o = subst (λ (r : Option ℕ). IfSome r (λ b. b ≤ o)) e (finds rs o).near in
      omega (arith, less, near)
  not_before o false lt e = cc

  not_next : (outer : Option ℕ) → next rs n outer ≡ Some n → ⊥
  not_next None e = cc
  not_next (Some o) e = not_before o (nat_lt o n) refl e

  in_front_if : (b : Bool) → is_block (kind_at rs n) ≡ b → blocks_round rs n ≡ n ∷ beyond rs n (get_or rs n outside).outer
  in_front_if true e =
      let outer = (get_or rs n outside).outer in
      blocks_step rs n within_it ∙ ap (λ (b : Bool). if b then n ∷ beyond rs n outer else beyond rs n outer) e
  in_front_if false e =
      let outer = (get_or rs n outside).outer in
      absurd (not_next outer (sym (innermost_step rs n within_it ∙ ap (λ (b : Bool). if b then Some n else next rs n outer) e) ∙ it))

  in_front : blocks_round rs n ≡ n ∷ beyond rs n (get_or rs n outside).outer
  in_front = in_front_if (is_block (kind_at rs n)) refl

-- what the next block outwards is
pub record Outwards (rs : List Region) (n : ℕ) (found : Option ℕ) : Type 0 where
  pub blocks : blocks_round rs n ≡ n ∷ blocks_from rs found
  pub itself : IfSome found (λ b. innermost rs b ≡ Some b)
  pub earlier : IfSome found (λ b. b < n)

outwards_from : (rs : List Region) (n : ℕ) (outer : Option ℕ) → blocks_round rs n ≡ n ∷ beyond rs n outer → Outwards rs n (next rs n outer)
outwards_from rs n None e = record { blocks = e; itself = tt; earlier = tt }
outwards_from rs n (Some o) e = by (nat_lt o n) refl e
  where
    by : (b : Bool) → nat_lt o n ≡ b → blocks_round rs n ≡ n ∷ (if b then blocks_round rs o else []) → Outwards rs n (if b then innermost rs o else None)
    by true lt f =
        let less : o < n = ltb-true o n lt in
        let h = finds rs o in
        record { blocks = f ∙ ap (λ (ns : List ℕ). n ∷ ns) h.blocks; itself = h.itself; earlier = before_it (innermost rs o) o n less h.near }
    by false lt f = record { blocks = f; itself = tt; earlier = tt }

pub outwards : (rs : List Region) (n : ℕ) → innermost rs n ≡ Some n → Outwards rs n (next rs n (get_or rs n outside).outer)
outwards rs n it = outwards_from rs n (get_or rs n outside).outer (in_front rs n it)

-- the next block for each outer region
module _ (rs : List Region) (n : ℕ) where
  pub next_before : (outer : Option ℕ) (o : ℕ) → outer ≡ Some o → o < n → next rs n outer ≡ innermost rs o
  next_before outer o e lt = ap (next rs n) e ∙ ap (λ (b : Bool). if b then innermost rs o else None) (lt-ltb o n lt)

  pub next_after : (outer : Option ℕ) (o : ℕ) → outer ≡ Some o → n ≤ o → next rs n outer ≡ None
  next_after outer o e le = ap (next rs n) e ∙ ap (λ (b : Bool). if b then innermost rs o else None) (le-ltb o n le)

  pub next_none : (outer : Option ℕ) → outer ≡ None → next rs n outer ≡ None
  next_none outer e = ap (next rs n) e

-- a region as the code reads it
pub read : (xs : List Written) (n : ℕ) (r : Written) → n < length xs → r ≡ get_or xs n r → get_or (regions_view xs) n outside ≡ region_view r
read xs n r lt e = get_or-map region_view xs n r outside lt ∙ ap region_view (sym e)

-- the next block outwards is that of the outer region as the code reads it
pub leads : (rs : List Region) (xs : List Written) → regions_view xs ≡ rs → (n : ℕ) → innermost rs n ≡ Some n → (r : Written) → r ≡ get_or xs n r → Outwards rs n (next rs n r.outer)
leads rs xs view n it r e =
    let here : innermost (regions_view xs) n ≡ Some n = ap (λ rs. innermost rs n) view ∙ it in
    let within : n < length xs = omega (arith, length-map xs region_view, within_it (regions_view xs) n here) in
    subst (λ rs. Outwards rs n (next rs n r.outer)) view
    (subst (λ (q : Region). Outwards (regions_view xs) n (next (regions_view xs) n q.outer)) (read xs n r within e) (outwards (regions_view xs) n here))

-- the innermost blocks are told one after another
pub told_block : (rs : List Region) (n : ℕ) → n < length rs → (r : Region) → get_or rs n outside ≡ r → is_block r.kind ≡ true → innermost rs n ≡ Some n
told_block rs n lt r is t =
    innermost_step rs n lt ∙ ap (λ (r : Region). if is_block r.kind then Some n else next rs n r.outer) is ∙ ap (λ (b : Bool). if b then Some n else next rs n r.outer) t

pub told_other : (rs : List Region) (n : ℕ) → n < length rs → (r : Region) → get_or rs n outside ≡ r → is_block r.kind ≡ false → innermost rs n ≡ next rs n r.outer
told_other rs n lt r is t =
    innermost_step rs n lt ∙ ap (λ (r : Region). if is_block r.kind then Some n else next rs n r.outer) is ∙ ap (λ (b : Bool). if b then Some n else next rs n r.outer) t

told_more : (rs : List Region) (blocks : List (Option ℕ)) (found : Option ℕ) → ((n : ℕ) → n < length blocks → get_or blocks n None ≡ innermost rs n) → found ≡ innermost rs (length blocks)
    → (n : ℕ) (b : Bool) → nat_lt n (length blocks) ≡ b → n < length blocks + 1 → get_or (blocks ++ found ∷ []) n None ≡ innermost rs n
told_more rs blocks found each here n true t lt =
    let front : n < length blocks = ltb-true n (length blocks) t in
    get_or_append_left blocks (found ∷ []) None n front ∙ each n front
told_more rs blocks found each here n false t lt =
    let back : length blocks ≤ n = ltb-false n (length blocks) t in
    let last : length blocks ≡ n = omega (arith, lt, back) in
    subst (λ (k : ℕ). get_or (blocks ++ found ∷ []) k None ≡ innermost rs k) last (get_or-append_seam blocks found [] None ∙ here)

pub told : (rs : List Region) (blocks : List (Option ℕ)) (found : Option ℕ) (i : ℕ) → length blocks ≡ i → ((n : ℕ) → n < i → get_or blocks n None ≡ innermost rs n) → found ≡ innermost rs i
    → (n : ℕ) → n < i + 1 → get_or (blocks ++ found ∷ []) n None ≡ innermost rs n
told rs blocks found i count each here n lt =
    told_more rs blocks found (λ k front. each k (omega (arith, count, front))) (here ∙ ap (innermost rs) (sym count)) n (nat_lt n (length blocks)) refl (omega (arith, count, lt))

pub told_all : (rs : List Region) (blocks : List (Option ℕ)) → length blocks ≡ length rs → ((n : ℕ) → n < length rs → get_or blocks n None ≡ innermost rs n) → HasInnermost rs blocks
told_all rs blocks count each = record { each = λ n. by n (nat_lt n (length rs)) refl; count = count }
  where
    by : (n : ℕ) (b : Bool) → nat_lt n (length rs) ≡ b → get_or blocks n None ≡ innermost rs n
    by n true t = each n (ltb-true n (length rs) t)
    by n false t =
        let past : length rs ≤ n = ltb-false n (length rs) t in
        get_or_past blocks n None (omega (arith, count, past)) ∙ sym (innermost_past rs n past)
