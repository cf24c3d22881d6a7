-- Each region of a unit is a block or stands in one.
use Rattle.std.proofs.Common.{◌≡◌, ℕ, zero, suc, ◌+◌, ◌<◌, Bool, true, false, if◌then◌else◌, Some, List, [], ◌∷◌, ◌++◌, length, get_or, refl, sym, ap, ◌∙◌, subst, arith}
use Rattle.pli_base.specs.Statements.{Statement, Numbered, Body, Procedure, Begin, Do, If, On, Statements, Ended, Before, Alternative, NoElse, Else, ExternalProcedure}
use Rattle.pli_declare_outline.specs.Outlines.{Region, outline_of, regions_in, regions_among, statement_regions, body_regions, statements_regions, alternative_regions}
use Rattle.pli_declare_constructs.specs.Regions.{is_block, kind_at, outside, innermost, first_or_unit, block_of, blocks_round, blocks_from}
use Rattle.pli_declare_constructs.proofs.BlocksAround.{next, next_before, innermost_step, finds}
use Rattle.pli_resolve.proofs.RegionWalks.{regions_counted, list_regions_counted}

-- regions, the first of which has this number, stand each in one of a lesser number
abbrev StandInside : (first : ℕ) → List Region → Type 0
StandInside n [] = Unit {0}
StandInside n (r ∷ rs) = ((o : ℕ) × (r.outer ≡ Some o) × (o < n)) × StandInside (n + 1) rs

both : (n k : ℕ) (xs ys : List Region) → n + length xs ≡ k → StandInside n xs → StandInside k ys → StandInside n (xs ++ ys)
both n k [] ys e h g = let same : k ≡ n = omega (arith, e) in subst (λ m. StandInside m ys) same g
both n k (x ∷ xs) ys e h g = (h.0, both (n + 1) k xs ys (omega (arith, e)) h.1 g)

mutual
  inside : (s : Statement) (here next : ℕ) → here < next → StandInside next (statement_regions here next s)
  inside (Numbered number label at body) here next lt = inside_body body here next lt

  inside_body : (b : Body) (here next : ℕ) → here < next → StandInside next (body_regions here next b)
  inside_body (Procedure heading statements end) here next lt = ((here, refl, lt), inside_list statements next (next + 1) (omega arith))
  inside_body (Begin statements end) here next lt = ((here, refl, lt), inside_list statements next (next + 1) (omega arith))
  inside_body (Do control statements end) here next lt = ((here, refl, lt), inside_list statements next (next + 1) (omega arith))
  inside_body (If condition consequence alternative) here next lt =
      both next (next + regions_in consequence) (statement_regions here next consequence) (alternative_regions here (next + regions_in consequence) alternative)
      (ap (λ n. next + n) (regions_counted consequence here next)) (inside consequence here next lt)
      (inside_else alternative here (next + regions_in consequence) (omega (arith, lt)))
  inside_body (On condition unit) here next lt = ((here, refl, lt), inside unit next (next + 1) (omega arith))
  inside_body other here next lt = tt

  inside_list : (ss : Statements) (here next : ℕ) → here < next → StandInside next (statements_regions here next ss)
  inside_list Ended here next lt = tt
  inside_list (Before first more) here next lt =
      both next (next + regions_in first) (statement_regions here next first) (statements_regions here (next + regions_in first) more)
      (ap (λ n. next + n) (regions_counted first here next)) (inside first here next lt)
      (inside_list more here (next + regions_in first) (omega (arith, lt)))

  inside_else : (a : Alternative) (here next : ℕ) → here < next → StandInside next (alternative_regions here next a)
  inside_else NoElse here next lt = tt
  inside_else (Else statement) here next lt = inside statement here next lt

outer_of : (n k m : ℕ) (rs : List Region) → StandInside n rs → k < length rs → m ≡ n + k → (o : ℕ) × ((get_or rs k outside).outer ≡ Some o) × (o < m)
outer_of n k m [] h lt e = absurd (omega (arith, lt))
outer_of n zero m (r ∷ rs) h lt e = (h.0.0, h.0.1, omega (arith, h.0.2, e))
outer_of n (suc k) m (r ∷ rs) h lt e = outer_of (n + 1) k m rs h.1 (omega (arith, lt)) (omega (arith, e))

-- the innermost block round each
module _ (first : Region) (more : List Region) (block : is_block first.kind ≡ true) (h : StandInside 1 more) where
  abbrev all : List Region
  all = first ∷ more

  abbrev HasBlock : ℕ → Type 0
  HasBlock n = (b : ℕ) × (innermost all n ≡ Some b)

  itself : (n : ℕ) → n < length all → is_block (kind_at all n) ≡ true → HasBlock n
  itself n lt t = (n, innermost_step all n lt ∙ ap (λ (b : Bool). if b then Some n else next all n (get_or all n outside).outer) t)

  after : (k : ℕ) → suc k < length all → ((o : ℕ) → o < suc k → HasBlock o) → (b : Bool) → is_block (kind_at all (suc k)) ≡ b → HasBlock (suc k)
  after k lt inner true t = itself (suc k) lt t
  after k lt inner false t =
      let o = outer_of 1 k (suc k) more h (omega (arith, lt)) (omega arith) in
      let found = inner o.0 o.2 in (
        found.0,
        innermost_step all (suc k) lt
            ∙ ap (λ (b : Bool). if b then Some (suc k) else next all (suc k) (get_or all (suc k) outside).outer) t
            ∙ next_before all (suc k) (get_or all (suc k) outside).outer o.0 o.1 o.2 ∙ found.1,
      )

  has_below : (m n : ℕ) → n < m → n < length all → HasBlock n
  has_below zero n less lt = absurd (omega (arith, less))
  has_below (suc m) zero less lt = itself 0 lt block
  has_below (suc m) (suc k) less lt = after k lt (λ o low. has_below m o (omega (arith, less, low)) (omega (arith, low, lt))) (is_block (kind_at all (suc k))) refl

  has : (n : ℕ) → n < length all → HasBlock n
  has n lt = has_below (suc n) n (omega arith) lt

-- the blocks round a region of a unit are those round its block
pub round_its_block : (u : ExternalProcedure) (n : ℕ) → n < 1 + regions_among u.statements
    → blocks_round (outline_of u).regions (block_of (outline_of u).regions n) ≡ blocks_round (outline_of u).regions n
unfolding outline_of
round_its_block u n lt =
    let rs = (outline_of u).regions in
    let it = has (get_or rs 0 outside) (statements_regions 0 1 u.statements) refl (inside_list u.statements 0 1 (omega arith)) n (omega (arith, lt, list_regions_counted u.statements 0 1)) in
    ap (λ o. blocks_round rs (first_or_unit o)) it.1
    ∙ sym ((finds rs n).blocks ∙ ap (blocks_from rs) it.1)
