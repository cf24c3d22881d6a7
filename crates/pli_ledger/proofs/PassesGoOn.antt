-- A pass over units goes on by one.
use Rattle.std.proofs.Common.{◌≡◌, ℕ, zero, suc, ◌+◌, ◌<◌, ◌≤◌, Bool, true, false, [], ◌∷◌, ◌++◌, length, map, take, drop, set, get_or, refl, sym, ap, subst, ◌∙◌, arith, take_all}
use Rattle.std.specs.List.{count_by}
use Rattle.std.proofs.lemmas.List.{length-take-le, set-get_or}
use Rattle.std.proofs.lemmas.List.Edits.{map_over_more}
use Rattle.std.proofs.lemmas.List.Sums.{count_by-le-length, sum_by_more}
use Rattle.pli_base.specs.Name.{Name}
use Rattle.pli_ledger.specs.Kept.{Kept, Units}
use Rattle.pli_ledger.specs.Refused.{Rises}
use Rattle.pli_ledger.specs.answers.Compiling.{one_if}
use Rattle.pli_ledger.specs.answers.Passing.{PassedUpTo, Passes}

-- what a pass has not come to is as it was
at_place : (done : Name × Kept → Name × Kept) (xs : Units) (i : ℕ) (d : Name × Kept) → i < length xs → get_or (map done (take i xs) ++ drop i xs) i d ≡ get_or xs i d
at_place done [] i d low = absurd (omega arith)
at_place done (x ∷ xs) zero d low = refl
at_place done (x ∷ xs) (suc i) d low = at_place done xs i d (omega arith)

rises_more : (a n b k c : ℕ) → Rises a n b → Rises b k c → Rises a (n + k) c
rises_more a n b k c one other = λ fits. let first : b ≡ a + n = one (omega arith) in let second : c ≡ b + k = other (omega arith) in omega arith

module _ (done : Name × Kept → Name × Kept) (needs : Name × Kept → Bool) (i : ℕ) (old now : Units) (a b : ℕ) (so_far : PassedUpTo done needs i old now a b) (low : i < length old) where
  -- the unit that the pass comes to is as it was
  pub unit_is : (u : Name × Kept) → u ≡ get_or now i u → u ≡ get_or old i u
  unit_is u is = is ∙ ap (λ (us : Units). get_or us i u) so_far.units ∙ at_place done old i u low

  pub counted_more : (u : Name × Kept) → u ≡ get_or now i u → count_by needs (take (i + 1) old) ≡ count_by needs (take i old) + one_if (needs u)
  counted_more u is = sum_by_more (λ (x : Name × Kept). one_if (needs x)) old i u low ∙ ap (λ (x : Name × Kept). count_by needs (take i old) + one_if (needs x)) (sym (unit_is u is))

  pub passed_more : (u v : Name × Kept) (new : Units) (c : ℕ) → u ≡ get_or now i u → v ≡ done u → new ≡ set now i v → Rises b (one_if (needs u)) c → PassedUpTo done needs (i + 1) old new a c
  passed_more u v new c is made put risen = record {
    within = omega arith;
    units = put ∙ ap (set now i) made ∙ map_over_more done old now i u low so_far.units is;
    count = λ fits. let whole = counted_more u is in rises_more a (count_by needs (take i old)) b (one_if (needs u)) c so_far.count risen (omega arith) ∙ ap (λ (k : ℕ). a + k) (sym whole);
  }

-- nothing is done yet
pub passed_none : (done : Name × Kept → Name × Kept) (needs : Name × Kept → Bool) (old : Units) (a : ℕ) → PassedUpTo done needs 0 old old a a
passed_none done needs old a = record { within = omega arith; units = refl; count = λ fits. omega arith }

module _ (done : Name × Kept → Name × Kept) (needs : Name × Kept → Bool) (i : ℕ) (old now : Units) (a b : ℕ) (so_far : PassedUpTo done needs i old now a b) where
  -- a pass that has come to the end has done all
  pub passed_all : length old ≤ i → PassedUpTo done needs (length old) old now a b
  passed_all past = let whole : i ≡ length old = omega (arith, so_far.within) in subst (λ (n : ℕ). PassedUpTo done needs n old now a b) whole so_far

  pub counted_all : length old ≤ i → count_by needs (take i old) ≡ count_by needs old
  counted_all past = ap (count_by needs) (take_all i old past)

  -- one that was refused at a unit has left it as it was
  pub refused_at : (u v : Name × Kept) (new : Units) (c : ℕ) → i < length old → u ≡ get_or now i u → v ≡ u → new ≡ set now i v → c ≡ b → Passes done needs old new a c
  refused_at u v new c low is same put stays =
      let units : new ≡ now = put ∙ ap (set now i) (same ∙ is) ∙ set-get_or now i u in
      (i, subst (λ (us : Units). PassedUpTo done needs i old us a c) (sym units) (subst (PassedUpTo done needs i old now a) (sym stays) so_far))

  pub passes_all : length old ≤ i → Passes done needs old now a b
  passes_all past = (length old, passed_all past)

-- a count so far fits beside another one
pub one_if_small : (b : Bool) → one_if b ≤ 1
one_if_small true = omega arith
one_if_small false = omega arith

pub count_within : (needs : Name × Kept → Bool) (i : ℕ) (old : Units) (number : ℕ) → number ≡ count_by needs (take i old) → i < length old → number ≤ i
count_within needs i old number is low = let few = count_by-le-length needs (take i old) in let short = length-take-le i old (omega arith) in omega arith
