-- The longest run of characters of a kind at the front of a text.
use Rattle.std.proofs.Common.{◌≡◌, ℕ, ◌≤◌, Bool, true, false, List, [], ◌∷◌, ◌++◌, length, take, drop, refl, arith, inl, inr}
use Rattle.std.specs.List.{list_all, prefix_len}
use Rattle.std.proofs.lemmas.Bool.{cases_Bool, and_parts}
use Rattle.std.proofs.Math.Numerals.{one-add}
use Rattle.pli_lex.specs.Characters.{begins_with}

-- each character of the run is of the kind
pub run_passes : (p : ℕ → Bool) (text : List ℕ) → list_all p (take (prefix_len p text) text) ≡ true
run_passes p [] = refl
run_passes p (c ∷ cs) = elim (cases_Bool (p c)) [
  | inl holds ↦ rw (holds, one-add, holds) (run_passes p cs)
  | inr fails ↦ rw fails refl
]

-- the run is not empty where the text begins with the kind
pub run_starts : (p : ℕ → Bool) (text : List ℕ) → begins_with p text ≡ true → 1 ≤ prefix_len p text
run_starts p [] holds = absurd cc
run_starts p (c ∷ cs) holds = rw holds (omega arith)

-- the run is within the text
pub run_within : (p : ℕ → Bool) (text : List ℕ) → prefix_len p text ≤ length text
run_within p [] = omega arith
run_within p (c ∷ cs) = elim (cases_Bool (p c)) [
  | inl holds ↦ rw holds (omega (arith, run_within p cs))
  | inr fails ↦ rw fails (omega arith)
]

-- the text after the run does not go on with it
pub run_stops : (p : ℕ → Bool) (text : List ℕ) → begins_with p (drop (prefix_len p text) text) ≡ false
run_stops p [] = refl
run_stops p (c ∷ cs) = elim (cases_Bool (p c)) [
  | inl holds ↦ rw (holds, one-add) (run_stops p cs)
  | inr fails ↦ rw fails fails
]

-- a run is found again before a text that does not go on with it
pub run_again : (p : ℕ → Bool) (run rest : List ℕ) → list_all p run ≡ true → begins_with p rest ≡ false → prefix_len p (run ++ rest) ≡ length run
run_again p [] [] all stops = refl
run_again p [] (c ∷ cs) all stops = rw stops refl
run_again p (c ∷ cs) rest all stops =
    let parts = and_parts (p c) (list_all p cs) all in
    rw parts.0 (rw (run_again p cs rest parts.1 stops) (omega arith))
