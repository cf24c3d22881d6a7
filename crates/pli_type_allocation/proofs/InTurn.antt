-- Several in turn, one after the other.
use Rattle.std.proofs.Common.{◌≡◌, ◌++◌, ◌+◌, ◌<◌, ◌≤◌, ℕ, [], ◌∷◌, List, Result, Ok, Err, map, drop, get_or, length, refl, ap, sym, ◌∙◌, append-nil, append_assoc}
use Rattle.std.proofs.lemmas.List.{at_drop_all, at_drop_more}
use Rattle.pli_base.specs.Results.{◌>>=◌}
use Rattle.pli_base.specs.answers.FailureAnswers.{Fails}
use Rattle.pli_base.specs.declared.failure.Failure.{Failure}
use Rattle.pli_base.specs.declared.failure.Failure.TheVariants as errors
use Rattle.pli_base.specs.declared.token.Fault.{Fault}
use Rattle.pli_type_rules.specs.AllocationTyping.{in_turn}

-- those so far in front of those that are left, unless one of these has a fault
abbrev pub after : {B : Type 0} → List B → Result (List B) Fault → Result (List B) Fault
after xs (Ok ys) = Ok (xs ++ ys)
after xs (Err f) = Err f

pub none_after : {B : Type 0} (r : Result (List B) Fault) → after [] r ≡ r
none_after (Ok ys) = refl
none_after (Err f) = refl

pub one_after : {B : Type 0} (xs : List B) (x : B) (r : Result (List B) Fault)
    → after xs (r >>= λ ys. Ok (x ∷ ys)) ≡ after (xs ++ x ∷ []) r
one_after xs x (Ok ys) = ap Ok (sym (append_assoc xs (x ∷ []) ys))
one_after xs x (Err f) = refl

one_then : {A B : Type 0} (each : A → Result B Fault) (xs : List B) (y : B) (a : A) (more : List A) → each a ≡ Ok y
    → after xs (in_turn each (a ∷ more)) ≡ after (xs ++ y ∷ []) (in_turn each more)
one_then each xs y a more h =
    ap (λ r. after xs (r >>= λ z. in_turn each more >>= λ zs. Ok (z ∷ zs))) h ∙ one_after xs y (in_turn each more)

one_faulty : {A B : Type 0} (each : A → Result B Fault) (xs : List B) (f : Fault) (a : A) (more : List A) → each a ≡ Err f
    → after xs (in_turn each (a ∷ more)) ≡ Err f
one_faulty each xs f a more h = ap (λ r. after xs (r >>= λ z. in_turn each more >>= λ zs. Ok (z ∷ zs))) h

-- what is left of a list begins with the element of this turn
pub front : {X C : Type 0} (P : List X → C) (xs : List X) (i : ℕ) (x : X) → x ≡ get_or xs i x → i < length xs
    → P (drop i xs) ≡ P (x ∷ drop (i + 1) xs)
front P xs i x is within = at_drop_more P xs i x within ∙ ap (λ y. P (y ∷ drop (i + 1) xs)) (sym is)

module _ {X A B : Type 0} (view : X → A) (each : A → Result B Fault) (es : List X) (i : ℕ) where
  pub each_typed : (e : X) (xs ys : List B) (x : B) (whole : Result (List B) Fault) → e ≡ get_or es i e → i < length es
      → each (view e) ≡ Ok x → ys ≡ xs ++ x ∷ []
      → after xs (in_turn each (map view (drop i es))) ≡ whole
      → after ys (in_turn each (map view (drop (i + 1) es))) ≡ whole
  each_typed e xs ys x whole is within h put was =
      ap (λ zs. after zs (in_turn each (map view (drop (i + 1) es)))) put
      ∙ sym (one_then each xs x (view e) (map view (drop (i + 1) es)) h)
      ∙ sym (front (λ bs. after xs (in_turn each (map view bs))) es i e is within)
      ∙ was

  pub each_stops : (e : X) (xs : List B) (error : Failure Fault) (whole : Result (List B) Fault) → e ≡ get_or es i e → i < length es
      → Fails error (each (view e)) → after xs (in_turn each (map view (drop i es))) ≡ whole → Fails error whole
  each_stops e xs errors.OutOfMemory whole is within h was = tt
  each_stops e xs (errors.Fault f) whole is within h was =
      sym was ∙ front (λ bs. after xs (in_turn each (map view bs))) es i e is within
      ∙ one_faulty each xs f (view e) (map view (drop (i + 1) es)) h

  pub all_typed : (xs : List B) (whole : Result (List B) Fault) → length es ≤ i
      → after xs (in_turn each (map view (drop i es))) ≡ whole → whole ≡ Ok xs
  all_typed xs whole past was =
      sym was ∙ at_drop_all (λ bs. after xs (in_turn each (map view bs))) es i past ∙ ap Ok (append-nil xs)
