-- Bytes that wait, and bytes after them.
use Rattle.std.specs.Prelude.{◌≡◌, ℕ, ◌+◌, ◌<◌, List, [], ◌++◌, length, map, drop, get_or, Option, Result, Ok, Err, MatchResult, refl}
use Rattle.std.proofs.Common.{sym, ap, ◌∙◌, subst, append_assoc, append-nil}
use Rattle.std.proofs.lemmas.List.{drop_more}
use Rattle.std.specs.Io.KnownBytes.{Appends}
use Rattle.pli_base.specs.Devices.{AppendsPrefix}
use Rattle.pli_base.specs.laws.DeviceLaws.{Appends-none, Appends-then, AppendsPrefix-more, Appends-then_AppendsPrefix}
use Rattle.pli_commands.specs.answers.Answering.{joined, Writes}
use Rattle.pli_commands.specs.answers.Batches.{HasPut, Passes}

-- bytes that waited were put, and others after them
pub passed_by : {A E : Type 0} (a b c : Option (List ℕ)) (xs ys left : List ℕ) (r : Result A E) → Appends a b xs
    → MatchResult r (λ _. Appends b c ys) (λ _. AppendsPrefix b c ys) → left ≡ [] → Passes a c (xs ++ ys) left r
passed_by a b c xs ys left (Ok x) p q none = record { text = xs ++ ys; written = Appends-then a b c xs ys p q; whole_is = ap (λ l. (xs ++ ys) ++ l) none ∙ append-nil (xs ++ ys) }
passed_by a b c xs ys left (Err e) p q none = Appends-then_AppendsPrefix a b c xs ys p q

-- nothing was put yet
pub has_put_none : (a : Option (List ℕ)) (xs : List ℕ) → HasPut a a xs xs
has_put_none a xs = record { text = []; written = Appends-none a; whole_is = refl }

-- what has come of a whole, of which some bytes wait and the rest comes after them
module _ (a b c : Option (List ℕ)) (whole waiting rest part later : List ℕ) (so_far : HasPut a b whole (waiting ++ rest)) (rest_is : rest ≡ part ++ later) where
  rest_after : so_far.text ++ ((waiting ++ part) ++ later) ≡ whole
  rest_after = ap (λ l. so_far.text ++ l) (append_assoc waiting part later ∙ ap (λ l. waiting ++ l) (sym rest_is)) ∙ so_far.whole_is

  -- one part more, after which others wait
  pub has_put_more : (left : List ℕ) → HasPut b c (waiting ++ part) left → HasPut a c whole (left ++ later)
  has_put_more left now = record {
    text = so_far.text ++ now.text;
    written = Appends-then a b c so_far.text now.text so_far.written now.written;
    whole_is = append_assoc so_far.text now.text (left ++ later) ∙ ap (λ l. so_far.text ++ l) (sym (append_assoc now.text left later) ∙ ap (λ l. l ++ later) now.whole_is) ∙ rest_after;
  }

  -- the writer failed in it
  pub breaks_in : AppendsPrefix b c (waiting ++ part) → AppendsPrefix a c whole
  breaks_in now = subst (AppendsPrefix a c) rest_after (Appends-then_AppendsPrefix a b c so_far.text _ so_far.written (AppendsPrefix-more b c (waiting ++ part) later now))

module _ (a b : Option (List ℕ)) (whole waiting rest : List ℕ) (so_far : HasPut a b whole (waiting ++ rest)) (done : rest ≡ []) where
  all_is : so_far.text ++ waiting ≡ whole
  all_is = ap (λ l. so_far.text ++ l) (sym (append-nil waiting) ∙ ap (λ l. waiting ++ l) (sym done)) ∙ so_far.whole_is

  -- no part is left
  pub has_put_all : HasPut a b whole waiting
  has_put_all = record { text = so_far.text; written = so_far.written; whole_is = all_is }

  -- and those that wait are put
  pub writes_all : {A E : Type 0} (c : Option (List ℕ)) (r : Result A E) → Writes b c waiting r → Writes a c whole r
  writes_all c (Ok x) now = subst (Appends a c) all_is (Appends-then a b c so_far.text waiting so_far.written now)
  writes_all c (Err e) now = subst (AppendsPrefix a c) all_is (Appends-then_AppendsPrefix a b c so_far.text waiting so_far.written now)

-- the parts from one on
pub joined_from : {A : Type 0} (f : A → List ℕ) (xs : List A) (i : ℕ) (d : A) → i < length xs → joined (map f (drop i xs)) ≡ f (get_or xs i d) ++ joined (map f (drop (i + 1) xs))
joined_from f xs i d h = ap (λ l. joined (map f l)) (drop_more xs i d h)
