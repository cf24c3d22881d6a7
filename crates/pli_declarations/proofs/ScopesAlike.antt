-- References mean what the passes find.
use Rattle.std.specs.Prelude.{◌≡◌, refl, ℕ, zero, suc, ◌+◌, Bool, true, false, ◌&&◌, ◌||◌, List, [], ◌∷◌, ◌++◌, map, reverse, length, if◌then◌else◌, cond}
use Rattle.std.specs.List.{filter, list_any, range_with_len}
use Rattle.std.specs.Cmp.Lexicographic.{pointwise}
use Rattle.std.proofs.Common.{sym, ap, ◌∙◌, arith}
use Rattle.std.proofs.lemmas.List.{append-nil}
use Rattle.std.proofs.lemmas.List.Elements.{filter-append}
use Rattle.std.proofs.lemmas.List.Folds.{list_any-append}
use Rattle.std.proofs.lemmas.List.FromFn.{fill_by_all}
use Rattle.pli_base.specs.Name.{Name}
use Rattle.pli_base.specs.Words.{same_name}
use Rattle.pli_declare_scopes.specs.Scopes as old
use Rattle.pli_declare_scopes.specs.Scopes.{BlockItems, Scope, item_at, fits_chain, no_item}
use Rattle.pli_declare_scopes.specs.declared.block.Declared.{Declared}
use Rattle.pli_declare_scopes.specs.declared.found.Found.{Found}
use Rattle.pli_declare_scopes.specs.declared.found.Found.TheVariants.{Nothing, One, Several}
use Rattle.pli_declare_scopes.specs.declared.found.ReferenceMeaning.TheVariants.{NotDeclared}
use Rattle.pli_declarations.specs.Scopes.{declares, numbers_where, meant_among, meant_from, meant}

-- the numbers below the next one
last : (a k : ℕ) → range_with_len a (suc k) ≡ range_with_len a k ++ (a + k) ∷ []
last a zero = let e : a ≡ a + 0 = omega arith in ap (λ n. n ∷ []) e
last a (suc k) =
    let e : a + 1 + k ≡ a + suc k = omega arith in
    ap (λ ns. a ∷ ns) (last (a + 1) k ∙ ap (λ n. range_with_len (a + 1) k ++ n ∷ []) e)

-- ---- what a block declares

swapped : (b c : Bool) → (b || c) ≡ (c || (b || false))
swapped true true = refl
swapped true false = refl
swapped false true = refl
swapped false false = refl

below : (test : ℕ → Bool) (k : ℕ) → old.any_below test k ≡ list_any test (range_with_len 0 k)
below test zero = refl
below test (suc k) =
    ap (λ b. test k || b) (below test k) ∙ swapped (test k) (list_any test (range_with_len 0 k))
    ∙ sym (list_any-append test (range_with_len 0 k) (k ∷ [])) ∙ ap (list_any test) (sym (last 0 k ∙ ap (λ n. range_with_len 0 k ++ n ∷ []) same))
  where
    same : 0 + k ≡ k
    same = omega arith

pub mapped : {A B : Type 0} (p : B → Bool) (f : A → B) (xs : List A) → list_any p (map f xs) ≡ list_any (λ x. p (f x)) xs
mapped p f [] = refl
mapped p f (x ∷ xs) = ap (λ b. p (f x) || b) (mapped p f xs)

declared_alike : (block : BlockItems) (name : Name) → declares block name ≡ old.declares block name
declared_alike block name =
    ap (list_any (λ (i : Declared). i.counts && same_name i.name name)) (fill_by_all (item_at block) block (length block) no_item refl (λ k l. refl))
    ∙ mapped (λ (i : Declared). i.counts && same_name i.name name) (item_at block) (range_with_len 0 (length block))
    ∙ sym (below (old.is_named block name) (length block))

-- ---- how many fit

-- what is found by a list of numbers
found_by : List ℕ → Found
found_by [] = Nothing
found_by (n ∷ []) = One n
found_by (n ∷ m ∷ more) = Several

-- with what was found before
joined : Found → Found → Found
joined Nothing found = found
joined (One n) Nothing = One n
joined (One n) (One m) = Several
joined (One n) Several = Several
joined Several found = Several

one_more : (ns : List ℕ) (k : ℕ) (found : Found) → joined (found_by ns) (old.with_number k found) ≡ joined (found_by (ns ++ k ∷ [])) found
unfolding found_by joined
one_more [] k Nothing = refl
one_more [] k (One m) = refl
one_more [] k Several = refl
one_more (n ∷ []) k Nothing = refl
one_more (n ∷ []) k (One m) = refl
one_more (n ∷ []) k Several = refl
one_more (n ∷ m ∷ more) k found = refl

tallied : (test : ℕ → Bool) (k : ℕ) (found : Found) → old.found_below test k found ≡ joined (found_by (filter test (range_with_len 0 k))) found
unfolding found_by joined
tallied test zero found = refl
tallied test (suc k) found =
    tallied test k (if test k then old.with_number k found else found) ∙ by (test k)
    ∙ ap (λ ns. joined (found_by ns) found) (sym (ap (filter test) (last 0 k ∙ ap (λ n. range_with_len 0 k ++ n ∷ []) same) ∙ filter-append test (range_with_len 0 k) (k ∷ [])))
  where
    same : 0 + k ≡ k
    same = omega arith

    ns : List ℕ
    ns = filter test (range_with_len 0 k)

    by : (b : Bool) → joined (found_by ns) (if b then old.with_number k found else found) ≡ joined (found_by (ns ++ cond b (k ∷ []) [])) found
    by true = one_more ns k found
    by false = ap (λ xs. joined (found_by xs) found) (sym (append-nil ns))

alone : (found : Found) → joined found Nothing ≡ found
unfolding joined
alone Nothing = refl
alone (One n) = refl
alone Several = refl

all_found : (test : ℕ → Bool) (k : ℕ) → old.found_below test k Nothing ≡ found_by (filter test (range_with_len 0 k))
all_found test k = tallied test k Nothing ∙ alone (found_by (filter test (range_with_len 0 k)))

among : (out : ℕ) (fully partly : List ℕ) → meant_among out fully partly ≡ old.meant_there out (old.preferred (found_by fully) (found_by partly))
unfolding found_by
among out [] [] = refl
among out [] (n ∷ []) = refl
among out [] (n ∷ m ∷ more) = refl
among out (n ∷ []) partly = refl
among out (n ∷ m ∷ more) [] = refl
among out (n ∷ m ∷ more) (k ∷ []) = refl
among out (n ∷ m ∷ more) (k ∷ l ∷ others) = refl

unnamed : (k : ℕ) (bs : Scope) → NotDeclared ≡ old.meant_from k bs []
unnamed k [] = refl
unnamed k (c ∷ cs) = unnamed (k + 1) cs

from_alike : (out : ℕ) (scope : Scope) (names : List Name) → meant_from out scope names ≡ old.meant_from out scope names
from_alike out [] [] = refl
from_alike out [] (n ∷ names) = refl
from_alike out (b ∷ more) [] = unnamed (out + 1) more
from_alike out (b ∷ more) (n ∷ names) =
    λ i. if declared_alike b n i
    then (among out (numbers_where (pointwise same_name (reverse (n ∷ names))) b) (numbers_where (fits_chain (reverse (n ∷ names))) b)
    ∙ (λ j. old.meant_there out (old.preferred (sym (all_found (old.fits_fully b (n ∷ names)) (length b)) j) (sym (all_found (old.fits b (n ∷ names)) (length b)) j)))) i
    else from_alike (out + 1) more (n ∷ names) i

pub meant_alike : (scope : Scope) (names : List Name) → meant scope names ≡ old.meant scope names
meant_alike scope names = from_alike 0 scope names
