-- Which items have members, by marks that members set.
use Rattle.std.proofs.Common.{◌≡◌, ℕ, suc, ◌+◌, ◌<◌, ◌==◌, ◌||◌, not, Bool, true, false, Option, Some, None, List, [], ◌∷◌, length, get_or, take, set, ◌≢◌, option_map, map, refl, sym, ap, ◌∙◌, arith}
use Rattle.std.specs.List.{list_any, filter}
use Rattle.std.specs.Option.{unwrap_or}
use Rattle.std.proofs.lemmas.Bool.Decides.{nat_tests}
use Rattle.std.proofs.lemmas.List.{ext_get_or, take_more, get_or-set_same, get_or-set_other}
use Rattle.std.proofs.lemmas.List.Folds.{list_any-append}
use Rattle.pli_declare.specs.Tables.{Entry, no_entry, numbers_from}
use Rattle.pli_declare.specs.Places.{owner_is}
use Rattle.pli_declare_variables.specs.answers.Walks.{has_members_at}
use Rattle.pli_declare_variables.proofs.NumberLemmas.{mapped_at, mapped_length}

or_true : (a : Bool) → (a || true) ≡ true
or_true true = refl
or_true false = refl

or_false : (a : Bool) → (a || false) ≡ a
or_false true = refl
or_false false = refl

nonzero : (n : ℕ) → not (suc n == 0) ≡ true
nonzero n = let apart : (suc n == 0) ≡ false = grind (arith, nat_tests) in ap not apart

filtered : {X : Type 0} (test : X → Bool) (xs : List X) → not (length (filter test xs) == 0) ≡ list_any test xs
filtered test [] = refl
filtered test (x ∷ xs) = by (test x) refl (filtered test xs)
  where
    by : (b : Bool) → test x ≡ b → not (length (filter test xs) == 0) ≡ list_any test xs → not (length (filter test (x ∷ xs)) == 0) ≡ list_any test (x ∷ xs)
    by true e rest = rw e (nonzero (length (filter test xs)))
    by false e rest = rw e rest

any_mapped : {X Y : Type 0} (f : X → Y) (test : Y → Bool) (xs : List X) → list_any (λ x. test (f x)) xs ≡ list_any test (map f xs)
any_mapped f test [] = refl
any_mapped f test (x ∷ xs) = ap (λ b. test (f x) || b) (any_mapped f test xs)

numbered_all : (entries : List Entry) → map (λ k. get_or entries k no_entry) (numbers_from 0 (length entries)) ≡ entries
numbered_all entries =
    let long = mapped_length (λ k. get_or entries k no_entry) (length entries) in
    ext_get_or no_entry (map (λ k. get_or entries k no_entry) (numbers_from 0 (length entries))) entries long
    (λ i lt. mapped_at (λ k. get_or entries k no_entry) (length entries) i no_entry (omega arith))

pub members_there : (entries : List Entry) (n : ℕ) → has_members_at entries n ≡ list_any (owner_is n) entries
members_there entries n =
    filtered (λ k. owner_is n (get_or entries k no_entry)) (numbers_from 0 (length entries))
    ∙ any_mapped (λ k. get_or entries k no_entry) (owner_is n) (numbers_from 0 (length entries))
    ∙ ap (list_any (owner_is n)) (numbered_all entries)

-- one entry more, which marks its owner if it has one
module _ (entries : List Entry) (marks : List Bool) (i : ℕ) (lt : i < length entries) (marked : (n : ℕ) → n < length entries → get_or marks n false ≡ list_any (owner_is n) (take i entries)) where
  with_entry : (n : ℕ) → list_any (owner_is n) (take (i + 1) entries) ≡ (list_any (owner_is n) (take i entries) || owner_is n (get_or entries i no_entry))
  with_entry n =
      ap (list_any (owner_is n)) (take_more entries i no_entry lt)
      ∙ list_any-append (owner_is n) (take i entries) (get_or entries i no_entry ∷ [])
      ∙ ap (λ b. list_any (owner_is n) (take i entries) || b) (or_false (owner_is n (get_or entries i no_entry)))

  pub none_marked : (get_or entries i no_entry).owner ≡ None → (n : ℕ) → n < length entries → get_or marks n false ≡ list_any (owner_is n) (take (i + 1) entries)
  none_marked is n within =
      marked n within ∙ sym (or_false (list_any (owner_is n) (take i entries)))
      ∙ ap (λ (o : Option ℕ). list_any (owner_is n) (take i entries) || unwrap_or (option_map (λ k. k == n) o) false) (sym is) ∙ sym (with_entry n)

  pub one_marked : (o : ℕ) → (get_or entries i no_entry).owner ≡ Some o → o < length marks → (n : ℕ) → n < length entries
      → get_or (set marks o true) n false ≡ list_any (owner_is n) (take (i + 1) entries)
  one_marked o is room n within =
      by (o == n) refl ∙ ap (λ b. b || (o == n)) (marked n within)
      ∙ ap (λ (x : Option ℕ). list_any (owner_is n) (take i entries) || unwrap_or (option_map (λ k. k == n) x) false) (sym is) ∙ sym (with_entry n)
    where
      by : (b : Bool) → (o == n) ≡ b → get_or (set marks o true) n false ≡ (get_or marks n false || b)
      by true e =
          let same : n ≡ o = grind (arith, nat_tests, e) in
          ap (λ (k : ℕ). get_or (set marks o true) k false) same ∙ get_or-set_same marks o true false room ∙ sym (or_true (get_or marks n false))
      by false e =
          let other : n ≢ o = grind (arith, nat_tests, e) in
          get_or-set_other marks o n true false other ∙ sym (or_false (get_or marks n false))
