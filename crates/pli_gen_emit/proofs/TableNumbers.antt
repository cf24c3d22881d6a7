-- A table that is numbered by first use has each of its uses at its number.
use Rattle.std.specs.Prelude.{◌≡◌, ◌≤◌, suc, Bool, true, false, ◌||◌, Some, List, [], ◌∷◌, ◌++◌, slice_get, length, refl, if◌then◌else◌}
use Rattle.std.specs.List.{list_any, AllByRecursion}
use Rattle.std.specs.Bool.{Decides}
use Rattle.std.proofs.Common.{ap, ◌∙◌, sym, true≢false, arith}
use Rattle.pli_gen_emit.specs.Encoding.{numbered, number_in}

-- a test holds of one of two lists
any_front : {X : Type 0} (p : X → Bool) (xs ys : List X) → list_any p xs ≡ true → list_any p (xs ++ ys) ≡ true
any_front p [] ys h = absurd (true≢false (sym h))
any_front p (x ∷ xs) ys h = at_first (p x) (any_front p xs ys) h
  where
    at_first : (b : Bool) → (list_any p xs ≡ true → list_any p (xs ++ ys) ≡ true) → (b || list_any p xs) ≡ true → (b || list_any p (xs ++ ys)) ≡ true
    at_first true further h = refl
    at_first false further h = further h

any_last : {X : Type 0} (p : X → Bool) (xs : List X) (y : X) → p y ≡ true → list_any p (xs ++ y ∷ []) ≡ true
any_last p [] y h = ap (λ b. b || false) h
any_last p (x ∷ xs) y h = ap (λ b. p x || b) (any_last p xs y h) ∙ or_true (p x)
  where
    or_true : (b : Bool) → (b || true) ≡ true
    or_true true = refl
    or_true false = refl

module _ {X : Type 0} (alike : X → X → Bool) (decides : (x y : X) → Decides (alike x y) (x ≡ y)) where
  abbrev pub Has : List X → X → Type 0
  Has table x = list_any (alike x) table ≡ true

  -- what a table has stands at its number
  pub number_stands : (table : List X) (x : X) → Has table x → slice_get table (number_in alike table x) ≡ Some x
  number_stands [] x h = absurd (true≢false (sym h))
  number_stands (y ∷ ys) x h = at_first (alike x y) (λ e. (decides x y).0 e) (number_stands ys x) h
    where
      at_first : (b : Bool) → (b ≡ true → x ≡ y) → (Has ys x → slice_get ys (number_in alike ys x) ≡ Some x)
          → (b || list_any (alike x) ys) ≡ true → slice_get (y ∷ ys) (if b then 0 else suc (number_in alike ys x)) ≡ Some x
      at_first true is further h = ap Some (sym (is refl))
      at_first false is further h = further h

  -- a table with a use more
  abbrev pub more : List X → X → Bool → List X
  more table y b = if b then table else table ++ y ∷ []

  still : (table : List X) (x y : X) (b : Bool) → Has table x → Has (more table y b) x
  still table x y true h = h
  still table x y false h = any_front (alike x) table (y ∷ []) h

  pub now : (table : List X) (x : X) (b : Bool) → list_any (alike x) table ≡ b → Has (more table x b) x
  now table x true h = h
  now table x false h = any_last (alike x) table x ((decides x x).1 refl)

  -- what it has, it keeps
  kept : (xs table : List X) (x : X) → Has table x → Has (numbered alike table xs) x
  kept [] table x h = h
  kept (y ∷ ys) table x h = kept ys (more table y (list_any (alike y) table)) x (still table x y (list_any (alike y) table) h)

  pub has_all : (xs table : List X) → AllByRecursion (Has (numbered alike table xs)) xs
  has_all [] table = tt
  has_all (x ∷ xs) table =
      let next = more table x (list_any (alike x) table) in
      (kept xs next x (now table x (list_any (alike x) table) refl), has_all xs next)

  -- its number stays as it is when the table grows
  number_front : (table ys : List X) (x : X) → Has table x → number_in alike (table ++ ys) x ≡ number_in alike table x
  number_front [] ys x h = absurd (true≢false (sym h))
  number_front (y ∷ table) ys x h = at_first (alike x y) (number_front table ys x) h
    where
      at_first : (b : Bool) → (Has table x → number_in alike (table ++ ys) x ≡ number_in alike table x) → (b || list_any (alike x) table) ≡ true
          → (if b then 0 else suc (number_in alike (table ++ ys) x)) ≡ (if b then 0 else suc (number_in alike table x))
      at_first true further h = refl
      at_first false further h = ap suc (further h)

  number_kept : (xs table : List X) (x : X) → Has table x → number_in alike (numbered alike table xs) x ≡ number_in alike table x
  number_kept [] table x h = refl
  number_kept (y ∷ xs) table x h = at_next (list_any (alike y) table) (λ t. number_kept xs t x)
    where
      at_next : (b : Bool) → ((t : List X) → Has t x → number_in alike (numbered alike t xs) x ≡ number_in alike t x)
          → number_in alike (numbered alike (more table y b) xs) x ≡ number_in alike table x
      at_next true further = further table h
      at_next false further = further (table ++ y ∷ []) (any_front (alike x) table (y ∷ []) h) ∙ number_front table (y ∷ []) x h

  -- what a table lacks has the number at which it is put
  number_put : (table : List X) (x : X) → list_any (alike x) table ≡ false → number_in alike (table ++ x ∷ []) x ≡ number_in alike table x
  number_put [] x h = ap (λ b. if b then 0 else 1) ((decides x x).1 refl)
  number_put (y ∷ table) x h = at_first (alike x y) (number_put table x) h
    where
      at_first : (b : Bool) → (list_any (alike x) table ≡ false → number_in alike (table ++ x ∷ []) x ≡ number_in alike table x) → (b || list_any (alike x) table) ≡ false
          → (if b then 0 else suc (number_in alike (table ++ x ∷ []) x)) ≡ (if b then 0 else suc (number_in alike table x))
      at_first true further h = absurd (true≢false h)
      at_first false further h = ap suc (further h)

  -- so the first use gives the number that an entry has in the end
  pub first_number : (table : List X) (x : X) (xs : List X) → number_in alike (numbered alike table (x ∷ xs)) x ≡ number_in alike table x
  first_number table x xs = at (list_any (alike x) table) refl
    where
      at : (b : Bool) → list_any (alike x) table ≡ b → number_in alike (numbered alike (more table x b) xs) x ≡ number_in alike table x
      at true h = number_kept xs table x h
      at false h = number_kept xs (table ++ x ∷ []) x (any_last (alike x) table x ((decides x x).1 refl)) ∙ number_put table x h

-- a number is not past the end
pub number_within : {X : Type 0} (alike : X → X → Bool) (table : List X) (x : X) → number_in alike table x ≤ length table
number_within alike [] x = omega arith
number_within alike (y ∷ table) x = at_first (alike x y) (number_within alike table x)
  where
    at_first : (b : Bool) → number_in alike table x ≤ length table → (if b then 0 else suc (number_in alike table x)) ≤ suc (length table)
    at_first true h = omega arith
    at_first false h = omega (arith, h)
