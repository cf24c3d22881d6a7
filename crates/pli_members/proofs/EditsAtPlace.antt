-- An edit at a key's place in a list that is sorted by its keys is the edit by the key.
use Rattle.std.proofs.Common.{◌≡◌, ℕ, zero, suc, ◌≤◌, Bool, true, false, cond, List, [], ◌∷◌, length, set, Some, refl, sym, ap, ◌∙◌, subst, arith, slice_get}
use Rattle.std.specs.List.{insert, remove, AllByRecursion, AllWithin}
use Rattle.std.specs.List.Sorted.{IsStrictlySortedBy}
use Rattle.std.specs.declared.cmp.Ordering.{Ordering}
use Rattle.std.specs.declared.cmp.Ordering.TheVariants.{Less, Equal, Greater}
use Rattle.std.specs.Ordering.{is_eq, match_ordering, ordering_reverse}
use Rattle.std.specs.Cmp.{IsTotalOrder}
use Rattle.std.specs.Map.{keys_of, remove_entry}
use Rattle.std.specs.BTreeMap.{is_at, insert_entry}
use Rattle.std.proofs.lemmas.Cmp.{tied_itself}
use Rattle.std.proofs.lemmas.Map.Keys.{sorted_head, sorted_tail}

-- each answer of a comparison
pub by_ordering : {P : Type 0} (r : Ordering) → (r ≡ Less → P) → (r ≡ Equal → P) → (r ≡ Greater → P) → P
by_ordering Less a b c = a refl
by_ordering Equal a b c = b refl
by_ordering Greater a b c = c refl

-- each answer of a test
pub by_test : {P : Type 0} (b : Bool) → (b ≡ true → P) → (b ≡ false → P) → P
by_test true y n = y refl
by_test false y n = n refl

pub cond-true : {A : Type 0} (x y : A) (b : Bool) → b ≡ true → cond b x y ≡ x
cond-true x y b h = ap (λ t. cond t x y) h

pub cond-false : {A : Type 0} (x y : A) (b : Bool) → b ≡ false → cond b x y ≡ y
cond-false x y b h = ap (λ t. cond t x y) h

module _ {K : Type 0} {R : K → K → Ordering} (o : IsTotalOrder R) (k : K) where
  -- a comparison the other way round
  pub above : (x : K) → R x k ≡ Less → R k x ≡ Greater
  above x h = o.antisymm k x ∙ ap ordering_reverse h

  pub below : (x : K) → R x k ≡ Greater → R k x ≡ Less
  below x h = o.antisymm k x ∙ ap ordering_reverse h

module _ {K X : Type 0} (R : K → K → Ordering) (k : K) where
  -- the key is above the first i keys
  abbrev pub IsAboveFirst : List (K × X) → ℕ → Type 0
  IsAboveFirst es zero = Unit {0}
  IsAboveFirst [] (suc i) = ⊥
  IsAboveFirst (e ∷ es) (suc i) = (R k e.0 ≡ Greater) × IsAboveFirst es i

  -- how the key compares to the i-th key, if there is one
  abbrev pub ComparesAt : List (K × X) → ℕ → Ordering → Type 0
  ComparesAt [] i r = Unit {0}
  ComparesAt (e ∷ es) zero r = R k e.0 ≡ r
  ComparesAt (e ∷ es) (suc i) r = ComparesAt es i r

  -- one step of `insert_entry`
  pub insert_entry_step : (v : X) (e : K × X) (es : List (K × X)) (r : Ordering) → R k e.0 ≡ r → insert_entry R (e ∷ es) k v ≡ match_ordering r ((k, v) ∷ e ∷ es) ((e.0, v) ∷ es) (e ∷ insert_entry R es k v)
  insert_entry_step v e es r h = ap (λ o. match_ordering o ((k, v) ∷ e ∷ es) ((e.0, v) ∷ es) (e ∷ insert_entry R es k v)) h

  -- a new entry at the key's gap
  pub insert-at_gap : (v : X) (es : List (K × X)) (i : ℕ) → IsAboveFirst es i → ComparesAt es i Less → insert es i (k, v) ≡ insert_entry R es k v
  insert-at_gap v [] zero a b = refl
  insert-at_gap v [] (suc i) a b = absurd a
  insert-at_gap v (e ∷ es) zero a b = sym (insert_entry_step v e es Less b)
  insert-at_gap v (e ∷ es) (suc i) a b = ap (λ x. e ∷ x) (insert-at_gap v es i a.1 b) ∙ sym (insert_entry_step v e es Greater a.0)

  module _ (o : IsTotalOrder R) where
    -- the first entry has the key
    key_of_first : (e : K × X) (m : X) → Some e ≡ Some (k, m) → e.0 ≡ k
    key_of_first e m h = let same : e ≡ (k, m) = cc in ap (λ x. x.0) same

    -- and compares to it as equal
    equals_first : (e : K × X) (m : X) → Some e ≡ Some (k, m) → R k e.0 ≡ Equal
    equals_first e m h = ap (R k) (key_of_first e m h) ∙ tied_itself o k

    -- what holds of each key holds of the key at a place
    at_place : (P : K → Type 0) (es : List (K × X)) (i : ℕ) (m : X) → AllByRecursion P (keys_of es) → slice_get es i ≡ Some (k, m) → P k
    at_place P [] i m a h = cc
    at_place P (e ∷ es) zero m a h = subst P (key_of_first e m h) a.0
    at_place P (e ∷ es) (suc i) m a h = at_place P es i m a.1 h

    -- a write at the key's place
    pub set-at_place : (w m : X) (es : List (K × X)) (i : ℕ) → IsStrictlySortedBy R (keys_of es) → slice_get es i ≡ Some (k, m) → set es i (k, w) ≡ insert_entry R es k w
    set-at_place w m [] i s h = cc
    set-at_place w m (e ∷ es) zero s h = ap (λ q. (q, w) ∷ es) (sym (key_of_first e m h)) ∙ sym (insert_entry_step w e es Equal (equals_first e m h))
    set-at_place w m (e ∷ es) (suc i) s h = ap (λ x. e ∷ x) (set-at_place w m es i (sorted_tail R _ _ s) h) ∙ sym (insert_entry_step w e es Greater (above o k e.0 (at_place (λ y. R e.0 y ≡ Less) es i m (sorted_head R _ _ s) h)))

    -- a removal at the key's place
    pub remove-at_place : (m : X) (es : List (K × X)) (i : ℕ) → IsStrictlySortedBy R (keys_of es) → slice_get es i ≡ Some (k, m) → remove es i ≡ remove_entry (is_at (R k)) es
    remove-at_place m [] i s h = cc
    remove-at_place m (e ∷ es) zero s h = sym (cond-true _ _ _ (ap is_eq (equals_first e m h)))
    remove-at_place m (e ∷ es) (suc i) s h = ap (λ x. e ∷ x) (remove-at_place m es i (sorted_tail R _ _ s) h) ∙ sym (cond-false _ _ _ (ap is_eq (above o k e.0 (at_place (λ y. R e.0 y ≡ Less) es i m (sorted_head R _ _ s) h))))

    -- what a search says of the first i entries
    pub above_first : (es : List (K × X)) (i : ℕ) → i ≤ length es → AllWithin (λ e. R e.0 k ≡ Less) es 0 i → IsAboveFirst es i
    above_first es zero h a = tt
    above_first [] (suc i) h a = absurd (omega arith)
    above_first (e ∷ es) (suc i) h a = (above o k e.0 (a 0 e (omega arith) (omega arith)), above_first es i (omega arith) (λ j d low high. a (suc j) d (omega arith) (omega arith)))

    -- and of the others
    pub compares_at : (es : List (K × X)) (i : ℕ) → AllWithin (λ e. R e.0 k ≡ Greater) es i (length es) → ComparesAt es i Less
    compares_at [] i a = tt
    compares_at (e ∷ es) zero a = below o k e.0 (a 0 e (omega arith) (omega arith))
    compares_at (e ∷ es) (suc i) a = compares_at es i (λ j d low high. a (suc j) d (omega arith) (omega arith))
