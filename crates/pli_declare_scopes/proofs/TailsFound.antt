-- What a reference fits is among what the names after its first fit.
use Rattle.std.proofs.Common.{◌≡◌, ℕ, zero, suc, ◌-◌, ◌<◌, Bool, true, false, ◌&&◌, List, [], ◌∷◌, ◌++◌, length, get_or, drop, inl, if◌then◌else◌, refl, sym, ap, subst, ◌∙◌, arith}
use Rattle.std.specs.Prelude.{reverse}
use Rattle.std.proofs.lemmas.List.{reverse-append, length-reverse}
use Rattle.pli_base.specs.Name.{Name}
use Rattle.pli_base.specs.Words.{same_name}
use Rattle.pli_declare_scopes.specs.declared.found.Found.{Found}
use Rattle.pli_declare_scopes.specs.declared.found.Found.TheVariants.{Nothing, One, Several}
use Rattle.pli_declare_scopes.specs.Scopes.{BlockItems, item_at, is_named, chain_at, is_part, fits_chain, fits, with_number, found_below}
use Rattle.pli_declare_scopes.specs.answers.Indexes.{OwnersBefore}
use Rattle.pli_declare_scopes.specs.answers.Remembered.{found_fitting}
use Rattle.pli_declare_scopes.specs.laws.ScopeLaws.{IsPart}
use Rattle.pli_declare_scopes.proofs.IndexKept.{both_true}
use Rattle.pli_declare_scopes.proofs.ReferencesMeanOne.{part_to, part_from}
use Rattle.pli_declare_scopes.proofs.CandidateLemmas.{found_more, only_named}
use Rattle.pli_declare_scopes.proofs.PairsReach.{part_through, part_front}

part_same : (xs : List Name) → IsPart xs xs
part_same [] = tt
part_same (x ∷ xs) = inl (refl, part_same xs)

-- fewer names fit what more fit
chain_front : (ns ms chain : List Name) → 0 < length ns → fits_chain (ns ++ ms) chain ≡ true → fits_chain ns chain ≡ true
chain_front [] ms chain some h = absurd (omega (arith, some))
chain_front (n ∷ ns) ms [] some h = h
chain_front (n ∷ ns) ms (own ∷ above) some h =
    let t = both_true (same_name n own) (is_part (ns ++ ms) above) h in
    ap (λ b. b && is_part ns above) t.0
    ∙ part_from above ns (part_through ns (ns ++ ms) above (part_front ns ns ms (part_same ns)) (part_to above (ns ++ ms) t.1))

pub tail_fits : (items : BlockItems) (first : Name) (tail : List Name) → 0 < length tail → (n : ℕ) → fits items (first ∷ tail) n ≡ true → fits items tail n ≡ true
tail_fits items first tail some n h =
    let t = both_true (item_at items n).counts (fits_chain (reverse (first ∷ tail)) (chain_at items n)) h in
    ap (λ b. b && fits_chain (reverse tail) (chain_at items n)) t.0
    ∙ chain_front (reverse tail) (first ∷ []) (chain_at items n) (omega (arith, some, length-reverse tail))
    (subst (λ ns. fits_chain ns (chain_at items n) ≡ true) (reverse-append (first ∷ []) tail) t.1)

-- what is found by a test, of what is found by one that passes more
record Narrowed (k : ℕ) (test other : ℕ → Bool) (wide narrow : Found) : Type 0 where
  none : wide ≡ Nothing → narrow ≡ Nothing
  one : (n : ℕ) → wide ≡ One n → (n < k) × (other n ≡ true) × (narrow ≡ (if test n then One n else Nothing))

several_not : (n : ℕ) (found : Found) → with_number n found ≡ Nothing → ⊥
several_not n Nothing e = cc
several_not n (One m) e = cc
several_not n Several e = cc

module _ (test other : ℕ → Bool) (only : (j : ℕ) → test j ≡ true → other j ≡ true) where
  untested : (j : ℕ) → other j ≡ false → (b : Bool) → test j ≡ b → test j ≡ false
  untested j e true f = let bad : true ≡ false = sym (only j f) ∙ e in cc
  untested j e false f = f

  step : (k : ℕ) (wide narrow : Found) (b : Bool) → other k ≡ b → Narrowed k test other wide narrow
      → Narrowed (suc k) test other (if b then with_number k wide else wide) (if test k then with_number k narrow else narrow)
  step k wide narrow false e h =
      let not : test k ≡ false = untested k e (test k) refl in
      let same : (if test k then with_number k narrow else narrow) ≡ narrow = ap (λ t. if t then with_number k narrow else narrow) not in
      record {
        none = λ f. same ∙ h.none f;
        one = λ n f. let p = h.one n f in (let less : n < suc k = omega (arith, p.0) in less, p.1, same ∙ p.2);
      }
  step k Nothing narrow true e h = record {
    none = λ f. absurd (several_not k Nothing f);
    one = λ n f.
        let is : k ≡ n = cc in (
          let less : n < suc k = omega (arith, is) in less,
          subst (λ (m : ℕ). other m ≡ true) is e,
          ap (λ x. if test k then with_number k x else x) (h.none refl) ∙ ap (λ (m : ℕ). if test m then One m else Nothing) is,
        );
  }
  step k (One m) narrow true e h = record {
    none = λ f. absurd (several_not k (One m) f);
    one = λ n f. let bad : Several ≡ One n = f in cc;
  }
  step k Several narrow true e h = record {
    none = λ f. absurd (several_not k Several f);
    one = λ n f. let bad : Several ≡ One n = f in cc;
  }

  narrowed : (k : ℕ) → Narrowed k test other (found_below other k Nothing) (found_below test k Nothing)
  narrowed zero = record { none = λ f. refl; one = λ n f. let bad : Nothing ≡ One n = f in cc }
  narrowed (suc k) =
      subst (λ wide. Narrowed (suc k) test other wide (found_below test (suc k) Nothing)) (sym (found_more other k))
      (subst (Narrowed (suc k) test other (if other k then with_number k (found_below other k Nothing) else found_below other k Nothing)) (sym (found_more test k))
      (step k (found_below other k Nothing) (found_below test k Nothing) (other k) refl (narrowed k)))

module _ (items : BlockItems) (first : Name) (tail : List Name) (some : 0 < length tail) where
  abbrev found : Narrowed (length items) (fits items (first ∷ tail)) (fits items tail) (found_fitting items tail) (found_fitting items (first ∷ tail))
  found = narrowed (fits items (first ∷ tail)) (fits items tail) (tail_fits items first tail some) (length items)

  -- where nothing fits the names after the first, nothing fits all
  pub none_by_tail : found_fitting items tail ≡ Nothing → found_fitting items (first ∷ tail) ≡ Nothing
  none_by_tail = found.none

  -- where one item does, it alone may
  pub one_by_tail : (n : ℕ) → found_fitting items tail ≡ One n → found_fitting items (first ∷ tail) ≡ (if fits items (first ∷ tail) n then One n else Nothing)
  one_by_tail n e = (found.one n e).2

  pub one_within : (n : ℕ) → found_fitting items tail ≡ One n → n < length items
  one_within n e = (found.one n e).0

  pub one_fits : (n : ℕ) → found_fitting items tail ≡ One n → fits items tail n ≡ true
  one_fits n e = (found.one n e).1

-- an item that names fit has the last of them, with one name before them too
pub last_named : (items : BlockItems) → OwnersBefore items → (first : Name) (tail : List Name) → 0 < length tail → (n : ℕ) → n < length items → fits items tail n ≡ true
    → is_named items (get_or (first ∷ tail) (length (first ∷ tail) - 1) []) n ≡ true
last_named items owners first tail some n lt h =
    subst (λ (k : ℕ). is_named items (get_or (first ∷ tail) k []) n ≡ true) (let last : suc (length tail - 1) ≡ suc (length tail) - 1 = omega (arith, some) in last)
    (only_named items owners tail some n lt h)

-- the same of names of which the first is left out
pub rest_named : (items : BlockItems) → OwnersBefore items → (names : List Name) → 1 < length names → (n : ℕ) → n < length items → fits items (drop 1 names) n ≡ true
    → is_named items (get_or names (length names - 1) []) n ≡ true
rest_named items owners [] some n lt h = absurd (omega (arith, some))
rest_named items owners (first ∷ tail) some n lt h = last_named items owners first tail (omega (arith, some)) n lt h
