-- The items that an item is a member of, where each stands before it.
use Rattle.std.proofs.Common.{◌≡◌, ℕ, zero, suc, ◌<◌, ◌≤◌, IfSome, Option, Some, None, List, [], ◌∷◌, length, get_or, map, refl, ap, subst, ◌∙◌, arith}
use Rattle.std.proofs.lemmas.List.{get_or-map, length-map}
use Rattle.pli_declare_scopes.specs.declared.repeat.Written.{Written}
use Rattle.pli_declare_scopes.specs.laws.RepeatLaws.{written_at}
use Rattle.pli_declare.specs.answers.Owners.{AreAfterOwners}
use Rattle.pli_declare.specs.Tables.{Entry, no_entry, written}
use Rattle.pli_declare.specs.Places.{above, owners_of}

abbrev pub Below : Option ℕ → ℕ → Type 0
Below owner n = IfSome owner (λ o. o < n)

pub weaker : (owner : Option ℕ) (n m : ℕ) → n ≤ m → Below owner n → Below owner m
weaker None n m le h = tt
weaker (Some o) n m le h = omega arith

module _ (entries : List Entry) (after : AreAfterOwners entries) where
  pub owner_below : (n : ℕ) → n < length entries → Below (get_or entries n no_entry).owner n
  owner_below n lt =
      let same : written_at (map written entries) n ≡ written (get_or entries n no_entry) = get_or-map written entries n no_entry (record { name = []; owner = None }) lt in
      subst (λ (w : Written). Below w.owner n) same (after n (omega (arith, length-map entries written)))

  above_same : (b c : ℕ) (owner : Option ℕ) → Below owner b → Below owner c → Below owner (length entries) → above b entries owner ≡ above c entries owner
  above_same zero zero owner p q r = refl
  above_same zero (suc c) None p q r = refl
  above_same zero (suc c) (Some o) p q r = absurd (omega arith)
  above_same (suc b) zero None p q r = refl
  above_same (suc b) zero (Some o) p q r = absurd (omega arith)
  above_same (suc b) (suc c) None p q r = refl
  above_same (suc b) (suc c) (Some o) p q r =
      let below = owner_below o r in
      let next = (get_or entries o no_entry).owner in
      ap (λ (ns : List ℕ). o ∷ ns)
      (above_same b c next (weaker next o b (omega arith) below) (weaker next o c (omega arith) below) (weaker next o (length entries) (omega arith) below))

  above_next : (b o : ℕ) → o < b → o < length entries → above b entries (Some o) ≡ o ∷ owners_of entries o
  above_next zero o p q = absurd (omega arith)
  above_next (suc b) o p q =
      let below = owner_below o q in
      let next = (get_or entries o no_entry).owner in
      ap (λ (ns : List ℕ). o ∷ ns)
      (above_same b (length entries) next (weaker next o b (omega arith) below) (weaker next o (length entries) (omega arith) below) (weaker next o (length entries) (omega arith) below))

  -- a member's owner, and those of its owner
  pub owners_next : (n o : ℕ) → o < length entries → (get_or entries n no_entry).owner ≡ Some o → owners_of entries n ≡ o ∷ owners_of entries o
  owners_next n o lt is = ap (above (length entries) entries) is ∙ above_next (length entries) o lt lt

above_none : (b : ℕ) (entries : List Entry) → above b entries None ≡ []
above_none zero entries = refl
above_none (suc b) entries = refl

pub owners_none : (entries : List Entry) (n : ℕ) → (get_or entries n no_entry).owner ≡ None → owners_of entries n ≡ []
owners_none entries n is = ap (above (length entries) entries) is ∙ above_none (length entries) entries
