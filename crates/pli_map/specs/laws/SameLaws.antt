-- The test for equality decides it.
use Rattle.std.proofs.Common.{◌≡◌, ◌==◌, ◌&&◌, ℕ, Bool, true, false, true≢false, refl, sym, ap, ◌∙◌, ℤ, List}
use Rattle.std.proofs.Common.{[], ◌∷◌, Decides}
use Rattle.std.specs.Ordering.{int_eq}
use Rattle.std.specs.Cmp.{IsEquivalence, decided}
use Rattle.std.proofs.lemmas.Bool.Decides.{Decides-int_eq, Decides-eqb, Decides-and, Decides-like}
use Rattle.std.proofs.lemmas.Bool.Decides.{same_from_decides}
use Rattle.pli_map.specs.declared.description.Bounds.{Bounds}
use Rattle.pli_map.specs.Description.{Description, FixedBinary, Character, Varying, Bit, Pointer, Offset}
use Rattle.pli_map.specs.Description.{Area, Array, Structure, Members, NoMembers, MemberThen}
use Rattle.pli_map.specs.Same.{same, same_bounds, same_members}

parts : (a b : Bounds) → (a.low ≡ b.low) × (a.high ≡ b.high) → a ≡ b
parts a b h =
    let bounds : ℤ → ℤ → Bounds = λ low high. record { low = low; high = high } in
    ap (λ low. bounds low a.high) h.0 ∙ ap (bounds b.low) h.1

pub bounds-Decides : (a b : Bounds) → Decides (int_eq a.low b.low && int_eq a.high b.high) (a ≡ b)
bounds-Decides a b =
    Decides-like _ (parts a b) (λ e. (
      cc,
      cc,
    )) (Decides-and _ _ (Decides-int_eq a.low b.low) (Decides-int_eq a.high b.high))

differ : {A : Type 0} (x y : A) → (x ≡ y → ⊥) → Decides false (x ≡ y)
differ x y other = (λ e. absurd (true≢false (sym e)), λ e. absurd (other e))

equal : {A : Type 0} (x : A) → Decides true (x ≡ x)
equal x = (λ e. refl, λ e. refl)

numbers : {A : Type 0} (of : ℕ → A) (n m : ℕ) → (of n ≡ of m → n ≡ m) → Decides (n == m) (of n ≡ of m)
numbers of n m back = Decides-like _ (ap of) back (Decides-eqb n m)

pub all_bounds-Decides : (bs cs : List Bounds) → Decides (same_bounds bs cs) (bs ≡ cs)
all_bounds-Decides [] [] = equal []
all_bounds-Decides [] (c ∷ cs) = differ [] (c ∷ cs) (λ e. cc)
all_bounds-Decides (b ∷ bs) [] = differ (b ∷ bs) [] (λ e. cc)
all_bounds-Decides (b ∷ bs) (c ∷ cs) =
    Decides-like _ (λ h. let first = h.0 in let others = h.1 in
    cc) (λ e. (cc, cc)) (Decides-and _ _ (bounds-Decides b c) (all_bounds-Decides bs cs))

mutual
  -- the test tells whether two descriptions are equal
  pub same_decides : (d e : Description) → Decides (same d e) (d ≡ e)
  same_decides (FixedBinary p) (FixedBinary q) = numbers FixedBinary p q (λ e. cc)
  same_decides (Character n) (Character m) = numbers Character n m (λ e. cc)
  same_decides (Varying n) (Varying m) = numbers Varying n m (λ e. cc)
  same_decides (Bit n) (Bit m) = numbers Bit n m (λ e. cc)
  same_decides Pointer Pointer = equal Pointer
  same_decides Offset Offset = equal Offset
  same_decides (Area n) (Area m) = numbers Area n m (λ e. cc)
  same_decides (Array bs d) (Array cs e) =
      Decides-like _ (λ h. let first = h.0 in let others = h.1 in
      cc) (λ e. (cc, cc)) (Decides-and _ _ (all_bounds-Decides bs cs) (same_decides d e))
  same_decides (Structure ds) (Structure es) = Decides-like _ (ap Structure) (λ e. cc) (members_decide ds es)
  same_decides d e = differ d e (λ h. cc)

  -- the same of members
  members_decide : (ds es : Members) → Decides (same_members ds es) (ds ≡ es)
  members_decide NoMembers NoMembers = equal NoMembers
  members_decide (MemberThen d ds) (MemberThen e es) =
      Decides-like _ (λ h. let first = h.0 in let others = h.1 in
      cc) (λ e. (cc, cc)) (Decides-and _ _ (same_decides d e) (members_decide ds es))
  members_decide ds es = differ ds es (λ h. cc)

pub same_equivalence : IsEquivalence same
same_equivalence = decided same same_decides

-- an answer that is true exactly at equal descriptions is the test's
pub same_answer : (r : Bool) (d e : Description) → Decides r (d ≡ e) → r ≡ same d e
same_answer r d e h = same_from_decides r (same d e) h (same_decides d e)
