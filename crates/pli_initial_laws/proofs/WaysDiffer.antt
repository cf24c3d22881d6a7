-- Names whose ways are the same are the same.
use Rattle.std.proofs.Common.{◌≡◌, ℕ, zero, suc, ◌<◌, Option, Some, None, List, [], ◌∷◌, ◌++◌, length, get_or, length-append, refl, sym, ap, ◌∙◌, arith}
use Rattle.pli_base.specs.Name.{Name}
use Rattle.pli_declare.specs.Tables.{Entry, no_entry}
use Rattle.pli_declare.specs.answers.Owners.{AreAfterOwners}
use Rattle.pli_declare.specs.Declarations.{declared_in, AreGood}
use Rattle.pli_declare.specs.Places.{members_of}
use Rattle.pli_declare.proofs.MembersFound.{before}
use Rattle.pli_declare.specs.Symbols.{Way, no_way, ways_of}
use Rattle.pli_resolve.proofs.MembersAreParts.{way_is, member_here}
use Rattle.pli_resolve.proofs.OwnersAreItems.{OwnersAreItems}
use Rattle.pli_resolve.proofs.WaysToMembers.{hits, is_owner, way_by}

-- the last of two lists that are the same
last_same : (xs ys : List ℕ) (x y : ℕ) → xs ++ x ∷ [] ≡ ys ++ y ∷ [] → (xs ≡ ys) × (x ≡ y)
last_same [] [] x y e = (refl, cc)
last_same [] (z ∷ ys) x y e = absurd (omega (arith, ap length e, length-append ys (y ∷ [])))
last_same (w ∷ xs) [] x y e = absurd (omega (arith, ap length e, length-append xs (x ∷ [])))
last_same (w ∷ xs) (z ∷ ys) x y e =
    let first : w ≡ z = cc in
    let rest : xs ++ x ∷ [] ≡ ys ++ y ∷ [] = cc in
    let both = last_same xs ys x y rest in
    (ap (λ k. k ∷ xs) first ∙ ap (λ ks. z ∷ ks) both.0, both.1)

not_empty : (xs : List ℕ) (x : ℕ) → [] ≡ xs ++ x ∷ [] → ⊥
not_empty xs x e = omega (arith, ap length e, length-append xs (x ∷ []))

module _ (es : List Entry) (ps : List Name) (owners : AreAfterOwners es) (items : OwnersAreItems es) (good : AreGood es ps) where
  abbrev ways : List Way
  ways = ways_of (declared_in es ps)

  abbrev pub way_to : ℕ → Way
  way_to n = get_or ways n no_way

  abbrev owner_at : ℕ → Option ℕ
  owner_at n = (get_or es n no_entry).owner

  abbrev place_under : (number owned_by : ℕ) → ℕ
  place_under n o = hits (λ k. is_owner o (owner_at k)) 0 n

  way_made : (n : ℕ) → n < length es → (x : Option ℕ) → owner_at n ≡ x → way_to n ≡ way_by ways n (place_under n) x
  way_made n lt x e = way_is es ps owners items good n lt ∙ ap (way_by ways n (place_under n)) e

  under_same : (n k o p : ℕ) → n < length es → k < length es → owner_at n ≡ Some o → owner_at k ≡ Some p → place_under n o ≡ place_under k p → o ≡ p → n ≡ k
  under_same n k o p lt low en ek place same =
      let a = member_here es ps owners items good n o lt en in
      let b = member_here es ps owners items good k p low ek in
      sym a.0 ∙ ap (λ i. get_or (members_of es o) i 0) place ∙ ap (λ m. get_or (members_of es m) (place_under k p) 0) same ∙ b.0

  differ_by : (n k : ℕ) → n < length es → k < length es → (x y : Option ℕ) → owner_at n ≡ x → owner_at k ≡ y
      → (way_to n).root ≡ (way_to k).root → (way_to n).path ≡ (way_to k).path
      → ((o p : ℕ) → o < n → o < length es → p < length es → (way_to o).root ≡ (way_to p).root → (way_to o).path ≡ (way_to p).path → o ≡ p) → n ≡ k
  differ_by n k lt low None None en ek root path inner =
      sym (ap (λ (w : Way). w.root) (way_made n lt None en)) ∙ root ∙ ap (λ (w : Way). w.root) (way_made k low None ek)
  differ_by n k lt low None (Some p) en ek root path inner =
      absurd (not_empty (way_to p).path (place_under k p)
      (sym (ap (λ (w : Way). w.path) (way_made n lt None en)) ∙ path ∙ ap (λ (w : Way). w.path) (way_made k low (Some p) ek)))
  differ_by n k lt low (Some o) None en ek root path inner =
      absurd (not_empty (way_to o).path (place_under n o)
      (sym (ap (λ (w : Way). w.path) (way_made k low None ek)) ∙ sym path ∙ ap (λ (w : Way). w.path) (way_made n lt (Some o) en)))
  differ_by n k lt low (Some o) (Some p) en ek root path inner =
      let less = before es owners n o lt en in
      let less_k = before es owners k p low ek in
      let both =
      last_same (way_to o).path (way_to p).path (place_under n o) (place_under k p)
      (sym (ap (λ (w : Way). w.path) (way_made n lt (Some o) en)) ∙ path ∙ ap (λ (w : Way). w.path) (way_made k low (Some p) ek)) in
      let roots : (way_to o).root ≡ (way_to p).root =
      sym (ap (λ (w : Way). w.root) (way_made n lt (Some o) en)) ∙ root ∙ ap (λ (w : Way). w.root) (way_made k low (Some p) ek) in
      under_same n k o p lt low en ek both.1 (inner o p less (omega (arith, less, lt)) (omega (arith, less_k, low)) roots both.0)

  same_under : (m n k : ℕ) → n < m → n < length es → k < length es → (way_to n).root ≡ (way_to k).root → (way_to n).path ≡ (way_to k).path → n ≡ k
  same_under zero n k less lt low root path = absurd (omega (arith, less))
  same_under (suc m) n k less lt low root path =
      differ_by n k lt low (owner_at n) (owner_at k) refl refl root path
      (λ o p before_n o_in p_in r q. same_under m o p (omega (arith, less, before_n)) o_in p_in r q)

  pub same_way : (n k : ℕ) → n < length es → k < length es → (way_to n).root ≡ (way_to k).root → (way_to n).path ≡ (way_to k).path → n ≡ k
  same_way n k lt low root path = same_under (suc n) n k (omega arith) lt low root path

  -- a member's way is not empty
  pub some_way : (n o : ℕ) → n < length es → owner_at n ≡ Some o → [] ≡ (way_to n).path → ⊥
  some_way n o lt e none = not_empty (way_to o).path (place_under n o) (none ∙ ap (λ (w : Way). w.path) (way_made n lt (Some o) e))
