-- The way to a member: that of the item that it belongs to, and its place among the members of that one.
use Rattle.std.proofs.Common.{◌≡◌, ℕ, zero, suc, ◌+◌, ◌<◌, ◌≤◌, ◌==◌, Bool, true, false, if◌then◌else◌, Option, Some, None, option_map, List, [], ◌∷◌, ◌++◌, map, length, get_or, slice_set, refl, sym, ap, ◌∙◌, subst, inl, inr, arith}
use Rattle.std.specs.List.{filter}
use Rattle.std.specs.Option.{unwrap_or}
use Rattle.std.proofs.lemmas.Bool.{eqb-true, eq-eqb, cases_eq, cases_lt}
use Rattle.std.proofs.lemmas.List.{get_or_append_left, get_or_push, length_push, get_or-set_same, get_or-set_other, length-set}
use Rattle.pli_declare.specs.Tables.{numbers_from}
use Rattle.pli_declare.specs.Declarations.{Declaration}
use Rattle.pli_declare.specs.Symbols.{Way, no_way, way_with, counted, ways_after}

-- how many of so many numbers, from the first on, pass a test
abbrev pub hits : (ℕ → Bool) → (first count : ℕ) → ℕ
hits test first zero = 0
hits test first (suc count) = (if test first then 1 else 0) + hits test (first + 1) count

pub hits_more : (test : ℕ → Bool) (first count at : ℕ) → at ≡ first + count → hits test first (suc count) ≡ hits test first count + (if test at then 1 else 0)
hits_more test first zero at e =
    let same : first ≡ at = omega (arith, e) in
    ap (λ k. (if test k then 1 else 0) + 0) same ∙ omega arith
hits_more test first (suc count) at e =
    omega (arith, hits_more test (first + 1) count at (omega (arith, e)))

-- a number that passes stands after those before it that pass
pub at_hit : (test : ℕ → Bool) (first size count : ℕ) → count < size → test (first + count) ≡ true
    → (get_or (filter test (numbers_from first size)) (hits test first count) 0 ≡ first + count) × (hits test first count < length (filter test (numbers_from first size)))
at_hit test first zero count lt h = absurd (omega (arith, lt))
at_hit test first (suc size) zero lt h =
    let same : first + 0 ≡ first = omega arith in
    let here : test first ≡ true = ap test (sym same) ∙ h in
    let list : filter test (first ∷ numbers_from (first + 1) size) ≡ first ∷ filter test (numbers_from (first + 1) size) =
    ap (λ (b : Bool). if b then first ∷ filter test (numbers_from (first + 1) size) else filter test (numbers_from (first + 1) size)) here in
    (ap (λ xs. get_or xs 0 0) list ∙ sym same, subst (λ (xs : List ℕ). 0 < length xs) (sym list) (omega arith))
at_hit test first (suc size) (suc count) lt h =
    let next : first + suc count ≡ (first + 1) + count = omega arith in
    let rest = at_hit test (first + 1) size count (omega (arith, lt)) (ap test (sym next) ∙ h) in
    by (test first) refl rest
  where
    xs : List ℕ
    xs = filter test (numbers_from (first + 1) size)

    n : ℕ
    n = hits test (first + 1) count

    by : (b : Bool) → test first ≡ b → (get_or (filter test (numbers_from (first + 1) size)) (hits test (first + 1) count) 0 ≡ (first + 1) + count) × (hits test (first + 1) count < length (filter test (numbers_from (first + 1) size)))
        → (get_or (if test first then first ∷ filter test (numbers_from (first + 1) size) else filter test (numbers_from (first + 1) size)) ((if test first then 1 else 0) + hits test (first + 1) count) 0 ≡ first + suc count)
        × ((if test first then 1 else 0) + hits test (first + 1) count < length (if test first then first ∷ filter test (numbers_from (first + 1) size) else filter test (numbers_from (first + 1) size)))
    by true e rest =
        let list : (if test first then first ∷ filter test (numbers_from (first + 1) size) else filter test (numbers_from (first + 1) size)) ≡ first ∷ filter test (numbers_from (first + 1) size) =
        ap (λ (b : Bool). if b then first ∷ filter test (numbers_from (first + 1) size) else filter test (numbers_from (first + 1) size)) e in
        let one : (if test first then 1 else 0) + hits test (first + 1) count ≡ suc (hits test (first + 1) count) =
        ap (λ (b : Bool). (if b then 1 else 0) + hits test (first + 1) count) e ∙ omega arith in (
          ap (λ zs. get_or zs ((if test first then 1 else 0) + hits test (first + 1) count) 0) list
              ∙ ap (λ k. get_or (first ∷ filter test (numbers_from (first + 1) size)) k 0) one ∙ rest.0 ∙ omega arith,
          omega (arith, rest.1, one, ap length list),
        )
    by false e rest =
        let list : (if test first then first ∷ filter test (numbers_from (first + 1) size) else filter test (numbers_from (first + 1) size)) ≡ filter test (numbers_from (first + 1) size) =
        ap (λ (b : Bool). if b then first ∷ filter test (numbers_from (first + 1) size) else filter test (numbers_from (first + 1) size)) e in
        let none : (if test first then 1 else 0) + hits test (first + 1) count ≡ hits test (first + 1) count =
        ap (λ (b : Bool). (if b then 1 else 0) + hits test (first + 1) count) e ∙ omega arith in (
          ap (λ zs. get_or zs ((if test first then 1 else 0) + hits test (first + 1) count) 0) list
              ∙ ap (λ k. get_or (filter test (numbers_from (first + 1) size)) k 0) none ∙ rest.0 ∙ omega arith,
          omega (arith, rest.1, none, ap length list),
        )

-- whether an item is the owner
abbrev pub is_owner : (owner : ℕ) → Option ℕ → Bool
is_owner n o = unwrap_or (option_map (λ k. k == n) o) false

owner_so : (n : ℕ) (o : Option ℕ) → is_owner n o ≡ true → o ≡ Some n
owner_so n None h = cc
owner_so n (Some k) h = ap Some (eqb-true k n h)

pub owner_here : (n : ℕ) → is_owner n (Some n) ≡ true
owner_here n = eq-eqb n n refl

stays : (ws : List Way) (cs : List ℕ) (ds : List Declaration) (k : ℕ) → k < length ws → get_or (ways_after ws cs ds) k no_way ≡ get_or ws k no_way
stays ws cs [] k lt = refl
stays ws cs (d ∷ ds) k lt =
    let w = way_with ws cs d.owner in
    stays (ws ++ w ∷ []) (counted cs d.owner ++ 0 ∷ []) ds k (omega (arith, lt, length_push ws w)) ∙ get_or_append_left ws (w ∷ []) no_way k lt

counted_length : (cs : List ℕ) (o : Option ℕ) → length (counted cs o) ≡ length cs
counted_length cs None = refl
counted_length cs (Some o) = length-set cs o (get_or cs o 0 + 1)

counted_at : (cs : List ℕ) (o : Option ℕ) (k : ℕ) → k < length cs → get_or (counted cs o) k 0 ≡ get_or cs k 0 + (if is_owner k o then 1 else 0)
counted_at cs None k lt = omega arith
counted_at cs (Some o) k lt = elim (cases_eq o k) [
  | inl same ↦
      ap (λ n. get_or (slice_set cs n (get_or cs n 0 + 1)) k 0) same ∙ get_or-set_same cs k (get_or cs k 0 + 1) 0 lt
      ∙ ap (λ (b : Bool). get_or cs k 0 + (if b then 1 else 0)) (sym (eq-eqb o k same))
  | inr other ↦
      get_or-set_other cs o k (get_or cs o 0 + 1) 0 (λ e. other (sym e))
      ∙ (let none : get_or cs k 0 ≡ get_or cs k 0 + 0 = omega arith in none)
      ∙ ap (λ (b : Bool). get_or cs k 0 + (if b then 1 else 0)) (sym (not_same o k other))
]
  where
    not_same : (o k : ℕ) → (o ≡ k → ⊥) → (o == k) ≡ false
    not_same o k other = by (o == k) refl
      where
        by : (b : Bool) → (o == k) ≡ b → b ≡ false
        by true e = absurd (other (eqb-true o k e))
        by false e = refl

-- the way to a name whose owner is this, among the ways of all
abbrev pub way_by : List Way → (number : ℕ) → (place : ℕ → ℕ) → Option ℕ → Way
way_by ws n place None = record { root = n; path = [] }
way_by ws n place (Some o) = record { root = (get_or ws o no_way).root; path = (get_or ws o no_way).path ++ place o ∷ [] }

module _ (owner : ℕ → Option ℕ) (declaration : ℕ → Declaration) (same : (n : ℕ) → (declaration n).owner ≡ owner n)
    (size : ℕ) (before : (n o : ℕ) → n < size → owner n ≡ Some o → o < n) where
  abbrev pub place_of : (number owned_by : ℕ) → ℕ
  place_of n o = hits (λ k. is_owner o (owner k)) 0 n

  none_yet : (n o : ℕ) → n ≤ size → n ≤ o + 1 → place_of n o ≡ 0
  none_yet zero o le low = refl
  none_yet (suc n) o le low =
      hits_more (λ k. is_owner o (owner k)) 0 n n (omega arith) ∙ ap (λ k. k + (if is_owner o (owner n) then 1 else 0)) (none_yet n o (omega (arith, le)) (omega (arith, low)))
      ∙ by (is_owner o (owner n)) refl
    where
      by : (b : Bool) → is_owner o (owner n) ≡ b → 0 + (if b then 1 else 0) ≡ 0
      by true e = absurd (omega (arith, low, before n o (omega (arith, le)) (owner_so o (owner n) e)))
      by false e = refl

  new_way : (ws all : List Way) (cs : List ℕ) (first : ℕ) (o : Option ℕ) → length ws ≡ first → ((k : ℕ) → k < first → get_or cs k 0 ≡ place_of first k)
      → ((k : ℕ) → k < first → get_or all k no_way ≡ get_or ws k no_way) → ((k : ℕ) → o ≡ Some k → k < first)
      → way_with ws cs o ≡ way_by all first (place_of first) o
  new_way ws all cs first None l counts kept low = ap (λ n. record { root = n; path = [] }) l
  new_way ws all cs first (Some o) l counts kept low =
      let lt = low o refl in
      ap (λ (w : Way). record { root = w.root; path = w.path ++ get_or cs o 0 ∷ [] }) (sym (kept o lt))
      ∙ ap (λ n. record { root = (get_or all o no_way).root; path = (get_or all o no_way).path ++ n ∷ [] }) (counts o lt)

  ways_from : (left first : ℕ) (ws : List Way) (cs : List ℕ) → length ws ≡ first → length cs ≡ first → first + left ≡ size → ((k : ℕ) → k < first → get_or cs k 0 ≡ place_of first k)
      → (n : ℕ) → first ≤ n → n < size
      → get_or (ways_after ws cs (map declaration (numbers_from first left))) n no_way ≡ way_by (ways_after ws cs (map declaration (numbers_from first left))) n (place_of n) (owner n)
  ways_from zero first ws cs l m all counts n from to = absurd (omega (arith, all, from, to))
  ways_from (suc left) first ws cs l m all counts n from to =
      let d = declaration first in
      let w = way_with ws cs d.owner in
      let more = counted cs d.owner in
      let whole = ways_after ws cs (d ∷ map declaration (numbers_from (first + 1) left)) in
      elim (cases_lt first n) [
        | inl later ↦
            ways_from left (first + 1) (ws ++ w ∷ []) (more ++ 0 ∷ []) (omega (arith, l, length_push ws w))
            (omega (arith, m, length_push more 0, counted_length cs d.owner)) (omega (arith, all))
            (λ k lt. elim (cases_lt k first) [
              | inl front ↦
                  get_or_append_left more (0 ∷ []) 0 k (omega (arith, front, m, counted_length cs d.owner))
                  ∙ counted_at cs d.owner k (omega (arith, front, m)) ∙ ap (λ x. x + (if is_owner k d.owner then 1 else 0)) (counts k front)
                  ∙ ap (λ o. place_of first k + (if is_owner k o then 1 else 0)) (same first)
                  ∙ sym (hits_more (λ j. is_owner k (owner j)) 0 first first (omega arith))
                  ∙ ap (λ j. place_of j k) (let on : suc first ≡ first + 1 = omega arith in on)
              | inr back ↦
                  get_or_push more 0 0 k (omega (arith, back, lt, m, counted_length cs d.owner))
                  ∙ sym (none_yet (first + 1) k (omega (arith, all)) (omega (arith, back)))
            ])
            n (omega (arith, later)) to
        | inr here ↦ (let it : n ≡ first = omega (arith, here, from) in
            subst (λ k. get_or whole k no_way ≡ way_by whole k (place_of k) (owner k)) (sym it)
            (stays (ws ++ w ∷ []) (more ++ 0 ∷ []) (map declaration (numbers_from (first + 1) left)) first (omega (arith, l, length_push ws w))
            ∙ get_or_push ws w no_way first l ∙ ap (way_with ws cs) (same first)
            ∙ new_way ws whole cs first (owner first) l counts (λ k lt. stays ws cs (d ∷ map declaration (numbers_from (first + 1) left)) k (omega (arith, lt, l)))
            (λ k e. before first k (omega (arith, all)) e)))
      ]

  -- the way to each name
  pub ways_are : (n : ℕ) → n < size
      → get_or (ways_after [] [] (map declaration (numbers_from 0 size))) n no_way ≡ way_by (ways_after [] [] (map declaration (numbers_from 0 size))) n (place_of n) (owner n)
  ways_are n lt = ways_from size 0 [] [] refl refl (omega arith) (λ k low. absurd (omega (arith, low))) n (omega arith) lt
