-- Lists that are made of those of members, or of those of elements.
use Rattle.std.proofs.Common.{◌≡◌, ℕ, zero, suc, ◌+◌, ◌-◌, ◌*◌, ◌<◌, List, [], ◌∷◌, ◌++◌, length, take, drop, get_or, replicate, refl, sym, ap, ◌∙◌, arith, append-nil, append_assoc, length-append}
use Rattle.std.specs.List.{flat_map}
use Rattle.pli_map.specs.Description as tree
use Rattle.pli_map.specs.declared.description.Description.{Description}
use Rattle.pli_map.specs.Scalars.{scalars_of, scalars_of_members}
use Rattle.pli_map.specs.Values.{first_values, first_values_of}
use Rattle.pli_map.specs.views.DescriptionView.{description_view, members_view}
use Rattle.pli_value.specs.Value.{Value}

-- ---- elements

-- a list so many times
abbrev pub repeated : {X : Type 0} → ℕ → List X → List X
repeated n xs = flat_map (λ ys. ys) (replicate n xs)

pub repeated_both : {X : Type 0} (m n : ℕ) (xs : List X) → repeated (m + n) xs ≡ repeated m xs ++ repeated n xs
repeated_both zero n xs =
    let e : zero + n ≡ n = omega arith in
    ap (λ k. repeated k xs) e
repeated_both (suc m) n xs =
    let e : suc m + n ≡ suc (m + n) = omega arith in
    ap (λ k. repeated k xs) e ∙ ap (λ ys. xs ++ ys) (repeated_both m n xs) ∙ sym (append_assoc xs (repeated m xs) (repeated n xs))

-- with one more at the end
pub one_repeated : {X : Type 0} (n : ℕ) (xs : List X) → repeated (n + 1) xs ≡ repeated n xs ++ xs
one_repeated n xs = repeated_both n 1 xs ∙ ap (λ ys. repeated n xs ++ ys) (append-nil xs)

-- before one, it, and those after it
pub repeated_split : {X : Type 0} (made count : ℕ) (xs : List X) → made < count → repeated count xs ≡ repeated made xs ++ (xs ++ repeated (count - suc made) xs)
repeated_split made count xs below =
    let e : count ≡ made + suc (count - suc made) = omega (arith, below) in
    ap (λ k. repeated k xs) e ∙ repeated_both made (suc (count - suc made)) xs

pub repeated_length : {X : Type 0} (n : ℕ) (xs : List X) → length (repeated n xs) ≡ n * length xs
repeated_length zero xs = omega arith
repeated_length (suc n) xs =
    let both = length-append xs (repeated n xs) in
    let all : suc n * length xs ≡ length xs + n * length xs = omega arith in
    omega (arith, both, all, repeated_length n xs)

-- ---- members

-- what members have, one after the other
module _ (X : Type 0) (of : tree.Description → List X) (all : tree.Members → List X) (none : all tree.NoMembers ≡ [])
    (then : (d : tree.Description) (ds : tree.Members) → all (tree.MemberThen d ds) ≡ of d ++ all ds) where
  abbrev all_of : List Description → List X
  all_of xs = all (members_view xs)

  -- before a member, of it, and after it
  members_split : (xs : List Description) (i : ℕ) (x : Description) → i < length xs → x ≡ get_or xs i x
      → all_of xs ≡ all_of (take i xs) ++ (of (description_view x) ++ all_of (drop (suc i) xs))
  members_split [] i x within is = absurd (omega (arith, within))
  members_split (y ∷ ys) zero x within is =
      then (description_view y) (members_view ys) ∙ ap (λ z. of (description_view z) ++ all_of ys) (sym is)
      ∙ ap (λ l. l ++ (of (description_view x) ++ all_of ys)) (sym none)
  members_split (y ∷ ys) (suc i) x within is =
      let d = description_view y in
      let rest = of (description_view x) ++ all_of (drop (suc i) ys) in
      then d (members_view ys) ∙ ap (λ l. of d ++ l) (members_split ys i x (omega (arith, within)) is)
      ∙ sym (append_assoc (of d) (all_of (take i ys)) rest) ∙ ap (λ l. l ++ rest) (sym (then d (members_view (take i ys))))

  -- with one more at the end
  members_more : (xs : List Description) (i : ℕ) (x : Description) → i < length xs → x ≡ get_or xs i x
      → all_of (take (suc i) xs) ≡ all_of (take i xs) ++ of (description_view x)
  members_more [] i x within is = absurd (omega (arith, within))
  members_more (y ∷ ys) zero x within is =
      then (description_view y) tree.NoMembers ∙ ap (λ l. of (description_view y) ++ l) none ∙ append-nil (of (description_view y))
      ∙ ap (λ z. of (description_view z)) (sym is) ∙ ap (λ l. l ++ of (description_view x)) (sym none)
  members_more (y ∷ ys) (suc i) x within is =
      let d = description_view y in
      then d (members_view (take (suc i) ys)) ∙ ap (λ l. of d ++ l) (members_more ys i x (omega (arith, within)) is)
      ∙ sym (append_assoc (of d) (all_of (take i ys)) (of (description_view x))) ∙ ap (λ l. l ++ of (description_view x)) (sym (then d (members_view (take i ys))))

next : (i : ℕ) → i + 1 ≡ suc i
next i = omega arith

-- their scalars
pub scalars_split : (xs : List Description) (i : ℕ) (x : Description) → i < length xs → x ≡ get_or xs i x
    → scalars_of_members (members_view xs)
    ≡ scalars_of_members (members_view (take i xs)) ++ (scalars_of (description_view x) ++ scalars_of_members (members_view (drop (i + 1) xs)))
scalars_split xs i x within is =
    members_split tree.Description scalars_of scalars_of_members refl (λ d ds. refl) xs i x within is
    ∙ ap (λ n. scalars_of_members (members_view (take i xs)) ++ (scalars_of (description_view x) ++ scalars_of_members (members_view (drop n xs)))) (sym (next i))

pub scalars_more : (xs : List Description) (i : ℕ) (x : Description) → i < length xs → x ≡ get_or xs i x
    → scalars_of_members (members_view (take (i + 1) xs)) ≡ scalars_of_members (members_view (take i xs)) ++ scalars_of (description_view x)
scalars_more xs i x within is =
    ap (λ n. scalars_of_members (members_view (take n xs))) (next i)
    ∙ members_more tree.Description scalars_of scalars_of_members refl (λ d ds. refl) xs i x within is

-- the values with which they begin
pub firsts_more : (xs : List Description) (i : ℕ) (x : Description) → i < length xs → x ≡ get_or xs i x
    → first_values_of (members_view (take (i + 1) xs)) ≡ first_values_of (members_view (take i xs)) ++ first_values (description_view x)
firsts_more xs i x within is =
    ap (λ n. first_values_of (members_view (take n xs))) (next i)
    ∙ members_more Value first_values first_values_of refl (λ d ds. refl) xs i x within is
