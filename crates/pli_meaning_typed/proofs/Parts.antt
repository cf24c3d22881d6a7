-- What a part of a description has of its scalars, and values for scalars.
use Rattle.std.specs.Prelude.{◌≡◌, ℕ, zero, suc, ◌+◌, ◌*◌, ◌/◌, ◌%◌, ◌-◌, ◌<◌, nat_eq, nat_lt, Bool, true, false, ◌&&◌}
use Rattle.std.specs.Prelude.{Option, Some, None, option_map, List, [], ◌∷◌, ◌++◌, length, take, drop, replicate, if◌then◌else◌, refl}
use Rattle.std.specs.List.{flat_map}
use Rattle.std.proofs.Common.{arith, sym, ap, ◌∙◌, subst, length-append, append_assoc, append-nil, ltb-true, suc-mul}
use Rattle.std.specs.Int.{next_multiple_of}
use Rattle.pli_map.specs.declared.description.Bounds.{Bounds}
use Rattle.pli_map.specs.Description.{Description, Array}
use Rattle.pli_map.specs.Description.{Structure, Members, NoMembers, MemberThen}
use Rattle.pli_map.specs.Same.{same}
use Rattle.pli_map.specs.laws.SameLaws.{same_decides}
use Rattle.pli_map.specs.Scalars.{scalars_in, scalars_among, stands_here, first_scalar, scalar_after}
use Rattle.pli_map.specs.Sizes.{count_of, alignment_of, size_of, stride_of}
use Rattle.pli_world.specs.Storage.{values_from, with_values_at}
use Rattle.pli_value.specs.Value.{Value}
use Rattle.pli_type_tree.specs.WellTyped.{AreHeld}
use Rattle.pli_map.specs.Scalars.{scalars_of, scalars_of_members}

abbrev copies : {A : Type 0} → ℕ → List A → List A
copies n xs = flat_map (λ ds. ds) (replicate n xs)

-- so many of a list, from one on, stand in it: it is what is before, these, and what is after
pub record StandsFrom {A : Type 0} (k : ℕ) (part whole : List A) : Type 0 where
  pub before : List A
  pub after : List A
  pub parted : whole ≡ before ++ (part ++ after)
  pub first : length before ≡ k

-- how many scalars
length_copies : {A : Type 0} (n : ℕ) (xs : List A) → length (copies n xs) ≡ n * length xs
length_copies zero xs = omega arith
length_copies (suc n) xs = omega (arith, length-append xs (copies n xs), length_copies n xs, suc_times n (length xs))
  where
    suc_times : (n m : ℕ) → suc n * m ≡ m + n * m
    suc_times n m = omega (arith, suc-mul n m)

mutual
  pub length_scalars : (d : Description) → length (scalars_of d) ≡ scalars_in d
  length_scalars (Array bounds element) =
      length_copies (count_of bounds) (scalars_of element) ∙ ap (λ n. count_of bounds * n) (length_scalars element)
  length_scalars (Structure members) = length_members members
  length_scalars d = refl

  length_members : (ds : Members) → length (scalars_of_members ds) ≡ scalars_among ds
  length_members NoMembers = refl
  length_members (MemberThen d ds) =
      length-append (scalars_of d) (scalars_of_members ds) ∙ ap (λ n. n + length (scalars_of_members ds)) (length_scalars d)
      ∙ ap (λ n. scalars_in d + n) (length_members ds)

-- a part
itself : {A : Type 0} (xs : List A) → StandsFrom 0 xs xs
itself xs = record { before = []; after = []; parted = sym (append-nil xs); first = refl }

in_first : {A : Type 0} (k : ℕ) (part whole rest : List A) → StandsFrom k part whole
    → StandsFrom k part (whole ++ rest)
in_first k part whole rest s = record {
  before = s.before;
  after = s.after ++ rest;
  parted =
      ap (λ x. x ++ rest) s.parted ∙ append_assoc s.before (part ++ s.after) rest
      ∙ ap (λ x. s.before ++ x) (append_assoc part s.after rest);
  first = s.first;
}

in_rest : {A : Type 0} (k : ℕ) (part whole front : List A) → StandsFrom k part whole
    → StandsFrom (length front + k) part (front ++ whole)
in_rest k part whole front s = record {
  before = front ++ s.before;
  after = s.after;
  parted = ap (λ x. front ++ x) s.parted ∙ sym (append_assoc front s.before (part ++ s.after));
  first = length-append front s.before ∙ ap (λ n. length front + n) s.first;
}

split_copies : {A : Type 0} (xs : List A) (q n : ℕ) → q < n → copies n xs ≡ copies q xs ++ (xs ++ copies (n - suc q) xs)
split_copies xs q zero lt = absurd (omega arith)
split_copies xs zero (suc n) lt = let e : n ≡ suc n - 1 = omega arith in ap (λ m. xs ++ copies m xs) e
split_copies xs (suc q) (suc n) lt =
    let e : n - suc q ≡ suc n - suc (suc q) = omega arith in
    ap (λ r. xs ++ r) (split_copies xs q n (omega arith))
    ∙ ap (λ m. xs ++ (copies q xs ++ (xs ++ copies m xs))) e
    ∙ sym (append_assoc xs (copies q xs) (xs ++ copies (suc n - suc (suc q)) xs))

pub some_same : {A : Type 0} {x y : A} → Some x ≡ Some y → x ≡ y
some_same e = cc

here : (whole : Description) (offset : ℕ) (part : Description) (k : ℕ) → stands_here whole offset part ≡ true
    → 0 ≡ k → StandsFrom k (scalars_of part) (scalars_of whole)
here whole offset part k h e =
    subst (λ k. StandsFrom k (scalars_of part) (scalars_of whole)) e
    (subst (λ d. StandsFrom 0 (scalars_of d) (scalars_of whole)) ((same_decides whole part).0 (and_right (nat_eq offset 0) (same whole part) h))
    (itself (scalars_of whole)))
  where
    and_right : (a b : Bool) → a && b ≡ true → b ≡ true
    and_right true b h = h
    and_right false b h = absurd (cc)

alone : (whole : Description) (offset : ℕ) (part : Description) (k : ℕ)
    → (if stands_here whole offset part then Some 0 else None) ≡ Some k
    → StandsFrom k (scalars_of part) (scalars_of whole)
alone whole offset part k h = by (stands_here whole offset part) refl h
  where
    by : (b : Bool) → stands_here whole offset part ≡ b → (if b then Some 0 else None) ≡ Some k
        → StandsFrom k (scalars_of part) (scalars_of whole)
    by true e h = here whole offset part k e (some_same h)
    by false e h = absurd (cc)

pub none_some : {A : Type 0} {x : A} → None ≡ Some x → ⊥
none_some e = absurd (cc)

pub mapped_from : (o : Option ℕ) (f : ℕ → ℕ) (k : ℕ) → option_map f o ≡ Some k → (j : ℕ) × (o ≡ Some j) × (f j ≡ k)
mapped_from None f k h = absurd (none_some h)
mapped_from (Some j) f k h = (j, refl, some_same h)

in_array : (bounds : List Bounds) (element : Description) (q r k : ℕ) (part : Description) → q < count_of bounds
    → ((j : ℕ) → first_scalar element r part ≡ Some j → StandsFrom j (scalars_of part) (scalars_of element))
    → option_map (λ k. q * scalars_in element + k) (first_scalar element r part) ≡ Some k
    → StandsFrom k (scalars_of part) (scalars_of (Array bounds element))
in_array bounds element q r k part lt rest h =
    let m = mapped_from (first_scalar element r part) (λ k. q * scalars_in element + k) k h in
    let n = count_of bounds in
    let s = scalars_of element in
    subst (λ k. StandsFrom k (scalars_of part) (copies n s))
    (ap (λ l. l + m.0) (length_copies q s ∙ ap (λ l. q * l) (length_scalars element)) ∙ m.2)
    (subst (λ xs. StandsFrom (length (copies q s) + m.0) (scalars_of part) xs) (sym (split_copies s q n lt))
    (in_rest m.0 (scalars_of part) (s ++ copies (n - suc q) s) (copies q s)
    (in_first m.0 (scalars_of part) s (copies (n - suc q) s) (rest m.0 m.1))))

array_stands : (bounds : List Bounds) (element : Description) (offset : ℕ) (part : Description) (k : ℕ)
    → ((r j : ℕ) → first_scalar element r part ≡ Some j → StandsFrom j (scalars_of part) (scalars_of element))
    → first_scalar (Array bounds element) offset part ≡ Some k
    → StandsFrom k (scalars_of part) (scalars_of (Array bounds element))
array_stands bounds element offset part k rest h =
    by (stands_here (Array bounds element) offset part) (nat_lt (offset / stride_of element) (count_of bounds)) refl refl h
  where
    by : (b c : Bool) → stands_here (Array bounds element) offset part ≡ b
        → nat_lt (offset / stride_of element) (count_of bounds) ≡ c
        → (if b then Some 0 else if c then option_map (λ k. offset / stride_of element * scalars_in element + k)
        (first_scalar element (offset % stride_of element) part) else None) ≡ Some k
        → StandsFrom k (scalars_of part) (scalars_of (Array bounds element))
    by true c e d h = here (Array bounds element) offset part k e (some_same h)
    by false true e d h =
        in_array bounds element (offset / stride_of element) (offset % stride_of element) k part
        (ltb-true (offset / stride_of element) (count_of bounds) d) (λ j g. rest (offset % stride_of element) j g) h
    by false false e d h = absurd (none_some h)

structure_stands : (members : Members) (offset : ℕ) (part : Description) (k : ℕ)
    → (scalar_after 0 members offset part ≡ Some k → StandsFrom k (scalars_of part) (scalars_of_members members))
    → first_scalar (Structure members) offset part ≡ Some k
    → StandsFrom k (scalars_of part) (scalars_of (Structure members))
structure_stands members offset part k rest h = by (stands_here (Structure members) offset part) refl h
  where
    by : (b : Bool) → stands_here (Structure members) offset part ≡ b
        → (if b then Some 0 else scalar_after 0 members offset part) ≡ Some k
        → StandsFrom k (scalars_of part) (scalars_of (Structure members))
    by true e h = here (Structure members) offset part k e (some_same h)
    by false e h = rest h

members_stand : (d : Description) (ds : Members) (at offset : ℕ) (part : Description) (k : ℕ)
    → ((r j : ℕ) → first_scalar d r part ≡ Some j → StandsFrom j (scalars_of part) (scalars_of d))
    → ((at j : ℕ) → scalar_after at ds offset part ≡ Some j → StandsFrom j (scalars_of part) (scalars_of_members ds))
    → scalar_after at (MemberThen d ds) offset part ≡ Some k
    → StandsFrom k (scalars_of part) (scalars_of_members (MemberThen d ds))
members_stand d ds at offset part k first others h =
    by (nat_lt offset (start + size_of d)) (nat_lt offset start) h
  where
    start : ℕ
    start = next_multiple_of at (alignment_of d)

    by : (b c : Bool)
        → (if b then (if c then None else first_scalar d (offset - start) part)
        else option_map (λ k. scalars_in d + k) (scalar_after (start + size_of d) ds offset part)) ≡ Some k
        → StandsFrom k (scalars_of part) (scalars_of d ++ scalars_of_members ds)
    by true true h = absurd (none_some h)
    by true false h =
        in_first k (scalars_of part) (scalars_of d) (scalars_of_members ds) (first (offset - start) k h)
    by false c h =
        let m = mapped_from (scalar_after (start + size_of d) ds offset part) (λ k. scalars_in d + k) k h in
        subst (λ k. StandsFrom k (scalars_of part) (scalars_of d ++ scalars_of_members ds))
        (ap (λ l. l + m.0) (length_scalars d) ∙ m.2)
        (in_rest m.0 (scalars_of part) (scalars_of_members ds) (scalars_of d) (others (start + size_of d) m.0 m.1))

mutual
  pub part_stands : (whole : Description) (offset : ℕ) (part : Description) (k : ℕ)
      → first_scalar whole offset part ≡ Some k → StandsFrom k (scalars_of part) (scalars_of whole)
  part_stands (Array bounds element) offset part k h =
      array_stands bounds element offset part k (λ r j g. part_stands element r part j g) h
  part_stands (Structure members) offset part k h =
      structure_stands members offset part k (λ g. member_stands members 0 offset part k g) h
  part_stands d offset part k h = alone d offset part k h

  member_stands : (ds : Members) (at offset : ℕ) (part : Description) (k : ℕ)
      → scalar_after at ds offset part ≡ Some k → StandsFrom k (scalars_of part) (scalars_of_members ds)
  member_stands NoMembers at offset part k h = absurd (none_some h)
  member_stands (MemberThen d ds) at offset part k h =
      members_stand d ds at offset part k (λ r j g. part_stands d r part j g)
      (λ next j g. member_stands ds next offset part j g) h

-- values for scalars
pub held_length : (ds : List Description) (vs : List Value) → AreHeld ds vs → length ds ≡ length vs
held_length [] [] h = refl
held_length [] (v ∷ vs) h = absurd h
held_length (d ∷ ds) [] h = absurd h
held_length (d ∷ ds) (v ∷ vs) h = ap (λ n. suc n) (held_length ds vs h.1)

-- those of a part
held_from : (before part after : List Description) (vs : List Value) (k n : ℕ) → length before ≡ k → length part ≡ n
    → AreHeld (before ++ (part ++ after)) vs → AreHeld part (values_from k n vs)
held_from [] [] after vs k n e1 e2 h = subst (λ n. AreHeld [] (values_from k n vs)) e2 tt
held_from [] (d ∷ part) after [] k n e1 e2 h = absurd h
held_from [] (d ∷ part) after (v ∷ vs) k n e1 e2 h =
    subst (λ k. AreHeld (d ∷ part) (take n (drop k (v ∷ vs)))) e1
    (subst (λ n. AreHeld (d ∷ part) (take n (v ∷ vs))) e2
    (h.0, held_from [] part after vs 0 (length part) refl refl h.1))
held_from (d ∷ before) part after [] k n e1 e2 h = absurd h
held_from (d ∷ before) part after (v ∷ vs) k n e1 e2 h =
    subst (λ k. AreHeld part (take n (drop k (v ∷ vs)))) e1 (held_from before part after vs (length before) n refl e2 h.1)

-- others in their place
held_with : (before part after : List Description) (new vs : List Value) (k : ℕ) → length before ≡ k
    → AreHeld part new → AreHeld (before ++ (part ++ after)) vs → AreHeld (before ++ (part ++ after)) (with_values_at k new vs)
held_with [] [] after [] vs k e1 hn h = subst (λ k. AreHeld after (take k vs ++ [] ++ drop (k + 0) vs)) e1 h
held_with [] [] after (x ∷ new) vs k e1 hn h = absurd hn
held_with [] (d ∷ part) after [] vs k e1 hn h = absurd hn
held_with [] (d ∷ part) after (x ∷ new) [] k e1 hn h = absurd h
held_with [] (d ∷ part) after (x ∷ new) (v ∷ vs) k e1 hn h =
    subst (λ k. AreHeld (d ∷ (part ++ after)) (take k (v ∷ vs) ++ (x ∷ new) ++ drop (k + suc (length new)) (v ∷ vs))) e1 (
      hn.0,
      let e : suc (0 + length new) ≡ 0 + suc (length new) = omega arith in
          subst (λ n. AreHeld (part ++ after) (new ++ drop n (v ∷ vs))) e (held_with [] part after new vs 0 refl hn.1 h.1),
    )
held_with (d ∷ before) part after new [] k e1 hn h = absurd h
held_with (d ∷ before) part after new (v ∷ vs) k e1 hn h =
    let m = length before in
    let e : suc (m + length new) ≡ suc m + length new = omega arith in
    subst (λ k. AreHeld (d ∷ (before ++ (part ++ after))) (with_values_at k new (v ∷ vs))) e1
    (subst (λ n. AreHeld (d ∷ (before ++ (part ++ after))) ((v ∷ take m vs) ++ new ++ drop n (v ∷ vs))) e
    (h.0, held_with before part after new vs m refl hn h.1))

-- what a part of a generation holds, and what it holds with other values there
pub part_held : (whole : Description) (offset : ℕ) (part : Description) (k : ℕ) (vs : List Value)
    → first_scalar whole offset part ≡ Some k → AreHeld (scalars_of whole) vs
    → AreHeld (scalars_of part) (values_from k (scalars_in part) vs)
part_held whole offset part k vs e h =
    let s = part_stands whole offset part k e in
    held_from s.before (scalars_of part) s.after vs k (scalars_in part) s.first (length_scalars part)
    (subst (λ ds. AreHeld ds vs) s.parted h)

pub part_stored : (whole : Description) (offset : ℕ) (part : Description) (k : ℕ) (new vs : List Value)
    → first_scalar whole offset part ≡ Some k → AreHeld (scalars_of part) new → AreHeld (scalars_of whole) vs
    → AreHeld (scalars_of whole) (with_values_at k new vs)
part_stored whole offset part k new vs e hn h =
    let s = part_stands whole offset part k e in
    subst (λ ds. AreHeld ds (with_values_at k new vs)) (sym s.parted)
    (held_with s.before (scalars_of part) s.after new vs k s.first hn (subst (λ ds. AreHeld ds vs) s.parted h))
