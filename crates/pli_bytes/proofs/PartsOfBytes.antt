-- What bytes hold for a part of a description: its values are those of its own bytes, and where these change, its values alone do.
use Rattle.std.proofs.Common.{◌≡◌, ℕ, ◌+◌, ◌≤◌, true, Some, List, [], ◌∷◌, ◌++◌, map, length, take, drop, ap, sym, ◌∙◌, arith, append_assoc, length-drop}
use Rattle.std.proofs.lemmas.List.{length-map, map-append, take_all, take_at, take-take, drop_at, drop-drop, length-take-le}
use Rattle.pli_map.specs.Description.{Description}
use Rattle.pli_map.specs.Parts.{PlacedPart, moved}
use Rattle.pli_map.specs.Scalars.{is_scalar, scalars_in, first_scalar}
use Rattle.pli_map.specs.Sizes.{size_of}
use Rattle.pli_map.proofs.ScalarPlaces.{within}
use Rattle.pli_value.specs.Value.{Value}
use Rattle.pli_bytes.specs.Changes.{IsPut}
use Rattle.pli_bytes.specs.Contents.{scalars_at, value_of, bytes_from, value_in, values_of, with_bytes_at}
use Rattle.pli_bytes.proofs.Kept.{values_at, kept_before, kept_after, values_moved}
use Rattle.pli_bytes.proofs.PutBytes.{before_put, from_put, after_put, length_put}
use Rattle.pli_bytes.proofs.Rising.{rises}
use Rattle.pli_bytes.proofs.Scalars.{counted, one_scalar, scalar_alone}
use Rattle.pli_bytes.proofs.Split.{split_found}

-- ---- lists

-- as many of a list as stand between two
between : {X : Type 0} (xs ys zs : List X) (k n : ℕ) → length xs ≡ k → length ys ≡ n → take n (drop k (xs ++ (ys ++ zs))) ≡ ys
between xs ys zs k n a b = ap (take n) (drop_at xs (ys ++ zs) k a) ∙ take_at ys zs n b

-- others in their place
replaced : {X : Type 0} (xs ys zs new : List X) (k : ℕ) → length xs ≡ k → length new ≡ length ys
    → xs ++ (new ++ zs) ≡ take k (xs ++ (ys ++ zs)) ++ new ++ drop (k + length new) (xs ++ (ys ++ zs))
replaced xs ys zs new k a b =
    let whole = xs ++ (ys ++ zs) in
    let front : take k whole ≡ xs = take_at xs (ys ++ zs) k a in
    let back : drop (k + length new) whole ≡ zs =
    sym (drop-drop (length new) k whole) ∙ ap (drop (length new)) (drop_at xs (ys ++ zs) k a) ∙ drop_at ys zs (length new) (sym b) in
    sym (ap (λ l. l ++ new ++ drop (k + length new) whole) front ∙ ap (λ l. xs ++ new ++ l) back ∙ append_assoc xs new zs)

-- the values of scalars that stand together among others
values_split : (before middle after : List PlacedPart) (bytes : List ℕ)
    → values_at (before ++ (middle ++ after)) bytes ≡ values_at before bytes ++ (values_at middle bytes ++ values_at after bytes)
values_split before middle after bytes =
    map-append (value_in bytes) before (middle ++ after) ∙ ap (λ vs. values_at before bytes ++ vs) (map-append (value_in bytes) middle after)

-- ---- parts

pub part_bytes : (whole : Description) (o : ℕ) (part : Description) (k : ℕ) → first_scalar whole o part ≡ Some k → o + size_of part ≤ size_of whole
part_bytes whole o part k found = (within whole o part k found).bytes

pub values_counted : (d : Description) (bytes : List ℕ) → length (values_of d bytes) ≡ scalars_in d
values_counted d bytes = length-map (scalars_at d) (value_in bytes) ∙ counted d

pub part_values : (whole : Description) (o : ℕ) (part : Description) (k : ℕ) (bytes : List ℕ) → first_scalar whole o part ≡ Some k
    → take (scalars_in part) (drop k (values_of whole bytes)) ≡ values_of part (drop o bytes)
part_values whole o part k bytes found =
    let s = split_found whole o part k found in
    let middle = map (moved o) (scalars_at part) in
    let mine : values_at middle bytes ≡ values_of part (drop o bytes) = values_moved o (scalars_at part) bytes in
    ap (λ ss. take (scalars_in part) (drop k (values_at ss bytes))) s.is
    ∙ ap (λ vs. take (scalars_in part) (drop k vs)) (values_split s.before middle s.after bytes)
    ∙ between (values_at s.before bytes) (values_at middle bytes) (values_at s.after bytes) k (scalars_in part)
    (length-map s.before (value_in bytes) ∙ s.count) (ap length mine ∙ values_counted part (drop o bytes))
    ∙ mine

-- only as many bytes count as the description takes
pub same_values : (d : Description) (xs ys : List ℕ) → take (size_of d) xs ≡ take (size_of d) ys → values_of d xs ≡ values_of d ys
same_values d xs ys same = kept_before 0 (scalars_at d) (size_of d) xs ys (rises d) same

pub part_put : (whole : Description) (o : ℕ) (part : Description) (k : ℕ) (new bytes : List ℕ) → first_scalar whole o part ≡ Some k
    → length new ≡ size_of part → length bytes ≡ size_of whole
    → values_of whole (with_bytes_at o new bytes)
    ≡ take k (values_of whole bytes) ++ values_of part new ++ drop (k + length (values_of part new)) (values_of whole bytes)
part_put whole o part k new bytes found new_size size =
    let s = split_found whole o part k found in
    let inside = part_bytes whole o part k found in
    let begins : o ≤ length bytes = omega (arith, inside, size) in
    let middle = map (moved o) (scalars_at part) in
    let now = with_bytes_at o new bytes in
    let front : values_at s.before now ≡ values_at s.before bytes = kept_before 0 s.before o now bytes s.ends (before_put o new bytes begins) in
    let after_part : o + length new ≤ o + size_of part = omega (arith, new_size) in
    let back : values_at s.after now ≡ values_at s.after bytes =
    kept_after (o + length new) (o + size_of part) s.after (size_of whole) now bytes after_part s.begins (after_put o new bytes begins) in
    let rest = drop (o + length new) bytes in
    let cut : take (size_of part) (new ++ rest) ≡ take (size_of part) new =
    take_at new rest (size_of part) new_size ∙ sym (take_all (size_of part) new (omega (arith, new_size))) in
    let mine : values_at middle now ≡ values_of part new =
    values_moved o (scalars_at part) now ∙ ap (values_of part) (from_put o new bytes begins) ∙ same_values part (new ++ rest) new cut in
    let was = values_at s.before bytes ++ (values_at middle bytes ++ values_at s.after bytes) in
    let was_is : values_of whole bytes ≡ was = ap (λ ss. values_at ss bytes) s.is ∙ values_split s.before middle s.after bytes in
    let lengths : length (values_of part new) ≡ length (values_at middle bytes) =
    values_counted part new ∙ sym (values_counted part (drop o bytes)) ∙ ap length (sym (values_moved o (scalars_at part) bytes)) in
    ap (λ ss. values_at ss now) s.is ∙ values_split s.before middle s.after now
    ∙ ap (λ vs. vs ++ (values_at middle now ++ values_at s.after now)) front
    ∙ ap (λ vs. values_at s.before bytes ++ (vs ++ values_at s.after now)) mine
    ∙ ap (λ vs. values_at s.before bytes ++ (values_of part new ++ vs)) back
    ∙ replaced (values_at s.before bytes) (values_at middle bytes) (values_at s.after bytes) (values_of part new) k
    (length-map s.before (value_in bytes) ∙ s.count) lengths
    ∙ ap (λ vs. take k vs ++ values_of part new ++ drop (k + length (values_of part new)) vs) (sym was_is)

-- a copy of a part's bytes is one of its values
pub part_copied : (source : Description) (p : ℕ) (target : Description) (o : ℕ) (part : Description) (j k : ℕ) (from to : List ℕ)
    → first_scalar source p part ≡ Some j → first_scalar target o part ≡ Some k → length from ≡ size_of source → length to ≡ size_of target
    → let vs = take (scalars_in part) (drop j (values_of source from)) in
    values_of target (with_bytes_at o (bytes_from p (size_of part) from) to)
    ≡ take k (values_of target to) ++ vs ++ drop (k + length vs) (values_of target to)
part_copied source p target o part j k from to read written from_size to_size =
    let size = size_of part in
    let new = bytes_from p size from in
    let inside = part_bytes source p part j read in
    let left : size ≤ length (drop p from) = omega (arith, inside, from_size, length-drop p from) in
    let new_size : length new ≡ size = length-take-le size (drop p from) left in
    let values : values_of part new ≡ take (scalars_in part) (drop j (values_of source from)) =
    same_values part new (drop p from) (take-take size size (drop p from) (omega arith)) ∙ sym (part_values source p part j from read) in
    part_put target o part k new to written new_size to_size
    ∙ ap (λ vs. take k (values_of target to) ++ vs ++ drop (k + length vs) (values_of target to)) values

-- ---- scalars

one_value : (part : Description) (bytes : List ℕ) → is_scalar part ≡ true → values_of part bytes ≡ value_in bytes (record { offset = 0; description = part }) ∷ []
one_value part bytes scalar = ap (λ ss. values_at ss bytes) (scalar_alone part scalar)

pub scalar_read : (whole : Description) (o : ℕ) (part : Description) (k : ℕ) (bytes : List ℕ) → is_scalar part ≡ true → first_scalar whole o part ≡ Some k
    → take 1 (drop k (values_of whole bytes)) ≡ value_in bytes (record { offset = o; description = part }) ∷ []
scalar_read whole o part k bytes scalar found =
    ap (λ n. take n (drop k (values_of whole bytes))) (sym (one_scalar part scalar)) ∙ part_values whole o part k bytes found ∙ one_value part (drop o bytes) scalar

pub scalar_put : (whole : Description) (o : ℕ) (part : Description) (k : ℕ) (v : Value) (old new : List ℕ) → is_scalar part ≡ true → first_scalar whole o part ≡ Some k
    → IsPut part v o old new → length old ≡ size_of whole
    → (values_of whole new ≡ take k (values_of whole old) ++ v ∷ [] ++ drop (k + 1) (values_of whole old)) × (length new ≡ length old)
scalar_put whole o part k v old new scalar found put size =
    let inside = part_bytes whole o part k found in
    let all : take (size_of part) put.bytes ≡ put.bytes = take_all (size_of part) put.bytes (omega (arith, put.size)) in
    let value : values_of part put.bytes ≡ v ∷ [] = one_value part put.bytes scalar ∙ ap (λ b. value_of part b ∷ []) all ∙ ap (λ w. w ∷ []) put.hold in
    let vs = values_of whole old in (
      ap (values_of whole) put.put ∙ part_put whole o part k put.bytes old found put.size size ∙ ap (λ ws. take k vs ++ ws ++ drop (k + length ws) vs) value,
      ap length put.put ∙ length_put o put.bytes old (omega (arith, inside, put.size, size)),
    )
