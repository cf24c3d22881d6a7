-- The values with which the elements of an array begin.
use Rattle.std.proofs.Common.{◌≡◌, ℕ, zero, suc, ◌+◌, List, [], ◌++◌, map, length, replicate, refl, ap, sym, ◌∙◌, arith, length-append}
use Rattle.std.specs.List.{flat_map}
use Rattle.std.proofs.lemmas.List.{flat_map_more, length-map, replicate_more, nil_from_length}

-- those of so many elements
abbrev pub repeated : {A : Type 0} → ℕ → List A → List A
repeated n vs = flat_map (λ vs. vs) (replicate n vs)

-- of one element more
pub one_more : {A : Type 0} (n : ℕ) (old vs new : List A) → new ≡ (old ++ repeated n vs) ++ vs → new ≡ old ++ repeated (n + 1) vs
one_more n old vs new e =
    e ∙ flat_map_more (λ vs. vs) old (replicate n vs) vs ∙ ap (λ vss. old ++ flat_map (λ vs. vs) vss) (replicate_more n vs)

nothing_repeated : {A : Type 0} (n : ℕ) → repeated {A = A} n [] ≡ []
nothing_repeated zero = refl
nothing_repeated (suc n) = nothing_repeated n

-- where one element has no value, none has one
pub none_more : {A B : Type 0} (f : A → B) (n : ℕ) (old new : List A) (vs : List B) → map f new ≡ map f old ++ vs → length new ≡ length old
    → map f new ≡ map f old ++ repeated n vs
none_more f n old new vs e lengths =
    let sizes : length (map f new) ≡ length (map f old) + length vs = ap length e ∙ length-append (map f old) vs in
    let none : vs ≡ [] = nil_from_length vs (omega (arith, sizes, lengths, length-map new f, length-map old f)) in
    e ∙ rw none (ap (λ l. map f old ++ l) (sym (nothing_repeated n)))
