-- How many static links outward a block is.
use Rattle.std.proofs.Common.{◌≡◌, ℕ, suc, ◌+◌, ◌-◌, ◌<◌, ◌≤◌, Option, Some, None, List, length, drop, reverse, option_map, get_or, slice_get, refl, ap, sym, ◌∙◌, arith, eq-eqb, nat_eq}
use Rattle.std.specs.Prelude.{if◌then◌else◌}
use Rattle.std.proofs.lemmas.Bool.{ne_eqb}
use Rattle.std.proofs.lemmas.List.{at_drop_more, at_drop_all, get_or-reverse, length-reverse}
use Rattle.std.proofs.lemmas.Option.{slice_get-get_or, slice_get_past}
use Rattle.pli_type_rules.specs.NamedUnits.{outward_to}

-- so many links further
abbrev pub further : ℕ → Option ℕ → Option ℕ
further n o = option_map (λ k. n + k) o

one_further : (n : ℕ) (o : Option ℕ) → further n (option_map suc o) ≡ further (n + 1) o
one_further n None = refl
one_further n (Some k) = let e : n + suc k ≡ n + 1 + k = omega arith in ap Some e

pub none_further : (o : Option ℕ) → further 0 o ≡ o
none_further None = refl
none_further (Some k) = let e : 0 + k ≡ k = omega arith in ap Some e

-- the block at this place, counted from the innermost, is the one that is looked for
pub found_here : (xs : List ℕ) (block i : ℕ) → i < length xs → get_or xs (length xs - 1 - i) 0 ≡ block
    → Some i ≡ further i (outward_to (drop i (reverse xs)) block)
found_here xs block i h e =
    let within : i < length (reverse xs) = omega (arith, h, length-reverse xs) in
    let here : get_or (reverse xs) i 0 ≡ block = get_or-reverse xs i 0 h ∙ e in
    let rest = outward_to (drop (i + 1) (reverse xs)) block in
    let none : i ≡ i + 0 = omega arith in
    ap Some none
    ∙ ap (λ t. further i (if t then Some 0 else option_map suc rest)) (sym (eq-eqb (get_or (reverse xs) i 0) block here))
    ∙ ap (further i) (sym (at_drop_more (λ ys. outward_to ys block) (reverse xs) i 0 within))

-- it is not
pub found_further : (xs : List ℕ) (block i : ℕ) → i < length xs → (get_or xs (length xs - 1 - i) 0 ≡ block → ⊥)
    → further (i + 1) (outward_to (drop (i + 1) (reverse xs)) block) ≡ further i (outward_to (drop i (reverse xs)) block)
found_further xs block i h ne =
    let within : i < length (reverse xs) = omega (arith, h, length-reverse xs) in
    let here : get_or (reverse xs) i 0 ≡ get_or xs (length xs - 1 - i) 0 = get_or-reverse xs i 0 h in
    let rest = outward_to (drop (i + 1) (reverse xs)) block in
    sym (one_further i rest)
    ∙ ap (λ t. further i (if t then Some 0 else option_map suc rest)) (sym (ap (λ x. nat_eq x block) here ∙ ne_eqb (get_or xs (length xs - 1 - i) 0) block ne))
    ∙ ap (further i) (sym (at_drop_more (λ ys. outward_to ys block) (reverse xs) i 0 within))

pub found_nowhere : (xs : List ℕ) (block i : ℕ) → length xs ≤ i → None ≡ further i (outward_to (drop i (reverse xs)) block)
found_nowhere xs block i h =
    let beyond : length (reverse xs) ≤ i = omega (arith, h, length-reverse xs) in
    ap (further i) (sym (at_drop_all (λ ys. outward_to ys block) (reverse xs) i beyond))

-- the block so many links outward, if one is there
pub block_there : (xs : List ℕ) (i : ℕ) → i < length xs → Some (get_or xs (length xs - 1 - i) 0) ≡ slice_get (reverse xs) i
block_there xs i h =
    let within : i < length (reverse xs) = omega (arith, h, length-reverse xs) in
    ap Some (sym (get_or-reverse xs i 0 h)) ∙ sym (slice_get-get_or (reverse xs) i 0 within)

pub no_block_there : (xs : List ℕ) (i : ℕ) → length xs ≤ i → None ≡ slice_get (reverse xs) i
no_block_there xs i h =
    let beyond : length (reverse xs) ≤ i = omega (arith, h, length-reverse xs) in
    sym (slice_get_past (reverse xs) i beyond)
