-- The values with which scalars begin may be held.
use Rattle.std.proofs.Common.{◌≡◌, ℕ, zero, suc, ◌^◌, true, false, ◌&&◌, List, [], ◌∷◌, ◌++◌, length, replicate, refl, ap, ◌∙◌, arith, pow_pos, eq-eqb, le-leb}
use Rattle.std.specs.List.{flat_map}
use Rattle.std.specs.Prelude.{pos}
use Rattle.std.proofs.lemmas.Bool.{and_parts, false≢true, lt-ltb}
use Rattle.std.proofs.lemmas.List.{length-replicate}
use Rattle.pli_map.specs.Description.{Description, FixedBinary, Character, Varying, Bit, Pointer, Offset, Area, Array, Structure, Members, NoMembers, MemberThen}
use Rattle.pli_map.specs.laws.ValueLaws.{FirstValuesAreHeld}
use Rattle.pli_map.specs.Scalars.{scalars_of, scalars_of_members}
use Rattle.pli_map.specs.Sizes.{count_of}
use Rattle.pli_map.specs.Values.{holds, are_held, first_values, first_values_of}
use Rattle.pli_value.specs.Value.{Value, Number, Characters, Bits}

-- after those that are held the others decide
pub held_on : (ds es : List Description) (vs ws : List Value) → are_held ds vs ≡ true → are_held (ds ++ es) (vs ++ ws) ≡ are_held es ws
held_on [] es [] ws h = refl
held_on [] es (v ∷ vs) ws h = absurd (false≢true h)
held_on (d ∷ ds) es [] ws h = absurd (false≢true h)
held_on (d ∷ ds) es (v ∷ vs) ws h =
    let p = and_parts (holds d v) (are_held ds vs) h in
    ap (λ b. b && are_held (ds ++ es) (vs ++ ws)) p.0 ∙ held_on ds es vs ws p.1

held_often : (n : ℕ) (ds : List Description) (vs : List Value) → are_held ds vs ≡ true
    → are_held (flat_map (λ xs. xs) (replicate n ds)) (flat_map (λ xs. xs) (replicate n vs)) ≡ true
held_often zero ds vs h = refl
held_often (suc n) ds vs h =
    held_on ds (flat_map (λ xs. xs) (replicate n ds)) vs (flat_map (λ xs. xs) (replicate n vs)) h ∙ held_often n ds vs h

one_held : (d : Description) (v : Value) → holds d v ≡ true → are_held (d ∷ []) (v ∷ []) ≡ true
one_held d v h = ap (λ b. b && true) h

mutual
  pub firsts_held : (d : Description) → are_held (scalars_of d) (first_values d) ≡ true
  firsts_held (FixedBinary p) = one_held (FixedBinary p) (Number (pos 0)) (lt-ltb 0 (2 ^ p) (pow_pos p))
  firsts_held (Character n) =
      let blanks : List ℕ = replicate n 32 in
      let count : length blanks ≡ n = length-replicate n 32 in
      one_held (Character n) (Characters blanks) (eq-eqb (length blanks) n count)
  firsts_held (Varying n) = one_held (Varying n) (Characters []) (le-leb 0 n (omega arith))
  firsts_held (Bit n) = one_held (Bit n) (Bits (replicate n false)) (eq-eqb (length (replicate n false)) n (length-replicate n false))
  firsts_held Pointer = refl
  firsts_held Offset = refl
  firsts_held (Area n) = refl
  firsts_held (Array bounds element) = held_often (count_of bounds) (scalars_of element) (first_values element) (firsts_held element)
  firsts_held (Structure members) = member_firsts_held members

  pub member_firsts_held : (ds : Members) → are_held (scalars_of_members ds) (first_values_of ds) ≡ true
  member_firsts_held NoMembers = refl
  member_firsts_held (MemberThen d ds) =
      held_on (scalars_of d) (scalars_of_members ds) (first_values d) (first_values_of ds) (firsts_held d) ∙ member_firsts_held ds

pub first_values_are_held : FirstValuesAreHeld
first_values_are_held d = firsts_held d
