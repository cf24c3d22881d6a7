-- Lists of values, and parts one after another.
use Rattle.std.proofs.Common.{◌≡◌, List, [], ◌∷◌, ◌++◌, ℕ, map, length, refl, sym, ap, ◌∙◌, append_assoc}
use Rattle.std.specs.List.{flat_map}
use Rattle.std.proofs.lemmas.List.{length-map}
use Rattle.byteorder.specs.Endian.{big_bytes}

-- values that are what is said of them
pub unmapped : {X : Type 0} (xs : List X) → map (λ x. x) xs ≡ xs
unmapped [] = refl
unmapped (x ∷ xs) = ap (λ ys. x ∷ ys) (unmapped xs)

pub mapped_length : {X Y : Type 0} (f : X → Y) (xs : List X) → length (map f xs) ≡ length xs
mapped_length f xs = length-map xs f

-- a list that was lent is put as the field of lists has it
pub list_put : {X Y : Type 0} (say : X → Y) (bytes_of : Y → List ℕ) (old new : List ℕ) (lent xs : List X) → new ≡ old ++ (big_bytes 2 (length lent) ++ flat_map bytes_of (map say lent)) → lent ≡ xs
    → new ≡ old ++ (big_bytes 2 (length (map say xs)) ++ flat_map bytes_of (map say xs))
list_put say bytes_of old new lent xs put is =
    put ∙ ap (λ ys. old ++ (big_bytes 2 (length ys) ++ flat_map bytes_of (map say ys))) is
    ∙ ap (λ n. old ++ (big_bytes 2 n ++ flat_map bytes_of (map say xs))) (sym (mapped_length say xs))

-- seven parts, one after another
pub seven_parts : (a b c d e f g : List ℕ) → a ++ (b ++ (c ++ (d ++ (e ++ (f ++ g))))) ≡ (((((a ++ b) ++ c) ++ d) ++ e) ++ f) ++ g
seven_parts a b c d e f g =
    sym (append_assoc ((((a ++ b) ++ c) ++ d) ++ e) f g ∙ append_assoc (((a ++ b) ++ c) ++ d) e (f ++ g)
    ∙ append_assoc ((a ++ b) ++ c) d (e ++ (f ++ g)) ∙ append_assoc (a ++ b) c (d ++ (e ++ (f ++ g)))
    ∙ append_assoc a b (c ++ (d ++ (e ++ (f ++ g)))))
