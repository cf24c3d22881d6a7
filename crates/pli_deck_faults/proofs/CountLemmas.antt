-- Tests of all that lists name.
use Rattle.std.proofs.Common.{◌≡◌, Bool, true, false, ◌&&◌, List, [], ◌∷◌, ◌++◌, length, map, refl, ap, ◌∙◌}
use Rattle.std.specs.List.{flat_map, list_all}
use Rattle.std.proofs.lemmas.List.{length-map}
use Rattle.std.proofs.lemmas.List.Folds.{list_all-append}

pub mapped_length : {X Y : Type 0} (f : X → Y) (xs : List X) → length (map f xs) ≡ length xs
mapped_length f xs = length-map xs f

pub alone : (b : Bool) → (b && true) ≡ b
alone true = refl
alone false = refl

-- all that some items name, item by item
pub each_passes : {X Y : Type 0} (test : Y → Bool) (named : X → List Y) (xs : List X) → list_all test (flat_map named xs) ≡ list_all (λ x. list_all test (named x)) xs
each_passes test named [] = refl
each_passes test named (x ∷ xs) = list_all-append test (named x) (flat_map named xs) ∙ ap (λ b. list_all test (named x) && b) (each_passes test named xs)

pub mapped_passes : {X Y : Type 0} (test : Y → Bool) (f : X → Y) (xs : List X) → list_all test (map f xs) ≡ list_all (λ x. test (f x)) xs
mapped_passes test f [] = refl
mapped_passes test f (x ∷ xs) = ap (λ b. test (f x) && b) (mapped_passes test f xs)

pub both_pass : {X : Type 0} (test : X → Bool) (xs ys : List X) → list_all test (xs ++ ys) ≡ (list_all test xs && list_all test ys)
both_pass test xs ys = list_all-append test xs ys

pub three_pass : {X : Type 0} (test : X → Bool) (xs ys zs : List X) → list_all test (xs ++ (ys ++ zs)) ≡ (list_all test xs && (list_all test ys && list_all test zs))
three_pass test xs ys zs = list_all-append test xs (ys ++ zs) ∙ ap (λ b. list_all test xs && b) (list_all-append test ys zs)
