use Rattle.std.proofs.Common.{◌≡◌, ◌==◌, ℕ, List, [], ◌∷◌, map, refl, ap, ◌∙◌, ◌||◌}
use Rattle.std.specs.List.{list_any}
use Rattle.pli_declare.specs.Sets.{is_one_of}
use Rattle.pli_declare_attributes.specs.declared.set.AttributeSet.{AttributeSet}
use Rattle.pli_declare_attributes.proofs.set.AttributeSet.has_one_of.Goals as goal

-- a set among sets is its number among theirs
numbers_of_sets : (n : ℕ) (sets : List AttributeSet) → list_any (λ s. s.0 == n) sets ≡ is_one_of n (map (λ s. s.0) sets)
numbers_of_sets n [] = refl
numbers_of_sets n (s ∷ sets) = ap (λ b. (s.0 == n) || b) (numbers_of_sets n sets)

pub returns : goal.returns
returns c = c.contains.ensures.value ∙ numbers_of_sets c.intersection.result.0 c.args.sets.now ∙ ap (λ n. is_one_of n (map (λ s. s.0) c.args.sets.now)) (c.intersection.ensures tt)
