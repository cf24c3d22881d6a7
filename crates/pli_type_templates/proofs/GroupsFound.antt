-- Which template a variable of a number has, among groups.
use Rattle.std.proofs.Common.{◌≡◌, ℕ, zero, suc, ◌+◌, ◌-◌, ◌<◌, ◌≤◌, Some, None, List, [], ◌∷◌, ◌++◌, drop, get_or, length, replicate, slice_get, refl, ap, sym, ◌∙◌, arith}
use Rattle.std.proofs.Math.ListN.{drop_of_length-le}
use Rattle.std.proofs.lemmas.List.{drop_more}
use Rattle.pli_type_tree.specs.declared.template.VariableGroup.{VariableGroup}
use Rattle.pli_type_tree.specs.views.TemplateView.{groups_view, template_view}

-- among so many copies
in_copies : {A : Type 0} (count n : ℕ) (t : A) (more : List A) → n < count → slice_get (replicate count t ++ more) n ≡ Some t
in_copies zero n t more h = absurd (omega arith)
in_copies (suc count) zero t more h = refl
in_copies (suc count) (suc n) t more h = in_copies count n t more (omega (arith, h))

-- after them
past_copies : {A : Type 0} (count n : ℕ) (t : A) (more : List A) → count ≤ n
    → slice_get more (n - count) ≡ slice_get (replicate count t ++ more) n
past_copies zero n t more h =
    let all : n - zero ≡ n = omega arith in
    ap (slice_get more) all
past_copies (suc count) zero t more h = absurd (omega arith)
past_copies (suc count) (suc n) t more h =
    let less : suc n - suc count ≡ n - count = omega arith in
    ap (slice_get more) less ∙ past_copies count n t more (omega (arith, h))

module _ (gs : List VariableGroup) (i : ℕ) (g : VariableGroup) (n : ℕ) (is : g ≡ get_or gs i g) (within : i < length gs) where
  at_group : drop i gs ≡ g ∷ drop (i + 1) gs
  at_group = drop_more gs i g within ∙ ap (λ x. x ∷ drop (i + 1) gs) (sym is)

  pub group_here : n < g.count → slice_get (groups_view (drop i gs)) n ≡ Some (template_view g.template)
  group_here h =
      ap (λ xs. slice_get (groups_view xs) n) at_group
      ∙ in_copies g.count n (template_view g.template) (groups_view (drop (i + 1) gs)) h

  pub group_past : g.count ≤ n
      → slice_get (groups_view (drop (i + 1) gs)) (n - g.count) ≡ slice_get (groups_view (drop i gs)) n
  group_past h =
      past_copies g.count n (template_view g.template) (groups_view (drop (i + 1) gs)) h
      ∙ ap (λ xs. slice_get (groups_view xs) n) (sym at_group)

no_group : (n : ℕ) → slice_get (groups_view []) n ≡ None
no_group n = refl

pub groups_end : (gs : List VariableGroup) (i n : ℕ) → length gs ≤ i → slice_get (groups_view (drop i gs)) n ≡ None
groups_end gs i n h = ap (λ xs. slice_get (groups_view xs) n) (drop_of_length-le gs {i = i} h) ∙ no_group n
