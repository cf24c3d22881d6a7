-- Numbers of entries, as look-ups in tables give them.
use Rattle.std.proofs.Common.{◌≡◌, ℕ, zero, suc, ◌+◌, ◌≤◌, ◌<◌, Bool, true, false, not, cond, nat_lt, unwrap_or, position, List, [], ◌∷◌, ◌++◌, length, map, get_or, drop, replicate, Some, None, refl, sym, ◌∙◌, ap, arith, if◌then◌else◌}
use Rattle.std.specs.List.{position_or_len}
use Rattle.std.specs.Ordering.{on}
use Rattle.std.proofs.lemmas.List.{append_assoc, at_drop_more, map-append}
use Rattle.std.proofs.lemmas.List.Sums.{prefix_len-le-length}
use Rattle.std.proofs.lemmas.Bool.Decides.{nat_tests}
use Rattle.pli_type_tree.specs.Templates.{Template}
use Rattle.pli_type_tree.specs.declared.template.VariableGroup.{VariableGroup}
use Rattle.pli_type_tree.specs.views.TemplateView.{template_view, group_view, groups_view}
use Rattle.pli_gen_emit.specs.Encoding.{number_in}

-- a place that is not past the end
chosen : (a n : ℕ) → a ≤ n → unwrap_or (cond (nat_lt a n) (Some a) None) n ≡ a
chosen a n le = by (nat_lt a n) refl
  where
    by : (b : Bool) → nat_lt a n ≡ b → unwrap_or (cond b (Some a) None) n ≡ a
    by true e = refl
    by false e = grind (arith, nat_tests)

-- the two ways to count places
counted : (b : Bool) (i j : ℕ) → i ≡ j → cond (not b) (1 + i) 0 ≡ (if b then 0 else suc j)
counted true i j e = refl
counted false i j e = omega arith

module _ {K X : Type 0} (v : K → X) (alike : X → X → Bool) where
  pub place_is_number : (ks : List K) (k : K) → position_or_len (on v alike k) ks ≡ number_in alike (map v ks) (v k)
  place_is_number [] k = refl
  place_is_number (y ∷ ks) k = counted (alike (v k) (v y)) _ _ (place_is_number ks k)

  -- the place that a look-up gives, or the length where there is none
  pub found_number : (ks : List K) (k : K) → unwrap_or (position (on v alike k) ks) (length ks) ≡ number_in alike (map v ks) (v k)
  found_number ks k =
      chosen (position_or_len (on v alike k) ks) (length ks) (prefix_len-le-length (λ x. not (on v alike k x)) ks) ∙ place_is_number ks k

-- the numbers of variables
repeated : (number : Template → ℕ) (n : ℕ) (t : Template) → replicate n (number t) ≡ map number (replicate n t)
repeated number zero t = refl
repeated number (suc n) t = ap (λ ns. number t ∷ ns) (repeated number n t)

pub group_numbered : (number : Template → ℕ) (g : VariableGroup) → replicate g.count (number (template_view g.template)) ≡ map number (group_view g)
group_numbered number g = repeated number g.count (template_view g.template)

pub more_groups : (number : Template → ℕ) (gs : List VariableGroup) (i : ℕ) (d : VariableGroup) (before now whole : List ℕ) → i < length gs
    → now ≡ before ++ map number (group_view (get_or gs i d))
    → before ++ map number (groups_view (drop i gs)) ≡ whole → now ++ map number (groups_view (drop (i + 1) gs)) ≡ whole
more_groups number gs i d before now whole lt put all =
    let g = get_or gs i d in
    let rest = groups_view (drop (i + 1) gs) in
    let step : before ++ map number (groups_view (drop i gs)) ≡ before ++ map number (group_view g ++ rest) =
    at_drop_more (λ ys. before ++ map number (groups_view ys)) gs i d lt in
    ap (λ ns. ns ++ map number rest) put ∙ append_assoc before (map number (group_view g)) (map number rest)
    ∙ ap (λ ns. before ++ ns) (sym (map-append number (group_view g) rest)) ∙ sym step ∙ all
