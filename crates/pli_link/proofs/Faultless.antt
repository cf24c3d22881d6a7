-- What is known of units of which no fault is told.
use Rattle.std.proofs.Common.{◌≡◌, ℕ, suc, ◌≤◌, Bool, true, false, ◌||◌, nat_lt, List, [], ◌∷◌, ◌++◌, length, map, refl, ap, arith}
use Rattle.std.specs.Cmp.Lexicographic.{slice_cmp}
use Rattle.std.specs.List.{sum_by}
use Rattle.std.specs.Ordering.{nat_cmp}
use Rattle.std.proofs.lemmas.Bool.Decides.{nat_tests}
use Rattle.std.proofs.lemmas.Cmp.{nat_list_cmp_total}
use Rattle.std.proofs.lemmas.List.Sorted.{length_permutation}
use Rattle.pli_sort.proofs.SortedLemmas.{items_are_sorted}
use Rattle.pli_type_tree.specs.Templates.{Template}
use Rattle.pli_link.specs.Link.{in_order, name_alone, defined_again, mains, later, none_among, too_large_if, link_faults}
use Rattle.pli_link.specs.Mismatches.{faulty_linked}
use Rattle.pli_link.specs.ModuleSize.{are_too_large, is_too_large, variables_made}
use Rattle.pli_link.specs.Names.{externals}
use Rattle.pli_link.specs.Units.{Compiled, procedure_of}
use Rattle.pli_link.specs.declared.global_fault.GlobalFault.TheVariants as globals
use Rattle.pli_link.specs.declared.linking.LinkFault.{LinkFault}
use Rattle.pli_link.specs.declared.linking.LinkFault.TheVariants.{TwoMainProcedures, Unresolved, DefinedTwice, Mismatch}
use Rattle.pli_link.specs.declared.units.LinkedName.{LinkedName}

-- the parts of an empty list are empty
pub front_empty : {A : Type 0} (xs ys : List A) → xs ++ ys ≡ [] → xs ≡ []
front_empty [] ys e = refl
front_empty (x ∷ xs) ys e = cc

pub back_empty : {A : Type 0} (xs ys : List A) → xs ++ ys ≡ [] → ys ≡ []
back_empty [] ys e = e
back_empty (x ∷ xs) ys e = cc

pub map_empty : {A B : Type 0} (f : A → B) (xs : List A) → map f xs ≡ [] → xs ≡ []
map_empty f [] e = refl
map_empty f (x ∷ xs) e = let bad : ⊥ = cc in absurd bad

-- names in order are as many as they were
order_empty : (ps : List LinkedName) → in_order ps ≡ [] → ps ≡ []
order_empty [] e = refl
order_empty (p ∷ ps) e =
    let sorts = items_are_sorted name_alone (slice_cmp nat_cmp) nat_list_cmp_total (p ∷ ps) in
    let many : length (in_order (p ∷ ps)) ≡ suc (length ps) = length_permutation _ _ sorts.same_items in
    absurd (omega (arith, many, ap length e))

none_told : (fault : LinkedName → LinkFault) (ps : List LinkedName) → map fault (in_order ps) ≡ [] → ps ≡ []
none_told fault ps e = order_empty ps (map_empty fault (in_order ps) e)

pub record IsFaultless (cs : List Compiled) : Type 0 where
  pub main : none_among (mains cs) ≡ []
  pub one : later (mains cs) ≡ []
  pub resolved : faulty_linked cs globals.Unresolved cs ≡ []
  pub once : defined_again [] cs ≡ []
  pub alike : faulty_linked cs globals.Mismatch cs ≡ []
  pub small : is_too_large cs ≡ false

not_large : (large : Bool) → too_large_if large ≡ [] → large ≡ false
not_large true e = let bad : ⊥ = cc in absurd bad
not_large false e = refl

pub faultless : (cs : List Compiled) → link_faults cs ≡ [] → IsFaultless cs
faultless cs none =
    let mains_told = none_among (mains cs) ++ map TwoMainProcedures (in_order (map procedure_of (later (mains cs)))) in
    let unresolved = map Unresolved (in_order (faulty_linked cs globals.Unresolved cs)) in
    let repeated = map DefinedTwice (in_order (defined_again [] cs)) in
    let unlike = map Mismatch (in_order (faulty_linked cs globals.Mismatch cs)) in
    let first_five = front_empty (mains_told ++ unresolved ++ repeated ++ unlike) _ none in
    let first_four = front_empty (mains_told ++ unresolved ++ repeated) unlike first_five in
    let first_three = front_empty (mains_told ++ unresolved) repeated first_four in
    let first_two = front_empty mains_told unresolved first_three in
    record {
      main = front_empty (none_among (mains cs)) _ first_two;
      one = map_empty procedure_of (later (mains cs)) (none_told TwoMainProcedures _ (back_empty (none_among (mains cs)) _ first_two));
      resolved = none_told Unresolved _ (back_empty mains_told unresolved first_three);
      once = none_told DefinedTwice _ (back_empty (mains_told ++ unresolved) repeated first_four);
      alike = none_told Mismatch _ (back_empty (mains_told ++ unresolved ++ repeated) unlike first_five);
      small = not_large (is_too_large cs) (back_empty (mains_told ++ unresolved ++ repeated ++ unlike) _ none);
    }

-- how many units there are, and how large the variables
pub record IsSmall (cs : List Compiled) : Type 0 where
  pub variables : are_too_large (map (λ t. t.description) (variables_made cs)) ≡ false
  pub externals : length (externals cs) ≤ 65535
  pub units : length cs ≤ 65535

parts_false : (a b c d : Bool) → a || b || c || d ≡ false → (a ≡ false) × (b ≡ false) × (d ≡ false)
parts_false true b c d e = let bad : ⊥ = cc in absurd bad
parts_false false true c d e = let bad : ⊥ = cc in absurd bad
parts_false false false true d e = let bad : ⊥ = cc in absurd bad
parts_false false false false d e = (refl, refl, e)

few : (n : ℕ) → nat_lt 65535 n ≡ false → n ≤ 65535
few n e = grind (arith, nat_tests)

pub small : (cs : List Compiled) → is_too_large cs ≡ false → IsSmall cs
small cs e =
    let parts = parts_false (are_too_large (map (λ (t : Template). t.description) (variables_made cs))) (nat_lt 65535 (length (externals cs)))
    (nat_lt 1000000 (sum_by (λ (c : Compiled). length c.deck.code.instructions) cs)) (nat_lt 65535 (length cs)) e in
    record { variables = parts.0; externals = few (length (externals cs)) parts.1; units = few (length cs) parts.2 }
