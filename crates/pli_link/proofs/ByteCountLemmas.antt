-- Bytes that are counted one after the other.
use Rattle.std.proofs.Common.{◌≡◌, ℕ, ◌+◌, ◌≤◌, nat_lt, Bool, true, false, ◌||◌, Option, Some, None, is_none, List, [], ◌∷◌, ◌++◌, map, sum_by, refl, sym, ap, ◌∙◌, arith, if◌then◌else◌}
use Rattle.std.proofs.lemmas.Bool.Decides.{nat_tests}
use Rattle.std.proofs.lemmas.List.Sums.{sum_by-cons}
use Rattle.std.specs.List.{flat_map, list_any}
use Rattle.std.specs.Map.{values_of}
use Rattle.pli_base.specs.Name.{Name}
use Rattle.pli_map.specs.Description.{Description}
use Rattle.pli_map.specs.Sizes.{size_of}
use Rattle.pli_map.specs.Variables.{byte_limit}
use Rattle.pli_type_tree.specs.Templates.{Template}
use Rattle.pli_link.specs.ModuleSize.{is_oversized, are_too_large, shared_in}
use Rattle.pli_link.specs.views.NameView.{declaration_view, externals_view}
use Rattle.pli_link.specs.declared.names.KnownExternal.{KnownExternal}
use Rattle.pli_link.specs.answers.Counting.{counted, counted_one, if_counted}

-- those of external variables that are STATIC
abbrev pub shown : List KnownExternal → List Template
shown es = flat_map (λ e. shared_in (declaration_view e)) es

pub shown_values : (es : List (Name × KnownExternal)) → shown (values_of es) ≡ flat_map shared_in (values_of (externals_view es))
shown_values [] = refl
shown_values (e ∷ es) = ap (λ ts. shared_in (declaration_view e.1) ++ ts) (shown_values es)

-- some after others
pub counted_after : (bytes : ℕ) (xs ys : List Template) → counted bytes (xs ++ ys) ≡ if_counted (counted bytes xs) (λ more. counted more ys)
counted_after bytes [] ys = refl
counted_after bytes (x ∷ xs) ys = by (counted_one bytes x.description) (λ more. counted_after more xs ys)
  where
    by : (o : Option ℕ) → ((more : ℕ) → counted more (xs ++ ys) ≡ if_counted (counted more xs) (λ k. counted k ys))
        → if_counted o (λ more. counted more (xs ++ ys)) ≡ if_counted (if_counted o (λ more. counted more xs)) (λ k. counted k ys)
    by None h = refl
    by (Some more) h = h more

abbrev described : List Template → List Description
described ts = map (λ t. t.description) ts

-- with so many bytes before them
abbrev are_over : ℕ → List Description → Bool
are_over bytes ds = list_any is_oversized ds || nat_lt byte_limit (bytes + sum_by size_of ds)

or_true : (b c : Bool) → c ≡ true → true ≡ (b || c)
or_true true c e = refl
or_true false c e = sym e

not_counted : (bytes : ℕ) (ts : List Template) → bytes ≤ byte_limit → is_none (counted bytes ts) ≡ are_over bytes (described ts)
not_counted bytes [] few = by (nat_lt byte_limit (bytes + 0)) refl
  where
    by : (b : Bool) → nat_lt byte_limit (bytes + 0) ≡ b → false ≡ b
    by true e = grind (arith, nat_tests)
    by false e = refl
not_counted bytes (t ∷ ts) few =
    by (is_oversized t.description) (nat_lt byte_limit (bytes + size_of t.description)) refl (not_counted (bytes + size_of t.description) ts)
    ∙ ap (λ n. (is_oversized t.description || list_any is_oversized (described ts)) || nat_lt byte_limit (bytes + n)) (sym (sum_by-cons size_of t.description (described ts)))
  where
    by : (large over : Bool) → nat_lt byte_limit (bytes + size_of t.description) ≡ over
        → (bytes + size_of t.description ≤ byte_limit → is_none (counted (bytes + size_of t.description) ts) ≡ are_over (bytes + size_of t.description) (described ts))
        → is_none (if_counted (if large || over then None else Some (bytes + size_of t.description)) (λ more. counted more ts))
        ≡ ((large || list_any is_oversized (described ts)) || nat_lt byte_limit (bytes + (size_of t.description + sum_by size_of (described ts))))
    by true over e more = refl
    by false true e more = or_true (list_any is_oversized (described ts)) _ (grind (arith, nat_tests))
    by false false e more =
        more (grind (arith, nat_tests))
        ∙ ap (λ n. list_any is_oversized (described ts) || nat_lt byte_limit n) (omega arith)

-- the variables are too large where they are not all counted
pub too_large : (ts : List Template) → is_none (counted 0 ts) ≡ are_too_large (described ts)
too_large ts =
    not_counted 0 ts (omega arith)
    ∙ ap (λ n. list_any is_oversized (described ts) || nat_lt byte_limit n) (omega arith)
