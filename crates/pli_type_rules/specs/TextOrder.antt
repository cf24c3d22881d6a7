-- The order of the text (own): items in the order of the tokens at which they stand.
use Rattle.std.specs.Prelude.{ℕ, zero, suc, nat_eq, List, [], ◌∷◌, get_or, length, map, if◌then◌else◌}
use Rattle.std.specs.Ordering.{nat_cmp}
use Rattle.pli_sort.specs.Sorting as sorting

-- in the order of tokens; those at one token as they stood
abbrev pub in_order : {A : Type 0} → (token : A → ℕ) → List A → List A
in_order token = sorting.in_order token nat_cmp

-- so many numbers, the first of which is this one
abbrev pub numbers_from : (from count : ℕ) → List ℕ
numbers_from from zero = []
numbers_from from (suc count) = from ∷ numbers_from (suc from) count

-- the numbers of tokens, each counted from 0, in the order of the tokens
abbrev pub text_order : (tokens : List ℕ) → List ℕ
text_order tokens = in_order (λ number. get_or tokens number 0) (numbers_from 0 (length tokens))

-- where a number stands among these, the first of which has this place
abbrev pub place_from : (from number : ℕ) → List ℕ → ℕ
place_from from number [] = 0
place_from from number (n ∷ ns) = if nat_eq n number then from else place_from (suc from) number ns

-- for each token its place in the order of the text
abbrev pub text_places : (tokens : List ℕ) → List ℕ
text_places tokens =
    map (λ number. place_from 0 number (text_order tokens)) (numbers_from 0 (length tokens))
