-- What the order of the text amounts to, whatever way it is come to.
use Rattle.std.specs.Prelude.{ℕ, List, get_or, length}
use Rattle.std.specs.Ordering.{nat_cmp}
use Rattle.pli_sort.specs.laws.SortingLaws.{Sorts}
use Rattle.pli_type_rules.specs.TextOrder.{numbers_from, text_order}

-- the token of a number
abbrev pub token_of : (tokens : List ℕ) → (number : ℕ) → ℕ
token_of tokens number = get_or tokens number 0

-- the order of the text is a stable sort, by their tokens, of the numbers of all tokens
abbrev pub TokensAreSorted : Type 0
TokensAreSorted =
    (tokens : List ℕ) → Sorts (token_of tokens) nat_cmp (numbers_from 0 (length tokens)) (text_order tokens)
