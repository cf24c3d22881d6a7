-- Members of a structure of which the first are passed.
use Rattle.std.proofs.Common.{◌≡◌, ℕ, zero, suc, ◌+◌, ◌<◌, ◌≤◌, Option, Some, None, List, [], ◌∷◌, length, get_or, take, ap, sym, ◌∙◌, arith}
use Rattle.std.specs.Option.{SomeIff, unwrap_or}
use Rattle.std.specs.Int.{next_multiple_of}
use Rattle.pli_map.specs.Sizes.{alignment_of, size_of, end_after}
use Rattle.pli_map.specs.declared.description.Description.{Description}
use Rattle.pli_map.specs.views.DescriptionView.{description_view, members_view}
use Rattle.pli_map.proofs.Members.{end_of_first}

end_after_next : (at : ℕ) (xs : List Description) (i : ℕ) (x : Description) → i < length xs → x ≡ get_or xs i x
    → end_after at (members_view (take (suc i) xs))
    ≡ next_multiple_of (end_after at (members_view (take i xs))) (alignment_of (description_view x)) + size_of (description_view x)
end_after_next at [] i x h e = absurd (omega arith)
end_after_next at (y ∷ xs) zero x h e =
    ap (λ z. next_multiple_of at (alignment_of (description_view z)) + size_of (description_view z)) (sym e)
end_after_next at (y ∷ xs) (suc i) x h e =
    end_after_next (next_multiple_of at (alignment_of (description_view y)) + size_of (description_view y)) xs i x (omega (arith, h)) e

-- where the next member ends
pub record PassedMore (xs : List Description) (i : ℕ) (x : Description) : Type 0 where
  pub ends : end_after 0 (members_view (take (i + 1) xs))
      ≡ next_multiple_of (end_after 0 (members_view (take i xs))) (alignment_of (description_view x)) + size_of (description_view x)
  pub within : end_after 0 (members_view (take (i + 1) xs)) ≤ end_after 0 (members_view xs)

pub passed_more : (xs : List Description) (i : ℕ) (x : Description) → i < length xs → x ≡ get_or xs i x → PassedMore xs i x
passed_more xs i x h e =
    let next : i + 1 ≡ suc i = omega arith in
    record {
      ends = ap (λ n. end_after 0 (members_view (take n xs))) next ∙ end_after_next 0 xs i x h e;
      within = end_of_first 0 xs (i + 1);
    }

-- a size within the limit is known
pub counted : (o : Option ℕ) (n : ℕ) → n ≤ 1000000 → SomeIff o (n ≤ 1000000) n → unwrap_or o 0 ≡ n
counted None n h is = absurd (is h)
counted (Some m) n h is = is.1
