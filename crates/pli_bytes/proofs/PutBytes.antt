-- Bytes put among others: there they stand, and no others change.
use Rattle.std.proofs.Common.{◌≡◌, ℕ, ◌+◌, ◌-◌, ◌≤◌, List, ◌++◌, length, take, drop, refl, ap, sym, ◌∙◌, arith, length-append, length-drop}
use Rattle.std.proofs.lemmas.List.{length-take-le, take-take, take_at, drop_at, drop-drop, drop-take}
use Rattle.pli_bytes.specs.Contents.{bytes_from, with_bytes_at}

module _ (first : ℕ) (new bytes : List ℕ) where
  pub before_put : first ≤ length bytes → take first (with_bytes_at first new bytes) ≡ take first bytes
  before_put inside = take_at (take first bytes) (new ++ drop (first + length new) bytes) first (length-take-le first bytes inside)

  pub from_put : first ≤ length bytes → drop first (with_bytes_at first new bytes) ≡ new ++ drop (first + length new) bytes
  from_put inside = drop_at (take first bytes) (new ++ drop (first + length new) bytes) first (length-take-le first bytes inside)

  pub between_put : first ≤ length bytes → bytes_from first (length new) (with_bytes_at first new bytes) ≡ new
  between_put inside = ap (take (length new)) (from_put inside) ∙ take_at new (drop (first + length new) bytes) (length new) refl

  pub after_put : first ≤ length bytes → drop (first + length new) (with_bytes_at first new bytes) ≡ drop (first + length new) bytes
  after_put inside =
      sym (drop-drop (length new) first (with_bytes_at first new bytes)) ∙ ap (drop (length new)) (from_put inside)
      ∙ drop_at new (drop (first + length new) bytes) (length new) refl

  pub length_put : first + length new ≤ length bytes → length (with_bytes_at first new bytes) ≡ length bytes
  length_put inside =
      let rest = drop (first + length new) bytes in
      let front : length (take first bytes) ≡ first = length-take-le first bytes (omega (arith, inside)) in
      omega (arith, inside, front, length-append (take first bytes) (new ++ rest), length-append new rest, length-drop (first + length new) bytes)

-- fewer of the first bytes, and of the last
pub less_front : (less low : ℕ) (xs ys : List ℕ) → less ≤ low → take low xs ≡ take low ys → take less xs ≡ take less ys
less_front less low xs ys fewer same = sym (take-take less low xs fewer) ∙ ap (take less) same ∙ take-take less low ys fewer

pub less_back : (high more : ℕ) (xs ys : List ℕ) → high ≤ more → drop high xs ≡ drop high ys → drop more xs ≡ drop more ys
less_back high more xs ys fewer same =
    let at : high + (more - high) ≡ more = omega arith in
    let rest : drop (high + (more - high)) xs ≡ drop (high + (more - high)) ys =
    sym (drop-drop (more - high) high xs) ∙ ap (drop (more - high)) same ∙ drop-drop (more - high) high ys in
    ap (λ n. drop n xs) (sym at) ∙ rest ∙ ap (λ n. drop n ys) at

-- bytes that end no later than those that are the same
pub same_front : (first count high : ℕ) (xs ys : List ℕ) → first + count ≤ high → take high xs ≡ take high ys → bytes_from first count xs ≡ bytes_from first count ys
same_front first count high xs ys inside same =
    sym (drop-take first count xs) ∙ ap (drop first) (less_front (first + count) high xs ys inside same) ∙ drop-take first count ys

-- bytes that begin no earlier
pub same_back : (first count low : ℕ) (xs ys : List ℕ) → low ≤ first → drop low xs ≡ drop low ys → bytes_from first count xs ≡ bytes_from first count ys
same_back first count low xs ys inside same = ap (take count) (less_back low first xs ys inside same)
