-- Items in the order of a key, which is a number or a text or whatever has an order (own).
use Rattle.std.specs.Prelude.{List, [], ◌∷◌, if◌then◌else◌}
use Rattle.std.specs.Ordering.{is_gt}
use Rattle.std.specs.declared.cmp.Ordering.{Ordering}

module _ {X K : Type 0} (key : X → K) (cmp : K → K → Ordering) where
  -- an item put before the first whose key is greater
  abbrev pub inserted : X → List X → List X
  inserted x [] = x ∷ []
  inserted x (y ∷ ys) = if is_gt (cmp (key y) (key x)) then x ∷ y ∷ ys else y ∷ inserted x ys

  -- in the order of keys; those of one key as they stood
  abbrev pub in_order_after : (sorted : List X) → List X → List X
  in_order_after sorted [] = sorted
  in_order_after sorted (x ∷ xs) = in_order_after (inserted x sorted) xs

  -- items in the order of their keys, those of equal keys in the order in which they were
  abbrev pub in_order : List X → List X
  in_order = in_order_after []
