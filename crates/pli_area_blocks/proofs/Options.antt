-- Options that are there or are not, and results.
use Rattle.std.proofs.Common.{◌≡◌, true, false, true≢false, Option, Some, None, Result, Ok, Err, OnOk, OnErr, option_map, refl, sym}
use Rattle.std.specs.Result.{is_err}
use Rattle.std.proofs.lemmas.Option.{same_Some, none-some}

module _ {T E : Type 0} {P : Type 0} where
  pub from_err : (r : Result T E) → is_err r ≡ true → OnErr r P → P
  from_err (Ok x) e p = absurd (true≢false (sym e))
  from_err (Err x) e p = p

  pub from_ok : (r : Result T E) → is_err r ≡ false → OnOk r P → P
  from_ok (Ok x) e p = p
  from_ok (Err x) e p = absurd (true≢false e)

  pub said_of_err : (r : Result T E) → P → OnErr r P
  said_of_err (Ok x) p = tt
  said_of_err (Err x) p = p

module _ {X Y : Type 0} (f : X → Y) where
  pub unmapped_nothing : (o : Option X) → None ≡ option_map f o → o ≡ None
  unmapped_nothing None e = refl
  unmapped_nothing (Some x) e = absurd (none-some (f x) e)

  pub unmapped_one : (o : Option X) (y : Y) → Some y ≡ option_map f o → (x : X) × (o ≡ Some x) × (f x ≡ y)
  unmapped_one None y e = absurd (none-some y (sym e))
  unmapped_one (Some x) y e = (x, refl, sym (same_Some y (f x) e))
