-- Steps of reading, taken apart.
use Rattle.std.proofs.Common.{◌≡◌, Option, Some, Result, Ok, Err, refl}
use Rattle.pli_base.specs.Results.{◌>>=◌}
use Rattle.pli_base.specs.declared.token.Fault.{Fault}

pub same_ok : {A : Type 0} {x y : A} → ◌≡◌ {A = Result A Fault} (Ok x) (Ok y) → x ≡ y
same_ok h = cc

pub same_err : {A : Type 0} {x y : Fault} → ◌≡◌ {A = Result A Fault} (Err x) (Err y) → x ≡ y
same_err h = cc

pub some_same : {A : Type 0} {x y : A} → ◌≡◌ {A = Option A} (Some x) (Some y) → x ≡ y
some_same h = cc

-- both steps succeed
pub bind_ok : {A B : Type 0} (r : Result A Fault) (f : A → Result B Fault) (y : B) → (r >>= f) ≡ Ok y → (x : A) × (r ≡ Ok x) × (f x ≡ Ok y)
bind_ok (Ok x) f y h = (x, refl, h)
bind_ok (Err e) f y h = cc
