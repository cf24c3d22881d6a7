-- What a function answers that may want memory, against what is meant.
use Rattle.std.specs.Prelude.{◌≡◌, Result, Ok, Err}
use Rattle.pli_base.specs.declared.failure.Failure.{Failure}
use Rattle.pli_base.specs.declared.failure.Failure.TheVariants as failures

-- what is meant is this fault, or memory ran out
abbrev pub Fails : {F Y : Type 0} → Failure F → Result Y F → Type 0
Fails failures.OutOfMemory meant = Unit {0}
Fails (failures.Fault f) meant = meant ≡ Err f

-- what a function returned, seen by view, is what is meant, unless memory ran out
abbrev pub Gives : {F X Y : Type 0} → (X → Y) → Result X (Failure F) → Result Y F → Type 0
Gives view (Ok x) meant = meant ≡ Ok (view x)
Gives view (Err e) meant = Fails e meant
