-- Locators: null, and equality as a test (X3.53).
use Rattle.std.specs.Prelude.{◌≡◌, ◌↔◌, nat_eq, Bool, true, false, ◌&&◌, IsTrue}
use Rattle.pli_value.specs.declared.locator.Locator.{Locator}
use Rattle.pli_value.specs.declared.locator.Locator.TheVariants.{Null, Pointer, Offset}

-- no locator of storage
abbrev pub is_null : Locator → Bool
is_null Null = true
is_null (Pointer generation position) = false
is_null (Offset position) = nat_eq position 0

-- two pointers, both null or of the same generation and position; or two offsets of the same position
abbrev pub same_locator : Locator → Locator → Bool
same_locator Null Null = true
same_locator (Pointer g k) (Pointer h l) = nat_eq g h && nat_eq k l
same_locator (Offset k) (Offset l) = nat_eq k l
same_locator a b = false

-- the test holds exactly of equal locators
abbrev pub SameLocatorIsEqual : Type 0
SameLocatorIsEqual = (a b : Locator) → IsTrue (same_locator a b) ↔ (a ≡ b)
