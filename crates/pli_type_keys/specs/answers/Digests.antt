-- Digests by which tables are searched. Equal entries have one digest, and others mostly different ones; the
-- entries that a search finds are compared whole.
use Rattle.std.specs.Prelude.{ℕ, Bool, List, [], ◌∷◌, unsigned_abs, if◌then◌else◌}
use Rattle.pli_map.specs.Digests.{mixed, digest_of}
use Rattle.pli_value.specs.Value.{Value, Number, Characters, Bits, Located}
use Rattle.pli_value.specs.declared.locator.Locator.{Locator}
use Rattle.pli_value.specs.declared.locator.Locator.TheVariants as locators
use Rattle.pli_type_tree.specs.Templates.{InitialScalar, Template}

-- a digest with characters more
abbrev pub digest_of_characters : (digest : ℕ) → List ℕ → ℕ
digest_of_characters h [] = h
digest_of_characters h (c ∷ cs) = digest_of_characters (mixed h c) cs

-- with bits
abbrev pub digest_of_bits : (digest : ℕ) → List Bool → ℕ
digest_of_bits h [] = h
digest_of_bits h (b ∷ bs) = digest_of_bits (mixed h (if b then 1 else 0)) bs

-- of a locator
abbrev pub digest_of_locator : Locator → ℕ
digest_of_locator locators.Null = 3
digest_of_locator (locators.Pointer generation position) = mixed generation position
digest_of_locator (locators.Offset position) = mixed 4 position

-- of a value
abbrev pub digest_of_value : Value → ℕ
digest_of_value (Number x) = unsigned_abs x
digest_of_value (Characters s) = digest_of_characters 1 s
digest_of_value (Bits s) = digest_of_bits 2 s
digest_of_value (Located l) = digest_of_locator l

-- with initial values
abbrev pub digest_of_initial : (digest : ℕ) → List InitialScalar → ℕ
digest_of_initial h [] = h
digest_of_initial h (i ∷ is) = digest_of_initial (mixed (mixed h i.offset) (digest_of_value i.value)) is

-- of what a variable is made from
abbrev pub digest_of_template : Template → ℕ
digest_of_template t = digest_of_initial (digest_of t.description) t.initial
