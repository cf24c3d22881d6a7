-- What the laws of the grammar say.
use Rattle.std.specs.Prelude.{◌≡◌, ℕ, ◌+◌, ◌++◌, length}
use Rattle.pli_base.specs.Reading.{Front}
use Rattle.pli_parse_expression.specs.declared.counted.Counted.{Counted}
use Rattle.pli_base.specs.Words.{Tokens}

-- the front of the tokens spells what was read, and the rest is left
abbrev pub FrontSpells : {A : Type 0} → (Spells : ℕ → Tokens → A → Type 0) → ℕ → Tokens
    → Front (Counted A) → Type 0
FrontSpells Spells p ts x =
    (front : Tokens) × (ts ≡ front ++ x.rest) × (x.next ≡ p + length front) × Spells p front x.value.tree
