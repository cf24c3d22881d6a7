-- What something was, and what it became (own).
use Rattle.std.specs.Prelude.{ℕ, List}

-- a line is answered: the state before it, the answer, and the state after it
pub record Exchange (S : Type 0) : Type 0 where
  pub before : S
  pub answer : List ℕ
  pub after : S

-- these parts
abbrev pub exchange : {S : Type 0} → (before : S) → (answer : List ℕ) → (after : S) → Exchange S
exchange before answer after = record { before = before; answer = answer; after = after }

-- what something is before a call and after it
pub record Span (X : Type 0) : Type 0 where
  pub before : X
  pub after : X

-- these two
abbrev pub span : {X : Type 0} → (before after : X) → Span X
span before after = record { before = before; after = after }
