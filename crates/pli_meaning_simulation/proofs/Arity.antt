-- An operation on another number of operands than it has misfits.
use Rattle.std.specs.Prelude.{◌≡◌, ℕ, List, [], ◌∷◌, length, refl}
use Rattle.pli_operation.specs.declared.operation.Operation.{Operation}
use Rattle.pli_operation.specs.declared.operation.Operation.TheVariants.{Negate, Absolute, Sign, Not, LengthOf, FromBits, ToCharacters, Substring, Within}
use Rattle.pli_operation.specs.Operations.{arity, Misfits, calculated}
use Rattle.pli_value.specs.Value.{Value}

-- there are as many operands as it has, or it misfits
pub data Arity (greatest : ℕ) (operation : Operation) (vs : List Value) : Type 0 where
  Full : length vs ≡ arity operation → Arity greatest operation vs
  Misfit : calculated greatest operation vs ≡ Misfits → Arity greatest operation vs

one : (greatest : ℕ) (operation : Operation) (v : Value) → Arity greatest operation (v ∷ [])
unfolding calculated
one g Negate v = Full refl
one g Absolute v = Full refl
one g Sign v = Full refl
one g Not v = Full refl
one g LengthOf v = Full refl
one g FromBits v = Full refl
one g (ToCharacters n) v = Full refl
one g operation v = Misfit refl

two : (greatest : ℕ) (operation : Operation) (v w : Value) → Arity greatest operation (v ∷ w ∷ [])
unfolding calculated
two g Negate v w = Misfit refl
two g Absolute v w = Misfit refl
two g Sign v w = Misfit refl
two g Not v w = Misfit refl
two g LengthOf v w = Misfit refl
two g FromBits v w = Misfit refl
two g (ToCharacters n) v w = Misfit refl
two g Substring v w = Misfit refl
two g Within v w = Misfit refl
two g operation v w = Full refl

three : (greatest : ℕ) (operation : Operation) (v w x : Value) → Arity greatest operation (v ∷ w ∷ x ∷ [])
unfolding calculated
three g Substring v w x = Full refl
three g Within v w x = Full refl
three g operation v w x = Misfit refl

pub full_or_misfit : (greatest : ℕ) (operation : Operation) (vs : List Value) → Arity greatest operation vs
unfolding calculated
full_or_misfit g operation [] = Misfit refl
full_or_misfit g operation (v ∷ []) = one g operation v
full_or_misfit g operation (v ∷ w ∷ []) = two g operation v w
full_or_misfit g operation (v ∷ w ∷ x ∷ []) = three g operation v w x
full_or_misfit g operation (v ∷ w ∷ x ∷ y ∷ vs) = Misfit refl
