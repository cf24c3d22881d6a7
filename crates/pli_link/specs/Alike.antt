-- When signatures of two units are alike (own): the numbers of their types are looked up in the tables of each;
-- and when variables are of one kind.
use Rattle.std.specs.Prelude.{ℕ, Bool, true, false, ◌&&◌, Option, option_map, List, map, slice_get}
use Rattle.std.specs.Cmp.Lexicographic.{pointwise}
use Rattle.std.specs.Option.{option_eq}
use Rattle.pli_map.specs.ParameterTypes.{ParameterType, same_type}
use Rattle.pli_program.specs.declared.kind.VariableKind.{VariableKind}
use Rattle.pli_program.specs.declared.kind.VariableKind.TheVariants.{Static, Controlled}
use Rattle.pli_code.specs.Decks.{Code, CodedSignature}

-- what a procedure takes and gives, with the types as the tables have them
pub record FoundSignature : Type 0 where
  pub parameters : List (Option ParameterType)
  pub result : Option (Option ParameterType)

-- the description of a number, or the type with a `*`
abbrev pub description_at : Code → (number : ℕ) → Option ParameterType
description_at code number = slice_get code.descriptions number

-- what a procedure takes and gives, looked up in the tables of its unit
abbrev pub signature_at : Code → CodedSignature → FoundSignature
signature_at code s = record {
  parameters = map (description_at code) s.parameters;
  result = option_map (description_at code) s.result;
}

-- the same type, or none in either table; a `*` is the same as a `*` only
abbrev pub same_found : Option ParameterType → Option ParameterType → Bool
same_found = option_eq same_type

-- signatures: the same parameters, and the same result or none
abbrev pub same_signature : FoundSignature → FoundSignature → Bool
same_signature s t = pointwise same_found s.parameters t.parameters && option_eq same_found s.result t.result

-- both STATIC, or both CONTROLLED
abbrev pub same_kind : VariableKind → VariableKind → Bool
same_kind Static Static = true
same_kind Static Controlled = false
same_kind Controlled Static = false
same_kind Controlled Controlled = true
