-- Which arguments may be passed by reference (X3.74).
use Rattle.std.specs.Prelude.{◌==◌, Bool, false, ◌&&◌, length}
use Rattle.pli_map.specs.Description.{Array}
use Rattle.pli_map.specs.ParameterTypes.{ParameterType, Stated, AnyString, AnyArray, ArrayOf, same_form}
use Rattle.pli_map.specs.ParameterTypes.{is_string_of}
use Rattle.pli_map.specs.Same.{same, same_bounds}

-- what is of the second type may be passed by reference for a parameter of the first: a `*` of the parameter
-- agrees with any extent, a `*` too; a `*` of the argument with a `*` only. No parameter is an open structure
abbrev pub agrees : (parameter argument : ParameterType) → Bool
agrees (Stated d) (Stated e) = same d e
agrees (AnyString f) (Stated d) = is_string_of f d
agrees (AnyString f) (AnyString g) = same_form f g
agrees (AnyArray k t) (Stated (Array bs d)) = length bs == k && agrees t (Stated d)
agrees (AnyArray k t) (AnyArray j u) = j == k && agrees t u
agrees (AnyArray k t) (ArrayOf bs u) = length bs == k && agrees t u
agrees (ArrayOf bs t) (Stated (Array cs d)) = same_bounds bs cs && agrees t (Stated d)
agrees (ArrayOf bs t) (ArrayOf cs u) = same_bounds bs cs && agrees t u
agrees parameter argument = false
