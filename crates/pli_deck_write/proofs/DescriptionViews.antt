-- What descriptions and types of the program say.
use Rattle.std.proofs.Common.{◌≡◌, ℕ, ◌%◌, map, Vec, sym, ap, ◌∙◌, arith}
use Rattle.std.specs.Global.{Global, Box}
use Rattle.std.specs.Int.{next_multiple_of}
use Rattle.pli_map.specs.Description.{Description, FixedBinary, Character, Varying, Bit, Pointer, Offset}
use Rattle.pli_map.specs.Description.{Area, Array, Structure}
use Rattle.pli_map.specs.declared.description.Bounds.{Bounds}
use Rattle.pli_map.specs.declared.description.Description as program
use Rattle.pli_map.specs.declared.description.Description.TheVariants as made
use Rattle.pli_map.specs.declared.description.Description.TheFolds as folds
use Rattle.pli_map.specs.views.DescriptionView.{description_view, level_view, members_of}
use Rattle.pli_map.specs.ParameterTypes as types
use Rattle.pli_map.specs.ParameterTypes.{types_of}
use Rattle.pli_map.specs.declared.parameter.StringForm.{StringForm}
use Rattle.pli_map.specs.declared.parameter.ParameterType as open_program
use Rattle.pli_map.specs.declared.parameter.ParameterType.TheVariants as typed
use Rattle.pli_map.specs.declared.parameter.ParameterType.TheFolds as type_folds
use Rattle.pli_map.specs.views.ParameterView as typing
use Rattle.pli_map.specs.views.ParameterView.{type_view}

pub fixed_said : (p : ℕ) → description_view (made.FixedBinary p) ≡ FixedBinary p
fixed_said p =
    ap description_view (sym (made.rolls-FixedBinary p)) ∙ folds.fold-roll-Description Description level_view (program.Description-F.FixedBinary p)

pub character_said : (n : ℕ) → description_view (made.Character n) ≡ Character n
character_said n =
    ap description_view (sym (made.rolls-Character n)) ∙ folds.fold-roll-Description Description level_view (program.Description-F.Character n)

pub varying_said : (n : ℕ) → description_view (made.Varying n) ≡ Varying n
varying_said n =
    ap description_view (sym (made.rolls-Varying n)) ∙ folds.fold-roll-Description Description level_view (program.Description-F.Varying n)

pub bit_said : (n : ℕ) → description_view (made.Bit n) ≡ Bit n
bit_said n =
    ap description_view (sym (made.rolls-Bit n)) ∙ folds.fold-roll-Description Description level_view (program.Description-F.Bit n)

pub pointer_said : description_view made.Pointer ≡ Pointer
pointer_said = ap description_view (sym made.rolls-Pointer) ∙ folds.fold-roll-Description Description level_view program.Description-F.Pointer

pub offset_said : description_view made.Offset ≡ Offset
offset_said = ap description_view (sym made.rolls-Offset) ∙ folds.fold-roll-Description Description level_view program.Description-F.Offset

-- a multiple of 8 stays what it is
pub area_said : (n : ℕ) → n % 8 ≡ 0 → description_view (made.Area n) ≡ Area n
area_said n even =
    let same : next_multiple_of n 8 ≡ n = omega (arith, even) in
    ap description_view (sym (made.rolls-Area n)) ∙ folds.fold-roll-Description Description level_view (program.Description-F.Area n)
    ∙ ap Area same

pub array_said : (bounds : Vec Bounds Global) (element : Box program.Description)
    → description_view (made.Array bounds element) ≡ Array bounds.items (description_view element.value)
array_said bounds element =
    ap description_view (sym (made.rolls-Array bounds element))
    ∙ folds.fold-roll-Description Description level_view (program.Description-F.Array bounds element)

pub structure_said : (members : Vec program.Description Global)
    → description_view (made.Structure members) ≡ Structure (members_of (map description_view members.items))
structure_said members =
    ap description_view (sym (made.rolls-Structure members))
    ∙ folds.fold-roll-Description Description level_view (program.Description-F.Structure members)

-- ---- types

pub stated_said : (d : program.Description) → type_view (typed.Stated d) ≡ types.Stated (description_view d)
stated_said d =
    ap type_view (sym (typed.rolls-Stated d)) ∙ type_folds.fold-roll-ParameterType types.ParameterType typing.level_view (open_program.ParameterType-F.Stated d)

pub any_string_said : (f : StringForm) → type_view (typed.AnyString f) ≡ types.AnyString f
any_string_said f =
    ap type_view (sym (typed.rolls-AnyString f)) ∙ type_folds.fold-roll-ParameterType types.ParameterType typing.level_view (open_program.ParameterType-F.AnyString f)

pub any_array_said : (k : ℕ) (element : Box open_program.ParameterType) → type_view (typed.AnyArray k element) ≡ types.AnyArray k (type_view element.value)
any_array_said k element =
    ap type_view (sym (typed.rolls-AnyArray k element))
    ∙ type_folds.fold-roll-ParameterType types.ParameterType typing.level_view (open_program.ParameterType-F.AnyArray k element)

pub array_of_said : (bounds : Vec Bounds Global) (element : Box open_program.ParameterType)
    → type_view (typed.ArrayOf bounds element) ≡ types.ArrayOf bounds.items (type_view element.value)
array_of_said bounds element =
    ap type_view (sym (typed.rolls-ArrayOf bounds element))
    ∙ type_folds.fold-roll-ParameterType types.ParameterType typing.level_view (open_program.ParameterType-F.ArrayOf bounds element)

pub structure_of_said : (members : Vec open_program.ParameterType Global)
    → type_view (typed.StructureOf members) ≡ types.StructureOf (types_of (map type_view members.items))
structure_of_said members =
    ap type_view (sym (typed.rolls-StructureOf members))
    ∙ type_folds.fold-roll-ParameterType types.ParameterType typing.level_view (open_program.ParameterType-F.StructureOf members)

-- what scalars say, and types that are one
pub ruleset scalars_said = (stated_said, area_said, fixed_said, character_said, varying_said, bit_said, pointer_said, offset_said)

-- what types say
pub ruleset types_said = (stated_said, any_string_said, any_array_said, array_of_said, structure_of_said)
