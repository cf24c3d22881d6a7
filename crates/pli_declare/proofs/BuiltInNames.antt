-- The names of built-in functions are those that name one.
use Rattle.std.proofs.Common.{◌≡◌, Bool, true, false, ◌||◌, List, [], ◌∷◌, map, Some, if◌then◌else◌, refl}
use Rattle.std.specs.List.{list_any}
use Rattle.std.specs.Option.{is_some}
use Rattle.pli_base.specs.Name.{Name}
use Rattle.pli_base.specs.Words.{same_name}
use Rattle.pli_declare.specs.BuiltIns.{built_in_functions, function_among, function_named}
use Rattle.pli_declare.specs.Places.{is_built_in}
use Rattle.pli_declare.specs.declared.built_in.BuiltInFunction.{BuiltInFunction}

one_among : (name : Name) (fs : List (Name × BuiltInFunction)) → is_some (function_among fs name) ≡ list_any (same_name name) (map (λ f. f.0) fs)
one_among name [] = refl
one_among name (f ∷ fs) = by (same_name name f.0) (one_among name fs)
  where
    by : (b : Bool) → is_some (function_among fs name) ≡ list_any (same_name name) (map (λ f. f.0) fs)
        → is_some (if b then Some f.1 else function_among fs name) ≡ (b || list_any (same_name name) (map (λ f. f.0) fs))
    by true e = refl
    by false e = e

pub named_is_built_in : (name : Name) → is_some (function_named name) ≡ is_built_in name
unfolding is_built_in function_named
named_is_built_in name = one_among name built_in_functions
