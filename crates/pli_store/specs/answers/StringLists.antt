-- Descriptions of strings, one for each length.
use Rattle.std.specs.Prelude.{◌≡◌, ℕ, suc, true, Some, List, slice_get}
use Rattle.pli_map.specs.ParameterTypes.{string_of}
use Rattle.pli_map.specs.Same.{same}
use Rattle.pli_map.specs.declared.description.Description.{Description}
use Rattle.pli_map.specs.declared.parameter.StringForm.{StringForm}
use Rattle.pli_map.specs.views.DescriptionView.{description_view}

-- descriptions of strings of a form: the first one is of length 1, and each next one is one longer
abbrev pub AreStrings : StringForm → List Description → Type 0
AreStrings form ds =
    (n : ℕ) (d : Description) → slice_get ds n ≡ Some d
    → same (description_view d) (string_of form (suc n)) ≡ true
