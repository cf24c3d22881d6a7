-- The bytes of templates, by the sizes of descriptions.
use Rattle.std.proofs.Common.{◌≡◌, ℕ, zero, suc, min, List, [], ◌∷◌, map, get_or, slice_get, Option, Some, None, option_map, refl, sym, ap}
use Rattle.std.specs.Option.{option_and_then}
use Rattle.pli_map.specs.ParameterTypes.{stated}
use Rattle.pli_map.specs.declared.parameter.ParameterType.{ParameterType}
use Rattle.pli_map.specs.views.ParameterView.{type_view}
use Rattle.pli_code.specs.CodeTables.{CodedTemplate, Code, stated_at}
use Rattle.pli_deck_write.specs.ModuleSpelling.{description_bytes, bytes_by_template, template_bytes}
use Rattle.pli_deck_faults.specs.CutSizes.{cut_sizes}

-- a size that is looked up is that of the description, and 0 where there is none
pub size_found : (ts : List ParameterType) (k : ℕ) → get_or (cut_sizes ts) k 0 ≡ min (description_bytes (option_and_then stated (slice_get (map type_view ts) k))) 4294967296
size_found [] k = refl
size_found (t ∷ ts) zero = refl
size_found (t ∷ ts) (suc k) = size_found ts k

some_by : (c : Code) (o : Option CodedTemplate) (k : ℕ) → Some k ≡ option_map (λ t. t.description) o → bytes_by_template c o ≡ description_bytes (stated_at c k)
some_by c None k e = absurd cc
some_by c (Some t) k e = let same : k ≡ t.description = cc in ap (λ n. description_bytes (stated_at c n)) (sym same)

pub template_found : (c : Code) (n k : ℕ) → Some k ≡ option_map (λ t. t.description) (slice_get c.templates n) → template_bytes c n ≡ description_bytes (stated_at c k)
template_found c n k e = some_by c (slice_get c.templates n) k e
