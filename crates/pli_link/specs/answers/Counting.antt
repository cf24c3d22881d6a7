-- Bytes of variables counted one after the other, up to the limit.
use Rattle.std.specs.Prelude.{ℕ, ◌+◌, nat_lt, ◌||◌, Option, Some, None, List, [], ◌∷◌, if◌then◌else◌}
use Rattle.pli_map.specs.Description.{Description}
use Rattle.pli_map.specs.Sizes.{size_of}
use Rattle.pli_map.specs.Variables.{byte_limit}
use Rattle.pli_type_tree.specs.Templates.{Template}
use Rattle.pli_link.specs.ModuleSize.{is_oversized}

-- one more variable, unless it has too many bytes or there are too many
abbrev pub counted_one : (bytes : ℕ) → Description → Option ℕ
counted_one bytes d =
    if is_oversized d || nat_lt byte_limit (bytes + size_of d) then None else Some (bytes + size_of d)

-- goes on with the bytes so far, unless there are too many
abbrev pub if_counted : Option ℕ → (ℕ → Option ℕ) → Option ℕ
if_counted None more = None
if_counted (Some bytes) more = more bytes

-- and all of these
abbrev pub counted : (bytes : ℕ) → List Template → Option ℕ
counted bytes [] = Some bytes
counted bytes (t ∷ ts) = if_counted (counted_one bytes t.description) (λ more. counted more ts)
