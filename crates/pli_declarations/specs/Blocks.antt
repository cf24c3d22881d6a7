-- The blocks of a unit and their numbers (X3.74, numbers own). Procedures, BEGIN blocks and ON-units are
-- blocks; they are numbered from 0 in the order in which they begin in the text, so the unit itself is block
-- 0. A DO group is none.
use Rattle.std.specs.Prelude.{ℕ, ◌+◌, is_some, option_map, List, [], ◌∷◌, ◌++◌, get_or, if◌then◌else◌}
use Rattle.std.specs.List.{filter_map, enumerate_from}
use Rattle.std.specs.Option.{unwrap_or}
use Rattle.pli_declare_outline.specs.Outlines.{Region}
use Rattle.pli_declare.specs.BlockNumbers.{block_kind}
use Rattle.pli_declare.specs.declared.block_numbers.BlockRegion.{BlockRegion}

-- the blocks of a unit, each under its number
abbrev pub block_regions : List Region → List BlockRegion
block_regions regions =
    filter_map
    (λ p. option_map (λ kind. record { region = p.0; kind = kind; outer = p.1.outer }) (block_kind p.1.kind))
    (enumerate_from 0 regions)

-- for each region the number of the block that it is or stands in, after those of the regions before: a block
-- has the next number, a group stands in the block round it
abbrev pub numbers_after : List ℕ → (next : ℕ) → List Region → List ℕ
numbers_after numbers next [] = numbers
numbers_after numbers next (r ∷ more) =
    if is_some (block_kind r.kind) then numbers_after (numbers ++ next ∷ []) (next + 1) more
    else numbers_after (numbers ++ unwrap_or (option_map (λ outer. get_or numbers outer 0) r.outer) 0 ∷ []) next
    more

-- for each region the number of the block that it is or stands in
abbrev pub block_numbers : List Region → List ℕ
block_numbers regions = numbers_after [] 0 regions
