-- What holds of the descriptions of items.
use Rattle.std.specs.Prelude.{◌≡◌, ℕ, ◌<◌, true, false, List, length, get_or, None, option_map}
use Rattle.pli_base.specs.Name.{Name}
use Rattle.pli_declare_outline.specs.Outlines.{Outline}
use Rattle.pli_declare.specs.Extents.{all_bounds}
use Rattle.pli_declare.specs.Faults.{with_bounds}
use Rattle.pli_declare.specs.Tables.{entries_in}
use Rattle.pli_declare.specs.Descriptions.{is_of_shape, scalar_at, inside, own_codes}
use Rattle.pli_declare.specs.Descriptions.{description_of}
use Rattle.pli_declare.specs.Places.{item_of, members_of}

-- the description of an item that has none of A3 to A7 is that of its members, or of its own type where it
-- has none, with its bounds
abbrev pub DescribedByMembers : Type 0
DescribedByMembers = (o : Outline) (block : ℕ) (parameters : List Name) (n : ℕ)
    → n < length (entries_in o block)
    → is_of_shape (get_or (own_codes (entries_in o block) parameters) n None) ≡ false
    → description_of (entries_in o block) parameters n
    ≡ option_map (with_bounds (all_bounds (item_of (entries_in o block) n).dimensions))
    (inside (description_of (entries_in o block) parameters) (scalar_at (entries_in o block) n)
    (members_of (entries_in o block) n))

-- any other has none
abbrev pub NotDescribed : Type 0
NotDescribed = (o : Outline) (block : ℕ) (parameters : List Name) (n : ℕ)
    → n < length (entries_in o block)
    → is_of_shape (get_or (own_codes (entries_in o block) parameters) n None) ≡ true
    → description_of (entries_in o block) parameters n ≡ None
