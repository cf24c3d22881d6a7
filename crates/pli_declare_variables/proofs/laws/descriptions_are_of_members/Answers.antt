use Rattle.std.proofs.Common.{◌≡◌, ℕ, zero, suc, true, List, length, get_or, Option, None, option_map, if◌then◌else◌, refl, sym, ap}
use Rattle.pli_base.specs.declared.code.Code.{Code}
use Rattle.pli_declare.specs.Extents.{all_bounds}
use Rattle.pli_declare.specs.Faults.{with_bounds}
use Rattle.pli_declare.specs.Tables.{Entry, entries_in}
use Rattle.pli_declare.proofs.MembersStandAfter.{owners_stand_before}
use Rattle.pli_declare.specs.Descriptions.{is_of_shape, scalar_at, inside, own_codes, described}
use Rattle.pli_declare.specs.Places.{item_of, members_of}
use Rattle.pli_declare_variables.proofs.DescriptionLemmas.{of_parts}
use Rattle.pli_declare_variables.proofs.laws.descriptions_are_of_members.Goals as goal

pub returns-clause-described : goal.returns-clause-described
returns-clause-described c = λ o block parameters n within shape.
    sym (of_parts (length (entries_in o block)) (entries_in o block) (owners_stand_before o block) (own_codes (entries_in o block) parameters) refl n within shape)

-- an item of a bad shape has no description, whatever the bound
undescribed : (bound : ℕ) (entries : List Entry) (codes : List (Option Code)) (n : ℕ) → is_of_shape (get_or codes n None) ≡ true → described bound entries codes n ≡ None
undescribed zero entries codes n shape = refl
undescribed (suc b) entries codes n shape =
    ap (λ t. if t then None else option_map (with_bounds (all_bounds (item_of entries n).dimensions)) (inside (described b entries codes) (scalar_at entries n) (members_of entries n))) shape

pub returns-clause-none : goal.returns-clause-none
returns-clause-none c = λ o block parameters n within shape. undescribed (length (entries_in o block)) (entries_in o block) (own_codes (entries_in o block) parameters) n shape
