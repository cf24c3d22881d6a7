-- What names mean, where they are found.
use Rattle.std.proofs.Common.{◌≡◌, ℕ, zero, suc, get_or, Bool, false, Option, List, [], ◌∷◌, refl, ap, ◌∙◌}
use Rattle.pli_base.specs.Name.{Name}
use Rattle.pli_declare_outline.specs.Outlines.{Outline, Mark, Declared, Labelled, Entered, Used, Jumped, PlacedMark}
use Rattle.pli_declare.specs.Tables.{Entry, no_entry, heading_entries, unit_entries, scope_of}
use Rattle.pli_declare_scopes.specs.Scopes.{meant}
use Rattle.pli_declare_scopes.specs.declared.found.ReferenceMeaning.TheVariants.{Ambiguous as Several, NotDeclared as Nothing}
use Rattle.pli_declare.specs.Places.{is_variable, is_locator, is_area}
use Rattle.pli_declare.specs.Resolution.{names_fit, is_good}
use Rattle.pli_declare_faults.specs.answers.Answers.{entries_at, IsFound}

pub found_fits : (o : Outline) (region : ℕ) (names : List Name) (block : Option ℕ) (number : ℕ) (fits : List Entry → ℕ → Bool)
    → IsFound o region names block number → is_good o region fits names ≡ fits (entries_at o block) number
found_fits o region names block number fits f = ap (names_fit o region fits names) f.meant ∙ ap (λ entries. fits entries number) f.entries

pub several_fit : (o : Outline) (region : ℕ) (names : List Name) (fits : List Entry → ℕ → Bool) → meant (scope_of o region) names ≡ Several → is_good o region fits names ≡ false
several_fit o region names fits e = ap (names_fit o region fits names) e

pub nothing_fits : (o : Outline) (region : ℕ) (names : List Name) (fits : List Entry → ℕ → Bool) → meant (scope_of o region) names ≡ Nothing → is_good o region fits names ≡ false
nothing_fits o region names fits e = ap (names_fit o region fits names) e

-- the unit's own name is no variable
only : (mark : Mark) (n : ℕ) → is_variable (get_or (heading_entries mark) n no_entry).entity ≡ false
only (Entered heading region) zero = refl
only (Entered heading region) (suc n) = refl
only (Declared items) n = refl
only (Labelled label) n = refl
only (Used names) n = refl
only (Jumped label) n = refl

pub unit_is_no_variable : (ms : List PlacedMark) (n : ℕ) → is_variable (get_or (unit_entries ms) n no_entry).entity ≡ false
unit_is_no_variable [] n = refl
unit_is_no_variable (p ∷ ps) n = only p.mark n

pub unit_is_no_locator : (ms : List PlacedMark) (n : ℕ) → is_locator (unit_entries ms) n ≡ false
unit_is_no_locator ms n = rw (unit_is_no_variable ms n) refl

pub unit_is_no_area : (ms : List PlacedMark) (n : ℕ) → is_area (unit_entries ms) n ≡ false
unit_is_no_area ms n = rw (unit_is_no_variable ms n) refl
