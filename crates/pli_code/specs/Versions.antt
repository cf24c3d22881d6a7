-- Versions of decks and modules (own): how wide their numbers are, and whether they have asterisks.
use Rattle.std.specs.Prelude.{ℕ, nat_eq, Bool, true, false}
use Rattle.pli_code.specs.declared.version.Version.{Version}
use Rattle.pli_code.specs.declared.version.Version.TheVariants.{First, Second, Third}

-- the number of a version, which stands in its bytes
abbrev pub version_number : Version → ℕ
version_number First = 1
version_number Second = 2
version_number Third = 3

-- the greatest precision of a number
abbrev pub greatest_precision : Version → ℕ
greatest_precision First = 31
greatest_precision Second = 63
greatest_precision Third = 63

-- types with a `*`, and the instructions for them, may stand in a version
abbrev pub has_stars : Version → Bool
has_stars First = false
has_stars Second = false
has_stars Third = true

-- the version in which decks and modules are written
abbrev pub written : Version
written = Third

-- two versions are one
abbrev pub same_version : Version → Version → Bool
same_version v w = nat_eq (version_number v) (version_number w)
