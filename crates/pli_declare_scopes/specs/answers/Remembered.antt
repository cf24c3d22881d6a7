-- What a block remembers of what names were found to fit.
use Rattle.std.specs.Prelude.{◌≡◌, List, [], ◌∷◌, length}
use Rattle.std.specs.Global.{Vec}
use Rattle.pli_base.specs.Name.{Name}
use Rattle.pli_declare_scopes.specs.Scopes.{BlockItems, fits, found_below}
use Rattle.pli_declare_scopes.specs.declared.found.Found.{Found}
use Rattle.pli_declare_scopes.specs.declared.found.Found.TheVariants.{Nothing}

-- what items names qualify, in part or fully
abbrev pub found_fitting : BlockItems → List Name → Found
found_fitting items names = found_below (fits items names) (length items) Nothing

-- of each of these names it is what is found
abbrev pub AreRemembered : (found : List Name → Found) → List (Vec Name × Found) → Type 0
AreRemembered found [] = Unit {0}
AreRemembered found (e ∷ es) = (e.1 ≡ found e.0.items) × AreRemembered found es
