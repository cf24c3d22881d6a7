-- What is met in attributes, one after another: whether their names are good, and what the first area and the
-- first locator mean.
use Rattle.std.specs.Prelude.{◌≡◌, ℕ, Bool, true, ◌&&◌, Option, Some, None, List, ◌++◌}
use Rattle.pli_base.specs.Name.{Name}
use Rattle.pli_base.specs.Declarations.{SimpleAttribute}
use Rattle.pli_declare_outline.specs.Outlines.{Outline}
use Rattle.pli_declare.specs.AttributeNames.{area_in, locator_in}
use Rattle.pli_declare.specs.declared.block.Target.{Target}
use Rattle.pli_declare.specs.declared.block.Target.TheVariants.{Name as AName}
use Rattle.pli_declare_faults.specs.answers.Answers.{IsLookedUp}
use Rattle.pli_declare_faults.specs.declared.look_up.Looked.{Looked}
use Rattle.pli_declare_faults.specs.declared.look_up.Looked.TheVariants.{Found, Ambiguous, NotDeclared}
use Rattle.pli_declare_faults.specs.declared.met.Met.{Met}

-- nothing was met
abbrev pub nothing_met : Met
nothing_met = record { are_good = true; area = None; locator = None }

-- the first names are those that were looked up, or else the first of what is left
abbrev pub IsFirst : Option Looked → Outline → (block : ℕ) → (first left : List Name) → Type 0
IsFirst None o block first left = first ≡ left
IsFirst (Some looked) o block first left = IsLookedUp looked o block first

-- what the first names mean, if they mean anything
abbrev pub first_target : Option Looked → Option Target
first_target None = None
first_target (Some (Found block number)) = Some (AName block number)
first_target (Some Ambiguous) = None
first_target (Some NotDeclared) = None

-- what is met up to these attributes, whose names are good or not, of what was met before them
pub record Meets (before after : Met) (o : Outline) (block : ℕ) (good : Bool)
    (attributes : List SimpleAttribute)
    : Type 0
  where
    pub goods : after.are_good ≡ (before.are_good && good)
    pub areas : (first : List Name) (more : List SimpleAttribute)
        → IsFirst before.area o block first (area_in (attributes ++ more))
        → IsFirst after.area o block first (area_in more)
    pub locators : (first : List Name) (more : List SimpleAttribute)
        → IsFirst before.locator o block first (locator_in (attributes ++ more))
        → IsFirst after.locator o block first (locator_in more)
