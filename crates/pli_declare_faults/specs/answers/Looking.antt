-- What is found in a block, as what names mean.
use Rattle.std.specs.Prelude.{ℕ, Option}
use Rattle.pli_declare_scopes.specs.declared.found.Found.{Found}
use Rattle.pli_declare_scopes.specs.declared.found.Found.TheVariants.{Nothing, One, Several}
use Rattle.pli_declare_faults.specs.declared.look_up.Looked.{Looked}
use Rattle.pli_declare_faults.specs.declared.look_up.Looked.TheVariants as looked

-- one item is found, or several, or none
abbrev pub looked_there : (block : Option ℕ) → Found → Looked
looked_there block Nothing = looked.NotDeclared
looked_there block (One number) = looked.Found block number
looked_there block Several = looked.Ambiguous
