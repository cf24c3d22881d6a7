-- What is found once for each block, at the number of a region.
use Rattle.std.proofs.Common.{◌≡◌, ℕ, Option, Some, None, List, map, option_map, slice_get, get_or, refl, sym, ap}
use Rattle.std.proofs.Common.{◌∙◌}
use Rattle.std.specs.Option.{unwrap_or}
use Rattle.std.proofs.lemmas.Option.{slice_get-map, unwrap_or-slice_get}
use Rattle.pli_declare.specs.Resolved as declare
use Rattle.pli_declare.specs.Symbols.{number_declared, ways_of}
use Rattle.pli_declare.specs.ResolvedUnits.{no_block}
use Rattle.pli_resolve.specs.views.TableView.{block_table_of, parameters_in, ways_in}

abbrev declared_parameters : declare.BlockDeclarations → List ℕ
declared_parameters b = map (number_declared b.declarations) b.parameters

parameters_known : (o : Option declare.BlockDeclarations) → parameters_in (option_map block_table_of o) ≡ declared_parameters (unwrap_or o no_block)
parameters_known None = refl
parameters_known (Some b) = refl

ways_known : (o : Option declare.BlockDeclarations) → ways_in (option_map block_table_of o) ≡ ways_of (unwrap_or o no_block).declarations
ways_known None = refl
ways_known (Some b) = refl

-- the parameters of a region
pub parameters_declared : (bs : List declare.BlockDeclarations) (n : ℕ)
    → parameters_in (slice_get (map block_table_of bs) n) ≡ map (number_declared (get_or bs n no_block).declarations) (get_or bs n no_block).parameters
parameters_declared bs n =
    ap parameters_in (slice_get-map block_table_of bs n) ∙ parameters_known (slice_get bs n) ∙ ap declared_parameters (unwrap_or-slice_get bs n no_block)

-- the ways of what it declares
pub ways_declared : (bs : List declare.BlockDeclarations) (n : ℕ) → ways_in (slice_get (map block_table_of bs) n) ≡ ways_of (get_or bs n no_block).declarations
ways_declared bs n =
    ap ways_in (slice_get-map block_table_of bs n) ∙ ways_known (slice_get bs n) ∙ ap (λ (b : declare.BlockDeclarations). ways_of b.declarations) (unwrap_or-slice_get bs n no_block)

-- what is declared by a region, if it is there
pub declared_there : (bs : List declare.BlockDeclarations) (n : ℕ) (b : declare.BlockDeclarations) → slice_get bs n ≡ Some b → get_or bs n no_block ≡ b
declared_there bs n b found = sym (unwrap_or-slice_get bs n no_block) ∙ ap (λ o. unwrap_or o no_block) found

pub declared_nowhere : (bs : List declare.BlockDeclarations) (n : ℕ) → slice_get bs n ≡ None → get_or bs n no_block ≡ no_block
declared_nowhere bs n found = sym (unwrap_or-slice_get bs n no_block) ∙ ap (λ o. unwrap_or o no_block) found
