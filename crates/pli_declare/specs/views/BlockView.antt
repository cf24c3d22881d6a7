-- What blocks of the program declare, apart from where it lies in memory, and the meanings of names by their
-- tokens.
use Rattle.std.specs.Prelude.{◌≡◌, ℕ, nat_eq, List, map}
use Rattle.indexmap.specs.IndexMap.{IndexMap, get}
use Rattle.pli_base.specs.Statements.{ExternalProcedure}
use Rattle.pli_declare_outline.specs.views.OutlineView.{regions_view}
use Rattle.pli_declare_outline.specs.declared.region.Region.{Region}
use Rattle.pli_declare.specs.declared.declaration.Declaration.{Declaration}
use Rattle.pli_declare.specs.views.DeclarationView.{declaration_view}
use Rattle.pli_declare.specs.Resolved as plain
use Rattle.pli_declare.specs.Resolved.{resolved_of, meaning_at}
use Rattle.pli_declare.specs.declared.block.BlockDeclarations.{BlockDeclarations}
use Rattle.pli_declare.specs.declared.block.Target.{Target}
use Rattle.pli_declare.specs.declared.block.Use.{Use}

-- a block, with its parameters and what it declares
abbrev pub block_view : BlockDeclarations → plain.BlockDeclarations
block_view b =
    record { parameters = b.parameters.items; declarations = map declaration_view b.declarations.items }

-- each use is found by its token
abbrev pub AreMeanings : {S : Type 0} → IndexMap ℕ Target S → List Use → Type 0
AreMeanings meanings uses = (at : ℕ) → get nat_eq meanings at ≡ meaning_at uses at

-- what a resolved unit keeps is what the tree says: each declared name, and each use by its token
pub record IsResolvedOf {S : Type 0} (u : ExternalProcedure) (regions : List Region)
    (outermost : List Declaration) (blocks : List BlockDeclarations)
    (meanings areas locators : IndexMap ℕ Target S)
    : Type 0
  where
    pub regions_are : regions_view regions ≡ (resolved_of u).regions
    pub outermost_is : map declaration_view outermost ≡ (resolved_of u).outermost
    pub blocks_are : map block_view blocks ≡ (resolved_of u).blocks
    pub meanings_are : AreMeanings meanings (resolved_of u).uses
    pub areas_are : AreMeanings areas (resolved_of u).areas
    pub locators_are : AreMeanings locators (resolved_of u).locators
