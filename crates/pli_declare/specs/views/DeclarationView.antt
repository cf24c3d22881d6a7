-- What declarations of the program say, apart from where they lie in memory.
use Rattle.std.specs.Prelude.{option_map}
use Rattle.pli_map.specs.views.DescriptionView.{description_view}
use Rattle.pli_declare.specs.views.CompletedView.{completed_view}
use Rattle.pli_declare.specs.Declarations as plain
use Rattle.pli_declare.specs.declared.declaration.DeclaredKind.{DeclaredKind}
use Rattle.pli_declare.specs.declared.declaration.DeclaredKind.TheVariants as kinds
use Rattle.pli_declare.specs.declared.declaration.Declaration.{Declaration}

-- what a name is declared as
abbrev pub kind_view : DeclaredKind → plain.DeclaredKind
kind_view (kinds.Item completed description) =
    plain.OfItem (completed_view completed) (option_map description_view description)
kind_view (kinds.Label region) = plain.OfLabel region
kind_view (kinds.Procedure returned region) = plain.OfProcedure (option_map description_view returned) region

-- a declared name with its owner
abbrev pub declaration_view : Declaration → plain.Declaration
declaration_view d = record { identifier = d.identifier; owner = d.owner; kind = kind_view d.kind }
