-- What symbols of the program say, apart from where they lie in memory.
use Rattle.std.specs.Prelude.{map, option_map}
use Rattle.pli_map.specs.views.DescriptionView.{description_view}
use Rattle.pli_map.specs.views.ParameterView.{type_view}
use Rattle.pli_declare.specs.Symbols as plain
use Rattle.pli_declare.specs.declared.symbol.Symbol.{Symbol}
use Rattle.pli_declare.specs.declared.symbol.SymbolKind.{SymbolKind}
use Rattle.pli_declare.specs.declared.symbol.SymbolKind.TheVariants as kinds

-- what a name is declared as
abbrev pub symbol_kind_view : SymbolKind → plain.SymbolKind
symbol_kind_view (kinds.Variable description class scope initial area) =
    plain.Variable (description_view description.now) class scope initial.now area
symbol_kind_view (kinds.OpenParameter taken slot area) = plain.OpenParameter (type_view taken.now) slot area
symbol_kind_view (kinds.Member root path initial area) = plain.Member root path.now initial.now area
symbol_kind_view (kinds.Label statement) = plain.Label statement
symbol_kind_view (kinds.Procedure block returned area) =
    plain.Procedure block (option_map (λ d. description_view d.now) returned) area
symbol_kind_view (kinds.Entry parameters returned area) =
    plain.Entry (map type_view parameters.now) (option_map (λ d. description_view d.now) returned) area
symbol_kind_view kinds.BuiltIn = plain.BuiltIn

-- a declared name
abbrev pub symbol_view : Symbol → plain.Symbol
symbol_view s = record { identifier = s.identifier; kind = symbol_kind_view s.kind }
