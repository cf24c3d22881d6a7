-- Symbols that are made one after another.
use Rattle.std.proofs.Common.{◌≡◌, ◌⊎◌, inl, inr, List, [], ◌∷◌, ◌++◌, map, refl, ap, sym, ◌∙◌}
use Rattle.std.proofs.lemmas.List.{append_assoc, map-append}
use Rattle.pli_base.specs.Name.{Name}
use Rattle.pli_declare.specs.Declarations as plain
use Rattle.pli_declare.specs.Symbols.{SymbolFacts, symbol_of, symbols_with}
use Rattle.pli_declare.specs.Symbols as symbols
use Rattle.pli_declare.specs.declared.declaration.Declaration.{Declaration}
use Rattle.pli_declare.specs.declared.symbol.Symbol.{Symbol}
use Rattle.pli_declare.specs.views.DeclarationView.{declaration_view}
use Rattle.pli_declare.specs.views.SymbolView.{symbol_view}
use Rattle.pli_resolve.specs.declared.ways.Way.{Way}
use Rattle.pli_resolve.specs.views.TableView.{way_view}

-- where ways or names are at their end there is none more
pub none_left : (f : SymbolFacts) (ps : List Name) (ws : List symbols.Way) (ds : List plain.Declaration)
    → (ws ≡ []) ⊎ (ds ≡ []) → symbols_with f ps ws ds ≡ []
none_left f ps ws [] over = refl
none_left f ps ws (d ∷ ds) (inl e) = ap (λ xs. symbols_with f ps xs (d ∷ ds)) e
none_left f ps ws (d ∷ ds) (inr e) = absurd (cc)

-- one more
pub one_more : (f : SymbolFacts) (ps : List Name) (made made' : List Symbol) (left rest : List Way) (given others : List Declaration)
    (w : Way) (d : Declaration) (s : Symbol) (whole : List symbols.Symbol)
    → left ≡ w ∷ rest
    → given ≡ d ∷ others
    → symbol_view s ≡ symbol_of f ps (way_view w) (declaration_view d)
    → made' ≡ made ++ s ∷ []
    → map symbol_view made ++ symbols_with f ps (map way_view left) (map declaration_view given) ≡ whole
    → map symbol_view made' ++ symbols_with f ps (map way_view rest) (map declaration_view others) ≡ whole
one_more f ps made made' left rest given others w d s whole l g is m all =
    let more = symbols_with f ps (map way_view rest) (map declaration_view others) in
    ap (λ xs. map symbol_view xs ++ more) m
    ∙ ap (λ xs. xs ++ more) (map-append symbol_view made (s ∷ []))
    ∙ append_assoc (map symbol_view made) (symbol_view s ∷ []) more
    ∙ ap (λ x. map symbol_view made ++ x ∷ more) is
    ∙ ap (λ ws. map symbol_view made ++ symbols_with f ps (map way_view ws) (map declaration_view (d ∷ others))) (sym l)
    ∙ ap (λ ds. map symbol_view made ++ symbols_with f ps (map way_view left) (map declaration_view ds)) (sym g)
    ∙ all
