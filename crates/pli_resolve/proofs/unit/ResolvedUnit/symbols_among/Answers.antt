use Rattle.std.proofs.Common.{◌≡◌, ◌⊎◌, inl, inr, ◌++◌, ◌∷◌, [], not, true, append-nil, map, ap, sym, ◌∙◌}
use Rattle.std.specs.Prelude.{is_ok, if◌then◌else◌}
use Rattle.std.proofs.lemmas.List.{nil_from_length}
use Rattle.std.specs.Iterator.Adapters.{zip_first, zip_second}
use Rattle.std.specs.Slice.Iter.{iter_rest}
use Rattle.pli_base.specs.views.StatementView.{unit_view}
use Rattle.pli_declare.specs.ResolvedUnits.{facts_of}
use Rattle.pli_declare.specs.Symbols.{symbols_with}
use Rattle.pli_declare.specs.views.DeclarationView.{declaration_view}
use Rattle.pli_declare.specs.views.SymbolView.{symbol_view}
use Rattle.pli_resolve.specs.views.TableView.{way_view}
use Rattle.pli_resolve.proofs.SymbolsMade.{none_left, one_more}
use Rattle.pli_resolve.proofs.unit.ResolvedUnit.symbols_among.Goals as goal

pub loop-way-init : goal.loop-way-init
loop-way-init c =
    let facts = facts_of (unit_view c.args.self.now) in
    let names = c.args.parameters.now in
    let left = iter_rest (zip_first c.into_iter-way-iterator.result) in
    let given = iter_rest (zip_second c.into_iter-way-iterator.result) in
    let first : left ≡ c.args.ways.now = cc in
    let second : given ≡ c.args.declarations.now = cc in
    ap (λ xs. map symbol_view xs ++ symbols_with facts names (map way_view left) (map declaration_view given)) c.in_ok-made.ensures.items
    ∙ ap (λ ws. symbols_with facts names (map way_view ws) (map declaration_view given)) first
    ∙ ap (λ ds. symbols_with facts names (map way_view c.args.ways.now) (map declaration_view ds)) second

pub loop-way-preserved : goal.loop-way-preserved
loop-way-preserved c =
    let made = c.loop-way.made.items in
    let s = c.symbol_of.result in
    let pushed : is_ok c.push.result ≡ true = c.is_err.ensures.negation ∙ ap not c.if-is_err.false in
    let items : c.push.new.self.items ≡ made ++ s ∷ [] = c.push.ensures.items ∙ ap (λ b. if b then made ++ s ∷ [] else made) pushed in
    one_more (facts_of (unit_view c.args.self.now)) c.args.parameters.now made c.push.new.self.items _ _ _ _ c.in-Some.way.now c.in-Some.declaration.now s _
    c.in-Some.ensures.steps.0 c.in-Some.ensures.steps.1 c.symbol_of.ensures items c.loop-way.invariant

pub returns : goal.returns
returns c =
    let l = c.loop-way in
    let facts = facts_of (unit_view c.args.self.now) in
    let names = c.args.parameters.now in
    let left = iter_rest (zip_first l.way-iterator) in
    let given = iter_rest (zip_second l.way-iterator) in
    let made = map symbol_view l.made.items in
    let over : (map way_view left ≡ []) ⊎ (map declaration_view given ≡ []) = elim c.in-None.ensures.steps [
      | inl h ↦ inl (ap (map way_view) (nil_from_length left h.1.0))
      | inr h ↦ inr (ap (map declaration_view) (nil_from_length given h.1.0))
    ] in
    sym (append-nil made) ∙ ap (λ xs. made ++ xs) (sym (none_left facts names (map way_view left) (map declaration_view given) over)) ∙ l.invariant
