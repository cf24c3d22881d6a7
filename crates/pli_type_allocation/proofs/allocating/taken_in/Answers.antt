use Rattle.std.proofs.Common.{◌≡◌, ℕ, false, List, [], ◌∷◌, option_map, refl, ap, sym, ◌∙◌}
use Rattle.std.proofs.lemmas.Bool.{false≢true}
use Rattle.pli_type_rules.specs.AllocationTyping as spec
use Rattle.pli_type_rules.specs.Beginnings.{root_at}
use Rattle.pli_type_rules.specs.Names.{Begins}
use Rattle.pli_type_operands.specs.views.TypingView.{referent_view}
use Rattle.pli_type_names.specs.SymbolMeaning.{is_way}
use Rattle.pli_type_names.specs.UnitNaming.{naming_in}
use Rattle.pli_type_names.specs.views.StorageView.{storage_view}
use Rattle.pli_type_allocation.proofs.allocating.taken_in.Goals as goal

no_way : (path : List ℕ) → is_way path ≡ false → [] ≡ path
no_way [] e = refl
no_way (i ∷ path) e = absurd (false≢true (sym e))

pub returns-in-Begins : goal.returns-in-Begins
returns-in-Begins c = λ w is.
    let n = naming_in c.args.naming.now in
    let k = c.args.temporary in
    let b = c.in-Begins in
    let area = option_map referent_view c.args.area in
    let target = option_map referent_view c.args.target in
    c.stacked.ensures n k b.is_parameter
    ∙ ap (λ path. spec.taken_in n k (Begins (root_at b.begins) b.is_parameter) path area target)
    (no_way w.path (sym is.2 ∙ c.if-variable.false))
    ∙ ap (λ s. spec.taken_in n k s w.path area target) (sym (ap storage_view b.is) ∙ is.0)
