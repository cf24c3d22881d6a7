use Rattle.std.proofs.Common.{◌≡◌, ◌+◌, ◌++◌, ◌∷◌, [], take, sym, ap, ◌∙◌, arith}
use Rattle.std.specs.List.{list_any}
use Rattle.std.proofs.lemmas.List.{take_more}
use Rattle.pli_base.specs.Name.{Name}
use Rattle.pli_base.specs.Words.{same_name}
use Rattle.pli_declare_scopes.proofs.PutOnceLemmas.{seen_more, names_alike}
use Rattle.pli_declare_variables.proofs.places.set_of.Goals as goal

pub loop-name-preserved : goal.loop-name-preserved
loop-name-preserved c =
    let names = c.args.names.now in
    let i = c.loop-name.name-index in
    let x = c.name-item.result in
    let front : take (i + 1) names ≡ take i names ++ x ∷ [] = take_more names i x (omega arith) ∙ ap (λ (y : Name). take i names ++ y ∷ []) (sym c.name-item.is) in
    λ q. seen_more same_name names_alike c.loop-name.set.keys (take i names) x c.loop-name.invariant c.insert.new.self.keys c.in_ok-insert.ensures.keys q
    ∙ ap (list_any (same_name q)) (sym front)
