use Rattle.std.proofs.Common.{ℕ, ◌++◌, ◌∷◌, [], List, map, set, sym, ap, ◌∙◌}
use Rattle.std.proofs.Common.{Vec}
use Rattle.std.specs.Global.{Global}
use Rattle.std.proofs.lemmas.List.{map-set, get_or-map}
use Rattle.pli_declare_variables.proofs.sizes.add.Goals as goal

pub returns : goal.returns
returns c =
    let rows = c.args.members.now.items in
    let items : Vec ℕ Global → List ℕ = λ v. v.items in
    map-set items rows c.args.owner c.push.new.self
    ∙ ap (λ (xs : List ℕ). set (map items rows) c.args.owner xs)
    (c.in_ok-push.ensures.items ∙ ap (λ xs. xs ++ c.args.number ∷ []) (ap items c.index_mut.ensures.value ∙ sym (get_or-map items rows c.args.owner c.index_mut.result.now [] c.requires)))
