use Rattle.std.proofs.Common.{sym, subst}
use Rattle.std.proofs.lemmas.Result.{err_from_is_err_and}
use Rattle.pli_deck.specs.answers.Outcomes.{Compiles}
use Rattle.pli_deck.proofs.TypedCompiled.{reading_refused, tree_decides}
use Rattle.pli_deck.proofs.passes.compile_texts.Goals as goal

pub returns : goal.returns
returns c =
    subst (λ r. Compiles c.compile_tree-compiled.result r) (sym (tree_decides c.args.texts.now _ c.in_ok-tree.ensures)) c.compile_tree-compiled.ensures

pub returns-in_err-tree : goal.returns-in_err-tree
returns-in_err-tree c =
    let p = err_from_is_err_and c.from_residual.result c.from_residual.ensures.1 in
    reading_refused c.args.texts.now c.from_residual.result p.0 _ p.1 p.2 c.in_err-tree.ensures
