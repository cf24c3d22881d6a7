use Rattle.std.proofs.Common.{◌≡◌, ◌++◌, ◌∷◌, [], ap, ◌∙◌}
use Rattle.pli_declare_scopes.specs.declared.found.Found.TheVariants.{Nothing}
use Rattle.pli_declare_scopes.proofs.PathsKept.{new_is_none, stored_is, path_made, keys_more}
use Rattle.pli_declare_scopes.proofs.path.path_of.Goals as goal

pub returns-in_ok-push-clause-there : goal.returns-in_ok-push-clause-there
returns-in_ok-push-clause-there c = stored_is c.insert_full.new.self.keys c.args.step c.in_ok-path.path c.in_ok-path.ensures.stored

pub returns-else-is_new-clause-there : goal.returns-else-is_new-clause-there
returns-else-is_new-clause-there c = stored_is c.insert_full.new.self.keys c.args.step c.in_ok-path.path c.in_ok-path.ensures.stored

pub returns-in_ok-push-clause-kept : goal.returns-in_ok-push-clause-kept
returns-in_ok-push-clause-kept c = λ items paths kept.
    let steps = c.args.steps.now.keys in
    let step = c.args.step in
    let made = path_made items steps paths c.args.ended.now.items step (new_is_none steps step c.in_ok-path.is_new c.in_ok-path.ensures.added c.if-is_new.true) kept in
    let keys : c.insert_full.new.self.keys ≡ steps ++ step ∷ [] = c.in_ok-path.ensures.keys ∙ keys_more steps step c.in_ok-path.is_new c.in_ok-path.ensures.added c.if-is_new.true in
    let ends : c.push.new.self.items ≡ c.args.ended.now.items ++ Nothing ∷ [] = c.in_ok-push.ensures.items ∙ ap (λ fs. fs ++ Nothing ∷ []) c.in_ok-reserve.ensures.items in
    rw keys (rw ends made)
