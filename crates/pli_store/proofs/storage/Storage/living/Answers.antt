use Rattle.std.proofs.Common.{Some, ap, ◌∙◌, arith}
use Rattle.std.proofs.lemmas.List.{length-map}
use Rattle.pli_map.specs.views.DescriptionView.{description_view}
use Rattle.pli_store.specs.views.GenerationView.{generation_view, made_view}
use Rattle.pli_store.specs.views.StorageView.{storage_view}
use Rattle.pli_world.specs.Storage.{Based}
use Rattle.pli_store.proofs.LivingTargets.{generation_target, no_block_target, block_target_there}
use Rattle.pli_store.proofs.PlaceLemmas.{within_store}
use Rattle.pli_store.proofs.RisingNumbers.{rise_length}
use Rattle.pli_store.proofs.storage.Storage.living.Goals as goal

pub overflow_cast-at : goal.overflow_cast-at
overflow_cast-at c =
    let items = c.args.self.now.generations.items in
    let inside = within_store items c.args.generation c.in_ok-at.at c.in_ok-at.ensures in
    let few = rise_length 0 (storage_view c.args.self.now) c.args.self.now.made c.args.self.now.rising in
    let count = length-map items generation_view in
    omega (arith, inside, few, count)

pub overflow_cast-at-2 : goal.overflow_cast-at-2
overflow_cast-at-2 c =
    let items = c.args.self.now.generations.items in
    let inside = within_store items c.args.generation c.in_ok-at.at c.in_ok-at.ensures in
    let few = rise_length 0 (storage_view c.args.self.now) c.args.self.now.made c.args.self.now.rising in
    let count = length-map items generation_view in
    omega (arith, inside, few, count)

pub returns-then-position-eq0 : goal.returns-then-position-eq0
returns-then-position-eq0 c =
    ap (λ p. Some (record { place = p; made = made_view c.index-lives.result.now.made })) c.of_whole-place.ensures
    ∙ generation_target c.args.self.now.generations.items c.args.generation c.args.position c.in_ok-at.at c.in_ok-at.ensures c.index-lives.result.now c.index-lives.ensures
    c.if-position-eq0.true

pub returns-in_err-whole : goal.returns-in_err-whole
returns-in_err-whole c =
    rw c.from_residual-in_err-whole.ensures
    (no_block_target c.args.self.now.generations.items c.args.generation c.args.position c.in_ok-at.at c.in_ok-at.ensures c.index-lives.result.now c.index-lives.ensures
    c.if-position-eq0.false c.in_err-whole.ensures)

pub returns : goal.returns
returns c =
    ap (λ p. Some (record { place = p; made = Based })) c.of_whole.ensures
    ∙ block_target_there c.args.self.now.generations.items c.args.generation c.args.position c.in_ok-at.at c.in_ok-at.ensures c.index-lives.result.now c.index-lives.ensures
    c.if-position-eq0.false (description_view c.in_ok-whole.whole.now) c.in_ok-whole.ensures
