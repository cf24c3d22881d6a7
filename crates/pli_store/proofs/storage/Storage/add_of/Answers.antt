use Rattle.std.proofs.Common.{◌≡◌, ◌+◌, suc, [], ◌∷◌, ◌++◌, map, refl, sym, ap, ◌∙◌, arith, add-one}
use Rattle.pli_bytes.specs.Contents.{values_of}
use Rattle.pli_map.specs.views.DescriptionView.{description_view}
use Rattle.pli_world.specs.Storage as plain
use Rattle.pli_world.specs.Storage.{live_bytes, whole}
use Rattle.pli_world.specs.World.{Yields}
use Rattle.pli_store.specs.views.GenerationView.{generation_view, made_view}
use Rattle.pli_store.specs.views.StorageView.{storage_view, with_storage}
use Rattle.pli_store.proofs.MakingLemmas.{made_there, pushed_says}
use Rattle.pli_store.proofs.RisingNumbers.{live_added, rise_added}
use Rattle.pli_store.proofs.storage.Storage.add_of.Goals as goal

pub invariant_of-self : goal.invariant_of-self
invariant_of-self c =
    let gs = storage_view c.args.self.now in
    let d = description_view c.args.kind.now.description.now in
    let added : plain.Generation =
    record { number = c.args.self.now.made; description = d; made = made_view c.args.made; values = values_of d c.args.bytes.items; blocks = [] } in
    let says : map generation_view c.push_reserved.new.self.items ≡ gs ++ added ∷ [] =
    pushed_says c.args.self.now.generations.items c.args.self.now.generations.items c.push_reserved.new.self.items _ c.push_reserved.ensures.items refl
    ∙ ap (λ bs. gs ++ record added { blocks = bs } ∷ []) c.requires.blocks in
    let live = ap live_bytes says ∙ live_added gs added in
    let counted = c.args.self.now.counted in
    let room = c.requires.room.1 in
    let size = c.requires.size in
    let count = c.len-size.ensures in
    let whole_count = c.args.bytes.ok.0 in
    record {
      counted = omega (arith, live, counted, size, count, whole_count);
      limited = omega (arith, room, counted, size, count, whole_count);
      rising = rw (says, add-one) (rise_added 0 gs c.args.self.now.made added c.args.self.now.rising (omega arith));
    }

pub returns : goal.returns
returns c = λ w held.
    let d = description_view c.args.kind.now.description.now in
    let made = c.args.self.now.made in
    let gs = storage_view c.args.self.now in
    let before = with_storage c.args.self.now w in
    let added : plain.Generation =
    record { number = made; description = d; made = made_view c.args.made; values = values_of d c.args.bytes.items; blocks = [] } in
    let says : map generation_view c.push_reserved.new.self.items ≡ gs ++ added ∷ [] =
    pushed_says c.args.self.now.generations.items c.args.self.now.generations.items c.push_reserved.new.self.items _ c.push_reserved.ensures.items refl
    ∙ ap (λ bs. gs ++ record added { blocks = bs } ∷ []) c.requires.blocks in
    made_there d (made_view c.args.made) (values_of d c.args.bytes.items) before c.requires.room.0 c.requires.room.1 held
    ∙ ap (λ s. Yields (whole made d) (record before { storage = s; made = suc made })) (sym says)
    ∙ ap (λ n. Yields (whole made d) (record before { storage = map generation_view c.push_reserved.new.self.items; made = n })) (sym (add-one made))
