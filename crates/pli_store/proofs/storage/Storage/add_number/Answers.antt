use Rattle.std.proofs.Common.{◌≡◌, ◌+◌, suc, [], ◌∷◌, ◌++◌, map, refl, sym, ap, ◌∙◌, arith, add-one}
use Rattle.std.proofs.lemmas.List.{length-map}
use Rattle.pli_bytes.specs.Contents.{values_of}
use Rattle.pli_map.specs.views.DescriptionView.{description_view}
use Rattle.pli_world.specs.Storage as plain
use Rattle.pli_world.specs.Storage.{Dummy, live_bytes, whole}
use Rattle.pli_world.specs.World.{Yields}
use Rattle.pli_store.specs.answers.Kinds.{digits_in}
use Rattle.pli_store.specs.views.GenerationView.{generation_view}
use Rattle.pli_store.specs.views.StorageView.{storage_view, with_storage}
use Rattle.pli_store.proofs.MakingLemmas.{made_there, pushed_says}
use Rattle.pli_store.proofs.RisingNumbers.{live_added, rise_added, rise_length}
use Rattle.pli_store.proofs.storage.Storage.add_number.Goals as goal

pub overflow_cast-at : goal.overflow_cast-at
overflow_cast-at c =
    let few = rise_length 0 (storage_view c.args.self.now) c.args.self.now.made c.args.self.now.rising in
    let count = length-map c.args.self.now.generations.items generation_view in
    let owned = c.args.self.now.generations.ok.0 in
    omega (arith, few, count, owned, c.len-at.ensures, c.requires.room.0)

pub invariant_of-self : goal.invariant_of-self
invariant_of-self c =
    let gs = storage_view c.args.self.now in
    let d = description_view c.args.description.now in
    let added : plain.Generation =
    record { number = c.args.self.now.made; description = d; made = Dummy; values = values_of d c.args.bytes.items; blocks = [] } in
    let says : map generation_view c.push_reserved.new.self.items ≡ gs ++ added ∷ [] =
    pushed_says c.args.self.now.generations.items c.args.self.now.generations.items c.push_reserved.new.self.items _ c.push_reserved.ensures.items refl in
    let live = ap live_bytes says ∙ live_added gs added in
    let counted = c.args.self.now.counted in
    let room = c.requires.room.1 in
    let size = c.requires.size in
    let count = c.len-size.ensures in
    let whole_count = c.args.bytes.ok.0 in
    record {
      counted = omega (arith, live, counted, size, count, whole_count);
      limited = omega (arith, room, counted, size, count, whole_count);
      rising = rw (says, add-one) (rise_added 0 gs c.args.self.now.made added c.args.self.now.rising (omega arith));
    }

pub of_alone-requires : goal.of_alone-requires
of_alone-requires c = sym (ap digits_in c.requires.precision)

pub returns : goal.returns
returns c = λ w held.
    let d = description_view c.args.description.now in
    let made = c.args.self.now.made in
    let gs = storage_view c.args.self.now in
    let before = with_storage c.args.self.now w in
    let added : plain.Generation =
    record { number = made; description = d; made = Dummy; values = values_of d c.args.bytes.items; blocks = [] } in
    let says : map generation_view c.push_reserved.new.self.items ≡ gs ++ added ∷ [] =
    pushed_says c.args.self.now.generations.items c.args.self.now.generations.items c.push_reserved.new.self.items _ c.push_reserved.ensures.items refl in
    made_there d Dummy (values_of d c.args.bytes.items) before c.requires.room.0 c.requires.room.1 held
    ∙ ap (λ s. Yields (whole made d) (record before { storage = s; made = suc made })) (sym says)
    ∙ ap (λ n. Yields (whole made d) (record before { storage = map generation_view c.push_reserved.new.self.items; made = n })) (sym (add-one made))
    ∙ ap (λ p. Yields p (record before { storage = map generation_view c.push_reserved.new.self.items; made = made + 1 })) (sym c.of_alone.ensures)
