use Rattle.std.proofs.Common.{◌≡◌, ◌≤◌, ◌+◌, true, min, [], ◌∷◌, length, Ok, sym, ap, ◌∙◌, subst, arith, SFits, w64, rules}
use Rattle.std.specs.Vec.{with_items}
use Rattle.std.proofs.lemmas.Int.{to_z-of_z}
use Rattle.std.proofs.lemmas.List.{with_items_is}
use Rattle.pli_bytes.specs.Changes.{IsPut, PutOrSame}
use Rattle.pli_bytes.specs.Contents.{values_of}
use Rattle.pli_map.specs.Description.{FixedBinary}
use Rattle.pli_map.specs.Scalars.{scalars_of}
use Rattle.pli_map.specs.Sizes.{number_bytes, size_of}
use Rattle.pli_map.specs.Values.{are_held, holds}
use Rattle.pli_map.specs.views.DescriptionView.{description_view}
use Rattle.pli_value.specs.Value.{Number}
use Rattle.pli_world.specs.Storage.{Dummy}
use Rattle.pli_world.specs.World.{Yields, made_of}
use Rattle.pli_store.specs.views.StorageView.{place_view, with_storage}
use Rattle.pli_store.proofs.MakingLemmas.{dummy_made, dummy_held, dummy_values}
use Rattle.pli_store.proofs.storage.Storage.make_number.Goals as goal

pub add_number-requires-clause-room : goal.add_number-requires-clause-room
add_number-requires-clause-room c =
    c.if-not-has_room_for.ensures (description_view c.args.description.now)
    (ap (λ n. min n 4294967296) (c.from-2.ensures ∙ c.fixed_binary_size-size.ensures ∙ ap number_bytes c.from.ensures ∙ sym (ap size_of c.requires.precision)))

pub returns : goal.returns
returns c = λ w.
    let d = description_view c.args.description.now in
    let x = c.args.number in
    let fits : SFits w64 x = search rules in
    let whole = to_z-of_z w64 x fits in
    let held : holds d (Number x) ≡ true = subst (λ d. holds d (Number x) ≡ true) (sym c.requires.precision) c.requires.held in
    let bytes = c.in_ok-bytes.bytes in
    let old = c.deref_mut.result.now in
    let new = c.put_number_at-put.new.bytes in
    let size : length old ≡ size_of d =
    ap length c.deref_mut.ensures.value ∙ c.in_ok-bytes.ensures ∙ c.fixed_binary_size-size.ensures ∙ ap number_bytes c.from.ensures ∙ sym (ap size_of c.requires.precision) in
    let number_size : length old ≡ number_bytes c.args.precision = size ∙ ap size_of c.requires.precision in
    let within : 0 + number_bytes c.args.precision ≤ length old = omega (arith, number_size) in
    let put = rw whole at c.put_number_at-put.ensures.put in
    let room = rw whole at c.put_number_at-put.ensures.room in
    let is_put : IsPut d (Number x) 0 old new = subst (λ d. IsPut d (Number x) 0 old new) (sym c.requires.precision) (subst (λ b. PutOrSame b (FixedBinary c.args.precision) (Number x) 0 old new) (room c.requires.held within) put) in
    let holds_it = dummy_values d (Number x) old new held size is_put in
    let values : values_of d (with_items bytes new).items ≡ Number x ∷ [] = ap (values_of d) (with_items_is bytes new (holds_it.1 ∙ c.deref_mut.ensures.len)) ∙ holds_it.0 in
    let before = with_storage c.args.self.now w in
    let after = with_storage c.add_number.new.self w in
    let answer = c.add_number.ensures w (ap (are_held (scalars_of d)) values ∙ dummy_held d (Number x) held) in
    dummy_made place_view d (Number x) (Ok c.add_number.result) before after held
    (subst (λ vs. made_of d Dummy vs before ≡ Yields (place_view c.add_number.result) after) values answer)
