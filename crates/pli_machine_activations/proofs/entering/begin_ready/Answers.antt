use Rattle.std.proofs.Common.{◌≡◌, ℕ, List, [], ◌∷◌, ◌++◌, map, reverse, refl, ap, ◌∙◌}
use Rattle.std.specs.List.{filter}
use Rattle.pli_world.specs.Activations as pli
use Rattle.pli_world.specs.World.{is_given}
use Rattle.pli_store.specs.views.StorageView.{place_view}
use Rattle.pli_machine_activations.specs.views.MachineView.{activation_view, activations_of, waiting_view, frames_of, world_of}
use Rattle.pli_machine_activations.proofs.DisplayLemmas.{one_more}
use Rattle.pli_machine_activations.proofs.EndLemmas.{newest_first}
use Rattle.pli_machine_activations.proofs.EnteredBlocks.{begun_frame}
use Rattle.pli_machine_activations.proofs.entering.begin_ready.Goals as goal

pub turn-requires : goal.turn-requires
turn-requires c =
    let m = c.args.machine.now in
    rw c.deref.ensures.value
    (λ _.
    one_more m.waiting.items c.push_reserved.new.self.items c.put_aside-waits.result _ _
    c.push_reserved.ensures.items m.displayed)

pub returns : goal.returns
returns c = λ image put pending handed.
    let m = c.args.machine.now in
    let lists = c.args.lists in
    let made : List ℕ → pli.Activation =
    λ ns. record {
      unit = c.args.unit;
      block = c.args.number;
      statement = c.args.block.now.statement;
      link = c.args.link;
      slots = map place_view lists.slots.items;
      pending = [];
      owned = ns;
      on_units = pli.no_on_unit;
    } in
    let pushed : c.push_reserved.new.self.items ≡ m.waiting.items ++ c.put_aside-waits.result ∷ [] =
    c.push_reserved.ensures.items in
    let first = c.put_aside-waits.ensures.activation in
    let rest : activations_of c.push_reserved.new.self.items ≡ activation_view m.here ∷ activations_of m.waiting.items =
    ap (λ xs. reverse (map activation_view xs)) pushed
    ∙ newest_first activation_view m.waiting.items c.put_aside-waits.result
    ∙ ap (λ a. a ∷ activations_of m.waiting.items) c.put_aside-waits.ensures.kept in
    record {
      here =
          c.put_aside-waits.ensures.frame
          ∙ begun_frame c.args.unit c.args.block.now.entry c.args.block.now.temporaries lists.operands.items lists.room.value.temporaries.items c.requires.empty.no_operand c.requires.unset;
      frames =
          ap (λ xs. reverse (map waiting_view xs)) pushed
          ∙ newest_first waiting_view m.waiting.items c.put_aside-waits.result
          ∙ ap (λ f. f ∷ frames_of m.waiting.items) c.put_aside-waits.ensures.waits;
      world =
          ap (λ a. record (world_of image m put) { activations = a ∷ activations_of c.push_reserved.new.self.items }) first
          ∙ ap (λ xs. record (world_of image m put) { activations = made lists.room.value.owned.items ∷ xs }) rest
          ∙ ap (λ ns. record (world_of image m put) { activations = made ns ∷ activation_view m.here ∷ activations_of m.waiting.items }) handed.given
          ∙ ap (λ ns. record (world_of image m put) { activations = made (filter (is_given (map place_view lists.slots.items)) pending) ∷ record (activation_view m.here) { pending = ns } ∷ activations_of m.waiting.items }) handed.others;
      left = refl;
    }
