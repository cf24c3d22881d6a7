use Rattle.std.proofs.Common.{map, ap, ◌∙◌, arith}
use Rattle.pli_world.specs.Storage.{live_bytes}
use Rattle.pli_store.specs.answers.Kept.{rise}
use Rattle.pli_store.specs.views.GenerationView.{generation_view}
use Rattle.pli_store.proofs.EndingLemmas.{ended_size, ended_live, ended_rise, ended_view}
use Rattle.pli_store.proofs.storage.Storage.end_there.Goals as goal

pub overflow_cast-self : goal.overflow_cast-self
overflow_cast-self c =
    let size = ended_size c.args.self.now.generations.items c.args.self.now.made c.args.self.now.rising
    c.args._number c.args.at c.requires c.take_out-ended.result c.take_out-ended.ensures.value in
    omega (arith, size, c.args.self.now.counted, c.args.self.now.limited, c.len.ensures)

pub overflow_sub-self : goal.overflow_sub-self
overflow_sub-self c =
    let size = ended_size c.args.self.now.generations.items c.args.self.now.made c.args.self.now.rising
    c.args._number c.args.at c.requires c.take_out-ended.result c.take_out-ended.ensures.value in
    omega (arith, size, c.args.self.now.counted, c.len.ensures)

pub invariant_of-self : goal.invariant_of-self
invariant_of-self c =
    let size = ended_size c.args.self.now.generations.items c.args.self.now.made c.args.self.now.rising
    c.args._number c.args.at c.requires c.take_out-ended.result c.take_out-ended.ensures.value in
    let live = ended_live c.args.self.now.generations.items c.args.self.now.made c.args.self.now.rising
    c.args._number c.args.at c.requires c.take_out-ended.result c.take_out-ended.ensures.value in
    let left = ap (λ l. live_bytes (map generation_view l)) c.take_out-ended.ensures.items in
    record {
      counted =
          omega (
            arith,
            left,
            live,
            size,
            c.args.self.now.counted,
            c.args.self.now.limited,
            c.len.ensures,
          );
      limited = omega (arith, c.args.self.now.limited);
      rising =
          ap (λ l. rise 0 (map generation_view l) c.args.self.now.made) c.take_out-ended.ensures.items
          ∙ ended_rise c.args.self.now.generations.items c.args.self.now.made c.args.self.now.rising
          c.args._number c.args.at c.requires c.take_out-ended.result c.take_out-ended.ensures.value;
    }

pub returns-clause-storage : goal.returns-clause-storage
returns-clause-storage c =
    ap (map generation_view) c.take_out-ended.ensures.items
    ∙ ended_view c.args.self.now.generations.items c.args.self.now.made c.args.self.now.rising c.args._number
    c.args.at c.requires c.take_out-ended.result c.take_out-ended.ensures.value
