use Rattle.std.proofs.Common.{◌-◌, map, ap, ◌∙◌, arith}
use Rattle.std.specs.Prelude.{vec_len}
use Rattle.pli_world.specs.Storage.{live_bytes}
use Rattle.pli_store.specs.answers.Kept.{rise}
use Rattle.pli_store.specs.views.GenerationView.{generation_view}
use Rattle.pli_store.proofs.EndingLemmas.{ended_size, ended_live, ended_rise, ended_view}
use Rattle.pli_store.proofs.storage.Storage.end_kept.Goals as goal

pub overflow_cast-size : goal.overflow_cast-size
overflow_cast-size c =
    let at = vec_len c.args.self.now.generations - 1 in
    let size = ended_size c.args.self.now.generations.items c.args.self.now.made c.args.self.now.rising
    c.args._number at c.requires.last c.take_newest-ended.result c.take_newest-ended.ensures.value in
    omega (arith, size, c.args.self.now.counted, c.args.self.now.limited, c.len-size.ensures)

pub overflow_sub-self : goal.overflow_sub-self
overflow_sub-self c =
    let at = vec_len c.args.self.now.generations - 1 in
    let size = ended_size c.args.self.now.generations.items c.args.self.now.made c.args.self.now.rising
    c.args._number at c.requires.last c.take_newest-ended.result c.take_newest-ended.ensures.value in
    omega (arith, size, c.args.self.now.counted, c.len-size.ensures)

pub invariant_of-self : goal.invariant_of-self
invariant_of-self c =
    let at = vec_len c.args.self.now.generations - 1 in
    let size = ended_size c.args.self.now.generations.items c.args.self.now.made c.args.self.now.rising
    c.args._number at c.requires.last c.take_newest-ended.result c.take_newest-ended.ensures.value in
    let live = ended_live c.args.self.now.generations.items c.args.self.now.made c.args.self.now.rising
    c.args._number at c.requires.last c.take_newest-ended.result c.take_newest-ended.ensures.value in
    let left = ap (λ l. live_bytes (map generation_view l)) c.take_newest-ended.ensures.items in
    record {
      counted =
          omega (
            arith,
            left,
            live,
            size,
            c.args.self.now.counted,
            c.args.self.now.limited,
            c.len-size.ensures,
          );
      limited = omega (arith, c.args.self.now.limited);
      rising =
          ap (λ l. rise 0 (map generation_view l) c.args.self.now.made) c.take_newest-ended.ensures.items
          ∙ ended_rise c.args.self.now.generations.items c.args.self.now.made c.args.self.now.rising
          c.args._number at c.requires.last c.take_newest-ended.result c.take_newest-ended.ensures.value;
    }

pub returns-clause-storage : goal.returns-clause-storage
returns-clause-storage c =
    let at = vec_len c.args.self.now.generations - 1 in
    ap (map generation_view) c.take_newest-ended.ensures.items
    ∙ ended_view c.args.self.now.generations.items c.args.self.now.made c.args.self.now.rising c.args._number
    at c.requires.last c.take_newest-ended.result c.take_newest-ended.ensures.value
