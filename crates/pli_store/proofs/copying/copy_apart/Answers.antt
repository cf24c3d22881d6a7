use Rattle.std.proofs.Common.{◌≡◌, ◌+◌, length, get_or, take, refl, ap, ◌∙◌, subst, arith, length-set, length-take-le}
use Rattle.std.proofs.lemmas.Option.{slice_get_within}
use Rattle.pli_bytes.specs.Contents.{bytes_from}
use Rattle.pli_store.specs.answers.Puts.{BytesPut}
use Rattle.pli_store.proofs.CopiedBytes.{nothing_copied, source_within, target_within, more_copied}
use Rattle.pli_store.proofs.copying.copy_apart.Goals as goal

pub loop-done-init : goal.loop-done-init
loop-done-init c =
    let gs = c.args.generations.now in
    record {
      so_far = omega arith;
      source_lives = slice_get_within gs c.args.from.at c.requires.from.generation c.requires.from.stands;
      target_lives = slice_get_within gs c.args.to.at c.requires.to.generation c.requires.to.stands;
      copied = nothing_copied gs c.args.from c.args.to c.args.size c.requires.from c.requires.to;
    }

pub take_bytes-requires : goal.take_bytes-requires
take_bytes-requires c =
    let l = c.loop-done in
    let g = get_or l.generations c.args.from.at c.index-generations-from.result in
    let inside = source_within c.args.generations.now c.args.from c.args.to l.generations l.generations l.done l.invariant.copied c.requires.apart c.args.size c.requires.from g
    (ap (get_or l.generations c.args.from.at) c.index-generations-from.is) in
    let room = c.min-count.array_long in
    let count = c.min-count.ensures in
    omega (arith, inside, length-take-le c.min-count.result l.piece (omega (arith, room, count)))

pub put_bytes-requires : goal.put_bytes-requires
put_bytes-requires c =
    let l = c.loop-done in
    let g = get_or l.generations c.args.to.at c.index-generations-to.result in
    let inside = target_within c.args.generations.now c.args.from c.args.to l.generations l.generations l.done l.invariant.copied c.requires.apart c.args.size c.requires.to g
    (ap (get_or l.generations c.args.to.at) c.index-generations-to.is) in
    let room = c.min-count.array_long in
    let count = c.min-count.ensures in
    omega (arith, inside, length-take-le c.min-count.result l.piece (omega (arith, room, count)), c.take_bytes.auto.bytes)

pub loop-done-preserved : goal.loop-done-preserved
loop-done-preserved c =
    let l = c.loop-done in
    let source = get_or l.generations c.args.from.at c.index-generations-from.result in
    let target = get_or l.generations c.args.to.at c.index-generations-to.result in
    let room = c.min-count.array_long in
    let count = c.min-count.ensures in
    let filled : length (take c.min-count.result l.piece) ≡ c.min-count.result = length-take-le c.min-count.result l.piece (omega (arith, room, count)) in
    let bytes = c.take_bytes.ensures ∙ ap (λ n. bytes_from (c.args.from.offset + l.done) n source.bytes.items) filled in
    record {
      so_far = omega arith;
      source_lives = omega (arith, length-set l.generations c.args.to.at c.put_bytes.new.generation, l.invariant.source_lives);
      target_lives = omega (arith, length-set l.generations c.args.to.at c.put_bytes.new.generation, l.invariant.target_lives);
      copied = more_copied c.args.generations.now c.args.from c.args.to l.generations _ l.done l.invariant.copied c.requires.apart c.args.size c.min-count.result
          c.requires.from c.requires.to (omega arith) source target c.put_bytes.new.generation
          (ap (get_or l.generations c.args.from.at) c.index-generations-from.is) (ap (get_or l.generations c.args.to.at) c.index-generations-to.is)
          (subst (BytesPut target c.put_bytes.new.generation (c.args.to.offset + l.done)) bytes c.put_bytes.ensures) refl;
    }

pub returns : goal.returns
returns c =
    let l = c.loop-done in
    let all : l.done ≡ c.args.size = omega (arith, l.invariant.so_far) in
    rw (← all) l.invariant.copied
