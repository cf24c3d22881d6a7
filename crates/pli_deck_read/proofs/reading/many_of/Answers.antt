use Rattle.std.proofs.Common.{◌≡◌, ◌++◌, ◌∷◌, [], map}
use Rattle.std.proofs.lemmas.Result.{err_from_is_err_and}
use Rattle.std.proofs.lemmas.List.{map_push}
use Rattle.pli_code.specs.Fields.{many}
use Rattle.pli_deck_read.proofs.LoopLemmas.{goes_on, ends, is_done}
use Rattle.pli_deck_read.proofs.reading.many_of.Goals as goal

pub returns-in_err-value : goal.returns-in_err-value
returns-in_err-value g c =
    let p = err_from_is_err_and c.from_residual-in_err-value.result c.from_residual-in_err-value.ensures.1 in
    let read = (g.R.ReadsOne.field c.args.reader.now).read in
    rw (p.1, p.2) (ends read c.in_err-value.field-0.0 (map g.R.ReadsOne.say c.loop.values.items) c.args.count c.loop.counter c.loop.rest.now (many read c.args.count c.args.bytes.now) c.loop-test.true c.in_err-value.ensures c.loop.invariant)

pub loop-preserved : goal.loop-preserved
loop-preserved g c =
    let say = g.R.ReadsOne.say in
    let read = (g.R.ReadsOne.field c.args.reader.now).read in
    let n = c.in_ok-value.value in
    let e : map say c.push.new.self.items ≡ map say c.loop.values.items ++ say n ∷ [] = rw c.in_ok-push.ensures.items (map_push _ c.loop.values.items n) in
    rw e (goes_on read (map say c.loop.values.items) c.args.count c.loop.counter c.loop.rest.now (say n) c.in_ok-value.after.now (many read c.args.count c.args.bytes.now) c.loop-test.true c.in_ok-value.ensures c.loop.invariant)

pub returns : goal.returns
returns g c =
    let read = (g.R.ReadsOne.field c.args.reader.now).read in
    is_done read (map g.R.ReadsOne.say c.loop.values.items) c.args.count c.loop.counter c.loop.rest.now (many read c.args.count c.args.bytes.now) c.loop-test.false c.loop.invariant
