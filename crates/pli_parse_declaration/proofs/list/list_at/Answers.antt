use Rattle.std.proofs.Common.{arith, map, ◌≡◌, ◌++◌, ◌∷◌, []}
use Rattle.std.proofs.lemmas.Result.{err_from_is_err_and}
use Rattle.std.proofs.lemmas.List.{map_push}
use Rattle.pli_base.specs.answers.ReadingAnswers.{front_view}
use Rattle.pli_parse_declaration.specs.DeclarationReading.{list_at}
use Rattle.pli_parse_declaration.proofs.DeclarationLists.{fails, goes_on, is_done}
use Rattle.pli_parse_declaration.proofs.list.list_at.Goals as goal

pub returns-in_err-read-clause-value : goal.returns-in_err-read-clause-value
returns-in_err-read-clause-value g c =
    let p = err_from_is_err_and c.from_residual.result c.from_residual.ensures.1 in
    let one = g.R.ListReader.one c.args.reader.now in
    rw (p.1, p.2) (fails c.args.separator one (map g.R.ListReader.tree c.loop-values.values.items) c.loop-values.next c.loop-values.rest.now
    (list_at c.args.separator one c.args.at c.args.texts.now)
    c.in_err-read.field-0.0 c.in_err-read.ensures.value c.loop-values.invariant.value)

pub loop-values-preserved : goal.loop-values-preserved
loop-values-preserved g c =
    let one = g.R.ListReader.one c.args.reader.now in
    let tree = g.R.ListReader.tree in
    let e : map tree c.push.new.self.items ≡ map tree c.loop-values.values.items ++ tree c.in_ok-read.read.value ∷ [] = rw c.in_ok-push.ensures.items (map_push _ c.loop-values.values.items c.in_ok-read.read.value) in
    record {
      value = rw (e, c.in-Some.ensures.next) (goes_on c.args.separator one (map tree c.loop-values.values.items) c.loop-values.next c.loop-values.rest.now
          (list_at c.args.separator one c.args.at c.args.texts.now)
          (front_view tree c.in_ok-read.read) c.in-Some.after.rest.now c.in_ok-read.ensures.value (omega (arith, c.in_ok-read.ensures.place, c.in-Some.ensures.place)) c.in-Some.ensures.value c.loop-values.invariant.value);
      place = (omega (arith, c.in_ok-read.ensures.place, c.in-Some.ensures.place), omega (arith, c.in_ok-read.ensures.place, c.in-Some.ensures.place));
    }

pub loop-values-smaller : goal.loop-values-smaller
loop-values-smaller g c = omega (arith, c.in_ok-read.ensures.place, c.in-Some.ensures.place)

pub returns-in-None-clause-value : goal.returns-in-None-clause-value
returns-in-None-clause-value g c =
    let one = g.R.ListReader.one c.args.reader.now in
    let tree = g.R.ListReader.tree in
    let e : map tree c.push.new.self.items ≡ map tree c.loop-values.values.items ++ tree c.in_ok-read.read.value ∷ [] = rw c.in_ok-push.ensures.items (map_push _ c.loop-values.values.items c.in_ok-read.read.value) in
    rw (g.met.R.ListReader.each c.push.new.self.items, e) (is_done c.args.separator one (map tree c.loop-values.values.items) c.loop-values.next c.loop-values.rest.now
    (list_at c.args.separator one c.args.at c.args.texts.now)
    (front_view tree c.in_ok-read.read) c.in_ok-read.ensures.value c.in-None.ensures.value c.loop-values.invariant.value)
