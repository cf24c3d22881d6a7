use Rattle.std.proofs.Common.{◌≡◌, ◌+◌, ◌++◌, [], ◌∷◌, suc, take, length, get_or, sym, ap, subst, ◌∙◌, arith}
use Rattle.std.specs.List.{All}
use Rattle.std.proofs.Math.Seq.{take-suc}
use Rattle.std.proofs.lemmas.List.Elements.{All-push}
use Rattle.std.proofs.lemmas.Option.{slice_get_within}
use Rattle.pli_include.specs.Pieces.{IsPlain}
use Rattle.pli_include.proofs.reading.staying.Goals as goal

pub loop-count-preserved : goal.loop-count-preserved
loop-count-preserved c =
    let tokens = c.args.tokens.now in
    let count = c.loop-count.count in
    let token = c.index-tokens-count.result in
    let next : suc count ≡ count + 1 = omega arith in
    let grown : take (count + 1) tokens ≡ take count tokens ++ get_or tokens count token ∷ [] =
    ap (λ n. take n tokens) (sym next) ∙ take-suc tokens count token c.loop-count-test.true in
    record {
      plain =
          subst (All IsPlain) (sym grown)
          (All-push IsPlain (take count tokens) (get_or tokens count token) c.loop-count.invariant.plain (sym c.if-is_percent.ensures));
      room = omega (arith, c.loop-count.invariant.room, c.if-count-room.false);
    }

pub returns-clause-over : goal.returns-clause-over
returns-clause-over c t at plain =
    absurd (omega (arith, slice_get_within c.args.tokens.now (length c.args.tokens.now) t at))
