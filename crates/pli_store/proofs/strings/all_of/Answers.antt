use Rattle.std.proofs.Common.{◌∷◌, [], suc, length, sym, ap, ◌∙◌, subst, arith, length-append, add-one}
use Rattle.pli_map.specs.ParameterTypes.{string_of}
use Rattle.pli_store.specs.answers.StringLists.{AreStrings}
use Rattle.pli_store.proofs.StringLemmas.{one_more_string}
use Rattle.pli_store.proofs.strings.all_of.Goals as goal

pub loop-shorter-preserved : goal.loop-shorter-preserved
loop-shorter-preserved c =
    let l = c.loop-shorter in
    let d = c.of_length.result in
    let more = c.in_ok-push.ensures.items in
    record {
      count = omega (arith, ap length more, length-append l.all.items (d ∷ []), l.invariant.count);
      strings = subst (AreStrings c.args.form) (sym more)
          (one_more_string c.args.form l.all.items d l.invariant.strings
          (c.of_length.ensures ∙ ap (string_of c.args.form) (add-one l.shorter ∙ ap suc (sym l.invariant.count))));
    }

pub returns : goal.returns
returns c = record {
  strings = c.loop-shorter.invariant.strings;
  all = omega (arith, c.loop-shorter.invariant.count);
}
