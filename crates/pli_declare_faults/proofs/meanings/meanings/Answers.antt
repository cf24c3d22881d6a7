use Rattle.std.proofs.Common.{◌≡◌, ℕ, ◌+◌, ◌<◌, nat_eq, List, [], length, get_or, drop, Option, None, Some, if◌then◌else◌, sym, ap, ◌∙◌, arith}
use Rattle.std.proofs.lemmas.List.{drop_all, drop_more}
use Rattle.indexmap.specs.IndexMap.{get}
use Rattle.pli_declare.specs.declared.block.Target.{Target}
use Rattle.pli_declare.specs.declared.block.Target.TheVariants.{Name}
use Rattle.pli_declare.specs.declared.block.Use.{Use}
use Rattle.pli_declare.specs.Resolved.{meaning_after, meaning_at}
use Rattle.pli_declare_faults.proofs.meanings.meanings.Goals as goal

abbrev no_use : Use
no_use = record { at = 0; target = Name None 0 }

-- one more use
one_more : (uses : List Use) (i : ℕ) (d : Use) (found after : Option Target) (at : ℕ) → i < length uses
    → after ≡ (if nat_eq (get_or uses i d).at at then Some (get_or uses i d).target else found)
    → meaning_after found (drop i uses) at ≡ meaning_at uses at → meaning_after after (drop (i + 1) uses) at ≡ meaning_at uses at
one_more uses i d found after at lt noted so =
    ap (λ (f : Option Target). meaning_after f (drop (i + 1) uses) at) noted
    ∙ ap (λ (us : List Use). meaning_after found us at) (sym (drop_more uses i d lt))
    ∙ so

pub loop-one-preserved : goal.loop-one-preserved
loop-one-preserved c = λ at.
    one_more c.args.uses.now c.loop-one.one-index no_use (get nat_eq c.loop-one.meanings at) (get nat_eq c.note.new.meanings at) at c.loop-one-test.true (c.in_ok-note.ensures at) (c.loop-one.invariant at)

pub returns : goal.returns
returns c = λ at.
    let none : drop c.loop-one.one-index c.args.uses.now ≡ [] = drop_all c.loop-one.one-index c.args.uses.now (omega (arith, c.loop-one-test.false)) in
    ap (λ (us : List Use). meaning_after (get nat_eq c.loop-one.meanings at) us at) (sym none) ∙ c.loop-one.invariant at
