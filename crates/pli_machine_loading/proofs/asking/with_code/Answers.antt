use Rattle.std.proofs.Common.{◌≡◌, true, length, slice_get, sym, ap, ◌∙◌, arith}
use Rattle.std.proofs.lemmas.Option.{slice_get-get_or}
use Rattle.pli_machine_loading.specs.answers.AskedForms.{is_asked}
use Rattle.pli_machine_loading.proofs.AskedLemmas.{still_asked, one_further, of_each}
use Rattle.pli_machine_loading.proofs.asking.with_code.Goals as goal

pub loop-instruction-init : goal.loop-instruction-init
loop-instruction-init c = record {
  asked = λ k i within at. absurd (omega (arith, within));
  among = λ form asked. asked;
}

pub loop-instruction-preserved : goal.loop-instruction-preserved
loop-instruction-preserved c =
    let l = c.loop-instruction in
    let xs = c.args.code.now.instructions.items in
    let new = c.with_instruction-all.result in
    let read = c.deref-instruction-items.result.now in
    let at = ap (λ xs. slice_get xs l.instruction-index) (sym c.deref-instruction-items.ensures.value)
    ∙ slice_get-get_or read l.instruction-index _ c.loop-instruction-test.true in
    record {
      asked = one_further (λ i. is_asked new i ≡ true) xs l.instruction-index _ at c.with_instruction-all.ensures.one
          (λ k j within there. still_asked l.all new j c.with_instruction-all.ensures.others (l.invariant.asked k j within there));
      among = λ form asked. c.with_instruction-all.ensures.others form (l.invariant.among form asked);
    }

pub returns-clause-all : goal.returns-clause-all
returns-clause-all c =
    let l = c.loop-instruction in
    of_each (λ i. is_asked l.all i ≡ true) c.args.code.now.instructions.items l.instruction-index (omega (arith, c.loop-instruction-test.false, ap length c.deref-instruction-items.ensures.value)) l.invariant.asked

pub returns-clause-others : goal.returns-clause-others
returns-clause-others c = c.loop-instruction.invariant.among
