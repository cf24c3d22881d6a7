use Rattle.std.proofs.Common.{◌≡◌, Some, ◌-◌, ◌+◌, suc, ap, sym, ◌∙◌, arith}
use Rattle.pli_world.specs.Conditions.{handler}
use Rattle.pli_machine_activations.proofs.ConditionLemmas.{handler_found, handler_older}
use Rattle.pli_machine_activations.proofs.LinkLemmas.{views}
use Rattle.pli_machine_activations.proofs.LinkWalkLemmas.{first_of}
use Rattle.pli_machine_activations.proofs.conditions.waiting_handler.Goals as goal

pub returns-in-Some : goal.returns-in-Some
returns-in-Some c =
    let waiting = c.args.machine.now.waiting.items in
    let a = c.index-activation.result.now in
    let k = c.loop-count.count - 1 in
    let more : c.loop-count.count ≡ suc k = omega arith in
    let height : suc k ≡ k + 1 = omega arith in
    c.loop-count.invariant.way
    ∙ ap (λ n. handler c.args.condition (first_of (views waiting) n)) more
    ∙ handler_found c.args.condition waiting a k (omega arith) c.index-activation.ensures
    c.in-Some.block (sym c.unit_for.ensures ∙ c.in-Some.is)
    ∙ ap (λ n. Some (record { unit = a.unit; block = c.in-Some.block; link = n })) height

pub loop-count-preserved : goal.loop-count-preserved
loop-count-preserved c =
    let waiting = c.args.machine.now.waiting.items in
    let k = c.loop-count.count - 1 in
    let more : c.loop-count.count ≡ suc k = omega arith in
    record {
      within = omega arith;
      way = c.loop-count.invariant.way
          ∙ ap (λ n. handler c.args.condition (first_of (views waiting) n)) more
          ∙ handler_older c.args.condition waiting c.index-activation.result.now k (omega arith) c.index-activation.ensures
          (sym c.unit_for.ensures ∙ c.in_default.is);
    }

pub returns : goal.returns
returns c =
    let waiting = c.args.machine.now.waiting.items in
    let none : c.loop-count.count ≡ 0 = omega arith in
    c.loop-count.invariant.way ∙ ap (λ n. handler c.args.condition (first_of (views waiting) n)) none
