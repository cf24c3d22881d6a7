use Rattle.std.proofs.Common.{rules, arith, ◌≡◌, ◌<◌, ◌++◌, length, ap, ◌∙◌, sym}
use Rattle.std.proofs.lemmas.Bool.{eqb-true, eqb-false}
use Rattle.std.specs.Option.{option_to_list}
use Rattle.std.specs.Vec.{vec_len}
use Rattle.pli_type_operands.proofs.CallLemmas.{address_alone, address_of_none, address_of_more}
use Rattle.pli_type_operands.proofs.function.address_called.Goals as goal

pub returns-in_default : goal.returns-in_default
returns-in_default c = λ greatest.
    let none : length c.args.arguments.items ≡ 0 = search rules in
    address_of_none greatest c.args.arguments.items none

pub returns-then-is_empty : goal.returns-then-is_empty
returns-then-is_empty c = λ greatest.
    let left = c.pop.new.self in
    let none : length left.items ≡ 0 =
    omega (arith, left.ok.0, eqb-true (vec_len left) 0 (sym c.is_empty.ensures ∙ c.if-is_empty.true)) in
    c.address_of.ensures
    ∙ sym (address_alone greatest c.args.arguments.items left.items c.in-Some.variable
    (c.pop.ensures.items ∙ ap (λ o. left.items ++ option_to_list o) c.in-Some.is)
    none)

pub returns : goal.returns
returns c = λ greatest.
    let left = c.pop.new.self in
    let some : 0 < length left.items =
    omega (arith, left.ok.0, eqb-false (vec_len left) 0 (sym c.is_empty.ensures ∙ c.if-is_empty.false)) in
    address_of_more greatest c.args.arguments.items left.items c.in-Some.variable
    (c.pop.ensures.items ∙ ap (λ o. left.items ++ option_to_list o) c.in-Some.is)
    some
