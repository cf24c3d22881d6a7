use Rattle.std.proofs.Common.{◌≡◌, [], sym, ap, ◌∙◌, arith}
use Rattle.std.specs.Prelude.{reverse}
use Rattle.std.proofs.lemmas.List.{nil_from_length}
use Rattle.pli_declare_scopes.specs.Scopes.{meant, meant_there}
use Rattle.pli_declare_scopes.proofs.OutwardLemmas.{no_reference, decided_here, decided_further}
use Rattle.pli_declare_scopes.proofs.scope.Scope.look_up.Goals as goal

pub returns-in_default : goal.returns-in_default
returns-in_default c =
    let none : c.args.names.now ≡ [] = nil_from_length c.args.names.now (omega (arith, c.in_default.ensures.item.3)) in
    sym (ap (meant c.args.self.now) none ∙ no_reference c.args.self.now 0)

pub returns-then-declares : goal.returns-then-declares
returns-then-declares c =
    let blocks = c.as_slice-blocks.result.now in
    let names = c.args.names.now in
    let first = c.in-Some.ensures.item.3 in
    c.meant.ensures ∙ ap (meant_there c.loop-out.out) c.find.ensures
    ∙ sym (decided_here blocks c.loop-out.out (omega arith) names c.in-Some.first.now first.0 (first.1 c.in-Some.first.now) c.index-blocks-blocks.result c.index-blocks-blocks.is
    c.declares.result c.declares.ensures c.if-declares.true)
    ∙ c.loop-out.invariant ∙ ap (λ bs. meant (reverse bs) names) c.as_slice-blocks.ensures.value ∙ ap (λ s. meant s names) c.self.view_is

pub loop-out-preserved : goal.loop-out-preserved
loop-out-preserved c =
    let blocks = c.as_slice-blocks.result.now in
    let names = c.args.names.now in
    let first = c.in-Some.ensures.item.3 in
    decided_further blocks c.loop-out.out (omega arith) names c.in-Some.first.now first.0 (first.1 c.in-Some.first.now) c.index-blocks-blocks.result c.index-blocks-blocks.is
    c.declares.result c.declares.ensures c.if-declares.false
    ∙ c.loop-out.invariant
