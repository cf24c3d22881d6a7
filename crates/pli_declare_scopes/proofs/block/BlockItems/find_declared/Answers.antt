use Rattle.std.proofs.Common.{◌≡◌, [], None, sym, ap, arith}
use Rattle.std.specs.Prelude.{if◌then◌else◌, Some}
use Rattle.std.proofs.lemmas.List.{nil_from_length}
use Rattle.pli_declare_scopes.specs.Scopes.{declares_first, found_in}
use Rattle.pli_declare_scopes.proofs.ChainLemmas.{none_is}
use Rattle.pli_declare_scopes.proofs.FoundWhereDeclared.{none_declared, some_declared, last_stands, last_is_named}
use Rattle.pli_declare_scopes.proofs.block.BlockItems.find_declared.Goals as goal

pub returns-in_default : goal.returns-in_default
returns-in_default c =
    let none : c.args.names.now ≡ [] = nil_from_length c.args.names.now (omega (arith, c.in_default.ensures.item)) in
    ap (λ names. if declares_first c.args.self.now names then Some (found_in c.args.self.now names) else None) (sym none)

pub returns-in_default-last_of : goal.returns-in_default-last_of
returns-in_default-last_of c =
    let first = c.in-Some.first.now in
    let some = c.in-Some.ensures.item.3 in
    none_declared c.args.self.now c.args.names.now first c.last_of.result some.0 (some.1 first) c.last_of.ensures (none_is c.last_of.result c.in_default-last_of.not-Some)

pub found_with-requires-clause-some : goal.found_with-requires-clause-some
found_with-requires-clause-some c = c.in-Some.ensures.item.3.0

pub found_with-requires-clause-within : goal.found_with-requires-clause-within
found_with-requires-clause-within c =
    let n = c.in-Some-last_of.number in
    last_stands c.args.self.now c.in-Some.first.now c.last_of.result n c.last_of.ensures c.in-Some-last_of.is

pub found_with-requires-clause-named : goal.found_with-requires-clause-named
found_with-requires-clause-named c =
    let first = c.in-Some.first.now in
    let some = c.in-Some.ensures.item.3 in
    last_is_named c.args.self.now c.args.names.now first c.last_of.result c.in-Some-last_of.number some.0 (some.1 first) c.last_of.ensures c.in-Some-last_of.is

pub returns : goal.returns
returns c =
    let first = c.in-Some.first.now in
    let some = c.in-Some.ensures.item.3 in
    some_declared c.args.self.now c.args.names.now first c.last_of.result c.in-Some-last_of.number c.found_with.result some.0 (some.1 first) c.last_of.ensures c.in-Some-last_of.is c.found_with.ensures
