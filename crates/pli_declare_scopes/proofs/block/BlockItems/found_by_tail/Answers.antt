use Rattle.std.proofs.Common.{◌≡◌, ◌<◌, true, length, drop, if◌then◌else◌, ap, sym, subst, ◌∙◌, arith}
use Rattle.pli_declare_scopes.specs.Scopes.{fits}
use Rattle.pli_declare_scopes.specs.declared.found.Found.TheVariants.{Nothing, One}
use Rattle.pli_declare_scopes.specs.answers.Remembered.{found_fitting}
use Rattle.pli_declare_scopes.proofs.TailsFound.{none_by_tail, one_by_tail, one_within, one_fits}
use Rattle.pli_declare_scopes.proofs.block.BlockItems.found_by_tail.Goals as goal

pub found_alone-requires-clause-within : goal.found_alone-requires-clause-within
found_alone-requires-clause-within c =
    subst (λ block. c.in-One.number < length block) (sym c.in_ok-found_of_tail.ensures.kept)
    (one_within c.args.self.now c.in-Some._first.now c.in-Some.tail.now (omega (arith, c.if-tail-lt2.false)) c.in-One.number (sym c.in_ok-found_of_tail.ensures.found ∙ c.in-One.is))

pub found_alone-requires-clause-fitting : goal.found_alone-requires-clause-fitting
found_alone-requires-clause-fitting c =
    subst (λ block. fits block (drop 1 c.args.names.now) c.in-One.number ≡ true) (sym c.in_ok-found_of_tail.ensures.kept)
    (subst (λ names. fits c.args.self.now (drop 1 names) c.in-One.number ≡ true) (sym c.in-Some.ensures.cases.0)
    (one_fits c.args.self.now c.in-Some._first.now c.in-Some.tail.now (omega (arith, c.if-tail-lt2.false)) c.in-One.number (sym c.in_ok-found_of_tail.ensures.found ∙ c.in-One.is)))

pub returns-in-Nothing-clause-found : goal.returns-in-Nothing-clause-found
returns-in-Nothing-clause-found c =
    sym (ap (found_fitting c.args.self.now) c.in-Some.ensures.cases.0
    ∙ none_by_tail c.args.self.now c.in-Some._first.now c.in-Some.tail.now (omega (arith, c.if-tail-lt2.false)) (sym c.in_ok-found_of_tail.ensures.found ∙ c.in-Nothing.is))

pub returns-in-One-clause-found : goal.returns-in-One-clause-found
returns-in-One-clause-found c =
    let names = c.in-Some.ensures.cases.0 in
    c.found_alone.ensures
    ∙ ap (λ block. if fits block c.args.names.now c.in-One.number then One c.in-One.number else Nothing) c.in_ok-found_of_tail.ensures.kept
    ∙ ap (λ ns. if fits c.args.self.now ns c.in-One.number then One c.in-One.number else Nothing) names
    ∙ sym (ap (found_fitting c.args.self.now) names
    ∙ one_by_tail c.args.self.now c.in-Some._first.now c.in-Some.tail.now (omega (arith, c.if-tail-lt2.false)) c.in-One.number (sym c.in_ok-found_of_tail.ensures.found ∙ c.in-One.is))
