use Rattle.std.proofs.Common.{subst, ◌≡◌, ◌-◌, ◌<◌, [], length, get_or, Some, if◌then◌else◌, sym, ap, ◌∙◌, arith}
use Rattle.std.proofs.lemmas.List.{nil_from_length}
use Rattle.std.specs.Prelude.{reverse, take}
use Rattle.indexmap.specs.IndexMap.{get}
use Rattle.pli_base.specs.Words.{same_name}
use Rattle.pli_declare_scopes.specs.Scopes.{item_at, chain_over, is_part, fits, found_below, with_number}
use Rattle.pli_declare_scopes.specs.declared.found.Found.TheVariants.{Nothing}
use Rattle.pli_declare_scopes.specs.answers.Leaps.{rank}
use Rattle.pli_declare_scopes.specs.answers.Reaches.{IsCandidate}
use Rattle.pli_declare_scopes.proofs.CandidateLemmas.{no_names, linked, looking_first, looking_several, looking_on, looking_ends, looking_leap, leap_ends, if_taken, if_passed}
use Rattle.pli_declare_scopes.proofs.block.BlockItems.found_partly.Goals as goal
use Rattle.pli_declare_scopes.proofs.block.BlockItems.found_partly.Goals.{then-fits, else-fits}

pub returns-in_default : goal.returns-in_default
returns-in_default c =
    let none : c.args.names.now ≡ [] = nil_from_length c.args.names.now (omega (arith, c.in_default.ensures.item.3)) in
    sym (ap (λ ns. found_below (fits c.args.self.now ns) (length c.args.self.now) Nothing) none ∙ no_names c.args.self.now)

pub loop-next-init : goal.loop-next-init
loop-next-init c =
    let items = c.self.inside.items.items in
    let names = c.args.names.now in
    let last = c.in-Some.ensures.item.3 in
    looking_first items c.self.invariant.0.owners names last.0 c.copied-next.result
    (c.copied-next.ensures ∙ c.get.ensures.value ∙ ap (get same_name c.self.inside.latest) (last.1 []) ∙ c.self.invariant.0.last (get_or names (length names - 1) []))

pub returns-in-Several : goal.returns-in-Several
returns-in-Several c =
    let items = c.self.inside.items.items in
    let names = c.args.names.now in
    let n = c.in-Some-next.number in
    let some = c.in-Some.ensures.item.3.0 in
    let h = c.loop-next.invariant in
    let told : c.if-fits.found ≡ (if c.fits.result then with_number n c.loop-next.found else c.loop-next.found) = elim c.if-fits.branch [
      | then-fits w ↦ if_taken _ _ _ _ w.if-fits.true (w.found-is ∙ w.with_number-found.ensures)
      | else-fits w ↦ if_passed _ _ _ _ w.if-fits.false w.found-is
    ] in
    looking_several items c.self.invariant.0.owners names some c.loop-next.next n c.loop-next.found c.if-fits.found c.fits.result h c.in-Some-next.is
    (subst (λ is. c.fits.result ≡ is_part (reverse (take (length names - 1) names)) (chain_over is (item_at is n).owner)) (sym c.self.view_is) c.fits.ensures) told c.in-Several.is
    ∙ ap (λ block. found_below (fits block names) (length block) Nothing) c.self.view_is

pub loop-next-smaller-then-eq : goal.loop-next-smaller-then-eq
loop-next-smaller-then-eq c =
    let items = c.self.inside.items.items in
    let kept = c.self.invariant.0 in
    let some = c.in-Some.ensures.item.3.0 in
    let next = c.index.result.now in
    looking_ends items kept.owners c.args.names.now some c.loop-next.next c.in-Some-next.number c.loop-next.found c.loop-next.invariant c.in-Some-next.is next
    (linked items kept.owners c.args.names.now some c.loop-next.next c.in-Some-next.number c.loop-next.found c.loop-next.invariant c.in-Some-next.is c.self.inside.earlier.items c.self.inside.latest kept next c.index.ensures)

pub loop-next-preserved-then-eq : goal.loop-next-preserved-then-eq
loop-next-preserved-then-eq c =
    let items = c.self.inside.items.items in
    let kept = c.self.invariant.0 in
    let names = c.args.names.now in
    let n = c.in-Some-next.number in
    let some = c.in-Some.ensures.item.3.0 in
    let next = c.index.result.now in
    let told : c.if-fits.found ≡ (if c.fits.result then with_number n c.loop-next.found else c.loop-next.found) = elim c.if-fits.branch [
      | then-fits w ↦ if_taken _ _ _ _ w.if-fits.true (w.found-is ∙ w.with_number-found.ensures)
      | else-fits w ↦ if_passed _ _ _ _ w.if-fits.false w.found-is
    ] in
    looking_on items kept.owners names some c.loop-next.next n c.loop-next.found c.loop-next.invariant c.in-Some-next.is next
    (linked items kept.owners names some c.loop-next.next n c.loop-next.found c.loop-next.invariant c.in-Some-next.is c.self.inside.earlier.items c.self.inside.latest kept next c.index.ensures)
    c.if-fits.found c.fits.result
    (subst (λ is. c.fits.result ≡ is_part (reverse (take (length names - 1) names)) (chain_over is (item_at is n).owner)) (sym c.self.view_is) c.fits.ensures)
    told

pub loop-next-smaller : goal.loop-next-smaller
loop-next-smaller c =
    let less : rank c.candidate-next.result < rank (Some c.in-Some-next.number) =
    leap_ends c.candidate-next.result c.in-Some-next.number c.candidate-next.ensures.bounded (sym c.eq.ensures ∙ c.if-eq.false) in
    subst (λ o. rank c.candidate-next.result < rank o) (sym c.in-Some-next.is) less

pub loop-next-preserved : goal.loop-next-preserved
loop-next-preserved c =
    looking_leap c.self.inside.items.items c.args.names.now c.loop-next.next c.in-Some-next.number c.loop-next.found c.loop-next.invariant c.in-Some-next.is c.candidate-next.result
    (subst (λ is. IsCandidate is c.args.names.now c.in-Some-next.number c.candidate-next.result) (sym c.self.view_is) c.candidate-next.ensures)
