use Rattle.std.proofs.Common.{ap, arith, length, subst, sym, ◌∙◌}
use Rattle.std.proofs.lemmas.Result.{err_from_is_err_and}
use Rattle.pli_meaning.specs.Scratch.{sources}
use Rattle.pli_ledger.specs.Fits.{Fits}
use Rattle.pli_ledger.specs.Kept.{Ledger, Units}
use Rattle.pli_ledger.specs.answers.Aligning.{aligned}
use Rattle.pli_ledger.specs.answers.Compiling.{refreshed, unit_is_due}
use Rattle.pli_ledger.specs.answers.Passing.{PassedUpTo}
use Rattle.pli_ledger.proofs.BuildsStand.{compilations_refused, due_counted, due_risen, expansions_refused, first_settled, fits_refused, none_settled, recalled_all, refused, second_done, second_settled, stale_counted, stale_risen}
use Rattle.pli_ledger.proofs.FitsThroughBuilds.{after_fits}
use Rattle.pli_ledger.proofs.KeptMoved.{whole}
use Rattle.pli_ledger.proofs.UnitsTold.{text_after, units_after}
use Rattle.pli_ledger.proofs.ledger.Ledger.build.Goals as goal

pub returns-in_err-aligned-clause-refused : goal.returns-in_err-aligned-clause-refused
returns-in_err-aligned-clause-refused c =
    let s = c.args.members.now in
    let l = c.args.self.now in
    let kept = c.entries.ensures.kept in
    let a = c.args.expander.now in
    let k = c.args.compiler.now in
    let settled = none_settled l.units c.align.new.units s a k (c.in_err-aligned.ensures.refused ∙ c.as_mut_slice-before.ensures.value ∙ ap (λ (x : Ledger). x.units) c.self.view_is) in
    let p = err_from_is_err_and c.from_residual.result c.from_residual.ensures.1 in
    rw p.1 (refused s l kept c.requires.fits _ _ c.align.new.units (omega arith) (omega arith) a k a k settled _ _ (ap (λ (x : Ledger). x.expanded) c.self.view_is) (ap (λ (x : Ledger). x.compiled) c.self.view_is))

pub returns-in_err-aligned-clause-expansions_refused : goal.returns-in_err-aligned-clause-expansions_refused
returns-in_err-aligned-clause-expansions_refused c =
    let s = c.args.members.now in
    let l = c.args.self.now in
    let kept = c.entries.ensures.kept in
    let a = c.args.expander.now in
    let k = c.args.compiler.now in
    let settled = none_settled l.units c.align.new.units s a k (c.in_err-aligned.ensures.refused ∙ c.as_mut_slice-before.ensures.value ∙ ap (λ (x : Ledger). x.units) c.self.view_is) in
    let p = err_from_is_err_and c.from_residual.result c.from_residual.ensures.1 in
    rw p.1 (expansions_refused s l kept c.requires.fits _ _ c.align.new.units (omega arith) (omega arith) a k a k settled)

pub returns-in_err-aligned-clause-compilations_refused : goal.returns-in_err-aligned-clause-compilations_refused
returns-in_err-aligned-clause-compilations_refused c =
    let s = c.args.members.now in
    let l = c.args.self.now in
    let kept = c.entries.ensures.kept in
    let a = c.args.expander.now in
    let k = c.args.compiler.now in
    let settled = none_settled l.units c.align.new.units s a k (c.in_err-aligned.ensures.refused ∙ c.as_mut_slice-before.ensures.value ∙ ap (λ (x : Ledger). x.units) c.self.view_is) in
    let p = err_from_is_err_and c.from_residual.result c.from_residual.ensures.1 in
    rw p.1 (compilations_refused s l kept c.requires.fits _ _ c.align.new.units (omega arith) (omega arith) a k a k settled)

pub returns-in_err-aligned-clause-fits : goal.returns-in_err-aligned-clause-fits
returns-in_err-aligned-clause-fits c =
    let s = c.args.members.now in
    let l = c.args.self.now in
    let kept = c.entries.ensures.kept in
    let a = c.args.expander.now in
    let k = c.args.compiler.now in
    let settled = none_settled l.units c.align.new.units s a k (c.in_err-aligned.ensures.refused ∙ c.as_mut_slice-before.ensures.value ∙ ap (λ (x : Ledger). x.units) c.self.view_is) in
    fits_refused s l kept c.requires.fits _ _ c.align.new.units (omega arith) (omega arith) a k a k settled

pub expand_due-requires : goal.expand_due-requires
expand_due-requires c =
    let s = c.args.members.now in
    let l = c.args.self.now in
    let kept = c.entries.ensures.kept in
    recalled_all l.units s c.as_mut_slice-due.result.now c.requires.fits (c.as_mut_slice-due.ensures.value ∙ c.in_ok-aligned.ensures.aligned ∙ ap (λ (us : Units). aligned us (sources s.entries)) (c.as_mut_slice-before.ensures.value ∙ ap (λ (x : Ledger). x.units) c.self.view_is))

pub returns-in_err-expanded-clause-refused : goal.returns-in_err-expanded-clause-refused
returns-in_err-expanded-clause-refused c =
    let s = c.args.members.now in
    let l = c.args.self.now in
    let kept = c.entries.ensures.kept in
    let al = c.as_mut_slice-due.result.now in
    let is = c.as_mut_slice-due.ensures.value ∙ c.in_ok-aligned.ensures.aligned ∙ ap (λ (us : Units). aligned us (sources s.entries)) (c.as_mut_slice-before.ensures.value ∙ ap (λ (x : Ledger). x.units) c.self.view_is) in
    let a = c.args.expander.now in
    let b = c.expand_due.new.expander in
    let k = c.args.compiler.now in
    let settled = first_settled l.units s kept al c.expand_due.new.units is a b c.in_err-expanded.ensures.some.0 k c.in_err-expanded.ensures.some.1 in
    let p = err_from_is_err_and c.from_residual-in_err-expanded.result c.from_residual-in_err-expanded.ensures.1 in
    rw p.1 (refused s l kept c.requires.fits _ _ c.expand_due.new.units (omega arith) (omega arith) a k b k settled _ _ (ap (λ (x : Ledger). x.expanded) c.self.view_is) (ap (λ (x : Ledger). x.compiled) c.self.view_is))

pub returns-in_err-expanded-clause-expansions_refused : goal.returns-in_err-expanded-clause-expansions_refused
returns-in_err-expanded-clause-expansions_refused c =
    let s = c.args.members.now in
    let l = c.args.self.now in
    let kept = c.entries.ensures.kept in
    let al = c.as_mut_slice-due.result.now in
    let is = c.as_mut_slice-due.ensures.value ∙ c.in_ok-aligned.ensures.aligned ∙ ap (λ (us : Units). aligned us (sources s.entries)) (c.as_mut_slice-before.ensures.value ∙ ap (λ (x : Ledger). x.units) c.self.view_is) in
    let a = c.args.expander.now in
    let b = c.expand_due.new.expander in
    let k = c.args.compiler.now in
    let settled = first_settled l.units s kept al c.expand_due.new.units is a b c.in_err-expanded.ensures.some.0 k c.in_err-expanded.ensures.some.1 in
    let p = err_from_is_err_and c.from_residual-in_err-expanded.result c.from_residual-in_err-expanded.ensures.1 in
    rw p.1 (expansions_refused s l kept c.requires.fits _ _ c.expand_due.new.units (omega arith) (omega arith) a k b k settled)

pub returns-in_err-expanded-clause-compilations_refused : goal.returns-in_err-expanded-clause-compilations_refused
returns-in_err-expanded-clause-compilations_refused c =
    let s = c.args.members.now in
    let l = c.args.self.now in
    let kept = c.entries.ensures.kept in
    let al = c.as_mut_slice-due.result.now in
    let is = c.as_mut_slice-due.ensures.value ∙ c.in_ok-aligned.ensures.aligned ∙ ap (λ (us : Units). aligned us (sources s.entries)) (c.as_mut_slice-before.ensures.value ∙ ap (λ (x : Ledger). x.units) c.self.view_is) in
    let a = c.args.expander.now in
    let b = c.expand_due.new.expander in
    let k = c.args.compiler.now in
    let settled = first_settled l.units s kept al c.expand_due.new.units is a b c.in_err-expanded.ensures.some.0 k c.in_err-expanded.ensures.some.1 in
    let p = err_from_is_err_and c.from_residual-in_err-expanded.result c.from_residual-in_err-expanded.ensures.1 in
    rw p.1 (compilations_refused s l kept c.requires.fits _ _ c.expand_due.new.units (omega arith) (omega arith) a k b k settled)

pub returns-in_err-expanded-clause-fits : goal.returns-in_err-expanded-clause-fits
returns-in_err-expanded-clause-fits c =
    let s = c.args.members.now in
    let l = c.args.self.now in
    let kept = c.entries.ensures.kept in
    let al = c.as_mut_slice-due.result.now in
    let is = c.as_mut_slice-due.ensures.value ∙ c.in_ok-aligned.ensures.aligned ∙ ap (λ (us : Units). aligned us (sources s.entries)) (c.as_mut_slice-before.ensures.value ∙ ap (λ (x : Ledger). x.units) c.self.view_is) in
    let a = c.args.expander.now in
    let b = c.expand_due.new.expander in
    let k = c.args.compiler.now in
    let settled = first_settled l.units s kept al c.expand_due.new.units is a b c.in_err-expanded.ensures.some.0 k c.in_err-expanded.ensures.some.1 in
    fits_refused s l kept c.requires.fits _ _ c.expand_due.new.units (omega arith) (omega arith) a k b k settled

pub returns-in_err-compiled-clause-refused : goal.returns-in_err-compiled-clause-refused
returns-in_err-compiled-clause-refused c =
    let s = c.args.members.now in
    let l = c.args.self.now in
    let kept = c.entries.ensures.kept in
    let al = c.as_mut_slice-due.result.now in
    let is = c.as_mut_slice-due.ensures.value ∙ c.in_ok-aligned.ensures.aligned ∙ ap (λ (us : Units). aligned us (sources s.entries)) (c.as_mut_slice-before.ensures.value ∙ ap (λ (x : Ledger). x.units) c.self.view_is) in
    let a = c.args.expander.now in
    let b = c.expand_due.new.expander in
    let k = c.args.compiler.now in
    let mid = c.as_mut_slice-stale.result.now in
    let new = c.compile_stale.new.units in
    let d = c.compile_stale.new.compiler in
    let mid_is = c.as_mut_slice-stale.ensures.value ∙ whole _ _ c.expand_due.new.units (omega arith) (omega arith) in
    let lent = ap length c.as_mut_slice-stale.ensures.value in
    let long = ap length mid_is in
    let passed = subst (λ (us : Units). PassedUpTo (refreshed s) (unit_is_due s) (length al) al us a b) (sym mid_is) c.in_ok-expanded.ensures.all in
    let settled = second_settled l.units s kept al mid is a b passed new k d c.in_err-compiled.ensures.some.0 c.in_err-compiled.ensures.some.1 in
    let p = err_from_is_err_and c.from_residual-in_err-compiled.result c.from_residual-in_err-compiled.ensures.1 in
    rw p.1 (refused s l kept c.requires.fits _ _ new (omega (arith, lent, long)) (omega (arith, lent, long)) a k b d settled _ _ (ap (λ (x : Ledger). x.expanded) c.self.view_is) (ap (λ (x : Ledger). x.compiled) c.self.view_is))

pub returns-in_err-compiled-clause-expansions_refused : goal.returns-in_err-compiled-clause-expansions_refused
returns-in_err-compiled-clause-expansions_refused c =
    let s = c.args.members.now in
    let l = c.args.self.now in
    let kept = c.entries.ensures.kept in
    let al = c.as_mut_slice-due.result.now in
    let is = c.as_mut_slice-due.ensures.value ∙ c.in_ok-aligned.ensures.aligned ∙ ap (λ (us : Units). aligned us (sources s.entries)) (c.as_mut_slice-before.ensures.value ∙ ap (λ (x : Ledger). x.units) c.self.view_is) in
    let a = c.args.expander.now in
    let b = c.expand_due.new.expander in
    let k = c.args.compiler.now in
    let mid = c.as_mut_slice-stale.result.now in
    let new = c.compile_stale.new.units in
    let d = c.compile_stale.new.compiler in
    let mid_is = c.as_mut_slice-stale.ensures.value ∙ whole _ _ c.expand_due.new.units (omega arith) (omega arith) in
    let lent = ap length c.as_mut_slice-stale.ensures.value in
    let long = ap length mid_is in
    let passed = subst (λ (us : Units). PassedUpTo (refreshed s) (unit_is_due s) (length al) al us a b) (sym mid_is) c.in_ok-expanded.ensures.all in
    let settled = second_settled l.units s kept al mid is a b passed new k d c.in_err-compiled.ensures.some.0 c.in_err-compiled.ensures.some.1 in
    let p = err_from_is_err_and c.from_residual-in_err-compiled.result c.from_residual-in_err-compiled.ensures.1 in
    rw p.1 (expansions_refused s l kept c.requires.fits _ _ new (omega (arith, lent, long)) (omega (arith, lent, long)) a k b d settled)

pub returns-in_err-compiled-clause-compilations_refused : goal.returns-in_err-compiled-clause-compilations_refused
returns-in_err-compiled-clause-compilations_refused c =
    let s = c.args.members.now in
    let l = c.args.self.now in
    let kept = c.entries.ensures.kept in
    let al = c.as_mut_slice-due.result.now in
    let is = c.as_mut_slice-due.ensures.value ∙ c.in_ok-aligned.ensures.aligned ∙ ap (λ (us : Units). aligned us (sources s.entries)) (c.as_mut_slice-before.ensures.value ∙ ap (λ (x : Ledger). x.units) c.self.view_is) in
    let a = c.args.expander.now in
    let b = c.expand_due.new.expander in
    let k = c.args.compiler.now in
    let mid = c.as_mut_slice-stale.result.now in
    let new = c.compile_stale.new.units in
    let d = c.compile_stale.new.compiler in
    let mid_is = c.as_mut_slice-stale.ensures.value ∙ whole _ _ c.expand_due.new.units (omega arith) (omega arith) in
    let lent = ap length c.as_mut_slice-stale.ensures.value in
    let long = ap length mid_is in
    let passed = subst (λ (us : Units). PassedUpTo (refreshed s) (unit_is_due s) (length al) al us a b) (sym mid_is) c.in_ok-expanded.ensures.all in
    let settled = second_settled l.units s kept al mid is a b passed new k d c.in_err-compiled.ensures.some.0 c.in_err-compiled.ensures.some.1 in
    let p = err_from_is_err_and c.from_residual-in_err-compiled.result c.from_residual-in_err-compiled.ensures.1 in
    rw p.1 (compilations_refused s l kept c.requires.fits _ _ new (omega (arith, lent, long)) (omega (arith, lent, long)) a k b d settled)

pub returns-in_err-compiled-clause-fits : goal.returns-in_err-compiled-clause-fits
returns-in_err-compiled-clause-fits c =
    let s = c.args.members.now in
    let l = c.args.self.now in
    let kept = c.entries.ensures.kept in
    let al = c.as_mut_slice-due.result.now in
    let is = c.as_mut_slice-due.ensures.value ∙ c.in_ok-aligned.ensures.aligned ∙ ap (λ (us : Units). aligned us (sources s.entries)) (c.as_mut_slice-before.ensures.value ∙ ap (λ (x : Ledger). x.units) c.self.view_is) in
    let a = c.args.expander.now in
    let b = c.expand_due.new.expander in
    let k = c.args.compiler.now in
    let mid = c.as_mut_slice-stale.result.now in
    let new = c.compile_stale.new.units in
    let d = c.compile_stale.new.compiler in
    let mid_is = c.as_mut_slice-stale.ensures.value ∙ whole _ _ c.expand_due.new.units (omega arith) (omega arith) in
    let lent = ap length c.as_mut_slice-stale.ensures.value in
    let long = ap length mid_is in
    let passed = subst (λ (us : Units). PassedUpTo (refreshed s) (unit_is_due s) (length al) al us a b) (sym mid_is) c.in_ok-expanded.ensures.all in
    let settled = second_settled l.units s kept al mid is a b passed new k d c.in_err-compiled.ensures.some.0 c.in_err-compiled.ensures.some.1 in
    fits_refused s l kept c.requires.fits _ _ new (omega (arith, lent, long)) (omega (arith, lent, long)) a k b d settled

pub returns-in_err-outcome-clause-refused : goal.returns-in_err-outcome-clause-refused
returns-in_err-outcome-clause-refused c =
    let s = c.args.members.now in
    let l = c.args.self.now in
    let kept = c.entries.ensures.kept in
    let al = c.as_mut_slice-due.result.now in
    let is = c.as_mut_slice-due.ensures.value ∙ c.in_ok-aligned.ensures.aligned ∙ ap (λ (us : Units). aligned us (sources s.entries)) (c.as_mut_slice-before.ensures.value ∙ ap (λ (x : Ledger). x.units) c.self.view_is) in
    let a = c.args.expander.now in
    let b = c.expand_due.new.expander in
    let k = c.args.compiler.now in
    let mid = c.as_mut_slice-stale.result.now in
    let new = c.compile_stale.new.units in
    let d = c.compile_stale.new.compiler in
    let mid_is = c.as_mut_slice-stale.ensures.value ∙ whole _ _ c.expand_due.new.units (omega arith) (omega arith) in
    let lent = ap length c.as_mut_slice-stale.ensures.value in
    let long = ap length mid_is in
    let passed = subst (λ (us : Units). PassedUpTo (refreshed s) (unit_is_due s) (length al) al us a b) (sym mid_is) c.in_ok-expanded.ensures.all in
    let settled = second_settled l.units s kept al mid is a b passed new k d (length mid) c.in_ok-compiled.ensures.all in
    let p = err_from_is_err_and c.from_residual-in_err-outcome.result c.from_residual-in_err-outcome.ensures.1 in
    rw p.1 (refused s l kept c.requires.fits _ _ new (omega (arith, lent, long)) (omega (arith, lent, long)) a k b d settled _ _ (ap (λ (x : Ledger). x.expanded) c.self.view_is) (ap (λ (x : Ledger). x.compiled) c.self.view_is))

pub returns-in_err-outcome-clause-expansions_refused : goal.returns-in_err-outcome-clause-expansions_refused
returns-in_err-outcome-clause-expansions_refused c =
    let s = c.args.members.now in
    let l = c.args.self.now in
    let kept = c.entries.ensures.kept in
    let al = c.as_mut_slice-due.result.now in
    let is = c.as_mut_slice-due.ensures.value ∙ c.in_ok-aligned.ensures.aligned ∙ ap (λ (us : Units). aligned us (sources s.entries)) (c.as_mut_slice-before.ensures.value ∙ ap (λ (x : Ledger). x.units) c.self.view_is) in
    let a = c.args.expander.now in
    let b = c.expand_due.new.expander in
    let k = c.args.compiler.now in
    let mid = c.as_mut_slice-stale.result.now in
    let new = c.compile_stale.new.units in
    let d = c.compile_stale.new.compiler in
    let mid_is = c.as_mut_slice-stale.ensures.value ∙ whole _ _ c.expand_due.new.units (omega arith) (omega arith) in
    let lent = ap length c.as_mut_slice-stale.ensures.value in
    let long = ap length mid_is in
    let passed = subst (λ (us : Units). PassedUpTo (refreshed s) (unit_is_due s) (length al) al us a b) (sym mid_is) c.in_ok-expanded.ensures.all in
    let settled = second_settled l.units s kept al mid is a b passed new k d (length mid) c.in_ok-compiled.ensures.all in
    let p = err_from_is_err_and c.from_residual-in_err-outcome.result c.from_residual-in_err-outcome.ensures.1 in
    rw p.1 (expansions_refused s l kept c.requires.fits _ _ new (omega (arith, lent, long)) (omega (arith, lent, long)) a k b d settled)

pub returns-in_err-outcome-clause-compilations_refused : goal.returns-in_err-outcome-clause-compilations_refused
returns-in_err-outcome-clause-compilations_refused c =
    let s = c.args.members.now in
    let l = c.args.self.now in
    let kept = c.entries.ensures.kept in
    let al = c.as_mut_slice-due.result.now in
    let is = c.as_mut_slice-due.ensures.value ∙ c.in_ok-aligned.ensures.aligned ∙ ap (λ (us : Units). aligned us (sources s.entries)) (c.as_mut_slice-before.ensures.value ∙ ap (λ (x : Ledger). x.units) c.self.view_is) in
    let a = c.args.expander.now in
    let b = c.expand_due.new.expander in
    let k = c.args.compiler.now in
    let mid = c.as_mut_slice-stale.result.now in
    let new = c.compile_stale.new.units in
    let d = c.compile_stale.new.compiler in
    let mid_is = c.as_mut_slice-stale.ensures.value ∙ whole _ _ c.expand_due.new.units (omega arith) (omega arith) in
    let lent = ap length c.as_mut_slice-stale.ensures.value in
    let long = ap length mid_is in
    let passed = subst (λ (us : Units). PassedUpTo (refreshed s) (unit_is_due s) (length al) al us a b) (sym mid_is) c.in_ok-expanded.ensures.all in
    let settled = second_settled l.units s kept al mid is a b passed new k d (length mid) c.in_ok-compiled.ensures.all in
    let p = err_from_is_err_and c.from_residual-in_err-outcome.result c.from_residual-in_err-outcome.ensures.1 in
    rw p.1 (compilations_refused s l kept c.requires.fits _ _ new (omega (arith, lent, long)) (omega (arith, lent, long)) a k b d settled)

pub returns-in_err-outcome-clause-fits : goal.returns-in_err-outcome-clause-fits
returns-in_err-outcome-clause-fits c =
    let s = c.args.members.now in
    let l = c.args.self.now in
    let kept = c.entries.ensures.kept in
    let al = c.as_mut_slice-due.result.now in
    let is = c.as_mut_slice-due.ensures.value ∙ c.in_ok-aligned.ensures.aligned ∙ ap (λ (us : Units). aligned us (sources s.entries)) (c.as_mut_slice-before.ensures.value ∙ ap (λ (x : Ledger). x.units) c.self.view_is) in
    let a = c.args.expander.now in
    let b = c.expand_due.new.expander in
    let k = c.args.compiler.now in
    let mid = c.as_mut_slice-stale.result.now in
    let new = c.compile_stale.new.units in
    let d = c.compile_stale.new.compiler in
    let mid_is = c.as_mut_slice-stale.ensures.value ∙ whole _ _ c.expand_due.new.units (omega arith) (omega arith) in
    let lent = ap length c.as_mut_slice-stale.ensures.value in
    let long = ap length mid_is in
    let passed = subst (λ (us : Units). PassedUpTo (refreshed s) (unit_is_due s) (length al) al us a b) (sym mid_is) c.in_ok-expanded.ensures.all in
    let settled = second_settled l.units s kept al mid is a b passed new k d (length mid) c.in_ok-compiled.ensures.all in
    fits_refused s l kept c.requires.fits _ _ new (omega (arith, lent, long)) (omega (arith, lent, long)) a k b d settled

pub outcome_of-requires-clause-text : goal.outcome_of-requires-clause-text
outcome_of-requires-clause-text c =
    let s = c.args.members.now in
    let l = c.args.self.now in
    let kept = c.entries.ensures.kept in
    let al = c.as_mut_slice-due.result.now in
    let is = c.as_mut_slice-due.ensures.value ∙ c.in_ok-aligned.ensures.aligned ∙ ap (λ (us : Units). aligned us (sources s.entries)) (c.as_mut_slice-before.ensures.value ∙ ap (λ (x : Ledger). x.units) c.self.view_is) in
    let a = c.args.expander.now in
    let b = c.expand_due.new.expander in
    let k = c.args.compiler.now in
    let mid = c.as_mut_slice-stale.result.now in
    let new = c.compile_stale.new.units in
    let d = c.compile_stale.new.compiler in
    let mid_is = c.as_mut_slice-stale.ensures.value ∙ whole _ _ c.expand_due.new.units (omega arith) (omega arith) in
    let lent = ap length c.as_mut_slice-stale.ensures.value in
    let long = ap length mid_is in
    let passed = subst (λ (us : Units). PassedUpTo (refreshed s) (unit_is_due s) (length al) al us a b) (sym mid_is) c.in_ok-expanded.ensures.all in
    let done = second_done l.units s kept al mid is a b passed new k d c.in_ok-compiled.ensures.all in
    text_after l.units c.as_slice-all.result.now s (c.as_slice-all.ensures.value ∙ whole _ _ new (omega (arith, lent, long)) (omega (arith, lent, long)) ∙ done)

pub outcome_of-requires-clause-units : goal.outcome_of-requires-clause-units
outcome_of-requires-clause-units c =
    let s = c.args.members.now in
    let l = c.args.self.now in
    let kept = c.entries.ensures.kept in
    let al = c.as_mut_slice-due.result.now in
    let is = c.as_mut_slice-due.ensures.value ∙ c.in_ok-aligned.ensures.aligned ∙ ap (λ (us : Units). aligned us (sources s.entries)) (c.as_mut_slice-before.ensures.value ∙ ap (λ (x : Ledger). x.units) c.self.view_is) in
    let a = c.args.expander.now in
    let b = c.expand_due.new.expander in
    let k = c.args.compiler.now in
    let mid = c.as_mut_slice-stale.result.now in
    let new = c.compile_stale.new.units in
    let d = c.compile_stale.new.compiler in
    let mid_is = c.as_mut_slice-stale.ensures.value ∙ whole _ _ c.expand_due.new.units (omega arith) (omega arith) in
    let lent = ap length c.as_mut_slice-stale.ensures.value in
    let long = ap length mid_is in
    let passed = subst (λ (us : Units). PassedUpTo (refreshed s) (unit_is_due s) (length al) al us a b) (sym mid_is) c.in_ok-expanded.ensures.all in
    let done = second_done l.units s kept al mid is a b passed new k d c.in_ok-compiled.ensures.all in
    units_after l.units c.as_slice-all.result.now s (c.as_slice-all.ensures.value ∙ whole _ _ new (omega (arith, lent, long)) (omega (arith, lent, long)) ∙ done)

pub returns-clause-after : goal.returns-clause-after
returns-clause-after c =
    let s = c.args.members.now in
    let l = c.args.self.now in
    let kept = c.entries.ensures.kept in
    let al = c.as_mut_slice-due.result.now in
    let is = c.as_mut_slice-due.ensures.value ∙ c.in_ok-aligned.ensures.aligned ∙ ap (λ (us : Units). aligned us (sources s.entries)) (c.as_mut_slice-before.ensures.value ∙ ap (λ (x : Ledger). x.units) c.self.view_is) in
    let a = c.args.expander.now in
    let b = c.expand_due.new.expander in
    let k = c.args.compiler.now in
    let mid = c.as_mut_slice-stale.result.now in
    let new = c.compile_stale.new.units in
    let d = c.compile_stale.new.compiler in
    let mid_is = c.as_mut_slice-stale.ensures.value ∙ whole _ _ c.expand_due.new.units (omega arith) (omega arith) in
    let lent = ap length c.as_mut_slice-stale.ensures.value in
    let long = ap length mid_is in
    let passed = subst (λ (us : Units). PassedUpTo (refreshed s) (unit_is_due s) (length al) al us a b) (sym mid_is) c.in_ok-expanded.ensures.all in
    let done = second_done l.units s kept al mid is a b passed new k d c.in_ok-compiled.ensures.all in
    let units = whole _ _ new (omega (arith, lent, long)) (omega (arith, lent, long)) ∙ done in
    let expanded = c.in_ok-expanded.ensures.number ∙ due_counted l.units s kept al mid is a b in
    let compiled = c.in_ok-compiled.ensures.number ∙ stale_counted l.units s kept al mid is a b passed new k d in
    λ i. record { units = units i; expanded = expanded i; compiled = compiled i }

pub returns-clause-expansions : goal.returns-clause-expansions
returns-clause-expansions c =
    let s = c.args.members.now in
    let l = c.args.self.now in
    let kept = c.entries.ensures.kept in
    let al = c.as_mut_slice-due.result.now in
    let is = c.as_mut_slice-due.ensures.value ∙ c.in_ok-aligned.ensures.aligned ∙ ap (λ (us : Units). aligned us (sources s.entries)) (c.as_mut_slice-before.ensures.value ∙ ap (λ (x : Ledger). x.units) c.self.view_is) in
    let a = c.args.expander.now in
    let b = c.expand_due.new.expander in
    let k = c.args.compiler.now in
    let mid = c.as_mut_slice-stale.result.now in
    let new = c.compile_stale.new.units in
    let d = c.compile_stale.new.compiler in
    let mid_is = c.as_mut_slice-stale.ensures.value ∙ whole _ _ c.expand_due.new.units (omega arith) (omega arith) in
    let lent = ap length c.as_mut_slice-stale.ensures.value in
    let long = ap length mid_is in
    let passed = subst (λ (us : Units). PassedUpTo (refreshed s) (unit_is_due s) (length al) al us a b) (sym mid_is) c.in_ok-expanded.ensures.all in
    let done = second_done l.units s kept al mid is a b passed new k d c.in_ok-compiled.ensures.all in
    due_risen l.units s kept al mid is a b passed

pub returns-clause-compilations : goal.returns-clause-compilations
returns-clause-compilations c =
    let s = c.args.members.now in
    let l = c.args.self.now in
    let kept = c.entries.ensures.kept in
    let al = c.as_mut_slice-due.result.now in
    let is = c.as_mut_slice-due.ensures.value ∙ c.in_ok-aligned.ensures.aligned ∙ ap (λ (us : Units). aligned us (sources s.entries)) (c.as_mut_slice-before.ensures.value ∙ ap (λ (x : Ledger). x.units) c.self.view_is) in
    let a = c.args.expander.now in
    let b = c.expand_due.new.expander in
    let k = c.args.compiler.now in
    let mid = c.as_mut_slice-stale.result.now in
    let new = c.compile_stale.new.units in
    let d = c.compile_stale.new.compiler in
    let mid_is = c.as_mut_slice-stale.ensures.value ∙ whole _ _ c.expand_due.new.units (omega arith) (omega arith) in
    let lent = ap length c.as_mut_slice-stale.ensures.value in
    let long = ap length mid_is in
    let passed = subst (λ (us : Units). PassedUpTo (refreshed s) (unit_is_due s) (length al) al us a b) (sym mid_is) c.in_ok-expanded.ensures.all in
    let done = second_done l.units s kept al mid is a b passed new k d c.in_ok-compiled.ensures.all in
    stale_risen l.units s kept al mid is a b passed new k d c.in_ok-compiled.ensures.all

pub returns-clause-fits : goal.returns-clause-fits
returns-clause-fits c =
    let s = c.args.members.now in
    let l = c.args.self.now in
    let kept = c.entries.ensures.kept in
    let al = c.as_mut_slice-due.result.now in
    let is = c.as_mut_slice-due.ensures.value ∙ c.in_ok-aligned.ensures.aligned ∙ ap (λ (us : Units). aligned us (sources s.entries)) (c.as_mut_slice-before.ensures.value ∙ ap (λ (x : Ledger). x.units) c.self.view_is) in
    let a = c.args.expander.now in
    let b = c.expand_due.new.expander in
    let k = c.args.compiler.now in
    let mid = c.as_mut_slice-stale.result.now in
    let new = c.compile_stale.new.units in
    let d = c.compile_stale.new.compiler in
    let mid_is = c.as_mut_slice-stale.ensures.value ∙ whole _ _ c.expand_due.new.units (omega arith) (omega arith) in
    let lent = ap length c.as_mut_slice-stale.ensures.value in
    let long = ap length mid_is in
    let passed = subst (λ (us : Units). PassedUpTo (refreshed s) (unit_is_due s) (length al) al us a b) (sym mid_is) c.in_ok-expanded.ensures.all in
    let done = second_done l.units s kept al mid is a b passed new k d c.in_ok-compiled.ensures.all in
    subst (λ (us : Units). Fits us s) (sym (whole _ _ new (omega (arith, lent, long)) (omega (arith, lent, long)) ∙ done)) (after_fits l.units s kept c.requires.fits)

pub outcome_of-requires-clause-stands : goal.outcome_of-requires-clause-stands
outcome_of-requires-clause-stands c = c.requires.stands
