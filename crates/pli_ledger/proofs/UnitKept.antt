-- What is kept of one unit, as it is expanded and compiled.
use Rattle.std.proofs.Common.{◌≡◌, ℕ, ◌+◌, ◌-◌, ◌^◌, Bool, true, false, not, Option, None, Some, refl, sym, ap, subst, ◌∙◌, arith, min}
use Rattle.pli_base.specs.Name.{Name}
use Rattle.pli_base.specs.Words.{Tokens}
use Rattle.pli_include.specs.Expanded.{Expanded, expansion_of}
use Rattle.pli_include.specs.Expanded.{holds}
use Rattle.pli_include.specs.declared.expansion.ExpansionFault.{ExpansionFault}
use Rattle.pli_members.specs.Members.{Store}
use Rattle.pli_ledger.specs.Kept.{Kept}
use Rattle.pli_ledger.specs.Refused.{Rises}
use Rattle.pli_ledger.specs.SameTexts.{same_texts}
use Rattle.pli_ledger.specs.Work.{compiled_by, due_by, is_compiled, stale_by}
use Rattle.pli_ledger.specs.WorkParts.{compiled_after, stale_kept}
use Rattle.pli_ledger.specs.answers.Compiling.{IsRecalled, one_if, recompiled, refreshed, unit_is_due, unit_is_stale}
use Rattle.pli_ledger.specs.views.KeptView.{texts_of}
use Rattle.pli_ledger.proofs.TextsSame.{texts_are, texts_themselves}

not_false : (b : Bool) → not b ≡ false → b ≡ true
not_false true h = refl
not_false false h = cc

-- an expansion that is not due is the members'
kept_is_fresh : (s : Store) (name : Name) (x : Option Expanded) → ((e : Expanded) → x ≡ Some e → holds s e.trace ≡ true → e ≡ expansion_of s name) → due_by s x ≡ false → x ≡ Some (expansion_of s name)
kept_is_fresh s name None recalled h = cc
kept_is_fresh s name (Some e) recalled h = ap Some (recalled e refl (not_false (holds s e.trace) h))

pub not_due : (s : Store) (u : Name × Kept) → IsRecalled s u → unit_is_due s u ≡ false → u ≡ refreshed s u
not_due s u recalled h = let is = kept_is_fresh s u.0 u.1.expansion recalled h in λ i. (u.0, record { expansion = is i; compiled = u.1.compiled })

-- what is not stale stays as it is
compiled_stays : (fault : Option ExpansionFault) (texts : Tokens) (before : Option Tokens) → stale_by fault texts before ≡ false → before ≡ compiled_by fault texts before
compiled_stays (Some fault) texts before h = refl
compiled_stays None texts None h = cc
compiled_stays None texts (Some b) h = ap Some (texts_are b texts (not_false (same_texts b texts) h))

kept_stays : (last : Option Expanded) (before : Option Tokens) → stale_kept last before ≡ false → before ≡ compiled_after last before
kept_stays None before h = refl
kept_stays (Some e) before h = compiled_stays e.fault e.texts before h

pub not_stale : (u : Name × Kept) → unit_is_stale u ≡ false → u ≡ recompiled u
not_stale u h = let is = kept_stays u.1.expansion u.1.compiled h in λ i. (u.0, record { expansion = u.1.expansion; compiled = is i })

-- a result is put for what is stale
put_for : (fault : Option ExpansionFault) (texts : Tokens) (before : Option Tokens) → stale_by fault texts before ≡ true → Some texts ≡ compiled_by fault texts before
put_for (Some fault) texts before h = cc
put_for None texts before h = refl

pub result_put : {R : Type 0} (last : Option Expanded) (before : Option Tokens) (r : R) → stale_kept last before ≡ true → texts_of last None (Some r) ≡ compiled_after last before
result_put None before r h = cc
result_put (Some e) before r h = put_for e.fault e.texts before h

-- an expansion of the same texts is dropped
pub same_forgotten : {R : Type 0} (e : Expanded) (before : Option Expanded) (r : Option R) → is_compiled e.texts (texts_of (Some e) before r) ≡ true → texts_of (Some e) None r ≡ texts_of (Some e) before r
same_forgotten e before None h = refl
same_forgotten e None (Some r) h = refl
same_forgotten e (Some b) (Some r) h = ap Some (sym (texts_are b.texts e.texts h))

-- a count that rises by one, and one that stays
pub risen_by_one : (old new : ℕ) → new ≡ min (old + 1) (2 ^ 64 - 1) → Rises old 1 new
risen_by_one old new is = λ fits. omega arith

pub risen_by_none : (old new : ℕ) (b : Bool) → b ≡ false → new ≡ old → Rises old (one_if b) new
risen_by_none old new true h same = cc
risen_by_none old new false h same = λ fits. omega arith

-- texts that were compiled are the same as themselves
pub itself_compiled : {R : Type 0} (e : Expanded) (before : Option Expanded) (r : Option R) (x : R) → r ≡ Some x → before ≡ None → true ≡ is_compiled e.texts (texts_of (Some e) before r)
itself_compiled e before r x some none =
    sym (ap (λ (q : Option Expanded). is_compiled e.texts (texts_of (Some e) q r)) none ∙ ap (λ q. is_compiled e.texts (texts_of (Some e) None q)) some ∙ texts_themselves e.texts)

pub forgotten : {R : Type 0} (last : Option Expanded) (e : Expanded) (before : Option Expanded) (r : Option R) → last ≡ Some e → is_compiled e.texts (texts_of (Some e) before r) ≡ true → texts_of last None r ≡ texts_of last before r
forgotten last e before r is h = subst (λ (x : Option Expanded). texts_of x None r ≡ texts_of x before r) (sym is) (same_forgotten e before r h)
