-- The faults of a unit as a whole stand exactly where they should.
use Rattle.std.proofs.Common.{◌≡◌, ◌+◌, ◌-◌, ℕ, Bool, true, false, cond, ◌⊎◌, [], ◌∷◌, ◌++◌, Option, Some, None, Result, Ok, Err, length, refl, ap, ◌∙◌, sym, subst, arith, inl, inr, ⊎_elim}
use Rattle.pli_base.specs.Name.{Name}
use Rattle.pli_base.specs.Words.{Tokens, is_procedure}
use Rattle.pli_base.specs.Results.{◌>>=◌}
use Rattle.pli_base.specs.Reading.{misplaced, at_fault}
use Rattle.pli_base.specs.Statements.{ExternalProcedure}
use Rattle.pli_base.specs.declared.code.Code.{Code}
use Rattle.pli_base.specs.declared.code.Code.TheVariants.{NoProcedure, EndMissing, TextAfterEnd}
use Rattle.pli_base.specs.declared.token.Fault.{Fault}
use Rattle.pli_base.specs.declared.token.Sign.TheVariants.{Colon}
use Rattle.pli_base.specs.declared.token.TokenText.{TokenText}
use Rattle.pli_base.specs.declared.token.TokenText.TheVariants.{Word, Sign}
use Rattle.pli_base.specs.declared.syntax.Identifier.{Identifier}
use Rattle.pli_parse_fault.specs.FaultCodes.{is_of_part, IsToldOf}
use Rattle.pli_parse_statement.specs.StatementWords.{Context, a_procedure}
use Rattle.pli_parse_statement.specs.StatementReading.{Inside, deeper, heading_at, inner_list, finished, has_semicolon, begun, statement_of, inside_of, statement_at, external_at, unit_from, unit_of}
use Rattle.pli_parse_expression.specs.Operators.{nesting_limit}
use Rattle.pli_parse_fault.proofs.ReadingFaults.{fault_of}
use Rattle.pli_parse_fault.proofs.StepLemmas.{same_err}
use Rattle.pli_parse.proofs.StatementFaults.{heading_stands}
use Rattle.pli_parse.proofs.StatementFaultPlaces.{UnitStands, IsAfterUnit, list_in_stands, statement_stands, inside_sound, external_stands, statement_told}
use Rattle.pli_parse.proofs.StatementRead.{statement_reads, inside_reads, IsProcedure, procedure_stands, external_front}
use Rattle.pli_parse.proofs.StatementSpelledUnits.{inside_there, unit_front}
use Rattle.pli_parse.specs.UnitFaults.{can_head, HasNoProcedure, HasTextAfter}

at_same : {a b : ℕ} → ◌≡◌ {A = Option ℕ} (Some a) (Some b) → a ≡ b
at_same h = cc

-- one token that cannot stand
first_not : (t : TokenText) (rest : Tokens) → can_head 0 t ≡ false → misplaced (t ∷ rest) ≡ Some 0
unfolding misplaced
first_not (Word n) rest h = cc
first_not t rest h = refl

second_not : (a t : TokenText) (rest : Tokens) → can_head 0 a ≡ true → can_head 1 t ≡ false
    → misplaced (a ∷ t ∷ rest) ≡ Some 1
unfolding misplaced
second_not (Word n) (Sign Colon) rest g h = cc
second_not (Word n) t rest g h = refl
second_not a t rest g h = cc

third_not : (a b t : TokenText) (rest : Tokens) → can_head 0 a ≡ true → can_head 1 b ≡ true
    → can_head 2 t ≡ false → misplaced (a ∷ b ∷ t ∷ rest) ≡ Some 2
unfolding misplaced
third_not (Word n) (Sign Colon) (Word k) rest f g h = ap (λ (b : Bool). cond b None (Some 2)) h
third_not (Word n) (Sign Colon) t rest f g h = refl
third_not (Word n) b t rest f g h = cc
third_not a b t rest f g h = cc

misplaced_there : (ts : Tokens) (p : ℕ) → HasNoProcedure ts p → misplaced ts ≡ Some p
unfolding misplaced
misplaced_there [] p h = ap Some (sym h)
misplaced_there (u ∷ us) p ([], t, rest, shape, place, less, heads, not) =
    ap misplaced shape ∙ first_not t rest (subst (λ q. can_head q t ≡ false) place not) ∙ ap Some (sym place)
misplaced_there (u ∷ us) p (a ∷ [], t, rest, shape, place, less, heads, not) =
    ap misplaced shape ∙ second_not a t rest heads.0 (subst (λ q. can_head q t ≡ false) place not) ∙ ap Some (sym place)
misplaced_there (u ∷ us) p (a ∷ b ∷ [], t, rest, shape, place, less, heads, not) =
    ap misplaced shape ∙ third_not a b t rest heads.0 heads.1.0 (subst (λ q. can_head q t ≡ false) place not) ∙ ap Some (sym place)
misplaced_there (u ∷ us) p (a ∷ b ∷ c ∷ more, t, rest, shape, place, less, heads, not) =
    absurd (omega (arith, place, less))

misplaced_here : (ts : Tokens) (p : ℕ) → misplaced ts ≡ Some p → HasNoProcedure ts p
unfolding misplaced
misplaced_here [] p h = sym (at_same h)
misplaced_here (Word n ∷ []) p h = cc
misplaced_here (Word n ∷ Sign Colon ∷ []) p h = cc
misplaced_here (Word n ∷ Sign Colon ∷ Word k ∷ ts) p h = by (is_procedure k) refl h
  where
    by : (b : Bool) → is_procedure k ≡ b → cond {A = Option ℕ} b None (Some 2) ≡ Some p
        → HasNoProcedure (Word n ∷ Sign Colon ∷ Word k ∷ ts) p
    by true e g = cc
    by false e g =
        subst (HasNoProcedure (Word n ∷ Sign Colon ∷ Word k ∷ ts)) (at_same g)
        (Word n ∷ Sign Colon ∷ [], Word k, ts, refl, refl, omega arith, (refl, (refl, tt)), e)
misplaced_here (Word n ∷ Sign Colon ∷ t ∷ ts) p h =
    subst (HasNoProcedure (Word n ∷ Sign Colon ∷ t ∷ ts)) (at_same h)
    (Word n ∷ Sign Colon ∷ [], t, ts, refl, refl, omega arith, (refl, (refl, tt)), refl)
misplaced_here (Word n ∷ t ∷ ts) p h =
    subst (HasNoProcedure (Word n ∷ t ∷ ts)) (at_same h) (Word n ∷ [], t, ts, refl, refl, omega arith, (refl, tt), refl)
misplaced_here (t ∷ ts) p h =
    subst (HasNoProcedure (t ∷ ts)) (at_same h) ([], t, ts, refl, refl, omega arith, tt, refl)

pub no_procedure_told : (ts : Tokens) (p : ℕ) → HasNoProcedure ts p → unit_of ts ≡ at_fault NoProcedure p
unfolding unit_of
no_procedure_told ts p h = ap (λ o. unit_from o (has_semicolon ts) ts) (misplaced_there ts p h)

-- what a fault after PROCEDURE is not
not_of_part : (code : Code) (p : ℕ) (ts : Tokens) (f : Fault) → is_of_part code ≡ false
    → (EndMissing ≡ code → ⊥) → (TextAfterEnd ≡ code → ⊥) → f.code ≡ code → IsToldOf p ts f ⊎ IsAfterUnit p ts f → ⊥
not_of_part code p ts f never not_ended not_after e h =
    ⊎_elim
    (λ told. ⊎_elim (λ here. differ (sym never ∙ ap is_of_part (sym e) ∙ here.2)) (λ end. not_ended (sym end.0 ∙ e)) told)
    (λ after. not_after (sym after.0 ∙ e)) h
  where
    differ : false ≡ true → ⊥
    differ g = cc

-- of a unit that has begun
begun_stands : (name : Identifier) (t : TokenText) (ts : Tokens) (f : Fault) → external_at name ts ≡ Err f
    → IsToldOf 2 (t ∷ ts) f ⊎ IsAfterUnit 2 (t ∷ ts) f
begun_stands name t ts f h = subst (UnitStands 2 (t ∷ ts)) h (external_stands name t ts)

ended_no_head : EndMissing ≡ NoProcedure → ⊥
ended_no_head e = cc

text_no_head : TextAfterEnd ≡ NoProcedure → ⊥
text_no_head e = cc

ended_no_text : EndMissing ≡ TextAfterEnd → ⊥
ended_no_text e = cc

-- at a fault of a unit there is no procedure, the text ends, or what stands after PROCEDURE is at fault
unit_fault_by : (X : Tokens → Type 0) (f : Fault)
    → ((us : Tokens) (p : ℕ) → misplaced us ≡ Some p → record { code = NoProcedure; at = p } ≡ f → X us)
    → ((us : Tokens) → record { code = EndMissing; at = length us - 1 } ≡ f → X us)
    → ((n : Name) (t : TokenText) (us : Tokens) → misplaced (Word n ∷ Sign Colon ∷ t ∷ us) ≡ None → external_at (record { name = n; at = 0 }) us ≡ Err f
    → X (Word n ∷ Sign Colon ∷ t ∷ us))
    → (ts : Tokens) → unit_of ts ≡ Err f → X ts
unfolding unit_of misplaced has_semicolon
unit_fault_by X f head end begun ts h = by (misplaced ts) (has_semicolon ts) ts refl refl h
  where
    by : (o : Option ℕ) (b : Bool) (us : Tokens) → misplaced us ≡ o → has_semicolon us ≡ b → unit_from o b us ≡ Err f → X us
    by (Some p) b us e s g = head us p e (same_err g)
    by None false us e s g = end us (same_err g)
    by None true (Word n ∷ Sign Colon ∷ t ∷ us) e s g = begun n t us e g
    by None true us e s g = cc

pub no_procedure_met : (ts : Tokens) (f : Fault) → unit_of ts ≡ Err f → f.code ≡ NoProcedure
    → HasNoProcedure ts f.at
no_procedure_met ts f h code =
    unit_fault_by (λ us. HasNoProcedure us f.at) f
    (λ us p e g. subst (λ (x : Fault). HasNoProcedure us x.at) g (misplaced_here us p e))
    (λ us g. absurd (ended_no_head (ap (λ (x : Fault). x.code) g ∙ code)))
    (λ n t us e g.
    absurd (not_of_part NoProcedure 2 (t ∷ us) f refl ended_no_head text_no_head code (begun_stands (record { name = n; at = 0 }) t us f g)))
    ts h

-- where the text ends too early
told_end : (p : ℕ) (ts : Tokens) (f : Fault) → f.code ≡ EndMissing → IsToldOf p ts f → f.at ≡ p + length ts - 1
told_end p ts f code told = ⊎_elim (λ here. absurd (differ (ap is_of_part (sym code) ∙ here.2))) (λ end. end.1) told
  where
    differ : false ≡ true → ⊥
    differ g = cc

pub end_missing_met : (ts : Tokens) (f : Fault) → unit_of ts ≡ Err f → f.code ≡ EndMissing → f.at ≡ length ts - 1
end_missing_met ts f h code =
    unit_fault_by (λ us. f.at ≡ length us - 1) f (λ us p e g. absurd (ended_no_head (sym code ∙ ap (λ (x : Fault). x.code) (sym g))))
    (λ us g. ap (λ (x : Fault). x.at) (sym g))
    (λ n t us e g.
    ⊎_elim
    (λ told.
    let whole : 2 + length (t ∷ us) ≡ length (Word n ∷ Sign Colon ∷ t ∷ us) = omega arith in
    told_end 2 (t ∷ us) f code told ∙ ap (λ m. m - 1) whole)
    (λ after. absurd (ended_no_text (sym code ∙ after.0))) (begun_stands (record { name = n; at = 0 }) t us f g))
    ts h

pub end_missing_of_statement : (c : Context) (levels p k : ℕ) (ts : Tokens) (f : Fault) → statement_at levels c p k ts ≡ Err f
    → f.code ≡ EndMissing → f.at ≡ p + length ts - 1
end_missing_of_statement c levels p k ts f h code = told_end p ts f code (statement_told c levels p k ts f h)

pub no_semicolon_ahead : (c : Context) (levels p k : ℕ) (ts : Tokens) → has_semicolon ts ≡ false
    → statement_at levels c p k ts ≡ at_fault EndMissing (p + length ts - 1)
unfolding statement_of
no_semicolon_ahead c levels p k ts none = ap (begun levels (inside_of levels) c p k ts) none

-- text after the unit
pub text_after_told : (ts : Tokens) (p : ℕ) → HasTextAfter ts p → unit_of ts ≡ at_fault TextAfterEnd p
text_after_told ts p (front, t, rest, unit, shape, place, spelled) =
    ap unit_of shape ∙ unit_front front (t ∷ rest) unit spelled ∙ ap (λ (q : ℕ). at_fault TextAfterEnd q) (sym place)

bind_err : {A B : Type 0} (r : Result A Fault) (f : A → Result B Fault) (e : Fault) → (r >>= f) ≡ Err e
    → (r ≡ Err e) ⊎ ((x : A) × (r ≡ Ok x) × (f x ≡ Err e))
bind_err (Ok x) f e h = inr (x, refl, h)
bind_err (Err g) f e h = inl (ap Err (same_err h))

-- the code is no part's
told_no_text : (p : ℕ) (ts : Tokens) (f : Fault) → IsToldOf p ts f → f.code ≡ TextAfterEnd → ⊥
told_no_text p ts f told code =
    ⊎_elim (λ here. differ (ap is_of_part (sym code) ∙ here.2)) (λ end. ended_no_text (sym end.0 ∙ code)) told
  where
    differ : false ≡ true → ⊥
    differ g = cc

finished_met : (unit : ExternalProcedure) (p : ℕ) (ts : Tokens) (f : Fault) → finished unit p ts ≡ Err f
    → (t : TokenText) × (rest : Tokens) × (ts ≡ t ∷ rest) × (f.at ≡ p)
finished_met unit p [] f h = cc
finished_met unit p (t ∷ ts) f h = (t, ts, refl, ap (λ (x : Fault). x.at) (sym (same_err h)))

-- the levels inside the unit
abbrev in_unit : Inside
in_unit = record { levels = 63; statement = statement_of 63 (inside_of 63) }

external_met : (n : Name) (t : TokenText) (ts : Tokens) (f : Fault) → IsProcedure t
    → external_at (record { name = n; at = 0 }) ts ≡ Err f → f.code ≡ TextAfterEnd
    → HasTextAfter (Word n ∷ Sign Colon ∷ t ∷ ts) f.at
unfolding external_at
external_met n t ts f procedure h code =
    let name : Identifier = record { name = n; at = 0 } in
    let there : deeper (inside_of nesting_limit) 2 (λ i. heading_at name 1 3 ts >>= λ x. inner_list i name x.next 2 x.rest >>= λ l. finished (record { heading = x.value; statements = l.value.statements; end = l.value.end }) l.next l.rest)
    ≡ (heading_at name 1 3 ts >>= λ x. inner_list in_unit name x.next 2 x.rest >>= λ l. finished (record { heading = x.value; statements = l.value.statements; end = l.value.end }) l.next l.rest) =
    ap (λ o. deeper o 2 (λ i. heading_at name 1 3 ts >>= λ x. inner_list i name x.next 2 x.rest >>= λ l. finished (record { heading = x.value; statements = l.value.statements; end = l.value.end }) l.next l.rest)) (inside_there 63) in
    ⊎_elim
    (λ first. absurd (told_no_text 3 ts f (fault_of 1 3 ts (heading_at name 1 3 ts) f (heading_stands name 1 3 ts) first) code))
    (λ x. ⊎_elim
    (λ second.
    absurd (told_no_text x.0.next x.0.rest f
    (fault_of 1 x.0.next x.0.rest (inner_list in_unit name x.0.next 2 x.0.rest) f
    (list_in_stands in_unit (statement_stands 63 (inside_of 63) (inside_sound 63)) a_procedure (Some name) x.0.next 2 x.0.rest) second) code))
    (λ l.
    let unit : ExternalProcedure = record { heading = x.0.value; statements = l.0.value.statements; end = l.0.value.end } in
    let e = finished_met unit l.0.next l.0.rest f l.2 in
    let g = external_front in_unit (statement_reads 63 (inside_of 63) (inside_reads 63)) n t ts procedure x.0 x.1 l.0 l.1 in (
      Word n ∷ Sign Colon ∷ t ∷ g.0,
      e.0,
      e.1,
      unit,
      ap (λ us. Word n ∷ Sign Colon ∷ t ∷ us) (g.1 ∙ ap (λ us. g.0 ++ us) e.2),
      omega (arith, e.3, g.2),
      g.3,
    ))
    (bind_err (inner_list in_unit name x.0.next 2 x.0.rest) _ f x.2))
    (bind_err (heading_at name 1 3 ts) _ f (sym there ∙ h))

pub text_after_met : (ts : Tokens) (f : Fault) → unit_of ts ≡ Err f → f.code ≡ TextAfterEnd → HasTextAfter ts f.at
text_after_met ts f h code =
    unit_fault_by (λ us. HasTextAfter us f.at) f (λ us p e g. absurd (text_no_head (sym code ∙ ap (λ (x : Fault). x.code) (sym g))))
    (λ us g. absurd (ended_no_text (ap (λ (x : Fault). x.code) g ∙ code)))
    (λ n t us e g. external_met n t us f (procedure_stands n t us e) g code) ts h
