-- What is read is spelled so: lists of statements, where each statement that is read one level deeper is spelled so.
use Rattle.std.proofs.Common.{◌≡◌, ◌+◌, ℕ, suc, zero, [], ◌∷◌, ◌++◌, Option, Some, None, Result, Ok, length, codes, refl, ap, ◌∙◌, sym, subst, arith, append_assoc}
use Rattle.pli_base.specs.Words.{Tokens}
use Rattle.pli_base.specs.Reading.{Front}
use Rattle.pli_base.specs.declared.token.Fault.{Fault}
use Rattle.pli_base.specs.declared.token.TokenText.TheVariants.{Word}
use Rattle.pli_base.specs.declared.syntax.Identifier.{Identifier}
use Rattle.pli_parse_declaration.specs.DeclarationGrammar.{SpellsFront}
use Rattle.pli_parse_declaration.proofs.DeclarationSteps.{mapped_ok, two}
use Rattle.pli_parse_fault.proofs.StepLemmas.{same_ok, bind_ok}
use Rattle.pli_base.specs.Statements.{Statement, Before, Alternative, Else, count, list_count, AwaitsElse, AlternativeAwaitsElse}
use Rattle.pli_parse_statement.specs.StatementWords.{Context, standing}
use Rattle.pli_parse_statement.specs.StatementReading.{StatementReader, Inside, deeper, Listing, ending_at, NextStatement, EndsHere, Another, next_of, list_by, list_from, else_first, alternative_from}
use Rattle.pli_parse_statement.specs.StatementGrammar.{SpellsStatement, SpellsStatements, SpellsEnd, SpellsAlternative}
use Rattle.pli_parse_statement.specs.declared.keyword.StatementStanding.TheVariants.{AsClause}
use Rattle.pli_parse.proofs.StatementReadFirst.{end_begins, else_begins, ending_spelled}

-- what reads statements reads what is spelled so; after one that awaits an ELSE none stands
abbrev pub StatementReads : ℕ → StatementReader → Type 0
StatementReads m one =
    (c : Context) (p k : ℕ) (ts : Tokens) (y : Front Statement) → one c p k ts ≡ Ok y
    → SpellsFront (λ q us s. SpellsStatement c m q k us s) p ts y × (AwaitsElse y.value → else_first y.rest ≡ None)

-- of what is one level deeper, where so many levels may be opened
abbrev pub InsideReads : ℕ → Option Inside → Type 0
InsideReads n None = Unit {0}
InsideReads zero (Some i) = ⊥
InsideReads (suc n) (Some i) = (i.levels ≡ n) × StatementReads n i.statement

-- a level more was opened
pub opened : {A : Type 0} (inside : Option Inside) (levels : ℕ) → InsideReads levels inside → (p : ℕ) (read : Inside → Result A Fault) (y : A) → deeper inside p read ≡ Ok y
    → (P : ℕ → Type 0) → ((i : Inside) → StatementReads i.levels i.statement → read i ≡ Ok y → P (suc i.levels)) → P levels
opened None levels inner p read y h P go = cc
opened (Some i) zero inner p read y h P go = absurd inner
opened (Some i) (suc n) inner p read y h P go = subst (λ m. P (suc m)) inner.0 (go i (subst (λ m. StatementReads m i.statement) (sym inner.0) inner.1) h)

-- the statements of a list and its END
abbrev pub SpellsListing : Context → (m : ℕ) → (label : Option Identifier) → (k q : ℕ) → Tokens → Listing → Type 0
SpellsListing c m label k q us x =
    (ss : Tokens) × (es : Tokens) × (us ≡ ss ++ es) × SpellsStatements c m q k ss x.statements × SpellsEnd label es
    × (x.end ≡ k + list_count x.statements)

module _ (m : ℕ) (one : StatementReader) (reads : StatementReads m one) (c : Context) (label : Option Identifier) where
  abbrev MoreReads : (more : (p k : ℕ) → Tokens → Result (Front Listing) Fault) → Type 0
  MoreReads more = (p k : ℕ) (ts : Tokens) (y : Front Listing) → more p k ts ≡ Ok y → SpellsFront (SpellsListing c m label k) p ts y

  -- a statement before a list
  longer : (p q k : ℕ) (ts us front : Tokens) (s : Statement) → ts ≡ front ++ us → q ≡ p + length front → SpellsStatement c m p k front s
      → (l : Front Listing) → SpellsFront (SpellsListing c m label (k + count s)) q us l
      → SpellsFront (SpellsListing c m label k) p ts (record { value = record { statements = Before s l.value.statements; end = l.value.end }; next = l.next; rest = l.rest })
  longer p q k ts us front s shape place spelled l f =
      let t = two p q l.next ts us l.rest front f.0 shape place f.1 f.2 in
      let g = f.3 in (
        front ++ f.0,
        t.0,
        t.1,
        (
          front ++ g.0,
          g.1,
          ap (λ vs. front ++ vs) g.2 ∙ sym (append_assoc front g.0 g.1),
          (front, g.0, refl, spelled, subst (λ r. SpellsStatements c m r (k + count s) g.0 l.value.statements) place g.3),
          g.4,
          omega (arith, g.5),
        ),
      )

  list_step : (more : (p k : ℕ) → Tokens → Result (Front Listing) Fault) → MoreReads more → (p k : ℕ) (ts : Tokens) (y : Front Listing) (n : NextStatement) → next_of ts ≡ n
      → list_by one c label more p k ts n ≡ Ok y → SpellsFront (SpellsListing c m label k) p ts y
  list_step more more_reads p k ts y (EndsHere us) e g =
      let x = mapped_ok _ (ending_at label (p + 1) us) y g in
      let f = ending_spelled label (p + 1) us x.0 x.1 in
      let none : k ≡ k + 0 = omega arith in
      subst (SpellsFront (SpellsListing c m label k) p ts) x.2 (
        Word (codes "END") ∷ f.0,
        end_begins ts us e ∙ ap (λ vs. Word (codes "END") ∷ vs) f.1,
        omega (arith, f.2),
        ([], Word (codes "END") ∷ f.0, refl, refl, f.3, none),
      )
  list_step more more_reads p k ts y Another e g =
      let x = bind_ok (one c p k ts) _ y g in
      let s = reads c p k ts x.0 x.1 in
      let l = bind_ok (more x.0.next (k + count x.0.value) x.0.rest) _ y x.2 in
      let f = more_reads x.0.next (k + count x.0.value) x.0.rest l.0 l.1 in
      subst (SpellsFront (SpellsListing c m label k) p ts) (same_ok l.2) (longer p x.0.next k ts x.0.rest s.0.0 x.0.value s.0.1 s.0.2 s.0.3 l.0 f)

  pub list_reads : (bound p k : ℕ) (ts : Tokens) (y : Front Listing) → list_from one c label bound p k ts ≡ Ok y → SpellsFront (SpellsListing c m label k) p ts y
  unfolding list_from
  list_reads zero p k ts y h = cc
  list_reads (suc bound) p k ts y h = list_step (list_from one c label bound) (list_reads bound) p k ts y (next_of ts) refl h

-- an ELSE part, or none; it stands after what awaits it not
abbrev pub AlternativeRead : Context → (m p k : ℕ) → Tokens → (consequence : Statement) → Front Alternative → Type 0
AlternativeRead c m p k ts consequence y = SpellsFront (λ q us a. SpellsAlternative c m q k us consequence a) p ts y × (AlternativeAwaitsElse y.value → else_first y.rest ≡ None)

pub alternative_reads : (i : Inside) → StatementReads i.levels i.statement → (c : Context) (p k : ℕ) (ts : Tokens) (consequence : Statement) → (AwaitsElse consequence → else_first ts ≡ None)
    → (y : Front Alternative) → alternative_from i c p k ts (else_first ts) ≡ Ok y → AlternativeRead c i.levels p k ts consequence y
alternative_reads i reads c p k ts consequence awaits y h = by (else_first ts) refl h
  where
    by : (o : Option Tokens) → else_first ts ≡ o → alternative_from i c p k ts o ≡ Ok y → AlternativeRead c i.levels p k ts consequence y
    by None e g = subst (AlternativeRead c i.levels p k ts consequence) (same_ok g) (([], refl, omega arith, refl), λ a. e)
    by (Some us) e g =
        let m = mapped_ok Else (i.statement (standing AsClause c) (p + 1) k us) y g in
        let s = reads (standing AsClause c) (p + 1) k us m.0 m.1 in
        let no : AwaitsElse consequence → ⊥ = λ a. absurd (cc (awaits a, e)) in
        subst (AlternativeRead c i.levels p k ts consequence) m.2 (
          (Word (codes "ELSE") ∷ s.0.0, else_begins ts us e ∙ ap (λ vs. Word (codes "ELSE") ∷ vs) s.0.1, omega (arith, s.0.2), (s.0.0, refl, no, s.0.3)),
          s.1,
        )
