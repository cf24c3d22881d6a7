-- What is read is spelled so: what stands after CALL and PROCEDURE, labels and the ends of blocks.
use Rattle.std.proofs.Common.{◌≡◌, ◌+◌, ℕ, suc, zero, true, List, [], ◌∷◌, ◌++◌, Option, Some, None, Result, Ok, option_map, length, codes, refl, ap, ◌∙◌, sym, subst, arith}
use Rattle.pli_base.specs.Words.{Tokens, is_open, is_word, rest_after, SpellsIdentifier}
use Rattle.pli_base.specs.Results.{◌>>=◌}
use Rattle.pli_base.specs.Reading.{Front, read_as, mapped, taken, if_open, or_none}
use Rattle.pli_parse_expression.specs.declared.counted.Counted.{Counted}
use Rattle.pli_base.specs.Syntax.{Arguments}
use Rattle.pli_base.specs.declared.code.Code.TheVariants.{BadOption}
use Rattle.pli_base.specs.declared.token.Fault.{Fault}
use Rattle.pli_base.specs.declared.token.Sign.TheVariants as signs
use Rattle.pli_base.specs.declared.token.TokenText.TheVariants.{Word, Sign}
use Rattle.pli_base.specs.declared.syntax.Identifier.{Identifier}
use Rattle.pli_parse_expression.specs.Expressions.{SpellsArguments, GivenFits, Every, OutermostFits, Deeper}
use Rattle.pli_parse_expression.specs.Reading.{arguments_at, argument_of, inside, expression_at, list_at, outermost}
use Rattle.pli_parse_expression.proofs.ReadIsSpelled.{list_reads, outermost_read, expression_at_read}
use Rattle.pli_parse_declaration.specs.DeclarationReading.{returned_at, identifier_at}
use Rattle.pli_parse_declaration.specs.DeclarationReading as items
use Rattle.pli_parse_declaration.specs.DeclarationGrammar.{SpellsFront, SpellsListed, Anywhere, SpellsReturned}
use Rattle.pli_parse_declaration.proofs.DeclarationSteps.{mapped_ok, taken_ok, two}
use Rattle.pli_parse_fault.proofs.StepLemmas.{same_ok, bind_ok}
use Rattle.pli_parse_declaration.proofs.DeclarationRead.{Reads, identifier_reads}
use Rattle.pli_parse_declaration.proofs.DeclarationItemsRead.{returned_reads}
use Rattle.pli_base.specs.Statements.{ProcedureOption, Main, Returns, Recursive, Heading, Body, Call}
use Rattle.pli_parse_statement.specs.StatementReading.{uncounted, call_at, OptionWord, OptionsWord, ReturnsWord, RecursiveWord, option_first, main_at, options_by, options_from, heading_at}
use Rattle.pli_parse_statement.specs.StatementGrammar.{SpellsCall, SpellsParameters, SpellsOption, SpellsOptions, SpellsHeading}
use Rattle.pli_parse.proofs.StatementReadTools as tools
use Rattle.pli_parse.proofs.StatementReadTools.{uncounted_ok, stopped_ok, parenthesized_reads, word_first}
use Rattle.pli_parse.proofs.StatementReadParts.{MaybeEnclosed, open_reads}
use Rattle.pli_parse.proofs.WordsFirst.{option_spelling, option_begins}
use Rattle.pli_parse_declaration.specs.declared.list.Separator.TheVariants.{Commas}

-- the arguments of CALL are outermost expressions
abbrev ArgumentsRead : (levels p : ℕ) → Tokens → Front (Counted Arguments) → Type 0
ArgumentsRead levels p ts x =
    (front : Tokens) × (ts ≡ front ++ x.rest) × (x.next ≡ p + length front) × SpellsArguments p front x.value.tree
    × GivenFits (λ list. Deeper (λ m. Every (OutermostFits m) list) levels) x.value.tree

arguments_reads : (levels p : ℕ) (ts : Tokens) (x : Front (Counted Arguments)) → arguments_at (option_map (argument_of true) (inside levels)) 0 p ts ≡ Ok x → ArgumentsRead levels p ts x
unfolding arguments_at inside expression_at
arguments_reads levels p [] x h = subst (ArgumentsRead levels p []) (same_ok h) ([], refl, omega arith, refl, tt)
arguments_reads zero p (Sign signs.OpenParenthesis ∷ ts) x h = cc
arguments_reads (suc n) p (Sign signs.OpenParenthesis ∷ ts) x h =
    let a = bind_ok (list_at (outermost (expression_at n)) 0 (p + 1) ts) _ x h in
    let s = list_reads (OutermostFits n) (λ e. 0) (outermost (expression_at n)) (outermost_read n (expression_at n) (expression_at_read n)) 0 (p + 1) ts a.0 a.1 in
    subst (ArgumentsRead (suc n) p (Sign signs.OpenParenthesis ∷ ts)) (same_ok a.2) (
      Sign signs.OpenParenthesis ∷ s.front,
      ap (λ us. Sign signs.OpenParenthesis ∷ us) s.whole,
      omega (arith, s.place),
      (s.spelled.0, ap (λ us. Sign signs.OpenParenthesis ∷ us) s.spelled.1, s.spelled.2),
      s.fits,
    )
arguments_reads levels p (t ∷ ts) x h = subst (ArgumentsRead levels p (t ∷ ts)) (same_ok h) ([], refl, omega arith, refl, tt)

-- after CALL
abbrev pub IsCall : (levels p : ℕ) → Tokens → Body → Type 0
IsCall levels p ts b = (name : Identifier) × (arguments : Arguments) × (b ≡ Call name arguments) × SpellsCall levels p ts name arguments

pub call_reads : (levels : ℕ) → Reads (call_at levels) (IsCall levels)
unfolding call_at
call_reads levels p ts y h =
    let n = bind_ok (identifier_at p ts) _ y h in
    let i = identifier_reads p ts n.0 n.1 in
    let a = bind_ok (uncounted (arguments_at (option_map (argument_of true) (inside levels)) 0 n.0.next n.0.rest)) _ y n.2 in
    let u = uncounted_ok (arguments_at (option_map (argument_of true) (inside levels)) 0 n.0.next n.0.rest) a.0 a.1 in
    let s = arguments_reads levels n.0.next n.0.rest u.0 u.1 in
    let f : SpellsFront (λ q us args. SpellsArguments q us args × GivenFits (λ list. Deeper (λ m. Every (OutermostFits m) list) levels) args) n.0.next n.0.rest a.0 =
    subst (SpellsFront (λ q us args. SpellsArguments q us args × GivenFits (λ list. Deeper (λ m. Every (OutermostFits m) list) levels) args) n.0.next n.0.rest) u.2 (s.0, s.1, s.2, (s.3, s.4))
    in
    let t = two p n.0.next a.0.next ts n.0.rest a.0.rest i.0 f.0 i.1 i.2 f.1 f.2 in
    let named : i.0 ++ f.0 ≡ Word n.0.value.name ∷ f.0 = ap (λ vs. vs ++ f.0) i.3.0 in
    let place : n.0.next ≡ p + 1 = i.2 ∙ ap (λ (vs : Tokens). p + length vs) i.3.0 in
    subst (SpellsFront (IsCall levels) p ts) (same_ok a.2) (
      i.0 ++ f.0,
      t.0,
      t.1,
      (n.0.value, a.0.value, refl, (f.0, named, i.3.1, subst (λ q. SpellsArguments q f.0 a.0.value) place f.3.0, f.3.1)),
    )

-- options of PROCEDURE
-- after OPTIONS
abbrev SpellsMain : Tokens → ProcedureOption → Type 0
SpellsMain ts o = (ts ≡ Sign signs.OpenParenthesis ∷ Word (codes "MAIN") ∷ Sign signs.CloseParenthesis ∷ []) × (o ≡ Main)

main_reads : Reads main_at (λ p ts o. SpellsMain ts o)
unfolding main_at
main_reads p ts y h =
    let f = parenthesized_reads _ (λ q us o. (us ≡ Word (codes "MAIN") ∷ []) × (o ≡ Main)) word p ts y h in
    (f.0, f.1, f.2, (f.3.1 ∙ ap (λ us. Sign signs.OpenParenthesis ∷ us ++ Sign signs.CloseParenthesis ∷ []) f.3.2.0, f.3.2.1))
  where
    word : Reads (λ q us. taken (is_word (codes "MAIN")) BadOption q us >>= λ vs. read_as Main (q + 1) vs) (λ q us o. (us ≡ Word (codes "MAIN") ∷ []) × (o ≡ Main))
    word q us z g =
        let m = bind_ok (taken (is_word (codes "MAIN")) BadOption q us) _ z g in
        subst (SpellsFront (λ q us o. (us ≡ Word (codes "MAIN") ∷ []) × (o ≡ Main)) q us) (same_ok m.2) (
          Word (codes "MAIN") ∷ [],
          word_first (codes "MAIN") us m.0 (taken_ok (is_word (codes "MAIN")) BadOption q us m.0 m.1),
          refl,
          (refl, refl),
        )

abbrev OptionsRead : ℕ → Tokens → Front (List ProcedureOption) → Type 0
OptionsRead p ts y = SpellsFront (λ q us os. SpellsOptions us os) p ts y

-- an option, and those after it
option_then : (p q : ℕ) (ts us front : Tokens) (o : ProcedureOption) → ts ≡ front ++ us → q ≡ p + length front → SpellsOption front o
    → (m : Front (List ProcedureOption)) → OptionsRead q us m → OptionsRead p ts (record { value = o ∷ m.value; next = m.next; rest = m.rest })
option_then p q ts us front o shape place spelled m f =
    let t = two p q m.next ts us m.rest front f.0 shape place f.1 f.2 in
    (front ++ f.0, t.0, t.1, (front, f.0, refl, spelled, f.3))

-- an option after its word, and those after it
option_step : {A : Type 0} (w : OptionWord) (one : ℕ → Tokens → Result (Front A) Fault)
    (Spells : ℕ → Tokens → A → Type 0)
    (make : A → ProcedureOption) → Reads one Spells
    → ((q : ℕ) (us : Tokens) (x : A) → Spells q us x → SpellsOption (Word (option_spelling w) ∷ us) (make x))
    → (more : ℕ → Tokens → Result (Front (List ProcedureOption)) Fault)
    → Reads more (λ p ts os. SpellsOptions ts os)
    → (p : ℕ) (ts us : Tokens) (y : Front (List ProcedureOption)) → option_first ts ≡ Some (w, us)
    → (one (p + 1) us >>= λ x. mapped (λ xs. make x.value ∷ xs) (more x.next x.rest)) ≡ Ok y
    → OptionsRead p ts y
option_step w one Spells make one_reads spells more reads p ts us y e g =
    let x = bind_ok (one (p + 1) us) _ y g in
    let f = one_reads (p + 1) us x.0 x.1 in
    let m = mapped_ok _ (more x.0.next x.0.rest) y x.2 in
    let front : Tokens = Word (option_spelling w) ∷ f.0 in
    let shape : ts ≡ front ++ x.0.rest =
    option_begins ts us w e ∙ ap (λ vs. Word (option_spelling w) ∷ vs) f.1
    in
    let place : x.0.next ≡ p + length front = omega (arith, f.2) in
    subst (OptionsRead p ts) m.2
    (option_then p x.0.next ts x.0.rest front (make x.0.value) shape place (spells (p + 1) f.0 x.0.value f.3)
    m.0 (reads x.0.next x.0.rest m.0 m.1))

options_step : (more : ℕ → Tokens → Result (Front (List ProcedureOption)) Fault) → Reads more (λ p ts os. SpellsOptions ts os)
    → (p : ℕ) (ts : Tokens) (y : Front (List ProcedureOption)) (o : Option (OptionWord × Tokens)) → option_first ts ≡ o → options_by more p ts o ≡ Ok y → OptionsRead p ts y
options_step more reads p ts y None e g = subst (OptionsRead p ts) (same_ok g) ([], refl, omega arith, refl)
options_step more reads p ts y (Some (OptionsWord, us)) e g =
    option_step OptionsWord main_at (λ q vs o. SpellsMain vs o) (λ o. o) main_reads
    (λ q vs o s.
    subst (SpellsOption (Word (codes "OPTIONS") ∷ vs)) (sym s.1) (ap (λ ws. Word (codes "OPTIONS") ∷ ws) s.0))
    more reads p ts us y e g
options_step more reads p ts y (Some (ReturnsWord, us)) e g =
    option_step ReturnsWord returned_at (Anywhere SpellsReturned) Returns returned_reads
    (λ q vs x s. (vs, refl, s))
    more reads p ts us y e g
options_step more reads p ts y (Some (RecursiveWord, us)) e g =
    let m = mapped_ok _ (more (p + 1) us) y g in
    subst (OptionsRead p ts) m.2 (option_then p (p + 1) ts us (Word (codes "RECURSIVE") ∷ []) Recursive (option_begins ts us RecursiveWord e) refl refl m.0 (reads (p + 1) us m.0 m.1))

options_reads : (bound : ℕ) → Reads (options_from bound) (λ p ts os. SpellsOptions ts os)
unfolding options_from
options_reads zero p ts y h = cc
options_reads (suc bound) p ts y h = options_step (options_from bound) (options_reads bound) p ts y (option_first ts) refl h

-- after PROCEDURE
parameters_so : (p : ℕ) (ts : Tokens) (o : Option (List Identifier)) → MaybeEnclosed (SpellsListed Commas SpellsIdentifier) p ts o → SpellsParameters p ts (or_none o)
parameters_so p ts None h = h
parameters_so p ts (Some []) h = absurd h.2
parameters_so p ts (Some (i ∷ is)) h = h

-- a heading with its `;`
abbrev pub HeadingRead : Identifier → (number p : ℕ) → Tokens → Front Heading → Type 0
HeadingRead name number p ts y =
    (hs : Tokens) × (ts ≡ hs ++ Sign signs.Semicolon ∷ y.rest) × (y.next ≡ p + length hs + 1) × SpellsHeading p hs y.value
    × (y.value.name ≡ name) × (y.value.number ≡ number)

pub heading_reads : (name : Identifier) (number p : ℕ) (ts : Tokens) (y : Front Heading) → heading_at name number p ts ≡ Ok y → HeadingRead name number p ts y
unfolding heading_at
heading_reads name number p ts y h =
    let a = bind_ok (if_open (items.list_at Commas identifier_at) p ts (rest_after is_open ts)) _ y h in
    let ps = open_reads (items.list_at Commas identifier_at) (SpellsListed Commas SpellsIdentifier) (tools.list_reads identifier_at SpellsIdentifier identifier_reads) p ts a.0 a.1 in
    let o = bind_ok (options_from (length a.0.rest + 1) a.0.next a.0.rest) _ y a.2 in
    let os = options_reads (length a.0.rest + 1) a.0.next a.0.rest o.0 o.1 in
    let heading : Heading = record { name = name; number = number; parameters = or_none a.0.value; options = o.0.value } in
    let s = stopped_ok heading o.0.next o.0.rest y o.2 in
    let t = two p a.0.next o.0.next ts a.0.rest o.0.rest ps.0 os.0 ps.1 ps.2 os.1 os.2 in
    let place : o.0.next + 1 ≡ p + length (ps.0 ++ os.0) + 1 = ap (λ q. q + 1) t.1 in (
      ps.0 ++ os.0,
      t.0 ∙ ap (λ us. (ps.0 ++ os.0) ++ us) s.0,
      ap (λ (z : Front Heading). z.next) (sym s.1) ∙ place,
      subst (λ (z : Front Heading). SpellsHeading p (ps.0 ++ os.0) z.value) s.1 (ps.0, os.0, refl, parameters_so p ps.0 a.0.value ps.3, os.3),
      ap (λ (z : Front Heading). z.value.name) (sym s.1),
      ap (λ (z : Front Heading). z.value.number) (sym s.1),
    )
