-- What is read is spelled so: the statements in which none stands.
use Rattle.std.proofs.Common.{◌≡◌, ◌+◌, inl, inr, ℕ, [], ◌∷◌, ◌++◌, Option, Some, None, Result, Ok, length, codes, refl, ap, ◌∙◌, sym, subst, arith, append_assoc}
use Rattle.pli_base.specs.Name.{Name}
use Rattle.pli_base.specs.Words.{Tokens, is_open, rest_after, SpellsIdentifier}
use Rattle.pli_base.specs.Reading.{Front, read_as, mapped, if_open}
use Rattle.pli_base.specs.Syntax.{Expression}
use Rattle.pli_base.specs.declared.code.Code.TheVariants.{NotAStatement}
use Rattle.pli_base.specs.declared.token.Fault.{Fault}
use Rattle.pli_base.specs.declared.token.Sign.TheVariants.{Semicolon, Equals}
use Rattle.pli_base.specs.declared.token.TokenText.TheVariants.{Word, Sign}
use Rattle.pli_base.specs.declared.syntax.Identifier.{Identifier}
use Rattle.pli_parse_expression.specs.Expressions.{SpellsOutermost, SpellsReferenceAlone}
use Rattle.pli_parse_declaration.specs.DeclarationReading.{list_at, declaration_at, identifier_at}
use Rattle.pli_parse_declaration.specs.DeclarationGrammar.{SpellsFront, SpellsListed}
use Rattle.pli_parse_declaration.proofs.DeclarationSteps.{mapped_ok, two}
use Rattle.pli_parse_fault.proofs.StepLemmas.{same_ok, bind_ok}
use Rattle.pli_parse_declaration.proofs.DeclarationRead.{Reads, identifier_reads}
use Rattle.pli_parse_declaration.proofs.DeclarationItemsRead.{declaration_reads}
use Rattle.pli_base.specs.Statements as body
use Rattle.pli_base.specs.Statements.{Body, BodyAwaitsElse}
use Rattle.pli_parse_statement.specs.StatementWords.{Context, keyword_of}
use Rattle.pli_parse_statement.specs.StatementReading.{expression_in, reference_in, closing, assignment_at, condition_at, allocation_at, put_at, call_at, is_labelled, else_first, standing_misplaced, misplacement}
use Rattle.pli_parse_statement.specs.StatementGrammar.{BeginsAssignment, IsOfItsKind, SpellsCondition, SpellsAllocation, SpellsPut, SpellsCall, SpellsValue, StandsIn, MayReturn, SpellsBody}
use Rattle.pli_parse_statement.specs.declared.keyword.Keyword.TheVariants as words
use Rattle.pli_parse.proofs.StatementReadTools.{expression_reads, reference_reads, list_reads, stopped_ok, equals_ok}
use Rattle.pli_parse.proofs.StatementReadParts.{MaybeEnclosed, open_reads, condition_reads}
use Rattle.pli_parse.proofs.StatementReadPlaces.{allocation_reads}
use Rattle.pli_parse.proofs.StatementReadPut.{put_reads}
use Rattle.pli_parse.proofs.StatementReadHeading.{call_reads}
use Rattle.pli_parse.proofs.StatementReadStands.{LabelFits, IsPlain, plain_stands, may_return, plain_fits, return_stands, declare_stands}
use Rattle.pli_parse_declaration.specs.declared.list.Separator.TheVariants.{Commas}

-- a body that may stand where it does
abbrev pub BodySpelled : Context → (levels : ℕ) → (label : Option Identifier) → (p k : ℕ) → Tokens → Body → Type 0
BodySpelled c levels label p k ts b = StandsIn c.standing label b × MayReturn c.in_on_unit b × IsOfItsKind p ts b × SpellsBody c levels label p k ts b

-- the front of the tokens spells it, and where it awaits an ELSE none stands after it
abbrev pub BodyRead : Context → (levels : ℕ) → (label : Option Identifier) → (p k : ℕ) → Tokens → Front Body → Type 0
BodyRead c levels label p k ts y = SpellsFront (λ q us b. BodySpelled c levels label q k us b) p ts y × (BodyAwaitsElse y.value → else_first y.rest ≡ None)

-- no front of the tokens begins an assignment
abbrev pub NoneBegins : ℕ → Tokens → Type 0
NoneBegins p ts = (front rest : Tokens) → ts ≡ front ++ rest → BeginsAssignment p front → ⊥

-- a body in front of what is left
pub body_found : (c : Context) (levels : ℕ) (label : Option Identifier) (p k : ℕ) (ts : Tokens) (b : Body)
    (q : ℕ) (front rest : Tokens) → ts ≡ front ++ rest → q ≡ p + length front → StandsIn c.standing label b
    → MayReturn c.in_on_unit b → IsOfItsKind p front b → SpellsBody c levels label p k front b
    → (BodyAwaitsElse b → else_first rest ≡ None)
    → BodyRead c levels label p k ts (record { value = b; next = q; rest = rest })
body_found c levels label p k ts b q front rest whole place stands may kind spelled awaits =
    ((front, whole, place, (stands, may, kind, spelled)), awaits)

module _ (c : Context) (levels : ℕ) (label : Option Identifier) (p k : ℕ) (fits : LabelFits c.standing label) where
  -- an assignment
  pub assignment_read : (ts : Tokens) (y : Front Body) → assignment_at levels p ts ≡ Ok y → BodyRead c levels label p k ts y
  unfolding assignment_at
  assignment_read ts y h =
      let r = bind_ok (reference_in levels p ts) _ y h in
      let ls = reference_reads levels p ts r.0 r.1 in
      let u = equals_ok NotAStatement r.0.next r.0.rest _ y r.2 in
      let e = bind_ok (expression_in levels (r.0.next + 1) u.0) _ y u.2 in
      let rs = expression_reads levels (r.0.next + 1) u.0 e.0 e.1 in
      let b : Body = body.Assign r.0.value r.0.next e.0.value in
      let s = stopped_ok b e.0.next e.0.rest y e.2 in
      let value = two (r.0.next + 1) e.0.next (e.0.next + 1) u.0 e.0.rest y.rest rs.0 (Sign Semicolon ∷ []) rs.1 rs.2 s.0 refl in
      let all = two p r.0.next (e.0.next + 1) ts r.0.rest y.rest ls.0 (Sign Equals ∷ (rs.0 ++ Sign Semicolon ∷ [])) ls.1 ls.2 (u.1 ∙ ap (λ us. Sign Equals ∷ us) value.0) (omega (arith, value.1)) in
      let place : r.0.next + 1 ≡ p + length ls.0 + 1 = ap (λ q. q + 1) ls.2 in
      let right = subst (λ q. SpellsOutermost levels q rs.0 e.0.value) place rs.3 in
      let begins : BeginsAssignment p (ls.0 ++ (Sign Equals ∷ (rs.0 ++ Sign Semicolon ∷ []))) = (
        ls.0 ++ (Sign Equals ∷ rs.0),
        [],
        sym (append_assoc ls.0 (Sign Equals ∷ rs.0) (Sign Semicolon ∷ [])),
        (ls.0, rs.0, r.0.value, e.0.value, refl, ls.3.0, right.0),
      )
      in
      subst (BodyRead c levels label p k ts) s.1 (
        (
          ls.0 ++ (Sign Equals ∷ (rs.0 ++ Sign Semicolon ∷ [])),
          all.0,
          all.1,
          (plain_stands label b tt tt (λ n. n) (λ n. (n, tt)) c.standing fits, may_return b tt tt c.in_on_unit, begins, (ls.0, rs.0, refl, ls.2, ls.3, right)),
        ),
        λ a. absurd a,
      )

  -- a null statement
  pub null_read : (ts us : Tokens) → ts ≡ Sign Semicolon ∷ us → NoneBegins p ts → (y : Front Body) → ◌≡◌ {A = Result (Front Body) Fault} (read_as body.Null (p + 1) us) (Ok y) → BodyRead c levels label p k ts y
  null_read ts us shape none y h =
      subst (BodyRead c levels label p k ts) (same_ok h) (
        (
          Sign Semicolon ∷ [],
          shape,
          refl,
          (plain_stands label body.Null tt tt (λ n. n) (λ n. (n, tt)) c.standing fits, may_return body.Null tt tt c.in_on_unit, none (Sign Semicolon ∷ []) us shape, refl),
        ),
        λ a. absurd a,
      )

  -- GO TO
  pub go_read : (ts us : Tokens) → ts ≡ Word (codes "GO") ∷ Word (codes "TO") ∷ us → NoneBegins p ts → (y : Front Body) → closing body.Goto (identifier_at (p + 2) us) ≡ Ok y → BodyRead c levels label p k ts y
  go_read ts us shape none y h =
      let i = bind_ok (identifier_at (p + 2) us) _ y h in
      let f = identifier_reads (p + 2) us i.0 i.1 in
      let s = stopped_ok (body.Goto i.0.value) i.0.next i.0.rest y i.2 in
      let t = two (p + 2) i.0.next (i.0.next + 1) us i.0.rest y.rest f.0 (Sign Semicolon ∷ []) f.1 f.2 s.0 refl in
      let front : Tokens = Word (codes "GO") ∷ Word (codes "TO") ∷ f.0 ++ Sign Semicolon ∷ [] in
      let whole : ts ≡ front ++ y.rest = shape ∙ ap (λ vs. Word (codes "GO") ∷ Word (codes "TO") ∷ vs) t.0 in
      subst (BodyRead c levels label p k ts) s.1 (
        (
          front,
          whole,
          omega (arith, t.1),
          (
            plain_stands label (body.Goto i.0.value) tt tt (λ n. n) (λ n. (n, tt)) c.standing fits,
            may_return (body.Goto i.0.value) tt tt c.in_on_unit,
            none front y.rest whole,
            (Word (codes "GO") ∷ Word (codes "TO") ∷ f.0, refl, inr (f.0, refl, f.3)),
          ),
        ),
        λ a. absurd a,
      )

  -- after a keyword of one word
  module _ (ts us : Tokens) (n : Name) (first : ts ≡ Word n ∷ us) (none : NoneBegins p ts) where
    -- up to the `;`
    closed_read : {A : Type 0} (f : A → Body) (one : ℕ → Tokens → Result (Front A) Fault) (Spells : ℕ → Tokens → A → Type 0) → Reads one Spells
        → ((front : Tokens) (x : A) → Spells (p + 1) front x → (BeginsAssignment p (Word n ∷ front ++ Sign Semicolon ∷ []) → ⊥) → BodySpelled c levels label p k (Word n ∷ front ++ Sign Semicolon ∷ []) (f x))
        → ((front : Tokens) (x : A) → Spells (p + 1) front x → BodyAwaitsElse (f x) → ⊥) → (y : Front Body) → closing f (one (p + 1) us) ≡ Ok y → BodyRead c levels label p k ts y
    closed_read f one Spells reads so awaits y h =
        let g = bind_ok (one (p + 1) us) _ y h in
        let r = reads (p + 1) us g.0 g.1 in
        let s = stopped_ok (f g.0.value) g.0.next g.0.rest y g.2 in
        let t = two (p + 1) g.0.next (g.0.next + 1) us g.0.rest y.rest r.0 (Sign Semicolon ∷ []) r.1 r.2 s.0 refl in
        let front : Tokens = Word n ∷ r.0 ++ Sign Semicolon ∷ [] in
        let whole : ts ≡ front ++ y.rest = first ∙ ap (λ vs. Word n ∷ vs) t.0 in
        subst (BodyRead c levels label p k ts) s.1 ((front, whole, omega (arith, t.1), so r.0 g.0.value r.3 (none front y.rest whole)), λ a. absurd (awaits r.0 g.0.value r.3 a))

    -- of a body that may stand anywhere
    plain_read : {A : Type 0} (f : A → Body) (one : ℕ → Tokens → Result (Front A) Fault)
        (Spells : ℕ → Tokens → A → Type 0) → Reads one Spells → ((x : A) → IsPlain label (f x))
        → ((front : Tokens) (x : A) → Spells (p + 1) front x
        → (BeginsAssignment p (Word n ∷ front ++ Sign Semicolon ∷ []) → ⊥)
        → IsOfItsKind p (Word n ∷ front ++ Sign Semicolon ∷ []) (f x)
        × SpellsBody c levels label p k (Word n ∷ front ++ Sign Semicolon ∷ []) (f x))
        → ((x : A) → BodyAwaitsElse (f x) → ⊥) → (y : Front Body) → closing f (one (p + 1) us) ≡ Ok y
        → BodyRead c levels label p k ts y
    plain_read f one Spells reads plain so awaits y h =
        closed_read f one Spells reads (λ front x s not.
        let stands = plain_fits label (f x) (plain x) c.standing c.in_on_unit fits in
        let spelled = so front x s not in (stands.0, stands.1, spelled.0, spelled.1))
        (λ front x s a. awaits x a) y h

    pub revert_read : keyword_of n ≡ Some words.Revert → (y : Front Body) → closing body.Revert (condition_at (p + 1) us) ≡ Ok y → BodyRead c levels label p k ts y
    revert_read word y h =
        plain_read body.Revert condition_at (λ q vs x. SpellsCondition vs x) condition_reads
        (λ x. (tt, tt, λ e. e, λ e. (e, tt), tt, tt))
        (λ front x s not. (not, (n, _, refl, word, (front, refl, s)))) (λ x a. a) y h

    pub signal_read : keyword_of n ≡ Some words.Signal → (y : Front Body) → closing body.Signal (condition_at (p + 1) us) ≡ Ok y → BodyRead c levels label p k ts y
    signal_read word y h =
        plain_read body.Signal condition_at (λ q vs x. SpellsCondition vs x) condition_reads
        (λ x. (tt, tt, λ e. e, λ e. (e, tt), tt, tt))
        (λ front x s not. (not, (n, _, refl, word, (front, refl, s)))) (λ x a. a) y h

    pub stop_read : keyword_of n ≡ Some words.Stop → (y : Front Body) → closing (λ (nothing : Unit {0}). body.Stop) (read_as tt (p + 1) us) ≡ Ok y → BodyRead c levels label p k ts y
    stop_read word y h =
        plain_read (λ (nothing : Unit {0}). body.Stop) (λ q vs. read_as tt q vs) (λ q vs x. vs ≡ [])
        (λ q vs x g. subst (SpellsFront (λ q vs x. vs ≡ []) q vs) (same_ok g) ([], refl, omega arith, refl))
        (λ x. (tt, tt, λ e. e, λ e. (e, tt), tt, tt))
        (λ front x s not. (not, (n, _, refl, word, (front, refl, s)))) (λ x a. a) y h

    pub allocate_read : keyword_of n ≡ Some words.Allocate → (y : Front Body) → closing body.Allocate (list_at Commas (allocation_at levels) (p + 1) us) ≡ Ok y → BodyRead c levels label p k ts y
    allocate_read word y h =
        plain_read body.Allocate (list_at Commas (allocation_at levels)) (SpellsListed Commas (SpellsAllocation levels)) (list_reads (allocation_at levels) (SpellsAllocation levels) (allocation_reads levels))
        (λ x. (tt, tt, λ e. e, λ e. (e, tt), tt, tt))
        (λ front x s not. (not, (n, _, refl, word, (front, refl, s)))) (λ x a. a) y h

    pub free_read : keyword_of n ≡ Some words.Free → (y : Front Body) → closing body.Free (list_at Commas (reference_in levels) (p + 1) us) ≡ Ok y → BodyRead c levels label p k ts y
    free_read word y h =
        plain_read body.Free (list_at Commas (reference_in levels)) (SpellsListed Commas (SpellsReferenceAlone levels)) (list_reads (reference_in levels) (SpellsReferenceAlone levels) (reference_reads levels))
        (λ x. (tt, tt, λ e. e, λ e. (e, tt), tt, tt))
        (λ front x s not. (not, (n, _, refl, word, (front, refl, s)))) (λ x a. a) y h

    pub goto_read : keyword_of n ≡ Some words.Goto → (y : Front Body) → closing body.Goto (identifier_at (p + 1) us) ≡ Ok y → BodyRead c levels label p k ts y
    goto_read word y h =
        plain_read body.Goto identifier_at SpellsIdentifier identifier_reads
        (λ x. (tt, tt, λ e. e, λ e. (e, tt), tt, tt))
        (λ front x s not. (not, (Word n ∷ front, refl, inl (n, front, refl, word, s)))) (λ x a. a) y h

    -- of a reader of whole bodies, each made of two parts, that may stand anywhere
    made_read : {A B : Type 0} (make : A → B → Body) (one : ℕ → Tokens → Result (Front Body) Fault)
        (Spells : ℕ → Tokens → A → B → Type 0)
        → Reads one (λ q vs b. (a : A) × (z : B) × (b ≡ make a z) × Spells q vs a z)
        → ((a : A) (z : B) → IsPlain label (make a z))
        → ((front : Tokens) (a : A) (z : B) → Spells (p + 1) front a z
        → (BeginsAssignment p (Word n ∷ front ++ Sign Semicolon ∷ []) → ⊥)
        → IsOfItsKind p (Word n ∷ front ++ Sign Semicolon ∷ []) (make a z)
        × SpellsBody c levels label p k (Word n ∷ front ++ Sign Semicolon ∷ []) (make a z))
        → ((a : A) (z : B) → BodyAwaitsElse (make a z) → ⊥) → (y : Front Body)
        → closing (λ (b : Body). b) (one (p + 1) us) ≡ Ok y → BodyRead c levels label p k ts y
    made_read {A = A} {B = B} make one Spells reads plain so awaits y h =
        closed_read (λ b. b) one (λ q vs b. (a : A) × (z : B) × (b ≡ make a z) × Spells q vs a z) reads
        (λ front b s not.
        let stands = plain_fits label (make s.0 s.1) (plain s.0 s.1) c.standing c.in_on_unit fits in
        let spelled = so front s.0 s.1 s.3 not in
        subst (BodySpelled c levels label p k (Word n ∷ front ++ Sign Semicolon ∷ [])) (sym s.2)
        (stands.0, stands.1, spelled.0, spelled.1))
        (λ front b s w. awaits s.0 s.1 (subst BodyAwaitsElse s.2 w)) y h

    pub call_read : keyword_of n ≡ Some words.Call → (y : Front Body) → closing (λ (x : Body). x) (call_at levels (p + 1) us) ≡ Ok y → BodyRead c levels label p k ts y
    call_read word y h =
        made_read body.Call (call_at levels) (SpellsCall levels) (call_reads levels)
        (λ a z. (tt, tt, λ e. e, λ e. (e, tt), tt, tt))
        (λ front a z s not. (not, (n, _, refl, word, (front, refl, s)))) (λ a z w. w) y h

    pub put_read : keyword_of n ≡ Some words.Put → (y : Front Body) → closing (λ (x : Body). x) (put_at levels (p + 1) us) ≡ Ok y → BodyRead c levels label p k ts y
    put_read word y h =
        made_read body.Put (put_at levels) (SpellsPut levels) (put_reads levels)
        (λ a z. (tt, tt, λ e. e, λ e. (e, tt), tt, tt))
        (λ front a z s not. (not, (n, _, refl, word, (front, refl, s)))) (λ a z w. w) y h

    value_so : (q : ℕ) (vs : Tokens) (o : Option Expression) → MaybeEnclosed (SpellsOutermost levels) q vs o → SpellsValue levels q vs o
    value_so q vs None s = s
    value_so q vs (Some e) s = s

    pub return_read : keyword_of n ≡ Some words.Return → misplacement c words.Return (is_labelled label) c.in_on_unit ≡ None
        → (y : Front Body) → closing body.Return (if_open (expression_in levels) (p + 1) us (rest_after is_open us)) ≡ Ok y → BodyRead c levels label p k ts y
    return_read word placed y h =
        closed_read body.Return (λ q vs. if_open (expression_in levels) q vs (rest_after is_open vs)) (MaybeEnclosed (SpellsOutermost levels)) (open_reads (expression_in levels) (SpellsOutermost levels) (expression_reads levels))
        (λ front x s not.
        let stands = return_stands c.standing c.in_on_unit label x fits placed in (stands.0, stands.1, not, (n, _, refl, word, (front, refl, value_so (p + 1) front x s))))
        (λ front x s a. a) y h

    pub declare_read : keyword_of n ≡ Some words.Declare → standing_misplaced c.standing words.Declare (is_labelled label) ≡ None → (y : Front Body) → mapped body.Declare (declaration_at (p + 1) us) ≡ Ok y → BodyRead c levels label p k ts y
    declare_read word placed y h =
        let m = mapped_ok body.Declare (declaration_at (p + 1) us) y h in
        let f = declaration_reads (p + 1) us m.0 m.1 in
        let whole : ts ≡ (Word n ∷ f.0) ++ m.0.rest = first ∙ ap (λ vs. Word n ∷ vs) f.1 in
        subst (BodyRead c levels label p k ts) m.2 (
          (
            Word n ∷ f.0,
            whole,
            omega (arith, f.2),
            (declare_stands c.standing label m.0.value placed, may_return (body.Declare m.0.value) tt tt c.in_on_unit, none (Word n ∷ f.0) m.0.rest whole, (n, f.0, refl, word, f.3)),
          ),
          λ a. absurd a,
        )
