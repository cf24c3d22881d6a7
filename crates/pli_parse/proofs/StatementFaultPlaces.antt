-- A fault of reading stands at a token: statements and the unit.
use Rattle.std.proofs.Common.{◌≡◌, ◌<◌, ◌≤◌, ◌+◌, ◌-◌, ℕ, suc, zero, Bool, true, false, cond, [], ◌∷◌, Option, Some, None, Result, Ok, Err, length, codes, refl, ap, ◌∙◌, sym, subst, arith, inl, inr, ⊎_elim, ◌⊎◌}
use Rattle.pli_base.specs.FaultPlaces.{StandsAtToken, FaultStands, Passes}
use Rattle.pli_base.specs.laws.FaultPlaceLaws.{passes_none, passes_one, passes_two, fault_of_text}
use Rattle.pli_parse_fault.specs.FaultCodes.{is_of_part, IsToldOf}
use Rattle.pli_parse_fault.proofs.ToldFaults.{told_first, told_last, told_after, told_stands}
use Rattle.pli_base.specs.Words.{Tokens, is_procedure, is_semicolon, is_open, is_word}
use Rattle.pli_base.specs.Results.{◌>>=◌}
use Rattle.pli_base.specs.Reading.{Front, at_fault, misplaced}
use Rattle.pli_base.specs.declared.code.Code.{Code}
use Rattle.pli_base.specs.declared.code.Code.TheVariants.{NoProcedure, NotAStatement, SemicolonExpected, ThenExpected, WrongEndName, EndMissing, TextAfterEnd, BadLabel, NestedTooDeep, MisplacedStatement}
use Rattle.pli_base.specs.declared.token.Fault.{Fault}
use Rattle.pli_base.specs.declared.token.Sign.TheVariants.{Colon}
use Rattle.pli_base.specs.declared.token.TokenText.{TokenText}
use Rattle.pli_base.specs.declared.token.TokenText.TheVariants.{Word, Sign}
use Rattle.pli_base.specs.declared.syntax.Identifier.{Identifier}
use Rattle.pli_base.specs.Statements as body
use Rattle.pli_base.specs.Statements.{Statement, Numbered, Body, Before, Alternative, Else, ExternalProcedure, count}
use Rattle.pli_parse_expression.specs.Operators.{nesting_limit}
use Rattle.pli_base.specs.Words.{rest_after}
use Rattle.pli_parse_declaration.specs.DeclarationReading.{identifier_at, list_at, declaration_at}
use Rattle.pli_parse_declaration.specs.declared.list.Separator.TheVariants.{Commas}
use Rattle.pli_base.specs.Reading.{read_as, mapped, if_open}
use Rattle.pli_parse_fault.proofs.StepLemmas.{same_err}
use Rattle.pli_parse_fault.proofs.ReadingFaults.{Stands, at_least, stands_after, stands_then, stands_made, mapped_stands, fault_of}
use Rattle.pli_parse_declaration.proofs.DeclarationFaults.{identifier_sound, taken_then, optional_stands, list_sound, declaration_stands}
use Rattle.pli_parse_statement.specs.StatementWords.{Context, standing, the_on_unit, a_procedure, StatementKind, Assigns, Empty, Keyed, Unknown, kind_of}
use Rattle.pli_parse_statement.specs.StatementReading.{expression_in, reference_in, stopped, closing, assignment_at, condition_at, control_at, allocation_at, put_at, call_at, heading_at, StatementReader, Inside, deeper, has_semicolon, label_at, is_labelled, second_label, bad_label, Misplacement, AtLabel, AtStatement, on_unit_misplaced, standing_misplaced, misplacement, at_label, Listing, is_label, named_end, ending_at, NextStatement, EndsHere, Another, next_of, list_by, list_from, list_in, else_first, alternative_from, if_at, on_at, do_at, begin_at, inner_list, procedure_at, keyed_at, unless_misplaced, body_from, after_label, begun, statement_of, inside_of, statement_at, finished, external_at, unit_from, unit_of}
use Rattle.pli_parse_statement.specs.declared.keyword.Keyword.{Keyword}
use Rattle.pli_parse_statement.specs.declared.keyword.Keyword.TheVariants as words
use Rattle.pli_parse_statement.specs.declared.keyword.StatementStanding.{StatementStanding}
use Rattle.pli_parse_statement.specs.declared.keyword.StatementStanding.TheVariants.{InBlock, InGroup, AsClause, AsOnUnit}
use Rattle.pli_parse.proofs.StatementReadFirst.{empty_begins, word_begins, two_words_begin, end_begins, else_begins}
use Rattle.pli_parse.proofs.StatementFaults.{expression_sound, reference_sound, stopped_sound, closing_stands, after_first, assignment_stands, condition_sound, control_stands, allocation_sound, put_stands, call_sound, heading_stands}

-- what reads statements passes over a token at least, and a fault stands at one of those that it looks at
abbrev pub IsSoundReader : StatementReader → Type 0
IsSoundReader one = (c : Context) (p k : ℕ) (ts : Tokens) → Stands 1 p ts (one c p k ts)

abbrev InsideSound : Option Inside → Type 0
InsideSound None = Unit {0}
InsideSound (Some i) = IsSoundReader i.statement

ending_stands : (label : Option Identifier) (p : ℕ) (ts : Tokens) → Stands 1 p ts (ending_at label p ts)
unfolding ending_at
ending_stands label p [] = stopped_sound tt p []
ending_stands label p (Word n ∷ us) = by (is_label label n)
  where
    by : (b : Bool) → Stands 1 p (Word n ∷ us) (named_end b p us)
    by true = after_first 1 p (Word n ∷ us) us (stopped tt (p + 1) us) (omega arith) (stopped_sound tt (p + 1) us)
    by false = told_first WrongEndName refl p (Word n ∷ us) (omega arith)
ending_stands label p (t ∷ us) = stopped_sound tt p (t ∷ us)

module _ (one : StatementReader) (sound : IsSoundReader one) (c : Context) (label : Option Identifier) where
  list_step : (more : (p k : ℕ) → Tokens → Result (Front Listing) Fault) (p k : ℕ) (ts : Tokens) → ((q l : ℕ) (us : Tokens) → length us < length ts → Stands 1 q us (more q l us)) → (n : NextStatement) → next_of ts ≡ n
      → Stands 1 p ts (list_by one c label more p k ts n)
  list_step more p k ts stands (EndsHere us) e =
      after_first 1 p ts us (list_by one c label more p k ts (EndsHere us)) (ap length (end_begins ts us e)) (mapped_stands 1 (p + 1) us _ (ending_at label (p + 1) us) (ending_stands label (p + 1) us))
  list_step more p k ts stands Another e =
      at_least 2 1 p ts (list_by one c label more p k ts Another) (omega arith)
      (stands_then 1 1 p ts (one c p k ts) _ (sound c p k ts)
      (λ x s. stands_made 1 x.next x.rest (more x.next (k + count x.value) x.rest) (λ y. record { statements = Before x.value y.value.statements; end = y.value.end })
      (stands x.next (k + count x.value) x.rest (omega (arith, s.0, s.1)))))

  pub list_stands : (bound p k : ℕ) (ts : Tokens) → length ts < bound → Stands 1 p ts (list_from one c label bound p k ts)
  unfolding list_from
  list_stands zero p k ts small = absurd (omega arith)
  list_stands (suc bound) p k ts small = list_step (list_from one c label bound) p k ts (λ q l us less. list_stands bound q l us (omega arith)) (next_of ts) refl

pub list_in_stands : (i : Inside) → IsSoundReader i.statement → (c : Context) (label : Option Identifier) (p k : ℕ) (ts : Tokens) → Stands 1 p ts (list_in i c label p k ts)
list_in_stands i sound c label p k ts = list_stands i.statement sound c label (length ts + 1) p k ts (omega arith)

alternative_stands : (i : Inside) → IsSoundReader i.statement → (c : Context) (p k : ℕ) (ts : Tokens) → Stands 0 p ts (alternative_from i c p k ts (else_first ts))
alternative_stands i sound c p k ts = by (else_first ts) refl
  where
    by : (o : Option Tokens) → else_first ts ≡ o → Stands 0 p ts (alternative_from i c p k ts o)
    by None e = passes_none p ts
    by (Some us) e =
        let read : Result (Front Alternative) Fault = mapped Else (i.statement (standing AsClause c) (p + 1) k us) in
        at_least 1 0 p ts read (omega arith)
        (after_first 1 p ts us read (ap length (else_begins ts us e)) (mapped_stands 1 (p + 1) us Else (i.statement (standing AsClause c) (p + 1) k us) (sound (standing AsClause c) (p + 1) k us)))

if_stands : (i : Inside) → IsSoundReader i.statement → (c : Context) (p k : ℕ) (ts : Tokens) → Stands 1 p ts (if_at i c p k ts)
unfolding if_at
if_stands i sound c p k ts =
    stands_then 1 0 p ts (expression_in i.levels p ts) _ (expression_sound i.levels p ts)
    (λ condition s. at_least 2 0 condition.next condition.rest _ (omega arith)
    (taken_then (is_word (codes "THEN")) ThenExpected refl 1 condition.next condition.rest _
    (λ us. stands_then 1 0 (condition.next + 1) us (i.statement (standing AsClause c) (condition.next + 1) k us) _ (sound (standing AsClause c) (condition.next + 1) k us)
    (λ consequence t. stands_made 0 consequence.next consequence.rest (alternative_from i c consequence.next (k + count consequence.value) consequence.rest (else_first consequence.rest))
    (λ alternative. body.If condition.value consequence.value alternative.value) (alternative_stands i sound c consequence.next (k + count consequence.value) consequence.rest)))))

on_stands : (i : Inside) → IsSoundReader i.statement → (p k : ℕ) (ts : Tokens) → Stands 1 p ts (on_at i p k ts)
unfolding on_at
on_stands i sound p k ts =
    at_least 2 1 p ts (on_at i p k ts) (omega arith)
    (stands_then 1 1 p ts (condition_at p ts) _ (condition_sound p ts)
    (λ condition s. stands_made 1 condition.next condition.rest (i.statement the_on_unit condition.next k condition.rest) (λ unit. body.On condition.value unit.value) (sound the_on_unit condition.next k condition.rest)))

do_stands : (i : Inside) → IsSoundReader i.statement → (c : Context) (label : Option Identifier) (p k : ℕ) (ts : Tokens) → Stands 2 p ts (do_at i c label p k ts)
unfolding do_at
do_stands i sound c label p k ts =
    stands_then 0 2 p ts (control_at i.levels p ts) _ (control_stands i.levels p ts)
    (λ control s. taken_then is_semicolon SemicolonExpected refl 1 control.next control.rest _
    (λ us. stands_made 1 (control.next + 1) us (list_in i (standing InGroup c) label (control.next + 1) k us) (λ list. body.Do control.value list.value.statements list.value.end)
    (list_in_stands i sound (standing InGroup c) label (control.next + 1) k us)))

begin_stands : (i : Inside) → IsSoundReader i.statement → (c : Context) (label : Option Identifier) (p k : ℕ) (ts : Tokens) → Stands 2 p ts (begin_at i c label p k ts)
unfolding begin_at
begin_stands i sound c label p k ts =
    taken_then is_semicolon SemicolonExpected refl 1 p ts _
    (λ us. stands_made 1 (p + 1) us (list_in i (standing InBlock c) label (p + 1) k us) (λ list. body.Begin list.value.statements list.value.end) (list_in_stands i sound (standing InBlock c) label (p + 1) k us))

-- PROCEDURE has a label where it may stand
procedure_stands : (i : Inside) → IsSoundReader i.statement → (s : StatementStanding) (label : Option Identifier) → standing_misplaced s words.Procedure (is_labelled label) ≡ None → (number p : ℕ) (ts : Tokens) → Stands 2 p ts (procedure_at i label number p ts)
unfolding procedure_at
procedure_stands i sound InBlock None placed number p ts = cc
procedure_stands i sound InGroup None placed number p ts = cc
procedure_stands i sound AsClause None placed number p ts = cc
procedure_stands i sound AsOnUnit None placed number p ts = cc
procedure_stands i sound s (Some name) placed number p ts =
    stands_then 1 1 p ts (heading_at name number p ts) _ (heading_stands name number p ts)
    (λ heading t. stands_made 1 heading.next heading.rest (inner_list i name heading.next (number + 1) heading.rest) (λ list. body.Procedure heading.value list.value.statements list.value.end)
    (list_in_stands i sound a_procedure (Some name) heading.next (number + 1) heading.rest))

-- a level more, at a token
deeper_stands : (inside : Option Inside) → InsideSound inside → (least p : ℕ) (ts us : Tokens) → length ts ≡ suc (length us) → (read : Inside → Result (Front Body) Fault)
    → ((i : Inside) → IsSoundReader i.statement → Stands least (p + 1) us (read i)) → Stands 1 p ts (deeper inside p read)
deeper_stands None sound least p ts us one read stands = told_first NestedTooDeep refl p ts (omega arith)
deeper_stands (Some i) sound least p ts us one read stands = after_first least p ts us (read i) one (stands i sound)

-- the first word, and the first two of GO TO
keyword_less : (ts us : Tokens) (k : Keyword) → kind_of ts ≡ Keyed k us → (k ≡ words.GoTo → ⊥) → length ts ≡ suc (length us)
keyword_less ts us k kind not = ap length (word_begins ts us k kind not).1.1

module _ (levels : ℕ) (inside : Option Inside) (sound : InsideSound inside) (c : Context) (label : Option Identifier) (p k : ℕ) (ts us : Tokens) where
  closed_after : {A B : Type 0} (least : ℕ) (f : A → B) (r : Result (Front A) Fault) → length ts ≡ suc (length us) → Stands least (p + 1) us r → Stands 1 p ts (closing f r)
  closed_after least f r one h = after_first 1 p ts us (closing f r) one (closing_stands least (p + 1) us f r h)

  keyed_stands : (keyword : Keyword) → kind_of ts ≡ Keyed keyword us → misplacement c keyword (is_labelled label) c.in_on_unit ≡ None → Stands 1 p ts (keyed_at levels inside c label p k us keyword)
  keyed_stands words.Procedure kind placed =
      deeper_stands inside sound 2 p ts us (keyword_less ts us words.Procedure kind (λ e. cc)) (λ i. procedure_at i label k (p + 1) us) (λ i inner. procedure_stands i inner c.standing label placed k (p + 1) us)
  keyed_stands words.Declare kind placed =
      after_first 2 p ts us (mapped body.Declare (declaration_at (p + 1) us)) (keyword_less ts us words.Declare kind (λ e. cc)) (mapped_stands 2 (p + 1) us body.Declare (declaration_at (p + 1) us) (declaration_stands (p + 1) us))
  keyed_stands words.End kind placed =
      let one : length ts ≡ suc (length us) = keyword_less ts us words.End kind (λ e. cc) in
      told_first MisplacedStatement refl p ts (omega arith)
  keyed_stands words.Begin kind placed =
      deeper_stands inside sound 2 p ts us (keyword_less ts us words.Begin kind (λ e. cc)) (λ i. begin_at i c label (p + 1) (k + 1) us) (λ i inner. begin_stands i inner c label (p + 1) (k + 1) us)
  keyed_stands words.Do kind placed =
      deeper_stands inside sound 2 p ts us (keyword_less ts us words.Do kind (λ e. cc)) (λ i. do_at i c label (p + 1) (k + 1) us) (λ i inner. do_stands i inner c label (p + 1) (k + 1) us)
  keyed_stands words.If kind placed =
      deeper_stands inside sound 1 p ts us (keyword_less ts us words.If kind (λ e. cc)) (λ i. if_at i c (p + 1) (k + 1) us) (λ i inner. if_stands i inner c (p + 1) (k + 1) us)
  keyed_stands words.On kind placed =
      deeper_stands inside sound 1 p ts us (keyword_less ts us words.On kind (λ e. cc)) (λ i. on_at i (p + 1) (k + 1) us) (λ i inner. on_stands i inner (p + 1) (k + 1) us)
  keyed_stands words.Revert kind placed = closed_after 1 body.Revert (condition_at (p + 1) us) (keyword_less ts us words.Revert kind (λ e. cc)) (condition_sound (p + 1) us)
  keyed_stands words.Signal kind placed = closed_after 1 body.Signal (condition_at (p + 1) us) (keyword_less ts us words.Signal kind (λ e. cc)) (condition_sound (p + 1) us)
  keyed_stands words.Stop kind placed = after_first 1 p ts us (stopped body.Stop (p + 1) us) (keyword_less ts us words.Stop kind (λ e. cc)) (stopped_sound body.Stop (p + 1) us)
  keyed_stands words.Allocate kind placed =
      closed_after 1 body.Allocate (list_at Commas (allocation_at levels) (p + 1) us) (keyword_less ts us words.Allocate kind (λ e. cc)) (list_sound Commas (allocation_at levels) (allocation_sound levels) (p + 1) us)
  keyed_stands words.Free kind placed =
      closed_after 1 body.Free (list_at Commas (reference_in levels) (p + 1) us) (keyword_less ts us words.Free kind (λ e. cc)) (list_sound Commas (reference_in levels) (reference_sound levels) (p + 1) us)
  keyed_stands words.Call kind placed = closed_after 1 (λ x. x) (call_at levels (p + 1) us) (keyword_less ts us words.Call kind (λ e. cc)) (call_sound levels (p + 1) us)
  keyed_stands words.Goto kind placed = closed_after 1 body.Goto (identifier_at (p + 1) us) (keyword_less ts us words.Goto kind (λ e. cc)) (identifier_sound (p + 1) us)
  keyed_stands words.GoTo kind placed =
      let both : length ts ≡ suc (suc (length us)) = ap length (two_words_begin ts us kind).1 in
      let read : Result (Front Body) Fault = closing body.Goto (identifier_at (p + 2) us) in
      at_least 3 1 p ts read (omega arith) (stands_after 2 1 p (p + 2) ts us read (passes_two p ts us both) (closing_stands 1 (p + 2) us body.Goto (identifier_at (p + 2) us) (identifier_sound (p + 2) us)))
  keyed_stands words.Return kind placed =
      closed_after 0 body.Return (if_open (expression_in levels) (p + 1) us (rest_after is_open us)) (keyword_less ts us words.Return kind (λ e. cc)) (optional_stands (expression_in levels) (expression_sound levels) (p + 1) us)
  keyed_stands words.Put kind placed = closed_after 0 (λ x. x) (put_at levels (p + 1) us) (keyword_less ts us words.Put kind (λ e. cc)) (put_stands levels (p + 1) us)

-- a keyword stands first, of one word or two
some_first : (ts us : Tokens) (k : Keyword) → kind_of ts ≡ Keyed k us → 0 < length ts
some_first ts us words.GoTo kind = let both : length ts ≡ suc (suc (length us)) = ap length (two_words_begin ts us kind).1 in omega arith
some_first ts us k kind = let one : length ts ≡ suc (length us) = keyword_less ts us k kind (λ e. cc) in omega arith

-- a label stands at the statement's first token
abbrev LabelStands : (p : ℕ) → Tokens → Option Identifier → Type 0
LabelStands p ts None = Unit {0}
LabelStands p ts (Some l) = (l.at ≡ p) × (0 < length ts)

label_stands : (p : ℕ) (ts : Tokens) → LabelStands p ts (label_at p ts).value
unfolding label_at
label_stands p [] = tt
label_stands p (Word n ∷ Sign Colon ∷ us) = (refl, omega arith)
label_stands p (Word n ∷ us) = tt
label_stands p (t ∷ ts) = tt

label_passes : (p : ℕ) (ts : Tokens) → Passes 0 p ts (label_at p ts).next (label_at p ts).rest
unfolding label_at
label_passes p [] = passes_none p []
label_passes p (Word n ∷ Sign Colon ∷ us) = (omega arith, omega arith)
label_passes p (Word n ∷ us) = passes_none p (Word n ∷ us)
label_passes p (t ∷ ts) = passes_none p (t ∷ ts)

label_keeps : (p : ℕ) (ts : Tokens) → has_semicolon ts ≡ true → has_semicolon (label_at p ts).rest ≡ true
unfolding label_at has_semicolon
label_keeps p [] h = h
label_keeps p (Word n ∷ Sign Colon ∷ us) h = h
label_keeps p (Word n ∷ us) h = h
label_keeps p (t ∷ ts) h = h

some_tokens : (ts : Tokens) → has_semicolon ts ≡ true → 0 < length ts
unfolding has_semicolon
some_tokens [] h = cc
some_tokens (t ∷ ts) h = omega arith

at_same : {a b : ℕ} → ◌≡◌ {A = Option ℕ} (Some a) (Some b) → a ≡ b
at_same h = cc

-- the label that may not stand
bad_label_stands : (s : StatementStanding) (p : ℕ) (ts : Tokens) (x : Front (Option Identifier)) → Passes 0 p ts x.next x.rest → (label : Option Identifier) → LabelStands p ts label → (q : ℕ) → bad_label s x label ≡ Some q
    → IsToldOf p ts (record { code = BadLabel; at = q })
bad_label_stands s p ts x passed None here q h = cc
bad_label_stands AsClause p ts x passed (Some l) here q h =
    let e : l.at ≡ q = at_same h in
    subst (λ r. IsToldOf p ts (record { code = BadLabel; at = r })) (sym here.0 ∙ e) (told_first BadLabel refl p ts here.1)
bad_label_stands AsOnUnit p ts x passed (Some l) here q h =
    let e : l.at ≡ q = at_same h in
    subst (λ r. IsToldOf p ts (record { code = BadLabel; at = r })) (sym here.0 ∙ e) (told_first BadLabel refl p ts here.1)
bad_label_stands s p ts x passed (Some l) here q h = by (label_at x.next x.rest).value (label_stands x.next x.rest) h
  where
    by : (second : Option Identifier) → LabelStands x.next x.rest second → second_label x.next second ≡ Some q → IsToldOf p ts (record { code = BadLabel; at = q })
    by None there g = cc
    by (Some m) there g =
        subst (λ r. IsToldOf p ts (record { code = BadLabel; at = r })) (at_same g)
        (told_after 0 p x.next ts x.rest (record { code = BadLabel; at = x.next }) passed (told_first BadLabel refl x.next x.rest there.1))

-- a statement that may not stand has the code of a part
abbrev PlacedCode : Option Misplacement → Type 0
PlacedCode None = Unit {0}
PlacedCode (Some (AtLabel code)) = is_of_part code ≡ true
PlacedCode (Some (AtStatement code)) = is_of_part code ≡ true

on_unit_code : (keyword : Keyword) → PlacedCode (on_unit_misplaced keyword)
on_unit_code words.Allocate = tt
on_unit_code words.Begin = tt
on_unit_code words.Call = tt
on_unit_code words.Free = tt
on_unit_code words.Goto = tt
on_unit_code words.GoTo = tt
on_unit_code words.Put = tt
on_unit_code words.Revert = tt
on_unit_code words.Signal = tt
on_unit_code words.Stop = tt
on_unit_code keyword = refl

standing_code : (s : StatementStanding) (keyword : Keyword) (l : Bool) → PlacedCode (standing_misplaced s keyword l)
standing_code AsOnUnit keyword l = on_unit_code keyword
standing_code AsClause words.Procedure l = refl
standing_code AsClause words.Declare l = refl
standing_code AsClause words.End l = refl
standing_code InBlock words.Procedure false = refl
standing_code InGroup words.Procedure false = refl
standing_code InGroup words.Procedure true = refl
standing_code InBlock words.Declare true = refl
standing_code InBlock words.End true = refl
standing_code InGroup words.Declare true = refl
standing_code InGroup words.End true = refl
standing_code s keyword l = tt

placed_code : (c : Context) (keyword : Keyword) (l in_on_unit : Bool) → PlacedCode (misplacement c keyword l in_on_unit)
placed_code c words.Return l true = refl
placed_code c keyword l in_on_unit = standing_code c.standing keyword l

-- a statement after its label
module _ (levels : ℕ) (inside : Option Inside) (sound : InsideSound inside) (c : Context) (p q k : ℕ) (ts us : Tokens) (passed : Passes 0 p ts q us) (label : Option Identifier) (here : LabelStands p ts label) where
  after_stands : (r : Result (Front Body) Fault) → Stands 1 q us r → Stands 1 p ts r
  after_stands r h = stands_after 0 1 p q ts us r passed h

  label_fault : (code : Code) → is_of_part code ≡ true → (l : Option Identifier) → LabelStands p ts l → 0 < length us → Stands {A = Body} 1 p ts (at_label code q l)
  label_fault code part None there some = told_after 0 p q ts us (record { code = code; at = q }) passed (told_first code part q us some)
  label_fault code part (Some l) there some = subst (λ r. IsToldOf p ts (record { code = code; at = r })) (sym there.0) (told_first code part p ts there.1)

  placed_stands : (vs : Tokens) (keyword : Keyword) → kind_of us ≡ Keyed keyword vs → (o : Option Misplacement) → misplacement c keyword (is_labelled label) c.in_on_unit ≡ o
      → Stands 1 p ts (unless_misplaced levels inside c label q k vs keyword o)
  placed_stands vs keyword kind (Some (AtLabel code)) e =
      let part : is_of_part code ≡ true = subst PlacedCode e (placed_code c keyword (is_labelled label) c.in_on_unit) in
      label_fault code part label here (some_first us vs keyword kind)
  placed_stands vs keyword kind (Some (AtStatement code)) e =
      let part : is_of_part code ≡ true = subst PlacedCode e (placed_code c keyword (is_labelled label) c.in_on_unit) in
      after_stands (at_fault code q) (told_first code part q us (some_first us vs keyword kind))
  placed_stands vs keyword kind None e = after_stands (keyed_at levels inside c label q k vs keyword) (keyed_stands levels inside sound c label q k us vs keyword kind e)

  body_stands : has_semicolon us ≡ true → (kind : StatementKind) → kind_of us ≡ kind → Stands 1 p ts (body_from levels inside c label q k us kind)
  body_stands has Assigns e = after_stands (assignment_at levels q us) (assignment_stands levels q us)
  body_stands has (Empty vs) e =
      let one : length us ≡ suc (length vs) = ap length (empty_begins us vs e).1 in
      after_stands (read_as body.Null (q + 1) vs) (passes_one q us vs one)
  body_stands has (Keyed keyword vs) e = placed_stands vs keyword e (misplacement c keyword (is_labelled label) c.in_on_unit) refl
  body_stands has Unknown e = after_stands (at_fault NotAStatement q) (told_first NotAStatement refl q us (some_tokens us has))

labelled_stands : (levels : ℕ) (inside : Option Inside) → InsideSound inside → (c : Context) (p k : ℕ) (ts : Tokens) → has_semicolon ts ≡ true → (o : Option ℕ) → bad_label c.standing (label_at p ts) (label_at p ts).value ≡ o
    → Stands 1 p ts (after_label levels inside c k (label_at p ts) o)
labelled_stands levels inside sound c p k ts has (Some q) e = bad_label_stands c.standing p ts (label_at p ts) (label_passes p ts) (label_at p ts).value (label_stands p ts) q e
labelled_stands levels inside sound c p k ts has None e =
    let x : Front (Option Identifier) = label_at p ts in
    mapped_stands 1 p ts (Numbered k x.value x.next) (body_from levels inside c x.value x.next k x.rest (kind_of x.rest))
    (body_stands levels inside sound c p x.next k ts x.rest (label_passes p ts) x.value (label_stands p ts) (label_keeps p ts has) (kind_of x.rest) refl)

pub statement_stands : (levels : ℕ) (inside : Option Inside) → InsideSound inside → IsSoundReader (statement_of levels inside)
unfolding statement_of
statement_stands levels inside sound c p k ts = by (has_semicolon ts) refl
  where
    by : (b : Bool) → has_semicolon ts ≡ b → Stands 1 p ts (begun levels inside c p k ts b)
    by true e = labelled_stands levels inside sound c p k ts e (bad_label c.standing (label_at p ts) (label_at p ts).value) refl
    by false e = told_last p ts

pub inside_sound : (levels : ℕ) → InsideSound (inside_of levels)
unfolding inside_of
inside_sound zero = tt
inside_sound (suc levels) = statement_stands levels (inside_of levels) (inside_sound levels)

pub statement_told : (c : Context) (levels p k : ℕ) (ts : Tokens) (f : Fault) → statement_at levels c p k ts ≡ Err f → IsToldOf p ts f
statement_told c levels p k ts f h = fault_of 1 p ts (statement_at levels c p k ts) f (statement_stands levels (inside_of levels) (inside_sound levels) c p k ts) h

pub statement_fault_stands : (c : Context) (levels p k : ℕ) (ts : Tokens) (f : Fault) → statement_at levels c p k ts ≡ Err f → FaultStands p ts f
statement_fault_stands c levels p k ts f h = told_stands p ts f (statement_told c levels p k ts f h)

-- a fault after the unit
abbrev pub IsAfterUnit : ℕ → Tokens → Fault → Type 0
IsAfterUnit p ts f = (f.code ≡ TextAfterEnd) × (p ≤ f.at) × (f.at < p + length ts)

-- the unit after its PROCEDURE
abbrev pub UnitStands : ℕ → Tokens → Result ExternalProcedure Fault → Type 0
UnitStands p ts (Ok u) = Unit {0}
UnitStands p ts (Err f) = IsToldOf p ts f ⊎ IsAfterUnit p ts f

after_passed : (least p q : ℕ) (ts us : Tokens) (f : Fault) → Passes least p ts q us → IsAfterUnit q us f → IsAfterUnit p ts f
after_passed least p q ts us f passed h = (h.0, omega (arith, passed.0, h.1), omega (arith, passed.1, h.2))

unit_after : (least p q : ℕ) (ts us : Tokens) (r : Result ExternalProcedure Fault) → Passes least p ts q us → UnitStands q us r → UnitStands p ts r
unit_after least p q ts us (Ok u) passed h = tt
unit_after least p q ts us (Err f) passed h = ⊎_elim (λ told. inl (told_after least p q ts us f passed told)) (λ after. inr (after_passed least p q ts us f passed after)) h

unit_then : {A : Type 0} (least p : ℕ) (ts : Tokens) (r : Result (Front A) Fault) (f : Front A → Result ExternalProcedure Fault)
    → Stands least p ts r → ((x : Front A) → UnitStands x.next x.rest (f x)) → UnitStands p ts (r >>= f)
unit_then least p ts (Ok x) f h more = unit_after least p x.next ts x.rest (f x) h (more x)
unit_then least p ts (Err e) f h more = inl h

finished_stands : (u : ExternalProcedure) (p : ℕ) (ts : Tokens) → UnitStands p ts (finished u p ts)
finished_stands u p [] = tt
finished_stands u p (t ∷ ts) = inr (refl, omega arith, omega arith)

abbrev external_in : Identifier → Tokens → Inside → Result ExternalProcedure Fault
external_in name ts i =
    heading_at name 1 3 ts >>= λ heading. inner_list i name heading.next 2 heading.rest
    >>= λ list. finished (record { heading = heading.value; statements = list.value.statements; end = list.value.end }) list.next list.rest

external_by : (name : Identifier) (t : TokenText) (ts : Tokens) (inside : Option Inside) → InsideSound inside → UnitStands 2 (t ∷ ts) (deeper inside 2 (external_in name ts))
external_by name t ts None sound = inl (told_first NestedTooDeep refl 2 (t ∷ ts) (omega arith))
external_by name t ts (Some i) sound =
    unit_after 1 2 3 (t ∷ ts) ts (external_in name ts i) (omega arith, omega arith)
    (unit_then 1 3 ts (heading_at name 1 3 ts) _ (heading_stands name 1 3 ts)
    (λ heading. unit_then 1 heading.next heading.rest (inner_list i name heading.next 2 heading.rest) _ (list_in_stands i sound a_procedure (Some name) heading.next 2 heading.rest)
    (λ list. finished_stands (record { heading = heading.value; statements = list.value.statements; end = list.value.end }) list.next list.rest)))

pub external_stands : (name : Identifier) (t : TokenText) (ts : Tokens) → UnitStands 2 (t ∷ ts) (external_at name ts)
unfolding external_at
external_stands name t ts = external_by name t ts (inside_of nesting_limit) (inside_sound nesting_limit)

misplaced_stands : (ts : Tokens) (p : ℕ) → misplaced ts ≡ Some p → StandsAtToken ts (record { code = NoProcedure; at = p })
unfolding misplaced
misplaced_stands [] p h = let e : 0 ≡ p = at_same h in sym e
misplaced_stands (Word n ∷ []) p h = cc
misplaced_stands (Word n ∷ Sign Colon ∷ []) p h = cc
misplaced_stands (Word n ∷ Sign Colon ∷ Word k ∷ ts) p h = by (is_procedure k) h
  where
    by : (b : Bool) → cond {A = Option ℕ} b None (Some 2) ≡ Some p → p < length (Word n ∷ Sign Colon ∷ Word k ∷ ts)
    by true g = cc
    by false g = let e : 2 ≡ p = at_same g in omega arith
misplaced_stands (Word n ∷ Sign Colon ∷ t ∷ ts) p h = let e : 2 ≡ p = at_same h in omega arith
misplaced_stands (Word n ∷ t ∷ ts) p h = let e : 1 ≡ p = at_same h in omega arith
misplaced_stands (t ∷ ts) p h = let e : 0 ≡ p = at_same h in omega arith

abbrev TextStands : Tokens → Result ExternalProcedure Fault → Type 0
TextStands ts (Ok u) = Unit {0}
TextStands ts (Err f) = StandsAtToken ts f

text_stands : (p : ℕ) (ts us : Tokens) (r : Result ExternalProcedure Fault) → Passes 0 0 ts p us → UnitStands p us r → TextStands ts r
text_stands p ts us (Ok u) passed h = tt
text_stands p ts us (Err f) passed h =
    fault_of_text ts f
    (⊎_elim (λ told. told_stands 0 ts f (told_after 0 0 p ts us f passed told)) (λ after. let b = after_passed 0 0 p ts us f passed after in inl (b.1, b.2)) h)

first_token : (code : Code) (ts : Tokens) → StandsAtToken ts (record { code = code; at = 0 })
first_token code [] = refl
first_token code (t ∷ ts) = omega arith

last_token : (ts : Tokens) → StandsAtToken ts (record { code = EndMissing; at = length ts - 1 })
last_token [] = refl
last_token (t ∷ ts) = omega arith

unit_stands : (ts : Tokens) → TextStands ts (unit_of ts)
unfolding unit_of
unit_stands ts = by (misplaced ts) (has_semicolon ts) ts refl
  where
    by : (o : Option ℕ) (b : Bool) (us : Tokens) → misplaced us ≡ o → TextStands us (unit_from o b us)
    by (Some p) b us e = misplaced_stands us p e
    by None false us e = last_token us
    by None true (Word n ∷ Sign Colon ∷ t ∷ us) e =
        text_stands 2 (Word n ∷ Sign Colon ∷ t ∷ us) (t ∷ us) (external_at (record { name = n; at = 0 }) us) (omega arith, omega arith) (external_stands (record { name = n; at = 0 }) t us)
    by None true us e = first_token NoProcedure us

text_fault : (ts : Tokens) (r : Result ExternalProcedure Fault) (f : Fault) → TextStands ts r → r ≡ Err f → StandsAtToken ts f
text_fault ts (Ok u) f h e = cc
text_fault ts (Err g) f h e = subst (StandsAtToken ts) (same_err e) h

pub unit_fault_stands : (ts : Tokens) (f : Fault) → unit_of ts ≡ Err f → StandsAtToken ts f
unit_fault_stands ts f h = text_fault ts (unit_of ts) f (unit_stands ts) h
