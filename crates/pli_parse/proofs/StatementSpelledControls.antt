-- What is spelled so is read: the range and the control of a DO group.
use Rattle.std.proofs.Common.{⊎_elim, ◌⊎◌, inl, inr, ◌≡◌, ◌+◌, ℕ, Bool, true, false, cond, [], ◌∷◌, ◌++◌, Option, Some, None, Result, Ok, length, codes, refl, ap, ◌∙◌, sym, subst, arith, append_assoc, length-append}
use Rattle.pli_base.specs.Name.{Name}
use Rattle.pli_base.specs.Words.{Tokens, same_name, rest_after}
use Rattle.pli_base.specs.Results.{◌>>=◌}
use Rattle.pli_base.specs.Reading.{Front, read_as, mapped, taken}
use Rattle.pli_base.specs.Syntax.{Expression, Reference, Named}
use Rattle.pli_base.specs.declared.code.Code.TheVariants.{BadDo}
use Rattle.pli_base.specs.declared.token.Fault.{Fault}
use Rattle.pli_base.specs.declared.token.Sign.TheVariants.{Semicolon, Equals, OpenParenthesis, CloseParenthesis}
use Rattle.pli_base.specs.declared.token.TokenText.TheVariants.{Word, Sign}
use Rattle.pli_parse_expression.specs.Expressions.{SpellsOutermost, SpellsReferenceAlone, EndsExpression}
use Rattle.pli_parse_declaration.proofs.DeclarationReadAgain.{Anyhow, placed}
use Rattle.pli_base.specs.Statements.{Range, To, By, Repeat, Control, While, Iterate}
use Rattle.pli_parse_statement.specs.StatementGrammar.{SpellsOptional, SpellsEnclosed, SpellsRange, BeginsWithWhile, SpellsControl}
use Rattle.pli_parse_statement.specs.StatementReading.{expression_in, parenthesized, is_equals, optional_at, RangeWord, ToWord, ByWord, RepeatWord, range_word, range_first, range_from, range_at, Conditioned, Iterated, specified, control_from, control_at}
use Rattle.pli_parse_statement.specs.StatementWords.{after_word}
use Rattle.pli_parse.proofs.StatementSpelledTools.{name_is}
use Rattle.pli_parse.proofs.WordsFirst.{range_spelling, range_there}
use Rattle.pli_parse.proofs.StatementSpelledParts.{expression_again, reference_again, optional_again, enclosed_expression}

-- where a range ends: at a `;`, or at WHILE
abbrev pub EndsRange : Tokens → Type 0
EndsRange more = ((zs : Tokens) × (more ≡ Sign Semicolon ∷ zs)) ⊎ ((zs : Tokens) × (more ≡ Word (codes "WHILE") ∷ zs))

ends_both : (Holds : Tokens → Type 0) → ((zs : Tokens) → Holds (Sign Semicolon ∷ zs)) → ((zs : Tokens) → Holds (Word (codes "WHILE") ∷ zs)) → (more : Tokens) → EndsRange more → Holds more
ends_both Holds stop while more ends = ⊎_elim (λ e. subst Holds (sym e.1) (stop e.0)) (λ e. subst Holds (sym e.1) (while e.0)) ends

range_ends_expression : (more : Tokens) → EndsRange more → EndsExpression more
range_ends_expression = ends_both EndsExpression (λ zs. (refl, refl)) (λ zs. (refl, refl))

no_range : (more : Tokens) → EndsRange more → range_first more ≡ None
unfolding range_first range_word
no_range = ends_both (λ more. range_first more ≡ None) (λ zs. refl) (λ zs. refl)

no_by : (more : Tokens) → EndsRange more → after_word (codes "BY") more ≡ None
unfolding after_word
no_by = ends_both (λ more. after_word (codes "BY") more ≡ None) (λ zs. refl) (λ zs. refl)

no_to : (more : Tokens) → EndsRange more → after_word (codes "TO") more ≡ None
unfolding after_word
no_to = ends_both (λ more. after_word (codes "TO") more ≡ None) (λ zs. refl) (λ zs. refl)

-- an optional part ends an expression, as what stands after it does
optional_ends : {A : Type 0} (word : Name) (Spells : ℕ → Tokens → A → Type 0) (p : ℕ) (ts more : Tokens) (o : Option A) → SpellsOptional word Spells p ts o → EndsExpression more → EndsExpression (ts ++ more)
optional_ends word Spells p ts more None shape ends = subst (λ us. EndsExpression (us ++ more)) (sym shape) ends
optional_ends word Spells p ts more (Some x) (us, shape, spelled) ends = subst (λ us. EndsExpression (us ++ more)) (sym shape) (refl, refl)

-- an expression after the word, and after it another after the other word
two_again : (levels : ℕ) (w : RangeWord) (other : Name) (make : Expression → Option Expression → Range) (p : ℕ) (ts front rest more : Tokens) (x : Expression) (y : Option Expression)
    → ((us vs : Tokens) → range_from levels p us (Some (w, vs))
    ≡ (expression_in levels (p + 1) vs >>= λ a. optional_at other (expression_in levels) a.next a.rest >>= λ z. read_as (Some (make a.value z.value)) z.next z.rest))
    → ts ≡ Word (range_spelling w) ∷ front ++ rest → SpellsOutermost levels (p + 1) front x → SpellsOptional other (SpellsOutermost levels) (p + 1 + length front) rest y
    → after_word other more ≡ None → EndsExpression more → range_at levels p (ts ++ more) ≡ read_as (Some (make x y)) (p + length ts) more
unfolding range_at
two_again levels w other make p ts front rest more x y step shape first second none stops =
    let whole : ts ++ more ≡ Word (range_spelling w) ∷ front ++ (rest ++ more) = ap (λ us. us ++ more) shape ∙ ap (λ us. Word (range_spelling w) ∷ us) (append_assoc front rest more) in
    ap (range_at levels p) whole
    ∙ ap (range_from levels p (Word (range_spelling w) ∷ front ++ (rest ++ more))) (range_there w (front ++ (rest ++ more)))
    ∙ step (Word (range_spelling w) ∷ front ++ (rest ++ more)) (front ++ (rest ++ more))
    ∙ ap (λ r. r >>= λ a. optional_at other (expression_in levels) a.next a.rest >>= λ z. read_as (Some (make a.value z.value)) z.next z.rest)
    (expression_again levels (p + 1) front (rest ++ more) x first (optional_ends other (SpellsOutermost levels) (p + 1 + length front) rest more y second stops))
    ∙ ap (λ r. r >>= λ z. read_as (Some (make x z.value)) z.next z.rest)
    (optional_again other (expression_in levels) (SpellsOutermost levels) EndsExpression (expression_again levels) (p + 1 + length front) rest more y second (none, stops))
    ∙ placed (Some (make x y)) (p + 1 + length front + length rest) (p + length ts) more (omega (arith, ap length shape, length-append front rest))

pub range_again : (levels p : ℕ) (ts more : Tokens) (r : Option Range) → SpellsRange levels p ts r → EndsRange more → range_at levels p (ts ++ more) ≡ read_as r (p + length ts) more
unfolding range_at
range_again levels p ts more None shape ends =
    ap (λ us. range_at levels p (us ++ more)) shape ∙ ap (range_from levels p more) (no_range more ends) ∙ placed None p (p + length ts) more (omega (arith, ap length shape))
range_again levels p ts more (Some (To to by)) (front, rest, shape, first, second) ends =
    two_again levels ToWord (codes "BY") To p ts front rest more to by (λ us vs. refl) shape first second (no_by more ends) (range_ends_expression more ends)
range_again levels p ts more (Some (By by to)) (front, rest, shape, first, second) ends =
    two_again levels ByWord (codes "TO") By p ts front rest more by to (λ us vs. refl) shape first second (no_to more ends) (range_ends_expression more ends)
range_again levels p ts more (Some (Repeat next)) (us, shape, spelled) ends =
    ap (λ vs. range_at levels p (vs ++ more)) shape
    ∙ ap (range_from levels p (Word (codes "REPEAT") ∷ (us ++ more))) (range_there RepeatWord (us ++ more))
    ∙ ap (mapped (λ next. Some (Repeat next))) (expression_again levels (p + 1) us more next spelled (range_ends_expression more ends))
    ∙ placed (Some (Repeat next)) (p + 1 + length us) (p + length ts) more (omega (arith, ap length shape))

-- a range ends an expression before it
range_ends : (levels p : ℕ) (ts more : Tokens) (r : Option Range) → SpellsRange levels p ts r → EndsExpression more → EndsExpression (ts ++ more)
range_ends levels p ts more None shape ends = subst (λ us. EndsExpression (us ++ more)) (sym shape) ends
range_ends levels p ts more (Some (To to by)) spelled ends = subst (λ us. EndsExpression (us ++ more)) (sym spelled.2) (refl, refl)
range_ends levels p ts more (Some (By by to)) spelled ends = subst (λ us. EndsExpression (us ++ more)) (sym spelled.2) (refl, refl)
range_ends levels p ts more (Some (Repeat next)) spelled ends = subst (λ us. EndsExpression (us ++ more)) (sym spelled.1) (refl, refl)

-- a WHILE part or a `;` ends a range
while_ends_range : {A : Type 0} (Spells : ℕ → Tokens → A → Type 0) (p : ℕ) (ts more : Tokens) (o : Option A) → SpellsOptional (codes "WHILE") Spells p ts o → EndsRange (ts ++ Sign Semicolon ∷ more)
while_ends_range Spells p ts more None shape = inl (more, ap (λ us. us ++ Sign Semicolon ∷ more) shape)
while_ends_range Spells p ts more (Some x) (us, shape, spelled) = inr (us ++ Sign Semicolon ∷ more, ap (λ vs. vs ++ Sign Semicolon ∷ more) shape)

no_while : (more : Tokens) → after_word (codes "WHILE") (Sign Semicolon ∷ more) ≡ None
unfolding after_word
no_while more = refl

-- a variable's name that is no WHILE before a `(`
iterated : (n : Name) (us : Tokens) → (BeginsWithWhile (Word n ∷ us) → ⊥) → specified (Word n ∷ us) ≡ Iterated
unfolding specified
iterated n (Sign OpenParenthesis ∷ us) never = by (same_name n (codes "WHILE")) refl
  where
    by : (b : Bool) → same_name n (codes "WHILE") ≡ b → cond b (Conditioned (Sign OpenParenthesis ∷ us)) Iterated ≡ Iterated
    by true e = absurd (never (us, ap (λ (m : Name). Word m ∷ Sign OpenParenthesis ∷ us) (name_is n (codes "WHILE") e)))
    by false e = refl
iterated n [] never = refl
iterated n (t ∷ us) never = refl

-- what begins with WHILE and `(` does so whatever follows
while_shorter : (ts more : Tokens) → BeginsWithWhile (ts ++ Sign Semicolon ∷ more) → BeginsWithWhile ts
while_shorter [] more (us, e) = cc
while_shorter (u ∷ []) more (us, e) = cc
while_shorter (u ∷ v ∷ ts) more (us, e) = (ts, cc)

equals_taken : (p : ℕ) (zs : Tokens) → taken is_equals BadDo p (Sign Equals ∷ zs) ≡ Ok zs
unfolding taken rest_after
equals_taken p zs = refl

while_specified : (us : Tokens) → specified (Word (codes "WHILE") ∷ Sign OpenParenthesis ∷ us) ≡ Conditioned (Sign OpenParenthesis ∷ us)
unfolding specified
while_specified us = refl

reference_word : (levels p : ℕ) (ts : Tokens) (r : Reference) → SpellsReferenceAlone levels p ts r → (n : Name) × (us : Tokens) × (ts ≡ Word n ∷ us)
reference_word levels p ts (Named name arguments parts) spelled = (name.name, spelled.0.0 ++ spelled.0.1, spelled.0.2)

unspecified : (levels p : ℕ) (more : Tokens) → control_at levels p (Sign Semicolon ∷ more) ≡ read_as None p (Sign Semicolon ∷ more)
unfolding control_at specified
unspecified levels p more = refl

-- an iteration, after its variable and after its first value
abbrev after_range : (levels : ℕ) → Reference → ℕ → Expression → Front (Option Range) → Result (Front (Option Control)) Fault
after_range levels variable equals first x = optional_at (codes "WHILE") (parenthesized (expression_in levels)) x.next x.rest >>= λ c. read_as (Some (Iterate variable equals first x.value c.value)) c.next c.rest

abbrev after_first : (levels : ℕ) → Reference → ℕ → Front Expression → Result (Front (Option Control)) Fault
after_first levels variable equals x = range_at levels x.next x.rest >>= after_range levels variable equals x.value

abbrev after_equals : (levels : ℕ) → Reference → ℕ → Tokens → Result (Front (Option Control)) Fault
after_equals levels variable equals us = expression_in levels (equals + 1) us >>= after_first levels variable equals

abbrev after_variable : (levels : ℕ) → Front Reference → Result (Front (Option Control)) Fault
after_variable levels x = taken is_equals BadDo x.next x.rest >>= after_equals levels x.value x.next

-- before a `;`
pub control_again : (levels p : ℕ) (ts more : Tokens) (c : Option Control) → SpellsControl levels p ts c → control_at levels p (ts ++ Sign Semicolon ∷ more) ≡ read_as c (p + length ts) (Sign Semicolon ∷ more)
unfolding control_at
control_again levels p ts more None shape =
    ap (λ us. control_at levels p (us ++ Sign Semicolon ∷ more)) shape ∙ unspecified levels p more ∙ placed None p (p + length ts) (Sign Semicolon ∷ more) (omega (arith, ap length shape))
control_again levels p ts more (Some (While condition)) (us, shape, enclosed) =
    let tail : Tokens = Sign Semicolon ∷ more in
    ap (λ vs. control_at levels p (vs ++ tail)) shape
    ∙ ap (control_from levels p (Word (codes "WHILE") ∷ (us ++ tail))) (ap (λ vs. specified (Word (codes "WHILE") ∷ (vs ++ tail))) enclosed.1 ∙ while_specified ((enclosed.0 ++ Sign CloseParenthesis ∷ []) ++ tail)
    ∙ ap (λ vs. Conditioned (vs ++ tail)) (sym enclosed.1))
    ∙ ap (mapped (λ c. Some (While c))) (enclosed_expression levels (p + 1) us tail condition enclosed tt)
    ∙ placed (Some (While condition)) (p + 1 + length us) (p + length ts) tail (omega (arith, ap length shape))
control_again levels p ts more (Some (Iterate variable equals first range condition)) (vs, fs, rs, cs, shape, never, at, target, value, limits, while) =
    let tail : Tokens = Sign Semicolon ∷ more in
    let whole : ts ++ tail ≡ vs ++ (Sign Equals ∷ (fs ++ (rs ++ (cs ++ tail)))) = ap (λ us. us ++ tail) shape ∙ simp append_assoc in
    let word = reference_word levels p vs variable target in
    let begins : ts ++ tail ≡ Word word.0 ∷ (word.1 ++ (Sign Equals ∷ (fs ++ (rs ++ (cs ++ tail))))) = whole ∙ ap (λ us. us ++ (Sign Equals ∷ (fs ++ (rs ++ (cs ++ tail))))) word.2 in
    let is : specified (ts ++ tail) ≡ Iterated = ap specified begins ∙ iterated word.0 (word.1 ++ (Sign Equals ∷ (fs ++ (rs ++ (cs ++ tail))))) (λ w. never (while_shorter ts more (w.0, begins ∙ w.1))) in
    let ends : EndsRange (cs ++ tail) = while_ends_range (SpellsEnclosed (SpellsOutermost levels)) (p + length vs + 1 + length fs + length rs) cs more condition while in
    let q : ℕ = p + length vs in
    let one : ℕ = q + 1 + length fs in
    let made : Option Control = Some (Iterate variable equals first range condition) in
    ap (control_from levels p (ts ++ tail)) is
    ∙ ap (λ us. control_from levels p us Iterated) whole
    ∙ ap (λ r. r >>= after_variable levels) (reference_again levels p vs (Sign Equals ∷ (fs ++ (rs ++ (cs ++ tail)))) variable target refl)
    ∙ ap (λ r. r >>= after_equals levels variable q) (equals_taken q (fs ++ (rs ++ (cs ++ tail))))
    ∙ ap (λ r. r >>= after_first levels variable q) (expression_again levels (q + 1) fs (rs ++ (cs ++ tail)) first value (range_ends levels one rs (cs ++ tail) range limits (range_ends_expression (cs ++ tail) ends)))
    ∙ ap (λ r. r >>= after_range levels variable q first) (range_again levels one rs (cs ++ tail) range limits ends)
    ∙ ap (λ r. r >>= λ c. read_as (Some (Iterate variable q first range c.value)) c.next c.rest)
    (optional_again (codes "WHILE") (parenthesized (expression_in levels)) (SpellsEnclosed (SpellsOutermost levels)) Anyhow (enclosed_expression levels) (one + length rs) cs tail condition while (no_while more, tt))
    ∙ ap (λ (e : ℕ). read_as (Some (Iterate variable e first range condition)) (one + length rs + length cs) tail) (sym at)
    ∙ placed made (one + length rs + length cs) (p + length ts) tail (omega (arith, ap length shape, length-append vs (Sign Equals ∷ (fs ++ (rs ++ cs))), length-append fs (rs ++ cs), length-append rs cs))
