-- Statements and units are read the same.
use Rattle.std.specs.Prelude.{◌≡◌, ℕ, zero, suc, ◌+◌, Bool, true, false, ◌||◌, Option, Some, None, [], ◌∷◌, codes, refl, is_some, if◌then◌else◌}
use Rattle.std.proofs.Common.{ap, sym, subst, ◌∙◌}
use Rattle.std.specs.Cmp.Lexicographic.{same_text}
use Rattle.std.specs.List.{list_any}
use Rattle.pli_base.specs.Name.{Name}
use Rattle.pli_base.specs.Words.{Tokens, same_name, is_word, is_semicolon, rest_after}
use Rattle.pli_base.specs.Reading.{at_fault, read_as, mapped}
use Rattle.pli_base.specs.declared.syntax.Identifier.{Identifier}
use Rattle.pli_base.specs.declared.code.Code.TheVariants.{WrongEndName}
use Rattle.pli_base.specs.declared.token.Sign.TheVariants as signs
use Rattle.pli_base.specs.declared.token.TokenText.TheVariants.{Word, Decimal, Binary, Characters, Bits, Sign}
use Rattle.pli_base.specs.Statements.{Ended, Before, count}
use Rattle.pli_parse_declaration.specs.DeclarationWords.{is_either}
use Rattle.pli_parse_statement.specs.StatementReading as old
use Rattle.pli_parse_statement.specs.StatementReading.{label_at, NextStatement, EndsHere, Another}
use Rattle.pli_parse_statement.specs.StatementWords.{Context, begins_assignment, after_word, keyword_of, first_kind, kind_of, word_kind, go_kind, Assigns, Unknown}
use Rattle.pli_parse_statement.specs.declared.keyword.Keyword.{Keyword}
use Rattle.pli_grammar.specs.Readers as readers
use Rattle.pli_grammar.specs.Readers.{either}
use Rattle.pli_grammar.specs.Readers.{◌>>=◌ as ◌then◌}
use Rattle.pli_grammar.specs.StatementParts as parts
use Rattle.pli_grammar.specs.UnitReading as new
use Rattle.pli_grammar.specs.UnitReading.{Inside}
use Rattle.pli_grammar.proofs.ReadersAlike.{after, both, stopped_same, after_word_same}

-- ---- labels

pub semicolon_same : (ts : Tokens) → list_any is_semicolon ts ≡ old.has_semicolon ts
unfolding old.has_semicolon
semicolon_same [] = refl
semicolon_same (t ∷ ts) = ap (λ b. is_semicolon t || b) (semicolon_same ts)

-- where no label stands, nothing was read
pub not_labelled : (p : ℕ) (ts : Tokens) → (label_at p ts).value ≡ None → label_at p ts ≡ record { value = None; next = p; rest = ts }
unfolding label_at
not_labelled p ([]) none = refl
not_labelled p (Decimal v d ∷ us) none = refl
not_labelled p (Binary v d ∷ us) none = refl
not_labelled p (Characters s ∷ us) none = refl
not_labelled p (Bits s ∷ us) none = refl
not_labelled p (Sign s ∷ us) none = refl
not_labelled p (Word n ∷ []) none = refl
not_labelled p (Word n ∷ Word m ∷ us) none = refl
not_labelled p (Word n ∷ Decimal v d ∷ us) none = refl
not_labelled p (Word n ∷ Binary v d ∷ us) none = refl
not_labelled p (Word n ∷ Characters s ∷ us) none = refl
not_labelled p (Word n ∷ Bits s ∷ us) none = refl
not_labelled p (Word n ∷ Sign signs.Plus ∷ us) none = refl
not_labelled p (Word n ∷ Sign signs.Minus ∷ us) none = refl
not_labelled p (Word n ∷ Sign signs.Times ∷ us) none = refl
not_labelled p (Word n ∷ Sign signs.OpenParenthesis ∷ us) none = refl
not_labelled p (Word n ∷ Sign signs.CloseParenthesis ∷ us) none = refl
not_labelled p (Word n ∷ Sign signs.Comma ∷ us) none = refl
not_labelled p (Word n ∷ Sign signs.Period ∷ us) none = refl
not_labelled p (Word n ∷ Sign signs.Semicolon ∷ us) none = refl
not_labelled p (Word n ∷ Sign signs.Equals ∷ us) none = refl
not_labelled p (Word n ∷ Sign signs.NotEqual ∷ us) none = refl
not_labelled p (Word n ∷ Sign signs.Less ∷ us) none = refl
not_labelled p (Word n ∷ Sign signs.LessOrEqual ∷ us) none = refl
not_labelled p (Word n ∷ Sign signs.Greater ∷ us) none = refl
not_labelled p (Word n ∷ Sign signs.GreaterOrEqual ∷ us) none = refl
not_labelled p (Word n ∷ Sign signs.And ∷ us) none = refl
not_labelled p (Word n ∷ Sign signs.Or ∷ us) none = refl
not_labelled p (Word n ∷ Sign signs.Not ∷ us) none = refl
not_labelled p (Word n ∷ Sign signs.Percent ∷ us) none = refl
not_labelled p (Word n ∷ Sign signs.Arrow ∷ us) none = refl
not_labelled p (Word n ∷ Sign signs.Concatenate ∷ us) none = refl
not_labelled p (Word n ∷ Sign signs.Colon ∷ us) none = let bad : ⊥ = cc in absurd bad

-- ---- lists

pub after_keyword_same : (word : Name) (ts : Tokens) → new.after_keyword word ts ≡ old.else_by (old.is_labelled (label_at 0 ts).value) (begins_assignment ts) (after_word word ts)
after_keyword_same word ts =
    by (label_at 0 ts).value (begins_assignment ts)
    ∙ ap (old.else_by (old.is_labelled (label_at 0 ts).value) (begins_assignment ts)) (after_word_same word ts)
  where
    by : (l : Option Identifier) (b : Bool) → (if is_some l || b then None else rest_after (is_word word) ts) ≡ old.else_by (old.is_labelled l) b (rest_after (is_word word) ts)
    by None true = refl
    by None false = refl
    by (Some l) true = refl
    by (Some l) false = refl

ending_same : (label : Option Identifier) (p : ℕ) (ts : Tokens) → new.ending label p ts ≡ old.ending_at label p ts
unfolding old.ending_at
ending_same label p [] = stopped_same tt p []
ending_same label p (Decimal v d ∷ us) = stopped_same tt p (Decimal v d ∷ us)
ending_same label p (Binary v d ∷ us) = stopped_same tt p (Binary v d ∷ us)
ending_same label p (Characters s ∷ us) = stopped_same tt p (Characters s ∷ us)
ending_same label p (Bits s ∷ us) = stopped_same tt p (Bits s ∷ us)
ending_same label p (Sign s ∷ us) = stopped_same tt p (Sign s ∷ us)
ending_same None p (Word n ∷ us) = refl
ending_same (Some l) p (Word n ∷ us) = by (same_name n l.name)
  where
    by : (b : Bool) → (if b then parts.stopped tt (p + 1) us else at_fault WrongEndName p) ≡ old.named_end b p us
    by true = stopped_same tt (p + 1) us
    by false = refl

abbrev ends : Option Tokens → NextStatement
ends None = Another
ends (Some us) = EndsHere us

-- no END, by the keyword of a word
abbrev next_word : Name → Tokens → Option Keyword → NextStatement
next_word n us o = old.next_by true None (word_kind o n us)

unless_word : (n : Name) (us : Tokens) (b : Bool) (k o : Option Keyword) → next_word n us k ≡ Another → next_word n us o ≡ Another
    → next_word n us (if b then k else o) ≡ Another
unless_word n us true k o this others = this
unless_word n us false k o this others = others

not_word : (n : Name) (us : Tokens) (b : Bool) (k o : Option Keyword) → b ≡ false → next_word n us o ≡ Another
    → next_word n us (if b then k else o) ≡ Another
not_word n us true k o not others = let bad : ⊥ = cc in absurd bad
not_word n us false k o not others = others

go_goes_on : (n : Name) (us : Tokens) → next_word n us None ≡ Another
go_goes_on n us = by (same_name n (codes "GO")) (after_word (codes "TO") us)
  where
    by : (b : Bool) (o : Option Tokens) → old.next_by true None (if b then go_kind o else Unknown) ≡ Another
    by true None = refl
    by true (Some vs) = refl
    by false o = refl

no_end : (n : Name) (us : Tokens) → same_name n (codes "END") ≡ false → next_word n us (keyword_of n) ≡ Another
unfolding keyword_of
no_end n us other =
    unless_word n us (is_either (codes "PROCEDURE") (codes "PROC") n) _ _ refl
    (unless_word n us (is_either (codes "DECLARE") (codes "DCL") n) _ _ refl
    (not_word n us (same_name n (codes "END")) _ _ other
    (unless_word n us (same_name n (codes "BEGIN")) _ _ refl
    (unless_word n us (same_name n (codes "DO")) _ _ refl
    (unless_word n us (same_name n (codes "IF")) _ _ refl
    (unless_word n us (same_name n (codes "ON")) _ _ refl
    (unless_word n us (same_name n (codes "REVERT")) _ _ refl
    (unless_word n us (same_name n (codes "SIGNAL")) _ _ refl
    (unless_word n us (same_name n (codes "STOP")) _ _ refl
    (unless_word n us (same_name n (codes "ALLOCATE")) _ _ refl
    (unless_word n us (same_name n (codes "FREE")) _ _ refl
    (unless_word n us (same_name n (codes "CALL")) _ _ refl
    (unless_word n us (same_name n (codes "GOTO")) _ _ refl
    (unless_word n us (same_name n (codes "RETURN")) _ _ refl
    (unless_word n us (same_name n (codes "PUT")) _ _ refl
    (go_goes_on n us))))))))))))))))

the_end : (n : Name) (us : Tokens) → codes "END" ≡ n → next_word n us (keyword_of n) ≡ EndsHere us
unfolding keyword_of
the_end n us same = subst (λ (m : Name). next_word m us (keyword_of m) ≡ EndsHere us) same refl

end_word : (n : Name) (us : Tokens) (b : Bool) → same_name n (codes "END") ≡ b → ends (if b then Some us else None) ≡ next_word n us (keyword_of n)
end_word n us true same = sym (the_end n us (sym (same_text n (codes "END") (sym same))))
end_word n us false other = sym (no_end n us other)

end_first : (ts : Tokens) → ends (rest_after (is_word (codes "END")) ts) ≡ old.next_by true None (first_kind ts)
unfolding rest_after first_kind
end_first [] = refl
end_first (Word n ∷ us) = end_word n us (same_name n (codes "END")) refl
end_first (Decimal v d ∷ us) = refl
end_first (Binary v d ∷ us) = refl
end_first (Characters s ∷ us) = refl
end_first (Bits s ∷ us) = refl
end_first (Sign signs.Plus ∷ us) = refl
end_first (Sign signs.Minus ∷ us) = refl
end_first (Sign signs.Times ∷ us) = refl
end_first (Sign signs.OpenParenthesis ∷ us) = refl
end_first (Sign signs.CloseParenthesis ∷ us) = refl
end_first (Sign signs.Comma ∷ us) = refl
end_first (Sign signs.Period ∷ us) = refl
end_first (Sign signs.Semicolon ∷ us) = refl
end_first (Sign signs.Colon ∷ us) = refl
end_first (Sign signs.Equals ∷ us) = refl
end_first (Sign signs.NotEqual ∷ us) = refl
end_first (Sign signs.Less ∷ us) = refl
end_first (Sign signs.LessOrEqual ∷ us) = refl
end_first (Sign signs.Greater ∷ us) = refl
end_first (Sign signs.GreaterOrEqual ∷ us) = refl
end_first (Sign signs.And ∷ us) = refl
end_first (Sign signs.Or ∷ us) = refl
end_first (Sign signs.Not ∷ us) = refl
end_first (Sign signs.Percent ∷ us) = refl
end_first (Sign signs.Arrow ∷ us) = refl
end_first (Sign signs.Concatenate ∷ us) = refl

next_same : (ts : Tokens) → ends (if list_any is_semicolon ts then new.after_keyword (codes "END") ts else None) ≡ old.next_of ts
unfolding old.next_of kind_of
next_same ts =
    ap (λ (b : Bool). ends (if b then new.after_keyword (codes "END") ts else None)) (semicolon_same ts)
    ∙ by (old.has_semicolon ts) (label_at 0 ts).value (begins_assignment ts)
  where
    by : (s : Bool) (l : Option Identifier) (b : Bool)
        → ends (if s then (if is_some l || b then None else rest_after (is_word (codes "END")) ts) else None)
        ≡ old.next_by s l (if b then Assigns else first_kind ts)
    by false l b = refl
    by true (Some l) b = refl
    by true None true = refl
    by true None false = end_first ts

abbrev pub as_old : Inside → old.Inside
as_old i = record { levels = i.levels; statement = λ c p k ts. i.statement c k p ts }

-- what is read at END, or a statement and the rest, of which the same is known
list_by_same : (i : Inside) (c : Context) (label : Option Identifier) (bound p k : ℕ) (ts : Tokens)
    → ((q n : ℕ) (us : Tokens) → new.list_from (i.statement c) label bound n q us ≡ old.list_from (as_old i).statement c label bound q n us)
    → (o : Option Tokens)
    → either (readers.made (λ end. record { statements = Ended; end = k }) (new.ending label))
    (i.statement c k then λ first. new.list_from (i.statement c) label bound (k + count first) then λ others. read_as (record { statements = Before first others.statements; end = others.end }))
    p ts o
    ≡ old.list_by (as_old i).statement c label (old.list_from (as_old i).statement c label bound) p k ts (ends o)
list_by_same i c label bound p k ts more None = after (i.statement c k p ts) _ _ (λ x. both (more x.next (k + count x.value) x.rest) (λ y. refl))
list_by_same i c label bound p k ts more (Some us) = ap (mapped (λ nothing. record { statements = Ended; end = k })) (ending_same label (p + 1) us)

pub list_same : (i : Inside) (c : Context) (label : Option Identifier) (bound p k : ℕ) (ts : Tokens)
    → new.list_from (i.statement c) label bound k p ts ≡ old.list_from (as_old i).statement c label bound p k ts
unfolding new.list_from old.list_from
list_same i c label zero p k ts = refl
list_same i c label (suc bound) p k ts =
    list_by_same i c label bound p k ts (λ q n us. list_same i c label bound q n us)
    (if list_any is_semicolon ts then new.after_keyword (codes "END") ts else None)
    ∙ ap (old.list_by (as_old i).statement c label (old.list_from (as_old i).statement c label bound) p k ts) (next_same ts)
