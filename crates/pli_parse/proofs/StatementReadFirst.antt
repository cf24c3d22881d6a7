-- What is read is spelled so: how statements begin and lists end.
use Rattle.std.proofs.Common.{◌≡◌, ◌+◌, ◌⊎◌, ⊎_elim, inl, inr, ℕ, Bool, true, false, cond, [], ◌∷◌, ◌++◌, Option, Some, None, Ok, codes, refl, ap, ◌∙◌, sym, subst, arith}
use Rattle.pli_base.specs.Name.{Name}
use Rattle.pli_base.specs.laws.NameLaws.{equal_from_pointwise}
use Rattle.pli_base.specs.Words.{Tokens, same_name}
use Rattle.pli_base.specs.Reading.{Front}
use Rattle.pli_base.specs.declared.token.Sign.TheVariants.{Colon, Semicolon}
use Rattle.pli_base.specs.declared.token.TokenText.TheVariants.{Word, Sign}
use Rattle.pli_base.specs.declared.syntax.Identifier.{Identifier}
use Rattle.pli_parse_declaration.specs.DeclarationWords.{is_either}
use Rattle.pli_parse_declaration.specs.DeclarationGrammar.{SpellsFront}
use Rattle.pli_parse_fault.proofs.StepLemmas.{some_same}
use Rattle.pli_parse_statement.specs.StatementWords.{keyword_of, after_word, begins_assignment, StatementKind, Assigns, Empty, Keyed, Unknown, go_kind, word_kind, first_kind, kind_of}
use Rattle.pli_parse_statement.specs.StatementReading.{has_semicolon, label_at, is_labelled, ending_at, is_label, named_end, EndsHere, next_by, next_of, else_by, else_first}
use Rattle.pli_parse_statement.specs.StatementGrammar.{BeginsAssignment, SpellsLabel, SpellsEnd}
use Rattle.pli_parse_statement.specs.declared.keyword.Keyword.{Keyword}
use Rattle.pli_parse_statement.specs.declared.keyword.Keyword.TheVariants as words
use Rattle.pli_parse.proofs.StatementReadTools.{after_is, stopped_ok}
use Rattle.pli_parse.proofs.StatementSpelledTools.{assignment_begins}

-- where no assignment begins, none begins in a part
pub none_begins : (p : ℕ) (ts front rest : Tokens) → begins_assignment ts ≡ false → ts ≡ front ++ rest → BeginsAssignment p front → ⊥
none_begins p ts front rest h shape begins =
    let yes = ap begins_assignment shape ∙ assignment_begins p front rest begins in
    cc

-- the keyword that was looked up
other : (b : Bool) (k w : Keyword) (o : Option Keyword) → (k ≡ w → ⊥) → (o ≡ Some w → ⊥) → cond b (Some k) o ≡ Some w → ⊥
other true k w o not more h = not (some_same h)
other false k w o not more h = more h

none_looked_up : (w : Keyword) → ◌≡◌ {A = Option Keyword} None (Some w) → ⊥
none_looked_up w h = cc

pub never_go : (n : Name) → keyword_of n ≡ Some words.GoTo → ⊥
unfolding keyword_of
never_go n =
    other _ words.Procedure words.GoTo _ (λ e. cc) (other _ words.Declare words.GoTo _ (λ e. cc) (other _ words.End words.GoTo _ (λ e. cc) (
    other _ words.Begin words.GoTo _ (λ e. cc) (other _ words.Do words.GoTo _ (λ e. cc) (other _ words.If words.GoTo _ (λ e. cc) (
    other _ words.On words.GoTo _ (λ e. cc) (other _ words.Revert words.GoTo _ (λ e. cc) (other _ words.Signal words.GoTo _ (λ e. cc) (
    other _ words.Stop words.GoTo _ (λ e. cc) (other _ words.Allocate words.GoTo _ (λ e. cc) (other _ words.Free words.GoTo _ (λ e. cc) (
    other _ words.Call words.GoTo _ (λ e. cc) (other _ words.Goto words.GoTo _ (λ e. cc) (other _ words.Return words.GoTo _ (λ e. cc) (
    other _ words.Put words.GoTo _ (λ e. cc) (none_looked_up words.GoTo))))))))))))))))

end_third : (b c d : Bool) (o : Option Keyword) → (o ≡ Some words.End → ⊥) → cond b (Some words.Procedure) (cond c (Some words.Declare) (cond d (Some words.End) o)) ≡ Some words.End → d ≡ true
end_third true c d o not h = cc
end_third false true d o not h = cc
end_third false false true o not h = refl
end_third false false false o not h = absurd (not h)

end_is : (n : Name) → keyword_of n ≡ Some words.End → n ≡ codes "END"
unfolding keyword_of
end_is n h =
    equal_from_pointwise n (codes "END") (end_third (is_either (codes "PROCEDURE") (codes "PROC") n) (is_either (codes "DECLARE") (codes "DCL") n) (same_name n (codes "END")) _
    (other _ words.Begin words.End _ (λ e. cc) (other _ words.Do words.End _ (λ e. cc) (other _ words.If words.End _ (λ e. cc) (
    other _ words.On words.End _ (λ e. cc) (other _ words.Revert words.End _ (λ e. cc) (other _ words.Signal words.End _ (λ e. cc) (
    other _ words.Stop words.End _ (λ e. cc) (other _ words.Allocate words.End _ (λ e. cc) (other _ words.Free words.End _ (λ e. cc) (
    other _ words.Call words.End _ (λ e. cc) (other _ words.Goto words.End _ (λ e. cc) (other _ words.Return words.End _ (λ e. cc) (
    other _ words.Put words.End _ (λ e. cc) (none_looked_up words.End)))))))))))))) h)

-- a statement begins with its keyword, which is one word, or GO TO
abbrev pub OneWord : Keyword → (ts us : Tokens) → Type 0
OneWord keyword ts us = (n : Name) × (ts ≡ Word n ∷ us) × (keyword_of n ≡ Some keyword)

abbrev pub TwoWords : (ts us : Tokens) → Type 0
TwoWords ts us = ts ≡ Word (codes "GO") ∷ Word (codes "TO") ∷ us

go_begins : (n : Name) (ts us : Tokens) (keyword : Keyword) → cond (same_name n (codes "GO")) (go_kind (after_word (codes "TO") ts)) Unknown ≡ Keyed keyword us → (keyword ≡ words.GoTo) × TwoWords (Word n ∷ ts) us
go_begins n ts us keyword h = go (same_name n (codes "GO")) refl h
  where
    to : n ≡ codes "GO" → (o : Option Tokens) → after_word (codes "TO") ts ≡ o → go_kind o ≡ Keyed keyword us → (keyword ≡ words.GoTo) × TwoWords (Word n ∷ ts) us
    to e (Some vs) f g =
        let word : keyword ≡ words.GoTo = cc in
        let rest : vs ≡ us = cc in
        (word, ap (λ m. Word m ∷ ts) e ∙ ap (λ ws. Word (codes "GO") ∷ ws) (after_is (codes "TO") ts vs f ∙ ap (λ ws. Word (codes "TO") ∷ ws) rest))
    to e None f g = cc

    go : (b : Bool) → same_name n (codes "GO") ≡ b → cond b (go_kind (after_word (codes "TO") ts)) Unknown ≡ Keyed keyword us → (keyword ≡ words.GoTo) × TwoWords (Word n ∷ ts) us
    go true e g = to (equal_from_pointwise n (codes "GO") e) (after_word (codes "TO") ts) refl g
    go false e g = cc

keyed_first : (ts us : Tokens) (keyword : Keyword) → first_kind ts ≡ Keyed keyword us → OneWord keyword ts us ⊎ ((keyword ≡ words.GoTo) × TwoWords ts us)
unfolding first_kind
keyed_first [] us keyword h = cc
keyed_first (Sign Semicolon ∷ ts) us keyword h = cc
keyed_first (Word n ∷ ts) us keyword h = by (keyword_of n) refl h
  where
    by : (o : Option Keyword) → keyword_of n ≡ o → word_kind o n ts ≡ Keyed keyword us → OneWord keyword (Word n ∷ ts) us ⊎ ((keyword ≡ words.GoTo) × TwoWords (Word n ∷ ts) us)
    by (Some k) e g =
        let word : k ≡ keyword = cc in
        let rest : ts ≡ us = cc in
        inl (n, ap (λ vs. Word n ∷ vs) rest, e ∙ ap Some word)
    by None e g = inr (go_begins n ts us keyword g)
keyed_first (t ∷ ts) us keyword h = cc

-- what a statement is where it is no assignment
kind_first : (ts : Tokens) (k : StatementKind) → kind_of ts ≡ k → (k ≡ Assigns → ⊥) → (begins_assignment ts ≡ false) × (first_kind ts ≡ k)
unfolding kind_of
kind_first ts k h not = by (begins_assignment ts) refl h
  where
    by : (b : Bool) → begins_assignment ts ≡ b → cond b Assigns (first_kind ts) ≡ k → (begins_assignment ts ≡ false) × (first_kind ts ≡ k)
    by true e g = absurd (not (sym g))
    by false e g = (e, g)

pub empty_begins : (ts us : Tokens) → kind_of ts ≡ Empty us → (begins_assignment ts ≡ false) × (ts ≡ Sign Semicolon ∷ us)
unfolding first_kind
empty_begins ts us h = let k = kind_first ts (Empty us) h (λ e. cc) in (k.0, first ts k.1)
  where
    go : (o : Option Tokens) → go_kind o ≡ Empty us → ⊥
    go (Some vs) g = cc
    go None g = cc

    may_go : (b : Bool) (o : Option Tokens) → cond b (go_kind o) Unknown ≡ Empty us → ⊥
    may_go true o g = go o g
    may_go false o g = cc

    word : (o : Option Keyword) (n : Name) (vs : Tokens) → word_kind o n vs ≡ Empty us → ⊥
    word (Some k) n vs g = cc
    word None n vs g = may_go (same_name n (codes "GO")) (after_word (codes "TO") vs) g

    first : (vs : Tokens) → first_kind vs ≡ Empty us → vs ≡ Sign Semicolon ∷ us
    first [] g = cc
    first (Sign Semicolon ∷ vs) g = let rest : vs ≡ us = cc in ap (λ ws. Sign Semicolon ∷ ws) rest
    first (Word n ∷ vs) g = absurd (word (keyword_of n) n vs g)
    first (t ∷ vs) g = cc

pub keyword_begins : (ts us : Tokens) (keyword : Keyword) → kind_of ts ≡ Keyed keyword us
    → (begins_assignment ts ≡ false) × (OneWord keyword ts us ⊎ ((keyword ≡ words.GoTo) × TwoWords ts us))
keyword_begins ts us keyword h =
    let k = kind_first ts (Keyed keyword us) h (λ e. cc) in (k.0, keyed_first ts us keyword k.1)

pub word_begins : (ts us : Tokens) (keyword : Keyword) → kind_of ts ≡ Keyed keyword us → (keyword ≡ words.GoTo → ⊥) → (begins_assignment ts ≡ false) × OneWord keyword ts us
word_begins ts us keyword h not =
    let k = keyword_begins ts us keyword h in (k.0, ⊎_elim (λ one. one) (λ two. absurd (not two.0)) k.1)

pub two_words_begin : (ts us : Tokens) → kind_of ts ≡ Keyed words.GoTo us → (begins_assignment ts ≡ false) × TwoWords ts us
two_words_begin ts us h =
    let k = keyword_begins ts us words.GoTo h in
    (k.0, ⊎_elim (λ one. absurd (never_go one.0 one.2)) (λ two. two.1) k.1)

-- the end of a list
pub end_begins : (ts us : Tokens) → next_of ts ≡ EndsHere us → ts ≡ Word (codes "END") ∷ us
unfolding next_of
end_begins ts us h = by (has_semicolon ts) (label_at 0 ts).value (kind_of ts) refl h
  where
    ends : (vs : Tokens) → kind_of ts ≡ Keyed words.End vs → ts ≡ Word (codes "END") ∷ vs
    ends vs k = let w = (word_begins ts vs words.End k (λ e. cc)).1 in w.1 ∙ ap (λ n. Word n ∷ vs) (end_is w.0 w.2)

    by : (b : Bool) (l : Option Identifier) (k : StatementKind) → kind_of ts ≡ k → next_by b l k ≡ EndsHere us → ts ≡ Word (codes "END") ∷ us
    by true None (Keyed words.End vs) e g = let rest : vs ≡ us = cc in ends vs e ∙ ap (λ ws. Word (codes "END") ∷ ws) rest
    by true None (Keyed keyword vs) e g = cc
    by true None Assigns e g = cc
    by true None (Empty vs) e g = cc
    by true None Unknown e g = cc
    by true (Some l) k e g = cc
    by false l k e g = cc

-- ELSE stood there
pub else_begins : (ts us : Tokens) → else_first ts ≡ Some us → ts ≡ Word (codes "ELSE") ∷ us
unfolding else_first
else_begins ts us h = after_is (codes "ELSE") ts us (by (is_labelled (label_at 0 ts).value) (begins_assignment ts) (after_word (codes "ELSE") ts) h)
  where
    by : (b c : Bool) (o : Option Tokens) → else_by b c o ≡ Some us → o ≡ Some us
    by false false o g = g
    by false true o g = cc
    by true c o g = cc

-- a label, or none
pub label_spelled : (p : ℕ) (ts : Tokens) → SpellsFront SpellsLabel p ts (label_at p ts)
unfolding label_at
label_spelled p [] = ([], refl, omega arith, refl)
label_spelled p (Word n ∷ Sign Colon ∷ us) = (Word n ∷ Sign Colon ∷ [], refl, refl, (refl, refl))
label_spelled p (Word n ∷ us) = ([], refl, omega arith, refl)
label_spelled p (t ∷ us) = ([], refl, omega arith, refl)

-- after END
abbrev AfterEnd : Option Identifier → Tokens → Type 0
AfterEnd label ts = SpellsEnd label (Word (codes "END") ∷ ts)

bare_end : (label : Option Identifier) → AfterEnd label (Sign Semicolon ∷ [])
bare_end None = refl
bare_end (Some l) = inl refl

pub ending_spelled : (label : Option Identifier) (p : ℕ) (ts : Tokens) (y : Front (Unit {0})) → ending_at label p ts ≡ Ok y → SpellsFront (λ q us nothing. AfterEnd label us) p ts y
unfolding ending_at
ending_spelled label p [] y h =
    let s = stopped_ok tt p [] y h in
    subst (SpellsFront (λ q us nothing. AfterEnd label us) p []) s.1 (Sign Semicolon ∷ [], s.0, omega arith, bare_end label)
ending_spelled label p (Word n ∷ us) y h = by label (is_label label n) refl h
  where
    by : (l : Option Identifier) (b : Bool) → is_label l n ≡ b → named_end b p us ≡ Ok y → SpellsFront (λ q us nothing. AfterEnd l us) p (Word n ∷ us) y
    by None true e g = cc
    by (Some l) true e g =
        let s = stopped_ok tt (p + 1) us y g in
        let named : n ≡ l.name = equal_from_pointwise n l.name e in
        subst (SpellsFront (λ q us nothing. AfterEnd (Some l) us) p (Word n ∷ us)) s.1 (
          Word l.name ∷ Sign Semicolon ∷ [],
          ap (λ m. Word m ∷ us) named ∙ ap (λ vs. Word l.name ∷ vs) s.0,
          omega arith,
          inr refl,
        )
    by l false e g = cc
ending_spelled label p (t ∷ us) y h =
    let s = stopped_ok tt p (t ∷ us) y h in
    subst (SpellsFront (λ q us nothing. AfterEnd label us) p (t ∷ us)) s.1 (Sign Semicolon ∷ [], s.0, omega arith, bare_end label)
