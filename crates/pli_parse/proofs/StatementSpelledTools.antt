-- Tests of tokens: what begins an assignment, and where the first `;` stands.
use Rattle.std.proofs.Common.{⊎_elim, ◌⊎◌, inl, inr, ◌≡◌, ℕ, Bool, true, false, ◌||◌, [], ◌∷◌, ◌++◌, Some, option_map, refl, ap, ◌∙◌, sym, subst, append_assoc}
use Rattle.std.specs.List.{AllByRecursion}
use Rattle.pli_base.specs.Name.{Name}
use Rattle.pli_base.specs.laws.NameLaws.{equal_from_pointwise, pointwise-refl}
use Rattle.pli_base.specs.Words.{Tokens, same_name, is_semicolon}
use Rattle.pli_base.specs.declared.token.Sign.TheVariants as signs
use Rattle.pli_base.specs.declared.token.TokenText.{TokenText}
use Rattle.pli_base.specs.declared.token.TokenText.TheVariants as tokens
use Rattle.pli_parse_expression.specs.Assignments.{is_assignment}
use Rattle.pli_parse_expression.proofs.AcceptedIsSpelled.{accepted_is_assignment}
use Rattle.pli_parse_expression.proofs.NoSemicolons.{no_semicolon}
use Rattle.pli_parse_expression.proofs.SpelledIsAccepted.{assignment_accepted}
use Rattle.pli_parse_statement.specs.StatementGrammar.{BeginsAssignment}
use Rattle.pli_parse_statement.specs.StatementReading.{has_semicolon}
use Rattle.pli_parse_statement.specs.StatementWords.{up_to_semicolon, is_assigned, begins_assignment}
use Rattle.pli_parse_declaration.proofs.DeclarationSteps.{semicolon_is}

-- there is a `;` among the tokens
abbrev pub HasSemicolon : Tokens → Type 0
HasSemicolon ts = has_semicolon ts ≡ true

or_left : (a b : Bool) → a ≡ true → (a || b) ≡ true
or_left true b h = refl
or_left false b h = cc

or_right : (a b : Bool) → b ≡ true → (a || b) ≡ true
or_right true b h = refl
or_right false b h = h

or_both : (a b : Bool) → (a || b) ≡ true → (a ≡ true) ⊎ (b ≡ true)
or_both true b h = inl refl
or_both false b h = inr h

pub semicolon_first : (ts : Tokens) → HasSemicolon (tokens.Sign signs.Semicolon ∷ ts)
unfolding has_semicolon
semicolon_first ts = refl

pub semicolon_later : (t : TokenText) (ts : Tokens) → HasSemicolon ts → HasSemicolon (t ∷ ts)
unfolding has_semicolon
semicolon_later t ts h = or_right (is_semicolon t) (has_semicolon ts) h

pub semicolon_front : (ts more : Tokens) → HasSemicolon ts → HasSemicolon (ts ++ more)
unfolding has_semicolon
semicolon_front [] more h = cc
semicolon_front (t ∷ ts) more h =
    ⊎_elim (λ here. or_left (is_semicolon t) (has_semicolon (ts ++ more)) here) (λ later. or_right (is_semicolon t) (has_semicolon (ts ++ more)) (semicolon_front ts more later)) (or_both (is_semicolon t) (has_semicolon ts) h)

pub semicolon_back : (ts more : Tokens) → HasSemicolon more → HasSemicolon (ts ++ more)
semicolon_back [] more h = h
semicolon_back (t ∷ ts) more h = semicolon_later t (ts ++ more) (semicolon_back ts more h)

-- the first `;` of tokens, whatever stands after them
abbrev pub FirstSemicolon : Tokens → Tokens → Type 0
FirstSemicolon ts more = (us : Tokens) × (vs : Tokens) × (ts ≡ us ++ tokens.Sign signs.Semicolon ∷ vs) × (up_to_semicolon (ts ++ more) ≡ Some us)

first_here : (ts more : Tokens) → FirstSemicolon (tokens.Sign signs.Semicolon ∷ ts) more
unfolding up_to_semicolon
first_here ts more = ([], ts, refl, refl)

other_first : (t : TokenText) (ts : Tokens) → is_semicolon t ≡ false → up_to_semicolon (t ∷ ts) ≡ option_map (λ us. t ∷ us) (up_to_semicolon ts)
unfolding up_to_semicolon
other_first (tokens.Sign signs.Semicolon) ts h = cc
other_first t ts h = refl

first_later : (t : TokenText) (ts more : Tokens) → is_semicolon t ≡ false → FirstSemicolon ts more → FirstSemicolon (t ∷ ts) more
first_later t ts more other (us, vs, shape, found) = (t ∷ us, vs, ap (λ ws. t ∷ ws) shape, other_first t (ts ++ more) other ∙ ap (option_map (λ us. t ∷ us)) found)

pub first_semicolon : (ts more : Tokens) → HasSemicolon ts → FirstSemicolon ts more
unfolding has_semicolon
first_semicolon [] more h = cc
first_semicolon (t ∷ ts) more h = by (is_semicolon t) refl h (first_semicolon ts more)
  where
    by : (b : Bool) → is_semicolon t ≡ b → (b || has_semicolon ts) ≡ true → (HasSemicolon ts → FirstSemicolon ts more) → FirstSemicolon (t ∷ ts) more
    by true e g later = subst (λ u. FirstSemicolon (u ∷ ts) more) (sym (semicolon_is t e)) (first_here ts more)
    by false e g later = first_later t ts more e (later g)

-- up to the first `;` stand the tokens before it
up_to_first : (front rest : Tokens) → AllByRecursion (λ t. is_semicolon t ≡ false) front → up_to_semicolon (front ++ tokens.Sign signs.Semicolon ∷ rest) ≡ Some front
unfolding up_to_semicolon
up_to_first [] rest h = refl
up_to_first (t ∷ front) rest h = other_first t (front ++ tokens.Sign signs.Semicolon ∷ rest) h.0 ∙ ap (option_map (λ us. t ∷ us)) (up_to_first front rest h.1)

-- what begins an assignment is found to, whatever follows
pub assignment_begins : (p : ℕ) (ts more : Tokens) → BeginsAssignment p ts → begins_assignment (ts ++ more) ≡ true
unfolding begins_assignment
assignment_begins p ts more (front, rest, shape, assigns) =
    let accepted = assignment_accepted p front assigns in
    ap (λ us. is_assigned (up_to_semicolon us)) (ap (λ us. us ++ more) shape ∙ append_assoc front (tokens.Sign signs.Semicolon ∷ rest) more)
    ∙ ap is_assigned (up_to_first front (rest ++ more) (no_semicolon front accepted)) ∙ accepted

-- what begins none is found to begin none
pub no_assignment_begins : (p : ℕ) (ts more : Tokens) → HasSemicolon ts → (BeginsAssignment p ts → ⊥) → begins_assignment (ts ++ more) ≡ false
unfolding begins_assignment
no_assignment_begins p ts more has never =
    let f = first_semicolon ts more has in
    ap is_assigned f.3 ∙ by (is_assignment f.0) f.0 f.1 f.2 refl
  where
    by : (b : Bool) (us vs : Tokens) → ts ≡ us ++ tokens.Sign signs.Semicolon ∷ vs → is_assignment us ≡ b → is_assignment us ≡ false
    by true us vs shape e = absurd (never (us, vs, shape, accepted_is_assignment p us e))
    by false us vs shape e = e

-- the names are the same
pub name_is : (n m : Name) → same_name n m ≡ true → n ≡ m
name_is n m h = equal_from_pointwise n m h

pub same_again : (n : Name) → same_name n n ≡ true
same_again n = pointwise-refl n
