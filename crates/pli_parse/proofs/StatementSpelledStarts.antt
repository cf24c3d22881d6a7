-- How a statement that is spelled begins: with a `;`, or with a word after which no `:` stands. So it has no label, is no END and no ELSE.
use Rattle.std.proofs.Common.{⊎_elim, ◌⊎◌, inr, ◌≡◌, ◌+◌, ℕ, Bool, true, false, cond, List, [], ◌∷◌, ◌++◌, Option, Some, None, length, codes, refl, ap, ◌∙◌, sym, subst, append_assoc}
use Rattle.pli_base.specs.Name.{Name}
use Rattle.pli_base.specs.Words.{Tokens, same_name, SpellsIdentifier}
use Rattle.pli_base.specs.Syntax.{Expression, Referred, Constant, Parenthesized, Prefix, Infix, Reference, Named, JoinedParts, Alone, Joined, Arguments, Absent, Given}
use Rattle.pli_base.specs.declared.syntax.ConstantValue.TheVariants as constants
use Rattle.pli_base.specs.declared.syntax.PrefixOperator.TheVariants as prefixes
use Rattle.pli_base.specs.declared.syntax.Identifier.{Identifier}
use Rattle.pli_base.specs.declared.syntax.Joining.TheVariants.{Member, Located}
use Rattle.pli_base.specs.declared.token.Sign.TheVariants.{Colon, Semicolon}
use Rattle.pli_base.specs.declared.token.TokenText.TheVariants.{Word, Sign}
use Rattle.pli_parse_expression.specs.Operators.{infix_sign}
use Rattle.pli_parse_expression.specs.Expressions.{SpellsExpression, SpellsArguments, SpellsJoined, SpellsReferenceAlone}
use Rattle.pli_base.specs.Declarations.{Item}
use Rattle.pli_parse_declaration.specs.DeclarationGrammar.{SpellsListed, SpellsLevel, SpellsItem, SpellsNames, SpellsDeclaration}
use Rattle.pli_base.specs.Statements.{Heading, Control, While, Iterate, Allocation, ProcedureOption, Main, Returns, Recursive}
use Rattle.pli_parse_statement.specs.StatementGrammar.{BeginsAssignment, SpellsKeyed, SpellsClosed, SpellsParameters, SpellsOptions, SpellsHeading, SpellsControl, SpellsAllocation, SpellsSkip, SpellsItems, SpellsPut, SpellsValue, SpellsGoto}
use Rattle.pli_parse_statement.specs.StatementReading.{label_at, has_semicolon, is_labelled, Another, next_by, next_of, else_by, else_first}
use Rattle.pli_parse_statement.specs.StatementWords.{keyword_of, after_word, begins_assignment, StatementKind, Assigns, Keyed, word_kind, first_kind, kind_of}
use Rattle.pli_parse_statement.specs.declared.keyword.Keyword.{Keyword}
use Rattle.pli_parse_statement.specs.declared.keyword.Keyword.TheVariants.{End}
use Rattle.pli_parse_statement.specs.declared.keyword.Keyword.TheVariants as words
use Rattle.pli_parse.proofs.StatementSpelledTools.{name_is, assignment_begins}
use Rattle.pli_parse_declaration.specs.declared.list.Separator.TheVariants.{Commas}

-- something stands there that is no `:`
abbrev pub NotColon : Tokens → Type 0
NotColon [] = ⊥
NotColon (Sign Colon ∷ ts) = ⊥
NotColon (t ∷ ts) = Unit {0}

pub not_colon_front : (ts more : Tokens) → NotColon ts → NotColon (ts ++ more)
not_colon_front [] more h = absurd h
not_colon_front (Sign Colon ∷ ts) more h = absurd h
not_colon_front (t ∷ ts) more h = h

pub expression_not_colon : (e : Expression) (p : ℕ) (ts : Tokens) → SpellsExpression p ts e → NotColon ts
expression_not_colon (Referred (Named name arguments parts)) p ts spelled = subst NotColon (sym spelled.2) tt
expression_not_colon (Constant at (constants.Decimal v d)) p ts spelled = subst NotColon (sym spelled.0) tt
expression_not_colon (Constant at (constants.Binary v d)) p ts spelled = subst NotColon (sym spelled.0) tt
expression_not_colon (Constant at (constants.Characters s)) p ts spelled = subst NotColon (sym spelled.0) tt
expression_not_colon (Constant at (constants.Bits s)) p ts spelled = subst NotColon (sym spelled.0) tt
expression_not_colon (Parenthesized at e) p ts spelled = subst NotColon (sym spelled.1) tt
expression_not_colon (Prefix prefixes.Plus at e) p ts spelled = subst NotColon (sym spelled.1) tt
expression_not_colon (Prefix prefixes.Minus at e) p ts spelled = subst NotColon (sym spelled.1) tt
expression_not_colon (Prefix prefixes.Not at e) p ts spelled = subst NotColon (sym spelled.1) tt
expression_not_colon (Infix o at l r) p ts spelled =
    subst NotColon (sym spelled.2) (not_colon_front spelled.0 (Sign (infix_sign o) ∷ spelled.1) (expression_not_colon l p spelled.0 spelled.4))

reference_not_colon : (levels p : ℕ) (ts : Tokens) (r : Reference) → SpellsReferenceAlone levels p ts r → NotColon ts
reference_not_colon levels p ts (Named name arguments parts) spelled = subst NotColon (sym spelled.0.2) tt

joined_not_colon : (m : JoinedParts) (p : ℕ) (ts us : Tokens) → SpellsJoined p ts m → NotColon us → NotColon (ts ++ us)
joined_not_colon Alone p ts us shape h = subst (λ vs. NotColon (vs ++ us)) (sym shape) h
joined_not_colon (Joined Member name arguments m) p ts us spelled h = subst (λ vs. NotColon (vs ++ us)) (sym spelled.2) tt
joined_not_colon (Joined Located name arguments m) p ts us spelled h = subst (λ vs. NotColon (vs ++ us)) (sym spelled.2) tt

arguments_not_colon : (a : Arguments) (p : ℕ) (ts us : Tokens) → SpellsArguments p ts a → NotColon us → NotColon (ts ++ us)
arguments_not_colon Absent p ts us shape h = subst (λ vs. NotColon (vs ++ us)) (sym shape) h
arguments_not_colon (Given list) p ts us spelled h = subst (λ vs. NotColon (vs ++ us)) (sym spelled.1) tt

-- the target of an assignment is a word, after which no `:` stands
pub target_word : (levels p : ℕ) (ts us : Tokens) (r : Reference) → SpellsReferenceAlone levels p ts r → NotColon us → (n : Name) × (vs : Tokens) × (ts ++ us ≡ Word n ∷ vs) × NotColon vs
target_word levels p ts us (Named name arguments parts) ((front, rest, shape, at, args, joined), fits) h = (
  name.name,
  front ++ (rest ++ us),
  ap (λ vs. vs ++ us) shape ∙ ap (λ vs. Word name.name ∷ vs) (append_assoc front rest us),
  arguments_not_colon arguments (p + 1) front (rest ++ us) args (joined_not_colon parts (p + 1 + length front) rest us joined h),
)

-- the first of a list is no `:`
listed_not_colon : {A : Type 0} (Spells : ℕ → Tokens → A → Type 0) → ((p : ℕ) (ts : Tokens) (x : A) → Spells p ts x → NotColon ts) → (p : ℕ) (ts : Tokens) (xs : List A) → SpellsListed Commas Spells p ts xs → NotColon ts
listed_not_colon Spells one p ts [] spelled = absurd spelled
listed_not_colon Spells one p ts (x ∷ []) spelled = one p ts x spelled
listed_not_colon Spells one p ts (x ∷ y ∷ xs) (front, rest, shape, spelled, later) = subst NotColon (sym shape) (not_colon_front front _ (one p front x spelled))

names_not_colon : (p : ℕ) (ts : Tokens) (names : List Identifier) → SpellsNames p ts names → NotColon ts
names_not_colon p ts names spelled = ⊎_elim (λ s. subst NotColon (sym s.2.0) tt) (λ s. subst NotColon (sym s.1) tt) spelled

level_not_colon : (l : Option ℕ) (ts us : Tokens) → SpellsLevel ts l → NotColon us → NotColon (ts ++ us)
level_not_colon None ts us shape h = subst (λ vs. NotColon (vs ++ us)) (sym shape) h
level_not_colon (Some n) ts us (d, s) h = ⊎_elim (λ e. subst (λ vs. NotColon (vs ++ us)) (sym e) tt) (λ e. subst (λ vs. NotColon (vs ++ us)) (sym e) tt) s

item_not_colon : (p : ℕ) (ts : Tokens) (i : Item) → SpellsItem p ts i → NotColon ts
item_not_colon p ts i (ls, ns, ds, rs, shape, level, names, dims, attributes) =
    subst NotColon (sym shape) (level_not_colon i.level ls (ns ++ (ds ++ rs)) level (not_colon_front ns (ds ++ rs) (names_not_colon (p + length ls) ns i.names names)))

pub declaration_not_colon : (p : ℕ) (ts : Tokens) (items : List Item) → SpellsDeclaration p ts items → NotColon ts
declaration_not_colon p ts items (us, shape, spelled) = subst NotColon (sym shape) (not_colon_front us _ (listed_not_colon SpellsItem item_not_colon p us items spelled))

-- with a `;` after it
pub closed_not_colon : (Spells : Tokens → Type 0) → ((us : Tokens) → Spells us → NotColon (us ++ Sign Semicolon ∷ [])) → (ts : Tokens) → SpellsClosed Spells ts → NotColon ts
closed_not_colon Spells one ts (us, shape, spelled) = subst NotColon (sym shape) (one us spelled)

pub allocations_not_colon : (levels p : ℕ) (ts : Tokens) (allocations : List Allocation) → SpellsListed Commas (SpellsAllocation levels) p ts allocations → NotColon ts
allocations_not_colon levels = listed_not_colon (SpellsAllocation levels) (λ p ts a s. subst NotColon (sym s.1) tt)

pub references_not_colon : (levels p : ℕ) (ts : Tokens) (references : List Reference) → SpellsListed Commas (SpellsReferenceAlone levels) p ts references → NotColon ts
references_not_colon levels = listed_not_colon (SpellsReferenceAlone levels) (λ p ts r s. reference_not_colon levels p ts r s)

option_not_colon : (os : List ProcedureOption) (ts us : Tokens) → SpellsOptions ts os → NotColon us → NotColon (ts ++ us)
option_not_colon [] ts us shape h = subst (λ vs. NotColon (vs ++ us)) (sym shape) h
option_not_colon (Main ∷ os) ts us spelled h = subst (λ vs. NotColon (vs ++ us)) (sym (spelled.2 ∙ ap (λ vs. vs ++ spelled.1) spelled.3)) tt
option_not_colon (Returns attributes ∷ os) ts us spelled h = subst (λ vs. NotColon (vs ++ us)) (sym (spelled.2 ∙ ap (λ vs. vs ++ spelled.1) spelled.3.1)) tt
option_not_colon (Recursive ∷ os) ts us spelled h = subst (λ vs. NotColon (vs ++ us)) (sym (spelled.2 ∙ ap (λ vs. vs ++ spelled.1) spelled.3)) tt

parameters_not_colon : (is : List Identifier) (p : ℕ) (ts us : Tokens) → SpellsParameters p ts is → NotColon us → NotColon (ts ++ us)
parameters_not_colon [] p ts us shape h = subst (λ vs. NotColon (vs ++ us)) (sym shape) h
parameters_not_colon (i ∷ is) p ts us spelled h = subst (λ vs. NotColon (vs ++ us)) (sym spelled.1) tt

pub heading_not_colon : (h : Heading) (p : ℕ) (ts us : Tokens) → SpellsHeading p ts h → NotColon us → NotColon (ts ++ us)
heading_not_colon h p ts us (ps, os, shape, parameters, options) stands =
    subst NotColon (sym (ap (λ vs. vs ++ us) shape ∙ append_assoc ps os us)) (parameters_not_colon h.parameters p ps (os ++ us) parameters (option_not_colon h.options os us options stands))

pub control_not_colon : (levels p : ℕ) (c : Option Control) (ts us : Tokens) → SpellsControl levels p ts c → NotColon us → NotColon (ts ++ us)
control_not_colon levels p None ts us shape h = subst (λ vs. NotColon (vs ++ us)) (sym shape) h
control_not_colon levels p (Some (While condition)) ts us spelled h = subst (λ vs. NotColon (vs ++ us)) (sym spelled.1) tt
control_not_colon levels p (Some (Iterate variable equals first range condition)) ts us spelled h =
    not_colon_front ts us (subst NotColon (sym spelled.4) (not_colon_front spelled.0 _ (reference_not_colon levels p spelled.0 variable spelled.7)))

-- SKIP or LIST stands there
pub put_not_colon : (levels p : ℕ) (skip : Bool) (items : List Expression) (ts us : Tokens) → SpellsPut levels p ts skip items → NotColon us → NotColon (ts ++ us)
put_not_colon levels p skip items ts us (front, rest, shape, some, either) h =
    subst NotColon (sym (ap (λ vs. vs ++ us) shape ∙ append_assoc front rest us))
    (⊎_elim (λ (s : SpellsSkip front skip × SpellsItems levels (p + length front) rest items). skip_then skip front (rest ++ us) s.0 (items_then (p + length front) items rest us s.1 h))
    (λ (s : SpellsItems levels p front items × SpellsSkip rest skip). items_then p items front (rest ++ us) s.0 (skip_then skip rest us s.1 h)) either)
  where
    skip_then : (skip : Bool) (ts us : Tokens) → SpellsSkip ts skip → NotColon us → NotColon (ts ++ us)
    skip_then false ts us shape h = subst (λ vs. NotColon (vs ++ us)) (sym shape) h
    skip_then true ts us shape h = subst (λ vs. NotColon (vs ++ us)) (sym shape) tt

    items_then : (p : ℕ) (items : List Expression) (ts us : Tokens) → SpellsItems levels p ts items → NotColon us → NotColon (ts ++ us)
    items_then p [] ts us shape h = subst (λ vs. NotColon (vs ++ us)) (sym shape) h
    items_then p (e ∷ es) ts us spelled h = subst (λ vs. NotColon (vs ++ us)) (sym spelled.1) tt

pub value_not_colon : (levels p : ℕ) (v : Option Expression) (ts us : Tokens) → SpellsValue levels p ts v → NotColon us → NotColon (ts ++ us)
value_not_colon levels p None ts us shape h = subst (λ vs. NotColon (vs ++ us)) (sym shape) h
value_not_colon levels p (Some e) ts us spelled h = subst (λ vs. NotColon (vs ++ us)) (sym spelled.1) tt

-- no END is what comes
abbrev pub NotEnd : StatementKind → Type 0
NotEnd (Keyed End us) = ⊥
NotEnd kind = Unit {0}

abbrev pub IsNotEnd : Keyword → Type 0
IsNotEnd End = ⊥
IsNotEnd keyword = Unit {0}

-- what decides that a word begins neither an END nor an ELSE: an assignment begins, or another keyword
abbrev pub Opens : Name → Tokens → Type 0
Opens n ts = ((p : ℕ) × BeginsAssignment p ts) ⊎ ((same_name n (codes "ELSE") ≡ false) × ((more : Tokens) → NotEnd (first_kind (ts ++ more))))

abbrev pub Started : Tokens → Type 0
Started ts = ((us : Tokens) × (ts ≡ Sign Semicolon ∷ us)) ⊎ ((n : Name) × (us : Tokens) × (ts ≡ Word n ∷ us) × NotColon us × Opens n ts)

keyed_not_end : (k : Keyword) (us : Tokens) → IsNotEnd k → NotEnd (Keyed k us)
keyed_not_end End us h = absurd h
keyed_not_end k us h = h

no_keyword : (k : Keyword) → keyword_of (codes "ELSE") ≡ Some k → ⊥
unfolding keyword_of
no_keyword k h = cc

keyword_not_else : (n : Name) (k : Keyword) → keyword_of n ≡ Some k → same_name n (codes "ELSE") ≡ false
keyword_not_else n k h = by (same_name n (codes "ELSE")) refl
  where
    by : (b : Bool) → same_name n (codes "ELSE") ≡ b → same_name n (codes "ELSE") ≡ false
    by true e = absurd (no_keyword k (ap keyword_of (sym (name_is n (codes "ELSE") e)) ∙ h))
    by false e = e

-- a keyword is the kind
pub keyword_kind : (n : Name) (us : Tokens) (k : Keyword) → keyword_of n ≡ Some k → first_kind (Word n ∷ us) ≡ Keyed k us
unfolding first_kind
keyword_kind n us k h = ap (λ o. word_kind o n us) h

pub keyed_started : (k : Keyword) (Spells : Tokens → Type 0) (ts : Tokens) → IsNotEnd k → SpellsKeyed k Spells ts → ((us : Tokens) → Spells us → NotColon us) → Started ts
keyed_started k Spells ts other (n, us, shape, word, spelled) stands =
    inr (n, us, shape, stands us spelled, inr (keyword_not_else n k word, λ more. subst NotEnd (sym (ap (λ vs. first_kind (vs ++ more)) shape ∙ keyword_kind n (us ++ more) k word)) (keyed_not_end k (us ++ more) other)))

pub go_kinds : (us : Tokens) → first_kind (Word (codes "GO") ∷ Word (codes "TO") ∷ us) ≡ Keyed words.GoTo us
unfolding first_kind keyword_of after_word
go_kinds us = refl

pub goto_started : (p : ℕ) (ts : Tokens) (label : Identifier) → SpellsClosed (λ us. SpellsGoto p us label) ts → Started ts
goto_started p ts label (us, shape, spelled) =
    ⊎_elim
    (λ (s : SpellsKeyed words.Goto (λ us. SpellsIdentifier (p + 1) us label) us).
    keyed_started words.Goto (λ vs. (ws : Tokens) × (vs ≡ Word label.name ∷ ws)) ts tt (s.0, s.1 ++ Sign Semicolon ∷ [], shape ∙ ap (λ vs. vs ++ Sign Semicolon ∷ []) s.2, s.3, (Sign Semicolon ∷ [], ap (λ vs. vs ++ Sign Semicolon ∷ []) s.4.0))
    (λ vs t. subst NotColon (sym t.1) tt))
    (λ s. let whole : ts ≡ Word (codes "GO") ∷ Word (codes "TO") ∷ (s.0 ++ Sign Semicolon ∷ []) = shape ∙ ap (λ vs. vs ++ Sign Semicolon ∷ []) s.1 in
    inr (codes "GO", Word (codes "TO") ∷ (s.0 ++ Sign Semicolon ∷ []), whole, tt, inr (refl, λ more. subst NotEnd (sym (ap (λ vs. first_kind (vs ++ more)) whole ∙ go_kinds ((s.0 ++ Sign Semicolon ∷ []) ++ more))) tt))) spelled

-- what has begun so has no label
word_no_label : (p : ℕ) (n : Name) (us more : Tokens) → NotColon us → label_at p (Word n ∷ us ++ more) ≡ record { value = None; next = p; rest = Word n ∷ us ++ more }
unfolding label_at
word_no_label p n [] more h = absurd h
word_no_label p n (Sign Colon ∷ us) more h = absurd h
word_no_label p n (t ∷ us) more h = refl

semicolon_no_label : (p : ℕ) (us : Tokens) → label_at p (Sign Semicolon ∷ us) ≡ record { value = None; next = p; rest = Sign Semicolon ∷ us }
unfolding label_at
semicolon_no_label p us = refl

pub no_label : (p : ℕ) (ts more : Tokens) → Started ts → label_at p (ts ++ more) ≡ record { value = None; next = p; rest = ts ++ more }
no_label p ts more started =
    ⊎_elim (λ s. subst (λ us. label_at p (us ++ more) ≡ record { value = None; next = p; rest = us ++ more }) (sym s.1) (semicolon_no_label p (s.0 ++ more)))
    (λ s. subst (λ us. label_at p (us ++ more) ≡ record { value = None; next = p; rest = us ++ more }) (sym s.2) (word_no_label p s.0 s.1 more s.3)) started

else_none : (l a : Bool) → else_by l a None ≡ None
else_none true a = refl
else_none false true = refl
else_none false false = refl

else_assigned : (l : Bool) (o : Option Tokens) → else_by l true o ≡ None
else_assigned true o = refl
else_assigned false o = refl

semicolon_no_else : (us : Tokens) → else_first (Sign Semicolon ∷ us) ≡ None
unfolding else_first after_word
semicolon_no_else us = else_none (is_labelled (label_at 0 (Sign Semicolon ∷ us)).value) (begins_assignment (Sign Semicolon ∷ us))

word_no_else : (n : Name) (us : Tokens) → same_name n (codes "ELSE") ≡ false → else_first (Word n ∷ us) ≡ None
unfolding else_first after_word
word_no_else n us h =
    ap (λ b. else_by (is_labelled (label_at 0 (Word n ∷ us)).value) (begins_assignment (Word n ∷ us)) (cond b (Some us) None)) h
    ∙ else_none (is_labelled (label_at 0 (Word n ∷ us)).value) (begins_assignment (Word n ∷ us))

assigned_no_else : (ts : Tokens) → begins_assignment ts ≡ true → else_first ts ≡ None
unfolding else_first
assigned_no_else ts h =
    ap (λ b. else_by (is_labelled (label_at 0 ts).value) b (after_word (codes "ELSE") ts)) h ∙ else_assigned (is_labelled (label_at 0 ts).value) (after_word (codes "ELSE") ts)

-- and is no ELSE
pub no_else : (ts more : Tokens) → Started ts → else_first (ts ++ more) ≡ None
no_else ts more started =
    ⊎_elim (λ s. ap (λ us. else_first (us ++ more)) s.1 ∙ semicolon_no_else (s.0 ++ more))
    (λ s. ⊎_elim (λ a. assigned_no_else (ts ++ more) (assignment_begins a.0 ts more a.1)) (λ o. ap (λ us. else_first (us ++ more)) s.2 ∙ word_no_else s.0 (s.1 ++ more) o.0) s.4) started

pub labelled_no_else : (n : Name) (us : Tokens) → else_first (Word n ∷ Sign Colon ∷ us) ≡ None
unfolding else_first label_at
labelled_no_else n us = refl

next_another : (s : Bool) (l : Option Identifier) (k : StatementKind) → NotEnd k → next_by s l k ≡ Another
next_another false l k h = refl
next_another true (Some l) k h = refl
next_another true None (Keyed End us) h = absurd h
next_another true None k h = refl

cond_not_end : (b : Bool) (k : StatementKind) → NotEnd k → NotEnd (cond b Assigns k)
cond_not_end true k h = tt
cond_not_end false k h = h

semicolon_kind : (us : Tokens) → NotEnd (first_kind (Sign Semicolon ∷ us))
unfolding first_kind
semicolon_kind us = tt

assigned_kind : (ts : Tokens) → begins_assignment ts ≡ true → NotEnd (kind_of ts)
unfolding kind_of
assigned_kind ts h = subst (λ b. NotEnd (cond b Assigns (first_kind ts))) (sym h) tt

other_kind : (ts : Tokens) → NotEnd (first_kind ts) → NotEnd (kind_of ts)
unfolding kind_of
other_kind ts h = cond_not_end (begins_assignment ts) (first_kind ts) h

-- and is no END
pub another : (ts more : Tokens) → Started ts → next_of (ts ++ more) ≡ Another
unfolding next_of
another ts more started =
    next_another (has_semicolon (ts ++ more)) (label_at 0 (ts ++ more)).value (kind_of (ts ++ more))
    (⊎_elim (λ s. other_kind (ts ++ more) (subst (λ us. NotEnd (first_kind (us ++ more))) (sym s.1) (semicolon_kind (s.0 ++ more))))
    (λ s. ⊎_elim (λ a. assigned_kind (ts ++ more) (assignment_begins a.0 ts more a.1)) (λ o. other_kind (ts ++ more) (o.1 more)) s.4) started)

labelled_next : (s : Bool) (l : Identifier) (k : StatementKind) → next_by s (Some l) k ≡ Another
labelled_next true l k = refl
labelled_next false l k = refl

pub labelled_another : (n : Name) (us : Tokens) → next_of (Word n ∷ Sign Colon ∷ us) ≡ Another
unfolding next_of label_at
labelled_another n us = labelled_next (has_semicolon (Word n ∷ Sign Colon ∷ us)) (record { name = n; at = 0 }) (kind_of (Word n ∷ Sign Colon ∷ us))
