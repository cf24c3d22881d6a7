-- The tokens of statements and of a unit that are spelled rise in the order of the text.
use Rattle.std.proofs.Common.{◌≡◌, ◌<◌, ◌≤◌, ◌+◌, ℕ, suc, zero, Bool, cond, List, [], ◌∷◌, ◌++◌, Option, Some, None, Ok, length, codes, ap, sym, subst, arith, ⊎_elim, length-append}
use Rattle.std.proofs.lemmas.Bool.{lt-ltb, le-ltb}
use Rattle.pli_base.specs.Name.{Name}
use Rattle.pli_base.specs.Words.{Tokens, SpellsIdentifier}
use Rattle.pli_base.specs.Reading.{Front}
use Rattle.pli_base.specs.Syntax.{Expression, Reference, Named, first_token}
use Rattle.pli_base.specs.TreeTokens.{Rises, expression_tokens, reference_tokens, argument_tokens, tokens_of_each, tokens_of_some, name_tokens, item_tokens, range_tokens, control_tokens, placed_tokens, allocation_tokens, statement_tokens, begun_tokens, statements_tokens, alternative_tokens, unit_tokens}
use Rattle.pli_base.specs.laws.TreeTokenLaws.{rises_within, rises_on, rises_up}
use Rattle.pli_base.specs.declared.syntax.Identifier.{Identifier}
use Rattle.pli_base.specs.declared.token.Sign.TheVariants.{Semicolon, CloseParenthesis, Equals}
use Rattle.pli_base.specs.declared.token.TokenText.TheVariants.{Word, Sign}
use Rattle.pli_base.specs.Statements.{To, By, Repeat, While, Iterate, Statement, Numbered, Body, Null, Assign, Declare, Procedure, Begin, Do, If, On, Revert, Signal, Stop, Allocate, Free, Call, Goto, Return, Put, Statements, Ended, Before, Alternative, NoElse, Else, ExternalProcedure, count}
use Rattle.pli_parse_expression.specs.Expressions.{Deeper, SpellsOutermost, SpellsReferenceAlone}
use Rattle.pli_parse_expression.specs.Operators.{nesting_limit}
use Rattle.pli_parse_expression.proofs.TokensRise.{expression_rises, reference_rises, arguments_rise}
use Rattle.pli_parse_declaration.specs.declared.list.Separator.TheVariants.{Commas}
use Rattle.pli_parse_declaration.specs.DeclarationGrammar.{SpellsListed}
use Rattle.pli_parse_declaration.proofs.DeclarationTokens.{Rise, listed_rise, declaration_rises, identifier_rises}
use Rattle.pli_parse_statement.specs.StatementWords.{Context, standing, the_on_unit, a_procedure}
use Rattle.pli_parse_statement.specs.StatementReading.{statement_at, unit_of}
use Rattle.pli_parse_statement.specs.StatementGrammar.{SpellsEnclosed, SpellsOptional, SpellsParameters, SpellsRange, SpellsControl, SpellsPlaced, SpellsAllocation, SpellsItems, SpellsPut, SpellsValue, SpellsLabel, SpellsStatement, SpellsBody, SpellsStatements, SpellsAlternative, SpellsUnit}
use Rattle.pli_parse_statement.specs.declared.keyword.StatementStanding.TheVariants.{InBlock, InGroup, AsClause}
use Rattle.pli_parse.proofs.StatementRead.{statement_spelled, unit_reads}

outermost_rises : (levels : ℕ) → Rise expression_tokens (SpellsOutermost levels)
outermost_rises levels p ts e spelled = expression_rises p ts e spelled.0

alone_rises : (levels : ℕ) → Rise reference_tokens (SpellsReferenceAlone levels)
alone_rises levels p ts r spelled = reference_rises p ts r spelled.0

-- nothing stands there
none_rises : (p : ℕ) (ts : Tokens) → Rises p [] (p + length ts)
none_rises p ts = omega arith

-- further on in the text
inner_rises : (xs : List ℕ) (p q high : ℕ) (us : Tokens) → p ≤ q → q + length us ≤ high → Rises q xs (q + length us) → Rises p xs high
inner_rises xs p q high us below above h = rises_within xs q p (q + length us) high below above h

enclosed_rises : {A : Type 0} (tokens : A → List ℕ) (Spells : ℕ → Tokens → A → Type 0) → Rise tokens Spells → Rise tokens (SpellsEnclosed Spells)
enclosed_rises tokens Spells rise p ts x (us, shape, spelled) =
    inner_rises (tokens x) p (p + 1) (p + length ts) us (omega arith) (omega (arith, ap length shape, length-append us (Sign CloseParenthesis ∷ []))) (rise (p + 1) us x spelled)

optional_rises : {A : Type 0} (tokens : A → List ℕ) (w : Name) (Spells : ℕ → Tokens → A → Type 0) → Rise tokens Spells → Rise (tokens_of_some tokens) (SpellsOptional w Spells)
optional_rises tokens w Spells rise p ts None spelled = none_rises p ts
optional_rises tokens w Spells rise p ts (Some x) (us, shape, spelled) = inner_rises (tokens x) p (p + 1) (p + length ts) us (omega arith) (omega (arith, ap length shape)) (rise (p + 1) us x spelled)

parameters_rise : Rise (tokens_of_each name_tokens) SpellsParameters
parameters_rise p ts [] spelled = none_rises p ts
parameters_rise p ts (i ∷ is) spelled = enclosed_rises (tokens_of_each name_tokens) (SpellsListed Commas SpellsIdentifier) (listed_rise name_tokens Commas SpellsIdentifier identifier_rises) p ts (i ∷ is) spelled

-- an expression after a word, and after it another after a word
two_rise : (levels p : ℕ) (w v : Name) (ts front rest : Tokens) (x : Expression) (y : Option Expression) → ts ≡ Word w ∷ front ++ rest → SpellsOutermost levels (p + 1) front x → SpellsOptional v (SpellsOutermost levels) (p + 1 + length front) rest y
    → Rises p (expression_tokens x ++ tokens_of_some expression_tokens y) (p + length ts)
two_rise levels p w v ts front rest x y shape first second =
    rises_on (expression_tokens x) (tokens_of_some expression_tokens y) p (p + 1 + length front) (p + 1 + length front) (p + length ts) (omega arith)
    (inner_rises (expression_tokens x) p (p + 1) (p + 1 + length front) front (omega arith) (omega arith) (outermost_rises levels (p + 1) front x first))
    (inner_rises (tokens_of_some expression_tokens y) (p + 1 + length front) (p + 1 + length front) (p + length ts) rest (omega arith) (omega (arith, ap length shape, length-append front rest))
    (optional_rises expression_tokens v (SpellsOutermost levels) (outermost_rises levels) (p + 1 + length front) rest y second))

range_rises : (levels : ℕ) → Rise (tokens_of_some range_tokens) (SpellsRange levels)
range_rises levels p ts None spelled = none_rises p ts
range_rises levels p ts (Some (To to by)) (front, rest, shape, first, second) = two_rise levels p (codes "TO") (codes "BY") ts front rest to by shape first second
range_rises levels p ts (Some (By by to)) (front, rest, shape, first, second) = two_rise levels p (codes "BY") (codes "TO") ts front rest by to shape first second
range_rises levels p ts (Some (Repeat next)) (us, shape, spelled) =
    inner_rises (expression_tokens next) p (p + 1) (p + length ts) us (omega arith) (omega (arith, ap length shape)) (outermost_rises levels (p + 1) us next spelled)

control_rises : (levels : ℕ) → Rise (tokens_of_some control_tokens) (SpellsControl levels)
control_rises levels p ts None spelled = none_rises p ts
control_rises levels p ts (Some (While condition)) (us, shape, spelled) =
    inner_rises (expression_tokens condition) p (p + 1) (p + length ts) us (omega arith) (omega (arith, ap length shape)) (enclosed_rises expression_tokens (SpellsOutermost levels) (outermost_rises levels) (p + 1) us condition spelled)
control_rises levels p ts (Some (Iterate variable equals first range condition)) (vs, fs, rs, cs, shape, not, place, target, begin, ranged, while) =
    let a : ℕ = p + length vs in
    let b : ℕ = p + length vs + 1 + length fs in
    let d : ℕ = p + length vs + 1 + length fs + length rs in
    let whole : p + length ts ≡ d + length cs = omega (arith, ap length shape, length-append vs (Sign Equals ∷ (fs ++ (rs ++ cs))), length-append fs (rs ++ cs), length-append rs cs) in
    let back : Rises b (tokens_of_some range_tokens range ++ tokens_of_some expression_tokens condition) (p + length ts) =
    rises_on (tokens_of_some range_tokens range) (tokens_of_some expression_tokens condition) b d d (p + length ts) (omega arith) (range_rises levels b rs range ranged)
    (inner_rises (tokens_of_some expression_tokens condition) d d (p + length ts) cs (omega arith) (omega arith)
    (optional_rises expression_tokens (codes "WHILE") (SpellsEnclosed (SpellsOutermost levels)) (enclosed_rises expression_tokens (SpellsOutermost levels) (outermost_rises levels)) d cs condition while))
    in
    let middle : Rises (equals + 1) (expression_tokens first ++ (tokens_of_some range_tokens range ++ tokens_of_some expression_tokens condition)) (p + length ts) =
    rises_on (expression_tokens first) (tokens_of_some range_tokens range ++ tokens_of_some expression_tokens condition) (equals + 1) b b (p + length ts) (omega arith)
    (inner_rises (expression_tokens first) (equals + 1) (a + 1) b fs (omega arith) (omega arith) (outermost_rises levels (a + 1) fs first begin)) back
    in
    rises_on (reference_tokens variable) (equals ∷ (expression_tokens first ++ (tokens_of_some range_tokens range ++ tokens_of_some expression_tokens condition))) p a equals (p + length ts) (omega arith) (alone_rises levels p vs variable target) (omega arith, middle)

-- a reference after IN or SET
place_rises : (levels : ℕ) (w : Name) → Rise (tokens_of_some reference_tokens) (SpellsOptional w (SpellsEnclosed (SpellsReferenceAlone levels)))
place_rises levels w = optional_rises reference_tokens w (SpellsEnclosed (SpellsReferenceAlone levels)) (enclosed_rises reference_tokens (SpellsReferenceAlone levels) (alone_rises levels))

-- the first token of a reference stands between the bounds of its tokens
first_between : (r : Reference) (low high : ℕ) → Rises low (reference_tokens r) high → (low ≤ first_token r) × (first_token r < high)
first_between (Named name arguments more) low high h = let up : name.at + 1 ≤ high = rises_up _ (name.at + 1) high h.1 in (h.0, omega arith)

placed_rise : (area target : Option Reference) (low middle high : ℕ) → Rises low (tokens_of_some reference_tokens area) middle → Rises middle (tokens_of_some reference_tokens target) high → Rises low (placed_tokens area target) high
placed_rise (Some a) (Some t) low middle high first second =
    let before : first_token a < first_token t = omega (arith, (first_between a low middle first).1, (first_between t middle high second).0) in
    subst (λ b. Rises low (cond b (reference_tokens a ++ reference_tokens t) (reference_tokens t ++ reference_tokens a)) high) (sym (lt-ltb (first_token a) (first_token t) before))
    (rises_on (reference_tokens a) (reference_tokens t) low middle middle high (omega arith) first second)
placed_rise (Some a) None low middle high first second = rises_on (reference_tokens a) [] low middle middle high (omega arith) first second
placed_rise None (Some t) low middle high first second = rises_on [] (reference_tokens t) low middle middle high (omega arith) first second
placed_rise None None low middle high first second = rises_on [] [] low middle middle high (omega arith) first second

placed_turned : (area target : Option Reference) (low middle high : ℕ) → Rises low (tokens_of_some reference_tokens target) middle → Rises middle (tokens_of_some reference_tokens area) high → Rises low (placed_tokens area target) high
placed_turned (Some a) (Some t) low middle high first second =
    let before : first_token t ≤ first_token a = omega (arith, (first_between t low middle first).1, (first_between a middle high second).0) in
    subst (λ b. Rises low (cond b (reference_tokens a ++ reference_tokens t) (reference_tokens t ++ reference_tokens a)) high) (sym (le-ltb (first_token a) (first_token t) before))
    (rises_on (reference_tokens t) (reference_tokens a) low middle middle high (omega arith) first second)
placed_turned (Some a) None low middle high first second =
    rises_on (reference_tokens a) [] low high high high (omega arith) (rises_within (reference_tokens a) middle low high high first (omega arith) second) (omega arith)
placed_turned None (Some t) low middle high first second =
    rises_on [] (reference_tokens t) low low low high (omega arith) (omega arith) (rises_within (reference_tokens t) low low middle high (omega arith) second first)
placed_turned None None low middle high first second = rises_on [] [] low middle middle high (omega arith) first second

placed_rises : (levels p : ℕ) (ts : Tokens) (area target : Option Reference) → SpellsPlaced levels p ts area target → Rises p (placed_tokens area target) (p + length ts)
placed_rises levels p ts area target (front, rest, shape, either) =
    let whole : p + length front + length rest ≡ p + length ts = omega (arith, ap length shape, length-append front rest) in
    subst (λ high. Rises p (placed_tokens area target) high) whole
    (⊎_elim
    (λ s. placed_rise area target p (p + length front) (p + length front + length rest) (place_rises levels (codes "IN") p front area s.0) (place_rises levels (codes "SET") (p + length front) rest target s.1))
    (λ s. placed_turned area target p (p + length front) (p + length front + length rest) (place_rises levels (codes "SET") p front target s.0) (place_rises levels (codes "IN") (p + length front) rest area s.1)) either)

allocation_rises : (levels : ℕ) → Rise allocation_tokens (SpellsAllocation levels)
allocation_rises levels p ts a (us, shape, at, placed) =
    (omega (arith, at), inner_rises (placed_tokens a.area a.target) (a.name.at + 1) (p + 1) (p + length ts) us (omega (arith, at)) (omega (arith, ap length shape)) (placed_rises levels (p + 1) us a.area a.target placed))

items_rise : (levels : ℕ) → Rise (tokens_of_each expression_tokens) (SpellsItems levels)
items_rise levels p ts [] spelled = none_rises p ts
items_rise levels p ts (e ∷ es) (us, shape, spelled) =
    inner_rises (tokens_of_each expression_tokens (e ∷ es)) p (p + 1) (p + length ts) us (omega arith) (omega (arith, ap length shape))
    (enclosed_rises (tokens_of_each expression_tokens) (SpellsListed Commas (SpellsOutermost levels)) (listed_rise expression_tokens Commas (SpellsOutermost levels) (outermost_rises levels)) (p + 1) us (e ∷ es) spelled)

put_rises : (levels p : ℕ) (ts : Tokens) (skip : Bool) (items : List Expression) → SpellsPut levels p ts skip items → Rises p (tokens_of_each expression_tokens items) (p + length ts)
put_rises levels p ts skip items (front, rest, shape, some, either) =
    let whole : p + length front + length rest ≡ p + length ts = omega (arith, ap length shape, length-append front rest) in
    ⊎_elim (λ s. inner_rises (tokens_of_each expression_tokens items) p (p + length front) (p + length ts) rest (omega arith) (omega arith) (items_rise levels (p + length front) rest items s.1))
    (λ s. inner_rises (tokens_of_each expression_tokens items) p p (p + length ts) front (omega arith) (omega arith) (items_rise levels p front items s.0)) either

value_rises : (levels : ℕ) → Rise (tokens_of_some expression_tokens) (SpellsValue levels)
value_rises levels p ts None spelled = none_rises p ts
value_rises levels p ts (Some e) spelled = enclosed_rises expression_tokens (SpellsOutermost levels) (outermost_rises levels) p ts e spelled

label_rises : Rise (tokens_of_some name_tokens) SpellsLabel
label_rises p ts None spelled = none_rises p ts
label_rises p ts (Some l) spelled = (omega (arith, spelled.1), omega (arith, spelled.1, ap length spelled.0))

-- a statement's first token, and what stands after its keyword
keyed_rises : (xs : List ℕ) (p q : ℕ) (ts us : Tokens) (n : Name) → ts ≡ Word n ∷ us → p + 1 ≤ q → (front : Tokens) → q + length front ≤ p + 1 + length us → Rises q xs (q + length front) → Rises p (p ∷ xs) (p + length ts)
keyed_rises xs p q ts us n shape after front within h = (omega arith, inner_rises xs (p + 1) q (p + length ts) front after (omega (arith, ap length shape)) h)

closed_rises : (xs : List ℕ) (p : ℕ) (ts us vs : Tokens) (n : Name) → ts ≡ Word n ∷ us → us ≡ vs ++ Sign Semicolon ∷ [] → Rises (p + 1) xs (p + 1 + length vs) → Rises p (p ∷ xs) (p + length ts)
closed_rises xs p ts us vs n shape closed h = keyed_rises xs p (p + 1) ts us n shape (omega arith) vs (omega (arith, ap length closed, length-append vs (Sign Semicolon ∷ []))) h

bare_rises : (p : ℕ) (ts us : Tokens) (n : Name) → ts ≡ Word n ∷ us → Rises p (p ∷ []) (p + length ts)
bare_rises p ts us n shape = (omega arith, omega (arith, ap length shape))

mutual
  pub statement_rises : (c : Context) (levels p k : ℕ) (ts : Tokens) (s : Statement) → SpellsStatement c levels p k ts s → Rises p (statement_tokens s) (p + length ts)
  statement_rises c levels p k ts (Numbered number label at body) (front, rest, shape, spelled, is, place, stands, returns, kind, inner) =
      rises_on (tokens_of_some name_tokens label) (begun_tokens at body) p (p + length front) (p + length front) (p + length ts) (omega arith) (label_rises p front label spelled)
      (inner_rises (begun_tokens at body) (p + length front) (p + length front) (p + length ts) rest (omega arith) (omega (arith, ap length shape, length-append front rest))
      (subst (λ q. Rises (p + length front) (begun_tokens q body) (p + length front + length rest)) (sym place) (body_rises c levels label (p + length front) k rest body inner)))

  pub body_rises : (c : Context) (levels : ℕ) (label : Option Identifier) (p k : ℕ) (ts : Tokens) (body : Body) → SpellsBody c levels label p k ts body → Rises p (begun_tokens p body) (p + length ts)
  body_rises c levels label p k ts Null shape = (omega arith, omega (arith, ap length shape))
  body_rises c levels label p k ts (Assign target equals value) (ls, rs, shape, at, left, right) =
      let whole : length ts ≡ length ls + (1 + (length rs + 1)) = omega (arith, ap length shape, length-append ls (Sign Equals ∷ (rs ++ Sign Semicolon ∷ [])), length-append rs (Sign Semicolon ∷ [])) in
      rises_on (reference_tokens target) (equals ∷ expression_tokens value) p (p + length ls) equals (p + length ts) (omega arith) (alone_rises levels p ls target left)
      (omega arith, inner_rises (expression_tokens value) (equals + 1) (p + length ls + 1) (p + length ts) rs (omega arith) (omega arith) (outermost_rises levels (p + length ls + 1) rs value right))
  body_rises c levels label p k ts (Declare items) (n, us, shape, word, spelled) =
      keyed_rises (tokens_of_each item_tokens items) p (p + 1) ts us n shape (omega arith) us (omega arith) (declaration_rises (p + 1) us items spelled)
  body_rises c zero label p k ts (Procedure heading statements end) (n, us, shape, word, (hs, ss, es, whole, head, numbered, inner, ended, last)) = absurd inner
  body_rises c (suc levels) label p k ts (Procedure heading statements end) (n, us, shape, word, (hs, ss, es, whole, (ps, os, split, params, options), numbered, inner, ended, last)) =
      let sizes : length us ≡ length ps + length os + (1 + (length ss + length es)) =
      omega (arith, ap length whole, ap length split, length-append hs (Sign Semicolon ∷ (ss ++ es)), length-append ss es, length-append ps os)
      in
      let heads : length hs ≡ length ps + length os = omega (arith, ap length split, length-append ps os) in (
        omega arith,
        rises_on (tokens_of_each name_tokens heading.parameters) (statements_tokens statements) (p + 1) (p + 1 + length ps) (p + 1 + length hs + 1) (p + length ts) (omega arith)
            (parameters_rise (p + 1) ps heading.parameters params)
            (inner_rises (statements_tokens statements) (p + 1 + length hs + 1) (p + 1 + length hs + 1) (p + length ts) ss (omega arith) (omega (arith, ap length shape))
            (statements_rise a_procedure levels (p + 1 + length hs + 1) (k + 1) ss statements inner)),
      )
  body_rises c zero label p k ts (Begin statements end) (n, us, shape, word, (ss, es, whole, inner, ended, last)) = absurd inner
  body_rises c (suc levels) label p k ts (Begin statements end) (n, us, shape, word, (ss, es, whole, inner, ended, last)) =
      keyed_rises (statements_tokens statements) p (p + 2) ts us n shape (omega arith) ss (omega (arith, ap length whole, length-append ss es)) (statements_rise (standing InBlock c) levels (p + 2) (k + 1) ss statements inner)
  body_rises c zero label p k ts (Do control statements end) (n, us, shape, word, (cs, ss, es, whole, inner, ended, last)) = absurd inner
  body_rises c (suc levels) label p k ts (Do control statements end) (n, us, shape, word, (cs, ss, es, whole, (controls, inner), ended, last)) =
      let sizes : length us ≡ length cs + (1 + (length ss + length es)) = omega (arith, ap length whole, length-append cs (Sign Semicolon ∷ (ss ++ es)), length-append ss es) in (
        omega arith,
        rises_on (tokens_of_some control_tokens control) (statements_tokens statements) (p + 1) (p + 1 + length cs) (p + 1 + length cs + 1) (p + length ts) (omega arith) (control_rises levels (p + 1) cs control controls)
            (inner_rises (statements_tokens statements) (p + 1 + length cs + 1) (p + 1 + length cs + 1) (p + length ts) ss (omega arith) (omega (arith, ap length shape))
            (statements_rise (standing InGroup c) levels (p + 1 + length cs + 1) (k + 1) ss statements inner)),
      )
  body_rises c zero label p k ts (If condition consequence alternative) (n, us, shape, word, (cs, ss, es, whole, inner)) = absurd inner
  body_rises c (suc levels) label p k ts (If condition consequence alternative) (n, us, shape, word, (cs, ss, es, whole, (tested, first, second))) =
      let sizes : length us ≡ length cs + (1 + (length ss + length es)) = omega (arith, ap length whole, length-append cs (Word (codes "THEN") ∷ (ss ++ es)), length-append ss es) in
      let a : ℕ = p + 1 + length cs + 1 in (
        omega arith,
        rises_on (expression_tokens condition) (statement_tokens consequence ++ alternative_tokens alternative) (p + 1) (p + 1 + length cs) a (p + length ts) (omega arith) (outermost_rises levels (p + 1) cs condition tested)
            (rises_on (statement_tokens consequence) (alternative_tokens alternative) a (a + length ss) (a + length ss) (p + length ts) (omega arith) (statement_rises (standing AsClause c) levels a (k + 1) ss consequence first)
            (inner_rises (alternative_tokens alternative) (a + length ss) (a + length ss) (p + length ts) es (omega arith) (omega (arith, ap length shape))
            (alternative_rises c levels (a + length ss) (k + 1 + count consequence) es consequence alternative second))),
      )
  body_rises c zero label p k ts (On condition unit) (n, us, shape, word, (cs, ss, whole, is, inner)) = absurd inner
  body_rises c (suc levels) label p k ts (On condition unit) (n, us, shape, word, (cs, ss, whole, is, inner)) =
      keyed_rises (statement_tokens unit) p (p + 1 + length cs) ts us n shape (omega arith) ss (omega (arith, ap length whole, length-append cs ss)) (statement_rises the_on_unit levels (p + 1 + length cs) (k + 1) ss unit inner)
  body_rises c levels label p k ts (Revert condition) (n, us, shape, word, spelled) = bare_rises p ts us n shape
  body_rises c levels label p k ts (Signal condition) (n, us, shape, word, spelled) = bare_rises p ts us n shape
  body_rises c levels label p k ts Stop (n, us, shape, word, spelled) = bare_rises p ts us n shape
  body_rises c levels label p k ts (Allocate allocations) (n, us, shape, word, (vs, closed, spelled)) =
      closed_rises (tokens_of_each allocation_tokens allocations) p ts us vs n shape closed (listed_rise allocation_tokens Commas (SpellsAllocation levels) (allocation_rises levels) (p + 1) vs allocations spelled)
  body_rises c levels label p k ts (Free references) (n, us, shape, word, (vs, closed, spelled)) =
      closed_rises (tokens_of_each reference_tokens references) p ts us vs n shape closed (listed_rise reference_tokens Commas (SpellsReferenceAlone levels) (alone_rises levels) (p + 1) vs references spelled)
  body_rises c levels label p k ts (Call name arguments) (n, us, shape, word, (vs, closed, (ws, inner, at, spelled, fits))) =
      closed_rises (name.at ∷ argument_tokens arguments) p ts us vs n shape closed
      (omega arith, inner_rises (argument_tokens arguments) (name.at + 1) (p + 1 + 1) (p + 1 + length vs) ws (omega arith) (omega (arith, ap length inner)) (arguments_rise (p + 1 + 1) ws arguments spelled))
  body_rises c levels label p k ts (Goto name) (vs, closed, either) =
      let whole : length ts ≡ length vs + 1 = omega (arith, ap length closed, length-append vs (Sign Semicolon ∷ [])) in
      ⊎_elim (λ (n, us, shape, word, (is, at)). (omega arith, (omega arith, omega (arith, ap length shape, ap length is))))
      (λ (us, shape, (is, at)). (omega arith, (omega arith, omega (arith, ap length shape, ap length is)))) either
  body_rises c levels label p k ts (Return value) (n, us, shape, word, (vs, closed, spelled)) =
      closed_rises (tokens_of_some expression_tokens value) p ts us vs n shape closed (value_rises levels (p + 1) vs value spelled)
  body_rises c levels label p k ts (Put skip items) (n, us, shape, word, (vs, closed, spelled)) =
      closed_rises (tokens_of_each expression_tokens items) p ts us vs n shape closed (put_rises levels (p + 1) vs skip items spelled)

  pub statements_rise : (c : Context) (levels p k : ℕ) (ts : Tokens) (ss : Statements) → SpellsStatements c levels p k ts ss → Rises p (statements_tokens ss) (p + length ts)
  statements_rise c levels p k ts Ended shape = none_rises p ts
  statements_rise c levels p k ts (Before first more) (front, rest, shape, spelled, later) =
      rises_on (statement_tokens first) (statements_tokens more) p (p + length front) (p + length front) (p + length ts) (omega arith) (statement_rises c levels p k front first spelled)
      (inner_rises (statements_tokens more) (p + length front) (p + length front) (p + length ts) rest (omega arith) (omega (arith, ap length shape, length-append front rest)) (statements_rise c levels (p + length front) (k + count first) rest more later))

  alternative_rises : (c : Context) (levels p k : ℕ) (ts : Tokens) (consequence : Statement) (a : Alternative) → SpellsAlternative c levels p k ts consequence a → Rises p (alternative_tokens a) (p + length ts)
  alternative_rises c levels p k ts consequence NoElse shape = none_rises p ts
  alternative_rises c levels p k ts consequence (Else statement) (us, shape, none, spelled) =
      inner_rises (statement_tokens statement) p (p + 1) (p + length ts) us (omega arith) (omega (arith, ap length shape)) (statement_rises (standing AsClause c) levels (p + 1) k us statement spelled)

-- the unit, whose statements are one level deeper
inner_statements : (levels q : ℕ) (ss : Tokens) (statements : Statements) → Deeper (λ m. SpellsStatements a_procedure m q 2 ss statements) levels → Rises q (statements_tokens statements) (q + length ss)
inner_statements zero q ss statements inner = absurd inner
inner_statements (suc levels) q ss statements inner = statements_rise a_procedure levels q 2 ss statements inner

unit_rises : (ts : Tokens) (u : ExternalProcedure) → SpellsUnit ts u → Rises 0 (unit_tokens u) (length ts)
unit_rises ts u (n, hs, ss, es, shape, word, at, first, (ps, os, split, params, options), inner, ended, last) =
    let heads : length hs ≡ length ps + length os = omega (arith, ap length split, length-append ps os) in
    let whole : length ts ≡ 3 + length hs + 1 + (length ss + length es) = omega (arith, ap length shape, length-append hs (Sign Semicolon ∷ (ss ++ es)), length-append ss es) in (
      omega arith,
      rises_on (tokens_of_each name_tokens u.heading.parameters) (statements_tokens u.statements) (u.heading.name.at + 1) (3 + length ps) (3 + length hs + 1) (length ts) (omega arith)
          (inner_rises (tokens_of_each name_tokens u.heading.parameters) (u.heading.name.at + 1) 3 (3 + length ps) ps (omega (arith, at)) (omega arith) (parameters_rise 3 ps u.heading.parameters params))
          (inner_rises (statements_tokens u.statements) (3 + length hs + 1) (3 + length hs + 1) (length ts) ss (omega arith) (omega arith) (inner_statements nesting_limit (3 + length hs + 1) ss u.statements inner)),
    )

pub statement_read_rises : (c : Context) (levels p k : ℕ) (ts : Tokens) (x : Front Statement) → statement_at levels c p k ts ≡ Ok x → Rises p (statement_tokens x.value) x.next
statement_read_rises c levels p k ts x h =
    let f = statement_spelled c levels p k ts x h in
    rises_within (statement_tokens x.value) p p (p + length f.0) x.next (omega arith) (omega (arith, f.2)) (statement_rises c levels p k f.0 x.value f.3)

pub unit_read_rises : (ts : Tokens) (u : ExternalProcedure) → unit_of ts ≡ Ok u → Rises 0 (unit_tokens u) (length ts)
unit_read_rises ts u h = unit_rises ts u (unit_reads ts u h)
