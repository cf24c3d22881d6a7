-- What is read is spelled so: what stands after PUT and CALL.
use Rattle.std.proofs.Common.{◌≡◌, ◌+◌, inl, inr, ℕ, suc, Bool, true, false, List, [], ◌∷◌, ◌++◌, Option, Some, None, Ok, length, codes, refl, ap, ◌∙◌, subst, arith}
use Rattle.pli_base.specs.Words.{Tokens}
use Rattle.pli_base.specs.Reading.{Front}
use Rattle.pli_base.specs.Syntax.{Expression}
use Rattle.pli_base.specs.declared.token.TokenText.TheVariants.{Word}
use Rattle.pli_parse_expression.specs.Expressions.{SpellsOutermost}
use Rattle.pli_parse_declaration.specs.DeclarationReading.{list_at}
use Rattle.pli_parse_declaration.specs.DeclarationGrammar.{SpellsFront, SpellsListed}
use Rattle.pli_parse_declaration.proofs.DeclarationSteps.{two}
use Rattle.pli_parse_fault.proofs.StepLemmas.{same_ok, bind_ok}
use Rattle.pli_parse_declaration.proofs.DeclarationRead.{Reads}
use Rattle.pli_base.specs.Statements.{Body, Put}
use Rattle.pli_parse_statement.specs.StatementReading.{expression_in, parenthesized, PutWord, SkipWord, ListWord, put_first, put_by, put_from, put_begun, put_at}
use Rattle.pli_parse_statement.specs.StatementGrammar.{SpellsEnclosed, SpellsSkip, SpellsItems, SpellsPut}
use Rattle.pli_parse.proofs.StatementReadTools.{expression_reads, parenthesized_reads, list_reads}
use Rattle.pli_parse.proofs.WordsFirst.{put_begins}
use Rattle.pli_parse_declaration.specs.declared.list.Separator.TheVariants.{Commas}

abbrev SpellsItemList : (levels p : ℕ) → Tokens → List Expression → Type 0
SpellsItemList levels = SpellsEnclosed (SpellsListed Commas (SpellsOutermost levels))

items_read : (levels : ℕ) → Reads (parenthesized (list_at Commas (expression_in levels))) (SpellsItemList levels)
items_read levels =
    parenthesized_reads (list_at Commas (expression_in levels)) (SpellsListed Commas (SpellsOutermost levels)) (list_reads (expression_in levels) (SpellsOutermost levels) (expression_reads levels))

-- the items after LIST
items_spelled : (levels p : ℕ) (us : Tokens) (items : List Expression) → SpellsItemList levels (p + 1) us items → SpellsItems levels p (Word (codes "LIST") ∷ us) items
items_spelled levels p us [] h = absurd h.2
items_spelled levels p us (e ∷ es) h = (us, refl, h)

-- where both were read nothing comes any more
both_read : (levels bound : ℕ) (e : Expression) (es : List Expression) (p : ℕ) (ts : Tokens) (y : Front Body) → put_from levels (suc bound) true (e ∷ es) p ts ≡ Ok y → record { value = Put true (e ∷ es); next = p; rest = ts } ≡ y
unfolding put_from
both_read levels bound e es p ts y h = by (put_first ts) h
  where
    by : (o : Option (PutWord × Tokens)) → put_by levels (put_from levels bound) true (e ∷ es) p ts o ≡ Ok y → record { value = Put true (e ∷ es); next = p; rest = ts } ≡ y
    by None g = same_ok g
    by (Some (SkipWord, us)) g = cc
    by (Some (ListWord, us)) g = cc

-- after SKIP
abbrev SkipThen : (levels p : ℕ) → Tokens → Body → Type 0
SkipThen levels p ts b = (items : List Expression) × (b ≡ Put true items) × SpellsItems levels p ts items

list_then_done : (levels bound : ℕ) (items : List Expression) (p q : ℕ) (us vs : Tokens) (y : Front Body) → SpellsItemList levels p us items → put_from levels (suc bound) true items q vs ≡ Ok y → record { value = Put true items; next = q; rest = vs } ≡ y
list_then_done levels bound [] p q us vs y spelled h = absurd spelled.2
list_then_done levels bound (e ∷ es) p q us vs y spelled h = both_read levels bound e es q vs y h

skip_read : (levels bound : ℕ) → Reads (put_from levels (suc (suc bound)) true []) (SkipThen levels)
unfolding put_from
skip_read levels bound p ts y h = by (put_first ts) refl h
  where
    by : (o : Option (PutWord × Tokens)) → put_first ts ≡ o → put_by levels (put_from levels (suc bound)) true [] p ts o ≡ Ok y → SpellsFront (SkipThen levels) p ts y
    by None e g = subst (SpellsFront (SkipThen levels) p ts) (same_ok g) ([], refl, omega arith, ([], refl, refl))
    by (Some (SkipWord, us)) e g = cc
    by (Some (ListWord, us)) e g =
        let r = bind_ok (parenthesized (list_at Commas (expression_in levels)) (p + 1) us) _ y g in
        let f = items_read levels (p + 1) us r.0 r.1 in
        subst (SpellsFront (SkipThen levels) p ts) (list_then_done levels bound r.0.value (p + 1) r.0.next f.0 r.0.rest y f.3 r.2) (
          Word (codes "LIST") ∷ f.0,
          put_begins ts us ListWord e ∙ ap (λ vs. Word (codes "LIST") ∷ vs) f.1,
          omega (arith, f.2),
          (r.0.value, refl, items_spelled levels p f.0 r.0.value f.3),
        )

-- after LIST
abbrev ListThen : (levels : ℕ) → List Expression → ℕ → Tokens → Body → Type 0
ListThen levels items p ts b = (skip : Bool) × (b ≡ Put skip items) × SpellsSkip ts skip

list_read : (levels bound : ℕ) (e : Expression) (es : List Expression) → Reads (put_from levels (suc (suc bound)) false (e ∷ es)) (ListThen levels (e ∷ es))
unfolding put_from
list_read levels bound e es p ts y h = by (put_first ts) refl h
  where
    by : (o : Option (PutWord × Tokens)) → put_first ts ≡ o → put_by levels (put_from levels (suc bound)) false (e ∷ es) p ts o ≡ Ok y → SpellsFront (ListThen levels (e ∷ es)) p ts y
    by None is g = subst (SpellsFront (ListThen levels (e ∷ es)) p ts) (same_ok g) ([], refl, omega arith, (false, refl, refl))
    by (Some (SkipWord, us)) is g =
        subst (SpellsFront (ListThen levels (e ∷ es)) p ts) (both_read levels bound e es (p + 1) us y g) (Word (codes "SKIP") ∷ [], put_begins ts us SkipWord is, omega arith, (true, refl, refl))
    by (Some (ListWord, us)) is g = cc

-- the items, and SKIP after them
list_after : (levels bound : ℕ) (items : List Expression) (p : ℕ) (front : Tokens) → SpellsItems levels p (Word (codes "LIST") ∷ front) items → Reads (put_from levels (suc (suc bound)) false items) (ListThen levels items)
list_after levels bound [] p front spelled q vs y h = cc
list_after levels bound (e ∷ es) p front spelled q vs y h = list_read levels bound e es q vs y h

-- after PUT
abbrev pub IsPut : (levels p : ℕ) → Tokens → Body → Type 0
IsPut levels p ts b = (skip : Bool) × (items : List Expression) × (b ≡ Put skip items) × SpellsPut levels p ts skip items

pub put_reads : (levels : ℕ) → Reads (put_at levels) (IsPut levels)
unfolding put_at put_from
put_reads levels p ts y h = by (put_first ts) refl h
  where
    again : (o : Option (PutWord × Tokens)) → put_first ts ≡ o → put_by levels (put_from levels 2) false [] p ts o ≡ Ok y → (o ≡ None → ⊥) → SpellsFront (IsPut levels) p ts y
    again None e g some = absurd (some refl)
    again (Some (SkipWord, us)) e g some =
        let m = skip_read levels 0 (p + 1) us y g in
        let shape : ts ≡ (Word (codes "SKIP") ∷ m.0) ++ y.rest = put_begins ts us SkipWord e ∙ ap (λ vs. Word (codes "SKIP") ∷ vs) m.1 in (
          Word (codes "SKIP") ∷ m.0,
          shape,
          omega (arith, m.2),
          (true, m.3.0, m.3.1, (Word (codes "SKIP") ∷ [], m.0, refl, (λ n. cc), inl (refl, m.3.2))),
        )
    again (Some (ListWord, us)) e g some =
        let r = bind_ok (parenthesized (list_at Commas (expression_in levels)) (p + 1) us) _ y g in
        let f = items_read levels (p + 1) us r.0 r.1 in
        let spelled = items_spelled levels p f.0 r.0.value f.3 in
        let m = list_after levels 0 r.0.value p f.0 spelled r.0.next r.0.rest y r.2 in
        let place : r.0.next ≡ p + length (Word (codes "LIST") ∷ f.0) = omega (arith, f.2) in
        let t = two p r.0.next y.next ts r.0.rest y.rest (Word (codes "LIST") ∷ f.0) m.0 (put_begins ts us ListWord e ∙ ap (λ vs. Word (codes "LIST") ∷ vs) f.1) place m.1 m.2 in (
          (Word (codes "LIST") ∷ f.0) ++ m.0,
          t.0,
          t.1,
          (m.3.0, r.0.value, m.3.1, (Word (codes "LIST") ∷ f.0, m.0, refl, (λ n. cc), inr (spelled, m.3.2))),
        )

    by : (o : Option (PutWord × Tokens)) → put_first ts ≡ o → put_begun levels p ts o ≡ Ok y → SpellsFront (IsPut levels) p ts y
    by None e g = cc
    by (Some x) e g = again (put_first ts) refl g (λ n. cc)
