-- What is read is spelled so: allocations, and what stands after PUT and CALL.
use Rattle.std.proofs.Common.{◌≡◌, ◌+◌, inl, inr, ℕ, suc, [], ◌∷◌, ◌++◌, Option, Some, None, Result, Ok, length, codes, refl, ap, ◌∙◌, sym, subst, arith}
use Rattle.pli_base.specs.Words.{Tokens}
use Rattle.pli_base.specs.Results.{◌>>=◌}
use Rattle.pli_base.specs.Reading.{Front}
use Rattle.pli_base.specs.Syntax.{Reference}
use Rattle.pli_base.specs.declared.token.Fault.{Fault}
use Rattle.pli_base.specs.declared.token.TokenText.TheVariants.{Word}
use Rattle.pli_base.specs.declared.syntax.Identifier.{Identifier}
use Rattle.pli_parse_expression.specs.Expressions.{SpellsReferenceAlone}
use Rattle.pli_parse_declaration.specs.DeclarationGrammar.{SpellsFront}
use Rattle.pli_parse_declaration.proofs.DeclarationSteps.{two}
use Rattle.pli_parse_fault.proofs.StepLemmas.{same_ok, bind_ok}
use Rattle.pli_parse_declaration.proofs.DeclarationRead.{Reads, identifier_reads}
use Rattle.pli_base.specs.Statements.{Allocation}
use Rattle.pli_parse_statement.specs.StatementReading.{reference_in, parenthesized, PlaceWord, InWord, SetWord, place_first, placed_by, places_from, allocation_at}
use Rattle.pli_parse_statement.specs.StatementGrammar.{SpellsEnclosed, SpellsOptional, SpellsPlaced, SpellsAllocation}
use Rattle.pli_parse.proofs.StatementReadTools.{reference_reads, parenthesized_reads}
use Rattle.pli_parse.proofs.WordsFirst.{place_spelling, place_begins}
use Rattle.pli_parse_declaration.specs.DeclarationReading.{identifier_at}

abbrev SpellsPlace : (levels p : ℕ) → Tokens → Reference → Type 0
SpellsPlace levels = SpellsEnclosed (SpellsReferenceAlone levels)

place_reads : (levels : ℕ) → Reads (parenthesized (reference_in levels)) (SpellsPlace levels)
place_reads levels = parenthesized_reads (reference_in levels) (SpellsReferenceAlone levels) (reference_reads levels)

-- a part after its word
part_read : (levels p : ℕ) (w : PlaceWord) (ts us : Tokens) → place_first ts ≡ Some (w, us)
    → (r : Front Reference)
    → parenthesized (reference_in levels) (p + 1) us ≡ Ok r
    → SpellsFront (λ q vs x. SpellsOptional (place_spelling w) (SpellsPlace levels) q vs (Some x)) p ts r
part_read levels p w ts us e r h =
    let f = place_reads levels (p + 1) us r h in
    let shape = place_begins ts us w e ∙ ap (λ vs. Word (place_spelling w) ∷ vs) f.1 in
    (Word (place_spelling w) ∷ f.0, shape, omega (arith, f.2), (f.0, refl, f.3))

abbrev allocated : Identifier → (area target : Option Reference) → Allocation
allocated n area target = record { name = n; area = area; target = target }

-- where both were read nothing comes any more
both_read : (levels bound : ℕ) (n : Identifier) (area target : Reference) (p : ℕ) (ts : Tokens) (y : Front Allocation) → places_from levels (suc bound) (allocated n (Some area) (Some target)) p ts ≡ Ok y
    → record { value = allocated n (Some area) (Some target); next = p; rest = ts } ≡ y
unfolding places_from
both_read levels bound n area target p ts y h = by (place_first ts) h
  where
    by : (o : Option (PlaceWord × Tokens)) → placed_by levels (places_from levels bound) (allocated n (Some area) (Some target)) p ts o (Some area) (Some target) ≡ Ok y → record { value = allocated n (Some area) (Some target); next = p; rest = ts } ≡ y
    by None g = same_ok g
    by (Some (InWord, us)) g = cc
    by (Some (SetWord, us)) g = cc

-- after IN
abbrev AreaThen : (levels : ℕ) → Identifier → Reference → ℕ → Tokens → Allocation → Type 0
AreaThen levels n area p ts a = (a.name ≡ n) × (a.area ≡ Some area) × SpellsOptional (codes "SET") (SpellsPlace levels) p ts a.target

area_read : (levels bound : ℕ) (n : Identifier) (area : Reference) → Reads (places_from levels (suc (suc bound)) (allocated n (Some area) None)) (AreaThen levels n area)
unfolding places_from
area_read levels bound n area p ts y h = by (place_first ts) refl h
  where
    by : (o : Option (PlaceWord × Tokens)) → place_first ts ≡ o → placed_by levels (places_from levels (suc bound)) (allocated n (Some area) None) p ts o (Some area) None ≡ Ok y → SpellsFront (AreaThen levels n area) p ts y
    by None e g = subst (SpellsFront (AreaThen levels n area) p ts) (same_ok g) ([], refl, omega arith, (refl, refl, refl))
    by (Some (InWord, us)) e g = cc
    by (Some (SetWord, us)) e g =
        let r = bind_ok (parenthesized (reference_in levels) (p + 1) us) _ y g in
        let f = part_read levels p SetWord ts us e r.0 r.1 in
        let both = both_read levels bound n area r.0.value r.0.next r.0.rest y r.2 in
        subst (SpellsFront (AreaThen levels n area) p ts) both (f.0, f.1, f.2, (refl, refl, f.3))

-- after SET
abbrev TargetThen : (levels : ℕ) → Identifier → Reference → ℕ → Tokens → Allocation → Type 0
TargetThen levels n target p ts a = (a.name ≡ n) × (a.target ≡ Some target) × SpellsOptional (codes "IN") (SpellsPlace levels) p ts a.area

target_read : (levels bound : ℕ) (n : Identifier) (target : Reference) → Reads (places_from levels (suc (suc bound)) (allocated n None (Some target))) (TargetThen levels n target)
unfolding places_from
target_read levels bound n target p ts y h = by (place_first ts) refl h
  where
    by : (o : Option (PlaceWord × Tokens)) → place_first ts ≡ o → placed_by levels (places_from levels (suc bound)) (allocated n None (Some target)) p ts o None (Some target) ≡ Ok y → SpellsFront (TargetThen levels n target) p ts y
    by None e g = subst (SpellsFront (TargetThen levels n target) p ts) (same_ok g) ([], refl, omega arith, (refl, refl, refl))
    by (Some (SetWord, us)) e g = cc
    by (Some (InWord, us)) e g =
        let r = bind_ok (parenthesized (reference_in levels) (p + 1) us) _ y g in
        let f = part_read levels p InWord ts us e r.0 r.1 in
        let both = both_read levels bound n r.0.value target r.0.next r.0.rest y r.2 in
        subst (SpellsFront (TargetThen levels n target) p ts) both (f.0, f.1, f.2, (refl, refl, f.3))

-- after the name
abbrev Placed : (levels : ℕ) → Identifier → ℕ → Tokens → Allocation → Type 0
Placed levels n p ts a = (a.name ≡ n) × SpellsPlaced levels p ts a.area a.target

-- a part after its word, and then the other
parts_read : (levels p : ℕ) (w : PlaceWord) (n : Identifier) (ts us : Tokens) → place_first ts ≡ Some (w, us)
    → (next : Front Reference → Result (Front Allocation) Fault)
    (Then : Reference → ℕ → Tokens → Allocation → Type 0)
    → ((r : Front Reference) (y : Front Allocation) → next r ≡ Ok y
    → SpellsFront (Then r.value) r.next r.rest y)
    → ((r : Reference) (a : Allocation) (front rest : Tokens)
    → SpellsOptional (place_spelling w) (SpellsPlace levels) p front (Some r)
    → Then r (p + length front) rest a → Placed levels n p (front ++ rest) a)
    → (y : Front Allocation) → (parenthesized (reference_in levels) (p + 1) us >>= next) ≡ Ok y
    → SpellsFront (Placed levels n) p ts y
parts_read levels p w n ts us e next Then reads both y h =
    let r = bind_ok (parenthesized (reference_in levels) (p + 1) us) next y h in
    let f = part_read levels p w ts us e r.0 r.1 in
    let m = reads r.0 y r.2 in
    let t = two p r.0.next y.next ts r.0.rest y.rest f.0 m.0 f.1 f.2 m.1 m.2 in
    let more = subst (λ q. Then r.0.value q m.0 y.value) f.2 m.3 in
    (f.0 ++ m.0, t.0, t.1, both r.0.value y.value f.0 m.0 f.3 more)

places_read : (levels bound : ℕ) (n : Identifier) → Reads (places_from levels (suc (suc (suc bound))) (allocated n None None)) (Placed levels n)
unfolding places_from
places_read levels bound n p ts y h = by (place_first ts) refl h
  where
    by : (o : Option (PlaceWord × Tokens)) → place_first ts ≡ o → placed_by levels (places_from levels (suc (suc bound))) (allocated n None None) p ts o None None ≡ Ok y → SpellsFront (Placed levels n) p ts y
    by None e g = subst (SpellsFront (Placed levels n) p ts) (same_ok g) ([], refl, omega arith, (refl, ([], [], refl, inl (refl, refl))))
    by (Some (InWord, us)) e g =
        parts_read levels p InWord n ts us e
        (λ r. places_from levels (suc (suc bound)) (allocated n (Some r.value) None) r.next r.rest)
        (AreaThen levels n)
        (λ r. area_read levels bound n r.value r.next r.rest) (λ r a front rest part more.
        let area = subst (SpellsOptional (codes "IN") (SpellsPlace levels) p front) (sym more.1) part in
        (more.0, (front, rest, refl, inl (area, more.2)))) y g
    by (Some (SetWord, us)) e g =
        parts_read levels p SetWord n ts us e
        (λ r. places_from levels (suc (suc bound)) (allocated n None (Some r.value)) r.next r.rest)
        (TargetThen levels n)
        (λ r. target_read levels bound n r.value r.next r.rest) (λ r a front rest part more.
        let target = subst (SpellsOptional (codes "SET") (SpellsPlace levels) p front) (sym more.1) part in
        (more.0, (front, rest, refl, inr (target, more.2)))) y g

pub allocation_reads : (levels : ℕ) → Reads (allocation_at levels) (SpellsAllocation levels)
unfolding allocation_at
allocation_reads levels p ts y h =
    let n = bind_ok (identifier_at p ts) _ y h in
    let i = identifier_reads p ts n.0 n.1 in
    let m = places_read levels 0 n.0.value n.0.next n.0.rest y n.2 in
    let t = two p n.0.next y.next ts n.0.rest y.rest i.0 m.0 i.1 i.2 m.1 m.2 in
    let named : i.0 ++ m.0 ≡ Word y.value.name.name ∷ m.0 = ap (λ vs. vs ++ m.0) i.3.0 ∙ ap (λ (v : Identifier). Word v.name ∷ m.0) (sym m.3.0) in
    let place : n.0.next ≡ p + 1 = i.2 ∙ ap (λ (vs : Tokens). p + length vs) i.3.0 in
    (i.0 ++ m.0, t.0, t.1, (m.0, named, ap (λ (v : Identifier). v.at) m.3.0 ∙ i.3.1, subst (λ q. SpellsPlaced levels q m.0 y.value.area y.value.target) place m.3.1))
