-- A label that a block declares is that of a statement, and so is the number that is found by its token.
use Rattle.std.proofs.Common.{◌≡◌, ℕ, zero, suc, ◌<◌, nat_eq, Bool, true, false, if◌then◌else◌, Option, Some, None, List, [], ◌∷◌, length, get_or, Contains, refl, sym, ap, ◌∙◌, subst, arith}
use Rattle.std.specs.List.{flat_map}
use Rattle.std.proofs.lemmas.Bool.{eqb-true, eq-eqb}
use Rattle.pli_base.specs.Statements.{ExternalProcedure}
use Rattle.pli_base.specs.declared.syntax.Identifier.{Identifier}
use Rattle.pli_declare_outline.specs.Outlines.{Mark, Declared, Labelled, Entered, Used, Jumped, PlacedMark, outline_of}
use Rattle.pli_declare.specs.Tables.{AsLabel, Entry, no_entry, entries_of, heading_entries, unit_entries}
use Rattle.pli_declare_outline.specs.StatementPlaces.{unit_places}
use Rattle.pli_declare.specs.Symbols.{found_after}
use Rattle.pli_declare.specs.ResolvedUnits.{label_statement}
use Rattle.pli_resolve.specs.laws.UseLaws.{IsLabelledAt}
use Rattle.pli_declare_outline.specs.declared.statement_places.StatementPlace.{StatementPlace}
use Rattle.pli_resolve.proofs.LookUps.{found_then}
use Rattle.pli_resolve.proofs.MarksStand.{IsLabelOf, marks_stand}
use Rattle.pli_resolve.proofs.MeantNames.{entries_at}
use Rattle.pli_resolve.proofs.NamesOfMarks.{mark_of, only_labelled}

-- the number that is found

labelled_so : (found : Option ℕ) (at : ℕ) (q : StatementPlace) (l : Option Identifier) → q.label ≡ l
    → found_after found (label_statement q) at ≡ found_after found (label_statement (record { number = q.number; region = q.region; label = l })) at
labelled_so found at q l e = ap (λ (l : Option Identifier). found_after found (label_statement (record { number = q.number; region = q.region; label = l })) at) e

-- all labels at a token are those of statements of one number
abbrev AreAlike : (number at : ℕ) → List StatementPlace → Type 0
AreAlike n at qs = (k : ℕ) (q : StatementPlace) → k < length qs → get_or qs k q ≡ q → IsLabelledAt at q.label → q.number ≡ n

one_more : (n at : ℕ) (found : Option ℕ) (q : StatementPlace) → found ≡ Some n → (IsLabelledAt at q.label → q.number ≡ n) → found_after found (label_statement q) at ≡ Some n
one_more n at found q f same = by q.label refl
  where
    two : (l : Identifier) → q.label ≡ Some l → (b : Bool) → nat_eq l.at at ≡ b → (if b then Some q.number else found) ≡ Some n
    two l e true t = ap Some (same (subst (IsLabelledAt at) (sym e) (eqb-true l.at at t)))
    two l e false t = f

    by : (l : Option Identifier) → q.label ≡ l → found_after found (label_statement q) at ≡ Some n
    by None e = labelled_so found at q None e ∙ f
    by (Some l) e = labelled_so found at q (Some l) e ∙ two l e (nat_eq l.at at) refl

stays : (n at : ℕ) (found : Option ℕ) (qs : List StatementPlace) → found ≡ Some n → AreAlike n at qs → found_after found (flat_map label_statement qs) at ≡ Some n
stays n at found [] f same = f
stays n at found (q ∷ qs) f same =
    found_then found (label_statement q) (flat_map label_statement qs) at
    ∙ stays n at (found_after found (label_statement q) at) qs (one_more n at found q f (same 0 q (omega arith) refl))
    (λ k p lt is l. same (suc k) p (omega (arith, lt)) is l)

pub label_found : (found : Option ℕ) (qs : List StatementPlace) (k : ℕ) (p : StatementPlace) (i : Identifier) → k < length qs → get_or qs k p ≡ p → p.label ≡ Some i
    → AreAlike p.number i.at qs → found_after found (flat_map label_statement qs) i.at ≡ Some p.number
label_found found [] k p i lt is e same = absurd (omega (arith, lt))
label_found found (q ∷ qs) zero p i lt is e same =
    let here : found_after found (label_statement q) i.at ≡ Some p.number =
    ap (λ (x : StatementPlace). found_after found (label_statement x) i.at) is ∙ labelled_so found i.at p (Some i) e
    ∙ ap (λ (b : Bool). if b then Some p.number else found) (eq-eqb i.at i.at refl) in
    found_then found (label_statement q) (flat_map label_statement qs) i.at
    ∙ stays p.number i.at (found_after found (label_statement q) i.at) qs here (λ j r low f l. same (suc j) r (omega (arith, low)) f l)
label_found found (q ∷ qs) (suc k) p i lt is e same =
    found_then found (label_statement q) (flat_map label_statement qs) i.at
    ∙ label_found (found_after found (label_statement q) i.at) qs k p i (omega (arith, lt)) is e (λ j r low f l. same (suc j) r (omega (arith, low)) f l)

-- the statement of a label

heading_labels : (m : Mark) (n inner : ℕ) → n < length (heading_entries m) → (get_or (heading_entries m) n no_entry).entity ≡ AsLabel inner → ⊥
heading_labels (Entered heading region) zero inner lt e = cc
heading_labels (Entered heading region) (suc n) inner lt e = omega (arith, lt)
heading_labels (Declared items) n inner lt e = omega (arith, lt)
heading_labels (Labelled label) n inner lt e = omega (arith, lt)
heading_labels (Used names) n inner lt e = omega (arith, lt)
heading_labels (Jumped label) n inner lt e = omega (arith, lt)

unit_labels : (ps : List PlacedMark) (n inner : ℕ) → n < length (unit_entries ps) → (get_or (unit_entries ps) n no_entry).entity ≡ AsLabel inner → ⊥
unit_labels [] n inner lt e = omega (arith, lt)
unit_labels (p ∷ ps) n inner lt e = heading_labels p.mark n inner lt e

pub label_place : (u : ExternalProcedure) (region : Option ℕ) (n inner : ℕ) → n < length (entries_at (outline_of u) region)
    → (get_or (entries_at (outline_of u) region) n no_entry).entity ≡ AsLabel inner
    → (q : StatementPlace) × Contains (unit_places u) q × (q.region ≡ inner) × (q.label ≡ Some (get_or (entries_at (outline_of u) region) n no_entry).identifier)
label_place u None n inner lt e = absurd (unit_labels (outline_of u).marks n inner lt e)
label_place u (Some b) n inner lt e =
    let m = mark_of (outline_of u) b n lt in
    let l = only_labelled m.base m.placed.region m.placed.mark m.number inner m.within (ap (λ (x : Entry). x.entity) m.same ∙ e) in
    let s = marks_stand u m.placed m.stands in
    let label : IsLabelOf s.place.label (Labelled (get_or (entries_of m.base m.placed.region m.placed.mark) m.number no_entry).identifier) =
    subst (IsLabelOf s.place.label) l.0 s.label in
    (s.place, s.stands, s.region ∙ l.1, label ∙ ap (λ (x : Entry). Some x.identifier) m.same)
