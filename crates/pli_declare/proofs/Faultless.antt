-- Where a unit has no faults, no declared name has one of its own.
use Rattle.std.proofs.Common.{◌≡◌, ◌≢◌, ℕ, zero, suc, ◌+◌, ◌<◌, ◌≤◌, ◌==◌, Bool, true, false, Option, Some, None, List, [], ◌∷◌, ◌++◌, map, length, get_or, refl, sym, ap, ◌∙◌, inl, inr, append_assoc, arith}
use Rattle.std.specs.List.{list_all}
use Rattle.std.proofs.lemmas.Bool.{cases_lt, eqb-true}
use Rattle.std.proofs.lemmas.Bool.Decides.{nat_tests}
use Rattle.std.proofs.lemmas.List.{append-nil}
use Rattle.pli_base.specs.declared.code.Code.{Code}
use Rattle.pli_base.specs.declared.code.Code.TheVariants.{BadLevel}
use Rattle.pli_base.specs.declared.token.Fault.{Fault}
use Rattle.pli_base.specs.Declarations.{DescribedAttribute}
use Rattle.pli_base.specs.Statements.{Heading}
use Rattle.pli_declare_outline.specs.Outlines.{Mark, Declared, Labelled, Entered, Used, Jumped, PlacedMark, Outline}
use Rattle.pli_declare_constructs.specs.Regions.{block_of}
use Rattle.pli_declare.specs.Tables.{Entity, AsItem, AsLabel, AsProcedure, Entry, no_entry, entries_of, entries_in, inner_marks, heading_entries, unit_entries}
use Rattle.pli_declare.specs.Faults.{result_fault, first_of, lesser}
use Rattle.pli_declare.proofs.LeastFaults.{no_lesser}
use Rattle.pli_declare.specs.Places.{own_code}
use Rattle.pli_declare.specs.Descriptions.{is_too_large_variable}
use Rattle.pli_declare.specs.Declarations.{returned_by, AreSound, IsGood, AreGood}
use Rattle.pli_declare.specs.Resolution.{at_token, least, described_is_good, returned_are, names_nothing, heading_code, parameters_of, entity_codes, item_code, codes_from, parameter_faults, used_faults, mark_faults, declared_by, faults_after, heading_faults, unit_faults, outline_faults}
use Rattle.pli_declare.proofs.MarkWalkLemmas.{how_many_declared, counted_elsewhere, counted_here}

-- lists that make an empty one are empty
both_empty : (xs ys : List Fault) → xs ++ ys ≡ [] → (xs ≡ []) × (ys ≡ [])
both_empty [] ys h = (refl, h)
both_empty (x ∷ xs) ys h = cc

no_code : (at : ℕ) (code : Option Code) → at_token at code ≡ [] → code ≡ None
no_code at None h = refl
no_code at (Some c) h = cc

-- the names of one mark
codes_none : (o : Outline) (block number : ℕ) (es : List Entry) → codes_from o block number es ≡ [] → (k : ℕ) → number ≤ k → k < number + length es → item_code o block k ≡ None
codes_none o block number [] h k low high = absurd (omega (arith, low, high))
codes_none o block number (e ∷ es) h k low high =
    let parts = both_empty (at_token e.identifier.at (item_code o block number)) (codes_from o block (number + 1) es) h in
    elim (cases_lt number k) [
      | inl later ↦ codes_none o block (number + 1) es parts.1 k (omega (arith, later)) (omega (arith, high))
      | inr here ↦ (let same : k ≡ number = omega (arith, here, low) in ap (item_code o block) same ∙ no_code e.identifier.at (item_code o block number) parts.0)
    ]

module _ (o : Outline) (before : List PlacedMark) (p : PlacedMark) where
  abbrev here : ℕ
  here = block_of o.regions p.region

  mark_none : mark_faults o (declared_by o here before) p ≡ [] → (k : ℕ) → declared_by o here before ≤ k → k < declared_by o here (before ++ p ∷ []) → item_code o here k ≡ None
  mark_none h k low high =
      let number = declared_by o here before in
      let es = entries_of number p.region p.mark in
      let codes = codes_from o here number es in
      let parts = both_empty (codes ++ parameter_faults o p.mark) (used_faults o p.region p.mark) h in
      codes_none o here number es (both_empty codes (parameter_faults o p.mark) parts.0).0 k low
      (omega (arith, high, counted_here o before p, how_many_declared number p.region p.mark))

  -- in whatever block
  marked_none : mark_faults o (declared_by o here before) p ≡ [] → (b k : ℕ) → declared_by o b before ≤ k → k < declared_by o b (before ++ p ∷ []) → item_code o b k ≡ None
  marked_none h b k low high = by (here == b) refl
    where
      by : (t : Bool) → (here == b) ≡ t → item_code o b k ≡ None
      by true e =
          let same : here ≡ b = eqb-true here b e in
          ap (λ c. item_code o c k) (sym same)
          ∙ mark_none h k (omega (arith, low, ap (λ c. declared_by o c before) same)) (omega (arith, high, ap (λ c. declared_by o c (before ++ p ∷ [])) same))
      by false e =
          let other : here ≢ b = λ same. grind (arith, nat_tests) in
          absurd (omega (arith, low, high, counted_elsewhere o before p b other))

-- the names of all marks
walked_none : (o : Outline) (b : ℕ) (before ps : List PlacedMark) → faults_after o before ps ≡ [] → (k : ℕ) → declared_by o b before ≤ k → k < declared_by o b (before ++ ps) → item_code o b k ≡ None
walked_none o b before [] h k low high = absurd (omega (arith, low, high, ap (declared_by o b) (append-nil before)))
walked_none o b before (p ∷ ps) h k low high =
    let parts = both_empty (mark_faults o (declared_by o (block_of o.regions p.region) before) p) (faults_after o (before ++ p ∷ []) ps) h in
    elim (cases_lt k (declared_by o b (before ++ p ∷ []))) [
      | inl now ↦ marked_none o before p parts.0 b k low now
      | inr later ↦ walked_none o b (before ++ p ∷ []) ps parts.1 k later (omega (arith, high, ap (declared_by o b) (append_assoc before (p ∷ []) ps)))
    ]

-- a heading without faults says what is returned
sound : (rs : List (List DescribedAttribute)) → least (map result_fault rs) ≡ None → AreSound rs
sound [] h = tt
sound (r ∷ rs) h = let parts = no_lesser (result_fault r) (least (map result_fault rs)) h in (parts.0, sound rs parts.1)

third_none : (a b c d : Option Code) → lesser a (lesser b (lesser c d)) ≡ None → c ≡ None
third_none a b c d h =
    (no_lesser c d (no_lesser b (lesser c d) (no_lesser a (lesser b (lesser c d)) h).1).1).0

heading_sound : (are_good : Bool) (heading : Heading) → heading_code are_good heading ≡ None → AreSound (returned_by heading.options)
heading_sound are_good heading h = sound (returned_by heading.options) (third_none _ _ (least (map result_fault (returned_by heading.options))) _ h)

good_level : (is_bad : Bool) → first_of ((is_bad, BadLevel) ∷ []) ≡ None → is_bad ≡ false
good_level true h = cc
good_level false h = refl

entity_good : (o : Outline) (b n : ℕ) (entries : List Entry) (code : Option Code) (is_too_large : Bool) (entity : Entity)
    → least (code ∷ entity_codes o b (own_code entries (parameters_of o b) n) is_too_large entity) ≡ None → IsGood entries (parameters_of o b) n entity
entity_good o b n entries code is_too_large (AsItem item is_bad) h =
    let own = no_lesser (own_code entries (parameters_of o b) n) _ (no_lesser code _ h).1 in
    (good_level is_bad (no_lesser (first_of ((is_bad, BadLevel) ∷ [])) _ own.1).0, own.0)
entity_good o b n entries code is_too_large (AsLabel region) h = tt
entity_good o b n entries code is_too_large (AsProcedure heading region) h =
    let are_good = returned_are (list_all (described_is_good o b)) heading in
    heading_sound are_good heading (no_lesser (heading_code are_good heading) None (no_lesser code (lesser (heading_code are_good heading) None) h).1).0

inner_none : (o : Outline) (ms : List PlacedMark) → outline_faults o ms ≡ [] → faults_after o [] (inner_marks ms) ≡ []
inner_none o [] h = refl
inner_none o (p ∷ ps) h = (both_empty (unit_faults o p) (faults_after o [] ps) h).1

-- what a block declares
pub block_good : (o : Outline) → outline_faults o o.marks ≡ [] → (b : ℕ) → AreGood (entries_in o b) (parameters_of o b)
block_good o h b n lt =
    entity_good o b n (entries_in o b) _ (is_too_large_variable (entries_in o b) (parameters_of o b) n) (get_or (entries_in o b) n no_entry).entity
    (walked_none o b [] (inner_marks o.marks) (inner_none o o.marks h) n (omega arith) lt)

heading_good : (mark : Mark) → heading_faults mark ≡ [] → AreGood (heading_entries mark) []
heading_good (Entered heading region) h zero lt =
    let are_good = returned_are (list_all names_nothing) heading in
    heading_sound are_good heading (no_code heading.name.at (heading_code are_good heading) h)
heading_good (Entered heading region) h (suc n) lt = absurd (omega (arith, lt))
heading_good (Declared items) h n lt = absurd (omega (arith, lt))
heading_good (Labelled label) h n lt = absurd (omega (arith, lt))
heading_good (Used names) h n lt = absurd (omega (arith, lt))
heading_good (Jumped label) h n lt = absurd (omega (arith, lt))

-- the unit's own name
pub unit_good : (o : Outline) (ms : List PlacedMark) → outline_faults o ms ≡ [] → AreGood (unit_entries ms) []
unit_good o [] h n lt = absurd (omega (arith, lt))
unit_good o (p ∷ ps) h n lt =
    heading_good p.mark (both_empty (heading_faults p.mark) (parameter_faults o p.mark) (both_empty (unit_faults o p) (faults_after o [] ps) h).0).0 n lt
