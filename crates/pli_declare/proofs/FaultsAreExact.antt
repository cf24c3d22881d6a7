-- A fault is answered exactly where a name, a parameter, a reference or a label has it.
use Rattle.std.proofs.Common.{◌≡◌, ◌≢◌, ℕ, zero, suc, ◌+◌, ◌-◌, ◌<◌, ◌≤◌, ◌==◌, ◌⊎◌, inl, inr, Bool, true, false, Option, Some, None, List, [], ◌∷◌, ◌++◌, map, length, get_or, take, if◌then◌else◌, refl, sym, ap, subst, ◌∙◌, append_assoc, length-append, arith}
use Rattle.std.specs.List.{Contains}
use Rattle.std.proofs.lemmas.Bool.{cases_lt, eqb-true, eq-eqb}
use Rattle.std.proofs.lemmas.Bool.Decides.{nat_tests}
use Rattle.std.proofs.lemmas.List.{append-nil, get_or_append_left, get_or-append-add}
use Rattle.std.proofs.lemmas.List.Elements.{Contains-append_left, Contains-append_right, Contains-append_cases}
use Rattle.pli_base.specs.Name.{Name}
use Rattle.pli_base.specs.declared.code.Code.{Code}
use Rattle.pli_base.specs.declared.syntax.Identifier.{Identifier}
use Rattle.pli_base.specs.declared.token.Fault.{Fault}
use Rattle.pli_declare_outline.specs.Outlines.{Region, Mark, Declared, Labelled, Entered, Used, Jumped, PlacedMark, Outline, outline_of}
use Rattle.pli_declare_constructs.specs.Regions.{block_of}
use Rattle.pli_declare.specs.Tables.{Entry, no_entry, entries_of, entries_after, entries_in, inner_marks}
use Rattle.pli_declare.specs.Resolution.{at_token, item_code, codes_from, parameter_code, parameter_codes, parameter_faults, used_faults, mark_faults, declared_by, faults_after, heading_faults, unit_faults, outline_faults, resolution_faults}
use Rattle.pli_declare.specs.laws.FaultLaws.{AtName, no_identifier, HasParameter, AtParameter, HasUse, AtUse, HasHeading, AtUnit, FaultsAreLeastCodes}
use Rattle.pli_declare.proofs.MarkWalkLemmas.{how_many_declared, entries_both, entries_grow, counted_elsewhere, counted_here}

-- a code at a token

token_to : (at : ℕ) (code : Option Code) (f : Fault) → Contains (at_token at code) f → (at ≡ f.at) × (code ≡ Some f.code)
token_to at None f h = absurd (omega (arith, h.1))
token_to at (Some code) f h =
    let first : h.0 ≡ 0 = omega (arith, h.1) in
    let x : Fault = record { code = code; at = at } in
    let same : x ≡ f = sym (ap (λ n. get_or (x ∷ []) n f) first) ∙ h.2 in
    (ap (λ (g : Fault). g.at) same, ap (λ (g : Fault). Some g.code) same)

token_from : (at : ℕ) (code : Option Code) (f : Fault) → at ≡ f.at → code ≡ Some f.code → Contains (at_token at code) f
token_from at None f p q = cc
token_from at (Some code) f p q =
    let inner : code ≡ f.code = cc in
    let same : record { code = code; at = at } ≡ f = λ k. record { code = inner k; at = p k } in
    (0, omega arith, same)

-- what a block declares stands where it stood

entries_keep : (regions : List Region) (b : ℕ) (es : List Entry) (ps : List PlacedMark) (n : ℕ) → n < length es → get_or (entries_after regions b es ps) n no_entry ≡ get_or es n no_entry
entries_keep regions b es [] n lt = refl
entries_keep regions b es (p ∷ ps) n lt =
    let new = if block_of regions p.region == b then entries_of (length es) p.region p.mark else [] in
    entries_keep regions b (es ++ new) ps n (omega (arith, lt, length-append es new)) ∙ get_or_append_left es new no_entry n lt

module _ (o : Outline) (before : List PlacedMark) (p : PlacedMark) (rest : List PlacedMark) (all : inner_marks o.marks ≡ before ++ p ∷ rest) where
  abbrev its_block : ℕ
  its_block = block_of o.regions p.region

  abbrev so_far : List Entry
  so_far = entries_after o.regions its_block [] before

  abbrev new : List Entry
  new = entries_of (length so_far) p.region p.mark

  whole : entries_in o its_block ≡ entries_after o.regions its_block (so_far ++ new) rest
  whole =
      ap (entries_after o.regions its_block []) all ∙ entries_both o.regions its_block [] before (p ∷ rest)
      ∙ ap (λ t. entries_after o.regions its_block (so_far ++ (if t then new else [])) rest) (eq-eqb its_block its_block refl)

  name_at : (k : ℕ) → k < length new → get_or (entries_in o its_block) (length so_far + k) no_entry ≡ get_or new k no_entry
  name_at k lt =
      ap (λ es. get_or es (length so_far + k) no_entry) whole
      ∙ entries_keep o.regions its_block (so_far ++ new) rest (length so_far + k) (omega (arith, lt, length-append so_far new))
      ∙ get_or-append-add so_far new k no_entry

  name_within : (k : ℕ) → k < length new → length so_far + k < length (entries_in o its_block)
  name_within k lt = omega (arith, lt, ap length whole, length-append so_far new, entries_grow o.regions its_block (so_far ++ new) rest)

module _ (o : Outline) (f : Fault) where
  -- the names of one mark

  names_to : (block number : ℕ) (es : List Entry) → Contains (codes_from o block number es) f
      → (k : ℕ) × (k < length es) × ((get_or es k no_entry).identifier.at ≡ f.at) × (item_code o block (number + k) ≡ Some f.code)
  names_to block number [] h = absurd (omega (arith, h.1))
  names_to block number (e ∷ es) h = elim (Contains-append_cases (at_token e.identifier.at (item_code o block number)) (codes_from o block (number + 1) es) f h) [
    | inl now ↦
        let t = token_to e.identifier.at (item_code o block number) f now in
        let same : number + 0 ≡ number = omega arith in
        (0, omega arith, t.0, ap (item_code o block) same ∙ t.1)
    | inr later ↦
        let m = names_to block (number + 1) es later in
        let same : number + suc m.0 ≡ number + 1 + m.0 = omega arith in
        (suc m.0, omega (arith, m.1), m.2, ap (item_code o block) same ∙ m.3)
  ]

  names_from : (block number : ℕ) (es : List Entry) (k : ℕ) → k < length es → (get_or es k no_entry).identifier.at ≡ f.at → item_code o block (number + k) ≡ Some f.code
      → Contains (codes_from o block number es) f
  names_from block number [] k lt a c = absurd (omega arith)
  names_from block number (e ∷ es) zero lt a c =
      let same : number ≡ number + 0 = omega arith in
      Contains-append_left (at_token e.identifier.at (item_code o block number)) (codes_from o block (number + 1) es) f
      (token_from e.identifier.at (item_code o block number) f a (ap (item_code o block) same ∙ c))
  names_from block number (e ∷ es) (suc k) lt a c =
      let same : number + 1 + k ≡ number + suc k = omega arith in
      Contains-append_right (at_token e.identifier.at (item_code o block number)) (codes_from o block (number + 1) es) f
      (names_from block (number + 1) es k (omega arith) a (ap (item_code o block) same ∙ c))

  -- parameters

  abbrev names_before : ℕ → List Identifier → List Name
  names_before n ps = map (λ i. i.name) (take n ps)

  parameters_to : (block : ℕ) (done : List Name) (ps : List Identifier) → Contains (parameter_codes o block done ps) f
      → (n : ℕ) × (n < length ps) × ((get_or ps n no_identifier).at ≡ f.at) × (parameter_code o block (done ++ names_before n ps) (get_or ps n no_identifier).name ≡ Some f.code)
  parameters_to block done [] h = absurd (omega (arith, h.1))
  parameters_to block done (p ∷ ps) h = elim (Contains-append_cases (at_token p.at (parameter_code o block done p.name)) (parameter_codes o block (done ++ p.name ∷ []) ps) f h) [
    | inl now ↦
        let t = token_to p.at (parameter_code o block done p.name) f now in
        (0, omega arith, t.0, ap (λ ns. parameter_code o block ns p.name) (append-nil done) ∙ t.1)
    | inr later ↦
        let m = parameters_to block (done ++ p.name ∷ []) ps later in
        (suc m.0, omega (arith, m.1), m.2, ap (λ ns. parameter_code o block ns (get_or ps m.0 no_identifier).name) (sym (append_assoc done (p.name ∷ []) (names_before m.0 ps))) ∙ m.3)
  ]

  parameters_from : (block : ℕ) (done : List Name) (ps : List Identifier) (n : ℕ) → n < length ps → (get_or ps n no_identifier).at ≡ f.at
      → parameter_code o block (done ++ names_before n ps) (get_or ps n no_identifier).name ≡ Some f.code → Contains (parameter_codes o block done ps) f
  parameters_from block done [] n lt a c = absurd (omega arith)
  parameters_from block done (p ∷ ps) zero lt a c =
      Contains-append_left (at_token p.at (parameter_code o block done p.name)) (parameter_codes o block (done ++ p.name ∷ []) ps) f
      (token_from p.at (parameter_code o block done p.name) f a (ap (λ ns. parameter_code o block ns p.name) (sym (append-nil done)) ∙ c))
  parameters_from block done (p ∷ ps) (suc n) lt a c =
      Contains-append_right (at_token p.at (parameter_code o block done p.name)) (parameter_codes o block (done ++ p.name ∷ []) ps) f
      (parameters_from block (done ++ p.name ∷ []) ps n (omega arith) a
      (ap (λ ns. parameter_code o block ns (get_or ps n no_identifier).name) (append_assoc done (p.name ∷ []) (names_before n ps)) ∙ c))

  parameter_to : (mark : Mark) → Contains (parameter_faults o mark) f → (n : ℕ) × HasParameter o mark n f
  parameter_to (Entered heading region) h = let m = parameters_to region [] heading.parameters h in (m.0, (m.1, m.2, m.3))
  parameter_to (Declared items) h = absurd (omega (arith, h.1))
  parameter_to (Labelled label) h = absurd (omega (arith, h.1))
  parameter_to (Used names) h = absurd (omega (arith, h.1))
  parameter_to (Jumped label) h = absurd (omega (arith, h.1))

  parameter_from : (mark : Mark) (n : ℕ) → HasParameter o mark n f → Contains (parameter_faults o mark) f
  parameter_from (Entered heading region) n h = parameters_from region [] heading.parameters n h.0 h.1 h.2
  parameter_from (Declared items) n h = absurd h
  parameter_from (Labelled label) n h = absurd h
  parameter_from (Used names) n h = absurd h
  parameter_from (Jumped label) n h = absurd h

  -- references and labels

  used_to : (here : ℕ) (mark : Mark) → Contains (used_faults o here mark) f → HasUse o here mark f
  used_to here (Used []) h = absurd (omega (arith, h.1))
  used_to here (Used (i ∷ is)) h = token_to i.at _ f h
  used_to here (Jumped label) h = token_to label.at _ f h
  used_to here (Declared items) h = absurd (omega (arith, h.1))
  used_to here (Labelled label) h = absurd (omega (arith, h.1))
  used_to here (Entered heading region) h = absurd (omega (arith, h.1))

  used_from : (here : ℕ) (mark : Mark) → HasUse o here mark f → Contains (used_faults o here mark) f
  used_from here (Used []) h = absurd h
  used_from here (Used (i ∷ is)) h = token_from i.at _ f h.0 h.1
  used_from here (Jumped label) h = token_from label.at _ f h.0 h.1
  used_from here (Declared items) h = absurd h
  used_from here (Labelled label) h = absurd h
  used_from here (Entered heading region) h = absurd h

  -- the unit's own name

  heading_to : (mark : Mark) → Contains (heading_faults mark) f → HasHeading mark f
  heading_to (Entered heading region) h = token_to heading.name.at _ f h
  heading_to (Declared items) h = absurd (omega (arith, h.1))
  heading_to (Labelled label) h = absurd (omega (arith, h.1))
  heading_to (Used names) h = absurd (omega (arith, h.1))
  heading_to (Jumped label) h = absurd (omega (arith, h.1))

  heading_from : (mark : Mark) → HasHeading mark f → Contains (heading_faults mark) f
  heading_from (Entered heading region) h = token_from heading.name.at _ f h.0 h.1
  heading_from (Declared items) h = absurd h
  heading_from (Labelled label) h = absurd h
  heading_from (Used names) h = absurd h
  heading_from (Jumped label) h = absurd h

  -- all marks but the first

  abbrev Inner : Type 0
  Inner = AtName o f ⊎ AtParameter o f ⊎ AtUse o f

  inner_in : (ms : List PlacedMark) (p : PlacedMark) → Contains (inner_marks ms) p → Contains ms p
  inner_in [] p h = absurd (omega (arith, h.1))
  inner_in (q ∷ qs) p h = Contains-append_right (q ∷ []) qs p h

  mark_to : (before : List PlacedMark) (p : PlacedMark) (rest : List PlacedMark) → inner_marks o.marks ≡ before ++ p ∷ rest
      → Contains (mark_faults o (declared_by o (block_of o.regions p.region) before) p) f → Inner
  mark_to before p rest all h =
      let block = block_of o.regions p.region in
      let number = declared_by o block before in
      let es = entries_of number p.region p.mark in
      let names = codes_from o block number es in
      let in_inner : Contains (inner_marks o.marks) p = subst (λ ms. Contains ms p) (sym all) (Contains-append_right before (p ∷ rest) p (0, omega arith, refl)) in
      elim (Contains-append_cases (names ++ parameter_faults o p.mark) (used_faults o p.region p.mark) f h) [
        | inl front ↦ elim (Contains-append_cases names (parameter_faults o p.mark) f front) [
          | inl named ↦
              let m = names_to block number es named in
              inl (record {
                block = block;
                number = number + m.0;
                within = name_within o before p rest all m.0 m.1;
                at = ap (λ (e : Entry). e.identifier.at) (name_at o before p rest all m.0 m.1) ∙ m.2;
                code = m.3;
              })
          | inr parameter ↦ let m = parameter_to p.mark parameter in inr (inl (record { placed = p; stands = inner_in o.marks p in_inner; number = m.0; has = m.1 }))
        ]
        | inr used ↦ inr (inr (record { placed = p; stands = in_inner; has = used_to p.region p.mark used }))
      ]

  walk_to : (before ps : List PlacedMark) → inner_marks o.marks ≡ before ++ ps → Contains (faults_after o before ps) f → Inner
  walk_to before [] all h = absurd (omega (arith, h.1))
  walk_to before (p ∷ ps) all h = elim (Contains-append_cases (mark_faults o (declared_by o (block_of o.regions p.region) before) p) (faults_after o (before ++ p ∷ []) ps) f h) [
    | inl now ↦ mark_to before p ps all now
    | inr later ↦ walk_to (before ++ p ∷ []) ps (all ∙ sym (append_assoc before (p ∷ []) ps)) later
  ]

  module _ (before : List PlacedMark) (p : PlacedMark) (rest : List PlacedMark) (all : inner_marks o.marks ≡ before ++ p ∷ rest) where
    abbrev block : ℕ
    block = block_of o.regions p.region

    abbrev number : ℕ
    number = declared_by o block before

    abbrev es : List Entry
    es = entries_of number p.region p.mark

    named_there : (k : ℕ) → k < length es → (get_or (entries_in o block) (number + k) no_entry).identifier.at ≡ f.at → item_code o block (number + k) ≡ Some f.code
        → Contains (mark_faults o number p) f
    named_there k lt a c =
        Contains-append_left (codes_from o block number es ++ parameter_faults o p.mark) (used_faults o p.region p.mark) f
        (Contains-append_left (codes_from o block number es) (parameter_faults o p.mark) f
        (names_from block number es k lt (sym (ap (λ (e : Entry). e.identifier.at) (name_at o before p rest all k lt)) ∙ a) c))

    mark_from : (b n : ℕ) → declared_by o b before ≤ n → n < declared_by o b (before ++ p ∷ []) → (get_or (entries_in o b) n no_entry).identifier.at ≡ f.at
        → item_code o b n ≡ Some f.code → Contains (mark_faults o number p) f
    mark_from b n low high a c = by (block == b) refl
      where
        by : (t : Bool) → (block == b) ≡ t → Contains (mark_faults o number p) f
        by true e =
            let same : b ≡ block = sym (eqb-true block b e) in
            let least : number ≤ n = omega (arith, low, ap (λ c. declared_by o c before) same) in
            let less : n < number + length es = omega (arith, high, ap (λ c. declared_by o c (before ++ p ∷ [])) same, counted_here o before p, how_many_declared number p.region p.mark) in
            let at : n ≡ number + (n - number) = omega (arith, least) in
            named_there (n - number) (omega (arith, less, least))
            (sym (ap (λ c. (get_or (entries_in o c) n no_entry).identifier.at) same ∙ ap (λ m. (get_or (entries_in o block) m no_entry).identifier.at) at) ∙ a)
            (sym (ap (λ c. item_code o c n) same ∙ ap (item_code o block) at) ∙ c)
        by false e =
            let other : block ≢ b = λ same. grind (arith, nat_tests) in
            absurd (omega (arith, low, high, counted_elsewhere o before p b other))

  name_from : (b n : ℕ) → (get_or (entries_in o b) n no_entry).identifier.at ≡ f.at → item_code o b n ≡ Some f.code
      → (before ps : List PlacedMark) → inner_marks o.marks ≡ before ++ ps → declared_by o b before ≤ n → n < declared_by o b (before ++ ps) → Contains (faults_after o before ps) f
  name_from b n a c before [] all low high = absurd (omega (arith, low, high, ap (declared_by o b) (append-nil before)))
  name_from b n a c before (p ∷ ps) all low high =
      let now = mark_faults o (declared_by o (block_of o.regions p.region) before) p in
      let later = faults_after o (before ++ p ∷ []) ps in
      elim (cases_lt n (declared_by o b (before ++ p ∷ []))) [
        | inl less ↦ Contains-append_left now later f (mark_from before p ps all b n low less a c)
        | inr more ↦ Contains-append_right now later f
            (name_from b n a c (before ++ p ∷ []) ps (all ∙ sym (append_assoc before (p ∷ []) ps)) more (omega (arith, high, ap (declared_by o b) (append_assoc before (p ∷ []) ps))))
      ]

  -- a fault that a mark has whatever the number of its first name
  part_at : (before ps : List PlacedMark) (p : PlacedMark) (i : ℕ) → i < length ps → get_or ps i p ≡ p → ((number : ℕ) → Contains (mark_faults o number p) f) → Contains (faults_after o before ps) f
  part_at before [] p i lt is h = absurd (omega arith)
  part_at before (q ∷ qs) p zero lt is h =
      let number = declared_by o (block_of o.regions q.region) before in
      Contains-append_left (mark_faults o number q) (faults_after o (before ++ q ∷ []) qs) f (subst (λ r. Contains (mark_faults o number r) f) (sym is) (h number))
  part_at before (q ∷ qs) p (suc i) lt is h =
      let number = declared_by o (block_of o.regions q.region) before in
      Contains-append_right (mark_faults o number q) (faults_after o (before ++ q ∷ []) qs) f (part_at (before ++ q ∷ []) qs p i (omega arith) is h)

  has_parameter : (p : PlacedMark) (n : ℕ) → HasParameter o p.mark n f → (number : ℕ) → Contains (mark_faults o number p) f
  has_parameter p n h number =
      let names = codes_from o (block_of o.regions p.region) number (entries_of number p.region p.mark) in
      Contains-append_left (names ++ parameter_faults o p.mark) (used_faults o p.region p.mark) f (Contains-append_right names (parameter_faults o p.mark) f (parameter_from p.mark n h))

  has_use : (p : PlacedMark) → HasUse o p.region p.mark f → (number : ℕ) → Contains (mark_faults o number p) f
  has_use p h number =
      let names = codes_from o (block_of o.regions p.region) number (entries_of number p.region p.mark) in
      Contains-append_right (names ++ parameter_faults o p.mark) (used_faults o p.region p.mark) f (used_from p.region p.mark h)

  -- all marks

  to : (ms : List PlacedMark) → o.marks ≡ ms → Contains (outline_faults o ms) f → AtUnit ms f ⊎ Inner
  to [] all h = absurd (omega (arith, h.1))
  to (p ∷ ps) all h =
      let in_marks : Contains o.marks p = subst (λ ms. Contains ms p) (sym all) (0, omega arith, refl) in
      elim (Contains-append_cases (unit_faults o p) (faults_after o [] ps) f h) [
        | inl unit ↦ elim (Contains-append_cases (heading_faults p.mark) (parameter_faults o p.mark) f unit) [
          | inl heading ↦ inl (heading_to p.mark heading)
          | inr parameter ↦ let m = parameter_to p.mark parameter in inr (inr (inl (record { placed = p; stands = in_marks; number = m.0; has = m.1 })))
        ]
        | inr inner ↦ inr (walk_to [] ps (ap inner_marks all) inner)
      ]

  parameter_there : (ms : List PlacedMark) (p : PlacedMark) (i n : ℕ) → i < length ms → get_or ms i p ≡ p → HasParameter o p.mark n f → Contains (outline_faults o ms) f
  parameter_there [] p i n lt is h = absurd (omega arith)
  parameter_there (q ∷ qs) p zero n lt is h =
      Contains-append_left (unit_faults o q) (faults_after o [] qs) f
      (Contains-append_right (heading_faults q.mark) (parameter_faults o q.mark) f (parameter_from q.mark n (subst (λ r. HasParameter o r.mark n f) (sym is) h)))
  parameter_there (q ∷ qs) p (suc i) n lt is h = Contains-append_right (unit_faults o q) (faults_after o [] qs) f (part_at [] qs p i (omega arith) is (has_parameter p n h))

  unit_there : (ms : List PlacedMark) → AtUnit ms f → Contains (outline_faults o ms) f
  unit_there [] h = absurd h
  unit_there (p ∷ ps) h =
      Contains-append_left (unit_faults o p) (faults_after o [] ps) f (Contains-append_left (heading_faults p.mark) (parameter_faults o p.mark) f (heading_from p.mark h))

  inner_there : (ms : List PlacedMark) → Contains (faults_after o [] (inner_marks ms)) f → Contains (outline_faults o ms) f
  inner_there [] h = absurd (omega (arith, h.1))
  inner_there (p ∷ ps) h = Contains-append_right (unit_faults o p) (faults_after o [] ps) f h

  from : AtUnit o.marks f ⊎ Inner → Contains (outline_faults o o.marks) f
  from h = elim h [
    | inl unit ↦ unit_there o.marks unit
    | inr s ↦ elim s [
      | inl name ↦ inner_there o.marks (name_from name.block name.number name.at name.code [] (inner_marks o.marks) refl (omega arith) name.within)
      | inr t ↦ elim t [
        | inl parameter ↦ parameter_there o.marks parameter.placed parameter.stands.0 parameter.number parameter.stands.1 parameter.stands.2 parameter.has
        | inr used ↦ inner_there o.marks (part_at [] (inner_marks o.marks) used.placed used.stands.0 used.stands.1 used.stands.2 (has_use used.placed used.has))
      ]
    ]
  ]

pub faults_are_least_codes : FaultsAreLeastCodes
unfolding resolution_faults
faults_are_least_codes u f = (to (outline_of u) f (outline_of u).marks refl, from (outline_of u) f)
