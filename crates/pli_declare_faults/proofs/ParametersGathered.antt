-- The parameters of blocks, by the marks so far and one more.
use Rattle.std.proofs.Common.{◌≡◌, ℕ, ◌+◌, ◌<◌, ◌≤◌, Bool, true, false, List, [], ◌∷◌, ◌++◌, map, length, get_or, set, take, refl, sym, ap, ◌∙◌, zero-add, Vec, Global, nat_lt as ltb, zero, suc, arith}
use Rattle.std.proofs.lemmas.Bool.{ltb-true}
use Rattle.std.proofs.lemmas.Bool.Decides.{nat_tests}
use Rattle.std.proofs.lemmas.List.{take_more, map-append, map-set, get_or-map, set_past, append-nil}
use Rattle.std.proofs.lemmas.Grind.{flat_map-append}
use Rattle.pli_base.specs.Name.{Name}
use Rattle.pli_base.specs.Statements.{Heading}
use Rattle.pli_declare_outline.specs.Outlines.{Entered, PlacedMark}
use Rattle.pli_declare_outline.specs.views.OutlineView.{placed_view, marks_view}
use Rattle.pli_declare_outline.specs.declared.region.PlacedMark as written
use Rattle.pli_declare.specs.Tables.{numbers_from}
use Rattle.pli_declare.specs.Resolution.{headed}
use Rattle.pli_declare_faults.proofs.NumberLists.{number_at, length_of_numbers, same_of_numbers, set_of_numbers}
use Rattle.pli_declare.proofs.ParametersOfBlocks.{gathered, headed_elsewhere, headed_here}

-- one more mark is passed
pub marks_more : (marks : List written.PlacedMark) (n : ℕ) (x : written.PlacedMark) → n < length marks → x ≡ get_or marks n x
    → marks_view (take (n + 1) marks) ≡ marks_view (take n marks) ++ placed_view x ∷ []
marks_more marks n x lt read =
    ap marks_view (take_more marks n x lt) ∙ map-append placed_view (take n marks) (get_or marks n x ∷ [])
    ∙ ap (λ (y : written.PlacedMark). marks_view (take n marks) ++ placed_view y ∷ []) (sym read)

-- the same of a walk over them
pub marks_reached : (marks xs : List written.PlacedMark) (n : ℕ) (x : written.PlacedMark) → xs ≡ marks → n < length xs
    → x ≡ get_or xs n x → marks_view (take (n + 1) marks) ≡ marks_view (take n marks) ++ placed_view x ∷ []
marks_reached marks xs n x same lt read =
    marks_more marks n x (omega (arith, lt, ap length same)) (read ∙ ap (λ ms. get_or ms n x) same)

pub gathered_more : (marks : List PlacedMark) (p : PlacedMark) (b : ℕ) → gathered (marks ++ p ∷ []) b ≡ gathered marks b ++ headed b p.mark
gathered_more marks p b =
    flat_map-append (λ (q : PlacedMark). headed b q.mark) marks (p ∷ []) ∙ ap (λ ns. gathered marks b ++ ns) (append-nil (headed b p.mark))

-- a mark that heads none of the blocks
pub none_gathered : (count : ℕ) (marks : List PlacedMark) (p : PlacedMark) (lists : List (List Name)) → ((b : ℕ) → b < count → headed b p.mark ≡ [])
    → lists ≡ map (gathered marks) (numbers_from 0 count) → lists ≡ map (gathered (marks ++ p ∷ [])) (numbers_from 0 count)
none_gathered count marks p lists none so_far =
    so_far
    ∙ same_of_numbers (gathered marks) (gathered (marks ++ p ∷ [])) 0 count
    (λ b low high. sym (gathered_more marks p b ∙ ap (λ ns. gathered marks b ++ ns) (none b (omega arith)) ∙ append-nil (gathered marks b)))

-- a procedure
pub some_gathered : (count : ℕ) (marks : List PlacedMark) (at : ℕ) (heading : Heading) (region : ℕ) (lists next : List (List Name)) (before : List Name) → region < length lists
    → before ≡ get_or lists region before → next ≡ set lists region (before ++ map (λ i. i.name) heading.parameters)
    → lists ≡ map (gathered marks) (numbers_from 0 count) → next ≡ map (gathered (marks ++ record { region = at; mark = Entered heading region } ∷ [])) (numbers_from 0 count)
some_gathered count marks at heading region lists next before lt read changed so_far =
    let p : PlacedMark = record { region = at; mark = Entered heading region } in
    let within : region < count = omega (arith, ap length so_far, length_of_numbers (gathered marks) 0 count) in
    let there : before ≡ gathered marks region =
    read ∙ ap (λ ls. get_or ls region before) so_far ∙ number_at (gathered marks) 0 count region before within ∙ ap (gathered marks) (zero-add region) in
    let one : before ++ map (λ i. i.name) heading.parameters ≡ gathered (marks ++ p ∷ []) (0 + region) =
    ap (λ ns. ns ++ map (λ i. i.name) heading.parameters) there ∙ ap (λ ns. gathered marks region ++ ns) (sym (headed_here heading region))
    ∙ sym (gathered_more marks p region) ∙ ap (gathered (marks ++ p ∷ [])) (sym (zero-add region)) in
    changed ∙ ap (λ ls. set ls region (before ++ map (λ i. i.name) heading.parameters)) so_far
    ∙ ap (set (map (gathered marks) (numbers_from 0 count)) region) one
    ∙ set_of_numbers (gathered marks) (gathered (marks ++ p ∷ [])) 0 count region within
    (λ b other. sym (gathered_more marks p b ∙ ap (λ ns. gathered marks b ++ ns) (headed_elsewhere heading region b (λ e. other (sym e ∙ sym (zero-add region)))) ∙ append-nil (gathered marks b)))

get_or_same : (lists : List (List Name)) (n : ℕ) → n < length lists → get_or lists n [] ≡ get_or lists n (get_or lists n [])
get_or_same [] n h = absurd (omega arith)
get_or_same (x ∷ xs) zero h = refl
get_or_same (x ∷ xs) (suc n) h = get_or_same xs n (omega arith)

-- a procedure, at whatever region
pub entered_gathered : (count : ℕ) (marks : List PlacedMark) (at : ℕ) (heading : Heading) (region : ℕ) (lists next : List (List Name))
    → next ≡ set lists region (get_or lists region [] ++ map (λ i. i.name) heading.parameters)
    → lists ≡ map (gathered marks) (numbers_from 0 count) → next ≡ map (gathered (marks ++ record { region = at; mark = Entered heading region } ∷ [])) (numbers_from 0 count)
entered_gathered count marks at heading region lists next changed so_far = by (ltb region (length lists)) refl
  where
    by : (t : Bool) → ltb region (length lists) ≡ t → next ≡ map (gathered (marks ++ record { region = at; mark = Entered heading region } ∷ [])) (numbers_from 0 count)
    by true e =
        let lt : region < length lists = ltb-true region (length lists) e in
        some_gathered count marks at heading region lists next (get_or lists region []) lt (get_or_same lists region lt) changed so_far
    by false e =
        let past : length lists ≤ region = grind (arith, nat_tests) in
        changed ∙ set_past lists region (get_or lists region [] ++ map (λ i. i.name) heading.parameters) past
        ∙ none_gathered count marks (record { region = at; mark = Entered heading region }) lists
        (λ b low. headed_elsewhere heading region b (λ d. omega (arith, past, d, ap length so_far, length_of_numbers (gathered marks) 0 count))) so_far

-- names after those of one list
pub put_after : {A : Type 0} (lists : List (Vec A Global)) (n : ℕ) (old new : Vec A Global) (names : List A) → n < length lists → old ≡ get_or lists n old → new.items ≡ old.items ++ names
    → map (λ list. list.items) (set lists n new) ≡ set (map (λ list. list.items) lists) n (get_or (map (λ list. list.items) lists) n [] ++ names)
put_after {A} lists n old new names lt read more =
    let items : Vec A Global → List A = λ list. list.items in
    map-set items lists n new
    ∙ ap (set (map items lists) n) (more ∙ ap (λ ns. ns ++ names) (ap items read ∙ sym (get_or-map items lists n old [] lt)))
