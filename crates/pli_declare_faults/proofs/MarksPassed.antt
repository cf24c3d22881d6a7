-- The walk over the marks, one more at a time.
use Rattle.std.proofs.Common.{◌≡◌, ℕ, zero, suc, ◌+◌, ◌<◌, ◌≤◌, Option, None, List, [], ◌∷◌, ◌++◌, map, length, get_or, set, take, drop, refl, sym, ap, ◌∙◌, append_assoc, add-zero, zero-add, length-append, Vec, Global, arith}
use Rattle.std.specs.List.{flat_map}
use Rattle.std.proofs.lemmas.List.{drop_more, map-append, length-map, get_or-map}
use Rattle.pli_base.specs.declared.code.Code.{Code}
use Rattle.pli_base.specs.declared.syntax.Identifier.{Identifier}
use Rattle.pli_base.specs.declared.token.Fault.{Fault}
use Rattle.pli_base.specs.views.DeclarationView.{item_view}
use Rattle.pli_base.specs.declared.declaration.Item.{Item}
use Rattle.pli_declare_outline.specs.Outlines.{PlacedMark, Outline}
use Rattle.pli_declare_outline.specs.views.OutlineView.{placed_view, marks_view}
use Rattle.pli_declare_outline.specs.declared.region.PlacedMark as written
use Rattle.pli_declare_constructs.specs.Regions.{block_of}
use Rattle.pli_declare.specs.Tables.{Entry, entries_of, entries_after, entries_in, inner_marks, numbers_from}
use Rattle.pli_declare.specs.Resolution.{at_token, item_code, codes_from, parameter_faults, used_faults, declared_by, faults_after}
use Rattle.pli_declare.specs.DeclaredNames.{declared_names}
use Rattle.pli_declare_faults.specs.answers.Walks.{of_blocks, block_codes, name_faults}
use Rattle.pli_declare_faults.proofs.NumberLists.{number_at, length_of_numbers, set_of_numbers}
use Rattle.pli_declare_faults.proofs.TablesOfBlocks.{block_within}
use Rattle.pli_declare.proofs.MarkWalkLemmas.{declared_are, how_many_declared, entries_both, entries_grow, counted_elsewhere, counted_here}

pub faults_both : (codes : List (Option Code)) (number : ℕ) (xs ys : List Identifier)
    → name_faults codes number (xs ++ ys) ≡ name_faults codes number xs ++ name_faults codes (number + length xs) ys
faults_both codes number [] ys = ap (λ n. name_faults codes n ys) (sym (add-zero number))
faults_both codes number (x ∷ xs) ys =
    ap (λ fs. at_token x.at (get_or codes number None) ++ fs)
    (faults_both codes (number + 1) xs ys ∙ ap (λ n. name_faults codes (number + 1) xs ++ name_faults codes n ys) (omega arith))
    ∙ sym (append_assoc (at_token x.at (get_or codes number None)) (name_faults codes (number + 1) xs) (name_faults codes (number + length (x ∷ xs)) ys))

-- the names of the items that are left
abbrev pub names_left : List Item → ℕ → List Identifier
names_left items n = flat_map (λ i. i.names) (map item_view (drop n items))

module _ (items : List Item) (n : ℕ) (x : Item) (lt : n < length items) (read : x ≡ get_or items n x) where
  left_more : names_left items n ≡ x.names.items ++ names_left items (n + 1)
  left_more = ap (λ is. flat_map (λ i. i.names) (map item_view is)) (drop_more items n x lt ∙ ap (λ (y : Item). y ∷ drop (n + 1) items) (sym read))

  pub counted_items : (number next all : ℕ) (names : List Identifier) → names ≡ x.names.items → next ≡ number + length names
      → number + length (names_left items n) ≡ all → next + length (names_left items (n + 1)) ≡ all
  counted_items number next all names same e so_far =
      omega (arith, e, so_far, ap length same, ap length left_more, length-append x.names.items (names_left items (n + 1)))

  pub told_items : (codes : List (Option Code)) (number next : ℕ) (names : List Identifier) (faults new all : List Fault) → names ≡ x.names.items → next ≡ number + length names
      → new ≡ faults ++ name_faults codes number names → faults ++ name_faults codes number (names_left items n) ≡ all
      → new ++ name_faults codes next (names_left items (n + 1)) ≡ all
  told_items codes number next names faults new all same e f so_far =
      let rest = names_left items (n + 1) in
      ap (λ fs. fs ++ name_faults codes next rest) f ∙ ap (λ k. (faults ++ name_faults codes number names) ++ name_faults codes k rest) e
      ∙ append_assoc faults (name_faults codes number names) (name_faults codes (number + length names) rest)
      ∙ ap (λ fs. faults ++ fs) (sym (faults_both codes number names rest) ∙ ap (λ ns. name_faults codes number (ns ++ rest)) same ∙ sym (ap (name_faults codes number) left_more))
      ∙ so_far

-- the codes of names by their numbers
pub codes_told : (o : Outline) (block number : ℕ) (es : List Entry) → number + length es ≤ length (entries_in o block)
    → codes_from o block number es ≡ name_faults (block_codes o block) number (map (λ e. e.identifier) es)
codes_told o block number [] within = refl
codes_told o block number (e ∷ es) within =
    let lt : number < length (entries_in o block) = omega (arith, within) in
    let one : get_or (block_codes o block) number None ≡ item_code o block number =
    number_at (item_code o block) 0 (length (entries_in o block)) number None lt ∙ ap (item_code o block) (zero-add number) in
    let more = codes_told o block (number + 1) es (omega (arith, within)) in
    ap (λ c. at_token e.identifier.at c ++ codes_from o block (number + 1) es) (sym one)
    ∙ ap (λ fs. at_token e.identifier.at (get_or (block_codes o block) number None) ++ fs) more

module _ (o : Outline) (before : List PlacedMark) (p : PlacedMark) where
  abbrev here : ℕ
  here = block_of o.regions p.region

  module _ (rest : List PlacedMark) (all : inner_marks o.marks ≡ before ++ p ∷ rest) where
    pub room : declared_by o here before + length (declared_names p.mark) ≤ length (entries_in o here)
    room =
        let whole : entries_in o here ≡ entries_after o.regions here (entries_after o.regions here [] (before ++ p ∷ [])) rest =
        ap (entries_after o.regions here []) (all ∙ sym (append_assoc before (p ∷ []) rest)) ∙ entries_both o.regions here [] (before ++ p ∷ []) rest in
        omega (arith, counted_here o before p, ap length whole, entries_grow o.regions here (entries_after o.regions here [] (before ++ p ∷ [])) rest)

    -- the faults of one more mark
    pub marks_told : (faults declared used all_faults : List Fault) → declared ≡ faults ++ name_faults (block_codes o here) (declared_by o here before) (declared_names p.mark)
        → used ≡ declared ++ parameter_faults o p.mark ++ used_faults o p.region p.mark
        → faults ++ faults_after o before (p ∷ rest) ≡ all_faults → used ++ faults_after o (before ++ p ∷ []) rest ≡ all_faults
    marks_told faults declared used all_faults e f so_far =
        let number = declared_by o here before in
        let es = entries_of number p.region p.mark in
        let names = name_faults (block_codes o here) number (declared_names p.mark) in
        let codes : codes_from o here number es ≡ names =
        codes_told o here number es (omega (arith, room, how_many_declared number p.region p.mark)) ∙ ap (name_faults (block_codes o here) number) (declared_are number p.region p.mark) in
        let a = parameter_faults o p.mark in
        let b = used_faults o p.region p.mark in
        let more = faults_after o (before ++ p ∷ []) rest in
        ap (λ fs. fs ++ more) (f ∙ ap (λ fs. fs ++ a ++ b) e)
        ∙ regroup faults names a b more
        ∙ ap (λ fs. faults ++ ((fs ++ a ++ b) ++ more)) (sym codes)
        ∙ so_far
      where
        regroup : (v w x y z : List Fault) → (((v ++ w) ++ x) ++ y) ++ z ≡ v ++ (((w ++ x) ++ y) ++ z)
        regroup v w x y z = simp append_assoc

-- the numbers of names, with one more mark
pub next_told : (o : Outline) (before : List PlacedMark) (p : PlacedMark) (old new : List ℕ) (number : ℕ) → old ≡ of_blocks o (λ b. declared_by o b before)
    → number ≡ declared_by o (block_of o.regions p.region) before + length (declared_names p.mark) → new ≡ set old (block_of o.regions p.region) number
    → new ≡ of_blocks o (λ b. declared_by o b (before ++ p ∷ []))
next_told o before p old new number so_far e f =
    let count = length o.regions + 1 in
    let block = block_of o.regions p.region in
    let was : ℕ → ℕ = λ b. declared_by o b before in
    let is : ℕ → ℕ = λ b. declared_by o b (before ++ p ∷ []) in
    let one : number ≡ is (0 + block) = e ∙ sym (counted_here o before p) ∙ ap is (sym (zero-add block)) in
    let within : block < count = omega (arith, block_within o.regions p.region) in
    f ∙ ap (λ ns. set ns block number) so_far ∙ ap (set (map was (numbers_from 0 count)) block) one
    ∙ set_of_numbers was is 0 count block within (λ b other. sym (counted_elsewhere o before p b (λ d. other (sym d ∙ sym (zero-add block)))))

pub block_in : {A : Type 0} (o : Outline) (f : ℕ → A) (xs : List A) (region block : ℕ) → block ≡ block_of o.regions region → xs ≡ of_blocks o f → block < length xs
block_in o f xs region block e all = omega (arith, e, ap length all, length_of_numbers f 0 (length o.regions + 1), block_within o.regions region)

pub at_block : {A : Type 0} (o : Outline) (f : ℕ → A) (xs : List A) (region block : ℕ) (d : A) → block ≡ block_of o.regions region → xs ≡ of_blocks o f
    → get_or xs block d ≡ f (block_of o.regions region)
at_block o f xs region block d e all =
    ap (λ ys. get_or ys block d) all
    ∙ number_at f 0 (length o.regions + 1) block d (omega (arith, e, block_within o.regions region)) ∙ ap f (zero-add block ∙ e)

-- the codes of the block of a mark
module _ (o : Outline) (codes : List (Vec (Option Code) Global)) (region block : ℕ) (e : block ≡ block_of o.regions region) (all : map (λ list. list.items) codes ≡ of_blocks o (block_codes o)) where
  pub codes_within : block < length codes
  codes_within = omega (arith, length-map codes (λ list. list.items), block_in o (block_codes o) (map (λ list. list.items) codes) region block e all)

  pub codes_at : (x : Vec (Option Code) Global) → x ≡ get_or codes block x → x.items ≡ block_codes o (block_of o.regions region)
  codes_at x read =
      let items : Vec (Option Code) Global → List (Option Code) = λ list. list.items in
      ap items read ∙ sym (get_or-map items codes block x x.items codes_within) ∙ at_block o (block_codes o) (map items codes) region block x.items e all

-- marks that are left
pub left_marks : (marks : List written.PlacedMark) (n : ℕ) (x : written.PlacedMark) → n < length marks → x ≡ get_or marks n x → marks_view (drop n marks) ≡ placed_view x ∷ marks_view (drop (n + 1) marks)
left_marks marks n x lt read = ap marks_view (drop_more marks n x lt ∙ ap (λ (y : written.PlacedMark). y ∷ drop (n + 1) marks) (sym read))

halves : (marks : List written.PlacedMark) (n : ℕ) → marks ≡ take n marks ++ drop n marks
halves [] zero = refl
halves [] (suc n) = refl
halves (x ∷ xs) zero = refl
halves (x ∷ xs) (suc n) = ap (λ ys. x ∷ ys) (halves xs n)

pub all_marks : (marks : List written.PlacedMark) (n : ℕ) (x : written.PlacedMark) → n < length marks → x ≡ get_or marks n x
    → marks_view marks ≡ marks_view (take n marks) ++ placed_view x ∷ marks_view (drop (n + 1) marks)
all_marks marks n x lt read =
    ap marks_view (halves marks n) ∙ map-append placed_view (take n marks) (drop n marks) ∙ ap (λ ms. marks_view (take n marks) ++ ms) (left_marks marks n x lt read)
