-- Labels of lists, and the blocks round a place.
use Rattle.std.proofs.Common.{◌≡◌, ◌≤◌, ◌<◌, ◌+◌, ◌++◌, zero, length, drop, get_or, unwrap_or, arith, ◌||◌, ◌&&◌, ℕ, suc, nat_eq, Bool, true, false, [], ◌∷◌, List, Option, Some, None, option_map, is_some, if◌then◌else◌, refl, ap, sym, ◌∙◌}
use Rattle.std.specs.List.{list_any}
use Rattle.std.specs.Prelude.{IfSome}
use Rattle.std.proofs.lemmas.List.{at_drop_more}
use Rattle.pli_base.specs.declared.statement.Body as bodies
use Rattle.pli_base.specs.declared.statement.Procedure.{Procedure}
use Rattle.pli_base.specs.laws.StatementLaws.{procedure_body}
use Rattle.pli_base.specs.views.StatementView.{body_view}
use Rattle.pli_type_rules.specs.StatementTyping.{Enclosing, leaves_nothing, label_found, lasting_alone}
use Rattle.pli_type_parts.specs.Around.{Listing, blocks_with, blocks_from, found_in, gone_into, kept_after, number_of}
use Rattle.pli_type_parts.specs.declared.labels.ListLabels.{ListLabels}
use Rattle.pli_type_parts.specs.views.AroundView.{lists_view}

pub procedure_leaves : (p : Procedure) → leaves_nothing (body_view (bodies.Procedure p)) ≡ true
procedure_leaves p = ap leaves_nothing (procedure_body p)

-- the search from the outermost list to the innermost, with what was found, also among the labels that last alone, and
-- whether a block is round it

abbrev pub searched : (label : ℕ) → (found lasting : Option ℕ) → (is_inside : Bool) → List Listing → Option ℕ
searched label found lasting is_inside [] = found
searched label found lasting is_inside (l ∷ ls) =
    let next : Option ℕ =
    found_in label (is_some l.block || is_inside) l.labels (gone_into l.block l.is_on_unit found lasting) in
    searched label next (kept_after l.block next lasting) (is_some l.block || is_inside) ls

abbrev has_block : List Enclosing → Bool
has_block [] = false
has_block (b ∷ bs) = true

any_of_both : (label : ℕ) (xs ys : List ℕ)
    → list_any (nat_eq label) (xs ++ ys) ≡ (list_any (nat_eq label) xs || list_any (nat_eq label) ys)
any_of_both label [] ys = refl
any_of_both label (x ∷ xs) ys = either (nat_eq label x) _ _ _ (any_of_both label xs ys)
  where
    either : (b p q r : Bool) → p ≡ (q || r) → (b || p) ≡ ((b || q) || r)
    either true p q r h = refl
    either false p q r h = h

by_either : {A : Type 0} (a b : Bool) (x y : A) → (if (a || b) then x else y) ≡ (if a then x else (if b then x else y))
by_either true b x y = refl
by_either false b x y = refl

one_list : (label : ℕ) (block : Option ℕ) (unit : Bool) (labels : List ℕ) (bs : List Enclosing)
    → found_in label (is_some block || has_block bs) labels (gone_into block unit (label_found bs label) (label_found (lasting_alone bs) label))
    ≡ label_found (blocks_with block unit labels bs) label
one_list label (Some number) false labels bs = refl
one_list label (Some number) true labels bs = refl
one_list label None unit labels [] = refl
one_list label None unit labels (b ∷ bs) =
    sym (ap (λ c. if c then Some 0 else option_map suc (label_found bs label)) (any_of_both label labels b.labels)
    ∙ by_either (list_any (nat_eq label) labels) (list_any (nat_eq label) b.labels) (Some 0) _)

lasting_list : (label : ℕ) (block : Option ℕ) (unit : Bool) (labels : List ℕ) (bs : List Enclosing)
    → kept_after block (label_found (blocks_with block unit labels bs) label) (label_found (lasting_alone bs) label)
    ≡ label_found (lasting_alone (blocks_with block unit labels bs)) label
lasting_list label (Some number) unit labels bs = refl
lasting_list label None unit labels [] = refl
lasting_list label None unit labels (b ∷ bs) = refl

inside_list : (block : Option ℕ) (unit : Bool) (labels : List ℕ) (bs : List Enclosing)
    → has_block (blocks_with block unit labels bs) ≡ (is_some block || has_block bs)
inside_list (Some number) unit labels bs = refl
inside_list None unit labels [] = refl
inside_list None unit labels (b ∷ bs) = refl

search_finds : (label : ℕ) (bs : List Enclosing) (ls : List Listing)
    → searched label (label_found bs label) (label_found (lasting_alone bs) label) (has_block bs) ls ≡ label_found (blocks_from bs ls) label
search_finds label bs [] = refl
search_finds label bs (l ∷ ls) =
    let cs : List Enclosing = blocks_with l.block l.is_on_unit l.labels bs in
    let inside : Bool = is_some l.block || has_block bs in
    ap (λ f. searched label f (kept_after l.block f (label_found (lasting_alone bs) label)) inside ls) (one_list label l.block l.is_on_unit l.labels bs)
    ∙ ap (λ f. searched label (label_found cs label) f inside ls) (lasting_list label l.block l.is_on_unit l.labels bs)
    ∙ ap (λ i. searched label (label_found cs label) (label_found (lasting_alone cs) label) i ls) (sym (inside_list l.block l.is_on_unit l.labels bs))
    ∙ search_finds label cs ls

-- the whole search
pub found_in_all : (label : ℕ) (ls : List Listing) → searched label None None false ls ≡ label_found (blocks_from [] ls) label
found_in_all label ls = search_finds label [] ls

-- each list adds one link at most

pub more_links : (o : Option ℕ) (i : ℕ) → IfSome o (λ links. links < i) → IfSome o (λ links. links < i + 1)
more_links None i h = tt
more_links (Some links) i h = omega (arith, h)

one_further : (o : Option ℕ) (i : ℕ) → IfSome o (λ links. links < i) → IfSome (option_map suc o) (λ links. links < i + 1)
one_further None i h = tt
one_further (Some links) i h = omega (arith, h)

gone_few : (block : Option ℕ) (unit : Bool) (found lasting : Option ℕ) (i : ℕ) → IfSome found (λ links. links < i)
    → IfSome lasting (λ links. links < i) → IfSome (gone_into block unit found lasting) (λ links. links < i + 1)
gone_few None unit found lasting i h k = more_links found i h
gone_few (Some number) false found lasting i h k = one_further found i h
gone_few (Some number) true found lasting i h k = one_further lasting i k

found_few : (label : ℕ) (inside : Bool) (labels : List ℕ) (o : Option ℕ) (i : ℕ) → IfSome o (λ links. links < i + 1)
    → IfSome (found_in label inside labels o) (λ links. links < i + 1)
found_few label inside labels o i h = by (inside && list_any (nat_eq label) labels)
  where
    by : (b : Bool) → IfSome (if b then Some 0 else o) (λ links. links < i + 1)
    by true = omega arith
    by false = h

pub next_few : (label : ℕ) (block : Option ℕ) (unit inside : Bool) (labels : List ℕ) (found lasting : Option ℕ) (i : ℕ)
    → IfSome found (λ links. links < i) → IfSome lasting (λ links. links < i)
    → IfSome (found_in label inside labels (gone_into block unit found lasting)) (λ links. links < i + 1)
next_few label block unit inside labels found lasting i h k =
    found_few label inside labels (gone_into block unit found lasting) i (gone_few block unit found lasting i h k)

pub kept_few : (block : Option ℕ) (next lasting : Option ℕ) (i : ℕ) → IfSome next (λ links. links < i + 1)
    → IfSome lasting (λ links. links < i) → IfSome (kept_after block next lasting) (λ links. links < i + 1)
kept_few None next lasting i h k = more_links lasting i k
kept_few (Some number) next lasting i h k = h

pub few_links : (o : Option ℕ) (i : ℕ) → IfSome o (λ links. links < i) → i < 18446744073709551615
    → IfSome o (λ links. links < 18446744073709551615)
few_links None i h lt = tt
few_links (Some links) i h lt = omega (arith, h, lt)

-- what is left of a list begins with the element of this turn
pub front : {A B : Type 0} (P : List A → B) (xs : List A) (i : ℕ) (x : A) → x ≡ get_or xs i x → i < length xs
    → P (drop i xs) ≡ P (x ∷ drop (i + 1) xs)
front P xs i x is lt = at_drop_more P xs i x lt ∙ ap (λ y. P (y ∷ drop (i + 1) xs)) (sym is)

-- one list more
pub search_next : (label : ℕ) (found lasting next : Option ℕ) (inside inside' : Bool) (ls : List ListLabels) (i : ℕ) (l : ListLabels)
    → l ≡ get_or ls i l → i < length ls → inside' ≡ (is_some l.block || inside)
    → next ≡ found_in label inside' l.labels.items (gone_into l.block l.is_on_unit found lasting)
    → searched label found lasting inside (lists_view (drop i ls)) ≡ searched label None None false (lists_view ls)
    → searched label next (kept_after l.block next lasting) inside' (lists_view (drop (i + 1) ls)) ≡ searched label None None false (lists_view ls)
search_next label found lasting next inside inside' ls i l is lt within goes was =
    let into : Option ℕ = gone_into l.block l.is_on_unit found lasting in
    let rest : List Listing = lists_view (drop (i + 1) ls) in
    ap (λ f. searched label f (kept_after l.block f lasting) inside' rest) goes
    ∙ ap (λ b. searched label (found_in label b l.labels.items into) (kept_after l.block (found_in label b l.labels.items into) lasting) b rest) within
    ∙ sym (front (λ xs. searched label found lasting inside (lists_view xs)) ls i l is lt) ∙ was

-- the number of the innermost block

abbrev pub number_from : ℕ → List Listing → ℕ
number_from number [] = number
number_from number (l ∷ ls) = number_from (unwrap_or l.block number) ls

one_number : (block : Option ℕ) (unit : Bool) (labels : List ℕ) (bs : List Enclosing)
    → unwrap_or block (number_of bs) ≡ number_of (blocks_with block unit labels bs)
one_number (Some number) unit labels bs = refl
one_number None unit labels [] = refl
one_number None unit labels (b ∷ bs) = refl

pub numbered_from : (bs : List Enclosing) (ls : List Listing) → number_from (number_of bs) ls ≡ number_of (blocks_from bs ls)
numbered_from bs [] = refl
numbered_from bs (l ∷ ls) =
    ap (λ n. number_from n ls) (one_number l.block l.is_on_unit l.labels bs)
    ∙ numbered_from (blocks_with l.block l.is_on_unit l.labels bs) ls

-- after the last list

pub past_lists : {A : Type 0} (xs : List A) (i : ℕ) → length xs ≤ i → drop i xs ≡ []
past_lists [] zero h = refl
past_lists [] (suc i) h = refl
past_lists (x ∷ xs) zero h = absurd (omega arith)
past_lists (x ∷ xs) (suc i) h = past_lists xs i (omega arith)

pub search_ends : (label : ℕ) (found lasting : Option ℕ) (is_inside : Bool) (ls : List ListLabels) (i : ℕ) → length ls ≤ i
    → searched label found lasting is_inside (lists_view (drop i ls)) ≡ searched label None None false (lists_view ls)
    → found ≡ label_found (blocks_from [] (lists_view ls)) label
search_ends label found lasting is_inside ls i past was =
    sym (ap (λ rest. searched label found lasting is_inside (lists_view rest)) (past_lists ls i past)) ∙ was ∙ found_in_all label (lists_view ls)

pub number_ends : (number : ℕ) (ls : List ListLabels) (i : ℕ) → length ls ≤ i
    → number_from number (lists_view (drop i ls)) ≡ number_from 0 (lists_view ls)
    → number ≡ number_of (blocks_from [] (lists_view ls))
number_ends number ls i past was =
    sym (ap (λ rest. number_from number (lists_view rest)) (past_lists ls i past)) ∙ was ∙ numbered_from [] (lists_view ls)
