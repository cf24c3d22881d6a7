-- Whether the names in attributes are good, for each name of each block, by the marks so far and one more.
use Rattle.std.proofs.Common.{◌≡◌, ℕ, ◌+◌, ◌<◌, ◌==◌, Bool, true, false, List, [], ◌∷◌, ◌++◌, map, length, get_or, set, if◌then◌else◌, refl, sym, ap, ◌∙◌, zero-add}
use Rattle.std.specs.List.{list_all}
use Rattle.std.proofs.lemmas.Bool.{eq-eqb}
use Rattle.std.proofs.lemmas.List.{map-append, append-nil}
use Rattle.pli_declare_outline.specs.Outlines.{Mark, Declared, Labelled, Entered, Used, Jumped, PlacedMark, Outline}
use Rattle.pli_declare_constructs.specs.Regions.{block_of}
use Rattle.pli_declare.specs.Tables.{Entry, entries_of, entries_after, numbers_from}
use Rattle.pli_declare.specs.Resolution.{attribute_is_good}
use Rattle.pli_declare_faults.specs.answers.Walks.{entity_is_good, mark_goodness}
use Rattle.pli_declare_faults.proofs.NumberLists.{number_at, set_of_numbers}
use Rattle.pli_declare.proofs.ParametersOfBlocks.{not_equal}
use Rattle.pli_declare.proofs.MarkWalkLemmas.{of_declared, entries_both}

module _ (o : Outline) (b : ℕ) where
  abbrev of_entry : Entry → Bool
  of_entry e = entity_is_good o b e.entity

  -- the names that a mark declares, from whatever number on
  good_mark : (base here : ℕ) (mark : Mark) → map of_entry (entries_of base here mark) ≡ mark_goodness o b mark
  good_mark base here (Declared items) = of_declared of_entry (λ i item. list_all (attribute_is_good o b) item.attributes) (λ base i item s. refl) base items
  good_mark base here (Labelled label) = refl
  good_mark base here (Entered heading region) = refl
  good_mark base here (Used names) = refl
  good_mark base here (Jumped label) = refl

-- for each name that marks declare in a block
abbrev pub so_far : Outline → List PlacedMark → ℕ → List Bool
so_far o marks b = map (λ e. entity_is_good o b e.entity) (entries_after o.regions b [] marks)

good_more : (o : Outline) (marks : List PlacedMark) (p : PlacedMark) (b : ℕ) → so_far o (marks ++ p ∷ []) b
    ≡ so_far o marks b ++ (if block_of o.regions p.region == b then mark_goodness o b p.mark else [])
good_more o marks p b =
    ap (map g) (entries_both o.regions b [] marks (p ∷ []))
    ∙ map-append g before (if block_of o.regions p.region == b then entries_of (length before) p.region p.mark else [])
    ∙ ap (λ gs. so_far o marks b ++ gs) (by (block_of o.regions p.region == b))
  where
    g : Entry → Bool
    g e = entity_is_good o b e.entity

    before : List Entry
    before = entries_after o.regions b [] marks

    by : (t : Bool) → map g (if t then entries_of (length before) p.region p.mark else []) ≡ (if t then mark_goodness o b p.mark else [])
    by true = good_mark o b (length before) p.region p.mark
    by false = refl

-- one more mark is passed
pub mark_passed : (o : Outline) (count : ℕ) (marks : List PlacedMark) (p : PlacedMark) (lists next : List (List Bool)) (block : ℕ) → block ≡ block_of o.regions p.region → block < count
    → next ≡ set lists block (get_or lists block [] ++ mark_goodness o block p.mark)
    → lists ≡ map (so_far o marks) (numbers_from 0 count) → next ≡ map (so_far o (marks ++ p ∷ [])) (numbers_from 0 count)
mark_passed o count marks p lists next block is within changed before =
    changed ∙ ap (λ ls. set ls block (get_or lists block [] ++ mark_goodness o block p.mark)) before
    ∙ ap (set (map (so_far o marks) (numbers_from 0 count)) block) one
    ∙ set_of_numbers (so_far o marks) (so_far o (marks ++ p ∷ [])) 0 count block within others
  where
    one : get_or lists block [] ++ mark_goodness o block p.mark ≡ so_far o (marks ++ p ∷ []) (0 + block)
    one =
        ap (λ gs. gs ++ mark_goodness o block p.mark)
        (ap (λ ls. get_or ls block []) before ∙ number_at (so_far o marks) 0 count block [] within ∙ ap (so_far o marks) (zero-add block))
        ∙ sym (good_more o marks p block
        ∙ ap (λ t. so_far o marks block ++ (if t then mark_goodness o block p.mark else [])) (eq-eqb (block_of o.regions p.region) block (sym is)))
        ∙ ap (so_far o (marks ++ p ∷ [])) (sym (zero-add block))

    others : (b : ℕ) → (b ≡ 0 + block → ⊥) → so_far o marks b ≡ so_far o (marks ++ p ∷ []) b
    others b other =
        sym (good_more o marks p b
        ∙ ap (λ t. so_far o marks b ++ (if t then mark_goodness o b p.mark else []))
        (not_equal (block_of o.regions p.region) b (λ e. other (sym e ∙ sym is ∙ sym (zero-add block))))
        ∙ append-nil (so_far o marks b))
