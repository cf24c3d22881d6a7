-- One walk over the statements of a unit gives its regions, its marks, its statements and their starts.
use Rattle.std.specs.Prelude.{◌≡◌, refl, ℕ, ◌+◌, Option, Some, None, option_map, List, [], ◌∷◌, ◌++◌, length, map}
use Rattle.std.specs.List.{flat_map, filter_map, cons_option}
use Rattle.std.proofs.Common.{sym, ap, ap₂, ◌∙◌, subst, arith, length-append}
use Rattle.std.proofs.lemmas.Grind.{flat_map-append}
use Rattle.std.proofs.lemmas.List.{map-append, append_assoc, append-nil}
use Rattle.std.proofs.lemmas.List.Elements.{filter_map-append}
use Rattle.pli_base.specs.Statements.{Statement, Numbered, Body, Statements, Ended, Before, Alternative, NoElse, Else, ExternalProcedure}
use Rattle.pli_base.specs.Statements as body
use Rattle.pli_base.specs.Syntax.{Expression}
use Rattle.pli_base.specs.declared.syntax.Identifier.{Identifier}
use Rattle.pli_declare_outline.specs.Outlines as old
use Rattle.pli_declare_outline.specs.Outlines.{Region, Mark, Entered, PlacedMark, label_marks, expression_marks}
use Rattle.pli_declare_outline.specs.declared.region.RegionKind.{RegionKind}
use Rattle.pli_declare_outline.specs.declared.region.RegionKind.TheVariants as kinds
use Rattle.pli_declare_outline.specs.StatementPlaces as places
use Rattle.pli_declare_outline.specs.declared.statement_places.StatementPlace.{StatementPlace}
use Rattle.pli_declarations.specs.Walk.{PlacedStatement, kind_of, regions_begun, until_end, placed, placed_list, statements_of, region_of, own_marks, marks_at, start_of, outline_of}

-- where a statement stands
abbrev pub place_of : PlacedStatement → StatementPlace
place_of p = record { number = p.number; region = p.region; label = p.label }

record Walked (ps : List PlacedStatement) (n : ℕ) (rs : List Region) (ms : List PlacedMark) (ss : List ℕ) (pl : List StatementPlace) : Type 0 where
  pub begun : regions_begun ps ≡ n
  pub regions : filter_map region_of ps ≡ rs
  pub marks : flat_map marks_at ps ≡ ms
  pub starts : filter_map start_of ps ≡ ss
  pub stand : map place_of ps ≡ pl

nothing : Walked [] 0 [] [] [] []
nothing = record { begun = refl; regions = refl; marks = refl; starts = refl; stand = refl }

begun_append : (ps qs : List PlacedStatement) → regions_begun (ps ++ qs) ≡ regions_begun ps + regions_begun qs
begun_append ps qs =
    ap length (filter_map-append (λ (p : PlacedStatement). kind_of p.body) ps qs)
    ∙ length-append (filter_map (λ (p : PlacedStatement). kind_of p.body) ps) (filter_map (λ (p : PlacedStatement). kind_of p.body) qs)

joined : (ps qs : List PlacedStatement) (n m : ℕ) (rs rs' : List Region) (ms ms' : List PlacedMark) (ss ss' : List ℕ) (pl pl' : List StatementPlace)
    → Walked ps n rs ms ss pl → Walked qs m rs' ms' ss' pl' → Walked (ps ++ qs) (n + m) (rs ++ rs') (ms ++ ms') (ss ++ ss') (pl ++ pl')
joined ps qs n m rs rs' ms ms' ss ss' pl pl' w v = record {
  begun = begun_append ps qs ∙ ap₂ (λ a b. a + b) w.begun v.begun;
  regions = filter_map-append region_of ps qs ∙ ap₂ (λ a b. a ++ b) w.regions v.regions;
  marks = flat_map-append marks_at ps qs ∙ ap₂ (λ a b. a ++ b) w.marks v.marks;
  starts = filter_map-append start_of ps qs ∙ ap₂ (λ a b. a ++ b) w.starts v.starts;
  stand = map-append place_of ps qs ∙ ap₂ (λ a b. a ++ b) w.stand v.stand;
}

-- statements and the END of their region
ended : (region end : ℕ) (ps : List PlacedStatement) (n : ℕ) (rs : List Region) (ms : List PlacedMark) (ss : List ℕ) (pl : List StatementPlace)
    → Walked ps n rs ms ss pl → Walked (until_end region end ps) n rs ms ss (pl ++ places.end_place region end)
ended region end ps n rs ms ss pl w =
    let v : Walked (record { region = region; next = 0; number = end; label = None; body = body.Null } ∷ []) 0 [] [] [] (places.end_place region end) = record {
      begun = refl;
      regions = refl;
      marks = refl;
      starts = refl;
      stand = refl;
    } in
    let all = joined ps _ n 0 rs [] ms [] ss [] pl (places.end_place region end) w v in
    let none : n + 0 ≡ n = omega arith in
    record {
      begun = all.begun ∙ none;
      regions = all.regions ∙ append-nil rs;
      marks = all.marks ∙ append-nil ms;
      starts = all.starts ∙ append-nil ss;
      stand = all.stand;
    }

-- the same of what stands after another number of regions
moved : (walk : ℕ → List PlacedStatement) (ps : List PlacedStatement) (next k m : ℕ) (rs : List Region) (ms : List PlacedMark) (ss : List ℕ) (pl : List StatementPlace)
    → regions_begun ps ≡ k → Walked (walk (next + k)) m rs ms ss pl → Walked (walk (next + regions_begun ps)) m rs ms ss pl
moved walk ps next k m rs ms ss pl e w = subst (λ j. Walked (walk (next + j)) m rs ms ss pl) (sym e) w

-- one more region, if one begins
abbrev more : Option RegionKind → ℕ → ℕ
more None n = n
more (Some kind) n = 1 + n

one_more : (k : Option RegionKind) (ks : List RegionKind) (n : ℕ) → length ks ≡ n → length (cons_option k ks) ≡ more k n
one_more None ks n e = e
one_more (Some kind) ks n e = let sum : length (kind ∷ ks) ≡ 1 + n = omega (arith, e) in sum

-- a statement, before those inside it
first : (p : PlacedStatement) (ps : List PlacedStatement) (n : ℕ) (rs : List Region) (ms : List PlacedMark) (ss : List ℕ) (pl : List StatementPlace) → Walked ps n rs ms ss pl
    → Walked (p ∷ ps) (more (kind_of p.body) n) (cons_option (region_of p) rs)
    (old.placed p.region (label_marks p.label p.body) ++ (old.placed p.region (own_marks p.next p.body) ++ ms)) (cons_option (start_of p) ss) (place_of p ∷ pl)
first p ps n rs ms ss pl w = record {
  begun = one_more (kind_of p.body) (filter_map (λ (q : PlacedStatement). kind_of q.body) ps) n w.begun;
  regions = ap (λ xs. cons_option (region_of p) xs) w.regions;
  marks =
      ap (λ xs. xs ++ flat_map marks_at ps) (map-append (λ (m : Mark). record { region = p.region; mark = m }) (label_marks p.label p.body) (own_marks p.next p.body))
      ∙ append_assoc (old.placed p.region (label_marks p.label p.body)) (old.placed p.region (own_marks p.next p.body)) (flat_map marks_at ps)
      ∙ ap (λ xs. old.placed p.region (label_marks p.label p.body) ++ (old.placed p.region (own_marks p.next p.body) ++ xs)) w.marks;
  starts = ap (λ xs. cons_option (start_of p) xs) w.starts;
  stand = ap (λ xs. place_of p ∷ xs) w.stand;
}

-- a statement without any inside it
alone : (p : PlacedStatement) → kind_of p.body ≡ None
    → Walked (p ∷ []) 0 [] (old.placed p.region (label_marks p.label p.body) ++ old.placed p.region (own_marks p.next p.body)) [] (place_of p ∷ [])
alone p e =
    subst (λ ms. Walked (p ∷ []) 0 [] (old.placed p.region (label_marks p.label p.body) ++ ms) [] (place_of p ∷ [])) (append-nil (old.placed p.region (own_marks p.next p.body)))
    (subst (λ k. Walked (p ∷ []) (more k 0) (cons_option (option_map (λ kind. record { kind = kind; outer = Some p.region }) k) [])
    (old.placed p.region (label_marks p.label p.body) ++ (old.placed p.region (own_marks p.next p.body) ++ [])) (cons_option (option_map (λ kind. p.number) k) []) (place_of p ∷ [])) e
    (first p [] 0 [] [] [] [] nothing))

abbrev at_place : (here next number : ℕ) → Option Identifier → Body → PlacedStatement
at_place here next number label body = record { region = here; next = next; number = number; label = label; body = body }

abbrev StatementWalks : (here next : ℕ) → List PlacedStatement → Statement → Type 0
StatementWalks here next ps s = Walked ps (old.regions_in s) (old.statement_regions here next s) (old.statement_marks here next s) (places.statement_starts s) (places.statement_places here next s)

abbrev ListWalks : (here next : ℕ) → List PlacedStatement → Statements → Type 0
ListWalks here next ps ss = Walked ps (old.regions_among ss) (old.statements_regions here next ss) (old.statements_marks here next ss) (places.statements_starts ss) (places.statements_places here next ss)

-- a region with statements in it
opened : (here next number : ℕ) (label : Option Identifier) (b : Body) (ss : Statements) (end : ℕ) → ListWalks next (next + 1) (placed_list next (next + 1) ss) ss
    → Walked (at_place here next number label b ∷ until_end next end (placed_list next (next + 1) ss)) (more (kind_of b) (old.regions_among ss))
    (cons_option (region_of (at_place here next number label b)) (old.statements_regions next (next + 1) ss))
    (old.placed here (label_marks label b) ++ (old.placed here (own_marks next b) ++ old.statements_marks next (next + 1) ss))
    (cons_option (start_of (at_place here next number label b)) (places.statements_starts ss))
    (place_of (at_place here next number label b) ∷ (places.statements_places next (next + 1) ss ++ places.end_place next end))
opened here next number label b ss end w =
    first (at_place here next number label b) _ _ _ _ _ _ (ended next end _ _ _ _ _ _ w)

-- the two parts of an IF
parts : (here next number : ℕ) (label : Option Identifier) (c : Expression) (consequence : Statement) (alternative : Alternative) (ps qs : List PlacedStatement) (n m : ℕ)
    (rs rs' : List Region) (ms ms' : List PlacedMark) (ss ss' : List ℕ) (pl pl' : List StatementPlace) → Walked ps n rs ms ss pl → Walked qs m rs' ms' ss' pl'
    → Walked (at_place here next number label (body.If c consequence alternative) ∷ (ps ++ qs)) (n + m) (rs ++ rs')
    (old.placed here (label_marks label (body.If c consequence alternative)) ++ (old.placed here (expression_marks c) ++ ms ++ ms')) (ss ++ ss')
    (place_of (at_place here next number label (body.If c consequence alternative)) ∷ (pl ++ pl'))
parts here next number label c consequence alternative ps qs n m rs rs' ms ms' ss ss' pl pl' w v =
    let p : PlacedStatement = at_place here next number label (body.If c consequence alternative) in
    subst (λ xs. Walked (p ∷ (ps ++ qs)) (n + m) (rs ++ rs') (old.placed here (label_marks label (body.If c consequence alternative)) ++ xs) (ss ++ ss') (place_of p ∷ (pl ++ pl')))
    (sym (append_assoc (old.placed here (expression_marks c)) ms ms'))
    (first p (ps ++ qs) _ _ _ _ _ (joined ps qs n m rs rs' ms ms' ss ss' pl pl' w v))

mutual
  statement_walks : (here next : ℕ) (s : Statement) → StatementWalks here next (placed here next s) s
  statement_walks here next (Numbered number label at body.Null) = alone (at_place here next number label body.Null) refl
  statement_walks here next (Numbered number label at (body.Assign target equals value)) = alone (at_place here next number label (body.Assign target equals value)) refl
  statement_walks here next (Numbered number label at (body.Declare items)) = alone (at_place here next number label (body.Declare items)) refl
  statement_walks here next (Numbered number label at (body.Procedure heading statements end)) =
      opened here next number label (body.Procedure heading statements end) statements end (list_walks next (next + 1) statements)
  statement_walks here next (Numbered number label at (body.Begin statements end)) =
      opened here next number label (body.Begin statements end) statements end (list_walks next (next + 1) statements)
  statement_walks here next (Numbered number label at (body.Do control statements end)) =
      opened here next number label (body.Do control statements end) statements end (list_walks next (next + 1) statements)
  statement_walks here next (Numbered number label at (body.If condition consequence NoElse)) =
      let p : PlacedStatement = at_place here next number label (body.If condition consequence NoElse) in
      subst (λ qs. StatementWalks here next (p ∷ qs) (Numbered number label at (body.If condition consequence NoElse))) (append-nil (placed here next consequence))
      (parts here next number label condition consequence NoElse (placed here next consequence) [] _ _ _ _ _ _ _ _ _ _ (statement_walks here next consequence) nothing)
  statement_walks here next (Numbered number label at (body.If condition consequence (Else statement))) =
      let w = statement_walks here next consequence in
      let v = moved (λ k. placed here k statement) (placed here next consequence) next (old.regions_in consequence) _ _ _ _ _ w.begun (statement_walks here (next + old.regions_in consequence) statement) in
      parts here next number label condition consequence (Else statement) (placed here next consequence) _ _ _ _ _ _ _ _ _ _ _ w v
  statement_walks here next (Numbered number label at (body.On condition unit)) =
      first (at_place here next number label (body.On condition unit)) _ _ _ _ _ _ (statement_walks next (next + 1) unit)
  statement_walks here next (Numbered number label at (body.Revert condition)) = alone (at_place here next number label (body.Revert condition)) refl
  statement_walks here next (Numbered number label at (body.Signal condition)) = alone (at_place here next number label (body.Signal condition)) refl
  statement_walks here next (Numbered number label at body.Stop) = alone (at_place here next number label body.Stop) refl
  statement_walks here next (Numbered number label at (body.Allocate allocations)) = alone (at_place here next number label (body.Allocate allocations)) refl
  statement_walks here next (Numbered number label at (body.Free references)) = alone (at_place here next number label (body.Free references)) refl
  statement_walks here next (Numbered number label at (body.Call name arguments)) = alone (at_place here next number label (body.Call name arguments)) refl
  statement_walks here next (Numbered number label at (body.Goto target)) = alone (at_place here next number label (body.Goto target)) refl
  statement_walks here next (Numbered number label at (body.Return value)) = alone (at_place here next number label (body.Return value)) refl
  statement_walks here next (Numbered number label at (body.Put skip items)) = alone (at_place here next number label (body.Put skip items)) refl

  list_walks : (here next : ℕ) (ss : Statements) → ListWalks here next (placed_list here next ss) ss
  list_walks here next Ended = nothing
  list_walks here next (Before s ss) =
      let w = statement_walks here next s in
      let v = moved (λ k. placed_list here k ss) (placed here next s) next (old.regions_in s) _ _ _ _ _ w.begun (list_walks here (next + old.regions_in s) ss) in
      joined (placed here next s) _ _ _ _ _ _ _ _ _ _ _ w v

-- of a unit
pub outlines_alike : (u : ExternalProcedure) → outline_of u ≡ old.outline_of u
unfolding outline_of old.outline_of
outlines_alike u =
    let w = list_walks 0 1 u.statements in
    let v = ended 0 u.end (placed_list 0 1 u.statements) _ _ _ _ _ w in
    λ i. record { regions = record { kind = kinds.Procedure; outer = None } ∷ w.regions i; marks = record { region = 0; mark = Entered u.heading 0 } ∷ v.marks i }

pub starts_alike : (u : ExternalProcedure) → filter_map start_of (statements_of u) ≡ places.unit_starts u
unfolding places.unit_starts
starts_alike u = let w = ended 0 u.end (placed_list 0 1 u.statements) _ _ _ _ _ (list_walks 0 1 u.statements) in ap (λ ns. u.heading.number ∷ ns) w.starts

pub places_alike : (u : ExternalProcedure) → map place_of (statements_of u) ≡ places.unit_places u
unfolding places.unit_places
places_alike u =
    let w = ended 0 u.end (placed_list 0 1 u.statements) _ _ _ _ _ (list_walks 0 1 u.statements) in
    ap (λ ns. record { number = u.heading.number; region = 0; label = None } ∷ ns) w.stand
