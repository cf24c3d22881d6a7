-- What walks over statements put, one after another.
use Rattle.std.proofs.Common.{◌≡◌, ℕ, ◌+◌, length, List, [], ◌∷◌, ◌++◌, Some, ap, ◌∙◌, sym, subst, append_assoc, append-nil, arith, length-append}
use Rattle.std.proofs.lemmas.List.{map-append}
use Rattle.pli_base.specs.Statements as tree
use Rattle.pli_base.specs.Syntax.{Expression}
use Rattle.pli_base.specs.declared.statement.Condition.{Condition}
use Rattle.pli_base.specs.views.StatementView.{statement_view, statements_view}
use Rattle.pli_base.specs.declared.statement.Statement.{Statement}
use Rattle.pli_declare_outline.specs.Outlines as plain
use Rattle.pli_declare_outline.specs.Outlines.{placed, expression_marks, regions_in, regions_of, regions_among, regions_else, alternative_regions, alternative_marks}
use Rattle.pli_declare_outline.specs.StatementPlaces.{alternative_starts, alternative_places, end_place}
use Rattle.pli_declare_outline.specs.Walks.{Put, Walked, of_statement, of_statements, of_body, begun, until_end, own_marks}
use Rattle.pli_declare_outline.specs.views.OutlineView.{region_view, regions_view, starts_view, marks_view}
use Rattle.pli_declare_outline.specs.declared.region.Region.{Region}
use Rattle.pli_declare_outline.specs.declared.region.PlacedMark.{PlacedMark}
use Rattle.pli_declare_outline.specs.declared.region.RegionKind.{RegionKind}
use Rattle.pli_declare_outline.specs.declared.region.RegionKind.TheVariants as kinds
use Rattle.pli_declare_outline.specs.declared.statement_places.StatementPlace.{StatementPlace}

-- nothing
abbrev pub nothing : Put
nothing = record { regions = []; starts = []; marks = []; places = [] }

-- marks of a region before what is put
abbrev pub marked : (here : ℕ) → List plain.Mark → Put → Put
marked here own put =
    record { regions = put.regions; starts = put.starts; marks = placed here own ++ put.marks; places = put.places }

-- a statement before what is put
abbrev pub after_place : StatementPlace → Put → Put
after_place p put =
    record { regions = put.regions; starts = put.starts; marks = put.marks; places = p ∷ put.places }

-- what is put, and then more
abbrev pub both : Put → Put → Put
both put more = record {
  regions = put.regions ++ more.regions;
  starts = put.starts ++ more.starts;
  marks = put.marks ++ more.marks;
  places = put.places ++ more.places;
}

-- what an ELSE puts
abbrev pub of_else : (here next : ℕ) → tree.Alternative → Put
of_else here next other = record {
  regions = alternative_regions here next other;
  starts = alternative_starts other;
  marks = alternative_marks here next other;
  places = alternative_places here next other;
}

-- marks, and then a walk
pub marks_then : (here : ℕ) (own : List plain.Mark) (regions regions' : List Region) (marks given marks' : List PlacedMark)
    (places places' : List StatementPlace) (put : Put) (count : ℕ)
    → marks_view given ≡ marks_view marks ++ placed here own
    → Walked regions regions' given marks' places places' put count
    → Walked regions regions' marks marks' places places' (marked here own put) count
marks_then here own regions regions' marks given marks' places places' put count h w = record {
  regions = w.regions;
  starts = w.starts;
  marks = w.marks ∙ ap (λ xs. xs ++ put.marks) h ∙ append_assoc (marks_view marks) (placed here own) put.marks;
  places = w.places;
  count = w.count;
}

-- a statement, and then a walk
pub place_then : (p : StatementPlace) (regions regions' : List Region) (marks marks' : List PlacedMark)
    (places given places' : List StatementPlace) (put : Put) (count : ℕ)
    → given ≡ places ++ p ∷ []
    → Walked regions regions' marks marks' given places' put count
    → Walked regions regions' marks marks' places places' (after_place p put) count
place_then p regions regions' marks marks' places given places' put count h w = record {
  regions = w.regions;
  starts = w.starts;
  marks = w.marks;
  places = w.places ∙ ap (λ xs. xs ++ put.places) h ∙ append_assoc places (p ∷ []) put.places;
  count = w.count;
}

-- a walk, and then the END of a region
pub then_end : (region end : ℕ) (regions regions' : List Region) (marks marks' : List PlacedMark)
    (places between places' : List StatementPlace) (put : Put) (count : ℕ)
    → places' ≡ between ++ end_place region end
    → Walked regions regions' marks marks' places between put count
    → Walked regions regions' marks marks' places places' (until_end put region end) count
then_end region end regions regions' marks marks' places between places' put count h w = record {
  regions = w.regions;
  starts = w.starts;
  marks = w.marks;
  places = h ∙ ap (λ xs. xs ++ end_place region end) w.places ∙ append_assoc places put.places (end_place region end);
  count = w.count;
}

-- a region, and then a walk in it
pub region_then : (r : Region) (number count : ℕ) (regions given regions' : List Region) (marks marks' : List PlacedMark)
    (places places' : List StatementPlace) (put : ℕ → ℕ → Put)
    → number ≡ length regions
    → given ≡ regions ++ r ∷ []
    → Walked given regions' marks marks' places places' (put number (length given)) count
    → Walked regions regions' marks marks' places places' (begun r (put (length regions) (length regions + 1))) (1 + count)
region_then r number count regions given regions' marks marks' places places' put n h w =
    let l : length given ≡ length regions + 1 = ap length h ∙ length-append regions (r ∷ []) in
    let v : regions_view given ≡ regions_view regions ++ region_view r ∷ [] =
    ap regions_view h ∙ map-append region_view regions (r ∷ []) in
    let s : starts_view given ≡ starts_view regions ++ r.statement ∷ [] =
    ap starts_view h ∙ map-append (λ (x : Region). x.statement) regions (r ∷ []) in
    let is : put number (length given) ≡ put (length regions) (length regions + 1) =
    ap (put number) l ∙ ap (λ m. put m (length regions + 1)) n in
    subst (λ p. Walked regions regions' marks marks' places places' (begun r p) (1 + count)) is
    (record {
      regions =
          w.regions
          ∙ ap (λ xs. xs ++ (put number (length given)).regions) v
          ∙ append_assoc (regions_view regions) (region_view r ∷ []) (put number (length given)).regions;
      starts =
          w.starts
          ∙ ap (λ xs. xs ++ (put number (length given)).starts) s
          ∙ append_assoc (starts_view regions) (r.statement ∷ []) (put number (length given)).starts;
      marks = w.marks;
      places = w.places;
      count = omega (arith, w.count, l);
    })

-- a walk, and then another
pub walked_then : (regions given regions' : List Region) (marks between marks' : List PlacedMark)
    (places among places' : List StatementPlace) (put : Put) (count : ℕ) (more : ℕ → Put) (count' : ℕ)
    → Walked regions given marks between places among put count
    → Walked given regions' between marks' among places' (more (length given)) count'
    → Walked regions regions' marks marks' places places' (both put (more (length regions + count))) (count + count')
walked_then regions given regions' marks between marks' places among places' put count more count' v w =
    subst (λ n. Walked regions regions' marks marks' places places' (both put (more n)) (count + count')) v.count
    (record {
      regions =
          w.regions
          ∙ ap (λ xs. xs ++ (more (length given)).regions) v.regions
          ∙ append_assoc (regions_view regions) put.regions (more (length given)).regions;
      starts =
          w.starts
          ∙ ap (λ xs. xs ++ (more (length given)).starts) v.starts
          ∙ append_assoc (starts_view regions) put.starts (more (length given)).starts;
      marks =
          w.marks
          ∙ ap (λ xs. xs ++ (more (length given)).marks) v.marks
          ∙ append_assoc (marks_view marks) put.marks (more (length given)).marks;
      places =
          w.places
          ∙ ap (λ xs. xs ++ (more (length given)).places) v.places
          ∙ append_assoc places put.places (more (length given)).places;
      count = omega (arith, v.count, w.count);
    })

-- nothing is put
pub nothing_walked : (regions : List Region) (marks : List PlacedMark) (places : List StatementPlace)
    → Walked regions regions marks marks places places nothing 0
nothing_walked regions marks places =
    record {
      regions = sym (append-nil (regions_view regions));
      starts = sym (append-nil (starts_view regions));
      marks = sym (append-nil (marks_view marks));
      places = sym (append-nil places);
      count = omega arith;
    }

-- what is put for a list of statements
abbrev pub AllWalked : (here : ℕ) → List Statement → (regions regions' : List Region) → (marks marks' : List PlacedMark)
    → (places places' : List StatementPlace) → Type 0
AllWalked here ss regions regions' marks marks' places places' =
    Walked regions regions' marks marks' places places' (of_statements here (length regions) (statements_view ss))
    (regions_among (statements_view ss))

-- nothing is put where no statements are left
pub none_walked : (here : ℕ) (regions : List Region) (marks : List PlacedMark) (places : List StatementPlace)
    (ss : List Statement) → ss ≡ []
    → AllWalked here ss regions regions marks marks places places
none_walked here regions marks places ss e =
    subst (λ x. AllWalked here x regions regions marks marks places places) (sym e) (nothing_walked regions marks places)

-- a statement, and then those after it
pub statements_then : (here : ℕ) (s : Statement) (all more : List Statement)
    (regions given regions' : List Region) (marks between marks' : List PlacedMark)
    (places among places' : List StatementPlace)
    → all ≡ s ∷ more
    → Walked regions given marks between places among (of_statement here (length regions) (statement_view s))
    (regions_in (statement_view s))
    → AllWalked here more given regions' between marks' among places'
    → AllWalked here all regions regions' marks marks' places places'
statements_then here s all more regions given regions' marks between marks' places among places' e v w =
    subst (λ x. AllWalked here x regions regions' marks marks' places places') (sym e)
    (walked_then regions given regions' marks between marks' places among places' _ _
    (λ n. of_statements here n (statements_view more)) _ v w)

-- what is put for what a statement says
abbrev pub BodyWalked : (here number : ℕ) → tree.Body → (regions regions' : List Region) → (marks marks' : List PlacedMark)
    → (places places' : List StatementPlace) → Type 0
BodyWalked here number b regions regions' marks marks' places places' =
    Walked regions regions' marks marks' places places' (of_body here number (length regions) b) (regions_of b)

-- what a statement is that is a region of statements
pub data IsRegion : RegionKind → tree.Statements → ℕ → tree.Body → Type 0 where
  procedure : (heading : tree.Heading) (statements : tree.Statements) (end : ℕ)
      → IsRegion kinds.Procedure statements end (tree.Procedure heading statements end)
  block : (statements : tree.Statements) (end : ℕ) → IsRegion kinds.Begin statements end (tree.Begin statements end)
  group : (control : _) (statements : tree.Statements) (end : ℕ)
      → IsRegion kinds.Group statements end (tree.Do control statements end)

-- such a region in another
abbrev pub region_inside : RegionKind → (here number : ℕ) → Region
region_inside kind here number = record { kind = kind; outer = Some here; statement = number }

-- what a region of statements puts
abbrev pub of_region : Region → (next end : ℕ) → tree.Statements → Put
of_region r next end ss = begun r (until_end (of_statements next (next + 1) ss) next end)

-- its own marks, and then the walk in it
region_after : (here number : ℕ) (kind : RegionKind) (inner : tree.Statements) (end : ℕ) (b : tree.Body)
    (regions regions' : List Region) (marks between marks' : List PlacedMark) (places places' : List StatementPlace)
    → IsRegion kind inner end b
    → marks_view between ≡ marks_view marks ++ placed here (own_marks (length regions) b)
    → Walked regions regions' between marks' places places'
    (of_region (region_inside kind here number) (length regions) end inner) (1 + regions_among inner)
    → BodyWalked here number b regions regions' marks marks' places places'
region_after here number kind inner end b regions regions' marks between marks' places places' (procedure heading statements e) own w =
    marks_then here (own_marks (length regions) (tree.Procedure heading statements e)) regions regions' marks between marks' places places' _ _ own w
region_after here number kind inner end b regions regions' marks between marks' places places' (block statements e) own w =
    marks_then here [] regions regions' marks between marks' places places' _ _ own w
region_after here number kind inner end b regions regions' marks between marks' places places' (group control statements e) own w =
    marks_then here (own_marks (length regions) (tree.Do control statements e)) regions regions' marks between marks' places places' _ _ own w

-- the same of a statement, a list and a region that are known by equations
pub region_walked : (here number at : ℕ) (kind : RegionKind) (inner given : tree.Statements) (end : ℕ) (b b' : tree.Body)
    (r : Region) (regions regions' : List Region) (marks between marks' : List PlacedMark)
    (places places' : List StatementPlace)
    → IsRegion kind inner end b
    → b' ≡ b
    → given ≡ inner
    → r ≡ region_inside kind here number
    → at ≡ length regions
    → marks_view between ≡ marks_view marks ++ placed here (own_marks at b')
    → Walked regions regions' between marks' places places' (of_region r (length regions) end given) (1 + regions_among given)
    → BodyWalked here number b' regions regions' marks marks' places places'
region_walked here number at kind inner given end b b' r regions regions' marks between marks' places places' i e s q n h w =
    subst (λ x. BodyWalked here number x regions regions' marks marks' places places') (sym e)
    (region_after here number kind inner end b regions regions' marks between marks' places places' i
    (h ∙ ap (λ m. marks_view marks ++ placed here (own_marks m b')) n
    ∙ ap (λ x. marks_view marks ++ placed here (own_marks (length regions) x)) e)
    (subst (λ x. Walked regions regions' between marks' places places'
    (of_region (region_inside kind here number) (length regions) end x) (1 + regions_among x)) s
    (subst (λ x. Walked regions regions' between marks' places places'
    (of_region x (length regions) end given) (1 + regions_among given)) q w)))

-- an IF: its own marks, the walk over its first part, and the one over its ELSE
pub if_walked : (here number at : ℕ) (condition : Expression) (part : tree.Statement) (other : tree.Alternative)
    (b : tree.Body) (regions between regions' : List Region) (marks own first marks' : List PlacedMark)
    (places among places' : List StatementPlace)
    → b ≡ tree.If condition part other
    → marks_view own ≡ marks_view marks ++ placed here (own_marks at b)
    → Walked regions between own first places among (of_statement here (length regions) part) (regions_in part)
    → Walked between regions' first marks' among places' (of_else here (length between) other) (regions_else other)
    → BodyWalked here number b regions regions' marks marks' places places'
if_walked here number at condition part other b regions between regions' marks own first marks' places among places' e h v w =
    subst (λ x. BodyWalked here number x regions regions' marks marks' places places') (sym e)
    (walked_then regions between regions' marks first marks' places among places'
    (marked here (expression_marks condition) (of_statement here (length regions) part)) (regions_in part)
    (λ n. of_else here n other) (regions_else other)
    (marks_then here (expression_marks condition) regions between marks own first places among _ _
    (h ∙ ap (λ x. marks_view marks ++ placed here (own_marks at x)) e) v)
    w)

-- an ON: its region, and the walk over its unit
pub unit_walked : (here number at : ℕ) (condition : Condition) (part : tree.Statement) (b : tree.Body) (r : Region)
    (regions regions' : List Region) (marks own marks' : List PlacedMark) (places places' : List StatementPlace)
    → b ≡ tree.On condition part
    → r ≡ region_inside kinds.OnUnit here number
    → marks_view own ≡ marks_view marks ++ placed here (own_marks at b)
    → Walked regions regions' own marks' places places'
    (begun r (of_statement (length regions) (length regions + 1) part)) (1 + regions_in part)
    → BodyWalked here number b regions regions' marks marks' places places'
unit_walked here number at condition part b r regions regions' marks own marks' places places' e q h w =
    subst (λ x. BodyWalked here number x regions regions' marks marks' places places') (sym e)
    (marks_then here [] regions regions' marks own marks' places places' _ _
    (h ∙ ap (λ x. marks_view marks ++ placed here (own_marks at x)) e)
    (subst (λ x. Walked regions regions' own marks' places places'
    (begun x (of_statement (length regions) (length regions + 1) part)) (1 + regions_in part)) q w))
