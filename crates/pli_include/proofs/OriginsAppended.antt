-- Origins of more tokens: those before them stay, whatever runs begin.
use Rattle.std.proofs.Common.{◌≡◌, ℕ, List, [], ◌∷◌, ◌++◌, length, map, slice_get, Some, refl, sym, ap, subst, ◌∙◌, arith}
use Rattle.std.proofs.Common.{length-append}
use Rattle.std.specs.List.{All}
use Rattle.std.proofs.lemmas.List.{get_or_append_left, map-append}
use Rattle.std.proofs.lemmas.List.Elements.{All-tail, All-append, All-map}
use Rattle.std.proofs.lemmas.Option.{get_or_from_slice_get, slice_get_within}
use Rattle.pli_base.specs.Name.{Name}
use Rattle.pli_base.specs.declared.token.Token.{Token}
use Rattle.pli_include.specs.declared.origins.Place.{Place}
use Rattle.pli_include.specs.Expansion.{origin_of}
use Rattle.pli_include.specs.views.OriginsView.{IsOfRun, origin_at, place_in}

-- the origins at places stay
stay : (members more : List Name) (ps : List Place) → All (IsOfRun members) ps → map (origin_at (members ++ more)) ps ≡ map (origin_at members) ps
stay members more [] of_runs = refl
stay members more (p ∷ ps) of_runs =
    let none : Name = [] in
    ap (λ m. record { member = m; line = p.line } ∷ map (origin_at (members ++ more)) ps) (get_or_append_left members more none p.run (of_runs 0 p (omega arith)))
    ∙ ap (λ os. origin_at members p ∷ os) (stay members more ps (All-tail (IsOfRun members) p ps of_runs))

-- the tokens of a run have their origins, where the run is of this member
tokens_at : (members : List Name) (run : ℕ) (m : Name) (ts : List Token) → slice_get members run ≡ Some m
    → map (origin_at members) (map (place_in run) ts) ≡ map (origin_of m) ts
tokens_at members run m [] is = refl
tokens_at members run m (t ∷ ts) is =
    let none : Name = [] in
    ap (λ x. record { member = x; line = t.line } ∷ map (origin_at members) (map (place_in run) ts))
    (get_or_from_slice_get members run m none is)
    ∙ ap (λ os. origin_of m t ∷ os) (tokens_at members run m ts is)

module _ (before after more : List Name) (ps qs : List Place) (run : ℕ) (m : Name) (ts : List Token)
    (of_runs : All (IsOfRun before) ps) (longer : after ≡ before ++ more) (noted : qs ≡ ps ++ map (place_in run) ts)
    (is : slice_get after run ≡ Some m) where
  -- tokens of a run have their origins, after those that were
  pub appended : map (origin_at after) qs ≡ map (origin_at before) ps ++ map (origin_of m) ts
  appended =
      ap (map (origin_at after)) noted ∙ map-append (origin_at after) ps (map (place_in run) ts)
      ∙ ap (λ os. map (origin_at after) ps ++ os) (tokens_at after run m ts is)
      ∙ ap (λ ms. map (origin_at ms) ps ++ map (origin_of m) ts) longer
      ∙ ap (λ os. os ++ map (origin_of m) ts) (stay before more ps of_runs)

  -- and each place is of one of the runs
  pub of_runs_then : All (IsOfRun after) qs
  of_runs_then =
      let within = slice_get_within after run m is in
      subst (All (IsOfRun after)) (sym noted)
      (All-append (IsOfRun after) ps (map (place_in run) ts)
      (λ k d lt. omega (arith, of_runs k d lt, ap length longer, length-append before more))
      (All-map (IsOfRun after) (place_in run) ts (λ k d lt. within)))
