-- What names mean is declared, where there are no faults.
use Rattle.std.proofs.Common.{◌≡◌, ℕ, zero, suc, ◌+◌, ◌<◌, ◌≤◌, Bool, true, false, if◌then◌else◌, Option, Some, None, List, [], ◌∷◌, ◌++◌, map, length, get_or, slice_get, refl, sym, ap, ◌∙◌, subst, arith}
use Rattle.std.proofs.lemmas.List.{length-map}
use Rattle.std.proofs.lemmas.Option.{slice_get-get_or}
use Rattle.pli_base.specs.Name.{Name}
use Rattle.pli_base.specs.Statements.{ExternalProcedure}
use Rattle.pli_declare_outline.specs.Outlines.{Outline, outline_of}
use Rattle.pli_declare_constructs.specs.Regions.{blocks_round}
use Rattle.pli_declare_scopes.specs.Scopes.{BlockItems, Scope, declares_first, found_in, meant_there, meant_from, meant}
use Rattle.pli_declare_scopes.specs.declared.block.Declared.{Declared}
use Rattle.pli_declare_scopes.specs.declared.found.Found.{Found}
use Rattle.pli_declare_scopes.specs.declared.found.Found.TheVariants.{Nothing, One, Several}
use Rattle.pli_declare_scopes.specs.declared.found.ReferenceMeaning.TheVariants.{Item}
use Rattle.pli_declare_scopes.specs.declared.repeat.Verdict.{Verdict}
use Rattle.pli_declare.specs.Tables.{Entry, with_verdicts, entries_in, verdicts_in, block_in, unit_entries, unit_block, scope_of, tables_of}
use Rattle.pli_declare.specs.Declarations.{declaration_at, declared_in, AreGood}
use Rattle.pli_declare.specs.Resolution.{parameters_of, resolution_faults}
use Rattle.pli_declare.specs.Resolved.{resolved_of, block_at}
use Rattle.pli_declare.specs.Resolved as declare
use Rattle.pli_declare.proofs.ListsByNumber.{made_at, made_length}
use Rattle.pli_declare.proofs.LookUpLemmas.{IsBelow, found_is_below}
use Rattle.pli_declare.proofs.Faultless.{block_good, unit_good}
use Rattle.pli_declare.specs.ResolvedUnits.{no_block, declared_by}
use Rattle.pli_resolve.proofs.DeclaredBlocks.{IsRegion, each_is, round_are_blocks}

-- a number that is found stands in a block of the scope
abbrev Within : (k : ℕ) → Scope → (number out : ℕ) → Type 0
Within k scope number out = (j : ℕ) × (out ≡ k + j) × (j < length scope) × (number < length (get_or scope j []))

within_found : (k : ℕ) (b : BlockItems) (bs : Scope) (number out : ℕ) (f : Found) → IsBelow (length b) f → meant_there k f ≡ Item number out → Within k (b ∷ bs) number out
within_found k b bs number out Nothing low e = cc
within_found k b bs number out (One n) low e =
    let same : n ≡ number = cc in
    let there : k ≡ out = cc in
    (0, omega (arith, there), omega arith, omega (arith, low, same))
within_found k b bs number out Several low e = cc

meant_within : (k : ℕ) (scope : Scope) (names : List Name) (number out : ℕ) → meant_from k scope names ≡ Item number out → Within k scope number out
meant_within k [] names number out e = cc
meant_within k (b ∷ bs) names number out e = by (declares_first b names) refl (λ f. meant_within (k + 1) bs names number out f)
  where
    by : (t : Bool) → declares_first b names ≡ t → (meant_from (k + 1) bs names ≡ Item number out → Within (k + 1) bs number out) → Within k (b ∷ bs) number out
    by true t more =
        within_found k b bs number out (found_in b names) (found_is_below b names)
        (sym (ap (λ (c : Bool). if c then meant_there k (found_in b names) else meant_from (k + 1) bs names) t) ∙ e)
    by false t more =
        let w = more (sym (ap (λ (c : Bool). if c then meant_there k (found_in b names) else meant_from (k + 1) bs names) t) ∙ e) in
        (suc w.0, omega (arith, w.1), omega (arith, w.2), w.3)

-- what belongs to a region, or to the outermost block
abbrev pub picked : {A : Type 0} → (f : ℕ → A) → (outermost : A) → Option ℕ → A
picked f x None = x
picked f x (Some b) = f b

at_picked : {A : Type 0} (f : ℕ → A) (x d : A) (bs : List ℕ) (out : ℕ) → out < length (map f bs ++ x ∷ []) → get_or (map f bs ++ x ∷ []) out d ≡ picked f x (slice_get bs out)
at_picked f x d [] zero lt = refl
at_picked f x d [] (suc out) lt = absurd (omega (arith, lt))
at_picked f x d (b ∷ bs) zero lt = refl
at_picked f x d (b ∷ bs) (suc out) lt = at_picked f x d bs out (omega (arith, lt))

same_lengths : {A B : Type 0} (f : ℕ → A) (g : ℕ → B) (x : A) (y : B) (bs : List ℕ) → length (map f bs ++ x ∷ []) ≡ length (map g bs ++ y ∷ [])
same_lengths f g x y [] = refl
same_lengths f g x y (b ∷ bs) = ap suc (same_lengths f g x y bs)

judged_length : (es : List Entry) (vs : List Verdict) → length (with_verdicts es vs) ≤ length es
judged_length [] vs = omega arith
judged_length (e ∷ es) [] = omega arith
judged_length (e ∷ es) (v ∷ vs) = omega (arith, judged_length es vs)

abbrev counting : Entry → Declared
counting e = record { name = e.identifier.name; owner = None; counts = true }

module _ (o : Outline) where
  abbrev pub entries_at : Option ℕ → List Entry
  entries_at region = picked (entries_in o) (unit_entries o.marks) region

  abbrev pub parameters_at : Option ℕ → List Name
  parameters_at region = picked (parameters_of o) [] region

  fewer : (region : Option ℕ) → length (picked (block_in o) (unit_block o) region) ≤ length (entries_at region)
  fewer None = omega (arith, length-map (unit_entries o.marks) counting)
  fewer (Some b) = judged_length (entries_in o b) (verdicts_in o b)

  region_good : (here out : ℕ) (region : Option ℕ) → slice_get (blocks_round o.regions here) out ≡ region → IsRegion o.regions region
  region_good here out None e = tt
  region_good here out (Some b) e = each_is o.regions (blocks_round o.regions here) out b (round_are_blocks o.regions here) e

  abbrev pub region_of : (here out : ℕ) → Option ℕ
  region_of here out = slice_get (blocks_round o.regions here) out

  -- names that mean something: in a region, or in the outermost block
  pub meant_in : (here : ℕ) (names : List Name) (number out : ℕ) → meant (scope_of o here) names ≡ Item number out
      → (IsRegion o.regions (region_of here out)) × (number < length (entries_at (region_of here out))) × (get_or (tables_of o here) out [] ≡ entries_at (region_of here out))
  meant_in here names number out e =
      let bs = blocks_round o.regions here in
      let w = meant_within 0 (scope_of o here) names number out e in
      let same : w.0 ≡ out = omega (arith, w.1) in
      let within : out < length (scope_of o here) = omega (arith, w.2, same) in
      let low : number < length (get_or (scope_of o here) out []) = subst (λ j. number < length (get_or (scope_of o here) j [])) same w.3 in
      let there : number < length (picked (block_in o) (unit_block o) (region_of here out)) =
      subst (λ (b : BlockItems). number < length b) (at_picked (block_in o) (unit_block o) [] bs out within) low in (
        region_good here out (region_of here out) refl,
        omega (arith, there, fewer (region_of here out)),
        at_picked (entries_in o) (unit_entries o.marks) [] bs out (omega (arith, within, same_lengths (block_in o) (entries_in o) (unit_block o) (unit_entries o.marks) bs)),
      )

pub declared_number : (es : List Entry) (ps : List Name) (n : ℕ) → n < length es → slice_get (declared_in es ps) n ≡ Some (declaration_at es ps n)
declared_number es ps n lt =
    slice_get-get_or (declared_in es ps) n (declaration_at es ps n) (omega (arith, lt, made_length (declaration_at es ps) (length es)))
    ∙ ap Some (made_at (declaration_at es ps) (length es) n (declaration_at es ps n) lt)

declared_is : (u : ExternalProcedure) (region : Option ℕ) → IsRegion (outline_of u).regions region
    → declared_by (resolved_of u) region ≡ declared_in (entries_at (outline_of u) region) (parameters_at (outline_of u) region)
unfolding resolved_of
declared_is u None h = refl
declared_is u (Some b) h =
    let o = outline_of u in
    ap (λ (x : declare.BlockDeclarations). x.declarations) (made_at (block_at o) (length o.regions) b no_block h.0)

pub declared_there : (u : ExternalProcedure) (region : Option ℕ) (n : ℕ) → IsRegion (outline_of u).regions region → n < length (entries_at (outline_of u) region)
    → slice_get (declared_by (resolved_of u) region) n ≡ Some (declaration_at (entries_at (outline_of u) region) (parameters_at (outline_of u) region) n)
declared_there u region n good lt =
    ap (λ ds. slice_get ds n) (declared_is u region good) ∙ declared_number (entries_at (outline_of u) region) (parameters_at (outline_of u) region) n lt

pub regions_same : (u : ExternalProcedure) → (resolved_of u).regions ≡ (outline_of u).regions
unfolding resolved_of
regions_same u = refl

pub all_good : (u : ExternalProcedure) → resolution_faults u ≡ [] → (region : Option ℕ) → AreGood (entries_at (outline_of u) region) (parameters_at (outline_of u) region)
unfolding resolution_faults
all_good u h None = unit_good (outline_of u) (outline_of u).marks h
all_good u h (Some b) = block_good (outline_of u) h b
