-- Each name that is used means something, where there are no faults.
use Rattle.std.proofs.Common.{◌≡◌, ℕ, zero, suc, ◌<◌, nat_eq, Bool, true, false, if◌then◌else◌, Option, Some, None, option_map, option_and_then, List, [], ◌∷◌, ◌++◌, length, get_or, Contains, inr, refl, sym, ap, ◌∙◌, subst, arith}
use Rattle.std.specs.Option.{unwrap_or}
use Rattle.std.proofs.lemmas.Bool.{eqb-true, eq-eqb}
use Rattle.pli_base.specs.Name.{Name}
use Rattle.pli_base.specs.Statements.{ExternalProcedure}
use Rattle.pli_base.specs.Declarations as tree
use Rattle.pli_base.specs.declared.code.Code.{Code}
use Rattle.pli_base.specs.declared.code.Code.TheVariants.{NotDeclared as NoName, Ambiguous as Several, BadGoto}
use Rattle.pli_base.specs.declared.syntax.Identifier.{Identifier}
use Rattle.pli_base.specs.declared.token.Fault.{Fault}
use Rattle.pli_map.specs.Description.{Description}
use Rattle.pli_declare.specs.Completed.{Completed, OfVariable, OfEntry, OfBuiltIn, completed_of}
use Rattle.pli_declare.specs.Faults.{item_fault}
use Rattle.pli_declare.specs.declared.place.ItemPlace.{ItemPlace}
use Rattle.pli_declare_outline.specs.Outlines.{Mark, Declared, Labelled, Entered, Used, Jumped, PlacedMark, Outline, outline_of}
use Rattle.pli_declare_constructs.specs.Reach.{reaches}
use Rattle.pli_declare_scopes.specs.Scopes.{meant}
use Rattle.pli_declare_scopes.specs.declared.found.ReferenceMeaning.{ReferenceMeaning}
use Rattle.pli_declare_scopes.specs.declared.found.ReferenceMeaning.TheVariants.{Item, Ambiguous, NotDeclared}
use Rattle.pli_declare.specs.Tables.{Entity, AsItem, AsLabel, AsProcedure, Entry, no_entry, inner_marks, scope_of}
use Rattle.pli_declare.specs.Places.{place_in, item_in, is_built_in}
use Rattle.pli_declare.specs.Declarations.{OfItem, OfLabel, Declaration, kind_of, declaration_at, whole_description, IsGood}
use Rattle.pli_declare.specs.Resolution.{is_function, names_of, reference_code, target_code, jump_code, resolution_faults}
use Rattle.pli_declare.specs.Resolved.{resolved_of, uses_at, used_as, function_use, of_marks, meaning_after}
use Rattle.pli_declare.specs.laws.FaultLaws.{HasUse}
use Rattle.pli_declare.specs.declared.block.Use.{Use}
use Rattle.pli_declare.specs.declared.block.Target.{Target}
use Rattle.pli_declare.specs.declared.block.Target.TheVariants.{Name as AName, Function as AFunction}
use Rattle.pli_declare.proofs.FaultsAreExact.{faults_are_least_codes}
use Rattle.pli_declare_outline.specs.StatementPlaces.{unit_places}
use Rattle.pli_declare.specs.ResolvedUnits.{resolved_unit_of, symbol_at, functions_at, function_at, functions_in, kind_meaning, declared_meaning, target_meaning, facts_of}
use Rattle.pli_declare.specs.Symbols.{Symbol, Label, SymbolFacts, Way, symbol_kind, symbol_of, found_after, found_in}
use Rattle.pli_resolve.specs.laws.UseLaws.{IsThere, MeansSomething, HasMeaning, UsesHaveMeanings, IsUsedAt, IsLabelledAt, MeansLabel, JumpsMeanLabels}
use Rattle.pli_declare.specs.declared.built_in.BuiltInFunction.{BuiltInFunction}
use Rattle.pli_declare_outline.specs.declared.statement_places.StatementPlace.{StatementPlace}
use Rattle.pli_declare.specs.declared.symbol.NameMeaning.{NameMeaning}
use Rattle.pli_declare.specs.declared.symbol.NameMeaning.TheVariants as meanings
use Rattle.pli_declare.specs.declared.symbol.SymbolKey.{SymbolKey}
use Rattle.pli_resolve.proofs.LookUps.{found_then}
use Rattle.pli_resolve.proofs.BuiltInNames.{named_so, has_function}
use Rattle.pli_resolve.proofs.DeclaredBlocks.{IsRegion, HasSymbol, key_in, declared_symbol}
use Rattle.pli_resolve.proofs.LabelsStand.{label_found, label_place}
use Rattle.pli_resolve.proofs.MeantNames.{entries_at, parameters_at, region_of, meant_in, declared_there, regions_same, all_good}

-- the last use at a token

-- the uses at this token have targets of a kind
abbrev pub Fit : (P : Target → Type 0) → (at : ℕ) → List Use → Type 0
Fit P at [] = Unit {0}
Fit P at (u ∷ us) = (u.at ≡ at → P u.target) × Fit P at us

-- there is one of the kind
abbrev pub IsOne : {A : Type 0} → (A → Type 0) → Option A → Type 0
IsOne {A} P found = (t : A) × (found ≡ Some t) × P t

meaning_then : (found : Option Target) (xs ys : List Use) (at : ℕ) → meaning_after found (xs ++ ys) at ≡ meaning_after (meaning_after found xs at) ys at
meaning_then found [] ys at = refl
meaning_then found (x ∷ xs) ys at = meaning_then (if nat_eq x.at at then Some x.target else found) xs ys at

more_found : (P : Target → Type 0) (found : Option Target) (us : List Use) (at : ℕ) → IsOne P found → Fit P at us → IsOne P (meaning_after found us at)
more_found P found [] at one fit = one
more_found P found (u ∷ us) at one fit = by (nat_eq u.at at) refl (λ next. more_found P next us at)
  where
    by : (b : Bool) → nat_eq u.at at ≡ b → ((next : Option Target) → IsOne P next → Fit P at us → IsOne P (meaning_after next us at))
        → IsOne P (meaning_after (if nat_eq u.at at then Some u.target else found) us at)
    by true e rest =
        subst (λ (b : Bool). IsOne P (meaning_after (if b then Some u.target else found) us at)) (sym e)
        (rest (Some u.target) (u.target, refl, fit.0 (eqb-true u.at at e)) fit.1)
    by false e rest = subst (λ (b : Bool). IsOne P (meaning_after (if b then Some u.target else found) us at)) (sym e) (rest found one fit.1)

pub fit_both : (P : Target → Type 0) (at : ℕ) (xs ys : List Use) → Fit P at xs → Fit P at ys → Fit P at (xs ++ ys)
fit_both P at [] ys f g = g
fit_both P at (x ∷ xs) ys f g = (f.0, fit_both P at xs ys f.1 g)

-- a use, among those of marks
module _ (P : Target → Type 0) (at : ℕ) (uses : ℕ → Mark → List Use) where
  abbrev AllFit : List PlacedMark → Type 0
  AllFit ps = (k : ℕ) → k < length ps → (q : PlacedMark) → get_or ps k q ≡ q → Fit P at (uses q.region q.mark)

  fit_marks : (ps : List PlacedMark) → AllFit ps → Fit P at (of_marks uses ps)
  fit_marks [] all = tt
  fit_marks (q ∷ qs) all =
      fit_both P at (uses q.region q.mark) (of_marks uses qs) (all 0 (omega arith) q refl)
      (fit_marks qs (λ k lt r e. all (suc k) (omega (arith, lt)) r e))

  pub used_last : (ps : List PlacedMark) (found : Option Target) (k : ℕ) (p : PlacedMark) (t : Target) → k < length ps → get_or ps k p ≡ p
      → uses p.region p.mark ≡ record { at = at; target = t } ∷ [] → P t → AllFit ps → IsOne P (meaning_after found (of_marks uses ps) at)
  used_last [] found k p t lt is e h all = absurd (omega (arith, lt))
  used_last (q ∷ qs) found zero p t lt is e h all =
      let here : uses q.region q.mark ≡ record { at = at; target = t } ∷ [] = ap (λ (r : PlacedMark). uses r.region r.mark) is ∙ e in
      let found_here : meaning_after found (uses q.region q.mark) at ≡ Some t =
      ap (λ us. meaning_after found us at) here ∙ ap (λ (b : Bool). if b then Some t else found) (eq-eqb at at refl) in
      subst (IsOne P) (sym (meaning_then found (uses q.region q.mark) (of_marks uses qs) at))
      (more_found P (meaning_after found (uses q.region q.mark) at) (of_marks uses qs) at (t, found_here, h)
      (fit_marks qs (λ k lt r e. all (suc k) (omega (arith, lt)) r e)))
  used_last (q ∷ qs) found (suc k) p t lt is e h all =
      subst (IsOne P) (sym (meaning_then found (uses q.region q.mark) (of_marks uses qs) at))
      (used_last qs (meaning_after found (uses q.region q.mark) at) k p t (omega (arith, lt)) is e h (λ j low r f. all (suc j) (omega (arith, low)) r f))

-- built-in functions by their tokens

stays : (f : BuiltInFunction) (ps : List (ℕ × BuiltInFunction)) (at : ℕ) → (g : BuiltInFunction) × (found_after (Some f) ps at ≡ Some g)
stays f [] at = (f, refl)
stays f (p ∷ ps) at = by (nat_eq p.0 at) (λ g. stays g ps at)
  where
    by : (b : Bool) → ((g : BuiltInFunction) → (x : BuiltInFunction) × (found_after (Some g) ps at ≡ Some x)) → (x : BuiltInFunction) × (found_after (if b then Some p.1 else Some f) ps at ≡ Some x)
    by true rest = rest p.1
    by false rest = rest f

function_found : (ps : List PlacedMark) (found : Option BuiltInFunction) (k : ℕ) (p : PlacedMark) (at : ℕ) (f : BuiltInFunction) → k < length ps → get_or ps k p ≡ p
    → functions_at p.mark ≡ (at, f) ∷ [] → (g : BuiltInFunction) × (found_after found (functions_in ps) at ≡ Some g)
function_found [] found k p at f lt is e = absurd (omega (arith, lt))
function_found (q ∷ qs) found zero p at f lt is e =
    let here : functions_at q.mark ≡ (at, f) ∷ [] = ap (λ (r : PlacedMark). functions_at r.mark) is ∙ e in
    let first : found_after found (functions_at q.mark) at ≡ Some f =
    ap (λ fs. found_after found fs at) here ∙ ap (λ (b : Bool). if b then Some f else found) (eq-eqb at at refl) in
    let rest = stays f (functions_in qs) at in
    (rest.0, found_then found (functions_at q.mark) (functions_in qs) at ∙ ap (λ o. found_after o (functions_in qs) at) first ∙ rest.1)
function_found (q ∷ qs) found (suc k) p at f lt is e =
    let rest = function_found qs (found_after found (functions_at q.mark) at) k p at f (omega (arith, lt)) is e in
    (rest.0, found_then found (functions_at q.mark) (functions_in qs) at ∙ rest.1)

single : (i : Identifier) (is : List Identifier) → is_function (i ∷ is) ≡ true → (is ≡ []) × (is_built_in i.name ≡ true)
single i [] h = (refl, h)
single i (j ∷ js) h = cc

-- what a GOTO without a fault means is a label that it reaches
only_label : (o : Outline) (here : ℕ) (entity : Entity) → target_code o here entity ≡ None → (inner : ℕ) × (entity ≡ AsLabel inner) × (reaches o.regions here inner ≡ true)
only_label o here (AsLabel inner) h = (inner, refl, reached (reaches o.regions here inner) h)
  where
    reached : (b : Bool) → (if b then None else Some BadGoto) ≡ None → b ≡ true
    reached true f = refl
    reached false f = absurd (let bad : Some BadGoto ≡ None = f in cc)
only_label o here (AsItem item is_bad) h = absurd (let bad : Some BadGoto ≡ None = h in cc)
only_label o here (AsProcedure heading region) h = absurd (let bad : Some BadGoto ≡ None = h in cc)

label_kind : (f : SymbolFacts) (ps : List Name) (w : Way) (i : Identifier) (owner : Option ℕ) (inner : ℕ) → symbol_kind f ps w i owner (OfLabel inner) ≡ Label (unwrap_or (found_in f.labels i.at) 0)
label_kind f ps w i None inner = refl
label_kind f ps w i (Some owner) inner = refl

differs : {is : List Identifier} {label : Identifier} → Used is ≡ Jumped label → ⊥
differs e = cc

module _ (u : ExternalProcedure) (h : resolution_faults u ≡ []) where
  abbrev o : Outline
  o = outline_of u

  abbrev marks : List PlacedMark
  marks = inner_marks o.marks

  abbrev function_there : ℕ → Option BuiltInFunction
  function_there at = found_in (functions_in marks) at

  -- a target that is there
  abbrev Good : (at : ℕ) → Target → Type 0
  Good at t = (m : NameMeaning) × (target_meaning u (function_there at) t ≡ Some m) × IsThere (resolved_unit_of u) m

  abbrev IsFound : SymbolKey → Type 0
  IsFound key = (s : Symbol) × (symbol_at (resolved_unit_of u) key ≡ Some s)

  abbrev IsMeant : Option NameMeaning → Type 0
  IsMeant meaning = (m : NameMeaning) × (meaning ≡ Some m) × IsThere (resolved_unit_of u) m

  item_meant : (key : SymbolKey) (name : Name) (p : ItemPlace) (item : tree.Item) (d : Option Description) → item_fault p item ≡ None → p.built_in_name ≡ is_built_in name
      → IsFound key → IsMeant (kind_meaning key name (OfItem (completed_of p item) d))
  item_meant key name p item d none named s = by (completed_of p item) refl
    where
      by : (c : Completed) → completed_of p item ≡ c → IsMeant (kind_meaning key name (OfItem (completed_of p item) d))
      by (OfVariable v) e = (meanings.Symbol key, ap (λ c. kind_meaning key name (OfItem c d)) e, s)
      by (OfEntry ps r) e = (meanings.Symbol key, ap (λ c. kind_meaning key name (OfItem c d)) e, s)
      by OfBuiltIn e =
          let f = has_function name (sym named ∙ named_so p item none e) in
          (meanings.BuiltIn f.0, ap (λ c. kind_meaning key name (OfItem c d)) e ∙ ap (option_map meanings.BuiltIn) f.1, tt)

  entity_meant : (key : SymbolKey) (es : List Entry) (ps : List Name) (n : ℕ) (entity : Entity) → (get_or es n no_entry).entity ≡ entity → IsGood es ps n entity → IsFound key
      → IsMeant (kind_meaning key (get_or es n no_entry).identifier.name (kind_of es ps n entity))
  entity_meant key es ps n (AsItem item is_bad) e good s =
      let own : item_fault (place_in es ps n) item ≡ None = subst (λ (x : Entity). item_fault (place_in es ps n) (item_in x) ≡ None) e good.1 in
      item_meant key (get_or es n no_entry).identifier.name (place_in es ps n) item (whole_description es ps n) own refl s
  entity_meant key es ps n (AsLabel region) e good s = (meanings.Symbol key, refl, s)
  entity_meant key es ps n (AsProcedure heading region) e good s = (meanings.Symbol key, refl, s)

  -- a name that is declared
  abbrev declaration : (region : Option ℕ) → (number : ℕ) → Declaration
  declaration region number = declaration_at (entries_at o region) (parameters_at o region) number

  found_symbol : (region : Option ℕ) (number : ℕ) → IsRegion o.regions region → number < length (entries_at o region)
      → HasSymbol (facts_of u) (declaration region number) (symbol_at (resolved_unit_of u) (key_in u region number))
  found_symbol region number good lt =
      declared_symbol u region number (declaration region number) (subst (λ rs. IsRegion rs region) (sym (regions_same u)) good) (declared_there u region number good lt)

  name_good : (region : Option ℕ) (number at : ℕ) → IsRegion o.regions region → number < length (entries_at o region) → Good at (AName region number)
  name_good region number at good lt =
      let key = key_in u region number in
      let es = entries_at o region in
      let ps = parameters_at o region in
      let s = found_symbol region number good lt in
      let m = entity_meant key es ps number (get_or es number no_entry).entity refl (all_good u h region number lt) (_, s.2) in
      (m.0, ap (declared_meaning key) (declared_there u region number good lt) ∙ m.1, m.2)

  -- no mark has a fault
  no_fault : (p : PlacedMark) (f : Fault) → Contains marks p → HasUse o p.region p.mark f → ⊥
  no_fault p f c has =
      let there : Contains (resolution_faults u) f = (faults_are_least_codes u f).1 (inr (inr (inr (record { placed = p; stands = c; has = has })))) in
      let none = subst (λ fs. Contains fs f) h there in
      omega (arith, none.1)

  no_code : (p : PlacedMark) (at : ℕ) (found : Option Code) → Contains marks p → ((code : Code) → found ≡ Some code → HasUse o p.region p.mark (record { code = code; at = at })) → found ≡ None
  no_code p at None c has = refl
  no_code p at (Some code) c has = absurd (no_fault p (record { code = code; at = at }) c (has code refl))

  -- a mark that uses one name
  abbrev OneUse : (here : ℕ) → Mark → (at : ℕ) → Type 0
  OneUse here mark at = (t : Target) × (uses_at o here mark ≡ record { at = at; target = t } ∷ []) × Good at t

  used_one : (p : PlacedMark) (i : Identifier) (is : List Identifier) → Contains marks p → p.mark ≡ Used (i ∷ is) → OneUse p.region (Used (i ∷ is)) i.at
  used_one p i is c e = by (meant (scope_of o p.region) (names_of (i ∷ is))) refl
    where
      none : reference_code (i ∷ is) (meant (scope_of o p.region) (names_of (i ∷ is))) ≡ None
      none = no_code p i.at _ c (λ code f. subst (λ m. HasUse o p.region m (record { code = code; at = i.at })) (sym e) (refl, f))

      function : (b : Bool) → is_function (i ∷ is) ≡ b → meant (scope_of o p.region) (names_of (i ∷ is)) ≡ NotDeclared → OneUse p.region (Used (i ∷ is)) i.at
      function true t m =
          let one = single i is t in
          let f = has_function i.name one.1 in
          let at : functions_at p.mark ≡ (i.at, f.0) ∷ [] = ap functions_at (e ∙ ap (λ js. Used (i ∷ js)) one.0) ∙ ap (function_at i) f.1 in
          let g = function_found marks None c.0 p i.at f.0 c.1 c.2 at in (
            AFunction,
            ap (used_as o p.region i.at (function_use i.at (i ∷ is))) m ∙ ap (λ (b : Bool). if b then record { at = i.at; target = AFunction } ∷ [] else []) t,
            (meanings.BuiltIn g.0, ap (option_map meanings.BuiltIn) g.1, tt),
          )
      function false t m =
          let some = sym (ap (λ (b : Bool). if b then None else Some NoName) t) ∙ ap (reference_code (i ∷ is)) (sym m) ∙ none in
          absurd (let bad : Some NoName ≡ None = some in cc)

      by : (m : ReferenceMeaning) → meant (scope_of o p.region) (names_of (i ∷ is)) ≡ m → OneUse p.region (Used (i ∷ is)) i.at
      by (Item number out) m =
          let w = meant_in o p.region (names_of (i ∷ is)) number out m in
          (AName (region_of o p.region out) number, ap (used_as o p.region i.at (function_use i.at (i ∷ is))) m, name_good (region_of o p.region out) number i.at w.0 w.1)
      by Ambiguous m = absurd (let bad : Some Several ≡ None = ap (reference_code (i ∷ is)) (sym m) ∙ none in cc)
      by NotDeclared m = function (is_function (i ∷ is)) refl m

  jumped_one : (p : PlacedMark) (label : Identifier) → Contains marks p → p.mark ≡ Jumped label → OneUse p.region (Jumped label) label.at
  jumped_one p label c e = by (meant (scope_of o p.region) (label.name ∷ [])) refl
    where
      none : jump_code o p.region (meant (scope_of o p.region) (label.name ∷ [])) ≡ None
      none = no_code p label.at _ c (λ code f. subst (λ m. HasUse o p.region m (record { code = code; at = label.at })) (sym e) (refl, f))

      by : (m : ReferenceMeaning) → meant (scope_of o p.region) (label.name ∷ []) ≡ m → OneUse p.region (Jumped label) label.at
      by (Item number out) m =
          let w = meant_in o p.region (label.name ∷ []) number out m in
          (AName (region_of o p.region out) number, ap (used_as o p.region label.at []) m, name_good (region_of o p.region out) number label.at w.0 w.1)
      by Ambiguous m = absurd (let bad : Some Several ≡ None = ap (jump_code o p.region) (sym m) ∙ none in cc)
      by NotDeclared m = absurd (let bad : Some NoName ≡ None = ap (jump_code o p.region) (sym m) ∙ none in cc)

  fits_one : (here at token : ℕ) (mark : Mark) → OneUse here mark token → Fit (Good at) at (uses_at o here mark)
  fits_one here at token mark one =
      subst (Fit (Good at) at) (sym one.1) ((λ e. subst (λ k. Good k one.0) e one.2), tt)

  each_fits : (at : ℕ) (p : PlacedMark) → Contains marks p → Fit (Good at) at (uses_at o p.region p.mark)
  each_fits at p c = by p.mark refl
    where
      by : (m : Mark) → p.mark ≡ m → Fit (Good at) at (uses_at o p.region p.mark)
      by (Used []) e = subst (λ m. Fit (Good at) at (uses_at o p.region m)) (sym e) tt
      by (Used (i ∷ is)) e = subst (λ m. Fit (Good at) at (uses_at o p.region m)) (sym e) (fits_one p.region at i.at (Used (i ∷ is)) (used_one p i is c e))
      by (Jumped label) e = subst (λ m. Fit (Good at) at (uses_at o p.region m)) (sym e) (fits_one p.region at label.at (Jumped label) (jumped_one p label c e))
      by (Declared items) e = subst (λ m. Fit (Good at) at (uses_at o p.region m)) (sym e) tt
      by (Labelled label) e = subst (λ m. Fit (Good at) at (uses_at o p.region m)) (sym e) tt
      by (Entered heading region) e = subst (λ m. Fit (Good at) at (uses_at o p.region m)) (sym e) tt

  one_means : (p : PlacedMark) (at : ℕ) → Contains marks p → OneUse p.region p.mark at → MeansSomething (resolved_unit_of u) at
  unfolding resolved_of
  one_means p at c one =
      let found = used_last (Good at) at (uses_at o) marks None c.0 p one.0 c.1 c.2 one.1 one.2 (λ k lt q e. each_fits at q (k, lt, e)) in
      (found.2.0, ap (option_and_then (target_meaning u (function_there at))) found.1 ∙ found.2.1, found.2.2)

  mark_means : (p : PlacedMark) → Contains marks p → (m : Mark) → p.mark ≡ m → HasMeaning (resolved_unit_of u) m
  mark_means p c (Used []) e = tt
  mark_means p c (Used (i ∷ is)) e = one_means p i.at c (subst (λ m. OneUse p.region m i.at) (sym e) (used_one p i is c e))
  mark_means p c (Jumped label) e = one_means p label.at c (subst (λ m. OneUse p.region m label.at) (sym e) (jumped_one p label c e))
  mark_means p c (Declared items) e = tt
  mark_means p c (Labelled label) e = tt
  mark_means p c (Entered heading region) e = tt

  -- labels

  -- a target that is a label, which a GOTO of the region here reaches
  pub record IsLabel (here at : ℕ) (t : Target) : Type 0 where
    pub key : SymbolKey
    pub symbol : Symbol
    pub statement : ℕ
    pub means : target_meaning u (function_there at) t ≡ Some (meanings.Symbol key)
    pub there : symbol_at (resolved_unit_of u) key ≡ Some symbol
    pub is_label : symbol.kind ≡ Label statement
    pub place : StatementPlace
    pub stands : Contains (unit_places u) place
    pub labelled : place.label ≡ Some symbol.identifier
    pub reached : reaches o.regions here place.region ≡ true
    pub numbered : ((q : StatementPlace) → Contains (unit_places u) q → IsLabelledAt symbol.identifier.at q.label → q.number ≡ place.number) → statement ≡ place.number

  label_good : (region : Option ℕ) (number here at inner : ℕ) → IsRegion o.regions region → number < length (entries_at o region)
      → (get_or (entries_at o region) number no_entry).entity ≡ AsLabel inner → reaches o.regions here inner ≡ true → IsLabel here at (AName region number)
  label_good region number here at inner good lt e to =
      let key = key_in u region number in
      let d = declaration region number in
      let s = found_symbol region number good lt in
      let kind : d.kind ≡ OfLabel inner = ap (kind_of (entries_at o region) (parameters_at o region) number) e in
      let q = label_place u region number inner lt e in
      record {
        key = key;
        symbol = symbol_of (facts_of u) s.0 s.1 d;
        statement = unwrap_or (found_in (facts_of u).labels d.identifier.at) 0;
        means = ap (declared_meaning key) (declared_there u region number good lt) ∙ ap (kind_meaning key d.identifier.name) kind;
        there = s.2;
        is_label = ap (symbol_kind (facts_of u) s.0 s.1 d.identifier d.owner) kind ∙ label_kind (facts_of u) s.0 s.1 d.identifier d.owner inner;
        place = q.0;
        stands = q.1;
        labelled = q.3;
        reached = ap (reaches o.regions here) q.2 ∙ to;
        numbered = λ alike. ap (λ n. unwrap_or n 0)
            (label_found None (unit_places u) q.1.0 q.0 d.identifier q.1.1 q.1.2 q.3 (λ k r low f l. alike r (k, low, f) l));
      }

  abbrev OneLabel : (here : ℕ) → (label : Identifier) → Type 0
  OneLabel here label = (t : Target) × (uses_at o here (Jumped label) ≡ record { at = label.at; target = t } ∷ []) × IsLabel here label.at t

  label_one : (p : PlacedMark) (label : Identifier) → Contains marks p → p.mark ≡ Jumped label → OneLabel p.region label
  label_one p label c e = by (meant (scope_of o p.region) (label.name ∷ [])) refl
    where
      none : jump_code o p.region (meant (scope_of o p.region) (label.name ∷ [])) ≡ None
      none = no_code p label.at _ c (λ code f. subst (λ m. HasUse o p.region m (record { code = code; at = label.at })) (sym e) (refl, f))

      by : (m : ReferenceMeaning) → meant (scope_of o p.region) (label.name ∷ []) ≡ m → OneLabel p.region label
      by (Item number out) m =
          let w = meant_in o p.region (label.name ∷ []) number out m in
          let region = region_of o p.region out in
          let code : target_code o p.region (get_or (entries_at o region) number no_entry).entity ≡ None =
          ap (λ (es : List Entry). target_code o p.region (get_or es number no_entry).entity) (sym w.2) ∙ ap (jump_code o p.region) (sym m) ∙ none in
          let it = only_label o p.region (get_or (entries_at o region) number no_entry).entity code in
          (AName region number, ap (used_as o p.region label.at []) m, label_good region number p.region label.at it.0 w.0 w.1 it.1 it.2)
      by Ambiguous m = absurd (let bad : Some Several ≡ None = ap (jump_code o p.region) (sym m) ∙ none in cc)
      by NotDeclared m = absurd (let bad : Some NoName ≡ None = ap (jump_code o p.region) (sym m) ∙ none in cc)

  -- another mark uses no name there
  module _ (p : PlacedMark) (label : Identifier) (c : Contains marks p) (e : p.mark ≡ Jumped label)
      (alone : (q : PlacedMark) → Contains marks q → IsUsedAt label.at q.mark → q ≡ p) where
    one : OneLabel p.region label
    one = label_one p label c e

    abbrev AllLabels : (q : PlacedMark) → Mark → Type 0
    AllLabels q m = Fit (IsLabel p.region label.at) label.at (uses_at o q.region m)

    same_one : (q : PlacedMark) (l : Identifier) → Contains marks q → q.mark ≡ Jumped l → AllLabels q (Jumped l)
    same_one q l d f =
        let other = label_one q l d f in
        subst (Fit (IsLabel p.region label.at) label.at) (sym other.1) (
          (λ at. let same : q ≡ p = alone q d (subst (IsUsedAt label.at) (sym f) at) in
              subst (λ (r : PlacedMark). IsLabel r.region label.at other.0) same (subst (λ k. IsLabel q.region k other.0) at other.2)),
          tt,
        )

    no_other : (q : PlacedMark) (i : Identifier) (is : List Identifier) → Contains marks q → q.mark ≡ Used (i ∷ is) → AllLabels q (Used (i ∷ is))
    no_other q i is d f =
        let other = used_one q i is d f in
        subst (Fit (IsLabel p.region label.at) label.at) (sym other.1)
        ((λ at. absurd (differs (sym f ∙ ap (λ (r : PlacedMark). r.mark) (alone q d (subst (IsUsedAt label.at) (sym f) at)) ∙ e))), tt)

    labels_fit : (q : PlacedMark) → Contains marks q → AllLabels q q.mark
    labels_fit q d = by q.mark refl
      where
        by : (m : Mark) → q.mark ≡ m → AllLabels q q.mark
        by (Used []) f = subst (AllLabels q) (sym f) tt
        by (Used (i ∷ is)) f = subst (AllLabels q) (sym f) (no_other q i is d f)
        by (Jumped l) f = subst (AllLabels q) (sym f) (same_one q l d f)
        by (Declared items) f = subst (AllLabels q) (sym f) tt
        by (Labelled l) f = subst (AllLabels q) (sym f) tt
        by (Entered heading region) f = subst (AllLabels q) (sym f) tt

    label_means : MeansLabel u p.region label.at
    unfolding resolved_of
    label_means =
        let here : uses_at o p.region p.mark ≡ record { at = label.at; target = one.0 } ∷ [] = ap (uses_at o p.region) e ∙ one.1 in
        let found = used_last (IsLabel p.region label.at) label.at (uses_at o) marks None c.0 p one.0 c.1 c.2 here one.2 (λ k lt q f. labels_fit q (k, lt, f)) in
        let l = found.2 in
        record {
          key = l.key;
          symbol = l.symbol;
          statement = l.statement;
          means = ap (option_and_then (target_meaning u (function_there label.at))) found.1 ∙ l.means;
          there = l.there;
          is_label = l.is_label;
          place = l.place;
          stands = l.stands;
          labelled = l.labelled;
          reached = l.reached;
          numbered = l.numbered;
        }

pub uses_have_meanings : UsesHaveMeanings
uses_have_meanings u h p c = mark_means u h p c p.mark refl

pub jumps_mean_labels : JumpsMeanLabels
jumps_mean_labels u h p label c e alone = label_means u h p label c e alone
