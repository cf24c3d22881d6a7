-- Of units of which no fault of linking is told, every entry has its procedure, and every external variable is like the
-- first one of its name.
use Rattle.std.specs.Prelude.{◌≡◌, ℕ, ◌+◌, zero, suc, Bool, true, false, not, cond, Option, Some, None, is_some, is_none, option_map, unwrap_or, List, [], ◌∷◌, ◌++◌, map, position, slice_get, refl, if◌then◌else◌}
use Rattle.std.specs.Cmp.Lexicographic.{nat_list_eq_equiv}
use Rattle.std.specs.List.{AllByRecursion}
use Rattle.std.specs.Map.{keys_of}
use Rattle.std.proofs.Common.{sym, ap, ◌∙◌, subst, arith, true≢false}
use Rattle.std.proofs.lemmas.Bool.{and_parts}
use Rattle.std.proofs.lemmas.Option.{slice_get-map}
use Rattle.std.specs.Option.{option_eq}
use Rattle.pli_base.specs.Name.{Name}
use Rattle.pli_base.specs.Words.{same_name, is_among}
use Rattle.pli_map.specs.Description.{Description}
use Rattle.pli_map.specs.ParameterTypes.{ParameterType, Stated}
use Rattle.pli_program.specs.declared.kind.VariableKind.{VariableKind}
use Rattle.pli_program.specs.declared.kind.VariableKind.TheVariants.{Static, Controlled}
use Rattle.pli_type_tree.specs.Templates.{Template}
use Rattle.pli_type_tree.specs.TypedTree.{Signature, Global, OwnVariable, ExternalVariable, EntryPoint, TypedUnit}
use Rattle.pli_code.specs.CodeTables.{CodedGlobal}
use Rattle.pli_gen.specs.laws.ListLaws.{all_front, all_back}
use Rattle.pli_gen_stands.specs.Linked.{AreLinks, AreUnitsOf, IsModuleOf}
use Rattle.pli_meaning_tree.specs.ProgramMeaning.{unit_named}
use Rattle.pli_meaning_typed.specs.TypedPrograms.{IsLinked, all_globals}
use Rattle.pli_type_keys.specs.Same.{same_template}
use Rattle.pli_type_keys.specs.laws.KeyLaws.{template_decides}
use Rattle.pli_link.specs.Alike.{same_kind, same_signature}
use Rattle.pli_link.specs.Link.{link_faults}
use Rattle.pli_link.specs.Links.{number_in, links_of, linked_unit, module_of}
use Rattle.pli_link.specs.Mismatches.{is_unlike_procedure, is_unlike, has_fault, name_of, each_once, faulty_in, faulty_names, faulty_in_unit, faulty_linked}
use Rattle.pli_link.specs.Names as meaning
use Rattle.pli_link.specs.Names.{Declaration, meant, procedures_from, procedures, externals, first_declaration, unit_at}
use Rattle.pli_link.specs.Units.{Compiled}
use Rattle.pli_link.specs.declared.global_fault.GlobalFault.{GlobalFault}
use Rattle.pli_link.specs.declared.global_fault.GlobalFault.TheVariants.{Unresolved, Mismatch}
use Rattle.pli_link.specs.laws.AlikeLaws.{option_decides, signature_decides}
use Rattle.pli_link.proofs.Faultless.{front_empty, back_empty, map_empty}
use Rattle.pli_link.proofs.MeantFirst.{meant_first}
use Rattle.pli_link.proofs.ExternalNumbers.{have_numbers, names_declared}
use Rattle.pli_meaning.specs.Programs.{program_of_units}
use Rattle.pli_meaning.proofs.UnitTables.{found, coded_global, IsFound, all_found, own_signature_found}
use Rattle.pli_meaning.proofs.UnitsOfTrees.{coded_tree}

-- names, each once, are none where there are none
once_filled : (before : Name) (more ns : List Name) → each_once (before ∷ more) ns ≡ [] → ⊥
once_filled before more [] e = cc
once_filled before more (n ∷ ns) e = by (is_among n (before ∷ more)) e (λ rest h. once_filled before rest ns h)
  where
    by : (b : Bool) → each_once (if b then before ∷ more else before ∷ (more ++ n ∷ [])) ns ≡ [] → ((rest : List Name) → each_once (before ∷ rest) ns ≡ [] → ⊥) → ⊥
    by true h filled = filled more h
    by false h filled = filled (more ++ n ∷ []) h

once_empty : (ns : List Name) → each_once [] ns ≡ [] → ns ≡ []
once_empty [] e = refl
once_empty (n ∷ ns) e = absurd (once_filled n [] ns e)

-- where no fault of a kind is told, no global that has a name has it
module _ (cs : List Compiled) (f : GlobalFault) where
  abbrev HasNone : Compiled → CodedGlobal → Type 0
  HasNone c g = (name : Name) → name_of g ≡ name ∷ [] → has_fault cs f c.deck.code g ≡ false

  none_in : (c : Compiled) (g : CodedGlobal) → faulty_in cs f c.deck.code g ≡ [] → HasNone c g
  none_in c g e name is = by (has_fault cs f c.deck.code g) e
    where
      by : (b : Bool) → (if b then name_of g else []) ≡ [] → b ≡ false
      by true h = let bad : name ∷ [] ≡ [] = sym is ∙ h in cc
      by false h = refl

  none_among_globals : (c : Compiled) (gs : List CodedGlobal) → faulty_names cs f c.deck.code gs ≡ [] → AllByRecursion (HasNone c) gs
  none_among_globals c [] e = tt
  none_among_globals c (g ∷ gs) e =
      (none_in c g (front_empty (faulty_in cs f c.deck.code g) (faulty_names cs f c.deck.code gs) e), none_among_globals c gs (back_empty (faulty_in cs f c.deck.code g) (faulty_names cs f c.deck.code gs) e))

  abbrev HasNoneInUnit : Compiled → Type 0
  HasNoneInUnit c = AllByRecursion (HasNone c) c.deck.code.globals

  none_in_units : (some : List Compiled) → faulty_linked cs f some ≡ [] → AllByRecursion HasNoneInUnit some
  none_in_units [] e = tt
  none_in_units (c ∷ some) e = (
    none_among_globals c c.deck.code.globals (once_empty _ (map_empty _ _ (front_empty (faulty_in_unit cs f c) (faulty_linked cs f some) e))),
    none_in_units some (back_empty (faulty_in_unit cs f c) (faulty_linked cs f some) e),
  )

some_is : {A : Type 0} (x y : A) → Some x ≡ Some y → x ≡ y
some_is x y e = cc

-- a signature is found in one way
abbrev signature_of : List ParameterType → Option Description → Signature
signature_of ps r = record { parameters = ps; result = r }

same_parameters : (ps qs : List ParameterType) → map Some ps ≡ map Some qs → ps ≡ qs
same_parameters [] [] e = refl
same_parameters [] (q ∷ qs) e = let bad : ⊥ = cc in absurd bad
same_parameters (p ∷ ps) [] e = let bad : ⊥ = cc in absurd bad
same_parameters (p ∷ ps) (q ∷ qs) e =
    let first : p ≡ q = cc in
    let rest : map Some ps ≡ map Some qs = cc in
    ap (λ x. x ∷ ps) first ∙ ap (λ xs. q ∷ xs) (same_parameters ps qs rest)

same_result : (r s : Option Description) → option_map (λ d. Some (Stated d)) r ≡ option_map (λ d. Some (Stated d)) s → r ≡ s
same_result None None e = refl
same_result None (Some s) e = let bad : ⊥ = cc in absurd bad
same_result (Some r) None e = let bad : ⊥ = cc in absurd bad
same_result (Some r) (Some s) e = let same : r ≡ s = cc in ap Some same

found_once : (a b : Signature) → found a ≡ found b → a ≡ b
found_once a b e =
    ap (λ ps. signature_of ps a.result) (same_parameters a.parameters b.parameters (ap (λ s. s.parameters) e))
    ∙ ap (signature_of b.parameters) (same_result a.result b.result (ap (λ s. s.result) e))

kinds_are_same : (a b : VariableKind) → same_kind a b ≡ true → a ≡ b
kinds_are_same Static Static e = refl
kinds_are_same Static Controlled e = absurd (true≢false (sym e))
kinds_are_same Controlled Static e = absurd (true≢false (sym e))
kinds_are_same Controlled Controlled e = refl

not_false : (b : Bool) → not b ≡ false → b ≡ true
not_false true e = refl
not_false false e = absurd (true≢false e)

all_both : {A : Type 0} (P : A → Type 0) (xs ys : List A) → AllByRecursion P xs → AllByRecursion P ys → AllByRecursion P (xs ++ ys)
all_both P [] ys h k = k
all_both P (x ∷ xs) ys h k = (h.0, all_both P xs ys h.1 k)

-- one of several
all_at : {A : Type 0} (P : A → Type 0) (xs : List A) (i : ℕ) (x : A) → AllByRecursion P xs → slice_get xs i ≡ Some x → P x
all_at P [] i x all e = let bad : ⊥ = cc in absurd bad
all_at P (y ∷ ys) zero x all e = subst P (some_is y x e) all.0
all_at P (y ∷ ys) (suc i) x all e = all_at P ys i x all.1 e

-- the unit that a name's procedure is of
record Named (us : List TypedUnit) (from : ℕ) (name : Name) (number : ℕ) : Type 0 where
  place : ℕ
  is : number ≡ from + place
  named : unit_named us name ≡ Some place
  unit : TypedUnit
  there : slice_get us place ≡ Some unit

number_named : (us : List TypedUnit) (from : ℕ) (name : Name) (number : ℕ) → meant (procedures_from from (map coded_tree us)) name ≡ Some number → Named us from name number
number_named [] from name number e = let bad : ⊥ = cc in absurd bad
number_named (u ∷ us) from name number e = by (same_name name u.procedure) refl e (number_named us (from + 1) name number)
  where
    turned : (b : Bool) → same_name name u.procedure ≡ b → same_name u.procedure name ≡ b
    turned b is = nat_list_eq_equiv.symm u.procedure name ∙ is

    by : (b : Bool) → same_name name u.procedure ≡ b → cond b (Some from) (meant (procedures_from (from + 1) (map coded_tree us)) name) ≡ Some number
        → (meant (procedures_from (from + 1) (map coded_tree us)) name ≡ Some number → Named us (from + 1) name number) → Named (u ∷ us) from name number
    by true is h later = record {
      place = 0;
      is = sym (some_is from number h) ∙ omega arith;
      named = ap (λ b. if b then Some 0 else option_map suc (unit_named us name)) (turned true is);
      unit = u;
      there = refl;
    }
    by false is h later =
        let n = later h in
        record {
          place = suc n.place;
          is = n.is ∙ omega arith;
          named = ap (λ b. if b then Some 0 else option_map suc (unit_named us name)) (turned false is) ∙ ap (option_map suc) n.named;
          unit = n.unit;
          there = n.there;
        }

module _ (us : List TypedUnit) where
  abbrev cs : List Compiled
  cs = map coded_tree us

  -- an entry of this name leads to this unit
  pub record Leads (name : Name) : Type 0 where
    pub number : ℕ
    pub means : meant (procedures (map coded_tree us)) name ≡ Some number
    pub named : unit_named us name ≡ Some number
    pub unit : TypedUnit
    pub there : slice_get us number ≡ Some unit

  first_meant : (name : Name) → meant (procedures cs) name ≡ meant (procedures_from 0 cs) name
  first_meant name = meant_first [] (procedures_from 0 cs) name

  leads : (name : Name) (o : Option ℕ) → meant (procedures cs) name ≡ o → is_none o ≡ false → Leads name
  leads name None e h = absurd (true≢false h)
  leads name (Some number) e h =
      let n = number_named us 0 name number (sym (first_meant name) ∙ e) in
      let same : n.place ≡ number = omega (arith, n.is) in
      record { number = number; means = e; named = n.named ∙ ap Some same; unit = n.unit; there = ap (slice_get us) (sym same) ∙ n.there }

  -- the linker finds that unit
  unit_found : (name : Name) (l : Leads name) → meaning.unit_named cs name ≡ Some (coded_tree l.unit)
  unit_found name l = ap (unit_at cs) l.means ∙ slice_get-map coded_tree us l.number ∙ ap (option_map coded_tree) l.there

  -- what is known of a global of a unit
  abbrev pub Fits : Global → Type 0
  Fits (OwnVariable kind t) = Unit {0}
  Fits (ExternalVariable name kind t) = (d : Declaration) × (first_declaration (map coded_tree us) name ≡ Some d) × (d.kind ≡ kind) × (d.template ≡ Some t)
  Fits (EntryPoint name s) = (l : Leads name) × (l.unit.signature ≡ s)

  entry_fits : (u : TypedUnit) (name : Name) (s : Signature) → IsFound u (EntryPoint name s)
      → HasNone cs Unresolved (coded_tree u) (coded_global u (EntryPoint name s)) → HasNone cs Mismatch (coded_tree u) (coded_global u (EntryPoint name s)) → Fits (EntryPoint name s)
  entry_fits u name s f resolved alike =
      let l = leads name (meant (procedures cs) name) refl (resolved name refl) in
      let unlike : not (same_signature (found l.unit.signature) (found s)) ≡ false =
      sym (ap (is_unlike_procedure (found s)) (unit_found name l) ∙ ap (λ t. not (same_signature t (found s))) (own_signature_found l.unit))
      ∙ sym (ap (λ t. is_unlike_procedure t (meaning.unit_named cs name)) f)
      ∙ alike name refl in
      (l, found_once l.unit.signature s ((signature_decides (found l.unit.signature) (found s)).0 (not_false _ unlike)))

  variable_fits : (u : TypedUnit) (name : Name) (kind : VariableKind) (t : Template) → IsFound u (ExternalVariable name kind t)
      → HasNone cs Mismatch (coded_tree u) (coded_global u (ExternalVariable name kind t)) → Fits (ExternalVariable name kind t)
  variable_fits u name kind t f alike =
      by (meaning.unit_named cs name) (first_declaration cs name) refl
      (sym (ap (λ o. is_unlike kind o (meaning.unit_named cs name) (first_declaration cs name)) f) ∙ alike name refl)
    where
      by : (p : Option Compiled) (o : Option Declaration) → first_declaration (map coded_tree us) name ≡ o → is_unlike kind (Some t) p o ≡ false → Fits (ExternalVariable name kind t)
      by (Some c) o e h = absurd (true≢false h)
      by None None e h = absurd (true≢false h)
      by None (Some first) e h =
          let both = and_parts (same_kind first.kind kind) (option_eq same_template first.template (Some t)) (not_false _ h) in
          (first, e, kinds_are_same first.kind kind both.0, (option_decides same_template template_decides first.template (Some t)).0 both.1)

  globals_fit : (u : TypedUnit) (gs : List Global) → AllByRecursion (IsFound u) gs
      → AllByRecursion (HasNone cs Unresolved (coded_tree u)) (map (coded_global u) gs) → AllByRecursion (HasNone cs Mismatch (coded_tree u)) (map (coded_global u) gs)
      → AllByRecursion Fits gs
  globals_fit u [] f resolved alike = tt
  globals_fit u (OwnVariable kind t ∷ gs) f resolved alike = (tt, globals_fit u gs f.1 resolved.1 alike.1)
  globals_fit u (ExternalVariable name kind t ∷ gs) f resolved alike = (variable_fits u name kind t f.0 alike.0, globals_fit u gs f.1 resolved.1 alike.1)
  globals_fit u (EntryPoint name s ∷ gs) f resolved alike = (entry_fits u name s f.0 resolved.0 alike.0, globals_fit u gs f.1 resolved.1 alike.1)

  units_fit : (some : List TypedUnit) → AllByRecursion (HasNoneInUnit cs Unresolved) (map coded_tree some) → AllByRecursion (HasNoneInUnit cs Mismatch) (map coded_tree some)
      → AllByRecursion Fits (all_globals some)
  units_fit [] resolved alike = tt
  units_fit (u ∷ some) resolved alike = all_both Fits u.globals (all_globals some) (globals_fit u u.globals (all_found u) resolved.0 alike.0) (units_fit some resolved.1 alike.1)

  pub all_fit : faulty_linked (map coded_tree us) Unresolved (map coded_tree us) ≡ [] → faulty_linked (map coded_tree us) Mismatch (map coded_tree us) ≡ []
      → AllByRecursion Fits (all_globals us)
  all_fit resolved alike = units_fit us (none_in_units cs Unresolved cs resolved) (none_in_units cs Mismatch cs alike)

  -- so the units are linked
  pub linked_where_fit : AllByRecursion Fits (all_globals us) → IsLinked us
  linked_where_fit all = record {
    entries = λ i name s e. let fit = all_at Fits (all_globals us) i (EntryPoint name s) all e in (fit.0.number, fit.0.named, (fit.0.unit, fit.0.there, fit.1));
    variables = λ i j name kind like one other e f.
        let first = all_at Fits (all_globals us) i (ExternalVariable name kind one) all e in
        let second = all_at Fits (all_globals us) j (ExternalVariable name like other) all f in
        let same : first.0 ≡ second.0 = some_is first.0 second.0 (sym first.1 ∙ second.1) in
        (sym first.2 ∙ ap (λ (d : Declaration). d.kind) same ∙ second.2, some_is one other (sym first.3 ∙ ap (λ (d : Declaration). d.template) same ∙ second.3));
  }

  -- where no fault of linking is told
  module _ (clean : link_faults (map coded_tree us) ≡ []) where
    abbrev names : List Name
    names = keys_of (externals (map coded_tree us))

    external_number : (name : Name) (kind : VariableKind) (t : Template) → Fits (ExternalVariable name kind t) → position (same_name name) names ≡ Some (number_in names name)
    external_number name kind t fit = have_numbers cs clean name (ap is_some fit.1)

    -- the links that the linker gives a unit are the numbers of its external variables and of the units of its entries
    links_are : (u : TypedUnit) (gs : List Global) → AllByRecursion Fits gs → AreLinks us names gs (links_of names (procedures cs) (map (coded_global u) gs))
    links_are u [] all = tt
    links_are u (OwnVariable kind t ∷ gs) all = links_are u gs all.1
    links_are u (ExternalVariable name kind t ∷ gs) all = (external_number name kind t all.0, links_are u gs all.1)
    links_are u (EntryPoint name s ∷ gs) all =
        let l = all.0.0 in
        (l.named ∙ ap (λ o. Some (unwrap_or o 0)) (sym l.means), links_are u gs all.1)

    units_are : (some : List TypedUnit) → AllByRecursion Fits (all_globals some) → AreUnitsOf us names some (map (linked_unit names (procedures cs)) (map coded_tree some))
    units_are [] all = tt
    units_are (u ∷ some) all = (
      record { name = refl; code = refl; links = links_are u u.globals (all_front Fits u.globals (all_globals some) all) },
      units_are some (all_back Fits u.globals (all_globals some) all),
    )

    -- and the module is that of their program
    pub module_where_fit : AllByRecursion Fits (all_globals us) → (main : ℕ) → IsModuleOf (program_of_units us main) (module_of (map coded_tree us) main)
    module_where_fit all main = record {
      units = subst (λ known. AreUnitsOf us known us (module_of cs main).units) (sym (names_declared (externals cs))) (units_are us all);
      main = refl;
      greatest = refl;
    }
