-- The bytes that the linker counts are those of the static variables.
use Rattle.std.specs.Prelude.{◌≡◌, ℕ, ◌+◌, ◌*◌, ◌≤◌, nat_lt, Bool, true, false, ◌||◌, Option, Some, None, is_some, List, [], ◌∷◌, ◌++◌, map, length, refl, if◌then◌else◌}
use Rattle.std.specs.BTreeMap.{insert_entry}
use Rattle.std.specs.Cmp.Lexicographic.{same_text, slice_cmp}
use Rattle.std.specs.List.{flat_map, list_any, sum_by}
use Rattle.std.specs.Map.{values_of}
use Rattle.std.specs.Ordering.{nat_cmp}
use Rattle.std.proofs.Common.{sym, ap, ◌∙◌, subst, arith}
use Rattle.std.proofs.lemmas.Bool.Decides.{nat_tests}
use Rattle.std.proofs.lemmas.Grind.{flat_map-append}
use Rattle.std.proofs.lemmas.List.{length-map}
use Rattle.std.proofs.lemmas.List.Sums.{sum_by-cons}
use Rattle.pli_base.specs.Name.{Name}
use Rattle.pli_base.specs.Words.{same_name, is_among}
use Rattle.pli_map.specs.Sizes.{size_of}
use Rattle.pli_world.specs.Storage.{generation_limit}
use Rattle.pli_map.specs.Variables.{byte_limit}
use Rattle.pli_program.specs.declared.kind.VariableKind.{VariableKind}
use Rattle.pli_program.specs.declared.kind.VariableKind.TheVariants.{Static, Controlled}
use Rattle.pli_type_tree.specs.Templates.{Template}
use Rattle.pli_type_tree.specs.TypedTree.{Global, OwnVariable, ExternalVariable, EntryPoint, TypedUnit}
use Rattle.pli_gen_emit.specs.Encoding.{code_of}
use Rattle.pli_gen.specs.Limits.{is_over, has_many_slots, has_many_types, initial_bytes, has_wide_number, is_too_long}
use Rattle.pli_link.specs.ModuleSize.{are_too_large, is_oversized, made_of, all_own, shared_in, variables_made}
use Rattle.pli_link.specs.Names.{Declaration, meant, shared_from, all_shared, with_declaration, first_declared, externals}
use Rattle.pli_link.proofs.Faultless.{IsSmall}
use Rattle.pli_link.proofs.Tables.{put_by, put_found}
use Rattle.pli_members.specs.Members.{Member}
use Rattle.pli_meaning_typed.specs.TypedPrograms.{made_of_kind, unless, made_for, bytes_of, all_globals}
use Rattle.pli_meaning.proofs.UnitTables.{AreDeclared, own_one, owned, made_same, coded_global, unit_shares, unit_owns}
use Rattle.pli_meaning.proofs.UnitsOfTrees.{coded_tree, AreOfMembers}

-- lists of variables, joined

bytes_joined : (xs ys : List Template) → bytes_of (xs ++ ys) ≡ bytes_of xs + bytes_of ys
bytes_joined [] ys = omega arith
bytes_joined (x ∷ xs) ys = omega (arith, bytes_joined xs ys)

length_joined : {A : Type 0} (xs ys : List A) → length (xs ++ ys) ≡ length xs + length ys
length_joined [] ys = omega arith
length_joined (x ∷ xs) ys = omega (arith, length_joined xs ys)

owned_joined : (xs ys : List Global) → owned (xs ++ ys) ≡ owned xs ++ owned ys
owned_joined xs ys = flat_map-append own_one xs ys

declared_joined : (xs ys : List Global) (ds es : List (Name × Declaration)) → AreDeclared xs ds → AreDeclared ys es → AreDeclared (xs ++ ys) (ds ++ es)
declared_joined [] ys [] es h k = k
declared_joined [] ys (d ∷ ds) es h k = absurd h
declared_joined (OwnVariable kind t ∷ xs) ys ds es h k = declared_joined xs ys ds es h k
declared_joined (ExternalVariable name kind t ∷ xs) ys [] es h k = absurd h
declared_joined (ExternalVariable name kind t ∷ xs) ys (d ∷ ds) es h k = (h.0, h.1, h.2, declared_joined xs ys ds es h.3 k)
declared_joined (EntryPoint name s ∷ xs) ys ds es h k = declared_joined xs ys ds es h k

-- what all units have
units_own : (us : List TypedUnit) → all_own (map coded_tree us) ≡ owned (all_globals us)
units_own [] = refl
units_own (u ∷ us) =
    ap (λ ts. ts ++ all_own (map coded_tree us)) (unit_owns u) ∙ ap (λ ts. owned u.globals ++ ts) (units_own us) ∙ sym (owned_joined u.globals (all_globals us))

units_share : (unit : ℕ) (us : List TypedUnit) → AreDeclared (all_globals us) (all_shared unit (map coded_tree us))
units_share unit [] = tt
units_share unit (u ∷ us) =
    declared_joined u.globals (all_globals us) (shared_from (code_of u) unit 0 (code_of u).globals) (all_shared (unit + 1) (map coded_tree us)) (unit_shares u unit) (units_share (unit + 1) us)

-- names that were declared, as the meaning and as the linker have them
abbrev Alike : List Name → List (Name × Declaration) → Type 0
Alike names before = (n : Name) → is_among n names ≡ is_some (meant before n)

abbrev templates_in_table : List (Name × Declaration) → List Template
templates_in_table es = flat_map shared_in (values_of es)

same_meant : (n name : Name) → same_name n name ≡ true → (es : List (Name × Declaration)) → is_some (meant es n) ≡ is_some (meant es name)
same_meant n name e es = ap (λ m. is_some (meant es m)) (same_text n name (sym e))

still_alike : (names : List Name) (before : List (Name × Declaration)) (d : Name × Declaration) → Alike names before → Alike (d.0 ∷ names) (with_declaration before d)
still_alike names before d all n = by (is_some (meant before d.0)) refl
  where
    told : (b : Bool) → same_name n d.0 ≡ b → is_some (meant before d.0) ≡ true → (b || is_among n names) ≡ is_some (meant before n)
    told true e is = sym (same_meant n d.0 e before ∙ is)
    told false e is = all n

    by : (b : Bool) → is_some (meant before d.0) ≡ b → is_among n (d.0 ∷ names) ≡ is_some (meant (if b then before else insert_entry (slice_cmp nat_cmp) before d.0 d.1) n)
    by true is = told (same_name n d.0) refl is
    by false is = ap (λ b. same_name n d.0 || b) (all n) ∙ sym (put_found d.0 d.1 n before is)

-- a measure that adds up over lists: bytes, or how many there are
record IsMeasure (m : List Template → ℕ) : Type 0 where
  empty : m [] ≡ 0
  joined : (xs ys : List Template) → m (xs ++ ys) ≡ m xs + m ys

module _ (m : List Template → ℕ) (adds : IsMeasure m) where
  one_first : (before : List (Name × Declaration)) (d : Name × Declaration) (kind : VariableKind) (t : Template) → d.1.kind ≡ kind → d.1.template ≡ Some t
      → (b : Bool) → is_some (meant before d.0) ≡ b
      → m (templates_in_table (with_declaration before d)) ≡ m (unless b (made_of_kind kind t)) + m (templates_in_table before)
  one_first before d kind t like has true is =
      ap (λ b. m (templates_in_table (if b then before else insert_entry (slice_cmp nat_cmp) before d.0 d.1))) is ∙ omega (arith, adds.empty)
  one_first before d kind t like has false is =
      ap (λ b. m (templates_in_table (if b then before else insert_entry (slice_cmp nat_cmp) before d.0 d.1))) is
      ∙ put_by d.0 d.1 (λ xs ys. m (templates_in_table ys) ≡ m made + m (templates_in_table xs)) here later before is
    where
      made : List Template
      made = made_of_kind kind t

      is_made : shared_in d.1 ≡ made
      is_made = ap (λ k. made_of k d.1.template) like ∙ ap (made_of kind) has ∙ made_same kind t

      here : (es : List (Name × Declaration)) → m (shared_in d.1 ++ templates_in_table es) ≡ m made + m (templates_in_table es)
      here es = ap (λ ts. m (ts ++ templates_in_table es)) is_made ∙ adds.joined made (templates_in_table es)

      later : (e : Name × Declaration) (xs ys : List (Name × Declaration)) → m (templates_in_table ys) ≡ m made + m (templates_in_table xs)
          → m (shared_in e.1 ++ templates_in_table ys) ≡ m made + m (shared_in e.1 ++ templates_in_table xs)
      later e xs ys h = omega (arith, h, adds.joined (shared_in e.1) (templates_in_table xs), adds.joined (shared_in e.1) (templates_in_table ys))

  made_measures : (gs : List Global) (ds : List (Name × Declaration)) → AreDeclared gs ds → (names : List Name) (before : List (Name × Declaration)) → Alike names before
      → m (made_for names gs) + m (templates_in_table before) ≡ m (owned gs) + m (templates_in_table (first_declared before ds))
  made_measures [] [] h names before all = omega (arith, adds.empty)
  made_measures [] (d ∷ ds) h names before all = absurd h
  made_measures (OwnVariable kind t ∷ gs) ds h names before all =
      omega (arith, adds.joined (made_of_kind kind t) (made_for names gs), adds.joined (made_of_kind kind t) (owned gs), made_measures gs ds h names before all)
  made_measures (ExternalVariable name kind t ∷ gs) [] h names before all = absurd h
  made_measures (ExternalVariable name kind t ∷ gs) (d ∷ ds) h names before all =
      let same : is_some (meant before d.0) ≡ is_among name names = sym (ap (λ n. is_among n names) (sym h.0) ∙ all d.0) in
      let here = one_first before d kind t h.1 h.2 (is_among name names) same in
      let rest = made_measures gs ds h.3 (name ∷ names) (with_declaration before d) (subst (λ n. Alike (n ∷ names) (with_declaration before d)) h.0 (still_alike names before d all)) in
      omega (arith, adds.joined (unless (is_among name names) (made_of_kind kind t)) (made_for (name ∷ names) gs), here, rest)
  made_measures (EntryPoint name s ∷ gs) ds h names before all = made_measures gs ds h names before all

  all_measures : (us : List TypedUnit) → m (made_for [] (all_globals us)) ≡ m (variables_made (map coded_tree us))
  all_measures us =
      let gs = all_globals us in
      let made = templates_in_table (externals (map coded_tree us)) in
      let counted : m (made_for [] gs) + m [] ≡ m (owned gs) + m made = made_measures gs (all_shared 0 (map coded_tree us)) (units_share 0 us) [] [] (λ n. refl) in
      omega (arith, counted, ap (λ ts. m (ts ++ made)) (units_own us), adds.empty, adds.joined (owned gs) made)

bytes_measure : IsMeasure bytes_of
bytes_measure = record { empty = refl; joined = bytes_joined }

count_measure : IsMeasure length
count_measure = record { empty = refl; joined = length_joined }

-- how large they are

sizes_are : (ts : List Template) → sum_by size_of (map (λ t. t.description) ts) ≡ bytes_of ts
sizes_are [] = refl
sizes_are (t ∷ ts) = sum_by-cons size_of t.description (map (λ (t : Template). t.description) ts) ∙ ap (λ k. size_of t.description + k) (sizes_are ts)

last_of : (a b : Bool) → a || b ≡ false → b ≡ false
last_of true b is = let bad : ⊥ = cc in absurd bad
last_of false b is = is

within : (ts : List Template) → are_too_large (map (λ t. t.description) ts) ≡ false → bytes_of ts ≤ byte_limit
within ts is =
    let few : nat_lt byte_limit (sum_by size_of (map (λ (t : Template). t.description) ts)) ≡ false = last_of (list_any is_oversized (map (λ (t : Template). t.description) ts)) _ is in
    grind (arith, nat_tests, sizes_are ts)

pub few_bytes : (us : List TypedUnit) → IsSmall (map coded_tree us) → bytes_of (made_for [] (all_globals us)) ≤ byte_limit
few_bytes us small = subst (λ k. k ≤ byte_limit) (sym (all_measures bytes_of bytes_measure us)) (within (variables_made (map coded_tree us)) small.variables)

-- how many there are

fourth_of : (a b c d e f g h i j : Bool) → a || b || c || d || e || f || g || h || i || j ≡ false → d ≡ false
fourth_of true b c d e f g h i j is = let bad : ⊥ = cc in absurd bad
fourth_of false true c d e f g h i j is = let bad : ⊥ = cc in absurd bad
fourth_of false false true d e f g h i j is = let bad : ⊥ = cc in absurd bad
fourth_of false false false true e f g h i j is = let bad : ⊥ = cc in absurd bad
fourth_of false false false false e f g h i j is = refl

few : {X : Type 0} (xs : List X) → is_over xs ≡ false → length xs ≤ 65535
few xs is = grind (arith, nat_tests)

-- of a template at most one variable is made
one_made : (kind : VariableKind) (o : Option Template) (ts : List Template) → length (made_of kind o ++ ts) ≤ length ts + 1
one_made Static None ts = omega arith
one_made Static (Some t) ts = omega arith
one_made Controlled o ts = omega arith

own_short : (gs : List Global) → length (owned gs) ≤ length gs
own_short [] = omega arith
own_short (OwnVariable kind t ∷ gs) =
    let one : length (made_of_kind kind t ++ owned gs) ≤ length (owned gs) + 1 = subst (λ ts. length (ts ++ owned gs) ≤ length (owned gs) + 1) (made_same kind t) (one_made kind (Some t) (owned gs)) in
    omega (arith, one, own_short gs)
own_short (ExternalVariable name kind t ∷ gs) = omega (arith, own_short gs)
own_short (EntryPoint name s ∷ gs) = omega (arith, own_short gs)

there_short : (es : List (Name × Declaration)) → length (templates_in_table es) ≤ length es
there_short [] = omega arith
there_short (e ∷ es) = omega (arith, one_made e.1.kind e.1.template (templates_in_table es), there_short es)

few_globals : (u : TypedUnit) → is_too_long (code_of u) ≡ false → length u.globals ≤ 65535
few_globals u is =
    let c = code_of u in
    let fits : is_over c.globals ≡ false =
    fourth_of (is_over c.descriptions) (is_over c.templates) (is_over c.values) (is_over c.globals) (is_over c.blocks) (is_over c.instructions)
    (list_any has_many_slots c.blocks) (list_any has_many_types c.descriptions) (nat_lt 16777216 (initial_bytes c)) (has_wide_number c) is in
    omega (arith, few c.globals fits, length-map u.globals (coded_global u))

few_own : (entries : List (Name × Member)) (us : List TypedUnit) → AreOfMembers entries us → length (owned (all_globals us)) ≤ 65535 * length us
few_own entries [] all = omega arith
few_own entries (u ∷ us) all =
    let joined : length (owned (all_globals (u ∷ us))) ≡ length (owned u.globals) + length (owned (all_globals us)) =
    ap length (owned_joined u.globals (all_globals us)) ∙ length_joined (owned u.globals) (owned (all_globals us)) in
    omega (arith, joined, own_short u.globals, few_globals u all.0.fits, few_own entries us all.1)

pub few_variables : (entries : List (Name × Member)) (us : List TypedUnit) → AreOfMembers entries us → IsSmall (map coded_tree us) → length (made_for [] (all_globals us)) ≤ generation_limit
few_variables entries us all small =
    let cs = map coded_tree us in
    let own : length (all_own cs) ≡ length (owned (all_globals us)) = ap length (units_own us) in
    omega (
      arith,
      all_measures length count_measure us,
      length_joined (all_own cs) (templates_in_table (externals cs)),
      own,
      few_own entries us all,
      there_short (externals cs),
      small.externals,
      small.units,
      length-map us coded_tree,
    )
