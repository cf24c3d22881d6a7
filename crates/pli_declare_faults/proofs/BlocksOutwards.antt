-- From block to block outwards, through the tables of a unit.
use Rattle.std.proofs.Common.{◌≡◌, ℕ, zero, suc, ◌+◌, ◌<◌, ◌≤◌, Bool, true, false, Option, Some, None, IfSome, List, [], ◌∷◌, ◌++◌, map, length, get_or, if◌then◌else◌, refl, sym, ap, subst, ◌∙◌, arith}
use Rattle.std.specs.List.{slice_get}
use Rattle.std.proofs.Math.ListN.{get_or-map}
use Rattle.std.proofs.lemmas.List.{length-map}
use Rattle.pli_base.specs.Name.{Name}
use Rattle.pli_declare_scopes.specs.declared.block.Declared.{Declared}
use Rattle.pli_declare_scopes.specs.declared.found.Found.{Found}
use Rattle.pli_declare_scopes.specs.declared.found.Found.TheVariants.{Nothing, One, Several}
use Rattle.pli_declare_scopes.specs.declared.found.ReferenceMeaning.TheVariants.{NotDeclared}
use Rattle.pli_declare_scopes.specs.declared.repeat.Verdict.{Verdict}
use Rattle.pli_declare_scopes.specs.Scopes.{BlockItems, Scope, declares_first, found_in, meant_there, meant_from, meant}
use Rattle.pli_declare_outline.specs.Outlines.{Region, Outline}
use Rattle.pli_declare_constructs.specs.Regions.{first_of, innermost, blocks_round, blocks_from}
use Rattle.pli_declare.specs.Tables.{Entry, with_verdicts, entries_in, verdicts_in, block_in, unit_entries, unit_block, numbers_from, table_in, scope_of, tables_of}
use Rattle.pli_declare.specs.Tables as plain
use Rattle.pli_declare_tables.specs.views.TableView.{table_view}
use Rattle.pli_declare_tables.specs.declared.table.Table.{Table}
use Rattle.pli_declare_tables.specs.declared.table.Tables.{Tables}
use Rattle.pli_declare_tables.specs.answers.Answers.{AreOf}
use Rattle.pli_declare_faults.specs.answers.Answers.{entries_at, IsWithin, IsLookedUp}
use Rattle.pli_declare_faults.specs.answers.Looking.{looked_there}
use Rattle.pli_declare.proofs.LookUpLemmas.{IsBelow, found_is_below}

-- how far a block lies inside
abbrev pub rank : Option ℕ → ℕ
rank None = 0
rank (Some n) = n + 1

wider : (count more : ℕ) (found : Found) → count ≤ more → IsBelow count found → IsBelow more found
wider count more Nothing le h = tt
wider count more (One n) le h = omega (arith, h)
wider count more Several le h = tt

judged_length : (es : List Entry) (vs : List Verdict) → length (with_verdicts es vs) ≤ length es
judged_length [] vs = omega arith
judged_length (e ∷ es) [] = omega arith
judged_length (e ∷ es) (v ∷ vs) = omega (arith, judged_length es vs)

abbrev counting : Entry → Declared
counting e = record { name = e.identifier.name; owner = None; counts = true }

unit_length : (o : Outline) → length (unit_block o) ≤ length (unit_entries o.marks)
unit_length o = omega (arith, sym (length-map (unit_entries o.marks) counting))

head_is : (ns : List ℕ) (n : ℕ) → first_of ns ≡ Some n → (rest : List ℕ) × (ns ≡ n ∷ rest)
head_is [] n h = cc
head_is (m ∷ ms) n h = (ms, cc)

-- the blocks from one on outwards, as names are looked up in them, and their tables
abbrev pub scope_from : Outline → Option ℕ → Scope
scope_from o here = map (block_in o) (blocks_from o.regions here) ++ unit_block o ∷ []

abbrev pub tables_from : Outline → Option ℕ → List (List Entry)
tables_from o here = map (entries_in o) (blocks_from o.regions here) ++ unit_entries o.marks ∷ []

-- no block inside this one declares the first name: those from it on mean what all mean
pub record IsLeft (o : Outline) (region : ℕ) (names : List Name) (here : Option ℕ) : Type 0 where
  pub out : ℕ
  pub meant : meant_from out (scope_from o here) names ≡ meant (scope_of o region) names
  pub tables : (k : ℕ) → get_or (tables_from o here) k [] ≡ get_or (tables_of o region) (out + k) []
  pub outwards : (k : ℕ) → slice_get (blocks_from o.regions here) k ≡ slice_get (blocks_round o.regions region) (out + k)
  pub itself : IfSome here (λ b. innermost o.regions b ≡ Some b)
  pub within : IfSome here (λ b. b < length o.regions)

module _ (o : Outline) (region : ℕ) (names : List Name) where
  -- the walk begins
  pub begun : (rs : List Region) → rs ≡ o.regions → (here : Option ℕ) → blocks_round rs region ≡ blocks_from rs here
      → IfSome here (λ b. innermost rs b ≡ Some b) → IfSome here (λ b. b < length rs) → IsLeft o region names here
  begun rs same here e itself within = record {
    out = 0;
    meant = ap (λ bs. meant_from 0 (map (block_in o) bs ++ unit_block o ∷ []) names) (sym shown);
    tables = λ k. ap (λ bs. get_or (map (entries_in o) bs ++ unit_entries o.marks ∷ []) k []) (sym shown) ∙ ap (λ n. get_or (tables_of o region) n []) (let on : k ≡ 0 + k = omega arith in on);
    outwards = λ k. ap (λ bs. slice_get bs k) (sym shown) ∙ ap (slice_get (blocks_round o.regions region)) (let on : k ≡ 0 + k = omega arith in on);
    itself = subst (λ ss. IfSome here (λ b. innermost ss b ≡ Some b)) same itself;
    within = subst (λ (ss : List Region). IfSome here (λ b. b < length ss)) same within;
  }
    where
      shown : blocks_round o.regions region ≡ blocks_from o.regions here
      shown = subst (λ ss. blocks_round ss region ≡ blocks_from ss here) same e

  -- what the innermost block decides is what the names mean
  found_by : (here at : Option ℕ) (w : IsLeft o region names here) → get_or (tables_from o here) 0 [] ≡ entries_at o at
      → at ≡ slice_get (blocks_from o.regions here) 0 → IsWithin o at
      → (f : Found) → IsBelow (length (entries_at o at)) f → meant_there w.out f ≡ meant (scope_of o region) names → IsLookedUp (looked_there at f) o region names
  found_by here at w entries place within Nothing lt e = sym e
  found_by here at w entries place within (One n) lt e = record {
    out = w.out;
    meant = sym e;
    place = place ∙ w.outwards 0 ∙ ap (slice_get (blocks_round o.regions region)) (let on : w.out + 0 ≡ w.out = omega arith in on);
    entries = ap (λ k. get_or (tables_of o region) k []) (let on : w.out ≡ w.out + 0 = omega arith in on) ∙ sym (w.tables 0) ∙ entries;
    within = within;
    number_within = lt;
  }
  found_by here at w entries place within Several lt e = sym e

  decided : (out : ℕ) (block : BlockItems) (outer : Scope) (b : Bool) → declares_first block names ≡ b → b ≡ true
      → meant_there out (found_in block names) ≡ meant_from out (block ∷ outer) names
  decided out block outer b e h = ap (λ c. if c then meant_there out (found_in block names) else meant_from (out + 1) outer names) (sym (e ∙ h))

  passed : (out : ℕ) (block : BlockItems) (outer : Scope) (b : Bool) → declares_first block names ≡ b → b ≡ false
      → meant_from (out + 1) outer names ≡ meant_from out (block ∷ outer) names
  passed out block outer b e h = ap (λ c. if c then meant_there out (found_in block names) else meant_from (out + 1) outer names) (sym (e ∙ h))

  module _ (n : ℕ) (w : IsLeft o region names (Some n)) (outer : List ℕ) (e : blocks_round o.regions n ≡ n ∷ outer) where
    abbrev outer_scope : Scope
    outer_scope = map (block_in o) outer ++ unit_block o ∷ []

    abbrev outer_tables : List (List Entry)
    outer_tables = map (entries_in o) outer ++ unit_entries o.marks ∷ []

    inside : scope_from o (Some n) ≡ block_in o n ∷ outer_scope
    inside = ap (λ bs. map (block_in o) bs ++ unit_block o ∷ []) e

    inside_tables : tables_from o (Some n) ≡ entries_in o n ∷ outer_tables
    inside_tables = ap (λ bs. map (entries_in o) bs ++ unit_entries o.marks ∷ []) e

    here_decides : (found : Found) → found ≡ found_in (block_in o n) names → (b : Bool) → declares_first (block_in o n) names ≡ b → b ≡ true
        → IsLookedUp (looked_there (Some n) found) o region names
    here_decides found is b f h =
        found_by (Some n) (Some n) w (ap (λ ts. get_or ts 0 []) inside_tables) (ap (λ bs. slice_get bs 0) (sym e)) w.within found
        (wider (length (block_in o n)) (length (entries_in o n)) found (judged_length (entries_in o n) (verdicts_in o n))
        (subst (IsBelow (length (block_in o n))) (sym is) (found_is_below (block_in o n) names)))
        (ap (meant_there w.out) is ∙ decided w.out (block_in o n) outer_scope b f h ∙ ap (λ bs. meant_from w.out bs names) (sym inside) ∙ w.meant)

    further : (k : ℕ) → get_or outer_tables k [] ≡ get_or (tables_of o region) (w.out + 1 + k) []
    further k =
        ap (λ ts. get_or ts (suc k) []) (sym inside_tables) ∙ w.tables (suc k)
        ∙ ap (λ m. get_or (tables_of o region) m []) (let on : w.out + suc k ≡ w.out + 1 + k = omega arith in on)

    beyond : (k : ℕ) → slice_get outer k ≡ slice_get (blocks_round o.regions region) (w.out + 1 + k)
    beyond k =
        ap (λ bs. slice_get bs (suc k)) (sym e) ∙ w.outwards (suc k)
        ∙ ap (slice_get (blocks_round o.regions region)) (let on : w.out + suc k ≡ w.out + 1 + k = omega arith in on)

  -- a block decides
  pub found_here : (n : ℕ) → IsLeft o region names (Some n) → (found : Found) → found ≡ found_in (block_in o n) names
      → (b : Bool) → declares_first (block_in o n) names ≡ b → b ≡ true → IsLookedUp (looked_there (Some n) found) o region names
  found_here n w found is b f h = let r = head_is (blocks_round o.regions n) n w.itself in here_decides n w r.0 r.1 found is b f h

  -- or those further outwards do
  pub found_further : (rs : List Region) → rs ≡ o.regions → (n : ℕ) → IsLeft o region names (Some n)
      → (next : Option ℕ) → blocks_round rs n ≡ n ∷ blocks_from rs next → IfSome next (λ m. innermost rs m ≡ Some m) → IfSome next (λ m. m < n)
      → (b : Bool) → declares_first (block_in o n) names ≡ b → b ≡ false → IsLeft o region names next
  found_further rs same n w next e itself before b f h = record {
    out = w.out + 1;
    meant = passed w.out (block_in o n) (scope_from o next) b f h ∙ ap (λ bs. meant_from w.out bs names) (sym (inside n w (blocks_from o.regions next) shown)) ∙ w.meant;
    tables = further n w (blocks_from o.regions next) shown;
    outwards = beyond n w (blocks_from o.regions next) shown;
    itself = subst (λ ss. IfSome next (λ m. innermost ss m ≡ Some m)) same itself;
    within = lower next before;
  }
    where
      shown : blocks_round o.regions n ≡ n ∷ blocks_from o.regions next
      shown = subst (λ ss. blocks_round ss n ≡ n ∷ blocks_from ss next) same e

      lower : (m : Option ℕ) → IfSome m (λ i. i < n) → IfSome m (λ i. i < length o.regions)
      lower None h = tt
      lower (Some i) h = omega (arith, h, w.within)

  module _ (w : IsLeft o region names None) where
    -- the outermost block decides
    pub found_last : (found : Found) → found ≡ found_in (unit_block o) names → (b : Bool) → declares_first (unit_block o) names ≡ b → b ≡ true
        → IsLookedUp (looked_there None found) o region names
    found_last found is b f h =
        found_by None None w refl refl tt found
        (wider (length (unit_block o)) (length (unit_entries o.marks)) found
        (unit_length o)
        (subst (IsBelow (length (unit_block o))) (sym is) (found_is_below (unit_block o) names)))
        (ap (meant_there w.out) is ∙ decided w.out (unit_block o) [] b f h ∙ w.meant)

    -- or nothing does
    pub found_nowhere : (b : Bool) → declares_first (unit_block o) names ≡ b → b ≡ false → meant (scope_of o region) names ≡ NotDeclared
    found_nowhere b f h = sym w.meant ∙ sym (passed w.out (unit_block o) [] b f h)

-- what a block answers that was read
pub asked : (block read : BlockItems) (names : List Name) (answer : Option Found) → read ≡ block → answer ≡ (if declares_first read names then Some (found_in read names) else None)
    → answer ≡ (if declares_first block names then Some (found_in block names) else None)
asked block read names answer is e = e ∙ ap (λ b. if declares_first b names then Some (found_in b names) else None) is

-- it answers where it declares the first of the names, and then what is found
pub some_asked : (block : BlockItems) (names : List Name) (answer : Option Found) (found : Found)
    → answer ≡ (if declares_first block names then Some (found_in block names) else None) → answer ≡ Some found
    → (declares_first block names ≡ true) × (found ≡ found_in block names)
some_asked block names answer found e is = by (declares_first block names) refl (sym e ∙ is)
  where
    by : (b : Bool) → declares_first block names ≡ b → (if b then Some (found_in block names) else None) ≡ Some found
        → (declares_first block names ≡ true) × (found ≡ found_in block names)
    by true d h = (d, cc)
    by false d h = cc

pub none_asked : (block : BlockItems) (names : List Name) (answer : Option Found)
    → answer ≡ (if declares_first block names then Some (found_in block names) else None) → answer ≡ None → declares_first block names ≡ false
none_asked block names answer e is = by (declares_first block names) refl (sym e ∙ is)
  where
    by : (b : Bool) → declares_first block names ≡ b → (if b then Some (found_in block names) else None) ≡ None → declares_first block names ≡ false
    by true d h = cc
    by false d h = d

-- tables by their blocks

table_there : (o : Outline) (first count k : ℕ) (otherwise : plain.Table) → k < count → get_or (map (table_in o) (numbers_from first count)) k otherwise ≡ table_in o (first + k)
table_there o first zero k otherwise lt = absurd (omega arith)
table_there o first (suc count) zero otherwise lt = ap (table_in o) (let on : first ≡ first + 0 = omega arith in on)
table_there o first (suc count) (suc k) otherwise lt =
    table_there o (first + 1) count k otherwise (omega arith) ∙ ap (table_in o) (let on : first + 1 + k ≡ first + suc k = omega arith in on)

count_length : (first count : ℕ) → length (numbers_from first count) ≡ count
count_length first zero = refl
count_length first (suc count) = omega (arith, count_length (first + 1) count)

-- the table under a number
pub table_read : (o : Outline) (ts : Tables) → AreOf ts o → (n : ℕ) (t : Table) → t ≡ get_or ts.blocks.items n t → n < length o.regions
    → table_view t ≡ table_in o n
table_read o ts are n t read lt =
    ap table_view read ∙ sym (get_or-map table_view ts.blocks.items n t) ∙ ap (λ us. get_or us n (table_view t)) are.blocks
    ∙ table_there o 0 (length o.regions + 1) n (table_view t) (omega arith) ∙ ap (table_in o) (let on : 0 + n ≡ n = omega arith in on)

-- there is one more than there are regions
pub tables_length : (o : Outline) (ts : Tables) → AreOf ts o → length ts.blocks.items ≡ length o.regions + 1
tables_length o ts are =
    sym (length-map ts.blocks.items table_view) ∙ ap length are.blocks ∙ length-map (numbers_from 0 (length o.regions + 1)) (table_in o) ∙ count_length 0 (length o.regions + 1)
