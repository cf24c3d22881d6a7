-- Globals of units, linked one after another.
use Rattle.std.proofs.Common.{◌≡◌, ℕ, suc, ◌+◌, ◌<◌, ◌≤◌, nat_eq, Option, Some, None, Result, Ok, Err, List, [], ◌∷◌, ◌++◌, length, map, take, slice_get, refl, sym, ap, subst, ◌∙◌, arith, append_assoc, append-nil}
use Rattle.std.specs.Prelude.{option_map, drop, get_or}
use Rattle.std.proofs.lemmas.List.{length-append, length-map, map-append, get_or-map, drop_more, drop_all, take_more, take_all}
use Rattle.std.proofs.lemmas.Option.{slice_get-map, slice_get-get_or, slice_get_within, get_or_from_slice_get}
use Rattle.pli_map.specs.Variables.{Variable}
use Rattle.pli_program.specs.Program.{GlobalCode, global_variable}
use Rattle.pli_program.specs.declared.kind.VariableKind.{VariableKind}
use Rattle.pli_world.specs.World.{Standing, Lies, Stacked, World, Answer, Yields, Raises, Wrong, Static, further, made_before, made_once, statics_made, with_shared, with_static}
use Rattle.pli_store.specs.declared.fault.StoreFault.{StoreFault}
use Rattle.pli_store.specs.declared.fault.StoreFault.TheVariants as fault
use Rattle.pli_store.specs.views.StorageView.{place_view}
use Rattle.pli_code.specs.CodeTables.{Code, CodedGlobal, globals_linked, global_before, there}
use Rattle.pli_machine_step.specs.Runs.{all_statics_made}
use Rattle.pli_code.specs.Modules.{Member, unit_of}
use Rattle.pli_code.specs.declared.module.Member as rust
use Rattle.pli_code.specs.views.CodeView.{code_view, member_view}
use Rattle.pli_machine_activations.specs.declared.linked.LinkedGlobal.{LinkedGlobal}
use Rattle.pli_machine_activations.specs.declared.linked.LinkedGlobal.TheVariants as linked
use Rattle.pli_machine_loading.specs.declared.shared.Shared.{Shared}
use Rattle.pli_machine_loading.specs.declared.standing.Standing.{Standing as CodeStanding}
use Rattle.pli_machine_loading.specs.declared.standing.Standing.TheVariants as code
use Rattle.pli_machine_loading.specs.views.StandingView.{standing_view}
use Rattle.pli_machine_activations.specs.answers.Making.{EndsAs}
use Rattle.pli_machine_loading.specs.answers.MadeGlobals.{world_at, AreKnown, PlacedKnown, global_of, as_global, number_after, NextLinked, Links, UnitLinked, LinksUnit, AllLinked, EndsEarlier}
use Rattle.pli_machine_activations.specs.views.TableView.{statics_from, all_statics, entry_in, entry_of}
use Rattle.pli_machine_activations.proofs.MadeVariables.{further_ends}

-- one table after another
pub statics_more : (unit first : ℕ) (xs ys : List LinkedGlobal)
    → statics_from unit first (xs ++ ys) ≡ statics_from unit first xs ++ statics_from unit (first + length xs) ys
statics_more unit first [] ys = ap (λ n. statics_from unit n ys) (omega arith)
statics_more unit first (linked.Variable p ∷ xs) ys =
    ap (λ ss. record { unit = unit; number = first; standing = Lies (place_view p) } ∷ ss)
    (statics_more unit (suc first) xs ys ∙ ap (λ n. statics_from unit (suc first) xs ++ statics_from unit n ys) (omega arith))
statics_more unit first (linked.ControlledVariable stack ∷ xs) ys =
    ap (λ ss. record { unit = unit; number = first; standing = Stacked stack } ∷ ss)
    (statics_more unit (suc first) xs ys ∙ ap (λ n. statics_from unit (suc first) xs ++ statics_from unit n ys) (omega arith))
statics_more unit first (linked.EntryPoint other ∷ xs) ys =
    statics_more unit (suc first) xs ys ∙ ap (λ n. statics_from unit (suc first) xs ++ statics_from unit n ys) (omega arith)

-- a variable as a global stands where it stands, and is no entry
statics_of : (unit number : ℕ) (s : CodeStanding) → statics_from unit number (global_of s ∷ []) ≡ record { unit = unit; number = number; standing = standing_view s } ∷ []
statics_of unit number (code.Lies p) = refl
statics_of unit number (code.Stacked stack) = refl

no_entry_of : (s : CodeStanding) → entry_of (global_of s) ≡ None
no_entry_of (code.Lies p) = refl
no_entry_of (code.Stacked stack) = refl

-- what is equal ends as the other does
pub ends_for : {A : Type 0} (f : StoreFault) (a b : Answer A) (w : World) → a ≡ b → EndsAs f b w → EndsAs f a w
ends_for f a b w is ends = subst (λ x. EndsAs f x w) (sym is) ends

module _ (unit number : ℕ) (statics : List Static) (externals : List (ℕ × Standing)) (globals left : List GlobalCode) where
  abbrev made_of_all : List GlobalCode → World → Answer (List (ℕ × Standing))
  made_of_all gs w = statics_made nat_eq unit number (map global_variable gs) externals w

  -- no global is there
  pub none_links : (s : Shared) → AreKnown s externals → globals ≡ left → NextLinked unit number statics externals globals left s s None
  none_links s known is = record {
    after = externals;
    made =
        ap (λ gs. made_of_all gs (world_at s statics)) is
        ∙ ap (λ ss. made_of_all left (world_at s ss)) (sym (append-nil statics));
    same = ap (map entry_in) is;
    known = known;
  }

  -- one that is no variable that is made
  pub other_links : (s : Shared) (code : GlobalCode) (g : LinkedGlobal) → AreKnown s externals → globals ≡ code ∷ left
      → global_variable code ≡ None → statics_from unit number (g ∷ []) ≡ [] → entry_in code ≡ entry_of g
      → NextLinked unit number statics externals globals left s s (Some g)
  other_links s code g known is none no_statics entry =
      let w = world_at s statics in record {
        after = externals;
        made =
            ap (λ gs. made_of_all gs w) is
            ∙ ap (λ v. statics_made nat_eq unit number (v ∷ map global_variable left) externals w) none
            ∙ ap (λ ss. statics_made nat_eq unit (suc number) (map global_variable left) externals (world_at s ss))
            (sym (ap (λ ss. statics ++ ss) no_statics ∙ append-nil statics));
        same = ap (map entry_in) is ∙ ap (λ e. e ∷ map entry_in left) entry;
        known = known;
      }

-- a variable that units know by this, if they share it
module _ (c : Code) (unit number : ℕ) (statics : List Static) (externals : List (ℕ × Standing)) (left : List GlobalCode) (global : Variable → GlobalCode) (kind : VariableKind) (external : Option ℕ)
    (variable : (v : Variable) → global_variable (global v) ≡ Some (record { kind = kind; global = record { external = external; variable = v } }))
    (no_entry : (v : Variable) → entry_in (global v) ≡ None)
    (old new : Shared) where
  abbrev all : Option Variable → List GlobalCode
  all v = global_before c (option_map global v) left

  abbrev going : Standing → World → Answer (List (ℕ × Standing))
  going p w = statics_made nat_eq unit (suc number) (map global_variable left) (with_shared external p externals) (with_static unit number p w)

  abbrev first : World
  first = world_at old statics

  one_first : (v : Variable) → statics_made nat_eq unit number (map global_variable (all (Some v))) externals first
      ≡ further (made_once kind v (made_before nat_eq external externals) first) going
  one_first v = ap (λ g. statics_made nat_eq unit number (g ∷ map global_variable left) externals first) (variable v)

  pub variable_links : (v : Option Variable) (r : Result (Option CodeStanding) StoreFault) → PlacedKnown kind v external old new statics externals r
      → Links unit number statics externals (all v) left old new (as_global r)
  variable_links (Some v) (Ok (Some s)) placed = record {
    after = with_shared external (standing_view s) externals;
    made =
        one_first v ∙ ap (λ a. further a going) placed.placed
        ∙ ap (λ ss. statics_made nat_eq unit (suc number) (map global_variable left) (with_shared external (standing_view s) externals) (world_at new (statics ++ ss)))
        (sym (statics_of unit number s));
    same = ap (λ e. e ∷ map entry_in left) (no_entry v ∙ sym (no_entry_of s));
    known = placed.known;
  }
  variable_links (Some v) (Ok None) placed = absurd placed.placed
  variable_links (Some v) (Err f) placed =
      ends_for f (statics_made nat_eq unit number (map global_variable (all (Some v))) externals first)
      (further (made_once kind v (made_before nat_eq external externals) first) going) (world_at new statics) (one_first v)
      (further_ends f (made_once kind v (made_before nat_eq external externals) first) going (world_at new statics) placed.placed)
  variable_links None (Ok (Some s)) placed = absurd placed.placed
  variable_links None (Ok None) placed = record {
    after = externals;
    made =
        ap (statics_made nat_eq unit number (map global_variable left) externals) (sym placed.placed)
        ∙ ap (λ ss. statics_made nat_eq unit number (map global_variable left) externals (world_at new ss)) (sym (append-nil statics));
    same = refl;
    known = placed.known;
  }
  variable_links None (Err f) placed = absurd placed.placed

-- those so far among all globals of a unit, after which some are left; the external variables that are made then
pub record SoFar (unit : ℕ) (all left : List GlobalCode) (statics : List Static) (externals : List (ℕ × Standing)) (old now : Shared) (table : List LinkedGlobal) : Type 0 where
  pub after : List (ℕ × Standing)
  pub made :
      statics_made nat_eq unit 0 (map global_variable all) externals (world_at old statics)
      ≡ statics_made nat_eq unit (length table) (map global_variable left) after (world_at now (statics ++ statics_from unit 0 table))
  pub same : map entry_in all ≡ map entry_of table ++ map entry_in left
  pub known : AreKnown now after

pub none_so_far : (unit : ℕ) (all : List GlobalCode) (statics : List Static) (externals : List (ℕ × Standing)) (old : Shared) (table : List LinkedGlobal)
    → table ≡ [] → AreKnown old externals → SoFar unit all all statics externals old old table
none_so_far unit all statics externals old table none known = subst (SoFar unit all all statics externals old old) (sym none) (record {
  after = externals;
  made = ap (λ ss. statics_made nat_eq unit 0 (map global_variable all) externals (world_at old ss)) (sym (append-nil statics));
  same = refl;
  known = known;
})

length_there : (table : List LinkedGlobal) (g : Option LinkedGlobal) → number_after (length table) g ≡ length (table ++ there g)
length_there table None = ap length (sym (append-nil table))
length_there table (Some g) = omega (arith, length-append table (g ∷ []))

module _ (unit : ℕ) (all left : List GlobalCode) (statics : List Static) (externals : List (ℕ × Standing)) (old now : Shared) (table : List LinkedGlobal)
    (so : SoFar unit all left statics externals old now table) where
  -- one more
  pub so_far_more : (more : List GlobalCode) (new : Shared) (last : List LinkedGlobal) (g : Option LinkedGlobal) → last ≡ table ++ there g
      → NextLinked unit (length table) (statics ++ statics_from unit 0 table) so.after left more now new g → SoFar unit all more statics externals old new last
  so_far_more more new last g is next =
      let joined : (statics ++ statics_from unit 0 table) ++ statics_from unit (length table) (there g) ≡ statics ++ statics_from unit 0 last =
      append_assoc statics (statics_from unit 0 table) (statics_from unit (length table) (there g))
      ∙ ap (λ ss. statics ++ ss)
      (ap (λ n. statics_from unit 0 table ++ statics_from unit n (there g)) (omega arith) ∙ sym (statics_more unit 0 table (there g)) ∙ ap (statics_from unit 0) (sym is)) in
      record {
        after = next.after;
        made =
            so.made ∙ next.made
            ∙ ap (λ n. statics_made nat_eq unit n (map global_variable more) next.after
            (world_at new ((statics ++ statics_from unit 0 table) ++ statics_from unit (length table) (there g))))
            (length_there table g ∙ ap length (sym is))
            ∙ ap (λ ss. statics_made nat_eq unit (length last) (map global_variable more) next.after (world_at new ss)) joined;
        same =
            so.same ∙ ap (λ es. map entry_of table ++ es) next.same
            ∙ sym (append_assoc (map entry_of table) (map entry_of (there g)) (map entry_in more))
            ∙ ap (λ es. es ++ map entry_in more) (sym (map-append entry_of table (there g)) ∙ ap (map entry_of) (sym is));
        known = next.known;
      }

  -- it ends so
  pub so_far_ends : (more : List GlobalCode) (new : Shared) (f : StoreFault)
      → Links unit (length table) (statics ++ statics_from unit 0 table) so.after left more now new (Err f)
      → LinksUnit unit all statics externals old new table (Err f)
  so_far_ends more new f ends = ends_for f _ _ (world_at new (statics ++ statics_from unit 0 table)) so.made ends

  -- none is left
  pub so_far_all : left ≡ [] → UnitLinked unit all statics externals old now table
  so_far_all none = record {
    after = so.after;
    made = so.made ∙ ap (λ gs. statics_made nat_eq unit (length table) (map global_variable gs) so.after (world_at now (statics ++ statics_from unit 0 table))) none;
    same = so.same ∙ ap (λ gs. map entry_of table ++ map entry_in gs) none ∙ append-nil (map entry_of table);
    known = so.known;
  }

-- elements of a list, seen so, from one on
pub left_at : {A B : Type 0} (f : A → B) (items xs : List A) (i : ℕ) (x : A) → xs ≡ items → i < length xs → x ≡ get_or xs i x
    → drop i (map f items) ≡ f x ∷ drop (i + 1) (map f items)
left_at f items xs i x same within is =
    let sized : i < length (map f items) = omega (arith, within, ap length same, length-map items f) in
    drop_more (map f items) i (f x) sized
    ∙ ap (λ y. y ∷ drop (i + 1) (map f items))
    (get_or-map f items i x (f x) (omega (arith, within, ap length same)) ∙ ap f (ap (λ ys. get_or ys i x) (sym same) ∙ sym is))

pub none_left : {A B : Type 0} (f : A → B) (items xs : List A) (i : ℕ) → xs ≡ items → length xs ≤ i → drop i (map f items) ≡ []
none_left f items xs i same past = drop_all i (map f items) (omega (arith, past, ap length same, length-map items f))

-- the globals of the unit of a number so far, after which these are left
abbrev pub GlobalsSoFar : rust.Member → (unit : ℕ) → (left : List CodedGlobal) → (taken : ℕ) → List Static → List (ℕ × Standing)
    → (old now : Shared) → List LinkedGlobal → Type 0
GlobalsSoFar u unit left taken statics externals old now table =
    SoFar unit (unit_of (member_view u)).globals (globals_linked (code_view u.deck.code) left (drop taken u.links.items)) statics externals old now table

-- the unit of a number
pub unit_here : (items xs : List rust.Member) (i : ℕ) (x : rust.Member) → xs ≡ items → i < length xs → x ≡ get_or xs i x
    → slice_get (map member_view items) i ≡ Some (member_view x)
unit_here items xs i x same within is =
    slice_get-map member_view items i
    ∙ ap (option_map member_view) (ap (λ ys. slice_get ys i) (sym same) ∙ slice_get-get_or xs i x within ∙ ap Some (sym is))

-- one table more
all_more : (from : ℕ) (tables : List (List LinkedGlobal)) (t : List LinkedGlobal)
    → all_statics from (tables ++ t ∷ []) ≡ all_statics from tables ++ statics_from (from + length tables) 0 t
all_more from [] t = append-nil (statics_from from 0 t) ∙ ap (λ k. statics_from k 0 t) (omega arith)
all_more from (s ∷ tables) t =
    ap (λ ss. statics_from from 0 s ++ ss) (all_more (suc from) tables t ∙ ap (λ k. all_statics (suc from) tables ++ statics_from k 0 t) (omega arith))
    ∙ sym (append_assoc (statics_from from 0 s) (all_statics (suc from) tables) (statics_from (from + length (s ∷ tables)) 0 t))

-- units so far, of a module
abbrev pub entries_in : Member → List (Option ℕ)
entries_in u = map entry_in (unit_of u).globals

pub record UnitsSoFar (us : List Member) (i : ℕ) (old now : Shared) (tables : List (List LinkedGlobal)) : Type 0 where
  pub externals : List (ℕ × Standing)
  pub made :
      all_statics_made 0 (map unit_of us) [] (world_at old [])
      ≡ all_statics_made i (map unit_of (drop i us)) externals (world_at now (all_statics 0 tables))
  pub known : AreKnown now externals
  pub same : map entries_in (take i us) ≡ map (map entry_of) tables
  pub count : length tables ≡ i

pub units_none : (us : List Member) (old : Shared) (tables : List (List LinkedGlobal)) → tables ≡ [] → AreKnown old [] → UnitsSoFar us 0 old old tables
units_none us old tables none known =
    let empty : all_statics 0 tables ≡ [] = ap (all_statics 0) none in
    record {
      externals = [];
      made = ap (λ ss. all_statics_made 0 (map unit_of us) [] (world_at old ss)) (sym empty);
      known = known;
      same = ap (map (map entry_of)) (sym none);
      count = ap length none;
    }

module _ (us : List Member) (u : Member) (i : ℕ) (old now new : Shared) (tables : List (List LinkedGlobal)) (t : List LinkedGlobal) where
  abbrev before : List Static
  before = all_statics 0 tables

  next_unit : slice_get us i ≡ Some u → drop i us ≡ u ∷ drop (i + 1) us
  next_unit is =
      drop_more us i u (slice_get_within us i u is) ∙ ap (λ v. v ∷ drop (i + 1) us) (get_or_from_slice_get us i u u is)

  -- what the globals of this unit come to
  units_as : (a : Answer (List (ℕ × Standing))) → slice_get us i ≡ Some u → (so : UnitsSoFar us i old now tables)
      → statics_made nat_eq i 0 (map global_variable (unit_of u).globals) so.externals (world_at now before) ≡ a
      → all_statics_made 0 (map unit_of us) [] (world_at old [])
      ≡ further a (λ more w. all_statics_made (suc i) (map unit_of (drop (i + 1) us)) more w)
  units_as a here so comes =
      so.made
      ∙ ap (λ vs. all_statics_made i (map unit_of vs) so.externals (world_at now before)) (next_unit here)
      ∙ ap (λ a. further a (λ more w. all_statics_made (suc i) (map unit_of (drop (i + 1) us)) more w)) comes

  pub units_more : (last : List (List LinkedGlobal)) → last ≡ tables ++ t ∷ [] → slice_get us i ≡ Some u → (so : UnitsSoFar us i old now tables)
      → UnitLinked i (unit_of u).globals before so.externals now new t → UnitsSoFar us (i + 1) old new last
  units_more last is here so one =
      let within = slice_get_within us i u here in
      let at : 0 + length tables ≡ i = omega (arith, so.count) in
      let joined : all_statics 0 last ≡ before ++ statics_from i 0 t =
      ap (all_statics 0) is ∙ all_more 0 tables t ∙ ap (λ k. before ++ statics_from k 0 t) at in
      let next : suc i ≡ i + 1 = omega arith in
      record {
        externals = one.after;
        made =
            units_as (Yields one.after (world_at new (before ++ statics_from i 0 t))) here so one.made
            ∙ ap (λ ss. all_statics_made (suc i) (map unit_of (drop (i + 1) us)) one.after (world_at new ss)) (sym joined)
            ∙ ap (λ k. all_statics_made k (map unit_of (drop (i + 1) us)) one.after (world_at new (all_statics 0 last))) next;
        known = one.known;
        same =
            ap (map entries_in) (take_more us i u within ∙ ap (λ v. take i us ++ v ∷ []) (get_or_from_slice_get us i u u here))
            ∙ map-append entries_in (take i us) (u ∷ []) ∙ ap (λ es. es ++ entries_in u ∷ []) so.same ∙ ap (λ e. map (map entry_of) tables ++ e ∷ []) one.same
            ∙ sym (map-append (map entry_of) tables (t ∷ [])) ∙ ap (map (map entry_of)) (sym is);
        count = ap length is ∙ length-append tables (t ∷ []) ∙ ap (λ n. n + 1) so.count;
      }

  pub units_end : (f : StoreFault) → slice_get us i ≡ Some u → (so : UnitsSoFar us i old now tables)
      → LinksUnit i (unit_of u).globals before so.externals now new t (Err f) → EndsEarlier f (all_statics_made 0 (map unit_of us) [] (world_at old []))
  units_end (fault.Raised e) here so ends = record {
    storage = new.storage;
    stacks = new.stacks;
    statics = before ++ statics_from i 0 t;
    ends = units_as (Raises e (world_at new (before ++ statics_from i 0 t))) here so ends;
  }
  units_end fault.NoRule here so ends = units_as Wrong here so ends
  units_end fault.OutOfMemory here so ends = tt

pub units_all : (us : List Member) (i : ℕ) (old now : Shared) (tables : List (List LinkedGlobal)) → length us ≤ i → UnitsSoFar us i old now tables → AllLinked us old now tables
units_all us i old now tables past so = record {
  made = so.made ∙ ap (λ vs. all_statics_made i (map unit_of vs) so.externals (world_at now (all_statics 0 tables))) (drop_all i us past);
  same = ap (map entries_in) (sym (take_all i us past)) ∙ so.same;
}
