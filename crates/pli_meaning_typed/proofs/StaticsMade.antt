-- The static variables are there, where they have room.
use Rattle.std.specs.Prelude.{◌≡◌, ℕ, zero, suc, ◌+◌, ◌≤◌, ◌<◌, nat_eq, Bool, true, false, ◌&&◌, ◌||◌, Option, Some, None, List, [], ◌∷◌, ◌++◌, ◌⊎◌}
use Rattle.std.specs.Prelude.{length, map, slice_get, if◌then◌else◌, cond, refl}
use Rattle.std.specs.Cmp.Lexicographic.{same_text}
use Rattle.std.specs.Map.{lookup}
use Rattle.std.proofs.Common.{arith, sym, ap, ◌∙◌, subst, inl, inr, append_assoc, length-append}
use Rattle.std.proofs.lemmas.Bool.{eqb-true, eq-eqb}
use Rattle.pli_base.specs.Name.{Name}
use Rattle.pli_base.specs.Words.{same_name, is_among}
use Rattle.pli_map.specs.Description.{Description}
use Rattle.pli_map.specs.Sizes.{size_of}
use Rattle.pli_world.specs.Storage.{Generation, Static as AsStatic, whole, live_bytes, generation_limit}
use Rattle.pli_map.specs.Variables.{byte_limit}
use Rattle.pli_program.specs.declared.kind.VariableKind.{VariableKind}
use Rattle.pli_program.specs.declared.kind.VariableKind.TheVariants as kinds
use Rattle.pli_world.specs.World.{Standing, Lies, Stacked, Static, Stack, World, Answer, Yields, further, static_in, made_once, with_new_stack, with_static, statics_made, nothing}
use Rattle.pli_type_tree.specs.Globals.{global_variable, templates_in, kind_of, description_of, described_as}
use Rattle.pli_type_tree.specs.laws.GlobalLaws.{described_parts}
use Rattle.pli_type_tree.specs.Templates.{Template, variable_of}
use Rattle.pli_type_tree.specs.TypedTree.{Global, OwnVariable, ExternalVariable, EntryPoint, TypedUnit}
use Rattle.pli_type_tree.specs.WellTyped.{IsMade as IsMadeWell, AreMade}
use Rattle.pli_meaning_tree.specs.ProgramMeaning.{all_made}
use Rattle.pli_meaning_typed.specs.SoundWorlds.{HoldsValues, EachGood, AreStacksGood, StandsGood, AreStatics, IsLater}
use Rattle.pli_meaning_typed.specs.TypedPrograms.{all_globals, IsLinked, made_of_kind, unless, made_for, bytes_of, AreTypedUnits}
use Rattle.pli_meaning_typed.proofs.WorldLaws.{later_same, later_then, eaches_later, stands_later, stacks_later, small_near, new_generation, with_new, new_later, new_values, new_variable, room_gives}

none_some : {A : Type 0} {x : A} → None ≡ Some x → ⊥
none_some e = absurd (cc)

some_same : {A : Type 0} {x y : A} → Some x ≡ Some y → x ≡ y
some_same e = cc

more_kept : (ss : List Static) (s : Static) (unit : ℕ) (k : ℕ) (p : Standing) → static_in ss unit k ≡ Some p → static_in (ss ++ s ∷ []) unit k ≡ Some p
more_kept [] s unit k p h = absurd (none_some h)
more_kept (t ∷ ss) s unit k p h = by (nat_eq t.unit unit && nat_eq t.number k) h (more_kept ss s unit k p)
  where
    by : (b : Bool) → (if b then Some t.standing else static_in ss unit k) ≡ Some p
        → (static_in ss unit k ≡ Some p → static_in (ss ++ s ∷ []) unit k ≡ Some p)
        → (if b then Some t.standing else static_in (ss ++ s ∷ []) unit k) ≡ Some p
    by true h rest = h
    by false h rest = rest h

more_after : (ss : List Static) (s : Static) (unit : ℕ) (k : ℕ) → static_in ss unit k ≡ None
    → static_in (ss ++ s ∷ []) unit k ≡ (if nat_eq s.unit unit && nat_eq s.number k then Some s.standing else None)
more_after [] s unit k h = refl
more_after (t ∷ ss) s unit k h = by (nat_eq t.unit unit && nat_eq t.number k) h (more_after ss s unit k)
  where
    by : (b : Bool) → (if b then Some t.standing else static_in ss unit k) ≡ None
        → (static_in ss unit k ≡ None → static_in (ss ++ s ∷ []) unit k ≡ (if nat_eq s.unit unit && nat_eq s.number k then Some s.standing else None))
        → (if b then Some t.standing else static_in (ss ++ s ∷ []) unit k) ≡ (if nat_eq s.unit unit && nat_eq s.number k then Some s.standing else None)
    by true h rest = absurd (none_some (sym h))
    by false h rest = rest h

live_more : (gs : List Generation) (g : Generation) → live_bytes (gs ++ g ∷ []) ≡ live_bytes gs + size_of g.description
live_more [] g = omega arith
live_more (x ∷ gs) g = omega (arith, live_more gs g)

-- what is made after what was made
further_gives : {A B : Type 0} (a : Answer A) (go : A → World → Answer B) (y : A) (u : B) (x z : World) → a ≡ Yields y x → go y x ≡ Yields u z → further a go ≡ Yields u z
further_gives a go y u x z e f = ap (λ o. further o go) e ∙ f

-- the globals of a unit are among all

among_front : {A : Type 0} (xs ys : List A) (i : ℕ) (g : A) → slice_get xs i ≡ Some g → slice_get (xs ++ ys) i ≡ Some g
among_front [] ys i g e = absurd (none_some e)
among_front (x ∷ xs) ys zero g e = e
among_front (x ∷ xs) ys (suc i) g e = among_front xs ys i g e

among_after : (xs ys : List Global) (i : ℕ) (g : Global) → slice_get ys i ≡ Some g → (k : ℕ) × (slice_get (xs ++ ys) k ≡ Some g)
among_after [] ys i g e = (i, e)
among_after (x ∷ xs) ys i g e = let r = among_after xs ys i g e in (suc r.0, r.1)

pub global_among : (us : List TypedUnit) (i : ℕ) (u : TypedUnit) (number : ℕ) (g : Global) → slice_get us i ≡ Some u → slice_get u.globals number ≡ Some g
    → (k : ℕ) × (slice_get (all_globals us) k ≡ Some g)
global_among [] i u number g e h = absurd (none_some e)
global_among (v ∷ us) zero u number g e h =
    (number, among_front v.globals (all_globals us) number g (ap (λ u. slice_get u.globals number) (some_same e) ∙ h))
global_among (v ∷ us) (suc i) u number g e h =
    let r = global_among us i u number g e h in among_after v.globals (all_globals us) r.0 g r.1

-- what is made for globals, in parts

abbrev named_after : List Name → List Global → List Name
named_after before [] = before
named_after before (OwnVariable kind t ∷ gs) = named_after before gs
named_after before (ExternalVariable name kind t ∷ gs) = named_after (name ∷ before) gs
named_after before (EntryPoint name s ∷ gs) = named_after before gs

made_in_parts : (before : List Name) (gs hs : List Global) → made_for before (gs ++ hs) ≡ made_for before gs ++ made_for (named_after before gs) hs
made_in_parts before [] hs = refl
made_in_parts before (OwnVariable kind t ∷ gs) hs =
    ap (λ ts. made_of_kind kind t ++ ts) (made_in_parts before gs hs)
    ∙ sym (append_assoc (made_of_kind kind t) (made_for before gs) (made_for (named_after before gs) hs))
made_in_parts before (ExternalVariable name kind t ∷ gs) hs =
    ap (λ ts. unless (is_among name before) (made_of_kind kind t) ++ ts) (made_in_parts (name ∷ before) gs hs)
    ∙ sym (append_assoc (unless (is_among name before) (made_of_kind kind t)) (made_for (name ∷ before) gs) (made_for (named_after (name ∷ before) gs) hs))
made_in_parts before (EntryPoint name s ∷ gs) hs = made_in_parts before gs hs

bytes_in_parts : (ts us : List Template) → bytes_of (ts ++ us) ≡ bytes_of ts + bytes_of us
bytes_in_parts [] us = omega arith
bytes_in_parts (t ∷ ts) us = omega (arith, bytes_in_parts ts us)

-- an external variable more
abbrev first_of : Option Standing → Option Standing → Option Standing
first_of (Some p) o = Some p
first_of None o = o

shared_more : (ss : List (Name × Standing)) (key : Name) (p : Standing) (name : Name)
    → lookup (same_name name) (ss ++ (key, p) ∷ []) ≡ first_of (lookup (same_name name) ss) (cond (same_name name key) (Some p) None)
shared_more [] key p name = refl
shared_more (t ∷ ss) key p name = by (same_name name t.0) (shared_more ss key p name)
  where
    by : (b : Bool) → lookup (same_name name) (ss ++ (key, p) ∷ []) ≡ first_of (lookup (same_name name) ss) (cond (same_name name key) (Some p) None)
        → cond b (Some t.1) (lookup (same_name name) (ss ++ (key, p) ∷ []))
        ≡ first_of (cond b (Some t.1) (lookup (same_name name) ss)) (cond (same_name name key) (Some p) None)
    by true rest = refl
    by false rest = rest

first_alone : (o : Option Standing) → first_of o None ≡ o
first_alone (Some p) = refl
first_alone None = refl

-- what is declared of an external variable
abbrev Declared : List Global → Name → VariableKind → Template → Type 0
Declared all name kind t = (k : ℕ) × (slice_get all k ≡ Some (ExternalVariable name kind t))

abbrev AreAlike : List Global → Type 0
AreAlike all =
    (i j : ℕ) (name : Name) (kind like : VariableKind) (one other : Template)
    → slice_get all i ≡ Some (ExternalVariable name kind one) → slice_get all j ≡ Some (ExternalVariable name like other) → (kind ≡ like) × (one ≡ other)

-- the external variables of these names are made, and no others; each is as it is declared
abbrev IsMade : List Global → World → Name → Bool → Option Standing → Type 0
IsMade all w name true (Some p) = (kind : VariableKind) (t : Template) → Declared all name kind t → StandsGood w kind t.description p
IsMade all w name true None = ⊥
IsMade all w name false (Some p) = ⊥
IsMade all w name false None = Unit {0}

abbrev AreExternals : List Global → (before : List Name) → List (Name × Standing) → World → Type 0
AreExternals all before shared w = (name : Name) → IsMade all w name (is_among name before) (lookup (same_name name) shared)

made_later : (all : List Global) (w v : World) (name : Name) (b : Bool) (o : Option Standing) → IsLater w v → IsMade all w name b o → IsMade all v name b o
made_later all w v name true (Some p) later h = λ kind t d. stands_later w v kind t.description p later (h kind t d)
made_later all w v name true None later h = absurd h
made_later all w v name false (Some p) later h = absurd h
made_later all w v name false None later h = tt

-- what making the variables of a unit, from a number on, leaves and adds
record Grown (unit number : ℕ) (gs : List Global) (w v : World) : Type 0 where
  later : IsLater w v
  kept : (other k : ℕ) (p : Standing) → static_in w.statics other k ≡ Some p → static_in v.statics other k ≡ Some p
  apart : (other k : ℕ) → nat_eq unit other ≡ false → static_in w.statics other k ≡ None → static_in v.statics other k ≡ None
  found :
      ((k : ℕ) → number ≤ k → static_in w.statics unit k ≡ None) → (i : ℕ) (kind : VariableKind) (d : Description) → described_as kind (slice_get gs i) ≡ Some d
      → (p : Standing) × (static_in v.statics unit (number + i) ≡ Some p) × StandsGood v kind d p

-- a static more, which stands as it should
module _ (unit number : ℕ) (kind : VariableKind) (d : Description) (p : Standing) (w x : World) (same : x.statics ≡ w.statics) (later : IsLater w x)
    (good : StandsGood x kind d p) where
  abbrev with_one : World
  with_one = with_static unit number p x

  abbrev new_one : Static
  new_one = record { unit = unit; number = number; standing = p }

  statics_are : with_one.statics ≡ w.statics ++ new_one ∷ []
  statics_are = ap (λ ss. ss ++ new_one ∷ []) same

  one_later : IsLater w with_one
  one_later = record { more = later.more; lived = later.lived; stacks = later.stacks }

  one_after : IsLater x with_one
  one_after = record { more = omega arith; lived = λ n g lt h. (g, h, refl); stacks = λ n s h. (s, h, refl) }

  grown_more : (g : Global) (gs : List Global) (v : World) → kind_of (Some g) ≡ Some kind → description_of (Some g) ≡ Some d → Grown unit (suc number) gs with_one v
      → Grown unit number (g ∷ gs) w v
  grown_more g gs v kinded is m = record {
    later = later_then w with_one v one_later m.later;
    kept = λ other k q h. m.kept other k q (subst (λ ss. static_in ss other k ≡ Some q) (sym statics_are) (more_kept w.statics new_one other k q h));
    apart = λ other k e h. m.apart other k e (subst (λ ss. static_in ss other k ≡ None) (sym statics_are)
        (more_after w.statics new_one other k h ∙ ap (λ b. if b && nat_eq number k then Some p else None) e));
    found = found;
  }
    where
      unlike : (k : ℕ) → suc number ≤ k → nat_eq number k ≡ false
      unlike k le = by (nat_eq number k) refl
        where
          by : (b : Bool) → nat_eq number k ≡ b → b ≡ false
          by true e = absurd (omega (arith, eqb-true number k e, le))
          by false e = refl

      stands : (like : VariableKind) (c : Description) → described_as like (Some g) ≡ Some c → StandsGood v like c p
      stands like c e =
          let parts = described_parts like (Some g) c e in
          subst (λ k. StandsGood v k c p) (some_same (sym kinded ∙ parts.0))
          (subst (λ c. StandsGood v kind c p) (some_same (sym is ∙ parts.1)) (stands_later x v kind d p (later_then x with_one v one_after m.later) good))

      found : ((k : ℕ) → number ≤ k → static_in w.statics unit k ≡ None) → (i : ℕ) (like : VariableKind) (c : Description) → described_as like (slice_get (g ∷ gs) i) ≡ Some c
          → (q : Standing) × (static_in v.statics unit (number + i) ≡ Some q) × StandsGood v like c q
      found fresh zero like c e =
          let z : number ≡ number + 0 = omega arith in
          let here : static_in with_one.statics unit number ≡ Some p =
          ap (λ ss. static_in ss unit number) statics_are
          ∙ more_after w.statics new_one unit number (fresh number (omega arith))
          ∙ ap (λ b. if b && nat_eq number number then Some p else None) (eq-eqb unit unit refl)
          ∙ ap (λ b. if b then Some p else None) (eq-eqb number number refl) in
          (p, subst (λ n. static_in v.statics unit n ≡ Some p) z (m.kept unit number p here), stands like c e)
      found fresh (suc i) like c e =
          let z : suc number + i ≡ number + suc i = omega arith in
          let q = m.found (λ k le. ap (λ ss. static_in ss unit k) statics_are
          ∙ more_after w.statics new_one unit k (fresh k (omega (arith, le)))
          ∙ ap (λ b. if b && nat_eq number k then Some p else None) (eq-eqb unit unit refl)
          ∙ ap (λ b. if b then Some p else None) (unlike k le)) i like c e in
          (q.0, subst (λ n. static_in v.statics unit n ≡ Some q.0) z q.1, q.2)

-- the external variables stay, or one of a name is added
own_externals : (all : List Global) (before : List Name) (shared : List (Name × Standing)) (unit number : ℕ) (kind : VariableKind) (d : Description) (p : Standing) (w x : World) (same : x.statics ≡ w.statics)
    (later : IsLater w x) (good : StandsGood x kind d p) → AreExternals all before shared w → AreExternals all before shared (with_static unit number p x)
own_externals all before shared unit number kind d p w x same later good h other =
    made_later all w (with_static unit number p x) other (is_among other before) (lookup (same_name other) shared) (one_later unit number kind d p w x same later good) (h other)

named_externals : (all : List Global) → AreAlike all
    → (before : List Name) (shared : List (Name × Standing)) (unit number : ℕ) (name : Name) (kind : VariableKind) (t : Template) (p : Standing) (w x : World) (same : x.statics ≡ w.statics)
    (later : IsLater w x) (good : StandsGood x kind t.description p) → Declared all name kind t → first_of (lookup (same_name name) shared) (Some p) ≡ Some p
    → AreExternals all before shared w → AreExternals all (name ∷ before) (shared ++ (name, p) ∷ []) (with_static unit number p x)
named_externals all alike before shared unit number name kind t p w x same later good declared now h other = by (same_name other name) refl
  where
    v : World
    v = with_static unit number p x

    after : IsLater x v
    after = record { more = omega arith; lived = λ n g lt h. (g, h, refl); stacks = λ n s h. (s, h, refl) }

    this : IsMade all v name true (Some p)
    this = λ like one d. let same = alike declared.0 d.0 name kind like t one declared.1 d.1 in
        subst (λ k. StandsGood v k one.description p) same.0
        (subst (λ t. StandsGood v kind t.description p) same.1 (stands_later x v kind t.description p after good))

    by : (b : Bool) → same_name other name ≡ b → IsMade all v other (b || is_among other before) (lookup (same_name other) (shared ++ (name, p) ∷ []))
    by true e =
        subst (λ o. IsMade all v other true o)
        (sym (shared_more shared name p other
        ∙ ap (λ b. first_of (lookup (same_name other) shared) (cond b (Some p) None)) e
        ∙ ap (λ n. first_of (lookup (same_name n) shared) (Some p)) (same_text other name (sym e)) ∙ now))
        (subst (λ n. IsMade all v n true (Some p)) (sym (same_text other name (sym e))) this)
    by false e =
        subst (λ o. IsMade all v other (is_among other before) o)
        (sym (shared_more shared name p other
        ∙ ap (λ b. first_of (lookup (same_name other) shared) (cond b (Some p) None)) e ∙ first_alone (lookup (same_name other) shared)))
        (made_later all w v other (is_among other before) (lookup (same_name other) shared) (one_later unit number kind t.description p w x same later good) (h other))

stacks_kept : (unit number : ℕ) (p : Standing) (x : World) → AreStacksGood x → AreStacksGood (with_static unit number p x)
stacks_kept unit number p x good =
    stacks_later x (with_static unit number p x) (record { more = omega arith; lived = λ n g lt h. (g, h, refl); stacks = λ n s h. (s, h, refl) }) refl good

-- a stack more
last_there : {A : Type 0} (xs : List A) (y : A) → slice_get (xs ++ y ∷ []) (length xs) ≡ Some y
last_there [] y = refl
last_there (x ∷ xs) y = last_there xs y

in_one_more : {A : Type 0} (xs : List A) (y : A) (n : ℕ) (z : A) → slice_get (xs ++ y ∷ []) n ≡ Some z → (slice_get xs n ≡ Some z) ⊎ (y ≡ z)
in_one_more [] y zero z h = inr (some_same h)
in_one_more [] y (suc n) z h = absurd (none_some h)
in_one_more (x ∷ xs) y zero z h = inl h
in_one_more (x ∷ xs) y (suc n) z h = in_one_more xs y n z h

-- what making a variable comes to
record OneMade (kind : VariableKind) (t : Template) (w : World) (p : Standing) (x : World) : Type 0 where
  gives : made_once kind (variable_of t) None w ≡ Yields p x
  statics : x.statics ≡ w.statics
  stack : x.activations ≡ w.activations
  later : IsLater w x
  values : HoldsValues x
  stacks : AreStacksGood x
  good : StandsGood x kind t.description p
  bytes : live_bytes x.storage ≡ live_bytes w.storage + bytes_of (made_of_kind kind t)
  count : x.made ≡ w.made + length (made_of_kind kind t)

one_made : (kind : VariableKind) (t : Template) (w : World) → IsMadeWell (variable_of t) → HoldsValues w → AreStacksGood w
    → w.made + length (made_of_kind kind t) ≤ generation_limit → live_bytes w.storage + bytes_of (made_of_kind kind t) ≤ byte_limit
    → (p : Standing) × (x : World) × OneMade kind t w p x
one_made kinds.Static t w made values stacks few small =
    let d = t.description in
    let vs = (variable_of t).initial in
    let later = new_later d AsStatic vs w values made.1 in
    let more = live_more w.storage (new_generation d AsStatic vs w) in (
      Lies (whole w.made d),
      with_new d AsStatic vs w,
      record {
        gives = ap (λ a. further a (λ p w. Yields (Lies p) w)) (room_gives d AsStatic vs w values made.1 (omega (arith, few)) (omega (arith, small)));
        statics = refl;
        stack = refl;
        later = later;
        values = new_values d AsStatic vs w values made.1 (small_near d made.0) (omega (arith, few)) (omega (arith, small));
        stacks = stacks_later w (with_new d AsStatic vs w) later refl stacks;
        good = new_variable d AsStatic vs w values made.1 (small_near d made.0);
        bytes = omega (arith, more);
        count = omega arith;
      },
    )
one_made kinds.Controlled t w made values stacks few small = (
  Stacked (length w.stacks),
  with_new_stack (variable_of t) w,
  record {
    gives = refl;
    statics = refl;
    stack = refl;
    later = later;
    values = values;
    stacks = λ n s h. each n s (in_one_more w.stacks new n s h);
    good = (new, last_there w.stacks new, refl);
    bytes = omega arith;
    count = omega arith;
  },
)
  where
    new : Stack
    new = record { variable = variable_of t; places = [] }

    later : IsLater w (with_new_stack (variable_of t) w)
    later = record { more = omega arith; lived = λ n g lt h. (g, h, refl); stacks = λ n s h. (s, among_front w.stacks (new ∷ []) n s h, refl) }

    each : (n : ℕ) (s : Stack) → (slice_get w.stacks n ≡ Some s) ⊎ (new ≡ s)
        → IsMadeWell s.variable × EachGood (with_new_stack (variable_of t) w) s.variable.description s.places
    each n s (inl h) =
        let good = stacks n s h in (good.0, eaches_later w (with_new_stack (variable_of t) w) s.variable.description s.places later good.1)
    each n s (inr e) =
        subst (λ (s : Stack). IsMadeWell s.variable × EachGood (with_new_stack (variable_of t) w) s.variable.description s.places) e (made, tt)

module _ (all : List Global) (alike : AreAlike all) where
  -- what making the variables of a unit, from a number on, comes to
  record MakesAll (unit number : ℕ) (before : List Name) (gs : List Global) (more : List (Name × Standing)) (w v : World) : Type 0 where
    values : HoldsValues v
    stacks : AreStacksGood v
    bytes : live_bytes v.storage ≡ live_bytes w.storage + bytes_of (made_for before gs)
    count : v.made ≡ w.made + length (made_for before gs)
    stack : v.activations ≡ w.activations
    externals : AreExternals all (named_after before gs) more v
    grown : Grown unit number gs w v

  abbrev Makes : (unit number : ℕ) → List Name → List Global → World → Answer (List (Name × Standing)) → Type 0
  Makes unit number before gs w a = (v : World) × (more : List (Name × Standing)) × (a ≡ Yields more v) × MakesAll unit number before gs more w v

  -- all globals of a unit are among all
  abbrev AreAmong : List Global → Type 0
  AreAmong gs = (i : ℕ) (g : Global) → slice_get gs i ≡ Some g → (k : ℕ) × (slice_get all k ≡ Some g)

  makes_all : (gs : List Global) (unit number : ℕ) (before : List Name) (shared : List (Name × Standing)) (w : World) → HoldsValues w → AreStacksGood w → AreExternals all before shared w
      → AreMade (map variable_of (templates_in gs)) → AreAmong gs
      → w.made + length (made_for before gs) ≤ generation_limit → live_bytes w.storage + bytes_of (made_for before gs) ≤ byte_limit
      → Makes unit number before gs w (statics_made same_name unit number (map global_variable gs) shared w)
  makes_all [] unit number before shared w values stacks externals made among few small = (
    w,
    shared,
    refl,
    record {
      values = values;
      stacks = stacks;
      bytes = omega arith;
      count = omega arith;
      stack = refl;
      externals = externals;
      grown = record { later = later_same w; kept = λ other k p h. h; apart = λ other k e h. h; found = λ fresh i kind d e. absurd (none_some (described_parts kind None d e).1) };
    },
  )
  makes_all (EntryPoint entry s ∷ gs) unit number before shared w values stacks externals made among few small =
      let r = makes_all gs unit (suc number) before shared w values stacks externals made (λ i g e. among (suc i) g e) few small in
      let m = r.3 in (
        r.0,
        r.1,
        r.2,
        record {
          values = m.values;
          stacks = m.stacks;
          bytes = m.bytes;
          count = m.count;
          stack = m.stack;
          externals = m.externals;
          grown = record { later = m.grown.later; kept = m.grown.kept; apart = m.grown.apart; found = found r.0 m.grown };
        },
      )
    where
      found : (v : World) → Grown unit (suc number) gs w v → ((k : ℕ) → number ≤ k → static_in w.statics unit k ≡ None) → (i : ℕ) (kind : VariableKind) (d : Description)
          → described_as kind (slice_get (EntryPoint entry s ∷ gs) i) ≡ Some d → (p : Standing) × (static_in v.statics unit (number + i) ≡ Some p) × StandsGood v kind d p
      found v m fresh zero kind d e = absurd (none_some (described_parts kind (Some (EntryPoint entry s)) d e).1)
      found v m fresh (suc i) kind d e =
          let z : suc number + i ≡ number + suc i = omega arith in
          let q = m.found (λ k le. fresh k (omega (arith, le))) i kind d e in
          (q.0, subst (λ n. static_in v.statics unit n ≡ Some q.0) z q.1, q.2)
  makes_all (OwnVariable kind t ∷ gs) unit number before shared w values stacks externals made among few small =
      let here = made_of_kind kind t in
      let counted = length-append here (made_for before gs) in
      let summed = bytes_in_parts here (made_for before gs) in
      let o = one_made kind t w made.0 values stacks (omega (arith, few, counted)) (omega (arith, small, summed)) in
      let p = o.0 in
      let x = o.1 in
      let one = o.2 in
      let few2 : x.made + length (made_for before gs) ≤ generation_limit = omega (arith, few, counted, one.count) in
      let small2 : live_bytes x.storage + bytes_of (made_for before gs) ≤ byte_limit = omega (arith, small, summed, one.bytes) in
      let r = makes_all gs unit (suc number) before shared (with_static unit number p x) one.values (stacks_kept unit number p x one.stacks)
      (own_externals all before shared unit number kind t.description p w x one.statics one.later one.good externals) made.1 (λ i g e. among (suc i) g e) few2 small2 in
      let m = r.3 in
      let m_bytes : live_bytes r.0.storage ≡ live_bytes w.storage + bytes_of (here ++ made_for before gs) = omega (arith, m.bytes, summed, one.bytes) in
      let m_count : r.0.made ≡ w.made + length (here ++ made_for before gs) = omega (arith, m.count, counted, one.count) in (
        r.0,
        r.1,
        further_gives (made_once kind (variable_of t) None w) (λ s w. statics_made same_name unit (suc number) (map global_variable gs) shared (with_static unit number s w)) p r.1 x r.0 one.gives r.2,
        record {
          values = m.values;
          stacks = m.stacks;
          bytes = m_bytes;
          count = m_count;
          stack = m.stack ∙ one.stack;
          externals = m.externals;
          grown = grown_more unit number kind t.description p w x one.statics one.later one.good (OwnVariable kind t) gs r.0 refl refl m.grown;
        },
      )
  makes_all (ExternalVariable own kind t ∷ gs) unit number before shared w values stacks externals made among few small =
      by (is_among own before) (lookup (same_name own) shared) refl refl (externals own) few small
      (λ more x v s e f g. makes_all gs unit (suc number) (own ∷ before) more x v s e made.1 (λ i g e. among (suc i) g e) f g)
    where
      declared : Declared all own kind t
      declared = among 0 (ExternalVariable own kind t) refl

      by : (b : Bool) (o : Option Standing) → is_among own before ≡ b → lookup (same_name own) shared ≡ o → IsMade all w own b o
          → w.made + length (unless b (made_of_kind kind t) ++ made_for (own ∷ before) gs) ≤ generation_limit
          → live_bytes w.storage + bytes_of (unless b (made_of_kind kind t) ++ made_for (own ∷ before) gs) ≤ byte_limit
          → ((more : List (Name × Standing)) (x : World) → HoldsValues x → AreStacksGood x → AreExternals all (own ∷ before) more x
          → x.made + length (made_for (own ∷ before) gs) ≤ generation_limit → live_bytes x.storage + bytes_of (made_for (own ∷ before) gs) ≤ byte_limit
          → Makes unit (suc number) (own ∷ before) gs x (statics_made same_name unit (suc number) (map global_variable gs) more x))
          → Makes unit number before (ExternalVariable own kind t ∷ gs) w
          (further (made_once kind (variable_of t) o w)
          (λ s w. statics_made same_name unit (suc number) (map global_variable gs) (shared ++ (own, s) ∷ []) (with_static unit number s w)))
      by true None e f is few small rest = absurd is
      by false (Some p) e f is few small rest = absurd is
      by true (Some p) e f is few small rest =
          let later = later_same w in
          let good : StandsGood w kind t.description p = is kind t declared in
          let r = rest (shared ++ (own, p) ∷ []) (with_static unit number p w) values (stacks_kept unit number p w stacks)
          (named_externals all alike before shared unit number own kind t p w w refl later good declared (ap (λ o. first_of o (Some p)) f) externals) few small in
          let m = r.3 in (
            r.0,
            r.1,
            r.2,
            record {
              values = m.values;
              stacks = m.stacks;
              bytes = m.bytes ∙ ap (λ b. live_bytes w.storage + bytes_of (unless b (made_of_kind kind t) ++ made_for (own ∷ before) gs)) (sym e);
              count = m.count ∙ ap (λ b. w.made + length (unless b (made_of_kind kind t) ++ made_for (own ∷ before) gs)) (sym e);
              stack = m.stack;
              externals = m.externals;
              grown = grown_more unit number kind t.description p w w refl later good (ExternalVariable own kind t) gs r.0 refl refl m.grown;
            },
          )
      by false None e f is few small rest =
          let here = made_of_kind kind t in
          let counted = length-append here (made_for (own ∷ before) gs) in
          let summed = bytes_in_parts here (made_for (own ∷ before) gs) in
          let o = one_made kind t w made.0 values stacks (omega (arith, few, counted)) (omega (arith, small, summed)) in
          let p = o.0 in
          let x = o.1 in
          let one = o.2 in
          let few2 : x.made + length (made_for (own ∷ before) gs) ≤ generation_limit = omega (arith, few, counted, one.count) in
          let small2 : live_bytes x.storage + bytes_of (made_for (own ∷ before) gs) ≤ byte_limit = omega (arith, small, summed, one.bytes) in
          let r = rest (shared ++ (own, p) ∷ []) (with_static unit number p x) one.values (stacks_kept unit number p x one.stacks)
          (named_externals all alike before shared unit number own kind t p w x one.statics one.later one.good declared (ap (λ o. first_of o (Some p)) f) externals) few2 small2 in
          let m = r.3 in
          let m_bytes : live_bytes r.0.storage ≡ live_bytes w.storage + bytes_of (here ++ made_for (own ∷ before) gs) = omega (arith, m.bytes, summed, one.bytes) in
          let m_count : r.0.made ≡ w.made + length (here ++ made_for (own ∷ before) gs) = omega (arith, m.count, counted, one.count) in (
            r.0,
            r.1,
            further_gives (made_once kind (variable_of t) None w)
                (λ s w. statics_made same_name unit (suc number) (map global_variable gs) (shared ++ (own, s) ∷ []) (with_static unit number s w)) p r.1 x r.0 one.gives r.2,
            record {
              values = m.values;
              stacks = m.stacks;
              bytes = m_bytes ∙ ap (λ b. live_bytes w.storage + bytes_of (unless b here ++ made_for (own ∷ before) gs)) (sym e);
              count = m_count ∙ ap (λ b. w.made + length (unless b here ++ made_for (own ∷ before) gs)) (sym e);
              stack = m.stack ∙ one.stack;
              externals = m.externals;
              grown = grown_more unit number kind t.description p w x one.statics one.later one.good (ExternalVariable own kind t) gs r.0 refl refl m.grown;
            },
          )

  -- the variables of all units, numbered from one on: they are there, where no such unit had any
  record Made (from : ℕ) (us : List TypedUnit) (w v : World) : Type 0 where
    values : HoldsValues v
    stacks : AreStacksGood v
    later : IsLater w v
    stack : v.activations ≡ w.activations
    kept : (unit k : ℕ) (p : Standing) → static_in w.statics unit k ≡ Some p → static_in v.statics unit k ≡ Some p
    found :
        ((unit k : ℕ) → from ≤ unit → static_in w.statics unit k ≡ None) → (n : ℕ) (u : TypedUnit) → slice_get us n ≡ Some u
        → AreStatics (from + n) u.globals v

  apart_from : (from other : ℕ) → from < other → nat_eq from other ≡ false
  apart_from from other less = by (nat_eq from other) refl
    where
      by : (b : Bool) → nat_eq from other ≡ b → b ≡ false
      by true e = absurd (omega (arith, eqb-true from other e, less))
      by false e = refl

  beyond : (from : ℕ) (u : TypedUnit) (us : List TypedUnit) (before : List Name) (more : List (Name × Standing)) (w x y : World) → MakesAll from 0 before u.globals more w x → Made (suc from) us x y
      → Made from (u ∷ us) w y
  beyond from u us before more w x y m r = record {
    values = r.values;
    stacks = r.stacks;
    later = later_then w x y m.grown.later r.later;
    stack = r.stack ∙ m.stack;
    kept = λ unit k p h. r.kept unit k p (m.grown.kept unit k p h);
    found = found;
  }
    where
      found : ((unit k : ℕ) → from ≤ unit → static_in w.statics unit k ≡ None) → (i : ℕ) (v : TypedUnit) → slice_get (u ∷ us) i ≡ Some v
          → AreStatics (from + i) v.globals y
      found fresh zero v e =
          let at : from ≡ from + 0 = omega arith in
          subst (λ n. AreStatics n v.globals y) at
          (subst (λ v. AreStatics from v.globals y) (some_same e)
          (λ k kind d h. let p = m.grown.found (λ k le. fresh from k (omega arith)) k kind d h in
          let z : 0 + k ≡ k = omega arith in
          (p.0, r.kept from k p.0 (subst (λ n. static_in x.statics from n ≡ Some p.0) z p.1), stands_later x y kind d p.0 r.later p.2)))
      found fresh (suc i) v e =
          let at : suc from + i ≡ from + suc i = omega arith in
          subst (λ n. AreStatics n v.globals y) at
          (r.found (λ unit k le. m.grown.apart unit k (apart_from from unit (omega (arith, le))) (fresh unit k (omega (arith, le)))) i v e)

  all_are_made : (n from : ℕ) (us : List TypedUnit) (before : List Name) (shared : List (Name × Standing)) (w : World) → AreTypedUnits n us → HoldsValues w → AreStacksGood w → AreExternals all before shared w
      → AreAmong (all_globals us) → w.made + length (made_for before (all_globals us)) ≤ generation_limit
      → live_bytes w.storage + bytes_of (made_for before (all_globals us)) ≤ byte_limit
      → (v : World) × (all_made from us shared w ≡ Yields tt v) × Made from us w v
  all_are_made n from [] before shared w typed values stacks externals among few small =
      (w, refl, record { values = values; stacks = stacks; later = later_same w; stack = refl; kept = λ unit k p h. h; found = λ fresh i u e. absurd (none_some e) })
  all_are_made n from (u ∷ us) before shared w typed values stacks externals among few small =
      let few2 = subst (λ k. w.made + k ≤ generation_limit)
      (ap (λ ts. length ts) (made_in_parts before u.globals (all_globals us)) ∙ length-append (made_for before u.globals) (made_for (named_after before u.globals) (all_globals us))) few in
      let small2 = subst (λ k. live_bytes w.storage + k ≤ byte_limit)
      (ap (λ ts. bytes_of ts) (made_in_parts before u.globals (all_globals us)) ∙ bytes_in_parts (made_for before u.globals) (made_for (named_after before u.globals) (all_globals us))) small in
      let first = makes_all u.globals from 0 before shared w values stacks externals typed.0.made (λ i g e. among i g (among_front u.globals (all_globals us) i g e)) (omega (arith, few2)) (omega (arith, small2)) in
      let m = first.3 in
      let rest = all_are_made n (suc from) us (named_after before u.globals) first.1 first.0 typed.1 m.values m.stacks m.externals (λ i g e. let b = among_after u.globals (all_globals us) i g e in among b.0 g b.1)
      (omega (arith, few2, m.count)) (omega (arith, small2, m.bytes)) in (
        rest.0,
        further_gives (statics_made same_name from 0 (map global_variable u.globals) shared w) (λ more w. all_made (suc from) us more w) first.1 tt first.0 rest.0 first.2 rest.1,
        beyond from u us before first.1 w first.0 rest.0 m rest.2,
      )

pub statics_there : (n : ℕ) (us : List TypedUnit) → AreTypedUnits n us → IsLinked us → length (made_for [] (all_globals us)) ≤ generation_limit
    → bytes_of (made_for [] (all_globals us)) ≤ byte_limit
    → (v : World) × (all_made 0 us [] nothing ≡ Yields tt v) × HoldsValues v × AreStacksGood v × (v.activations ≡ [])
    × ((i : ℕ) (u : TypedUnit) → slice_get us i ≡ Some u → AreStatics i u.globals v)
unfolding nothing
statics_there n us typed linked few small =
    let m = all_are_made (all_globals us) linked.variables n 0 us [] [] nothing typed (λ k g h. absurd (none_some h)) (λ k s h. absurd (none_some h)) (λ name. tt) (λ i g e. (i, e)) (omega (arith, few)) (omega (arith, small)) in
    (m.0, m.1, m.2.values, m.2.stacks, m.2.stack, λ i u e. let z : 0 + i ≡ i = omega arith in subst (λ k. AreStatics k u.globals m.0) z (m.2.found (λ unit k le. refl) i u e))
