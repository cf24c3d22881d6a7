-- The operations keep worlds sound, and none is wrong where what it needs is there.
use Rattle.std.specs.Prelude.{◌≡◌, ◌≢◌, ℕ, zero, suc, ◌+◌, ◌≤◌, ◌<◌, ◌^◌, nat_eq, nat_lt, nat_le, Bool, true, false, not}
use Rattle.std.specs.Prelude.{◌&&◌, IsTrue, Option, Some, None, List, [], ◌∷◌, ◌++◌, ◌⊎◌, length, map, slice_get}
use Rattle.std.specs.Prelude.{if◌then◌else◌, refl, option_map}
use Rattle.std.proofs.Common.{arith, sym, ap, ◌∙◌, subst, inl, inr, append_assoc, append-nil, lt-ltb, ltb-true, le-leb, leb-true, true≢false}
use Rattle.std.proofs.lemmas.Bool.{eqb-true, eq-eqb}
use Rattle.pli_base.specs.Name.{Name}
use Rattle.pli_run.specs.declared.ending.Ending.TheVariants as message
use Rattle.pli_run.specs.declared.ending.RunError.{RunError}
use Rattle.pli_run.specs.declared.ending.RunError.TheVariants.{DeadLocator, DescriptionMismatch, StorageLimit}
use Rattle.std.proofs.lemmas.Option.{slice_get-map}
use Rattle.pli_map.specs.Description.{Description}
use Rattle.pli_map.specs.ParameterTypes.{ParameterType, Stated}
use Rattle.pli_map.specs.Same.{same}
use Rattle.pli_map.specs.laws.SameLaws.{same_decides}
use Rattle.pli_map.specs.Scalars.{first_scalar, is_area, is_scalar, scalars_in, scalars_of}
use Rattle.pli_map.proofs.ScalarLawsHold.{whole_found, scalars_lie_within}
use Rattle.pli_map.specs.Sizes.{size_of}
use Rattle.pli_world.specs.Activations.{Activation, Head, with_newest, without_newest}
use Rattle.pli_world.specs.Ends.{error_told}
use Rattle.pli_world.specs.Areas.{with_area}
use Rattle.pli_world.specs.Storage.{Block, Generation, Made, Automatic, Dummy, Place, Contents, contents_of, whole, generation_in, scalar_at, values_from, with_values_at}
use Rattle.pli_world.specs.Storage.{block_at, with_values, with_block_values, with_blocks, with_contents, without, live_bytes, generation_limit, offset_limit}
use Rattle.pli_map.specs.Variables.{byte_limit}
use Rattle.pli_map.specs.Values.{holds, are_held}
use Rattle.pli_program.specs.declared.kind.VariableKind.{VariableKind}
use Rattle.pli_program.specs.declared.kind.VariableKind.TheVariants as kinds
use Rattle.pli_world.specs.World.{Standing, Lies, Stacked, World, Answer, Yields, Raises, Wrong, further, known, made_of, unless_replaced, led_into, used, parts_held, unless_dead}
use Rattle.pli_world.specs.World.{parts_stored, single, held, stored, copied, in_newest, with_slot, made_all}
use Rattle.pli_map.specs.Variables.{Variable}
use Rattle.pli_world.specs.World.{without_handed, begun_in, entered, ended_with, prepared_by, left_by, cleared, at_statement, stepped, dummy_of}
use Rattle.pli_world.specs.World.{static_in, printed, line_ended, error_in, error_at}
use Rattle.pli_value.specs.Value.{Value}
use Rattle.pli_type_tree.specs.TypedTree.{TypedUnit}
use Rattle.pli_type_tree.specs.WellTyped.{AreHeld, AreMade, KnownProcedure}
use Rattle.pli_meaning_typed.specs.SoundWorlds.{IsPartAt, IsNear, HasPart, IsGood, IsWhole, IsOwn, IsVariable, IsPassed, AreGood, IsOwnSlot, AreSlots, AreSoundBlocks, IsHolding, HoldsValues, Known, Shape, AreShaped, HaveOnUnits, AreOfUnits, EachGood, AreStacksGood, StandsGood, AreStatics}
use Rattle.pli_meaning_typed.specs.SoundWorlds.{IsSound, IsLater, IsTold, Answers}
use Rattle.pli_meaning_tree.specs.Parts.{unit_names}
use Rattle.pli_meaning_typed.proofs.BlockLemmas.{block_found, values_put}
use Rattle.pli_meaning_typed.proofs.Parts.{part_held, part_stored}
use Rattle.pli_meaning_typed.proofs.PartsWithin.{scalar_first}
use Rattle.pli_meaning_typed.proofs.UnitLemmas.{units_kept, older_units, HasNone, none_kept, none_there, reshaped}
use Rattle.pli_meaning_typed.proofs.StorageLemmas.{appended, holding, reblocked, still_described, values_replaced, blocks_replaced, lived_before}

some_same : {A : Type 0} {x y : A} → Some x ≡ Some y → x ≡ y
some_same e = cc

-- later worlds

pub later_same : (w : World) → IsLater w w
later_same w = record { more = omega arith; lived = λ n g lt h. (g, h, refl); stacks = λ n s h. (s, h, refl) }

pub later_then : (u v w : World) → IsLater u v → IsLater v w → IsLater u w
later_then u v w f g = record {
  more = omega (arith, f.more, g.more);
  lived = λ n x lt h.
      let y = g.lived n x (omega (arith, lt, f.more)) h in
      let z = f.lived n y.0 lt y.1 in
      (z.0, z.1, z.2 ∙ y.2);
  stacks = λ n s h.
      let x = f.stacks n s h in
      let y = g.stacks n x.0 x.1 in
      (y.0, y.1, y.2 ∙ x.2);
}

pub part_later : (v w : World) (p : Place) (offset : ℕ) (d : Description) → IsLater v w → p.generation < v.made → HasPart v p offset d → HasPart w p offset d
part_later v w p offset d later made h = (
  λ outside x e. let old = later.lived p.generation x made e in subst (λ e. IsPartAt e offset d) old.2 (h.0 outside old.0 old.1),
  h.1,
)

pub good_later : (v w : World) (d : Description) (p : Place) → IsLater v w → IsGood v d p → IsGood w d p
good_later v w d p later g = record {
  was_made = omega (arith, g.was_made, later.more);
  described = g.described;
  near = g.near;
  part = part_later v w p p.offset d later g.was_made g.part;
}

pub own_later : (v w : World) (d : Description) (p : Place) → IsLater v w → IsOwn v d p → IsOwn w d p
own_later v w d p later h = (
  good_later v w d p later h.0,
  record {
    begins = h.1.begins;
    all = λ outside g e. let old = later.lived p.generation g h.0.was_made e in sym old.2 ∙ h.1.all outside old.0 old.1;
    block = h.1.block;
  },
)

pub variable_later : (v w : World) (d : Description) (p : Place) → IsLater v w → IsVariable v d p → IsVariable w d p
variable_later v w d p later h = (own_later v w d p later h.0, h.1)

pub passed_later : (v w : World) (t : ParameterType) (p : Place) → IsLater v w → IsPassed v t p → IsPassed w t p
passed_later v w t p later h = (h.0, h.1, good_later v w h.0 p later h.2, λ is. variable_later v w h.0 p later (h.3 is))

pub goods_later : (v w : World) (ts : List ParameterType) (ps : List Place) → IsLater v w → AreGood v ts ps → AreGood w ts ps
goods_later v w [] [] later g = tt
goods_later v w [] (p ∷ ps) later g = absurd g
goods_later v w (t ∷ ts) [] later g = absurd g
goods_later v w (t ∷ ts) (p ∷ ps) later g = (passed_later v w t p later g.0, goods_later v w ts ps later g.1)

own_slot_later : (v w : World) (t : ParameterType) (p : Place) → IsLater v w → IsOwnSlot v t p → IsOwnSlot w t p
own_slot_later v w t p later h = (h.0, h.1, variable_later v w h.0 p later h.2)

slots_later : (v w : World) (ts : List ParameterType) (ps : List Place) (n : ℕ) → IsLater v w → AreSlots v ts ps n → AreSlots w ts ps n
slots_later v w [] [] n later h = tt
slots_later v w [] (p ∷ ps) n later h = absurd h
slots_later v w (t ∷ ts) [] n later h = absurd h
slots_later v w (t ∷ ts) (p ∷ ps) zero later h = (own_slot_later v w t p later h.0, slots_later v w ts ps zero later h.1)
slots_later v w (t ∷ ts) (p ∷ ps) (suc n) later h = (passed_later v w t p later h.0, slots_later v w ts ps n later h.1)

pub eaches_later : (v w : World) (d : Description) (ps : List Place) → IsLater v w → EachGood v d ps → EachGood w d ps
eaches_later v w d [] later h = tt
eaches_later v w d (p ∷ ps) later h = (variable_later v w d p later h.0, eaches_later v w d ps later h.1)

-- so do what stands, and stacks that are as they were
pub stands_later : (v w : World) (kind : VariableKind) (d : Description) (s : Standing) → IsLater v w → StandsGood v kind d s → StandsGood w kind d s
stands_later v w kinds.Static d (Lies p) later h = variable_later v w d p later h
stands_later v w kinds.Static d (Stacked number) later h = absurd h
stands_later v w kinds.Controlled d (Lies p) later h = absurd h
stands_later v w kinds.Controlled d (Stacked number) later h =
    let t = later.stacks number h.0 h.1 in (t.0, t.1, ap (λ (x : Variable). x.description) t.2 ∙ h.2)

pub stacks_later : (v w : World) → IsLater v w → w.stacks ≡ v.stacks → AreStacksGood v → AreStacksGood w
stacks_later v w later same h n s e =
    let good = h n s (subst (λ all. slice_get all n ≡ Some s) same e) in
    (good.0, eaches_later v w s.variable.description s.places later good.1)

module _ (units : List TypedUnit) where
  pub shaped_later : (v w : World) (ss : List Shape) (stack : List Activation) → IsLater v w → AreShaped v ss stack
      → AreShaped w ss stack
  shaped_later v w [] [] later h = tt
  shaped_later v w [] (a ∷ older) later h = absurd h
  shaped_later v w (s ∷ ss) [] later h = absurd h
  shaped_later v w (s ∷ ss) (a ∷ older) later h =
      (h.0, h.1, h.2, slots_later v w s.slots a.slots s.parameters later h.3, shaped_later v w ss older later h.4)

  abbrev AllStatics : World → Type 0
  AllStatics w = (i : ℕ) (u : TypedUnit) → slice_get units i ≡ Some u → AreStatics i u.globals w

  pub statics_later : (v w : World) → IsLater v w → w.statics ≡ v.statics → AllStatics v → AllStatics w
  statics_later v w later e h i u f n kind d g =
      let s = h i u f n kind d g in
      (s.0, subst (λ ss. static_in ss i n ≡ Some s.0) (sym e) s.1, stands_later v w kind d s.0 later s.2)

  -- the stack as it was
  pub same_stack : (ss : List Shape) (v w : World) → IsSound units ss v → IsLater v w → HoldsValues w
      → w.activations ≡ v.activations → w.statics ≡ v.statics → w.stacks ≡ v.stacks → IsSound units ss w
  same_stack ss v w s later values e f g = record {
    values = values;
    stacks = stacks_later v w later g s.stacks;
    stack = subst (λ stack. AreShaped w ss stack) (sym e) (shaped_later v w ss v.activations later s.stack);
    of_units = s.of_units;
    on_units = subst (λ stack. HaveOnUnits ss stack) (sym e) s.on_units;
    made = statics_later v w later f s.made;
  }

  -- the newest changed
  pub newest_later : (change : Activation → Activation) (w : World) → IsLater w (in_newest change w)
  newest_later change w = record { more = omega arith; lived = λ n g lt h. (g, h, refl); stacks = λ n s h. (s, h, refl) }

  pub newest_sound : (change : Activation → Activation) (ss ts : List Shape) (w : World) → IsSound units ss w → AreOfUnits units ts
      → AreShaped w ts (with_newest change w.activations) → HaveOnUnits ts (with_newest change w.activations) → IsSound units ts (in_newest change w)
  newest_sound change ss ts w sound own h on = record {
    values = sound.values;
    stacks = stacks_later w (in_newest change w) (newest_later change w) refl sound.stacks;
    of_units = own;
    on_units = on;
    stack = shaped_later w (in_newest change w) ts (with_newest change w.activations) (newest_later change w) h;
    made = statics_later w (in_newest change w) (newest_later change w) refl sound.made;
  }

  -- an error names a statement of a unit
  no_fault : (e : RunError) (unit : Name) (statement : ℕ) → message.Error e unit statement ≡ message.MachineFault → ⊥
  no_fault e unit statement f = absurd (cc)

  named : (s : Shape) (ss : List Shape) (w : World) (e : RunError) (stack : List Activation) → AreShaped w (s ∷ ss) stack
      → AreOfUnits units (s ∷ ss) → IsTold units (error_in e stack)
  named s ss w e [] h own = absurd h
  named s ss w e (a ∷ older) h own =
      let name : slice_get (unit_names units) a.unit ≡ Some own.0.0.name =
      slice_get-map (λ (u : TypedUnit). u.name) units a.unit ∙ ap (option_map (λ (u : TypedUnit). u.name)) (ap (slice_get units) h.0 ∙ own.0.1) in
      λ f. no_fault e own.0.0.name a.statement (sym (ap (λ o. error_told e o a.statement) name) ∙ f)

  pub error_named : (s : Shape) (ss : List Shape) (w : World) (e : RunError) → IsSound units (s ∷ ss) w → IsTold units (error_at e w)
  unfolding error_at
  error_named s ss w e h = named s ss w e w.activations h.stack h.of_units

-- one operation after another
pub further_answers : {A B : Type 0} (units : List TypedUnit) (P : A → World → Type 0) (Q : B → World → Type 0) (o : Answer A)
    (go : A → World → Answer B) → Answers units P o → ((x : A) (w : World) → P x w → Answers units Q (go x w)) → Answers units Q (further o go)
further_answers units P Q (Yields x w) go h f = f x w h
further_answers units P Q (Raises e w) go h f = h
further_answers units P Q Wrong go h f = absurd h

-- a new generation: a value for each scalar is what the test asks for
pub values_held : (ds : List Description) (vs : List Value) → AreHeld ds vs → are_held ds vs ≡ true
values_held [] [] h = refl
values_held (d ∷ ds) (v ∷ vs) h = ap (λ b. b && are_held ds vs) h.0 ∙ values_held ds vs h.1
values_held [] (v ∷ vs) h = absurd h
values_held (d ∷ ds) [] h = absurd h

-- the parts of a variable are near its beginning, and so is a scalar, which is the only part of itself
pub small_near : (d : Description) → size_of d ≤ offset_limit → IsNear 0 d
small_near d small more part k found =
    let inside = (scalars_lie_within d more part k found).1 in omega (arith, inside, small)

pub scalar_near : (d : Description) → is_scalar d ≡ true → IsNear 0 d
scalar_near d one more part k found = let first = scalar_first d more part k one found in omega (arith, first)

pub new_part : (d : Description) → IsPartAt d 0 d
new_part d more e k h = let z : more ≡ 0 + more = omega arith in (k, subst (λ n. first_scalar d n e ≡ Some k) z h)

abbrev pub new_generation : Description → Made → List Value → World → Generation
new_generation d how vs w = record { number = w.made; description = d; made = how; values = vs; blocks = [] }

abbrev pub with_new : Description → Made → List Value → World → World
with_new d how vs w = record w { storage = w.storage ++ new_generation d how vs w ∷ []; made = suc w.made }

module _ (d : Description) (how : Made) (vs : List Value) (w : World) (old : HoldsValues w) (h : AreHeld (scalars_of d) vs) where
  abbrev g : Generation
  g = new_generation d how vs w

  pub new_later : IsLater w (with_new d how vs w)
  new_later = record { more = omega arith; lived = λ n x lt e. before n x lt (appended w.storage g n x e); stacks = λ n s h. (s, h, refl) }
    where
      before : (n : ℕ) (x : Generation) → n < w.made → (generation_in w.storage n ≡ Some x) ⊎ ((w.made ≡ n) × (g ≡ x))
          → (o : Generation) × (generation_in w.storage n ≡ Some o) × (o.description ≡ x.description)
      before n x lt (inl e) = (x, e, refl)
      before n x lt (inr e) = absurd (omega (arith, lt, e.0))

  pub new_values : IsNear 0 d → w.made < generation_limit → size_of d ≤ byte_limit → HoldsValues (with_new d how vs w)
  new_values near few small n x e = by (appended w.storage g n x e)
    where
      by : (generation_in w.storage n ≡ Some x) ⊎ ((w.made ≡ n) × (g ≡ x)) → IsHolding (with_new d how vs w) n x
      by (inl e) = let o = old n x e in (omega (arith, o.0), o.1, o.2, o.3, o.4, o.5)
      by (inr e) = (
        omega (arith, e.0),
        subst (λ x. AreHeld (scalars_of x.description) x.values) e.1 h,
        subst (λ x. IsNear 0 x.description) e.1 near,
        subst (λ n. n < generation_limit) e.0 few,
        subst (λ (x : Generation). size_of x.description ≤ byte_limit) e.1 small,
        subst (λ (x : Generation). AreSoundBlocks x.blocks) e.1 tt,
      )

  pub new_variable : IsNear 0 d → IsVariable (with_new d how vs w) d (whole w.made d)
  new_variable near = (
    (
      record {
        was_made = omega arith;
        described = refl;
        near = near;
        part = (λ outside x e. by x (appended w.storage g w.made x e), λ inside. absurd (inside refl));
      },
      record { begins = refl; all = λ outside x e. all x (appended w.storage g w.made x e); block = λ inside. absurd (inside refl) },
    ),
    refl,
  )
    where
      by : (x : Generation) → (generation_in w.storage w.made ≡ Some x) ⊎ ((w.made ≡ w.made) × (g ≡ x)) → IsPartAt x.description 0 d
      by x (inl e) = absurd (omega (arith, (old w.made x e).0))
      by x (inr e) = subst (λ x. IsPartAt x.description 0 d) e.1 (new_part d)

      all : (x : Generation) → (generation_in w.storage w.made ≡ Some x) ⊎ ((w.made ≡ w.made) × (g ≡ x)) → x.description ≡ d
      all x (inl e) = absurd (omega (arith, (old w.made x e).0))
      all x (inr e) = ap (λ (x : Generation). x.description) (sym e.1)

  pub room_gives : w.made < generation_limit → live_bytes w.storage + size_of d ≤ byte_limit
      → made_of d how vs w ≡ Yields (whole w.made d) (with_new d how vs w)
  unfolding made_of
  room_gives few small =
      ap (λ b. if b && nat_le (live_bytes w.storage + size_of d) byte_limit then (if are_held (scalars_of d) vs then Yields (whole w.made d) (with_new d how vs w) else Wrong) else Raises StorageLimit w)
      (lt-ltb w.made generation_limit few)
      ∙ ap (λ b. if b then (if are_held (scalars_of d) vs then Yields (whole w.made d) (with_new d how vs w) else Wrong) else Raises StorageLimit w) (le-leb (live_bytes w.storage + size_of d) byte_limit small)
      ∙ ap (λ b. if b then Yields (whole w.made d) (with_new d how vs w) else Wrong) (values_held (scalars_of d) vs h)

-- what a generation of a world holds changed, or its blocks
pub values_kept : (w : World) (k : ℕ) (g : Generation) (vs : List Value) → HoldsValues w → generation_in w.storage k ≡ Some g → AreHeld (scalars_of g.description) vs
    → HoldsValues (record w { storage = with_values w.storage k vs })
values_kept w k g vs values there held n x e = let r = values_replaced w.storage k vs n x e in by r.old r.there r.is
  where
    by : (old : Generation) → generation_in w.storage n ≡ Some old → (old ≡ x) ⊎ ((k ≡ n) × (holding vs old ≡ x)) → IsHolding w n x
    by old f (inl is) = subst (λ x. IsHolding w n x) is (values n old f)
    by old f (inr is) =
        let same : g ≡ old = some_same (sym there ∙ ap (λ m. generation_in w.storage m) is.0 ∙ f) in
        let o = values n old f in
        subst (λ x. IsHolding w n x) is.1 (o.0, subst (λ (g : Generation). AreHeld (scalars_of g.description) vs) same held, o.2, o.3, o.4, o.5)

pub blocks_kept : (w : World) (k : ℕ) (change : List Block → List Block) → HoldsValues w
    → ((g : Generation) → generation_in w.storage k ≡ Some g → AreSoundBlocks (change g.blocks)) → HoldsValues (record w { storage = with_blocks w.storage k change })
blocks_kept w k change values sound n x e = let r = blocks_replaced w.storage k change n x e in by r.old r.there r.is
  where
    by : (old : Generation) → generation_in w.storage n ≡ Some old → (old ≡ x) ⊎ ((k ≡ n) × (reblocked change old ≡ x)) → IsHolding w n x
    by old f (inl is) = subst (λ x. IsHolding w n x) is (values n old f)
    by old f (inr is) =
        let o = values n old f in
        subst (λ x. IsHolding w n x) is.1 (o.0, o.1, o.2, o.3, o.4, sound old (ap (λ m. generation_in w.storage m) is.0 ∙ f))

-- the same world with what a place leads into changed
abbrev put_there : Place → List Value → World → World
put_there p vs w = record w { storage = with_contents w.storage p vs }

put_later : (p : Place) (vs : List Value) (w : World) → IsLater w (put_there p vs w)
put_later p vs w = record { more = omega arith; lived = λ n x lt e. by (nat_eq p.position 0) n x e; stacks = λ n s h. (s, h, refl) }
  where
    by : (b : Bool) (n : ℕ) (x : Generation) → generation_in (if b then with_values w.storage p.generation vs else with_blocks w.storage p.generation (λ bs. with_block_values bs p.position vs)) n ≡ Some x
        → (old : Generation) × (generation_in w.storage n ≡ Some old) × (old.description ≡ x.description)
    by true n x e =
        let r = values_replaced w.storage p.generation vs n x e in
        (r.old, r.there, still_described w.storage p.generation (holding vs) (λ x. refl) n x r)
    by false n x e =
        let r = blocks_replaced w.storage p.generation (λ bs. with_block_values bs p.position vs) n x e in
        (r.old, r.there, still_described w.storage p.generation (reblocked (λ bs. with_block_values bs p.position vs)) (λ x. refl) n x r)

-- what a good place leads into: it has the part and a value for each scalar, and may hold others; where the place is that of a whole, it is that; and there is a pointer to it
pub record IsHolder (w : World) (d : Description) (p : Place) (c : Contents) : Type 0 where
  pub part : IsPartAt c.description p.offset d
  pub values : AreHeld (scalars_of c.description) c.values
  pub stays : (vs : List Value) → AreHeld (scalars_of c.description) vs → HoldsValues (record w { storage = with_contents w.storage p vs })
  pub all : IsWhole w p → c.description ≡ p.description
  pub few : p.generation < generation_limit
  pub position : p.position < 2 ^ 32

module _ (units : List TypedUnit) (s : Shape) (ss : List Shape) where
  abbrev Sound : World → Type 0
  Sound w = IsSound units (s ∷ ss) w

  -- other blocks of an area
  pub blocks_sound : (p : Place) (change : List Block → List Block) (w : World) → Sound w
      → ((g : Generation) → generation_in w.storage p.generation ≡ Some g → AreSoundBlocks (change g.blocks)) → Sound (with_area p change w) × IsLater w (with_area p change w)
  blocks_sound p change w sound good = (same_stack units (s ∷ ss) w (with_area p change w) sound later (blocks_kept w p.generation change sound.values good) refl refl refl, later)
    where
      later : IsLater w (with_area p change w)
      later = record {
        more = omega arith;
        lived = λ n x lt e. let r = blocks_replaced w.storage p.generation change n x e in
            (r.old, r.there, still_described w.storage p.generation (reblocked change) (λ x. refl) n x r);
        stacks = λ n s h. (s, h, refl);
      }

  -- a place that may be handed over, and one of a whole generation, which the limit of generations leaves a number to; the activations stay
  abbrev pub MadeAt : World → Description → Place → World → Type 0
  MadeAt w d p v = IsPassed v (Stated d) p × Sound v × IsLater w v

  abbrev pub MadeWhole : World → Description → Place → World → Type 0
  MadeWhole w d p v = IsVariable v d p × Sound v × IsLater w v × (p.generation < generation_limit) × (v.activations ≡ w.activations)

  pub made_answers : (d : Description) (how : Made) (vs : List Value) (w : World) → Sound w → IsNear 0 d → AreHeld (scalars_of d) vs
      → Answers units (MadeWhole w d) (made_of d how vs w)
  unfolding made_of
  made_answers d how vs w sound near h =
      by (nat_lt w.made generation_limit) (nat_le (live_bytes w.storage + size_of d) byte_limit) refl refl
    where
      by : (b c : Bool) → nat_lt w.made generation_limit ≡ b → nat_le (live_bytes w.storage + size_of d) byte_limit ≡ c
          → Answers units (MadeWhole w d) (if b && c then (if are_held (scalars_of d) vs then Yields (whole w.made d) (with_new d how vs w) else Wrong) else Raises StorageLimit w)
      by true true few bytes =
          let later = new_later d how vs w sound.values h in
          let room = ltb-true w.made generation_limit few in
          let small = leb-true (live_bytes w.storage + size_of d) byte_limit bytes in
          subst (λ b. Answers units (MadeWhole w d) (if b then Yields (whole w.made d) (with_new d how vs w) else Wrong)) (sym (values_held (scalars_of d) vs h)) (
            new_variable d how vs w sound.values h near,
            same_stack units (s ∷ ss) w (with_new d how vs w) sound later (new_values d how vs w sound.values h near room (omega (arith, small))) refl refl refl,
            later,
            room,
            refl,
          )
      by true false few bytes = error_named units s ss w StorageLimit sound
      by false c few bytes = error_named units s ss w StorageLimit sound

  -- what a place leads into
  abbrev pub UsedAt : World → Description → Place → Contents → World → Type 0
  UsedAt w d p c v = IsHolder v d p c × Sound v × IsLater w v

  pub used_answers : (d : Description) (p : Place) (w : World) → Sound w → IsGood w d p → Answers units (UsedAt w d p) (used p w)
  used_answers d p w sound good = by (generation_in w.storage p.generation) refl
    where
      contents_in : Block → World → Answer Contents
      contents_in b w = Yields (record { description = b.description; values = b.values }) w

      storage_if : Bool → List Value → List Generation
      storage_if b vs = if b then with_values w.storage p.generation vs else with_blocks w.storage p.generation (λ bs. with_block_values bs p.position vs)

      -- the generation itself
      outside : (g : Generation) → generation_in w.storage p.generation ≡ Some g → nat_eq p.position 0 ≡ true → UsedAt w d p (contents_of g) w
      outside g e z =
          let none : p.position ≡ 0 = eqb-true p.position 0 z in
          let held = sound.values p.generation g e in (
            record {
              part = good.part.0 none g e;
              values = held.1;
              stays = λ vs h. subst (λ b. HoldsValues (record w { storage = storage_if b vs })) (sym z) (values_kept w p.generation g vs sound.values e h);
              all = λ own. own.all none g e;
              few = held.3;
              position = omega (arith, none);
            },
            sound,
            later_same w,
          )

      -- a block
      within : (g : Generation) → generation_in w.storage p.generation ≡ Some g → nat_eq p.position 0 ≡ false → (b : Block) → block_at g.blocks p.position ≡ Some b → (c : Bool) → same b.description p.whole ≡ c
          → Answers units (UsedAt w d p) (further (if c then Yields b w else Raises DescriptionMismatch w) contents_in)
      within g e z b f false alike = error_named units s ss w DescriptionMismatch sound
      within g e z b f true alike =
          let inside : p.position ≢ 0 = λ none. true≢false (sym (eq-eqb p.position 0 none) ∙ z) in
          let is : b.description ≡ p.whole = (same_decides b.description p.whole).0 alike in
          let held = sound.values p.generation g e in
          let found = block_found g.blocks p.position b held.5 f in (
            record {
              part = subst (λ e. IsPartAt e p.offset d) (sym is) (good.part.1 inside);
              values = found.0.values;
              stays = λ vs h. subst (λ b. HoldsValues (record w { storage = storage_if b vs })) (sym z)
                  (blocks_kept w p.generation (λ bs. with_block_values bs p.position vs) sound.values
                  (λ y k. subst (λ (y : Generation). AreSoundBlocks (with_block_values y.blocks p.position vs)) (some_same (sym e ∙ k)) (values_put g.blocks p.position b vs held.5 f h)));
              all = λ own. is ∙ own.block inside;
              few = held.3;
              position = subst (λ k. k < 2 ^ 32) found.1 found.0.position;
            },
            sound,
            later_same w,
          )

      block : (g : Generation) → generation_in w.storage p.generation ≡ Some g → nat_eq p.position 0 ≡ false → (o : Option Block) → block_at g.blocks p.position ≡ o
          → Answers units (UsedAt w d p) (further (further (unless_dead o w) (unless_replaced p.whole)) contents_in)
      block g e z None f = error_named units s ss w DeadLocator sound
      block g e z (Some b) f = within g e z b f (same b.description p.whole) refl

      into : (g : Generation) → generation_in w.storage p.generation ≡ Some g → (b : Bool) → nat_eq p.position 0 ≡ b
          → Answers units (UsedAt w d p) (if b then Yields (contents_of g) w else further (further (unless_dead (block_at g.blocks p.position) w) (unless_replaced p.whole)) contents_in)
      into g e true z = outside g e z
      into g e false z = block g e z (block_at g.blocks p.position) refl

      by : (o : Option Generation) → generation_in w.storage p.generation ≡ o → Answers units (UsedAt w d p) (further (unless_dead o w) (led_into p))
      by None e = error_named units s ss w DeadLocator sound
      by (Some g) e = into g e (nat_eq p.position 0) refl

  -- what a place holds
  first_in : (d : Description) (p : Place) (c : Contents) → p.description ≡ d → IsPartAt c.description p.offset d
      → (k : ℕ) × (scalar_at c p ≡ Some k) × (first_scalar c.description p.offset d ≡ Some k)
  first_in d p c described part =
      let f = part 0 d 0 (whole_found d) in
      let z : p.offset + 0 ≡ p.offset = omega arith in
      let there : first_scalar c.description p.offset d ≡ Some f.0 = subst (λ n. first_scalar c.description n d ≡ Some f.0) z f.1 in (
        f.0,
        ap (λ e. first_scalar c.description p.offset e) described ∙ there,
        there,
      )

  abbrev HeldAt : World → Description → List Value → World → Type 0
  HeldAt w d vs v = AreHeld (scalars_of d) vs × Sound v × IsLater w v

  pub parts_held_answers : (d : Description) (p : Place) (w : World) → Sound w → IsGood w d p
      → Answers units (HeldAt w d) (parts_held p w)
  unfolding parts_held
  parts_held_answers d p w sound good =
      further_answers units (UsedAt w d p) (HeldAt w d) (used p w)
      (λ c w. further (known (scalar_at c p) w) (λ k w. Yields (values_from k (scalars_in p.description) c.values) w)) (used_answers d p w sound good)
      (λ c v u. let f = first_in d p c good.described u.0.part in
      subst (λ o. Answers units (HeldAt w d) (further (known o v) (λ k w. Yields (values_from k (scalars_in p.description) c.values) w))) (sym f.1) (
        subst (λ e. AreHeld (scalars_of d) (values_from f.0 (scalars_in e) c.values)) (sym good.described)
            (part_held c.description p.offset d f.0 c.values f.2 u.0.values),
        u.1,
        u.2,
      ))

  -- values put at a place
  abbrev Kept : World → Unit {0} → World → Type 0
  Kept w _ v = Sound v × IsLater w v

  pub kept_since : (w v : World) (a : Answer Unit) → IsLater w v → Answers units (Kept v) a → Answers units (Kept w) a
  kept_since w v (Yields x u) later h = (h.0, later_then w v u later h.1)
  kept_since w v (Raises e u) later h = h
  kept_since w v Wrong later h = h

  pub parts_stored_answers : (d : Description) (p : Place) (vs : List Value) (w : World) → Sound w → IsGood w d p
      → AreHeld (scalars_of d) vs → Answers units (Kept w) (parts_stored p vs w)
  unfolding parts_stored
  parts_stored_answers d p vs w sound good h =
      further_answers units (UsedAt w d p) (Kept w) (used p w)
      (λ c w. further (known (scalar_at c p) w) (λ k w. Yields tt (record w { storage = with_contents w.storage p (with_values_at k vs c.values) }))) (used_answers d p w sound good)
      (λ c v u. let f = first_in d p c good.described u.0.part in
      let xs = with_values_at f.0 vs c.values in
      let later = put_later p xs v in
      subst (λ o. Answers units (Kept w) (further (known o v) (λ k w. Yields tt (record w { storage = with_contents w.storage p (with_values_at k vs c.values) })))) (sym f.1) (
        same_stack units (s ∷ ss) v (put_there p xs v) u.1 later (u.0.stays xs (part_stored c.description p.offset d f.0 vs c.values f.2 h u.0.values)) refl refl refl,
        later_then w v (put_there p xs v) u.2 later,
      ))

  -- one scalar
  alone_held : (d : Description) (vs : List Value) (w v : World) → AreHeld (d ∷ []) vs → Sound v → IsLater w v
      → Answers units (λ x u. IsTrue (holds d x) × Sound u × IsLater w u) (single vs v)
  alone_held d [] w v h sound later = absurd h
  alone_held d (x ∷ []) w v h sound later = (h.0, sound, later)
  alone_held d (x ∷ y ∷ vs) w v h sound later = absurd h.1

  abbrev HeldBy : World → Description → Value → World → Type 0
  HeldBy w d x v = IsTrue (holds d x) × Sound v × IsLater w v

  pub held_answers : (d : Description) (p : Place) (w : World) → Sound w → IsGood w d p → is_scalar d ≡ true
      → scalars_of d ≡ d ∷ [] → Answers units (HeldBy w d) (held p w)
  unfolding held
  held_answers d p w sound good scalar one =
      further_answers units (HeldAt w d) (HeldBy w d) (parts_held p w) (λ vs w. if is_scalar p.description then single vs w else Wrong)
      (parts_held_answers d p w sound good)
      (λ vs v h. subst (λ b. Answers units (HeldBy w d) (if b then single vs v else Wrong)) (sym (ap (λ d. is_scalar d) good.described ∙ scalar))
      (alone_held d vs w v (subst (λ ds. AreHeld ds vs) one h.0) h.1 h.2))

  pub stored_answers : (d : Description) (p : Place) (x : Value) (w : World) → Sound w → IsGood w d p → IsTrue (holds d x)
      → scalars_of d ≡ d ∷ [] → Answers units (Kept w) (stored p x w)
  unfolding stored
  stored_answers d p x w sound good h one =
      further_answers units (UsedAt w d p) (Kept w) (used p w) (λ c w. if holds p.description x then parts_stored p (x ∷ []) w else Wrong) (used_answers d p w sound good)
      (λ c v u. subst (λ b. Answers units (Kept w) (if b then parts_stored p (x ∷ []) v else Wrong)) (sym (ap (λ d. holds d x) good.described ∙ h))
      (kept_since w v (parts_stored p (x ∷ []) v) u.2
      (parts_stored_answers d p (x ∷ []) v u.1 (good_later w v d p u.2 good) (subst (λ ds. AreHeld ds (x ∷ [])) (sym one) (h, tt)))))

  pub copied_answers : (d : Description) (source target : Place) (w : World) → Sound w → is_area d ≡ false → IsGood w d source → IsGood w d target
      → Answers units (Kept w) (copied source target w)
  unfolding copied
  copied_answers d source target w sound none from to =
      let alike : same source.description target.description ≡ true =
      (same_decides source.description target.description).1 (from.described ∙ sym to.described) in
      further_answers units (HeldAt w d) (Kept w) (parts_held source w) _ (parts_held_answers d source w sound from)
      (λ vs v h. subst (λ b. Answers units (Kept w) (if b then Wrong
      else if same source.description target.description then parts_stored target vs v else further (used target v) (λ c w. Wrong)))
      (sym (ap is_area from.described ∙ none))
      (subst (λ b. Answers units (Kept w) (if b then parts_stored target vs v else further (used target v) (λ c w. Wrong))) (sym alike) (put vs v h)))
    where
      put : (vs : List Value) (v : World) → HeldAt w d vs v → Answers units (Kept w) (parts_stored target vs v)
      put vs v h =
          kept_since w v (parts_stored target vs v) h.2
          (parts_stored_answers d target vs v h.1 (good_later w v d target h.2 to) h.0)

  -- a dummy argument
  pub dummy_answers : (d : Description) (x : Value) (w : World) → Sound w → IsTrue (holds d x) → is_scalar d ≡ true → scalars_of d ≡ d ∷ []
      → Answers units (MadeAt w d) (dummy_of d x w)
  unfolding dummy_of
  dummy_answers d x w sound h scalar one =
      subst (λ b. Answers units (MadeAt w d) (if b then further (made_of d Dummy (x ∷ []) w) (λ p w. Yields p (in_newest (λ a. record a { pending = a.pending ++ p.generation ∷ [] }) w)) else Wrong)) (sym h)
      (further_answers units (MadeWhole w d) (MadeAt w d) (made_of d Dummy (x ∷ []) w) (λ p w. Yields p (in_newest (λ a. record a { pending = a.pending ++ p.generation ∷ [] }) w))
      (made_answers d Dummy (x ∷ []) w sound (scalar_near d scalar) (subst (λ ds. AreHeld ds (x ∷ [])) (sym one) (h, tt)))
      (λ p v m. pending p v m.0 m.1 m.2))
    where
      change : Place → Activation → Activation
      change p a = record a { pending = a.pending ++ p.generation ∷ [] }

      shaped : (p : Place) (v : World) (stack : List Activation) → AreShaped v (s ∷ ss) stack
          → AreShaped v (s ∷ ss) (with_newest (λ a. record a { pending = a.pending ++ p.generation ∷ [] }) stack)
      shaped p v [] h = absurd h
      shaped p v (a ∷ older) h = h

      pending : (p : Place) (v : World) → IsVariable v d p → Sound v → IsLater w v
          → MadeAt w d p (in_newest (λ a. record a { pending = a.pending ++ p.generation ∷ [] }) v)
      pending p v own sound later =
          let after : IsLater v (in_newest (change p) v) = newest_later units (change p) v in (
            passed_later v (in_newest (change p) v) (Stated d) p after (d, refl, own.0.0, λ is. own),
            newest_sound units (change p) (s ∷ ss) (s ∷ ss) v sound sound.of_units (shaped p v v.activations sound.stack)
                (units_kept (change p) (λ a. refl) (s ∷ ss) v.activations sound.on_units),
            later_then w v (in_newest (change p) v) later after,
          )

-- activations

abbrev with_slots : Shape → List ParameterType → Shape
with_slots y slots = record y { slots = slots }

-- the shape of an activation that begins so
abbrev pub shape_of : Head → (link : ℕ) → (parameters : List ParameterType) → (procedures : ℕ → Option KnownProcedure) → (lasting : Known) → Shape
shape_of head link parameters procedures lasting = record {
  unit = head.unit;
  block = head.block;
  link = link;
  parameters = length parameters;
  slots = parameters ++ map (λ v. Stated v.description) head.variables;
  procedures = procedures;
  lasting = lasting;
}

module _ (units : List TypedUnit) where
  -- a slot more, after the parameters
  slots_more : (w : World) (ts : List ParameterType) (ps : List Place) (n : ℕ) (d : Description) (p : Place) → AreSlots w ts ps n → IsVariable w d p
      → AreSlots w (ts ++ Stated d ∷ []) (ps ++ p ∷ []) n
  slots_more w [] [] zero d p h g = ((d, refl, g), tt)
  slots_more w [] [] (suc n) d p h g = ((d, refl, g.0.0, λ is. g), tt)
  slots_more w [] (q ∷ qs) n d p h g = absurd h
  slots_more w (e ∷ es) [] n d p h g = absurd h
  slots_more w (e ∷ es) (q ∷ qs) zero d p h g = (h.0, slots_more w es qs zero d p h.1 g)
  slots_more w (e ∷ es) (q ∷ qs) (suc n) d p h g = (h.0, slots_more w es qs n d p h.1 g)

  -- at first there are parameters alone
  slots_passed : (w : World) (ds : List ParameterType) (ps : List Place) → AreGood w ds ps → AreSlots w ds ps (length ds)
  slots_passed w [] [] h = tt
  slots_passed w [] (p ∷ ps) h = absurd h
  slots_passed w (d ∷ ds) [] h = absurd h
  slots_passed w (d ∷ ds) (p ∷ ps) h = (h.0, slots_passed w ds ps h.1)

  slotted : (y : Shape) (slots : List ParameterType) (ss : List Shape) (w : World) (d : Description) (p : Place) (stack : List Activation)
      → AreShaped w (with_slots y slots ∷ ss) stack → IsVariable w d p
      → AreShaped w (with_slots y (slots ++ Stated d ∷ []) ∷ ss) (with_newest (with_slot p) stack)
  slotted y slots ss w d p [] h g = absurd h
  slotted y slots ss w d p (a ∷ older) h g = (h.0, h.1, h.2, slots_more w slots a.slots y.parameters d p h.3 g, h.4)

  abbrev Entered : World → List Shape → Unit {0} → World → Type 0
  Entered w ss _ v = IsSound units ss v × IsLater w v

  weaken : (ss : List Shape) (w v : World) (a : Answer Unit) → IsLater w v → Answers units (Entered v ss) a → Answers units (Entered w ss) a
  weaken ss w v (Yields x u) later h = (h.0, later_then w v u later h.1)
  weaken ss w v (Raises e u) later h = h
  weaken ss w v Wrong later h = h

  made_all_answers : (vs : List Variable) (y : Shape) (slots : List ParameterType) (ss : List Shape) (w : World)
      → IsSound units (with_slots y slots ∷ ss) w → HasNone w.activations → AreMade vs
      → Answers units (Entered w (with_slots y (slots ++ map (λ v. Stated v.description) vs) ∷ ss)) (made_all vs w)
  made_all_answers [] y slots ss w sound none h =
      (subst (λ ds. IsSound units (with_slots y ds ∷ ss) w) (sym (append-nil slots)) sound, later_same w)
  made_all_answers (x ∷ vs) y slots ss w sound none h =
      let top = with_slots y slots in
      let more = with_slots y (slots ++ Stated x.description ∷ []) in
      let rest = map (λ v. Stated v.description) vs in
      further_answers units (MadeWhole units top ss w x.description)
      (Entered w (with_slots y (slots ++ map (λ v. Stated v.description) (x ∷ vs)) ∷ ss))
      (made_of x.description Automatic x.initial w) (λ p w. made_all vs (in_newest (with_slot p) w))
      (made_answers units top ss x.description Automatic x.initial w sound (small_near x.description h.0.0) h.0.1)
      (λ p v m. let u = in_newest (with_slot p) v in
      let bare : HasNone v.activations = subst (λ stack. HasNone stack) (sym m.4) none in
      subst (λ ds. Answers units (Entered w (with_slots y ds ∷ ss)) (made_all vs u)) (append_assoc slots (Stated x.description ∷ []) rest)
      (weaken (with_slots y ((slots ++ Stated x.description ∷ []) ++ rest) ∷ ss) w u (made_all vs u)
      (later_then w v u m.2 (newest_later units (with_slot p) v))
      (made_all_answers vs y (slots ++ Stated x.description ∷ []) ss u
      (newest_sound units (with_slot p) (top ∷ ss) (more ∷ ss) v m.1 m.1.of_units (slotted y slots ss v x.description p v.activations m.1.stack m.0)
      (units_kept (with_slot p) (λ a. refl) (more ∷ ss) v.activations (reshaped top more ss v.activations bare m.1.on_units)))
      (none_kept (with_slot p) (λ a. refl) v.activations bare) h.1)))

  handed_shaped : (ss : List Shape) (w : World) (given : List Place) (stack : List Activation) → AreShaped w ss stack
      → AreShaped w ss (with_newest (without_handed given) stack)
  handed_shaped [] w given [] h = h
  handed_shaped [] w given (a ∷ older) h = absurd h
  handed_shaped (s ∷ ss) w given [] h = absurd h
  handed_shaped (s ∷ ss) w given (a ∷ older) h = h

  pub entered_answers : (head : Head) (link : ℕ) (given : List Place) (parameters : List ParameterType) (procedures : ℕ → Option KnownProcedure) (lasting : Known) (ss : List Shape) (w : World)
      → IsSound units ss w → ((u : TypedUnit) × (slice_get units head.unit ≡ Some u)) → AreGood w parameters given → AreMade head.variables
      → Answers units (Entered w (shape_of head link parameters procedures lasting ∷ ss)) (entered head link given w)
  unfolding entered
  entered_answers head link given parameters procedures lasting ss w sound own good h =
      let y = shape_of head link parameters procedures lasting in
      let u = begun_in head link given w in
      let later : IsLater w u = record { more = omega arith; lived = λ n g lt h. (g, h, refl); stacks = λ n s h. (s, h, refl) } in
      weaken (y ∷ ss) w u (made_all head.variables u) later
      (made_all_answers head.variables y parameters ss u (record {
        values = sound.values;
        stacks = stacks_later w u later refl sound.stacks;
        stack = (
          refl,
          refl,
          refl,
          slots_passed u parameters given (goods_later w u parameters given later good),
          shaped_later units w u ss _ later (handed_shaped ss w given w.activations sound.stack),
        );
        of_units = (own, sound.of_units);
        on_units = (λ c k e. absurd (none_there c k e), units_kept (without_handed given) (λ a. refl) ss w.activations sound.on_units);
        made = statics_later units w u later refl sound.made;
      }) refl h)

  -- the newest ends
  pub ended_later : (numbers : List ℕ) (w v : World) → v.storage ≡ without numbers w.storage → v.made ≡ w.made → v.stacks ≡ w.stacks → IsLater w v
  ended_later numbers w v e f same = record {
    more = omega (arith, f);
    lived = λ n g lt h. (g, lived_before numbers w.storage n g (sym (ap (λ gs. generation_in gs n) e) ∙ h), refl);
    stacks = λ n s h. (s, subst (λ all. slice_get all n ≡ Some s) (sym same) h, refl);
  }

  older_shaped : (s : Shape) (ss : List Shape) (w : World) (stack : List Activation) → AreShaped w (s ∷ ss) stack
      → AreShaped w ss (without_newest stack)
  older_shaped s ss w [] h = absurd h
  older_shaped s ss w (a ∷ older) h = h.4

  pub left_later : (w : World) → IsLater w (left_by w)
  unfolding left_by
  left_later w = ended_later (ended_with w.activations) w (left_by w) refl refl refl

  pub left_sound : (s : Shape) (ss : List Shape) (w : World) → IsSound units (s ∷ ss) w → IsSound units ss (left_by w)
  unfolding left_by
  left_sound s ss w sound =
      let later = ended_later (ended_with w.activations) w (left_by w) refl refl refl in record {
        values = λ n g h. sound.values n g (lived_before (ended_with w.activations) w.storage n g h);
        stacks = stacks_later w (left_by w) later refl sound.stacks;
        stack = shaped_later units w (left_by w) ss (without_newest w.activations) later (older_shaped s ss w w.activations sound.stack);
        of_units = sound.of_units.1;
        on_units = older_units s ss w.activations sound.on_units;
        made = statics_later units w (left_by w) later refl sound.made;
      }

  -- the calls that it prepares are given up
  cleared_shaped : (ss : List Shape) (w : World) (stack : List Activation) → AreShaped w ss stack
      → AreShaped w ss (with_newest (λ a. record a { pending = [] }) stack)
  cleared_shaped [] w [] h = h
  cleared_shaped [] w (a ∷ older) h = absurd h
  cleared_shaped (s ∷ ss) w [] h = absurd h
  cleared_shaped (s ∷ ss) w (a ∷ older) h = h

  pub cleared_later : (w : World) → IsLater w (cleared w)
  unfolding cleared
  cleared_later w = ended_later (prepared_by w.activations) w (cleared w) refl refl refl

  pub cleared_sound : (ss : List Shape) (w : World) → IsSound units ss w → IsSound units ss (cleared w)
  unfolding cleared
  cleared_sound ss w sound =
      let later = ended_later (prepared_by w.activations) w (cleared w) refl refl refl in record {
        values = λ n g h. sound.values n g (lived_before (prepared_by w.activations) w.storage n g h);
        stacks = stacks_later w (cleared w) later refl sound.stacks;
        stack = shaped_later units w (cleared w) ss _ later (cleared_shaped ss w w.activations sound.stack);
        of_units = sound.of_units;
        on_units = units_kept (λ a. record a { pending = [] }) (λ a. refl) ss w.activations sound.on_units;
        made = statics_later units w (cleared w) later refl sound.made;
      }

  -- a statement, a step, output
  statement_shaped : (ss : List Shape) (w : World) (n : ℕ) (stack : List Activation) → AreShaped w ss stack
      → AreShaped w ss (with_newest (λ a. record a { statement = n }) stack)
  statement_shaped [] w n [] h = h
  statement_shaped [] w n (a ∷ older) h = absurd h
  statement_shaped (s ∷ ss) w n [] h = absurd h
  statement_shaped (s ∷ ss) w n (a ∷ older) h = h

  pub statement_sound : (ss : List Shape) (n : ℕ) (w : World) → IsSound units ss w
      → IsSound units ss (at_statement n w) × IsLater w (at_statement n w)
  unfolding at_statement
  statement_sound ss n w sound = (
    newest_sound units (λ a. record a { statement = n }) ss ss w sound sound.of_units (statement_shaped ss w n w.activations sound.stack)
        (units_kept (λ a. record a { statement = n }) (λ a. refl) ss w.activations sound.on_units),
    newest_later units (λ a. record a { statement = n }) w,
  )

  pub stepped_sound : (ss : List Shape) (w : World) → IsSound units ss w
      → IsSound units ss (stepped w) × IsLater w (stepped w)
  unfolding stepped
  stepped_sound ss w sound =
      let later : IsLater w (stepped w) = record { more = omega arith; lived = λ n g lt h. (g, h, refl); stacks = λ n s h. (s, h, refl) } in
      (same_stack units ss w (stepped w) sound later sound.values refl refl refl, later)

  pub printed_sound : (ss : List Shape) (text : List ℕ) (w : World) → IsSound units ss w
      → IsSound units ss (printed text w) × IsLater w (printed text w)
  unfolding printed
  printed_sound ss text w sound =
      let later : IsLater w (printed text w) = record { more = omega arith; lived = λ n g lt h. (g, h, refl); stacks = λ n s h. (s, h, refl) } in
      (same_stack units ss w (printed text w) sound later sound.values refl refl refl, later)

  pub line_sound : (ss : List Shape) (w : World) → IsSound units ss w
      → IsSound units ss (line_ended w) × IsLater w (line_ended w)
  unfolding line_ended
  line_sound ss w sound =
      let later : IsLater w (line_ended w) = record { more = omega arith; lived = λ n g lt h. (g, h, refl); stacks = λ n s h. (s, h, refl) } in
      (same_stack units ss w (line_ended w) sound later sound.values refl refl refl, later)
