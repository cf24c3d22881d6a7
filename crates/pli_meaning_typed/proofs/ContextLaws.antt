-- What a typing context knows is there: the blocks of the text stand among the activations, along static links.
use Rattle.std.specs.Prelude.{◌≡◌, ℕ, zero, suc, ◌≤◌, ◌<◌, nat_eq, Bool, true, false, ◌&&◌, ◌||◌, IsTrue, Option, Some, None}
use Rattle.std.specs.Prelude.{List, [], ◌∷◌, ◌++◌, ◌⊎◌, length, slice_get, if◌then◌else◌, refl}
use Rattle.std.specs.List.{list_any}
use Rattle.std.proofs.Common.{arith, sym, ap, ◌∙◌, subst, inl, inr}
use Rattle.std.proofs.lemmas.Bool.{eqb-true, eq-eqb}
use Rattle.pli_run.specs.declared.ending.RunError.TheVariants.{NoGeneration}
use Rattle.pli_map.specs.Description.{Description}
use Rattle.pli_map.specs.ParameterTypes.{ParameterType}
use Rattle.pli_world.specs.Activations.{Activation, activation_at, outward_from, nearest_of, is_of}
use Rattle.pli_world.specs.Storage.{Place}
use Rattle.pli_world.specs.World.{Standing, Lies, Stacked, World, Yields, known as there_is, further, height, height_of, slot_in, slot_place}
use Rattle.pli_world.specs.World.{static_place, newest_unit, static_in, newest_in, place_standing}
use Rattle.pli_program.specs.declared.kind.VariableKind.{VariableKind}
use Rattle.pli_program.specs.declared.kind.VariableKind.TheVariants.{Static, Controlled}
use Rattle.pli_type_tree.specs.Globals.{described_as}
use Rattle.pli_type_tree.specs.TypedTree.{Global, TypedUnit}
use Rattle.pli_type_tree.specs.WellTyped.{BlockAround, AreAround, AreAroundOnUnit, blocks_from, with_labels}
use Rattle.pli_meaning_tree.specs.Effects.{Label}
use Rattle.pli_meaning_typed.specs.SoundWorlds.{IsWhole, IsVariable, IsPassed, IsOwnSlot, AreSlots, Known, AreKnown, Shape, AreShaped, Stand, EachGood, StandsGood, IsSound, IsLater, Answers}
use Rattle.pli_meaning_typed.proofs.WorldLaws.{later_same, error_named}

none_some : {A : Type 0} {x : A} → None ≡ Some x → ⊥
none_some e = absurd (cc)

some_same : {A : Type 0} {x y : A} → Some x ≡ Some y → x ≡ y
some_same e = cc

unequal : (n m : ℕ) → n < m → nat_eq n m ≡ false
unequal n m lt = by (nat_eq n m) refl
  where
    by : (b : Bool) → nat_eq n m ≡ b → b ≡ false
    by true e = absurd (omega (arith, eqb-true n m e, lt))
    by false e = refl

pub shaped_length : (w : World) (ss : List Shape) (stack : List Activation) → AreShaped w ss stack
    → length stack ≡ length ss
shaped_length w [] [] h = refl
shaped_length w [] (a ∷ older) h = absurd h
shaped_length w (s ∷ ss) [] h = absurd h
shaped_length w (s ∷ ss) (a ∷ older) h = ap (λ n. suc n) (shaped_length w ss older h.4)

-- the activation of a block outward
pub record Found (unit : ℕ) (known : Known) (w : World) (stack : List Activation) (from outward : ℕ) (b : BlockAround) : Type 0 where
  pub height : ℕ
  pub activation : Activation
  pub walked : outward_from stack from outward ≡ Some height
  pub there : activation_at stack height ≡ Some activation
  pub good : AreSlots w b.slots activation.slots b.parameters
  pub labels : AreKnown unit known height b.labels
  pub below : height ≤ length stack

-- after an activation more
found_older : (unit : ℕ) (known : Known) (w : World) (a : Activation) (older : List Activation) (from outward : ℕ) (b : BlockAround)
    → from ≤ length older → Found unit known w older from outward b → Found unit known w (a ∷ older) from outward b
found_older unit known w a older from zero b le f = record {
  height = f.height;
  activation = f.activation;
  walked = ap (λ c. if c then Some from else outward_from older from zero) (unequal from (suc (length older)) (omega (arith, le))) ∙ f.walked;
  there = ap (λ c. if c then Some a else activation_at older f.height) (unequal f.height (suc (length older)) (omega (arith, f.below))) ∙ f.there;
  good = f.good;
  labels = f.labels;
  below = omega (arith, f.below);
}
found_older unit known w a older from (suc outward) b le f = record {
  height = f.height;
  activation = f.activation;
  walked = ap (λ c. if c then outward_from older a.link outward else outward_from older from (suc outward)) (unequal from (suc (length older)) (omega (arith, le))) ∙ f.walked;
  there = ap (λ c. if c then Some a else activation_at older f.height) (unequal f.height (suc (length older)) (omega (arith, f.below))) ∙ f.there;
  good = f.good;
  labels = f.labels;
  below = omega (arith, f.below);
}

-- along a link
found_along : (unit : ℕ) (known : Known) (w : World) (a : Activation) (older : List Activation) (from outward : ℕ) (b : BlockAround)
    → from ≡ suc (length older) → Found unit known w older a.link outward b → Found unit known w (a ∷ older) from (suc outward) b
found_along unit known w a older from outward b e f = record {
  height = f.height;
  activation = f.activation;
  walked = ap (λ c. if c then outward_from older a.link outward else outward_from older from (suc outward)) (eq-eqb from (suc (length older)) e) ∙ f.walked;
  there = ap (λ c. if c then Some a else activation_at older f.height) (unequal f.height (suc (length older)) (omega (arith, f.below))) ∙ f.there;
  good = f.good;
  labels = f.labels;
  below = omega (arith, f.below);
}

module _ (unit : ℕ) (known : Known) (w : World) where
  pub find : (ss : List Shape) (stack : List Activation) (h : ℕ) (blocks : List BlockAround) (outward : ℕ) (b : BlockAround)
      → AreShaped w ss stack → Stand unit known ss h blocks → slice_get blocks outward ≡ Some b → Found unit known w stack h outward b
  find [] stack h [] outward b shaped stand e = absurd (none_some e)
  find [] stack h (c ∷ cs) outward b shaped stand e = absurd stand
  find (s ∷ ss) [] h blocks outward b shaped stand e = absurd shaped
  find (s ∷ ss) (a ∷ older) h [] outward b shaped stand e = absurd (none_some e)
  find (s ∷ ss) (a ∷ older) h (c ∷ cs) zero b shaped (inl stand) e =
      found_older unit known w a older h zero b (omega (arith, stand.0, shaped_length w ss older shaped.4))
      (find ss older h (c ∷ cs) zero b shaped.4 stand.1 e)
  find (s ∷ ss) (a ∷ older) h (c ∷ cs) (suc n) b shaped (inl stand) e =
      found_older unit known w a older h (suc n) b (omega (arith, stand.0, shaped_length w ss older shaped.4))
      (find ss older h (c ∷ cs) (suc n) b shaped.4 stand.1 e)
  find (s ∷ ss) (a ∷ older) h (c ∷ cs) zero b shaped (inr stand) e =
      let top : h ≡ suc (length older) = stand.0 ∙ ap (λ n. suc n) (sym (shaped_length w ss older shaped.4)) in
      let same : c ≡ b = some_same e in record {
        height = h;
        activation = a;
        walked = ap (λ t. if t then Some h else outward_from older h zero) (eq-eqb h (suc (length older)) top);
        there = ap (λ t. if t then Some a else activation_at older h) (eq-eqb h (suc (length older)) top);
        good = subst (λ c. AreSlots w c.slots a.slots c.parameters) same
            (subst (λ n. AreSlots w c.slots a.slots n) stand.2.0 (subst (λ ds. AreSlots w ds a.slots s.parameters) stand.2.1 shaped.3));
        labels = subst (λ c. AreKnown unit known h c.labels) same stand.3;
        below = omega (arith, top);
      }
  find (s ∷ ss) (a ∷ older) h (c ∷ cs) (suc n) b shaped (inr stand) e =
      let top : h ≡ suc (length older) = stand.0 ∙ ap (λ n. suc n) (sym (shaped_length w ss older shaped.4)) in
      found_along unit known w a older h n b top
      (subst (λ l. Found unit known w older l n b) (sym shaped.2) (find ss older s.link cs n b shaped.4 stand.4 e))

-- with an activation more
pub raised : (unit : ℕ) (known : Known) (s : Shape) (ss : List Shape) (h : ℕ) (blocks : List BlockAround) → h ≤ length ss → Stand unit known ss h blocks
    → Stand unit known (s ∷ ss) h blocks
raised unit known s ss h [] le stand = tt
raised unit known s ss h (b ∷ bs) le stand = inl (le, stand)

-- the nearest activation of a block
pub record Near (unit : ℕ) (known : Known) (ss : List Shape) (stack : List Activation) (from parent : ℕ) (blocks : List BlockAround) : Type 0 where
  pub link : ℕ
  pub walked : nearest_of unit parent stack from ≡ Some link
  pub stand : Stand unit known ss link blocks
  pub below : link ≤ length ss

near_older : (unit : ℕ) (known : Known) (s : Shape) (ss : List Shape) (a : Activation) (older : List Activation)
    (from parent : ℕ) (blocks : List BlockAround) → from < suc (length older)
    → Near unit known ss older from parent blocks → Near unit known (s ∷ ss) (a ∷ older) from parent blocks
near_older unit known s ss a older from parent blocks lt n = record {
  link = n.link;
  walked =
      ap (λ c. if c then (if is_of unit parent a then Some from else nearest_of unit parent older a.link) else nearest_of unit parent older from)
      (unequal from (suc (length older)) lt) ∙ n.walked;
  stand = raised unit known s ss n.link blocks n.below n.stand;
  below = omega (arith, n.below);
}

module _ (unit : ℕ) (known : Known) (w : World) where
  is_this : (a : Activation) (parent : ℕ) (b : Bool) → a.unit ≡ unit → nat_eq a.block parent ≡ b → is_of unit parent a ≡ b
  is_this a parent b e f =
      ap (λ c. c && nat_eq a.block parent) (eq-eqb a.unit unit e) ∙ f

  pub near : (ss : List Shape) (stack : List Activation) (h parent : ℕ) (blocks found : List BlockAround)
      → AreShaped w ss stack → Stand unit known ss h blocks → blocks_from parent blocks ≡ Some found
      → Near unit known ss stack h parent found
  near [] stack h parent [] found shaped stand e = absurd (none_some e)
  near [] stack h parent (c ∷ cs) found shaped stand e = absurd stand
  near (s ∷ ss) [] h parent blocks found shaped stand e = absurd shaped
  near (s ∷ ss) (a ∷ older) h parent [] found shaped stand e = absurd (none_some e)
  near (s ∷ ss) (a ∷ older) h parent (c ∷ cs) found shaped (inl stand) e =
      near_older unit known s ss a older h parent found (omega (arith, stand.0, shaped_length w ss older shaped.4))
      (near ss older h parent (c ∷ cs) found shaped.4 stand.1 e)
  near (s ∷ ss) (a ∷ older) h parent (c ∷ cs) found shaped (inr stand) e =
      by (nat_eq c.number parent) refl e (λ g. near ss older s.link parent cs found shaped.4 stand.4 g)
    where
      top : h ≡ suc (length older)
      top = stand.0 ∙ ap (λ n. suc n) (sym (shaped_length w ss older shaped.4))

      this : (b : Bool) → nat_eq c.number parent ≡ b → is_of unit parent a ≡ b
      this b e = is_this a parent b (shaped.0 ∙ stand.5) (ap (λ n. nat_eq n parent) (shaped.1 ∙ stand.1) ∙ e)

      walked : (b : Bool) (o : Option ℕ) → nat_eq c.number parent ≡ b → (if b then Some h else nearest_of unit parent older a.link) ≡ o
          → nearest_of unit parent (a ∷ older) h ≡ o
      walked b o e f =
          ap (λ t. if t then (if is_of unit parent a then Some h else nearest_of unit parent older a.link) else nearest_of unit parent older h)
          (eq-eqb h (suc (length older)) top)
          ∙ ap (λ t. if t then Some h else nearest_of unit parent older a.link) (this b e) ∙ f

      by : (b : Bool) → nat_eq c.number parent ≡ b → (if b then Some (c ∷ cs) else blocks_from parent cs) ≡ Some found
          → (blocks_from parent cs ≡ Some found → Near unit known ss older s.link parent found)
          → Near unit known (s ∷ ss) (a ∷ older) h parent found
      by true e f rest = record {
        link = h;
        walked = walked true (Some h) e refl;
        stand = subst (λ bs. Stand unit known (s ∷ ss) h bs) (some_same f) (inr stand);
        below = omega (arith, stand.0);
      }
      by false e f rest =
          let n = rest f in record {
            link = n.link;
            walked = walked false (Some n.link) e (ap (λ l. nearest_of unit parent older l) shaped.2 ∙ n.walked);
            stand = raised unit known s ss n.link found n.below n.stand;
            below = omega (arith, n.below);
          }

-- the blocks around a procedure
pub stand_around : (unit : ℕ) (known : Known) (ss : List Shape) (h : ℕ) (blocks around : List BlockAround) → AreAround blocks around
    → Stand unit known ss h blocks → Stand unit known ss h around
stand_around unit known [] h [] [] same stand = tt
stand_around unit known [] h [] (c ∷ cs) same stand = absurd same
stand_around unit known [] h (b ∷ bs) around same stand = absurd stand
stand_around unit known (s ∷ ss) h [] [] same stand = tt
stand_around unit known (s ∷ ss) h [] (c ∷ cs) same stand = absurd same
stand_around unit known (s ∷ ss) h (b ∷ bs) [] same stand = absurd same
stand_around unit known (s ∷ ss) h (b ∷ bs) (c ∷ cs) same (inl stand) =
    inl (stand.0, stand_around unit known ss h (b ∷ bs) (c ∷ cs) same stand.1)
stand_around unit known (s ∷ ss) h (b ∷ bs) (c ∷ cs) same (inr stand) =
    inr (stand.0, stand.1 ∙ same.0, (stand.2.0 ∙ same.1.0, stand.2.1 ∙ same.1.1), λ l k. stand.3 l (same.2 l k), stand_around unit known ss s.link bs cs same.4 stand.4, stand.5)

-- the blocks of a context with the labels of the innermost that last, which are those that its ON-units know
abbrev pub at_rest : List BlockAround → List BlockAround
at_rest [] = []
at_rest (b ∷ bs) = record b { labels = b.lasting } ∷ bs

pub rest_in_group : (labels : List ℕ) (blocks : List BlockAround) → at_rest (with_labels labels blocks) ≡ at_rest blocks
rest_in_group labels [] = refl
rest_in_group labels (b ∷ bs) = refl

pub around_unit : (here around : List BlockAround) → AreAroundOnUnit here around → AreAround (at_rest here) around
around_unit [] [] h = absurd h
around_unit [] (c ∷ cs) h = absurd h
around_unit (b ∷ bs) [] h = absurd h
around_unit (b ∷ bs) (c ∷ cs) h = h

-- labels more
abbrev pub Wider : Known → Known → Type 0
Wider known more = (h : ℕ) (k : Label) → IsTrue (known h k) → IsTrue (more h k)

in_either : (label : ℕ) (labels more : List ℕ) → list_any (nat_eq label) (labels ++ more) ≡ true
    → (list_any (nat_eq label) labels ≡ true) ⊎ (list_any (nat_eq label) more ≡ true)
in_either label [] more h = inr h
in_either label (l ∷ ls) more h = by (nat_eq label l) h (in_either label ls more)
  where
    by : (b : Bool) → b || list_any (nat_eq label) (ls ++ more) ≡ true
        → (list_any (nat_eq label) (ls ++ more) ≡ true → (list_any (nat_eq label) ls ≡ true) ⊎ (list_any (nat_eq label) more ≡ true))
        → (b || list_any (nat_eq label) ls ≡ true) ⊎ (list_any (nat_eq label) more ≡ true)
    by true h rest = inl refl
    by false h rest = rest h

pub stand_wider : (unit : ℕ) (known more : Known) (ss : List Shape) (h : ℕ) (blocks : List BlockAround) → Wider known more
    → Stand unit known ss h blocks → Stand unit more ss h blocks
stand_wider unit known more [] h [] wide stand = tt
stand_wider unit known more [] h (b ∷ bs) wide stand = absurd stand
stand_wider unit known more (s ∷ ss) h [] wide stand = tt
stand_wider unit known more (s ∷ ss) h (b ∷ bs) wide (inl stand) = inl (stand.0, stand_wider unit known more ss h (b ∷ bs) wide stand.1)
stand_wider unit known more (s ∷ ss) h (b ∷ bs) wide (inr stand) =
    inr (stand.0, stand.1, stand.2, λ n k. wide h (record { unit = unit; number = n }) (stand.3 n k), stand_wider unit known more ss s.link bs wide stand.4, stand.5)

pub stand_labels : (unit : ℕ) (known more : Known) (labels : List ℕ) (ss : List Shape) (h : ℕ) (blocks : List BlockAround) → Wider known more
    → AreKnown unit more h labels → Stand unit known ss h blocks → Stand unit more ss h (with_labels labels blocks)
stand_labels unit known more labels [] h [] wide new stand = tt
stand_labels unit known more labels [] h (b ∷ bs) wide new stand = absurd stand
stand_labels unit known more labels (s ∷ ss) h [] wide new stand = tt
stand_labels unit known more labels (s ∷ ss) h (b ∷ bs) wide new (inl stand) =
    inl (stand.0, stand_labels unit known more labels ss h (b ∷ bs) wide new stand.1)
stand_labels unit known more labels (s ∷ ss) h (b ∷ bs) wide new (inr stand) =
    inr (stand.0, stand.1, stand.2, λ n k. by n (in_either n labels b.labels k), stand_wider unit known more ss s.link bs wide stand.4, stand.5)
  where
    by : (n : ℕ) → (list_any (nat_eq n) labels ≡ true) ⊎ (list_any (nat_eq n) b.labels ≡ true) → IsTrue (more h (record { unit = unit; number = n }))
    by n (inl k) = new n k
    by n (inr k) = wide h (record { unit = unit; number = n }) (stand.3 n k)

-- the operations that walk
abbrev AtSlot : World → List Place → (parameters slot : ℕ) → ParameterType → Type 0
AtSlot w ps k n t = (p : Place) × (slice_get ps n ≡ Some p) × IsPassed w t p × (k ≤ n → IsWhole w p)

-- a variable's own place may be handed over
own_passed : (w : World) (t : ParameterType) (p : Place) → IsOwnSlot w t p → IsPassed w t p
own_passed w t p own = subst (λ t. IsPassed w t p) (sym own.1) (own.0, refl, own.2.0.0, λ is. own.2)

good_at : (w : World) (ts : List ParameterType) (ps : List Place) (k n : ℕ) (t : ParameterType) → AreSlots w ts ps k → slice_get ts n ≡ Some t
    → AtSlot w ps k n t
good_at w [] ps k n t good e = absurd (none_some e)
good_at w (c ∷ ts) [] k n t good e = absurd good
good_at w (c ∷ ts) (p ∷ ps) zero zero t good e = (p, refl, subst (λ c. IsPassed w c p) (some_same e) (own_passed w c p good.0), λ le. good.0.2.0.1)
good_at w (c ∷ ts) (p ∷ ps) (suc k) zero t good e = (p, refl, subst (λ c. IsPassed w c p) (some_same e) good.0, λ le. absurd (omega (arith, le)))
good_at w (c ∷ ts) (p ∷ ps) zero (suc n) t good e =
    let r = good_at w ts ps zero n t good.1 e in (r.0, r.1, r.2, λ le. r.3 (omega arith))
good_at w (c ∷ ts) (p ∷ ps) (suc k) (suc n) t good e =
    let r = good_at w ts ps k n t good.1 e in (r.0, r.1, r.2, λ le. r.3 (omega (arith, le)))

module _ (unit : ℕ) (units : List TypedUnit) (known : Known) (ss : List Shape) (blocks : List BlockAround) where
  walked_to : (w : World) (outward : ℕ) (b : BlockAround) → IsSound units ss w → Stand unit known ss (length ss) blocks
      → slice_get blocks outward ≡ Some b → Found unit known w w.activations (height w) outward b
  walked_to w outward b sound stand e =
      subst (λ h. Found unit known w w.activations h outward b) (sym (shaped_length w ss w.activations sound.stack))
      (find unit known w ss w.activations (length ss) blocks outward b sound.stack stand e)

  pub height_there : (w : World) (outward : ℕ) (b : BlockAround) → IsSound units ss w → Stand unit known ss (length ss) blocks
      → slice_get blocks outward ≡ Some b → (h : ℕ) × (height_of outward w ≡ Yields h w) × AreKnown unit known h b.labels
  unfolding height_of
  height_there w outward b sound stand e =
      let f = walked_to w outward b sound stand e in (f.height, ap (λ o. there_is o w) f.walked, f.labels)

  pub slot_there : (w : World) (outward slot : ℕ) (b : BlockAround) (t : ParameterType) → IsSound units ss w
      → Stand unit known ss (length ss) blocks → slice_get blocks outward ≡ Some b → slice_get b.slots slot ≡ Some t
      → (p : Place) × (slot_place outward slot w ≡ Yields p w) × IsPassed w t p × (b.parameters ≤ slot → IsWhole w p)
  unfolding slot_place height_of
  slot_there w outward slot b t sound stand e g =
      let f = walked_to w outward b sound stand e in
      let p = good_at w b.slots f.activation.slots b.parameters slot t f.good g in (
        p.0,
        ap (λ o. further (there_is o w) (λ h w. slot_in (activation_at w.activations h) slot w)) f.walked
            ∙ ap (λ o. slot_in o slot w) f.there ∙ ap (λ o. there_is o w) p.1,
        p.2,
        p.3,
      )

pub first_unit : (w : World) (s : Shape) (ss : List Shape) (stack : List Activation) → AreShaped w (s ∷ ss) stack
    → newest_unit stack ≡ Some s.unit
first_unit w s ss [] h = absurd h
first_unit w s ss (a ∷ older) h = ap (λ n. Some n) h.0

-- a unit of a program, of a number and with these globals
pub record IsUnit (units : List TypedUnit) (number : ℕ) (globals : List Global) : Type 0 where
  pub unit : TypedUnit
  pub there : slice_get units number ≡ Some unit
  pub has : unit.globals ≡ globals

-- a variable that was there before the program began stands as its unit has it
pub static_there : (units : List TypedUnit) (unit : ℕ) (globals : List Global) (ss : List Shape) (w : World) (number : ℕ) (kind : VariableKind) (d : Description)
    → IsUnit units unit globals → IsSound units ss w → described_as kind (slice_get globals number) ≡ Some d
    → (t : Standing) × (static_in w.statics unit number ≡ Some t) × StandsGood w kind d t
static_there units unit globals ss w number kind d own sound e =
    sound.made unit own.unit own.there number kind d (ap (λ gs. described_as kind (slice_get gs number)) own.has ∙ e)

pub static_answers : (units : List TypedUnit) (unit : ℕ) (globals : List Global) (s : Shape) (ss : List Shape) (w : World) (number : ℕ) (kind : VariableKind) (d : Description)
    → IsUnit units unit globals → s.unit ≡ unit → IsSound units (s ∷ ss) w → described_as kind (slice_get globals number) ≡ Some d
    → Answers units (λ p v. IsVariable v d p × IsSound units (s ∷ ss) v × IsLater w v) (static_place number w)
unfolding static_place
static_answers units unit globals s ss w number kind d own top sound e =
    let t = static_there units unit globals (s ∷ ss) w number kind d own sound e in
    subst (λ o. Answers units Good o)
    (sym (ap (λ o. further (there_is o w) (λ unit w. further (there_is (static_in w.statics unit number) w) place_standing)) (first_unit w s ss w.activations sound.stack)
    ∙ ap (λ n. further (there_is (static_in w.statics n number) w) place_standing) top ∙ ap (λ o. further (there_is o w) place_standing) t.1))
    (placed kind t.0 t.2)
  where
    Good : Place → World → Type 0
    Good p v = IsVariable v d p × IsSound units (s ∷ ss) v × IsLater w v

    newest : (ps : List Place) → EachGood w d ps → Answers units Good (newest_in ps w)
    newest [] good = error_named units s ss w NoGeneration sound
    newest (p ∷ ps) good = (good.0, sound, later_same w)

    placed : (kind : VariableKind) (t : Standing) → StandsGood w kind d t → Answers units Good (place_standing t w)
    placed Static (Lies p) good = (good, sound, later_same w)
    placed Static (Stacked stack) good = absurd good
    placed Controlled (Lies p) good = absurd good
    placed Controlled (Stacked stack) good =
        let places = (sound.stacks stack good.0 good.1).1 in
        subst (λ o. Answers units Good (further (there_is o w) (λ s w. newest_in s.places w))) (sym good.1)
        (newest good.0.places (subst (λ d. EachGood w d good.0.places) good.2 places))
