-- ON-units: what lasts while activations run is known, so that the unit that takes a condition may run; ON and REVERT keep worlds sound.
use Rattle.std.specs.Prelude.{◌≡◌, ℕ, suc, ◌≤◌, nat_eq, Bool, true, false, ◌&&◌, Option, Some, None}
use Rattle.std.specs.Prelude.{List, [], ◌∷◌, length, slice_get, if◌then◌else◌, refl}
use Rattle.std.proofs.Common.{arith, sym, ap, ◌∙◌, subst}
use Rattle.std.proofs.lemmas.Bool.{eqb-true, eq-eqb}
use Rattle.pli_base.specs.declared.statement.Condition.{Condition}
use Rattle.pli_world.specs.Activations.{Activation, on_unit_for, with_on_unit, with_newest}
use Rattle.pli_world.specs.Conditions.{Handler, or_older, handler, is_newest, established, reverted}
use Rattle.pli_world.specs.World.{World, Yields, Wrong, in_newest}
use Rattle.pli_type_tree.specs.TypedTree.{TypedUnit}
use Rattle.pli_type_tree.specs.WellTyped.{KnownProcedure}
use Rattle.pli_meaning_tree.specs.Effects.{Label}
use Rattle.pli_meaning_typed.specs.SoundWorlds.{Known, Shape, AreShaped, Stand, StandsAsOnUnit, HaveOnUnits, IsSound, IsLater, Answers}
use Rattle.pli_meaning_typed.specs.TypedPrograms.{IsTypedUnit}
use Rattle.pli_meaning_typed.proofs.ContextLaws.{shaped_length, raised, Wider, stand_wider}
use Rattle.pli_meaning_typed.proofs.MeansLemmas.{IsBelow, also}
use Rattle.pli_meaning_typed.proofs.UnitLemmas.{units_put}
use Rattle.pli_meaning_typed.proofs.WorldLaws.{newest_later, newest_sound}

none_some : {A : Type 0} {x : A} → None ≡ Some x → ⊥
none_some e = absurd (cc)

some_same : {A : Type 0} {x y : A} → Some x ≡ Some y → x ≡ y
some_same e = cc

-- labels more
pub also_wide : (held : Label → Bool) (height : ℕ) (known : Known) → Wider known (also held height known)
also_wide held height known h k t = by (nat_eq h height && held k)
  where
    by : (b : Bool) → (if b then true else known h k) ≡ true
    by true = refl
    by false = t

also_below : (held : Label → Bool) (height : ℕ) (known : Known) → IsBelow known height → IsBelow (also held height known) height
also_below held height known below h k lt = by (nat_eq h height) refl
  where
    by : (b : Bool) → nat_eq h height ≡ b → (if b && held k then true else known h k) ≡ false
    by true e = absurd (omega (arith, eqb-true h height e, lt))
    by false e = below h k lt

-- what lasts is known
abbrev pub AllLast : Known → List Shape → Type 0
AllLast known [] = Unit {0}
AllLast known (s ∷ ss) = Wider s.lasting known × AllLast known ss

all_last : (known more : Known) (ss : List Shape) → Wider known more → AllLast known ss → AllLast more ss
all_last known more [] wide h = tt
all_last known more (s ∷ ss) wide h = (λ i k t. wide i k (h.0 i k t), all_last known more ss wide h.1)

-- a typed unit of a program, of a number, and what is known of its procedures
pub record IsOfTyped (greatest : ℕ) (units : List TypedUnit) (number : ℕ) (procedures : ℕ → Option KnownProcedure) : Type 0 where
  pub unit : TypedUnit
  pub there : slice_get units number ≡ Some unit
  pub typed : IsTypedUnit greatest unit
  pub has : typed.procedures ≡ procedures

-- activations are of such
abbrev pub AllTyped : (greatest : ℕ) → List TypedUnit → List Shape → Type 0
AllTyped greatest units [] = Unit {0}
AllTyped greatest units (s ∷ ss) = IsOfTyped greatest units s.unit s.procedures × AllTyped greatest units ss

-- what is known while activations run: nothing further in than the newest, all that lasts, and how their units are typed
pub record Holds (greatest : ℕ) (units : List TypedUnit) (known : Known) (ss : List Shape) : Type 0 where
  pub below : IsBelow known (length ss)
  pub lasts : AllLast known ss
  pub typed : AllTyped greatest units ss

-- in a list of the newest activation
pub holds_more : (greatest : ℕ) (units : List TypedUnit) (known : Known) (ss : List Shape) (held : Label → Bool) → Holds greatest units known ss
    → Holds greatest units (also held (length ss) known) ss
holds_more greatest units known ss held h = record {
  below = also_below held (length ss) known h.below;
  lasts = all_last known (also held (length ss) known) ss (also_wide held (length ss) known) h.lasts;
  typed = h.typed;
}

-- in an activation more, whose own list holds labels that last
pub holds_entered : (greatest : ℕ) (units : List TypedUnit) (known : Known) (y : Shape) (ss : List Shape) (held : Label → Bool) → Holds greatest units known ss
    → y.lasting ≡ also held (suc (length ss)) known → IsOfTyped greatest units y.unit y.procedures → Holds greatest units (also held (suc (length ss)) known) (y ∷ ss)
holds_entered greatest units known y ss held h same typed =
    let more = also held (suc (length ss)) known in record {
      below = also_below held (suc (length ss)) known (λ i k lt. h.below i k (omega (arith, lt)));
      lasts = (subst (λ lasting. Wider lasting more) (sym same) (λ i k t. t), all_last known more ss (also_wide held (suc (length ss)) known) h.lasts);
      typed = (typed, h.typed);
    }

-- the unit that takes a condition: it is known, and stands
pub record Handles (greatest : ℕ) (units : List TypedUnit) (known : Known) (ss : List Shape) (h : Handler) : Type 0 where
  pub procedures : ℕ → Option KnownProcedure
  pub typed : IsOfTyped greatest units h.unit procedures
  pub procedure : KnownProcedure
  pub found : procedures h.block ≡ Some procedure
  pub parameters : procedure.parameters ≡ []
  pub value : procedure.value ≡ None
  pub stand : Stand h.unit known ss h.link procedure.around
  pub below : h.link ≤ length ss

module _ (greatest : ℕ) (units : List TypedUnit) (known : Known) (w : World) (c : Condition) where
  handles_older : (s : Shape) (ss : List Shape) (h : Handler) → Handles greatest units known ss h → Handles greatest units known (s ∷ ss) h
  handles_older s ss h r = record {
    procedures = r.procedures;
    typed = r.typed;
    procedure = r.procedure;
    found = r.found;
    parameters = r.parameters;
    value = r.value;
    stand = raised h.unit known s ss h.link r.procedure.around r.below r.stand;
    below = let below = r.below in omega (arith, below);
  }

  handles_here : (s : Shape) (ss : List Shape) (a : Activation) (older : List Activation) (block : ℕ) → a.unit ≡ s.unit → length older ≡ length ss
      → IsOfTyped greatest units s.unit s.procedures → Wider s.lasting known → StandsAsOnUnit s ss block
      → Handles greatest units known (s ∷ ss) (record { unit = a.unit; block = block; link = suc (length older) })
  handles_here s ss a older block same long typed lasts u = record {
    procedures = s.procedures;
    typed = subst (λ n. IsOfTyped greatest units n s.procedures) (sym same) typed;
    procedure = u.procedure;
    found = u.found;
    parameters = u.parameters;
    value = u.value;
    stand = subst (λ n. Stand n known (s ∷ ss) (suc (length older)) u.procedure.around) (sym same)
        (subst (λ n. Stand s.unit known (s ∷ ss) (suc n) u.procedure.around) (sym long)
        (stand_wider s.unit s.lasting known (s ∷ ss) (suc (length ss)) u.procedure.around lasts u.stand));
    below = omega (arith, long);
  }

  pub handler_stands : (ss : List Shape) (stack : List Activation) (h : Handler) → AreShaped w ss stack → HaveOnUnits ss stack
      → AllLast known ss → AllTyped greatest units ss → handler c stack ≡ Some h → Handles greatest units known ss h
  handler_stands [] [] h shaped on lasts typed e = absurd (none_some e)
  handler_stands [] (a ∷ older) h shaped on lasts typed e = absurd shaped
  handler_stands (s ∷ ss) [] h shaped on lasts typed e = absurd shaped
  handler_stands (s ∷ ss) (a ∷ older) h shaped on lasts typed e =
      by (on_unit_for c a.on_units) refl e (λ g. handler_stands ss older h shaped.4 on.1 lasts.1 typed.1 g)
    where
      by : (o : Option ℕ) → on_unit_for c a.on_units ≡ o → or_older o a.unit (suc (length older)) (handler c older) ≡ Some h
          → (handler c older ≡ Some h → Handles greatest units known ss h) → Handles greatest units known (s ∷ ss) h
      by None f e rest = handles_older s ss h (rest e)
      by (Some block) f e rest =
          subst (λ h. Handles greatest units known (s ∷ ss) h) (some_same e)
          (handles_here s ss a older block shaped.0 (shaped_length w ss older shaped.4) typed.0 lasts.0 (on.0 c block f))

-- ON and REVERT
module _ (units : List TypedUnit) (x : Shape) (ss : List Shape) (w : World) (sound : IsSound units (x ∷ ss) w) (c : Condition) where
  -- the newest activation with another unit, or with none
  abbrev with_unit : Option ℕ → World
  with_unit o = in_newest (λ a. record a { on_units = with_on_unit c o a.on_units }) w

  put_sound : (o : Option ℕ) → ((k : ℕ) → o ≡ Some k → StandsAsOnUnit x ss k) → IsSound units (x ∷ ss) (with_unit o) × IsLater w (with_unit o)
  put_sound o new = (
    newest_sound units (λ a. record a { on_units = with_on_unit c o a.on_units }) (x ∷ ss) (x ∷ ss) w sound sound.of_units (shaped w.activations sound.stack)
        (units_put c o x ss w.activations new sound.on_units),
    newest_later units (λ a. record a { on_units = with_on_unit c o a.on_units }) w,
  )
    where
      shaped : (stack : List Activation) → AreShaped w (x ∷ ss) stack
          → AreShaped w (x ∷ ss) (with_newest (λ a. record a { on_units = with_on_unit c o a.on_units }) stack)
      shaped [] h = absurd h
      shaped (a ∷ older) h = h

  pub established_answers : (unit block on_unit : ℕ) → x.unit ≡ unit → x.block ≡ block → StandsAsOnUnit x ss on_unit
      → Answers units (λ _ v. IsSound units (x ∷ ss) v × IsLater w v) (established unit (Some block) c on_unit w)
  unfolding established
  established_answers unit block on_unit top own stands =
      subst (λ b. Answers units (λ _ v. IsSound units (x ∷ ss) v × IsLater w v) (if b then Yields (tt {0}) (with_unit (Some on_unit)) else Wrong))
      (sym (newest w.activations sound.stack)) (put_sound (Some on_unit) (λ k e. subst (λ k. StandsAsOnUnit x ss k) (some_same e) stands))
    where
      newest : (stack : List Activation) → AreShaped w (x ∷ ss) stack → is_newest unit (Some block) stack ≡ true
      newest [] h = absurd h
      newest (a ∷ older) h =
          ap (λ b. b && nat_eq a.block block) (eq-eqb a.unit unit (h.0 ∙ top)) ∙ eq-eqb a.block block (h.1 ∙ own)

  pub reverted_sound : IsSound units (x ∷ ss) (reverted c w) × IsLater w (reverted c w)
  unfolding reverted
  reverted_sound = put_sound None (λ k e. absurd (none_some e))
