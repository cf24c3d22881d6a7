-- ON-units of activations stay where another part of the newest one changes; an activation that begins has none; and ON and REVERT change one.
use Rattle.std.specs.Prelude.{◌≡◌, ℕ, Option, Some, None, List, [], ◌∷◌, ◌⊎◌}
use Rattle.std.proofs.Common.{sym, ap, ◌∙◌, inl, inr}
use Rattle.pli_base.specs.declared.statement.Condition.{Condition}
use Rattle.pli_base.specs.declared.statement.Condition.TheVariants as conditions
use Rattle.pli_world.specs.Activations.{Activation, OnUnits, no_on_unit, on_unit_for, with_on_unit, with_newest, without_newest}
use Rattle.pli_meaning_typed.specs.SoundWorlds.{Shape, StandsAsOnUnit, HaveOnUnits}

none_some : {A : Type 0} {x : A} → None ≡ Some x → ⊥
none_some e = absurd (cc)

some_same : {A : Type 0} {x y : A} → Some x ≡ Some y → x ≡ y
some_same e = cc

-- another part of the newest changed
pub units_kept : (change : Activation → Activation) → ((a : Activation) → (change a).on_units ≡ a.on_units)
    → (ss : List Shape) (stack : List Activation) → HaveOnUnits ss stack → HaveOnUnits ss (with_newest change stack)
units_kept change same [] [] h = h
units_kept change same [] (a ∷ older) h = absurd h
units_kept change same (s ∷ ss) [] h = absurd h
units_kept change same (s ∷ ss) (a ∷ older) h = (λ c k e. h.0 c k (ap (λ us. on_unit_for c us) (sym (same a)) ∙ e), h.1)

-- the newest ended
pub older_units : (s : Shape) (ss : List Shape) (stack : List Activation) → HaveOnUnits (s ∷ ss) stack → HaveOnUnits ss (without_newest stack)
older_units s ss [] h = absurd h
older_units s ss (a ∷ older) h = h.1

-- the newest has none, whatever its shape is
abbrev pub HasNone : List Activation → Type 0
HasNone [] = Unit {0}
HasNone (a ∷ older) = a.on_units ≡ no_on_unit

pub none_kept : (change : Activation → Activation) → ((a : Activation) → (change a).on_units ≡ a.on_units)
    → (stack : List Activation) → HasNone stack → HasNone (with_newest change stack)
none_kept change same [] h = h
none_kept change same (a ∷ older) h = same a ∙ h

pub none_there : (c : Condition) (k : ℕ) → on_unit_for c no_on_unit ≡ Some k → ⊥
none_there conditions.FixedOverflow k e = none_some e
none_there conditions.ZeroDivide k e = none_some e
none_there conditions.Area k e = none_some e

pub reshaped : (s t : Shape) (ss : List Shape) (stack : List Activation) → HasNone stack → HaveOnUnits (s ∷ ss) stack → HaveOnUnits (t ∷ ss) stack
reshaped s t ss [] none h = absurd h
reshaped s t ss (a ∷ older) none h = (λ c k e. absurd (none_there c k (ap (λ us. on_unit_for c us) (sym none) ∙ e)), h.1)

-- one put, or removed
unit_put : (c d : Condition) (o : Option ℕ) (us : OnUnits) (k : ℕ) → on_unit_for d (with_on_unit c o us) ≡ Some k
    → (o ≡ Some k) ⊎ (on_unit_for d us ≡ Some k)
unit_put conditions.FixedOverflow conditions.FixedOverflow o us k e = inl e
unit_put conditions.FixedOverflow conditions.ZeroDivide o us k e = inr e
unit_put conditions.FixedOverflow conditions.Area o us k e = inr e
unit_put conditions.ZeroDivide conditions.FixedOverflow o us k e = inr e
unit_put conditions.ZeroDivide conditions.ZeroDivide o us k e = inl e
unit_put conditions.ZeroDivide conditions.Area o us k e = inr e
unit_put conditions.Area conditions.FixedOverflow o us k e = inr e
unit_put conditions.Area conditions.ZeroDivide o us k e = inr e
unit_put conditions.Area conditions.Area o us k e = inl e

pub units_put : (c : Condition) (o : Option ℕ) (s : Shape) (ss : List Shape) (stack : List Activation)
    → ((k : ℕ) → o ≡ Some k → StandsAsOnUnit s ss k) → HaveOnUnits (s ∷ ss) stack
    → HaveOnUnits (s ∷ ss) (with_newest (λ a. record a { on_units = with_on_unit c o a.on_units }) stack)
units_put c o s ss [] new h = absurd h
units_put c o s ss (a ∷ older) new h = (λ d k e. by d k (unit_put c d o a.on_units k e), h.1)
  where
    by : (d : Condition) (k : ℕ) → (o ≡ Some k) ⊎ (on_unit_for d a.on_units ≡ Some k) → StandsAsOnUnit s ss k
    by d k (inl e) = new k e
    by d k (inr e) = h.0 d k e
