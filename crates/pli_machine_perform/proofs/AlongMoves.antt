-- Places that are led on by subscripts of dimensions, and bounds.
use Rattle.std.proofs.Common.{◌≡◌, ◌&&◌, ◌*◌, ℕ, Bool, int_le, ℤ, ◌-ℤ◌, Option, Some, None, List, sym, ap, ◌∙◌, if◌then◌else◌}
use Rattle.std.specs.Prelude.{unsigned_abs}
use Rattle.pli_run.specs.declared.ending.RunError.TheVariants.{SubscriptRange}
use Rattle.pli_map.specs.Dimensions.{ArrayDimension, dimension_at, bound_of}
use Rattle.pli_map.specs.declared.dimension.Dimension.{Dimension}
use Rattle.pli_map.specs.declared.dimension.WhichBound.{WhichBound}
use Rattle.pli_map.specs.views.DimensionView.{AreDimensions}
use Rattle.pli_value.specs.Value.{Value, Number}
use Rattle.pli_world.specs.Storage.{Place}
use Rattle.pli_world.specs.Strings.{bound_at, bound_of_place, subscripted_by, subscripted_in}
use Rattle.pli_world.specs.World.{World, Answer, Raises, Wrong, led_on}
use Rattle.pli_machine_step.specs.Machine.{Operand, OfValue, AtPlace, Frame, given, pushes}
use Rattle.pli_machine_activations.specs.views.MachineView.{leads}
use Rattle.pli_machine_perform.specs.views.ActView.{along_as, bounded_as, subscripted_by_as}
use Rattle.pli_store.specs.views.DimensionSeen.{dimension_seen}
use Rattle.pli_store.proofs.FarPlaces.{no_dimension, seen_leads}

module _ (ops : List Operand) (here : Frame) (frames : List Frame) (w : World) (left : ℕ) where
  -- within its bounds a subscript gives what the place is led on to
  pub along_gives : (d : ArrayDimension) (x : ℤ) (p : Place) (b : Bool) (a : Answer Place) → (int_le d.bounds.low x && int_le x d.bounds.high) ≡ b
      → (if b then led_on (unsigned_abs (x -ℤ d.bounds.low) * d.multiplier) d.after p w else Raises SubscriptRange w) ≡ a
      → leads (along_as (Some d) x p ops here frames w) left ≡ leads (given w a (λ q w. pushes here frames (AtPlace q) ops w)) left
  along_gives d x p b a inside answers =
      ap
      (λ b. leads (given w (if b then led_on (unsigned_abs (x -ℤ d.bounds.low) * d.multiplier) d.after p w else Raises SubscriptRange w)
      (λ q w. pushes here frames (AtPlace q) ops w)) left)
      inside
      ∙ ap (λ a. leads (given w a (λ q w. pushes here frames (AtPlace q) ops w)) left) answers

  -- a subscript of a dimension that the code has found
  pub dimension_gives : (k : ℕ) (x : ℤ) (p : Place) (own : Dimension) → AreDimensions (dimension_at p.description k) (Some own)
      → leads (subscripted_by_as k x p ops here frames w) left ≡ leads (along_as (Some (dimension_seen own)) x p ops here frames w) left
  unfolding subscripted_by
  dimension_gives k x p own are =
      ap (λ a. leads (given w a (λ q w. pushes here frames (AtPlace q) ops w)) left) (seen_leads (dimension_at p.description k) own x p w are)

  -- or there is none
  pub no_dimension_gives : (k : ℕ) (x : ℤ) (p : Place) → AreDimensions (dimension_at p.description k) None
      → leads (subscripted_by_as k x p ops here frames w) left ≡ leads (given w Wrong (λ (q : Place) w. pushes here frames (AtPlace q) ops w)) left
  unfolding subscripted_by
  no_dimension_gives k x p are =
      ap (λ o. leads (given w (subscripted_in o x p w) (λ q w. pushes here frames (AtPlace q) ops w)) left) (no_dimension (dimension_at p.description k) are)

  -- a bound of a dimension that the code has found
  pub bound_gives : (which : WhichBound) (k : ℕ) (p : Place) (own : Dimension) → AreDimensions (dimension_at p.description k) (Some own)
      → leads (bounded_as which k p ops here frames w) left ≡ leads (pushes here frames (OfValue (Number (bound_of which own.bounds))) ops w) left
  unfolding bound_of_place
  bound_gives which k p own are = by (dimension_at p.description k) are
    where
      by : (o : Option ArrayDimension) → AreDimensions o (Some own)
          → leads (given w (bound_at which o w) (λ v w. pushes here frames (OfValue v) ops w)) left
          ≡ leads (pushes here frames (OfValue (Number (bound_of which own.bounds))) ops w) left
      by None are = absurd are
      by (Some d) are = ap (λ b. leads (pushes here frames (OfValue (Number (bound_of which b))) ops w) left) (sym are.bounds)

  -- or there is none
  pub no_bound_gives : (which : WhichBound) (k : ℕ) (p : Place) → AreDimensions (dimension_at p.description k) None
      → leads (bounded_as which k p ops here frames w) left ≡ leads (given w Wrong (λ (v : Value) w. pushes here frames (OfValue v) ops w)) left
  unfolding bound_of_place
  no_bound_gives which k p are =
      ap (λ o. leads (given w (bound_at which o w) (λ v w. pushes here frames (OfValue v) ops w)) left) (no_dimension (dimension_at p.description k) are)
