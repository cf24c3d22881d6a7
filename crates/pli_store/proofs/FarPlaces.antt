-- Multipliers that are cut over the limit of offsets lead as those that are not.
use Rattle.std.proofs.Common.{◌≡◌, ◌<◌, ℕ, zero, suc, ◌*◌, ℤ, ◌-ℤ◌, int_le, ◌&&◌, min, Option, Some, None, if◌then◌else◌, refl, sym, ap, ◌∙◌, arith, inl, inr}
use Rattle.std.proofs.lemmas.Bool.{cases_lt}
use Rattle.std.specs.Prelude.{unsigned_abs}
use Rattle.pli_run.specs.declared.ending.RunError.TheVariants.{SubscriptRange}
use Rattle.pli_map.specs.Description.{Description}
use Rattle.pli_map.specs.Dimensions.{ArrayDimension}
use Rattle.pli_map.specs.declared.dimension.Dimension.{Dimension}
use Rattle.pli_map.specs.views.DimensionView.{AreDimensions}
use Rattle.pli_world.specs.Storage.{Place, offset_limit}
use Rattle.pli_world.specs.Strings.{subscripted_in}
use Rattle.pli_world.specs.World.{World, Answer, Raises, led_on}
use Rattle.pli_world.specs.laws.OperationLaws.{led_too_far}
use Rattle.pli_store.specs.views.DimensionSeen.{dimension_seen}

-- so many multipliers further
far_leads : (x m k : ℕ) (d : Description) (p : Place) (w : World) → offset_limit < m → offset_limit < k → led_on (x * m) d p w ≡ led_on (x * k) d p w
far_leads zero m k d p w big far = ap (λ n. led_on n d p w) (omega arith)
far_leads (suc x) m k d p w big far =
    led_too_far (suc x * m) d p w (omega (arith, big))
    ∙ sym (led_too_far (suc x * k) d p w (omega (arith, far)))

pub cut_leads : (x m : ℕ) (d : Description) (p : Place) (w : World) → led_on (x * min m 4294967296) d p w ≡ led_on (x * m) d p w
cut_leads x m d p w = elim (cases_lt m 4294967297) [
  | inl few ↦ ap (λ k. led_on (x * k) d p w) (omega (arith, few))
  | inr many ↦ far_leads x (min m 4294967296) m d p w (omega (arith, many)) (omega (arith, many))
]

-- the code's dimension leads as the array's
pub seen_leads : (o : Option ArrayDimension) (own : Dimension) (x : ℤ) (p : Place) (w : World) → AreDimensions o (Some own)
    → subscripted_in o x p w ≡ subscripted_in (Some (dimension_seen own)) x p w
seen_leads None own x p w are = absurd are
seen_leads (Some d) own x p w are =
    let by = unsigned_abs (x -ℤ d.bounds.low) in
    ap (λ (a : Answer Place). if int_le d.bounds.low x && int_le x d.bounds.high then a else Raises SubscriptRange w)
    (sym (cut_leads by d.multiplier d.after p w)
    ∙ ap (λ m. led_on (by * m) d.after p w) (sym are.multiplier)
    ∙ ap (λ e. led_on (by * own.multiplier) e p w) (sym are.after))
    ∙ ap (λ b. subscripted_in (Some (record (dimension_seen own) { bounds = b })) x p w) (sym are.bounds)

-- where there is none
pub no_dimension : (o : Option ArrayDimension) → AreDimensions o None → o ≡ None
no_dimension None are = refl
no_dimension (Some d) are = absurd are
