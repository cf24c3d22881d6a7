use Rattle.std.proofs.Common.{◌≡◌, ◌&&◌, ◌*◌, ℕ, true, int_le, ℤ, ◌-ℤ◌, List, sym, ap, ◌∙◌, if◌then◌else◌, rules, w32, w64, SFits}
use Rattle.std.specs.Prelude.{unsigned_abs}
use Rattle.std.proofs.lemmas.Int.{to_z-of_z}
use Rattle.pli_run.specs.declared.ending.RunError.TheVariants.{SubscriptRange}
use Rattle.pli_world.specs.Storage.{Place}
use Rattle.pli_world.specs.World.{World, Answer, Yields, Raises, Wrong, led_on}
use Rattle.pli_machine_step.specs.Machine.{Operand, AtPlace, Frame, At, given, pushes, with_operands}
use Rattle.pli_store.specs.views.StorageView.{place_view}
use Rattle.pli_machine_operate.specs.views.OperandView.{stack}
use Rattle.pli_machine_activations.specs.views.MachineView.{leads, Running}
use Rattle.pli_machine_perform.specs.views.ActView.{subscripted_as}
use Rattle.pli_machine_perform.proofs.places.subscript.Goals as goal

-- within its bounds a subscript gives what the place is led on to
module _ (low high x : ℤ) (multiplier : ℕ) (p : Place) (ops : List Operand) (inside : (int_le low x && int_le x high) ≡ true)
    (here : Frame) (frames : List Frame) (w : World) (left : ℕ) where
  abbrev leads_on : World → Answer Place
  leads_on = led_on (unsigned_abs (x -ℤ low) * multiplier) p.description p

  subscript_gives : (a : Answer Place) → leads_on w ≡ a
      → leads (subscripted_as low high multiplier x p ops here frames w) left
      ≡ leads (given w a (λ q w. pushes here frames (AtPlace q) ops w)) left
  subscript_gives a answers =
      ap
      (λ b. leads (given w (if b then leads_on w else Raises SubscriptRange w)
      (λ q w. pushes here frames (AtPlace q) ops w)) left)
      inside
      ∙ ap (λ a. leads (given w a (λ q w. pushes here frames (AtPlace q) ops w)) left) answers

pub returns-in_ok-push-in-Some-element : goal.returns-in_ok-push-in-Some-element
returns-in_ok-push-in-Some-element c = λ here frames w left.
    let x = c.in-Some.number in
    let low : SFits w32 c.args.low = search rules in
    let high : SFits w32 c.args.high = search rules in
    let number : SFits w64 c.args.number = search rules in
    let within : SFits w32 x = search rules in
    let inside = rw (to_z-of_z w32 c.args.low low, to_z-of_z w32 c.args.high high, to_z-of_z w64 c.args.number number) at c.in-Some.ensures.inside in
    let on = rw (to_z-of_z w32 c.args.low low, to_z-of_z w32 x within) at c.in-Some-element.ensures in
    let p = place_view c.args.place in
    let ops = stack c.args.operands.now.items in
    ap (λ y. leads (subscripted_as c.args.low c.args.high c.args.multiplier y p ops here frames w) left) (sym inside.0)
    ∙ subscript_gives c.args.low c.args.high x c.args.multiplier p ops inside.2 here frames w left (Yields (place_view c.in-Some-element.part) w) (on w)
    ∙ ap (λ xs. Running (At (with_operands xs here) frames w left)) (sym c.in_ok-push-in-Some-element.ensures)

pub returns-in-None : goal.returns-in-None
returns-in-None c = λ here frames w left.
    let x = c.in-Some.number in
    let low : SFits w32 c.args.low = search rules in
    let high : SFits w32 c.args.high = search rules in
    let number : SFits w64 c.args.number = search rules in
    let within : SFits w32 x = search rules in
    let inside = rw (to_z-of_z w32 c.args.low low, to_z-of_z w32 c.args.high high, to_z-of_z w64 c.args.number number) at c.in-Some.ensures.inside in
    let on = rw (to_z-of_z w32 c.args.low low, to_z-of_z w32 x within) at c.in-None.ensures in
    let p = place_view c.args.place in
    let ops = stack c.args.operands.now.items in
    ap (λ y. leads (subscripted_as c.args.low c.args.high c.args.multiplier y p ops here frames w) left) (sym inside.0)
    ∙ subscript_gives c.args.low c.args.high x c.args.multiplier p ops inside.2 here frames w left Wrong (on w)
