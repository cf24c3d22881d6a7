use Rattle.std.proofs.Common.{◌≡◌, drop, length, map}
use Rattle.pli_type_rules.specs.TextOrder.{numbers_from, place_from}
use Rattle.pli_type_names.proofs.order.places_among.Given as goal

-- the places of the numbers from this place on
abbrev pub invariant-loop-place : goal.invariant-loop-place
invariant-loop-place l =
    l.places.items ≡ map (λ number. place_from l.place number (drop l.place l.numbers)) (numbers_from 0 (length l.numbers))
