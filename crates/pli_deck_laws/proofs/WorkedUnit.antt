-- The worked unit is well formed.
use Rattle.std.proofs.Common.{◌≡◌, ℕ, ◌≤◌, nat_le, true, refl, arith}
use Rattle.std.proofs.lemmas.Bool.{leb-true}
use Rattle.pli_gen.specs.WellNumbered.{IsWellNumbered}
use Rattle.pli_map.specs.Description.{Character}
use Rattle.pli_map.specs.Sizes.{size_of}
use Rattle.pli_deck_laws.specs.Limits.{IsMade, IsTemplate}
use Rattle.pli_deck_laws.specs.WellFormed.{IsWellFormed, IsProcedure, IsStatement}
use Rattle.pli_deck_laws.specs.examples.DeckUnits.{small, counting, calling, external, inner, names, worked, WorkedIsWellFormed}

at_most : (n m : ℕ) → nat_le n m ≡ true → n ≤ m
at_most n m h = leb-true n m h

small_made : IsMade small
small_made = ((omega arith, omega arith), at_most (size_of small) 1000000 refl)

names_made : IsTemplate names
names_made = (
  ((omega arith, omega arith, ((refl, omega arith, omega arith), tt), (omega arith, omega arith)), at_most (size_of names.description) 1000000 refl),
  (
    ((record { offset = 0; description = Character 3 }, refl, refl), omega arith),
    (((record { offset = 3; description = Character 3 }, refl, refl), omega arith), tt),
  ),
  omega arith,
)

calling_formed : IsStatement worked calling
calling_formed = (omega arith, (refl, omega arith, ((omega arith, refl), (small_made, (small_made.0, (omega arith, tt)), tt))))

counting_formed : IsStatement worked counting
counting_formed = (
  omega arith,
  (((omega arith, refl), (small_made.0, tt), omega arith, (omega arith, tt), tt), (calling_formed, tt)),
)

external_formed : IsProcedure worked external
external_formed = (
  (omega arith, ((small_made, (((record { offset = 0; description = small }, refl, refl), omega arith), tt), omega arith), tt), omega arith),
  tt,
  omega arith,
  tt,
  (counting_formed, tt),
)

inner_formed : IsProcedure worked inner
inner_formed = ((omega arith, tt, omega arith), refl, omega arith, tt, tt)

worked_formed : IsWellFormed worked
worked_formed = record {
  signature = (omega arith, tt, tt);
  globals = (names_made, ((omega arith, (small_made.0, (tt, tt)), (omega arith, omega arith)), tt));
  some = omega arith;
  procedures = (external_formed, (inner_formed, tt));
}

worked_numbered : IsWellNumbered worked
worked_numbered = record {
  blocks = (refl, (refl, tt));
  statements = (refl, (refl, tt));
  loops = (((omega arith, (tt, tt)), tt), (tt, tt));
  temporaries = (((omega arith, omega arith, (tt, tt)), tt), (tt, tt));
  units = (((tt, tt), tt), (tt, tt));
}

pub worked_is_well_formed : WorkedIsWellFormed
worked_is_well_formed = (worked_numbered, worked_formed, refl)
