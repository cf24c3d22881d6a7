use Rattle.std.specs.Prelude.{◌≡◌, ◌++◌, drop, map}
use Rattle.pli_ledger.specs.Told.{kept_units}
use Rattle.pli_ledger.specs.answers.Lending.{decks_of}
use Rattle.pli_ledger.proofs.outcome.lent_decks.Given as goal

-- the decks that are lent so far, and those of the units that are left, are all
abbrev pub invariant-loop-unit : goal.invariant-loop-unit
invariant-loop-unit l =
    map (λ bytes. bytes.now) l.all.items ++ decks_of (kept_units (drop l.unit-index l.units)) ≡ decks_of (kept_units l.units)
