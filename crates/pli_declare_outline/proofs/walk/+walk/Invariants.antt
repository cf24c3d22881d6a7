use Rattle.std.proofs.Common.{List, drop}
use Rattle.pli_declare_outline.specs.declared.region.Region.{Region}
use Rattle.pli_declare_outline.specs.declared.region.PlacedMark.{PlacedMark}
use Rattle.pli_declare_outline.specs.declared.statement_places.StatementPlace.{StatementPlace}
use Rattle.pli_declare_outline.proofs.WalkLemmas.{AllWalked}
use Rattle.pli_declare_outline.proofs.walk.+walk.Given as goal

-- a walk over the statements that are left makes one over all of them
abbrev pub invariant-walk_statements-loop-statement : goal.invariant-walk_statements-loop-statement
invariant-walk_statements-loop-statement l =
    (regions : List Region) (marks : List PlacedMark) (places : List StatementPlace)
    → AllWalked l.here (drop l.statement-index l.statements) l.regions.items regions l.marks.items marks l.places.items places
    → AllWalked l.here l.statements l.initial.regions.items regions l.initial.marks.items marks l.initial.places.items places
