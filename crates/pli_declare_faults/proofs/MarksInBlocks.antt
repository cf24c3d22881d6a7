-- The marks of a unit stand in its blocks.
use Rattle.std.proofs.Common.{◌≡◌, ℕ, ◌<◌, List, length, get_or, Contains, ap, sym, subst, ◌∙◌, arith}
use Rattle.std.proofs.lemmas.List.{length-map, get_or-map}
use Rattle.pli_base.specs.Statements.{ExternalProcedure}
use Rattle.pli_declare_outline.specs.Outlines.{PlacedMark, Outline, outline_of}
use Rattle.pli_declare_outline.specs.declared.region.PlacedMark as written
use Rattle.pli_declare_outline.specs.views.OutlineView.{placed_view, marks_view}
use Rattle.pli_resolve.proofs.BlocksThere.{round_its_block}
use Rattle.pli_resolve.proofs.MarksStand.{marks_stand}
use Rattle.pli_declare_faults.specs.answers.Answers.{AreInBlocks}

pub in_blocks : (u : ExternalProcedure) (o : Outline) → o ≡ outline_of u → AreInBlocks o
in_blocks u o same = subst AreInBlocks (sym same) (λ p stands. round_its_block u p.region (marks_stand u p stands).within)

-- a mark that is read is one of them
pub mark_stands : (marks : List written.PlacedMark) (n : ℕ) (x : written.PlacedMark) (all : List PlacedMark) → n < length marks → x ≡ get_or marks n x
    → marks_view marks ≡ all → Contains all (placed_view x)
mark_stands marks n x all lt read same =
    subst (λ ps. Contains ps (placed_view x)) same
    (n, omega (arith, lt, length-map marks placed_view), get_or-map placed_view marks n x (placed_view x) lt ∙ ap placed_view (sym read))
