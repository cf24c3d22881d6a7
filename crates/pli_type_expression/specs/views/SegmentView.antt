-- What stands in front of names and between arrows, apart from where it lies in memory.
use Rattle.std.specs.Prelude.{ℕ, List, map}
use Rattle.pli_type_rules.specs.Names as names
use Rattle.pli_type_rules.specs.References as references
use Rattle.pli_type_rules.specs.Typing as typing
use Rattle.pli_type.specs.views.ValueView.{value_view}
use Rattle.pli_type_tree.specs.TypedTree as tree
use Rattle.pli_type_tree.specs.views.TypedView.{expression_view, reference_view}
use Rattle.pli_type_names.specs.LocatorReferences.{locating}
use Rattle.pli_type_expression.specs.declared.locator.LocatorBefore.{LocatorBefore}
use Rattle.pli_type_expression.specs.declared.locator.LocatorBefore.TheVariants as locators
use Rattle.pli_type_expression.specs.declared.locator.LocatorVariable.{LocatorVariable}
use Rattle.pli_type_expression.specs.declared.segment.Segment.{Segment}
use Rattle.pli_type_expression.specs.declared.segment.Segment.TheVariants as segments

-- a POINTER, or an OFFSET with its area
abbrev pub variable_view : LocatorVariable → names.LocatorVariable
variable_view l = locating l.area (reference_view l.reference)

-- what stands in front of a name
abbrev pub locator_view : LocatorBefore → references.LocatorBefore
locator_view locators.NotLocated = references.NotLocated
locator_view (locators.LocatedBy locator) = references.LocatedBy (expression_view locator.value)
locator_view locators.LocatedWrongly = references.LocatedWrongly

-- a segment whose first name stands at a token, by what that name means
abbrev pub of_name : names.NamedAs → references.LocatorBefore → (at : ℕ) → List tree.TypedExpression
    → typing.Segment
of_name (names.AVariable v) locator at xs = typing.OfVariable locator at v xs
of_name other locator at xs = typing.OfNoVariable at

-- what stands between arrows
abbrev pub segment_view : names.Naming → Segment → typing.Segment
segment_view n (segments.Named locator at subscripts) =
    of_name (n.meaning at) (locator_view locator) at (map expression_view subscripts.items)
segment_view n (segments.Function value) = typing.OfFunction (value_view value)
segment_view n segments.Empty = typing.OfEmpty
