use Rattle.std.proofs.Common.{◌≡◌, ◌&&◌, ◌||◌, map, drop}
use Rattle.std.specs.Option.{option_or}
use Rattle.pli_base.specs.views.DeclarationView.{attribute_view}
use Rattle.pli_declare.specs.Sets.{set_with, set_of, each_once, outermost}
use Rattle.pli_declare.specs.Types.{number_of, has_star}
use Rattle.pli_declare_attributes.proofs.summary.Summary.of_item.Given as goal

-- what stands so far, in front of what is left, is what all of it is
abbrev pub invariant-loop-attribute : goal.invariant-loop-attribute
invariant-loop-attribute l =
    let left = map outermost (map attribute_view (drop l.attribute-index l.attributes)) in
    let all = map outermost (map attribute_view l.attributes) in
    record {
      set : set_with l.summary.set.0 left ≡ set_of all;
      once : (l.summary.once && each_once l.summary.set.0 left) ≡ each_once 0 all;
      number : option_or l.summary.number (number_of left) ≡ number_of all;
      star : (l.summary.star || has_star left) ≡ has_star all;
    }
