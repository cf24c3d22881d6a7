use Rattle.std.proofs.Common.{◌≡◌, ◌≤◌, ◌+◌, map, drop, option_map}
use Rattle.pli_map.specs.Sizes.{size_of}
use Rattle.pli_map.specs.views.DescriptionView.{description_view}
use Rattle.pli_map.specs.Parts.{moved, place_of}
use Rattle.pli_map.specs.views.PartView.{step_view}
use Rattle.pli_map.proofs.parts.place.Given as goal

-- the rest of the path leads from the part so far where the path leads from the whole
abbrev pub invariant-loop-step : goal.invariant-loop-step
invariant-loop-step l =
    record {
      whole : place_of (description_view l.description) (map step_view l.path)
          ≡ option_map (moved l.part.offset) (place_of (description_view l.part.description.now) (map step_view (drop l.step-index l.path)));
      limit : l.part.offset + size_of (description_view l.part.description.now) ≤ 1000000;
    }
