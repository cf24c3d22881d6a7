use Rattle.std.proofs.Common.{◌≡◌, ℕ, List, ◌++◌, map, drop}
use Rattle.std.specs.List.{flat_map}
use Rattle.pli_map.specs.Description.{Description}
use Rattle.pli_map.specs.ParameterTypes.{Stated}
use Rattle.pli_map.specs.views.DescriptionView.{description_view}
use Rattle.pli_code.specs.Versions.{written}
use Rattle.pli_deck_write.specs.Descriptions.{description_within}
use Rattle.pli_deck_write.proofs.describing.+put_description.Given as goal

-- what was put so far, in front of what is left, is all that is put
abbrev pub invariant-put_members-loop-member : goal.invariant-put_members-loop-member
invariant-put_members-loop-member l =
    let bytes_of : Description → List ℕ = λ d. (description_within written l.levels).bytes_of (Stated d) in
    l.out.items ++ flat_map bytes_of (map description_view (drop l.member-index l.members)) ≡ l.fn.out.items ++ flat_map bytes_of (map description_view l.members)
