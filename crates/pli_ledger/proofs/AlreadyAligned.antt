-- Where the units of a list are the sources, in the order of their names, the list is what is kept of them.
use Rattle.std.proofs.Common.{◌≡◌, false, List, [], ◌∷◌, map, refl, sym, ap, subst, ◌∙◌}
use Rattle.std.specs.List.{IsDistinct}
use Rattle.std.specs.List.Sorted.{IsStrictlySortedBy}
use Rattle.std.specs.Map.{keys_of}
use Rattle.std.specs.Ordering.{eq_by_cmp}
use Rattle.std.proofs.lemmas.Map.Keys.{IsDistinct-head, IsDistinct-tail}
use Rattle.pli_base.specs.Name.{Name}
use Rattle.pli_members.specs.Members.{Member, is_named, name_order}
use Rattle.pli_meaning.specs.Scratch.{sources}
use Rattle.pli_ledger.specs.Kept.{Units, kept_of}
use Rattle.pli_ledger.specs.answers.Aligning.{aligned, unit_name}
use Rattle.pli_ledger.proofs.KeptMoved.{aligned_same}
use Rattle.pli_ledger.proofs.NamesApart.{kept_first, kept_later, named_itself}
use Rattle.pli_ledger.proofs.NamesInOrder.{all_weaker, other_way, sources_apart}

itself : (units : Units) → IsDistinct (eq_by_cmp name_order) (map unit_name units) → aligned units (map unit_name units) ≡ units
itself [] apart = refl
itself (u ∷ us) apart =
    let names = map unit_name us in
    let first = kept_first u.0 u us (named_itself u.0) in
    let others = aligned_same us (u ∷ us) names
    (all_weaker (λ y. is_named u.0 y ≡ false) (λ y. kept_of (u ∷ us) y ≡ kept_of us y) (λ y differs. kept_later y u us (other_way u.0 y differs)) names (IsDistinct-head (eq_by_cmp name_order) u.0 names apart))
    ∙ itself us (IsDistinct-tail (eq_by_cmp name_order) u.0 names apart) in
    λ i. (u.0, first i) ∷ others i

pub already_aligned : (units : Units) (entries : List (Name × Member)) → IsStrictlySortedBy name_order (keys_of entries) → map unit_name units ≡ sources entries → units ≡ aligned units (sources entries)
already_aligned units entries sorted same =
    sym (ap (aligned units) (sym same) ∙ itself units (subst (IsDistinct (eq_by_cmp name_order)) (sym same) (sources_apart entries sorted)))
