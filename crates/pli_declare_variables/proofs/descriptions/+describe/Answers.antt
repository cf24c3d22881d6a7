use Rattle.std.proofs.Common.{◌≡◌, ◌+◌, ◌<◌, Some, None, [], map, option_map, get_or, drop, length, Vec, ap, sym, ◌∙◌, subst, arith}
use Rattle.std.specs.Global.{Global}
use Rattle.std.proofs.lemmas.List.{length-map, map_push}
use Rattle.pli_map.specs.Description as tree
use Rattle.pli_map.specs.views.DescriptionView.{description_view, members_view}
use Rattle.pli_declare.specs.Extents.{all_bounds}
use Rattle.pli_declare.specs.Faults.{with_bounds, described_scalar}
use Rattle.pli_declare.specs.Sets.{outermost}
use Rattle.pli_declare.specs.Tables as tables
use Rattle.pli_declare_tables.specs.views.TableView.{entry_view, entries_view}
use Rattle.pli_declare.specs.Places.{members_of, item_in, item_of}
use Rattle.pli_declare.specs.Descriptions.{described, members_made, inside, scalar_at}
use Rattle.pli_declare_variables.proofs.SizeLemmas.{inside_some}
use Rattle.pli_declare.proofs.MembersFound.{members_stand}
use Rattle.pli_declare_variables.proofs.MembersFound.{viewed}
use Rattle.pli_declare_variables.proofs.DescriptionLemmas.{rows, row, in_front, one_known, one_unknown, all_known, of_parts, structure_made, no_members, some_members}
use Rattle.pli_declare_variables.proofs.descriptions.+describe.Goals.{describe-then-is_empty, describe-else-is_empty+in_ok-inside+in-Some}
use Rattle.pli_declare_variables.proofs.descriptions.+describe.Goals as goal

pub describe-bounds-members-number : goal.describe-bounds-members-number
describe-bounds-members-number t c = omega (arith, c.requires.within, rows (entries_view c.args.entries.now) c.args.members.now (length c.args.entries.now) c.requires.members)

pub describe-returns-in-None : goal.describe-returns-in-None
describe-returns-in-None t c =
    let program = c.args.entries.now in
    let entries = entries_view program in
    let codes = c.args.codes.now in
    let size = length program in
    let n = c.args.number in
    let v = c.index-members-number.result in
    let found = row entries c.args.members.now size n v c.requires.members c.requires.within c.index-members-number.is in
    let some : members_of entries n ≡ [] → ⊥ = λ none. some_members v c.is_empty.result c.is_empty.ensures c.if-is_empty.false (found ∙ none) in
    let unknown : None ≡ members_made (described size entries codes) (members_of entries n) = sym (ap (option_map (λ (w : Vec _ Global). members_view w.items)) c.in-None.is) ∙ c.in_ok-inside.ensures in
    ap (λ x. option_map (with_bounds (all_bounds (item_of entries n).dimensions)) (option_map tree.Structure x)) unknown
    ∙ ap (option_map (with_bounds (all_bounds (item_of entries n).dimensions))) (inside_some (described size entries codes) (scalar_at entries n) (members_of entries n) some)
    ∙ of_parts size entries c.requires.owners codes (sym (length-map program entry_view)) n c.requires.within (sym c.has_bad_shape.ensures ∙ c.if-has_bad_shape.false)

pub describe-returns : goal.describe-returns
describe-returns t c =
    let program = c.args.entries.now in
    let entries = entries_view program in
    let codes = c.args.codes.now in
    let size = length program in
    let n = c.args.number in
    let e = c.index-entries-number.result in
    let v = c.index-members-number.result in
    let scalar = scalar_at entries n in
    let read : entry_view e ≡ get_or entries n tables.no_entry = sym (viewed program n e c.requires.within c.index-entries-number.is) in
    let found = row entries c.args.members.now size n v c.requires.members c.requires.within c.index-members-number.is in
    let dimensions = c.dimensions.ensures ∙ ap (λ (x : tables.Entry). (item_in x.entity).dimensions) read in
    let here : Some (description_view c.if-is_empty.element) ≡ inside (described size entries codes) scalar (members_of entries n) = elim c.if-is_empty.branch [
      | describe-then-is_empty w ↦
          let none = sym found ∙ no_members v c.is_empty.result c.is_empty.ensures w.if-is_empty.true in
          ap (λ x. Some (description_view x)) w.element-is
          ∙ ap Some (w.scalar-element.ensures ∙ ap (λ (x : tables.Entry). described_scalar (map outermost (item_in x.entity).attributes)) read)
          ∙ ap (inside (described size entries codes) scalar) (sym none)
      | describe-else-is_empty+in_ok-inside+in-Some w ↦
          let some : members_of entries n ≡ [] → ⊥ = λ none. some_members v c.is_empty.result c.is_empty.ensures w.if-is_empty.false (found ∙ none) in
          ap (λ x. Some (description_view x)) w.element-is ∙ ap Some (structure_made w.in-Some.inside)
          ∙ ap (option_map tree.Structure) (sym (ap (option_map (λ (ds : Vec _ Global). members_view ds.items)) w.in-Some.is) ∙ w.in_ok-inside.ensures)
          ∙ inside_some (described size entries codes) scalar (members_of entries n) some
    ] in
    ap Some (c.in_ok-array_description.ensures ∙ ap (λ ds. with_bounds (all_bounds ds) (description_view c.if-is_empty.element)) dimensions)
    ∙ ap (option_map (with_bounds (all_bounds (item_of entries n).dimensions))) here
    ∙ of_parts size entries c.requires.owners codes (sym (length-map program entry_view)) n c.requires.within (sym c.has_bad_shape.ensures ∙ c.if-has_bad_shape.false)

pub describe_members-bounds-members-owner : goal.describe_members-bounds-members-owner
describe_members-bounds-members-owner t c = omega (arith, c.requires.within, rows (entries_view c.args.entries.now) c.args.members.now (length c.args.entries.now) c.requires.members)

pub describe_members-describe-requires : goal.describe_members-describe-requires
describe_members-describe-requires t c =
    let program = c.args.entries.now in
    let entries = entries_view program in
    let numbers = c.as_slice-numbers.result.now in
    let owner = c.args.owner in
    let i = c.loop-number.number-index in
    let found : numbers ≡ members_of entries owner =
    c.as_slice-numbers.ensures.value ∙ row entries c.args.members.now (length program) owner c.index-members-owner.result c.requires.members c.requires.within c.index-members-owner.is in
    let stands = subst (λ ks. (owner < get_or ks i 0) × (get_or ks i 0 < length entries)) (sym found)
    (members_stand entries c.requires.owners owner i (omega (arith, c.loop-number-test.true, ap length found))) in
    let counted = length-map program entry_view in
    (omega (arith, c.decreases, stands.0, stands.1, counted), (c.requires.owners, (c.requires.members, (c.requires.sound, omega (arith, stands.1, counted)))))

pub describe_members-returns-in-None : goal.describe_members-returns-in-None
describe_members-returns-in-None t c =
    let entries = entries_view c.args.entries.now in
    let size = length c.args.entries.now in
    let found = c.as_slice-numbers.ensures.value ∙ row entries c.args.members.now size c.args.owner c.index-members-owner.result c.requires.members c.requires.within c.index-members-owner.is in
    one_unknown (described size entries c.args.codes.now) c.as_slice-numbers.result.now c.loop-number.number-index (map description_view c.loop-number.inside.items) c.loop-number-test.true
    (sym (ap (option_map description_view) c.in-None.is) ∙ c.in_ok-description.ensures) c.loop-number.invariant
    ∙ ap (members_made (described size entries c.args.codes.now)) found

pub describe_members-loop-number-preserved : goal.describe_members-loop-number-preserved
describe_members-loop-number-preserved t c =
    let entries = entries_view c.args.entries.now in
    let describe = described (length c.args.entries.now) entries c.args.codes.now in
    let numbers = c.as_slice-numbers.result.now in
    let i = c.loop-number.number-index in
    let known = c.loop-number.inside.items in
    ap (λ ds. in_front ds (members_made describe (drop (i + 1) numbers))) (ap (map description_view) c.in_ok-push-in-Some.ensures.items ∙ map_push description_view known c.in-Some.description)
    ∙ one_known describe numbers i (map description_view known) (description_view c.in-Some.description) c.loop-number-test.true
    (sym (ap (option_map description_view) c.in-Some.is) ∙ c.in_ok-description.ensures) c.loop-number.invariant

pub describe_members-returns : goal.describe_members-returns
describe_members-returns t c =
    let entries = entries_view c.args.entries.now in
    let size = length c.args.entries.now in
    let describe = described size entries c.args.codes.now in
    let found = c.as_slice-numbers.ensures.value ∙ row entries c.args.members.now size c.args.owner c.index-members-owner.result c.requires.members c.requires.within c.index-members-owner.is in
    all_known describe c.as_slice-numbers.result.now c.loop-number.number-index (map description_view c.loop-number.inside.items) (omega (arith, c.loop-number-test.false)) c.loop-number.invariant
    ∙ ap (members_made describe) found
