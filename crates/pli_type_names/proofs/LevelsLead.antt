-- Members of structures to which ways lead.
use Rattle.std.proofs.Common.{◌≡◌, ℕ, true, Option, Some, None, option_map, List, [], ◌∷◌, ◌++◌, get_or, refl, ap, sym, ◌∙◌}
use Rattle.std.specs.Prelude.{option_and_then}
use Rattle.std.proofs.lemmas.Option.{same_Some, none-some}
use Rattle.pli_map.specs.Description as tree
use Rattle.pli_map.specs.Description.{Description, Members, Structure}
use Rattle.pli_map.specs.Parts.{PlacedPart, Member, member_after, part_at}
use Rattle.pli_type_rules.specs.NamedUnits.{may_stand}
use Rattle.pli_type_names.proofs.PlainLemmas.{PlainMember, plain_step}
use Rattle.pli_type_rules.specs.References.{StridedPart, element_of, member_of, part_on}
use Rattle.pli_type_tree.specs.TypedTree.{Stride}
use Rattle.pli_map.specs.views.DescriptionView.{members_view}
use Rattle.pli_type_names.specs.OnWays.{IsLevel, SameStructure, part_in, placed_in}
use Rattle.pli_type_names.specs.declared.level.StructureLevel.{StructureLevel}
use Rattle.pli_type_names.specs.OwnVariables.{OwnVariable}

-- the way with one member more
itself : (o : Option StridedPart) → option_and_then (λ m. Some m) o ≡ o
itself None = refl
itself (Some m) = refl

part_on_more : (p : StridedPart) (path : List ℕ) (i : ℕ)
    → part_on p (path ++ i ∷ []) ≡ option_and_then (λ q. member_of q i) (part_on p path)
part_on_more p [] i = itself (member_of p i)
part_on_more p (j ∷ path) i = inside (member_of p j) (λ m. part_on_more m path i)
  where
    inside : (o : Option StridedPart)
        → ((m : StridedPart) → part_on m (path ++ i ∷ []) ≡ option_and_then (λ q. member_of q i) (part_on m path))
        → option_and_then (λ m. part_on m (path ++ i ∷ [])) o
        ≡ option_and_then (λ q. member_of q i) (option_and_then (λ m. part_on m path) o)
    inside None h = refl
    inside (Some m) h = h m

part_in_more : (variable : Option OwnVariable) (path : List ℕ) (i : ℕ)
    → option_and_then (λ v. part_on (record { offset = 0; description = v.whole; strides = [] }) (path ++ i ∷ [])) variable
    ≡ option_and_then (λ q. member_of q i) (option_and_then (λ v. part_on (record { offset = 0; description = v.whole; strides = [] }) path) variable)
part_in_more None path i = refl
part_in_more (Some v) path i = part_on_more (record { offset = 0; description = v.whole; strides = [] }) path i

-- a member of a part is one of its element
member_in : (offset : ℕ) (d : Description) (strides : List Stride) (ms : Members) (i : ℕ)
    → (element_of (record { offset = offset; description = d; strides = strides })).description ≡ Structure ms
    → member_of (record { offset = offset; description = d; strides = strides }) i
    ≡ option_map (placed_in (element_of (record { offset = offset; description = d; strides = strides }))) (member_after 0 ms i)
member_in offset (tree.FixedBinary n) strides ms i is = let h : tree.FixedBinary n ≡ Structure ms = is in absurd (cc)
member_in offset (tree.Character n) strides ms i is = let h : tree.Character n ≡ Structure ms = is in absurd (cc)
member_in offset (tree.Varying n) strides ms i is = let h : tree.Varying n ≡ Structure ms = is in absurd (cc)
member_in offset (tree.Bit n) strides ms i is = let h : tree.Bit n ≡ Structure ms = is in absurd (cc)
member_in offset tree.Pointer strides ms i is = let h : tree.Pointer ≡ Structure ms = is in absurd (cc)
member_in offset tree.Offset strides ms i is = let h : tree.Offset ≡ Structure ms = is in absurd (cc)
member_in offset (tree.Area n) strides ms i is = let h : tree.Area n ≡ Structure ms = is in absurd (cc)
member_in offset (tree.Array bounds e) strides ms i is = let h : e ≡ Structure ms = is in rw h refl
member_in offset (tree.Structure members) strides ms i is =
    let h : Structure members ≡ Structure ms = is in
    let same : members ≡ ms = cc in
    ap (λ x. option_map (placed_in (record { offset = offset; description = Structure x; strides = strides })) (member_after 0 x i)) same

in_element : (o : Option StridedPart) (e : StridedPart) (ms : Members) (i : ℕ) → option_map element_of o ≡ Some e → e.description ≡ Structure ms
    → option_and_then (λ q. member_of q i) o ≡ option_map (placed_in e) (member_after 0 ms i)
in_element None e ms i is s = absurd (none-some e is)
in_element (Some q) e ms i is s =
    let same : element_of q ≡ e = same_Some _ e is in
    member_in q.offset q.description q.strides ms i (ap (λ x. x.description) same ∙ s)
    ∙ ap (λ x. option_map (placed_in x) (member_after 0 ms i)) same

-- the part that stands in the structure to which the way leads is the one on the way with one member more
pub member_on_way : (variables : List (Option OwnVariable)) (root : ℕ) (way : List ℕ) (i : ℕ) (e : StridedPart) (ms : Members)
    → option_map element_of (part_in variables root way) ≡ Some e → e.description ≡ Structure ms
    → part_in variables root (way ++ i ∷ []) ≡ option_map (placed_in e) (member_after 0 ms i)
member_on_way variables root way i e ms is s =
    part_in_more (get_or variables root None) way i ∙ in_element (part_in variables root way) e ms i is s

-- where members are passed, a structure stays what it is
pub same_level : (variables : List (Option OwnVariable)) (k l : StructureLevel) → SameStructure k l → IsLevel variables l → IsLevel variables k
same_level variables k l same is = record {
  element = ap (λ root. option_map element_of (part_in variables root k.way.now)) same.root
      ∙ ap (λ way. option_map element_of (part_in variables l.root way)) same.way
      ∙ is.element
      ∙ sym (ap Some same.element);
  members = ap (λ p. p.description) same.element
      ∙ is.members
      ∙ sym (ap (λ v. Structure (members_view v.items)) same.members);
}

-- a member of a plain structure is plain, and lies within it
pub member_fits : (d : Description) (ms : Members) (i : ℕ) (p : PlacedPart) → may_stand 63 d ≡ true → d ≡ Structure ms
    → Some p ≡ member_after 0 ms i → PlainMember d p
member_fits d ms i p plain e is = plain_step d i p plain (ap (λ x. part_at x (Member i)) e ∙ sym is)
