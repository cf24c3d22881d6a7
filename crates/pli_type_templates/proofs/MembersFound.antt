-- Members that are found one by one.
use Rattle.std.proofs.Common.{◌≡◌, ℕ, ◌<◌, ◌≤◌, nat_eq, Bool, Option, Some, None, List, [], ◌∷◌, ◌++◌, length, get_or, set, replicate, refl, subst, ap, sym, ◌∙◌, arith}
use Rattle.std.specs.Prelude.{if◌then◌else◌}
use Rattle.std.proofs.Common.{eq-eqb, ne_eqb, inl, inr}
use Rattle.std.proofs.lemmas.Bool.{cases_eq, cases_lt}
use Rattle.std.proofs.lemmas.List.{append_assoc, append-nil, get_or-set_same, get_or-set_other, get_or-replicate, length-set, length-replicate, set_past}
use Rattle.std.proofs.lemmas.Option.{same_Some, none-some}
use Rattle.pli_base.specs.declared.syntax.Identifier.{Identifier}
use Rattle.pli_declare.specs.Symbols.{Symbol, SymbolKind, Variable, OpenParameter, Member, Label, Procedure, Entry, BuiltIn}
use Rattle.pli_type_rules.specs.InitialScalars.{InitialItem}
use Rattle.pli_type_rules.specs.NamedUnits.{member_items}
use Rattle.pli_type_templates.specs.Groups.{AreMembers, Owned, member_in, with_member}

-- those found so far with those among the symbols that are left are those among all
pub record Found (rows : List (List InitialItem)) (left all : List Symbol) : Type 0 where
  pub sized : length rows ≡ length all
  pub owned : (root : ℕ) → root < length all → get_or rows root [] ++ member_items root left ≡ member_items root all

pub none_found : (all : List Symbol) (rows : List (List InitialItem)) → rows ≡ replicate (length all) [] → Found rows all all
none_found all rows is = record {
  sized = ap length is ∙ length-replicate (length all) [];
  owned = λ root h. ap (λ xs. xs ++ member_items root all) (ap (λ rs. get_or rs root []) is ∙ get_or-replicate (length all) root [] [] h);
}

pub all_found : (rows : List (List InitialItem)) (all : List Symbol) → Found rows [] all → AreMembers rows all
all_found rows all f = record {
  sized = f.sized;
  owned = λ root h. sym (append-nil (get_or rows root [])) ∙ f.owned root h;
}

-- a symbol that is no member
no_member : (root : ℕ) (i : Identifier) (k : SymbolKind) (left : List Symbol) → member_in k ≡ None
    → member_items root (record { identifier = i; kind = k } ∷ left) ≡ member_items root left
no_member root i (Variable description class scope initial area) left e = refl
no_member root i (OpenParameter type slot area) left e = refl
no_member root i (Member owner path initial area) left e = absurd (none-some _ (sym e))
no_member root i (Label statement) left e = refl
no_member root i (Procedure block returned area) left e = refl
no_member root i (Entry parameters returned area) left e = refl
no_member root i BuiltIn left e = refl

-- the items of a root, by whether this member is one of them
abbrev with_item : (same : Bool) → InitialItem → List InitialItem → List InitialItem
with_item same item items = (if same then item ∷ [] else []) ++ items

a_member : (root : ℕ) (i : Identifier) (k : SymbolKind) (left : List Symbol) (o : Owned) → member_in k ≡ Some o
    → member_items root (record { identifier = i; kind = k } ∷ left) ≡ with_item (nat_eq o.root root) o.item (member_items root left)
a_member root i (Variable description class scope initial area) left o e = absurd (none-some o e)
a_member root i (OpenParameter type slot area) left o e = absurd (none-some o e)
a_member root i (Member owner path initial area) left o e =
    ap (λ x. with_item (nat_eq x.root root) x.item (member_items root left)) (same_Some _ o e)
a_member root i (Label statement) left o e = absurd (none-some o e)
a_member root i (Procedure block returned area) left o e = absurd (none-some o e)
a_member root i (Entry parameters returned area) left o e = absurd (none-some o e)
a_member root i BuiltIn left o e = absurd (none-some o e)

pass_other : (rows : List (List InitialItem)) (s : Symbol) (left all : List Symbol) → member_in s.kind ≡ None
    → Found rows (s ∷ left) all → Found rows left all
pass_other rows s left all e f = record {
  sized = f.sized;
  owned = λ root h. ap (λ xs. get_or rows root [] ++ xs) (sym (no_member root s.identifier s.kind left e)) ∙ f.owned root h;
}

pass_beyond : (rows : List (List InitialItem)) (s : Symbol) (left all : List Symbol) (o : Owned) → member_in s.kind ≡ Some o
    → length rows ≤ o.root → Found rows (s ∷ left) all → Found rows left all
pass_beyond rows s left all o e beyond f = record {
  sized = f.sized;
  owned = λ root h.
      let apart : o.root ≡ root → ⊥ = λ same. omega (arith, same, f.sized, beyond, h) in
      let other = a_member root s.identifier s.kind left o e ∙ ap (λ b. with_item b o.item (member_items root left)) (ne_eqb o.root root apart) in
      ap (λ xs. get_or rows root [] ++ xs) (sym other) ∙ f.owned root h;
}

add_member : (rows : List (List InitialItem)) (s : Symbol) (left all : List Symbol) (o : Owned) → member_in s.kind ≡ Some o
    → o.root < length rows → Found rows (s ∷ left) all → Found (set rows o.root (get_or rows o.root [] ++ o.item ∷ [])) left all
add_member rows s left all o e within f = record {
  sized = length-set rows o.root (get_or rows o.root [] ++ o.item ∷ []) ∙ f.sized;
  owned = λ root h. elim (cases_eq o.root root) [ inl same ↦ there root h same | inr apart ↦ elsewhere root h apart ];
}
  where
    more : List InitialItem
    more = get_or rows o.root [] ++ o.item ∷ []

    there : (root : ℕ) → root < length all → o.root ≡ root → get_or (set rows o.root more) root [] ++ member_items root left ≡ member_items root all
    there root h same =
        let left_items = member_items root left in
        let is = a_member root s.identifier s.kind left o e ∙ ap (λ b. with_item b o.item left_items) (eq-eqb o.root root same) in
        ap (λ r. get_or (set rows o.root more) r [] ++ left_items) (sym same)
        ∙ ap (λ xs. xs ++ left_items) (get_or-set_same rows o.root more [] within)
        ∙ append_assoc (get_or rows o.root []) (o.item ∷ []) left_items
        ∙ ap (λ r. get_or rows r [] ++ (o.item ∷ left_items)) same
        ∙ ap (λ xs. get_or rows root [] ++ xs) (sym is)
        ∙ f.owned root h

    elsewhere : (root : ℕ) → root < length all → (o.root ≡ root → ⊥) → get_or (set rows o.root more) root [] ++ member_items root left ≡ member_items root all
    elsewhere root h apart =
        let left_items = member_items root left in
        let is = a_member root s.identifier s.kind left o e ∙ ap (λ b. with_item b o.item left_items) (ne_eqb o.root root apart) in
        ap (λ xs. xs ++ left_items) (get_or-set_other rows o.root root more [] (λ same. apart (sym same)))
        ∙ ap (λ xs. get_or rows root [] ++ xs) (sym is)
        ∙ f.owned root h

-- with what one more symbol adds, if it is a member
pub found_more : (rows : List (List InitialItem)) (s : Symbol) (left all : List Symbol) → Found rows (s ∷ left) all
    → Found (with_member rows (member_in s.kind)) left all
found_more rows s left all f = by_member (member_in s.kind) refl
  where
    of_member : (o : Owned) → member_in s.kind ≡ Some o → Found (with_member rows (Some o)) left all
    of_member o e = elim (cases_lt o.root (length rows)) [
      | inl within ↦ add_member rows s left all o e within f
      | inr beyond ↦ subst (λ rs. Found rs left all) (sym (set_past rows o.root (get_or rows o.root [] ++ o.item ∷ []) beyond)) (pass_beyond rows s left all o e beyond f)
    ]

    by_member : (o : Option Owned) → member_in s.kind ≡ o → Found (with_member rows o) left all
    by_member None e = pass_other rows s left all e f
    by_member (Some o) e = of_member o e

-- where there is no such root, nothing is added
pub none_added : (rows : List (List InitialItem)) (k : SymbolKind) (o : Owned) → Some o ≡ member_in k → length rows ≤ o.root
    → rows ≡ with_member rows (member_in k)
none_added rows k o e beyond =
    sym (set_past rows o.root (get_or rows o.root [] ++ o.item ∷ []) beyond) ∙ ap (with_member rows) e
