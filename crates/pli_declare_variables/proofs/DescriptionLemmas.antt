-- Descriptions of members, one after the other.
use Rattle.std.proofs.Common.{◌≡◌, ℕ, zero, suc, ◌+◌, ◌<◌, ◌≤◌, Bool, true, false, Option, Some, None, option_map, List, [], ◌∷◌, ◌++◌, map, length, get_or, drop, Vec, true≢false, refl, ap, sym, ◌∙◌, arith}
use Rattle.std.specs.Global.{Global}
use Rattle.std.specs.Bool.{◌==◌}
use Rattle.std.specs.Vec.{vec_len}
use Rattle.std.proofs.lemmas.List.{length-map, get_or-map, drop_more, drop_all, nil_from_length}
use Rattle.std.proofs.lemmas.Bool.{eqb-true, eq-eqb}
use Rattle.pli_base.specs.declared.code.Code.{Code}
use Rattle.pli_map.specs.Description.{Description, Structure, Members, NoMembers, MemberThen}
use Rattle.pli_map.specs.views.DescriptionView as view
use Rattle.pli_map.specs.declared.description.Description as program
use Rattle.pli_map.specs.declared.description.Description.TheVariants as made
use Rattle.pli_map.specs.declared.description.Description.TheFolds as folds
use Rattle.pli_declare.specs.Extents.{all_bounds}
use Rattle.pli_declare.specs.Faults.{with_bounds}
use Rattle.pli_declare.specs.answers.Owners.{AreAfterOwners}
use Rattle.pli_declare.specs.Tables.{Entry, numbers_from}
use Rattle.pli_declare.specs.Places.{members_of, item_of}
use Rattle.pli_declare.specs.Descriptions.{is_of_shape, scalar_at, member_then, members_made, inside, described}
use Rattle.pli_declare.proofs.NumberListLemmas.{map_at, length_numbers}
use Rattle.pli_declare.proofs.MembersFound.{members_stand, same_inside, enough}

-- members that are known, and others after them
abbrev pub in_front : List Description → Option Members → Option Members
in_front [] others = others
in_front (d ∷ ds) others = option_map (MemberThen d) (in_front ds others)

front_none : (ds : List Description) → in_front ds None ≡ None
front_none [] = refl
front_none (d ∷ ds) = ap (option_map (MemberThen d)) (front_none ds)

front_all : (ds : List Description) → in_front ds (Some NoMembers) ≡ Some (view.members_of ds)
front_all [] = refl
front_all (d ∷ ds) = ap (option_map (MemberThen d)) (front_all ds)

front_push : (ds : List Description) (d : Description) (others : Option Members) → in_front (ds ++ d ∷ []) others ≡ in_front ds (option_map (MemberThen d) others)
front_push [] d others = refl
front_push (e ∷ ds) d others = ap (option_map (MemberThen e)) (front_push ds d others)

-- what is left to describe, at one member
left_at : (f : ℕ → Option Description) (ks : List ℕ) (i : ℕ) → i < length ks → members_made f (drop i ks) ≡ member_then (f (get_or ks i 0)) (members_made f (drop (i + 1) ks))
left_at f ks i within = ap (members_made f) (drop_more ks i 0 within)

-- one member more
pub one_known : (f : ℕ → Option Description) (ks : List ℕ) (i : ℕ) (ds : List Description) (d : Description) → i < length ks → Some d ≡ f (get_or ks i 0)
    → in_front ds (members_made f (drop i ks)) ≡ members_made f ks → in_front (ds ++ d ∷ []) (members_made f (drop (i + 1) ks)) ≡ members_made f ks
one_known f ks i ds d within is so_far =
    front_push ds d (members_made f (drop (i + 1) ks))
    ∙ ap (λ x. in_front ds (member_then x (members_made f (drop (i + 1) ks)))) is
    ∙ sym (ap (in_front ds) (left_at f ks i within)) ∙ so_far

-- a member that is not known
pub one_unknown : (f : ℕ → Option Description) (ks : List ℕ) (i : ℕ) (ds : List Description) → i < length ks → None ≡ f (get_or ks i 0)
    → in_front ds (members_made f (drop i ks)) ≡ members_made f ks → None ≡ members_made f ks
one_unknown f ks i ds within is so_far =
    sym (front_none ds) ∙ ap (λ x. in_front ds (member_then x (members_made f (drop (i + 1) ks)))) is
    ∙ sym (ap (in_front ds) (left_at f ks i within)) ∙ so_far

-- no member is left
pub all_known : (f : ℕ → Option Description) (ks : List ℕ) (i : ℕ) (ds : List Description) → length ks ≤ i
    → in_front ds (members_made f (drop i ks)) ≡ members_made f ks → Some (view.members_of ds) ≡ members_made f ks
all_known f ks i ds over so_far = sym (front_all ds) ∙ ap (λ xs. in_front ds (members_made f xs)) (sym (drop_all i ks over)) ∙ so_far

-- an item of a good shape, by the descriptions of its members
pub of_parts : (size : ℕ) (entries : List Entry) → AreAfterOwners entries → (codes : List (Option Code)) → size ≡ length entries → (n : ℕ)
    → n < size → is_of_shape (get_or codes n None) ≡ false
    → option_map (with_bounds (all_bounds (item_of entries n).dimensions)) (inside (described size entries codes) (scalar_at entries n) (members_of entries n)) ≡ described size entries codes n
of_parts zero entries owners codes is n within shape = absurd (omega (arith, within))
of_parts (suc b) entries owners codes is n within shape =
    let made = ap (option_map (with_bounds (all_bounds (item_of entries n).dimensions)))
    (same_inside (described (suc b) entries codes) (described b entries codes) (scalar_at entries n) (members_of entries n)
    (λ i at. let stands = members_stand entries owners n i at in
    enough entries owners codes (suc b) b (get_or (members_of entries n) i 0) stands.1 (omega (arith, is)) (omega (arith, is, stands.0)))) in
    rw shape made

-- the members of an item, as they are listed
abbrev items : Vec ℕ Global → List ℕ
items v = v.items

pub rows : (entries : List Entry) (members : List (Vec ℕ Global)) (size : ℕ) → map items members ≡ map (members_of entries) (numbers_from 0 size) → length members ≡ size
rows entries members size h =
    sym (length-map members items) ∙ ap length h ∙ length-map (numbers_from 0 size) (members_of entries) ∙ length_numbers 0 size

pub row : (entries : List Entry) (members : List (Vec ℕ Global)) (size n : ℕ) (v : Vec ℕ Global) → map items members ≡ map (members_of entries) (numbers_from 0 size)
    → n < size → v ≡ get_or members n v → v.items ≡ members_of entries n
row entries members size n v h within is =
    let same : 0 + n ≡ n = omega arith in
    ap items is ∙ sym (get_or-map items members n v [] (omega (arith, within, rows entries members size h)))
    ∙ ap (λ (xs : List (List ℕ)). get_or xs n []) h ∙ map_at (members_of entries) 0 size n [] within ∙ ap (members_of entries) same

-- a structure of these members
pub structure_made : (v : Vec program.Description Global) → view.description_view (made.Structure v) ≡ Structure (view.members_view v.items)
structure_made v = ap view.description_view (sym (made.rolls-Structure v)) ∙ folds.fold-roll-Description Description view.level_view (program.Description-F.Structure v)

-- whether an item has members
pub no_members : (v : Vec ℕ Global) (b : Bool) → b ≡ (vec_len v == 0) → b ≡ true → v.items ≡ []
no_members v b is e = nil_from_length v.items (omega (arith, v.ok.0, eqb-true (vec_len v) 0 (sym is ∙ e)))

pub some_members : (v : Vec ℕ Global) (b : Bool) → b ≡ (vec_len v == 0) → b ≡ false → v.items ≡ [] → ⊥
some_members v b is e none =
    let empty : vec_len v ≡ 0 = omega (arith, v.ok.0, ap length none) in
    true≢false (sym (is ∙ eq-eqb (vec_len v) 0 empty) ∙ e)
