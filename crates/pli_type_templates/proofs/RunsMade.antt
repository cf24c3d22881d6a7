-- Variables and globals that stand in a row and are alike.
use Rattle.std.proofs.Common.{◌≡◌, ℕ, ◌+◌, ◌<◌, List, [], ◌∷◌, ◌++◌, add-one, get_or, length, map, replicate, take, drop, drop-drop, refl, sym, ap, subst, ◌∙◌, arith}
use Rattle.std.specs.List.{All, flat_map}
use Rattle.std.specs.Option.{option_to_list}
use Rattle.std.proofs.lemmas.List.{append_assoc, drop_more, flat_map_more, length-map, map-append, take-append-drop}
use Rattle.std.proofs.lemmas.List.Elements.{All-head, All-map, All-tail}
use Rattle.pli_base.specs.Name.{Name}
use Rattle.pli_program.specs.declared.kind.VariableKind.{VariableKind}
use Rattle.pli_type_tree.specs.Templates.{Template}
use Rattle.pli_type_tree.specs.TypedTree.{Global, OwnVariable, ExternalVariable, EntryPoint, Signature}
use Rattle.pli_type_templates.specs.Globals.{IsLike, name_in, names_in}

-- where each gives the same, there are as many of it
alike_all : {A B : Type 0} (f : A → B) (t : B) (xs : List A) → All (λ x. f x ≡ t) xs → map f xs ≡ replicate (length xs) t
alike_all f t [] h = refl
alike_all f t (x ∷ xs) h =
    ap (λ y. y ∷ map f xs) (All-head (λ z. f z ≡ t) x xs h) ∙ ap (λ ys. t ∷ ys) (alike_all f t xs (All-tail (λ z. f z ≡ t) x xs h))

pub run_alike : {A B : Type 0} (f : A → B) (first : A) (more : List A) (n : ℕ) → n ≡ length more + 1 → All (λ x. f x ≡ f first) more
    → replicate n (f first) ≡ map f (first ∷ more)
run_alike f first more n is h =
    ap (λ k. replicate k (f first)) (is ∙ add-one (length more)) ∙ ap (λ ys. f first ∷ ys) (sym (alike_all f (f first) more h))

-- a group more, and what is left after it
pub group_more : {A G C : Type 0} (view : G → List C) (f : A → C) (gs : List G) (group : G) (all : List A) (at n next : ℕ) (first : A) (made : List C)
    → at < length all → first ≡ get_or all at first → next ≡ at + (n + 1) → view group ≡ map f (first ∷ take n (drop (at + 1) all))
    → flat_map view gs ++ map f (drop at all) ≡ made → flat_map view (gs ++ group ∷ []) ++ map f (drop next all) ≡ made
group_more view f gs group all at n next first made lt is to of h =
    let rest = drop (at + 1) all in
    let run = first ∷ take n rest in
    let to_rest : next ≡ (at + 1) + n = omega (arith, to) in
    let left : drop next all ≡ drop n rest = ap (λ k. drop k all) to_rest ∙ sym (drop-drop n (at + 1) all) in
    let split : drop at all ≡ run ++ drop n rest =
    drop_more all at first lt ∙ ap (λ x. x ∷ rest) (sym is) ∙ ap (λ ys. first ∷ ys) (sym (take-append-drop n rest)) in
    let after = map f (drop next all) in
    ap (λ xs. xs ++ after) (sym (flat_map_more view [] gs group))
    ∙ append_assoc (flat_map view gs) (view group) after
    ∙ ap (λ ys. flat_map view gs ++ ys)
    (ap (λ ys. ys ++ after) of ∙ ap (λ ys. map f run ++ map f ys) left ∙ sym (map-append f run (drop n rest)) ∙ ap (map f) (sym split))
    ∙ h

-- ---- groups of globals

own_like : (kind : VariableKind) (t : Template) (g : Global) → IsLike (OwnVariable kind t) g → OwnVariable kind t ≡ g
own_like kind t (OwnVariable other u) h = ap (λ k. OwnVariable k t) (sym h.0) ∙ ap (OwnVariable other) (sym h.1)
own_like kind t (ExternalVariable name other u) h = absurd h
own_like kind t (EntryPoint name s) h = absurd h

own_after : (kind : VariableKind) (t : Template) (gs : List Global) → All (IsLike (OwnVariable kind t)) gs
    → map (OwnVariable kind) (replicate (length gs) t) ≡ gs
own_after kind t [] h = refl
own_after kind t (g ∷ gs) h =
    ap (λ x. x ∷ map (OwnVariable kind) (replicate (length gs) t)) (own_like kind t g (All-head (IsLike (OwnVariable kind t)) g gs h))
    ∙ ap (λ xs. g ∷ xs) (own_after kind t gs (All-tail (IsLike (OwnVariable kind t)) g gs h))

external_like : (kind : VariableKind) (t : Template) (name : Name) (g : Global) (names : List Name) (gs : List Global)
    → IsLike (ExternalVariable name kind t) g → map (λ n. ExternalVariable n kind t) names ≡ gs
    → map (λ n. ExternalVariable n kind t) (option_to_list (name_in g) ++ names) ≡ g ∷ gs
external_like kind t name (OwnVariable other u) names gs h e = absurd h
external_like kind t name (ExternalVariable further other u) names gs h e =
    ap (λ k. ExternalVariable further k t ∷ map (λ n. ExternalVariable n kind t) names) (sym h.0)
    ∙ ap (λ v. ExternalVariable further other v ∷ map (λ n. ExternalVariable n kind t) names) (sym h.1)
    ∙ ap (λ xs. ExternalVariable further other u ∷ xs) e
external_like kind t name (EntryPoint further s) names gs h e = absurd h

external_after : (name : Name) (kind : VariableKind) (t : Template) (gs : List Global) → All (IsLike (ExternalVariable name kind t)) gs
    → map (λ n. ExternalVariable n kind t) (names_in gs) ≡ gs
external_after name kind t [] h = refl
external_after name kind t (g ∷ gs) h =
    external_like kind t name g (names_in gs) gs (All-head (IsLike (ExternalVariable name kind t)) g gs h)
    (external_after name kind t gs (All-tail (IsLike (ExternalVariable name kind t)) g gs h))

entry_like : (s : Signature) (name : Name) (g : Global) (names : List Name) (gs : List Global) → IsLike (EntryPoint name s) g
    → map (λ n. EntryPoint n s) names ≡ gs → map (λ n. EntryPoint n s) (option_to_list (name_in g) ++ names) ≡ g ∷ gs
entry_like s name (OwnVariable kind u) names gs h e = absurd h
entry_like s name (ExternalVariable further kind u) names gs h e = absurd h
entry_like s name (EntryPoint further r) names gs h e =
    ap (λ v. EntryPoint further v ∷ map (λ n. EntryPoint n s) names) (sym h) ∙ ap (λ xs. EntryPoint further r ∷ xs) e

entry_after : (name : Name) (s : Signature) (gs : List Global) → All (IsLike (EntryPoint name s)) gs → map (λ n. EntryPoint n s) (names_in gs) ≡ gs
entry_after name s [] h = refl
entry_after name s (g ∷ gs) h =
    entry_like s name g (names_in gs) gs (All-head (IsLike (EntryPoint name s)) g gs h) (entry_after name s gs (All-tail (IsLike (EntryPoint name s)) g gs h))

-- a global, and those after it that are like it
module _ {A : Type 0} (view : A → Global) (first : Global) (more : List A) (alike : All (λ p. IsLike first (view p)) more) where
  abbrev after : List Global
  after = map view more

  all_like : (g : Global) → first ≡ g → All (IsLike g) after
  all_like g is = All-map (IsLike g) view more (subst (λ (f : Global). All (λ p. IsLike f (view p)) more) is alike)

  pub own_group : (kind : VariableKind) (t : Template) → first ≡ OwnVariable kind t
      → map (OwnVariable kind) (replicate (length more + 1) t) ≡ first ∷ after
  own_group kind t is =
      ap (λ k. map (OwnVariable kind) (replicate k t)) (add-one (length more))
      ∙ ap (λ k. OwnVariable kind t ∷ map (OwnVariable kind) (replicate k t)) (sym (length-map more view))
      ∙ ap (λ gs. OwnVariable kind t ∷ gs) (own_after kind t after (all_like (OwnVariable kind t) is)) ∙ ap (λ g. g ∷ after) (sym is)

  pub external_group : (name : Name) (kind : VariableKind) (t : Template) → first ≡ ExternalVariable name kind t
      → map (λ n. ExternalVariable n kind t) (name ∷ names_in after) ≡ first ∷ after
  external_group name kind t is =
      ap (λ gs. ExternalVariable name kind t ∷ gs) (external_after name kind t after (all_like (ExternalVariable name kind t) is)) ∙ ap (λ g. g ∷ after) (sym is)

  pub entry_group : (name : Name) (s : Signature) → first ≡ EntryPoint name s → map (λ n. EntryPoint n s) (name ∷ names_in after) ≡ first ∷ after
  entry_group name s is =
      ap (λ gs. EntryPoint name s ∷ gs) (entry_after name s after (all_like (EntryPoint name s) is)) ∙ ap (λ g. g ∷ after) (sym is)
