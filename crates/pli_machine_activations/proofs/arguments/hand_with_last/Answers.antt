use Rattle.std.proofs.Common.{◌≡◌, true, [], ◌∷◌, ◌++◌, ◌&&◌, map, sym, ap, refl, ◌∙◌, arith}
use Rattle.std.specs.Prelude.{not, vec_len}
use Rattle.std.specs.List.{filter, list_all}
use Rattle.std.proofs.lemmas.Bool.{eqb-true}
use Rattle.std.proofs.lemmas.List.{nil_from_length}
use Rattle.pli_world.specs.World.{is_given}
use Rattle.pli_store.specs.views.StorageView.{place_view}
use Rattle.pli_machine_activations.proofs.GivenPlaces.{keeps_all, leaves_none}
use Rattle.pli_machine_activations.proofs.arguments.hand_with_last.Goals as goal

pub returns-clause-handed : goal.returns-clause-handed
returns-clause-handed c =
    let pending = c.args.pending.now in
    let none : pending.items ≡ [] = nil_from_length pending.items (omega (arith, pending.ok.0, eqb-true (vec_len pending) 0 (sym c.is_empty.ensures ∙ c.if-not-is_empty.false))) in
    let test = is_given (map place_view c.args.places.now) in
    let all : list_all test (c.args.last ∷ []) ≡ true = ap (λ b. b && true) c.requires.given in
    c.push_reserved.ensures.items ∙ ap (λ xs. xs ++ c.args.last ∷ []) (c.reserve_one.ensures.items ∙ c.requires.none)
    ∙ sym (ap (λ xs. filter test (xs ++ c.args.last ∷ [])) none ∙ keeps_all test test (λ g. refl) (c.args.last ∷ []) all)

pub returns-clause-others : goal.returns-clause-others
returns-clause-others c =
    let pending = c.args.pending.now in
    let none : pending.items ≡ [] = nil_from_length pending.items (omega (arith, pending.ok.0, eqb-true (vec_len pending) 0 (sym c.is_empty.ensures ∙ c.if-not-is_empty.false))) in
    let test = is_given (map place_view c.args.places.now) in
    let all : list_all test (c.args.last ∷ []) ≡ true = ap (λ b. b && true) c.requires.given in
    none ∙ sym (ap (λ xs. filter (λ g. not (test g)) (xs ++ c.args.last ∷ [])) none ∙ leaves_none test test (λ g. refl) (c.args.last ∷ []) all)
