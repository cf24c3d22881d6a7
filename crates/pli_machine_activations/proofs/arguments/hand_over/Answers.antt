use Rattle.std.proofs.Common.{◌≡◌, ℕ, [], ◌∷◌, ◌++◌, nat_eq, refl, sym, ap, ◌∙◌, map, arith}
use Rattle.std.specs.Prelude.{not, vec_len}
use Rattle.std.specs.List.{filter, list_any}
use Rattle.std.proofs.lemmas.Bool.{eqb-true}
use Rattle.std.proofs.lemmas.List.{nil_from_length}
use Rattle.pli_world.specs.World.{is_given}
use Rattle.pli_store.specs.views.StorageView.{place_view}
use Rattle.pli_machine_activations.proofs.GivenPlaces.{given_as, keeps_all, leaves_none}
use Rattle.pli_machine_activations.proofs.arguments.hand_over.Goals as goal

pub returns-then-is_empty-clause-handed : goal.returns-then-is_empty-clause-handed
returns-then-is_empty-clause-handed c =
    let pending = c.args.pending.now in
    let none : pending.items ≡ [] = nil_from_length pending.items (omega (arith, pending.ok.0, eqb-true (vec_len pending) 0 (sym c.is_empty.ensures ∙ c.if-is_empty.true))) in
    c.requires ∙ sym (ap (filter (is_given (map place_view c.args.places.now))) none)

pub returns-then-is_empty-clause-others : goal.returns-then-is_empty-clause-others
returns-then-is_empty-clause-others c =
    let pending = c.args.pending.now in
    let none : pending.items ≡ [] = nil_from_length pending.items (omega (arith, pending.ok.0, eqb-true (vec_len pending) 0 (sym c.is_empty.ensures ∙ c.if-is_empty.true))) in
    none ∙ sym (ap (filter (λ g. not (is_given (map place_view c.args.places.now) g))) none)

-- the one that is pending is given, and none stays
pub returns-then-is_last_given-clause-handed : goal.returns-then-is_last_given-clause-handed
returns-then-is_last_given-clause-handed c =
    let places = c.args.places.now in
    let pending = c.args.pending.now in
    let test = λ (g : ℕ). list_any (λ p. nat_eq p.generation g) places in
    let all = rw c.deref.ensures.value at (c.if-is_last_given.ensures.given refl) in
    let alone = rw c.deref.ensures.value at (c.if-is_last_given.ensures.alone refl) in
    let rest = c.take_last.new.self in
    let none : rest.items ≡ [] = nil_from_length rest.items (omega (arith, rest.ok.0, pending.ok.0, alone, c.take_last.ensures.len)) in
    c.push_reserved.ensures.items
    ∙ ap (λ xs. xs ++ c.take_last.result ∷ []) (c.reserve_one.ensures.items ∙ c.requires ∙ sym none)
    ∙ sym c.take_last.ensures.items
    ∙ sym (keeps_all test (is_given (map place_view places)) (λ g. given_as g places) pending.items all)

pub returns-then-is_last_given-clause-others : goal.returns-then-is_last_given-clause-others
returns-then-is_last_given-clause-others c =
    let places = c.args.places.now in
    let pending = c.args.pending.now in
    let test = λ (g : ℕ). list_any (λ p. nat_eq p.generation g) places in
    let all = rw c.deref.ensures.value at (c.if-is_last_given.ensures.given refl) in
    let alone = rw c.deref.ensures.value at (c.if-is_last_given.ensures.alone refl) in
    let rest = c.take_last.new.self in
    let none : rest.items ≡ [] = nil_from_length rest.items (omega (arith, rest.ok.0, pending.ok.0, alone, c.take_last.ensures.len)) in
    none ∙ sym (leaves_none test (is_given (map place_view places)) (λ g. given_as g places) pending.items all)

pub returns-then-are_given-clause-handed : goal.returns-then-are_given-clause-handed
returns-then-are_given-clause-handed c =
    let places = c.args.places.now in
    let test = λ (g : ℕ). list_any (λ p. nat_eq p.generation g) places in
    let all = rw c.deref-2.ensures.value at (sym c.are_given.ensures ∙ c.if-are_given.true) in
    ap (λ v. v.items) c.swap.ensures.y_after
    ∙ sym (keeps_all test (is_given (map place_view places)) (λ g. given_as g places) c.args.pending.now.items all)

pub returns-then-are_given-clause-others : goal.returns-then-are_given-clause-others
returns-then-are_given-clause-others c =
    let places = c.args.places.now in
    let test = λ (g : ℕ). list_any (λ p. nat_eq p.generation g) places in
    let all = rw c.deref-2.ensures.value at (sym c.are_given.ensures ∙ c.if-are_given.true) in
    ap (λ v. v.items) c.swap.ensures.x_after ∙ c.requires
    ∙ sym (leaves_none test (is_given (map place_view places)) (λ g. given_as g places) c.args.pending.now.items all)
