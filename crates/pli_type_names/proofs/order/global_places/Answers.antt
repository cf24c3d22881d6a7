use Rattle.std.proofs.Common.{◌≡◌, ℕ, ◌<◌, List, Vec, length, map, ap, sym, ◌∙◌, subst}
use Rattle.std.specs.Global.{Global}
use Rattle.std.specs.List.{All}
use Rattle.std.specs.Prelude.{IfOk}
use Rattle.pli_resolve.specs.views.UnitView.{rows_view}
use Rattle.pli_type_rules.specs.NamedUnits.{all_tokens}
use Rattle.pli_type_rules.specs.TextOrder.{numbers_from, place_from, text_order}
use Rattle.pli_type_rules.proofs.TextNumbers.{order_below, order_counted}
use Rattle.pli_type_names.proofs.order.global_places.Goals as goal

pub places_among-requires : goal.places_among-requires
places_among-requires c =
    let tokens : List ℕ = all_tokens 63 (rows_view c.args.symbols.now) in
    let sorted : c.deref-2.result.now ≡ text_order tokens =
    c.deref-2.ensures.value ∙ c.in_ok-numbers.ensures ∙ ap text_order (c.deref.ensures.value ∙ c.in_ok-tokens.ensures) in
    subst (λ ns. All (λ number. number < length ns) ns) (sym sorted)
    (subst (λ k. All (λ number. number < k) (text_order tokens)) (sym (order_counted tokens)) (order_below tokens))

pub returns : goal.returns
returns c =
    let tokens : List ℕ = all_tokens 63 (rows_view c.args.symbols.now) in
    let sorted : c.deref-2.result.now ≡ text_order tokens =
    c.deref-2.ensures.value ∙ c.in_ok-numbers.ensures ∙ ap text_order (c.deref.ensures.value ∙ c.in_ok-tokens.ensures) in
    subst
    (λ k. IfOk c.places_among.result (λ (places : Vec ℕ Global). places.items ≡ map (λ n. place_from 0 n (text_order tokens)) (numbers_from 0 k)))
    (order_counted tokens)
    (subst
    (λ ns. IfOk c.places_among.result (λ (places : Vec ℕ Global). places.items ≡ map (λ n. place_from 0 n ns) (numbers_from 0 (length ns))))
    sorted c.places_among.ensures)
