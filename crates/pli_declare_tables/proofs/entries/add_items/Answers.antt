use Rattle.std.proofs.Common.{◌≡◌, ◌++◌, ◌⊎◌, inl, inr, [], append-nil, map, length, sym, ap, ◌∙◌, subst, arith}
use Rattle.std.proofs.lemmas.List.{nil_from_length}
use Rattle.std.specs.Iterator.Adapters.{zip_first, zip_second}
use Rattle.std.specs.Slice.Iter.{iter_rest}
use Rattle.pli_declare.specs.Tables.{item_entries}
use Rattle.pli_declare_tables.specs.views.TableView.{named_view, entries_view}
use Rattle.pli_declare.proofs.ItemsStandAfter.{StandFrom, stand_from, none_left}
use Rattle.pli_declare_tables.proofs.entries.add_items.Goals as goal

pub loop-named-init : goal.loop-named-init
loop-named-init c =
    let first : iter_rest (zip_first c.into_iter-named-iterator.result) ≡ c.args.names.now = cc in
    let second : iter_rest (zip_second c.into_iter-named-iterator.result) ≡ c.args.standings.now = cc in
    record {
      entries = ap (λ ns. entries_view c.args.entries.now.items ++ item_entries c.len-base.result (map named_view ns) (iter_rest (zip_second c.into_iter-named-iterator.result))) first
          ∙ ap (λ ss. entries_view c.args.entries.now.items ++ item_entries c.len-base.result (map named_view c.args.names.now) ss) second;
      stand = subst (StandFrom 0) (sym second) (stand_from c.args.standings.now c.requires);
      count = omega arith;
    }

pub returns : goal.returns
returns c =
    let l = c.loop-named in
    let count : c.len-base.result ≡ length c.args.entries.now.items = omega arith in
    let left = iter_rest (zip_first l.named-iterator) in
    let stands = iter_rest (zip_second l.named-iterator) in
    let done = entries_view l.entries.items in
    let over : (map named_view left ≡ []) ⊎ (stands ≡ []) = elim c.in-None.ensures.steps [
      | inl h ↦ inl (ap (map named_view) (nil_from_length left h.1.0))
      | inr h ↦ inr (nil_from_length stands h.1.0)
    ] in
    sym (append-nil done) ∙ ap (λ es. done ++ es) (sym (none_left c.len-base.result (map named_view left) stands over)) ∙ l.invariant.entries
    ∙ ap (λ n. entries_view c.args.entries.now.items ++ item_entries n (map named_view c.args.names.now) c.args.standings.now) count
