use Rattle.std.proofs.Common.{◌≡◌, ◌+◌, ◌-◌, ◌<◌, [], ◌∷◌, length, drop, get_or, refl, sym, ap, ◌∙◌, arith}
use Rattle.std.proofs.lemmas.List.{drop_all, drop_more}
use Rattle.pli_world.specs.Storage.{without}
use Rattle.pli_store.specs.views.StorageView.{storage_view}
use Rattle.pli_store.proofs.RisingNumbers.{none_end, without_first}
use Rattle.pli_store.proofs.storage.Storage.end.Goals as goal

pub loop-at-init : goal.loop-at-init
loop-at-init c =
    let numbers = c.args.numbers.now in
    let storage = storage_view c.args.self.now in
    record {
      storage = sym (ap (λ l. without l storage) (drop_all (length numbers) numbers (omega arith)) ∙ none_end storage);
      made = refl;
    }

pub loop-at-preserved : goal.loop-at-preserved
loop-at-preserved c =
    let numbers = c.args.numbers.now in
    let storage = storage_view c.args.self.now in
    let at = c.loop-at.at - 1 in
    let within : at < length numbers = omega arith in
    let next : at + 1 ≡ c.loop-at.at = omega arith in
    let cut : drop at numbers ≡ get_or numbers at 0 ∷ drop c.loop-at.at numbers = drop_more numbers at 0 within ∙ ap (λ n. get_or numbers at 0 ∷ drop n numbers) next in
    record {
      storage =
          c.end_one.ensures.storage
          ∙ ap (without (get_or numbers at 0 ∷ [])) c.loop-at.invariant.storage
          ∙ sym (without_first (get_or numbers at 0) (drop c.loop-at.at numbers) storage)
          ∙ ap (λ l. without l storage) (sym cut);
      made = c.end_one.ensures.made ∙ c.loop-at.invariant.made;
    }
