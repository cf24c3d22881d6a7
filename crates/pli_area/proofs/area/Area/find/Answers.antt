use Rattle.std.proofs.Common.{◌≡◌, ◌-◌, ◌+◌, ◌∙◌, ℕ, Some, sym, ap, arith}
use Rattle.std.specs.Option.{option_map}
use Rattle.pli_region.specs.Words.{word_at}
use Rattle.pli_area.specs.views.AreaView.{block_from}
use Rattle.pli_area.specs.views.FoundView.{of_block}
use Rattle.pli_area.proofs.HeldLemmas.{not_marked}
use Rattle.pli_area.proofs.Releases.{live_block}
use Rattle.pli_area.proofs.area.Area.find.Goals as goal

pub returns-then-not-is_marked-clause-block : goal.returns-then-not-is_marked-clause-block
returns-then-not-is_marked-clause-block c =
    let none = not_marked c.self.inside.region c.self.inside.marks c.args.position (sym c.is_marked.ensures ∙ c.if-not-is_marked.true) in
    rw (← c.self.view_is) (sym (ap (option_map of_block) none))

pub returns-clause-block : goal.returns-clause-block
returns-clause-block c =
    let live = sym c.is_marked.ensures ∙ c.if-not-is_marked.false in
    let there = live_block c.self.invariant c.args.position live in
    let size = c.word-2.ensures in
    let words : ◌≡◌ {A = ℕ × ℕ} (c.word.result, c.word-2.result) (word_at c.self.inside.region (c.args.position - 8), word_at c.self.inside.region (c.args.position - 8 + 4)) = ap (λ d. (d, c.word-2.result)) c.word.ensures ∙ ap (λ n. (word_at c.self.inside.region (c.args.position - 8), n)) size in
    rw (← c.self.view_is) (ap Some words ∙ sym (ap (option_map of_block) there))

pub returns-clause-bytes : goal.returns-clause-bytes
returns-clause-bytes c = λ at count fits.
    let live = sym c.is_marked.ensures ∙ c.if-not-is_marked.false in
    let there = live_block c.self.invariant c.args.position live in
    let size = c.word-2.ensures in
    rw (← c.self.view_is) (record {
      block = block_from c.self.inside.region (c.args.position - 8);
      found = there;
      within = omega (arith, size, fits);
    })
