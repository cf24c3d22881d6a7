use Rattle.std.proofs.Common.{◌≡◌, ◌<◌, ◌∷◌, ◌++◌, [], length, map, subst, sym, ap, ◌∙◌, arith}
use Rattle.std.proofs.lemmas.List.{length-map}
use Rattle.pli_declare_outline.specs.views.OutlineView.{outline_view}
use Rattle.pli_declare.specs.Tables.{numbers_from}
use Rattle.pli_declare_tables.specs.views.TableView.{entry_view}
use Rattle.pli_declare.specs.Resolution.{item_code}
use Rattle.pli_declare.proofs.ListsByNumber.{made_more}
use Rattle.pli_declare_faults.proofs.known.Known.codes_of_block.Goals as goal

pub item_code-requires-clause-number : goal.item_code-requires-clause-number
item_code-requires-clause-number c =
    let entries = c.table.result.now.entries in
    subst (λ n. c.loop-number.number < n)
    (c.len-count.ensures ∙ entries.ok.0 ∙ sym (length-map entries.items entry_view) ∙ ap (λ t. length t.entries) c.table.ensures)
    c.loop-number-test.true

pub loop-number-preserved : goal.loop-number-preserved
loop-number-preserved c =
    let code = item_code (outline_view c.args.self.now.scopes.outline.now) c.args.block in
    c.in_ok-push.ensures.items ∙ ap (λ codes. codes ++ c.item_code.result ∷ []) c.loop-number.invariant
    ∙ ap (λ x. map code (numbers_from 0 c.loop-number.number) ++ x ∷ []) c.item_code.ensures ∙ sym (made_more code c.loop-number.number)

pub returns : goal.returns
returns c =
    let o = outline_view c.args.self.now.scopes.outline.now in
    let entries = c.table.result.now.entries in
    let ended : c.loop-number.number ≡ c.len-count.result = (let a = c.loop-number-test.false in let b = c.loop-number.auto in omega arith) in
    c.loop-number.invariant
    ∙ ap (λ n. map (item_code o c.args.block) (numbers_from 0 n))
    (ended ∙ c.len-count.ensures ∙ entries.ok.0 ∙ sym (length-map entries.items entry_view) ∙ ap (λ t. length t.entries) c.table.ensures)
