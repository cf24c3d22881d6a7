use Rattle.std.proofs.Common.{◌≡◌, ℕ, ◌&&◌, Bool, not, Option, List, get_or, length, sym, ap, ◌∙◌, subst}
use Rattle.std.specs.Option.{is_none}
use Rattle.std.proofs.lemmas.List.{length-map}
use Rattle.pli_base.specs.declared.code.Code.{Code}
use Rattle.pli_declare.specs.Tables as tables
use Rattle.pli_declare_tables.specs.views.TableView.{entry_view, entries_view}
use Rattle.pli_declare.specs.Places.{is_variable, item_in}
use Rattle.pli_declare.specs.Descriptions.{described, is_large, is_starred, is_large_at}
use Rattle.pli_declare_variables.specs.answers.Measures.{IsMeasured}
use Rattle.pli_declare_variables.specs.declared.sizes.Measured.{Measured}
use Rattle.pli_declare_variables.specs.declared.sizes.Measured.TheVariants.{Unknown}
use Rattle.pli_declare.proofs.NumberListLemmas.{map_next}
use Rattle.pli_declare_variables.proofs.MembersFound.{viewed}
use Rattle.pli_declare_variables.proofs.sizes.too_large.Goals as goal

-- what is told of an entry, by what it takes
told : (entries : List tables.Entry) (codes : List (Option Code)) (n size : ℕ) (e : tables.Entry) (answer over : Bool) → size ≡ length entries → get_or entries n tables.no_entry ≡ e
    → answer ≡ (is_none e.owner && is_variable e.entity && over && not (is_starred (item_in e.entity))) → over ≡ is_large (described size entries codes n) → answer ≡ is_large_at entries codes n
told entries codes n size e answer over counted read says is =
    says ∙ ap (λ (b : Bool). is_none e.owner && is_variable e.entity && b && not (is_starred (item_in e.entity))) (is ∙ ap (λ bound. is_large (described bound entries codes n)) counted)
    ∙ ap (λ (x : tables.Entry). is_none x.owner && is_variable x.entity && is_large (described (length entries) entries codes n) && not (is_starred (item_in x.entity))) (sym read)

pub loop-number-preserved : goal.loop-number-preserved
loop-number-preserved c =
    let program = c.args.entries.now in
    let entries = entries_view program in
    let codes = c.args.codes.now in
    let size = length program in
    let n = c.loop-number.number in
    let e = c.index-entries-number.result in
    let counted : size ≡ length entries = sym (length-map program entry_view) in
    let measured : IsMeasured c.measured_at.result (described size entries codes n) =
    subst (λ m. IsMeasured m (described size entries codes n)) (sym (c.measured_at.ensures ∙ ap (λ (ms : List Measured). get_or ms n Unknown) c.deref.ensures.value))
    (c.in_ok-measured.ensures n c.loop-number-test.true) in
    let is = told entries codes n size (entry_view e) c.is_large_variable.result c.is_too_large-is_over.result counted (viewed program n e c.loop-number-test.true c.index-entries-number.is)
    c.is_large_variable.ensures (c.is_too_large-is_over.ensures (described size entries codes n) measured) in
    c.in_ok-push.ensures.items ∙ map_next (is_large_at entries codes) c.loop-number.large.items n c.is_large_variable.result c.loop-number.invariant is
