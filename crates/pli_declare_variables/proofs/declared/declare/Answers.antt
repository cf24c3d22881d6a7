use Rattle.std.proofs.Common.{◌≡◌, ◌<◌, ℕ, false, None, List, get_or, length, map, option_map, sym, ap, subst, ◌∙◌, arith, rules}
use Rattle.std.proofs.lemmas.List.{length-map, map_push}
use Rattle.std.proofs.lemmas.Simd.{map-map}
use Rattle.pli_base.specs.Name.{Name}
use Rattle.pli_map.specs.views.DescriptionView.{description_view}
use Rattle.pli_declare.specs.declared.place.Position.TheVariants.{AtLevelOne}
use Rattle.pli_declare.specs.Tables as plain
use Rattle.pli_declare.specs.Tables.{numbers_from}
use Rattle.pli_declare_tables.specs.views.TableView.{entry_view, entries_view}
use Rattle.pli_declare_tables.specs.declared.entry.Entry.{Entry}
use Rattle.pli_declare_variables.specs.Judging.{all_judged, judged_at}
use Rattle.pli_declare_variables.specs.answers.Walks.{cut_place_in}
use Rattle.pli_declare_variables.specs.declared.judged.Judged.{Judged}
use Rattle.pli_declare.specs.Descriptions.{own_codes, ShapesAreSound}
use Rattle.pli_declare.specs.Declarations.{declaration_at}
use Rattle.pli_declare.specs.views.DeclarationView.{kind_view, declaration_view}
use Rattle.pli_declare.specs.declared.declaration.Declaration.{Declaration}
use Rattle.pli_declare_variables.proofs.Faultless.{faultless, whole, kind_at}
use Rattle.pli_declare_variables.proofs.LevelLemmas.{view_at}
use Rattle.pli_declare_variables.proofs.NumberLemmas.{mapped_more, mapped_length, mapped_at}
use Rattle.pli_declare_variables.proofs.LimitsHaveFaults.{codes_sound}
use Rattle.pli_declare_variables.proofs.declared.declare.Goals as goal

-- the codes of all names of which it is known what is judged
codes_known : (entries : List plain.Entry) (names : List Name) (judged : List Judged) → judged ≡ all_judged entries names
    → map (λ (j : Judged). j.code) judged ≡ own_codes entries names
codes_known entries names judged is =
    ap (map (λ (j : Judged). j.code)) is ∙ map-map (λ (j : Judged). j.code) (judged_at entries names) (numbers_from 0 (length entries))

-- what is read where no name has the number
abbrev no_name : Judged
no_name = record {
  place = record { position = AtLevelOne; has_members = false; in_array = false; elements_above = None; built_in_name = false };
  code = None;
  is_too_large = false;
  is_locator = false;
  is_area = false;
}

-- where a name stands
place_known : (entries : List plain.Entry) (names : List Name) (judged : List Judged) (n : ℕ) → judged ≡ all_judged entries names
    → n < length entries → (get_or judged n no_name).place ≡ cut_place_in entries names n
place_known entries names judged n is lt =
    ap (λ (j : Judged). j.place) (ap (λ (js : List Judged). get_or js n no_name) is ∙ mapped_at (judged_at entries names) (length entries) n no_name lt)

-- there is one for each name
judged_counted : (program : List Entry) (names : List Name) (judged : List Judged) (n : ℕ) → judged ≡ all_judged (entries_view program) names
    → n < length program → n < length judged
judged_counted program names judged n is lt =
    let entries = entries_view program in
    omega (arith, lt, ap length is, mapped_length (judged_at entries names) (length entries), length-map program entry_view)

pub whole_description-requires-clause-sound : goal.whole_description-requires-clause-sound
whole_description-requires-clause-sound c =
    let entries = entries_view c.args.entries.now in
    let names = c.args.parameters.now in
    let same : c.deref-in-loop-number.result.now ≡ own_codes entries names =
    c.deref-in-loop-number.ensures.value ∙ c.in_ok-codes.ensures ∙ codes_known entries names c.args.judged.now c.requires.judged in
    subst (ShapesAreSound entries) (sym same) (codes_sound entries names)

pub bounds-judged-number : goal.bounds-judged-number
bounds-judged-number c = judged_counted c.args.entries.now c.args.parameters.now c.args.judged.now c.loop-number.number c.requires.judged c.loop-number-test.true

pub offset_bounds-judged-number : goal.offset_bounds-judged-number
offset_bounds-judged-number c =
    let lt : c.loop-number.number < length c.args.judged.now =
    judged_counted c.args.entries.now c.args.parameters.now c.args.judged.now c.loop-number.number c.requires.judged c.loop-number-test.true in
    search rules

pub kind-requires : goal.kind-requires
kind-requires c =
    let program = c.args.entries.now in
    let entries = entries_view program in
    let names = c.args.parameters.now in
    let n = c.loop-number.number in
    let lt = c.loop-number-test.true in
    let within : n < length entries = omega (arith, lt, length-map program entry_view) in
    let place = place_known entries names c.args.judged.now n c.requires.judged within in
    let view = view_at program n c.index-entries-number.result lt c.index-entries-number.is in
    faultless entries names n (entry_view c.index-entries-number.result) (get_or c.args.judged.now n no_name).place view place (c.requires.good n within)

pub loop-number-preserved : goal.loop-number-preserved
loop-number-preserved c =
    let program = c.args.entries.now in
    let entries = entries_view program in
    let names = c.args.parameters.now in
    let count = length program in
    let n = c.loop-number.number in
    let lt = c.loop-number-test.true in
    let within : n < length entries = omega (arith, lt, length-map program entry_view) in
    let e = c.index-entries-number.result in
    let placed = (get_or c.args.judged.now n no_name).place in
    let place = place_known entries names c.args.judged.now n c.requires.judged within in
    let view : _ ≡ entry_view e = view_at program n e lt c.index-entries-number.is in
    let same : c.deref-in-loop-number.result.now ≡ own_codes entries names =
    c.deref-in-loop-number.ensures.value ∙ c.in_ok-codes.ensures ∙ codes_known entries names c.args.judged.now c.requires.judged in
    let described = c.in_ok-description.ensures ∙ whole entries names count c.deref-in-loop-number.result.now n (sym (length-map program entry_view)) same in
    let kind = kind_at entries names n (entry_view e) placed (option_map description_view c.in_ok-description.description) (kind_view c.in_ok-kind.field-0) view place described c.in_ok-kind.ensures in
    let d : Declaration = record { identifier = e.identifier; owner = e.owner; kind = c.in_ok-kind.field-0 } in
    let identifier = ap (λ (x : plain.Entry). x.identifier) (sym view) in
    let owner = ap (λ (x : plain.Entry). x.owner) (sym view) in
    let here : declaration_view d ≡ declaration_at entries names n = λ k. record { identifier = identifier k; owner = owner k; kind = kind k } in
    ap (map declaration_view) c.in_ok-push.ensures.items ∙ map_push declaration_view c.loop-number.declarations.items d
    ∙ mapped_more (declaration_at entries names) (map declaration_view c.loop-number.declarations.items) n (declaration_view d) c.loop-number.invariant here
