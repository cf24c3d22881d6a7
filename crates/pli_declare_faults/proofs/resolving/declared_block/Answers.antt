use Rattle.std.proofs.Common.{◌≡◌, ◌<◌, map, length, sym, ap, ◌∙◌, subst, rules, arith}
use Rattle.std.proofs.lemmas.List.{length-map}
use Rattle.pli_declare_outline.specs.views.OutlineView.{outline_view, region_view}
use Rattle.pli_declare.specs.Tables.{entries_in}
use Rattle.pli_declare_tables.specs.views.TableView.{entries_view}
use Rattle.pli_declare.specs.answers.Owners.{AreAfterOwners}
use Rattle.pli_declare.specs.Declarations.{AreGood, declared_in}
use Rattle.pli_declare.specs.views.DeclarationView.{declaration_view}
use Rattle.pli_declare.specs.Resolution.{parameters_of}
use Rattle.pli_declare_faults.proofs.RegionDeclarations.{tables_reach, entries_are, parameters_reach, parameters_are, judged_reach, judged_are}
use Rattle.pli_declare.proofs.Faultless.{block_good}
use Rattle.pli_declare_variables.specs.Judging.{all_judged}
use Rattle.pli_declare_faults.proofs.resolving.declared_block.Goals as goal

pub bounds-parameters-block : goal.bounds-parameters-block
bounds-parameters-block c =
    let o = outline_view c.args.outline.now in
    parameters_reach c.args.parameters.now o c.args.block c.requires.parameters (omega (arith, c.requires.within, length-map c.args.outline.now.regions.items region_view))

pub offset_bounds-parameters-block : goal.offset_bounds-parameters-block
offset_bounds-parameters-block c =
    let o = outline_view c.args.outline.now in
    let lt : c.args.block < length c.args.parameters.now =
    parameters_reach c.args.parameters.now o c.args.block c.requires.parameters (omega (arith, c.requires.within, length-map c.args.outline.now.regions.items region_view)) in
    search rules

pub bounds-judged-block : goal.bounds-judged-block
bounds-judged-block c =
    let o = outline_view c.args.outline.now in
    judged_reach c.args.judged.now o c.args.block c.requires.known (omega (arith, c.requires.within, length-map c.args.outline.now.regions.items region_view))

pub offset_bounds-judged-block : goal.offset_bounds-judged-block
offset_bounds-judged-block c =
    let o = outline_view c.args.outline.now in
    let lt : c.args.block < length c.args.judged.now =
    judged_reach c.args.judged.now o c.args.block c.requires.known (omega (arith, c.requires.within, length-map c.args.outline.now.regions.items region_view)) in
    search rules

pub index-requires : goal.index-requires
index-requires c =
    let o = outline_view c.args.outline.now in
    let blocks = c.args.tables.now.blocks in
    omega (
      arith,
      blocks.ok.0,
      tables_reach blocks.items o c.args.block c.requires.tabled.blocks (omega (arith, c.requires.within, length-map c.args.outline.now.regions.items region_view)),
    )

pub declare-requires-clause-owners : goal.declare-requires-clause-owners
declare-requires-clause-owners c =
    let o = outline_view c.args.outline.now in
    let n = c.args.block in
    let within : n < length o.regions = omega (arith, c.requires.within, length-map c.args.outline.now.regions.items region_view) in
    let e : entries_view c.deref.result.now ≡ entries_in o n =
    ap entries_view c.deref.ensures.value ∙ entries_are c.args.tables.now.blocks.items o n c.index.result.now c.requires.tabled.blocks within c.index.ensures in
    subst AreAfterOwners (sym e) (c.owners_stand_before.ensures o n)

pub declare-requires-clause-good : goal.declare-requires-clause-good
declare-requires-clause-good c =
    let o = outline_view c.args.outline.now in
    let n = c.args.block in
    let within : n < length o.regions = omega (arith, c.requires.within, length-map c.args.outline.now.regions.items region_view) in
    let e : entries_view c.deref.result.now ≡ entries_in o n =
    ap entries_view c.deref.ensures.value ∙ entries_are c.args.tables.now.blocks.items o n c.index.result.now c.requires.tabled.blocks within c.index.ensures in
    let p : c.deref-2.result.now ≡ parameters_of o n =
    c.deref-2.ensures.value ∙ parameters_are c.args.parameters.now o n c.requires.parameters within c.index-parameters-block.result c.index-parameters-block.is in
    subst (λ es. AreGood es c.deref-2.result.now) (sym e) (subst (AreGood (entries_in o n)) (sym p) (block_good o c.requires.faultless n))

pub declare-requires-clause-judged : goal.declare-requires-clause-judged
declare-requires-clause-judged c =
    let o = outline_view c.args.outline.now in
    let n = c.args.block in
    let within : n < length o.regions = omega (arith, c.requires.within, length-map c.args.outline.now.regions.items region_view) in
    let e : entries_view c.deref.result.now ≡ entries_in o n =
    ap entries_view c.deref.ensures.value ∙ entries_are c.args.tables.now.blocks.items o n c.index.result.now c.requires.tabled.blocks within c.index.ensures in
    let p : c.deref-2.result.now ≡ parameters_of o n =
    c.deref-2.ensures.value ∙ parameters_are c.args.parameters.now o n c.requires.parameters within c.index-parameters-block.result c.index-parameters-block.is in
    c.deref-3.ensures.value ∙ judged_are c.args.judged.now o n c.requires.known within c.index-judged-block.result c.index-judged-block.is
    ∙ sym (ap (λ es. all_judged es c.deref-2.result.now) e ∙ ap (all_judged (entries_in o n)) p)

pub returns : goal.returns
returns c =
    let o = outline_view c.args.outline.now in
    let n = c.args.block in
    let within : n < length o.regions = omega (arith, c.requires.within, length-map c.args.outline.now.regions.items region_view) in
    let e : entries_view c.deref.result.now ≡ entries_in o n =
    ap entries_view c.deref.ensures.value ∙ entries_are c.args.tables.now.blocks.items o n c.index.result.now c.requires.tabled.blocks within c.index.ensures in
    let p = parameters_are c.args.parameters.now o n c.requires.parameters within c.index-parameters-block.result c.index-parameters-block.is in
    let names : c.in_ok-from_slice.field-0.items ≡ parameters_of o n = c.in_ok-from_slice.ensures.items ∙ c.deref-4.ensures.value ∙ p in
    let declared : map declaration_view c.in_ok-declarations.declarations.items ≡ declared_in (entries_in o n) (parameters_of o n) =
    c.in_ok-declarations.ensures ∙ ap (λ es. declared_in es c.deref-2.result.now) e ∙ ap (declared_in (entries_in o n)) (c.deref-2.ensures.value ∙ p) in
    λ i. record { parameters = names i; declarations = declared i }
