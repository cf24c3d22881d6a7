-- What the answers about names and procedures of a unit say.
use Rattle.std.proofs.Common.{◌≡◌, ℕ, Option, Some, None, [], map, option_map, slice_get, refl, ap, sym, ◌∙◌}
use Rattle.std.specs.Option.{option_and_then}
use Rattle.std.specs.Prelude.{if◌then◌else◌}
use Rattle.pli_base.specs.views.StatementView.{unit_view}
use Rattle.pli_declare.specs.ResolvedUnits.{ResolvedUnit, ResolvedBlock, meaning_at, resolved_unit_of, symbol_at}
use Rattle.pli_declare.specs.declared.built_in.BuiltInFunction.{BuiltInFunction}
use Rattle.pli_declare.specs.declared.symbol.NameMeaning.TheVariants as meanings
use Rattle.pli_declare.specs.declared.symbol.SymbolKey.{SymbolKey}
use Rattle.pli_type_rules.specs.NamedUnits.{area_named, area_returned_by, block_symbols, declared_as, type_in, is_procedure, named_as, of_block}
use Rattle.pli_type_rules.specs.NamedUnits.{parameters_of, returned_area_of, returned_by, returned_of}
use Rattle.pli_type_names.specs.BlockEntries.{BlockEntry, area_of, entry_at, parameters_in, returned_in}
use Rattle.pli_type_names.specs.SymbolMeaning.{IsMeantAs}
use Rattle.pli_type_names.specs.Seen.{seen}
use Rattle.pli_type_names.specs.UnitNaming.{Names, naming_in}
use Rattle.pli_type_names.specs.declared.naming.NamedAs.{NamedAs}
use Rattle.pli_type_names.specs.declared.naming.NamedAs.TheVariants as answers
use Rattle.pli_type_names.specs.views.MeaningView.{answer_view}
use Rattle.pli_type_names.proofs.Names.{is_meant}

-- ---- what the name at a token means

pub untyped_meant : (n : Names) (at : ℕ) → None ≡ meaning_at (resolved_unit_of (unit_view n.unit)) at
    → IsMeantAs answers.Untyped ((naming_in n).meaning at)
unfolding naming_in
untyped_meant n at e =
    let r = resolved_unit_of (unit_view n.unit) in
    is_meant answers.Untyped (named_as 63 r n.blocks (meaning_at r at)) (ap (λ o. seen (named_as 63 r n.blocks o)) e)

pub function_meant : (n : Names) (at : ℕ) (f : BuiltInFunction)
    → Some (meanings.BuiltIn f) ≡ meaning_at (resolved_unit_of (unit_view n.unit)) at → IsMeantAs (answers.Function f) ((naming_in n).meaning at)
unfolding naming_in
function_meant n at f e =
    let r = resolved_unit_of (unit_view n.unit) in
    is_meant (answers.Function f) (named_as 63 r n.blocks (meaning_at r at)) (ap (λ o. seen (named_as 63 r n.blocks o)) e)

pub declared_meant : (n : Names) (at : ℕ) (key : SymbolKey) (a : NamedAs)
    → Some (meanings.Symbol key) ≡ meaning_at (resolved_unit_of (unit_view n.unit)) at
    → answer_view a ≡ seen (declared_as 63 (resolved_unit_of (unit_view n.unit)) n.blocks key) → IsMeantAs a ((naming_in n).meaning at)
unfolding naming_in
declared_meant n at key a e is =
    let r = resolved_unit_of (unit_view n.unit) in
    is_meant a (named_as 63 r n.blocks (meaning_at r at)) (is ∙ ap (λ o. seen (named_as 63 r n.blocks o)) e)

-- ---- procedures

parameters_there : (r : ResolvedUnit) (block : ℕ) (o : Option ResolvedBlock) → slice_get r.blocks block ≡ o
    → parameters_in (option_map (entry_at r block) o) ≡ parameters_of r block
parameters_there r block None e =
    ap (λ x. map (λ number. type_in (slice_get (block_symbols r block) number)) (of_block (λ b. if is_procedure b.kind then b.parameters else []) [] x)) (sym e)
parameters_there r block (Some b) e = refl

returned_there : (r : ResolvedUnit) (block : ℕ) (o : Option ResolvedBlock) → slice_get r.blocks block ≡ o
    → returned_in (option_map (entry_at r block) o) ≡ returned_of r block
returned_there r block None e =
    ap (λ x. option_and_then (λ key. returned_by (symbol_at r key)) (of_block (λ b. if is_procedure b.kind then b.name else None) None x)) (sym e)
returned_there r block (Some b) e = refl

area_there : (r : ResolvedUnit) (block : ℕ) (o : Option ResolvedBlock) → slice_get r.blocks block ≡ o
    → area_of (option_map (entry_at r block) o) ≡ returned_area_of r block
area_there r block None e =
    ap (λ x. option_and_then (λ key. area_returned_by (symbol_at r key)) (of_block (λ b. if is_procedure b.kind then b.name else None) None x)) (sym e)
area_there r block (Some b) e = refl

-- by what is found for the block
pub parameters_found : (r : ResolvedUnit) (block : ℕ) (o : Option BlockEntry) → o ≡ option_map (entry_at r block) (slice_get r.blocks block)
    → parameters_in o ≡ parameters_of r block
parameters_found r block o e = ap parameters_in e ∙ parameters_there r block (slice_get r.blocks block) refl

pub returned_found : (r : ResolvedUnit) (block : ℕ) (o : Option BlockEntry) → o ≡ option_map (entry_at r block) (slice_get r.blocks block)
    → returned_in o ≡ returned_of r block
returned_found r block o e = ap returned_in e ∙ returned_there r block (slice_get r.blocks block) refl

pub area_found : (r : ResolvedUnit) (block : ℕ) (o : Option BlockEntry) → o ≡ option_map (entry_at r block) (slice_get r.blocks block)
    → area_of o ≡ returned_area_of r block
area_found r block o e = ap area_of e ∙ area_there r block (slice_get r.blocks block) refl

-- ---- the areas that RETURNS name

pub returned_area_is : (n : Names) (block : ℕ)
    → area_named 63 (resolved_unit_of (unit_view n.unit)) n.blocks (returned_area_of (resolved_unit_of (unit_view n.unit)) block)
    ≡ (naming_in n).returned_area block
unfolding naming_in
returned_area_is n block = refl
