-- Which names are those of BASED variables, by the answers about names.
use Rattle.std.proofs.Common.{◌≡◌, ℕ, false, not, ◌&&◌, List, [], ◌∷◌, refl, ap, ◌∙◌}
use Rattle.pli_base.specs.views.StatementView.{unit_view}
use Rattle.pli_declare.specs.ResolvedUnits.{meaning_at, resolved_unit_of}
use Rattle.pli_declare.specs.declared.built_in.BuiltInFunction.{BuiltInFunction}
use Rattle.pli_type_rules.specs.Names.{NamedAs, NamedStorage, Begins, IsBased, AVariable, AFunction, AProcedure, ALabel, Untyped}
use Rattle.pli_type_rules.specs.NamedUnits.{is_based_whole, names_based}
use Rattle.pli_type_rules.proofs.BasedNames.{named_anywhere}
use Rattle.pli_type_names.specs.SymbolMeaning.{IsMeantAs, is_way}
use Rattle.pli_type_names.specs.UnitNaming.{Names, based_in, naming_in}
use Rattle.pli_type_names.specs.declared.naming.NamedAs.TheVariants as answers
use Rattle.pli_type_names.specs.declared.naming.NamedProcedure.{NamedProcedure as Procedural}
use Rattle.pli_type_names.specs.declared.naming.NamedVariable.{NamedVariable}
use Rattle.pli_type_names.specs.views.StorageView.{storage_view}

-- what a name means here says whether it is that of a BASED variable
pub based_here : (n : Names) (at : ℕ) → names_based ((naming_in n).meaning at) ≡ based_in n at
unfolding naming_in based_in
based_here n at =
    let r = resolved_unit_of (unit_view n.unit) in
    named_anywhere 63 r n.blocks [] (meaning_at r at)

-- what an answer says of it

whole_or_none : (s : NamedStorage) (path : List ℕ) → (not (is_way path) && is_based_whole s []) ≡ is_based_whole s path
whole_or_none (Begins root passed) [] = refl
whole_or_none (Begins root passed) (i ∷ path) = refl
whole_or_none (IsBased block number implied) [] = refl
whole_or_none (IsBased block number implied) (i ∷ path) = refl

pub variable_based : (v : NamedVariable) (m : NamedAs) → IsMeantAs (answers.Variable v) m
    → (not v.is_member && is_based_whole (storage_view v.storage) []) ≡ names_based m
variable_based v (AVariable w) h =
    ap (λ b. not b && is_based_whole (storage_view v.storage) []) h.2
    ∙ ap (λ s. not (is_way w.path) && is_based_whole s []) h.0
    ∙ whole_or_none w.storage w.path
variable_based v (AFunction f) h = absurd h
variable_based v (AProcedure p) h = absurd h
variable_based v (ALabel s) h = absurd h
variable_based v Untyped h = absurd h

pub function_based : (f : BuiltInFunction) (m : NamedAs) → IsMeantAs (answers.Function f) m → false ≡ names_based m
function_based f (AVariable w) h = absurd h
function_based f (AFunction g) h = refl
function_based f (AProcedure p) h = absurd h
function_based f (ALabel s) h = absurd h
function_based f Untyped h = absurd h

pub procedure_based : (p : Procedural) (m : NamedAs) → IsMeantAs (answers.Procedure p) m → false ≡ names_based m
procedure_based p (AVariable w) h = absurd h
procedure_based p (AFunction g) h = absurd h
procedure_based p (AProcedure q) h = refl
procedure_based p (ALabel s) h = absurd h
procedure_based p Untyped h = absurd h

pub label_based : (s : ℕ) (m : NamedAs) → IsMeantAs (answers.Label s) m → false ≡ names_based m
label_based s (AVariable w) h = absurd h
label_based s (AFunction g) h = absurd h
label_based s (AProcedure q) h = absurd h
label_based s (ALabel t) h = refl
label_based s Untyped h = absurd h

pub untyped_based : (m : NamedAs) → IsMeantAs answers.Untyped m → false ≡ names_based m
untyped_based (AVariable w) h = absurd h
untyped_based (AFunction g) h = absurd h
untyped_based (AProcedure q) h = absurd h
untyped_based (ALabel s) h = absurd h
untyped_based Untyped h = refl
