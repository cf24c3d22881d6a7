-- Variables and globals that are made one by one.
use Rattle.std.proofs.Common.{◌≡◌, ℕ, suc, ◌+◌, Bool, true, false, Some, None, List, [], ◌∷◌, ◌++◌, map, add-one, refl, ap, sym, ◌∙◌}
use Rattle.std.specs.Prelude.{if◌then◌else◌}
use Rattle.pli_base.specs.Name.{Name}
use Rattle.pli_declare_outline.specs.Outlines.{PlacedMark}
use Rattle.pli_declare.specs.Symbols.{Symbol, SymbolKind, Variable, OpenParameter, Member, Label, Procedure, Entry, BuiltIn}
use Rattle.pli_type_rules.specs.InitialScalars.{InitialItem}
use Rattle.pli_type_rules.specs.NamedUnits.{member_items, template_at, templates_from, global_of, global_with, globals_from, kind_of_class, PlacedGlobal, placed}
use Rattle.pli_type_templates.specs.Groups.{HasItem, MadeVariable, global_as, global_made, is_such, made_as, made_in, template_with, templates_with}
use Rattle.pli_type_templates.specs.ItemNames.{IsOfItem}
use Rattle.pli_type_templates.specs.declared.lifetime.Lifetime.{Lifetime}
use Rattle.pli_type_templates.specs.declared.lifetime.Lifetime.TheVariants as lifetimes

if_made : (m : MadeVariable) (b : Bool) → (if b then template_with m ∷ [] else []) ≡ templates_with (if b then Some m else None)
if_made m true = refl
if_made m false = refl

made_at : (wanted : Lifetime) (all : List Symbol) (number at : ℕ) (k : SymbolKind)
    → template_at (is_such wanted) all number k ≡ templates_with (made_as wanted at (member_items number all) k)
made_at wanted all number at (Variable description class scope initial area) =
    if_made (record { at = at; description = description; values = initial; members = member_items number all }) (is_such wanted class description)
made_at wanted all number at (OpenParameter type slot area) = refl
made_at wanted all number at (Member root path initial area) = refl
made_at wanted all number at (Label statement) = refl
made_at wanted all number at (Procedure block returned area) = refl
made_at wanted all number at (Entry parameters returned area) = refl
made_at wanted all number at BuiltIn = refl

-- one symbol more, and its members
pub one_made : (wanted : Lifetime) (all : List Symbol) (number : ℕ) (s : Symbol) (left : List Symbol) (members : List InitialItem)
    → members ≡ member_items number all
    → templates_from (is_such wanted) all number (s ∷ left)
    ≡ templates_with (made_in wanted s members) ++ templates_from (is_such wanted) all (number + 1) left
one_made wanted all number s left members are =
    ap (λ ts. ts ++ templates_from (is_such wanted) all (suc number) left)
    (made_at wanted all number s.identifier.at s.kind ∙ ap (λ ms. templates_with (made_in wanted s ms)) (sym are))
    ∙ ap (λ n. templates_with (made_in wanted s members) ++ templates_from (is_such wanted) all n left) (sym (add-one number))

-- its item says what is made
pub made_has_item : (wanted : Lifetime) (marks : List PlacedMark) (at : ℕ) (members : List InitialItem) (k : SymbolKind) (m : MadeVariable)
    → Some m ≡ made_as wanted at members k → IsOfItem marks at k → HasItem marks m
made_has_item wanted marks at members (Variable description class scope initial area) m e h = by (is_such wanted class description) e
  where
    by : (b : Bool) → Some m ≡ (if b then Some (record { at = at; description = description; values = initial; members = members }) else None) → HasItem marks m
    by true f =
        let same_at : m.at ≡ at = cc in
        let same : m.values ≡ initial = cc in
        record {
          number = h.number;
          item = h.item;
          name = record { there = h.name.there; identifier = h.name.identifier; named = h.name.named; here = h.name.here ∙ sym same_at };
          said = same ∙ h.said;
        }
    by false f = cc
made_has_item wanted marks at members (OpenParameter type slot area) m e h = cc
made_has_item wanted marks at members (Member root path initial area) m e h = cc
made_has_item wanted marks at members (Label statement) m e h = cc
made_has_item wanted marks at members (Procedure block returned area) m e h = cc
made_has_item wanted marks at members (Entry parameters returned area) m e h = cc
made_has_item wanted marks at members BuiltIn m e h = cc

globals_made_at : (all : List Symbol) (number at : ℕ) (name : Name) (k : SymbolKind)
    → global_with 63 all number name k ≡ global_as at name (member_items number all) k
globals_made_at all number at name (Variable description class scope initial area) =
    ap (map (global_of scope (kind_of_class class) name)) (made_at lifetimes.Program all number at (Variable description class scope initial area))
globals_made_at all number at name (OpenParameter type slot area) = refl
globals_made_at all number at name (Member root path initial area) = refl
globals_made_at all number at name (Label statement) = refl
globals_made_at all number at name (Procedure block returned area) = refl
globals_made_at all number at name (Entry parameters returned area) = refl
globals_made_at all number at name BuiltIn = refl

pub one_global : (all : List Symbol) (number : ℕ) (s : Symbol) (left : List Symbol) (members : List InitialItem)
    → members ≡ member_items number all
    → globals_from 63 all number (s ∷ left)
    ≡ map (placed s.identifier.at) (global_made s members) ++ globals_from 63 all (number + 1) left
one_global all number s left members are =
    let own : List InitialItem → List PlacedGlobal = λ ms. map (placed s.identifier.at) (global_made s ms) in
    ap (λ ts. ts ++ globals_from 63 all (suc number) left)
    (ap (map (placed s.identifier.at)) (globals_made_at all number s.identifier.at s.identifier.name s.kind) ∙ ap own (sym are))
    ∙ ap (λ n. own members ++ globals_from 63 all n left) (sym (add-one number))
