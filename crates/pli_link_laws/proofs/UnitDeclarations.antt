-- The external variables of units are declared where the module says.
use Rattle.std.proofs.Common.{◌≡◌, ℕ, suc, ◌+◌, ◌≤◌, true, Some, List, [], ◌∷◌, length, map, slice_get, refl, ap, sym, ◌∙◌, arith}
use Rattle.std.specs.List.{list_all, AllByRecursion}
use Rattle.pli_base.specs.Name.{Name}
use Rattle.pli_code.specs.CodeTables.{Code, CodedGlobal, OwnVariable, ExternalVariable, EntryPoint, template_at}
use Rattle.pli_program.specs.declared.kind.VariableKind.{VariableKind}
use Rattle.pli_program.specs.declared.kind.VariableKind.TheVariants.{Static, Controlled}
use Rattle.pli_code.specs.views.CodeView.{kind_number}
use Rattle.pli_code.specs.Modules.{Member}
use Rattle.pli_link.specs.Links.{short, external_of, linked_unit}
use Rattle.pli_link.specs.Names.{Declaration, shared_from, all_shared}
use Rattle.pli_link.specs.Units.{Compiled}
use Rattle.pli_deck_write.specs.DeckFields.{name, global}
use Rattle.pli_deck_write.specs.ModuleSpelling.{global_in, global_at, has_kind, declared_bytes, bytes_in_unit, external_bytes}
use Rattle.pli_link_laws.specs.LinkedModules.{IsSaidAlone}
use Rattle.pli_link_laws.proofs.Sums.{all_both, both_of}
use Rattle.pli_link_laws.proofs.DeckParts.{globals_fit, name_fits, bytes_made, template_same}

-- a variable where it is declared: one of its kind that units share, with the bytes that are made of its template
pub record IsDeclared (members : List Member) (d : Name × Declaration) : Type 0 where
  pub named : name.fits d.0 ≡ true
  pub kind : has_kind (kind_number d.1.kind) (global_at members (short d.1.unit) (short d.1.global)) ≡ true
  pub bytes : external_bytes members (external_of d) ≡ bytes_made d.1.kind d.1.template

short_is : (n : ℕ) → n ≤ 65535 → short n ≡ n
short_is n h = omega (arith, h)

kind_shown : (n : Name) (kind : VariableKind) (t : ℕ) → has_kind (kind_number kind) (Some (ExternalVariable n kind t)) ≡ true
kind_shown n Static t = refl
kind_shown n Controlled t = refl

bytes_shown : (c : Code) (n : Name) (kind : VariableKind) (t : ℕ) → declared_bytes c (Some (ExternalVariable n kind t)) ≡ bytes_made kind (template_at c t)
bytes_shown c n Static t = template_same c t
bytes_shown c n Controlled t = refl

module _ (members : List Member) (i : ℕ) (u : Member) (few : i ≤ 65535) (stands : slice_get members i ≡ Some u) where
  one_declared : (j : ℕ) (n : Name) (kind : VariableKind) (t : ℕ) → j ≤ 65535 → slice_get u.deck.code.globals j ≡ Some (ExternalVariable n kind t) → name.fits n ≡ true
      → IsDeclared members (n, record { kind = kind; template = template_at u.deck.code t; unit = i; global = j })
  one_declared j n kind t within is fits =
      let unit_at : slice_get members (short i) ≡ Some u = ap (slice_get members) (short_is i few) ∙ stands in
      let variable_at : slice_get u.deck.code.globals (short j) ≡ Some (ExternalVariable n kind t) = ap (slice_get u.deck.code.globals) (short_is j within) ∙ is in
      record {
        named = fits;
        kind = ap (λ o. has_kind (kind_number kind) (global_in o (short j))) unit_at ∙ ap (has_kind (kind_number kind)) variable_at ∙ kind_shown n kind t;
        bytes = ap (λ o. bytes_in_unit o (short j)) unit_at ∙ ap (declared_bytes u.deck.code) variable_at ∙ bytes_shown u.deck.code n kind t;
      }

  abbrev Stand : List CodedGlobal → (number : ℕ) → Type 0
  Stand gs j = (k : ℕ) → slice_get gs k ≡ slice_get u.deck.code.globals (j + k)

  first_at : (g : CodedGlobal) (gs : List CodedGlobal) (j : ℕ) → Stand (g ∷ gs) j → slice_get u.deck.code.globals j ≡ Some g
  first_at g gs j at = let e : j ≡ j + 0 = omega arith in ap (slice_get u.deck.code.globals) e ∙ sym (at 0)

  rest_at : (g : CodedGlobal) (gs : List CodedGlobal) (j : ℕ) → Stand (g ∷ gs) j → Stand gs (j + 1)
  rest_at g gs j at k = let e : j + suc k ≡ (j + 1) + k = omega arith in at (suc k) ∙ ap (slice_get u.deck.code.globals) e

  skipped : (g : CodedGlobal) (gs : List CodedGlobal) → list_all global.fits (g ∷ gs) ≡ true → list_all global.fits gs ≡ true
  skipped g gs fit = (both_of (global.fits g) (list_all global.fits gs) fit).1

  unit_declared : (gs : List CodedGlobal) (j : ℕ) → Stand gs j → j + length gs ≤ 65535 → list_all global.fits gs ≡ true → AllByRecursion (IsDeclared members) (shared_from u.deck.code i j gs)
  unit_declared [] j at within fit = tt
  unit_declared (OwnVariable kind t ∷ gs) j at within fit =
      unit_declared gs (j + 1) (rest_at (OwnVariable kind t) gs j at) (omega (arith, within)) (skipped (OwnVariable kind t) gs fit)
  unit_declared (ExternalVariable n kind t ∷ gs) j at within fit =
      let fits = both_of (global.fits (ExternalVariable n kind t)) (list_all global.fits gs) fit in (
        one_declared j n kind t (omega (arith, within)) (first_at (ExternalVariable n kind t) gs j at) (name_fits n kind t fits.0),
        unit_declared gs (j + 1) (rest_at (ExternalVariable n kind t) gs j at) (omega (arith, within)) fits.1,
      )
  unit_declared (EntryPoint n s ∷ gs) j at within fit =
      unit_declared gs (j + 1) (rest_at (EntryPoint n s) gs j at) (omega (arith, within)) (skipped (EntryPoint n s) gs fit)

module _ (names : List Name) (numbers : List (Name × ℕ)) (members : List Member) where
  pub units_declared : (cs : List Compiled) (i : ℕ) → ((k : ℕ) → slice_get (map (linked_unit names numbers) cs) k ≡ slice_get members (i + k)) → i + length cs ≤ 65535
      → AllByRecursion IsSaidAlone (map (linked_unit names numbers) cs) → AllByRecursion (IsDeclared members) (all_shared i cs)
  units_declared [] i at few said = tt
  units_declared (c ∷ cs) i at few said =
      let gs = c.deck.code.globals in
      let fit = globals_fit c.deck said.0.is_deck.fits in
      let here : i ≡ i + 0 = omega arith in
      all_both (IsDeclared members) (shared_from c.deck.code i 0 gs) (all_shared (i + 1) cs)
      (unit_declared members i (linked_unit names numbers c) (omega (arith, few)) (ap (slice_get members) here ∙ sym (at 0)) gs 0 (λ k. let e : k ≡ 0 + k = omega arith in ap (slice_get gs) e)
      (omega (arith, fit.few)) fit.each)
      (units_declared cs (i + 1) (λ k. let e : i + suc k ≡ (i + 1) + k = omega arith in at (suc k) ∙ ap (slice_get members) e) (omega (arith, few)) said.1)
