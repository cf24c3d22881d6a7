-- Units and externals of a module fit their fields.
use Rattle.std.proofs.Common.{◌≡◌, ℕ, suc, ◌<◌, ◌≤◌, nat_eq, nat_le, nat_lt, Bool, true, false, ◌&&◌, not, cond, if◌then◌else◌, Option, Some, None, option_map, List, [], ◌∷◌, length, map, filter, refl, ap, sym, ◌∙◌, arith, lt-ltb, le-leb, eq-eqb}
use Rattle.std.specs.List.{list_all, AllByRecursion}
use Rattle.std.specs.Int.{is_in_range}
use Rattle.pli_base.specs.Name.{Name}
use Rattle.pli_program.specs.declared.kind.VariableKind.{VariableKind}
use Rattle.pli_program.specs.declared.kind.VariableKind.TheVariants.{Static, Controlled}
use Rattle.pli_code.specs.CodeTables.{Deck}
use Rattle.pli_code.specs.Versions.{version_number, same_version}
use Rattle.pli_code.specs.declared.version.Version.{Version}
use Rattle.pli_deck_write.specs.DeckFields.{name, contents, deck, deck_in_versions}
use Rattle.pli_deck_write.specs.DeckFaults.{fault_of}
use Rattle.pli_code.specs.Fields.{u1, u2, u4, from_to}
use Rattle.pli_code.specs.Modules.{External, Member, Module}
use Rattle.pli_code.specs.views.CodeView.{kind_number}
use Rattle.pli_deck_write.specs.ModuleFields.{is_less, comes_after, external_after, fit_after, is_none, is_external, member, module_field}
use Rattle.pli_deck_write.specs.ModuleSpelling.{has_kind, global_at, are_good_links, links_stand, module_within_limits, module_bytes, SpellsModule}
use Rattle.pli_deck_write.specs.Spelling.{deck_bytes}
use Rattle.pli_code.specs.declared.fault.DeckFault.TheVariants.{BadNumber, OverLimit}
use Rattle.pli_link.specs.Links.{short, external_of}
use Rattle.pli_link.specs.Names.{Declaration}
use Rattle.pli_link_laws.specs.LinkedModules.{IsSaidAlone}
use Rattle.pli_link_laws.proofs.Sums.{both_hold}
use Rattle.pli_link.proofs.Tables.{Above, Rises}
use Rattle.pli_link_laws.proofs.DeckParts.{globals_fit}
use Rattle.pli_link_laws.proofs.UnitDeclarations.{IsDeclared}

pub fits_short : (n : ℕ) → n ≤ 65535 → u2.fits n ≡ true
fits_short n h = lt-ltb n 65536 (omega (arith, h))

fits_range : (low high n : ℕ) → n ≤ 65535 → low ≤ n → n ≤ high → (from_to low high u2).fits n ≡ true
fits_range low high n h l m = both_hold (u2.fits n) (is_in_range low high n) (fits_short n h) (both_hold (nat_le low n) (nat_le n high) (le-leb low n l) (le-leb n high m))

-- ---- externals

after : (before : Option External) (n : Name) → Above (option_map (λ (e : External). e.name) before) n → comes_after before n ≡ true
after None n h = refl
after (Some e) n h = ap is_less h

kind_fits : (kind : VariableKind) → (from_to 2 3 u1).fits (kind_number kind) ≡ true
kind_fits Static = refl
kind_fits Controlled = refl

externals_fit : (members : List Member) (before : Option External) (ds : List (Name × Declaration)) → Rises (option_map (λ (e : External). e.name) before) ds → AllByRecursion (IsDeclared members) ds
    → fit_after external_after before (map external_of ds) ≡ true
unfolding external_after
externals_fit members before [] up all = refl
externals_fit members before (d ∷ ds) up all =
    let place = u2.fits (short d.1.unit) && u2.fits (short d.1.global) in
    let kind = (from_to 2 3 u1).fits (kind_number d.1.kind) in
    let rest = fit_after external_after (Some (external_of d)) (map external_of ds) in
    both_hold ((name.fits d.0 && comes_after before d.0) && (kind && place)) rest
    (both_hold (name.fits d.0 && comes_after before d.0) (kind && place)
    (both_hold (name.fits d.0) (comes_after before d.0) all.0.named (after before d.0 up.0))
    (both_hold kind place (kind_fits d.1.kind) (both_hold (u2.fits (short d.1.unit)) (u2.fits (short d.1.global)) (fits_short (short d.1.unit) (omega arith)) (fits_short (short d.1.global) (omega arith)))))
    (externals_fit members (Some (external_of d)) ds up.1 all.1)

externals_stand : (members : List Member) (ds : List (Name × Declaration)) → AllByRecursion (IsDeclared members) ds
    → list_all (λ (e : External). has_kind e.kind (global_at members e.unit e.global)) (map external_of ds) ≡ true
externals_stand members [] all = refl
externals_stand members (d ∷ ds) all =
    both_hold (has_kind (kind_number d.1.kind) (global_at members (short d.1.unit) (short d.1.global))) (list_all (λ (e : External). has_kind e.kind (global_at members e.unit e.global)) (map external_of ds)) all.0.kind
    (externals_stand members ds all.1)

-- ---- units

no_more : {X : Type 0} (test : X → Bool) (xs : List X) → length (filter test xs) ≤ length xs
no_more test [] = omega arith
no_more test (x ∷ xs) = by (test x) (no_more test xs)
  where
    by : (b : Bool) → length (filter test xs) ≤ length xs → length (cond b (x ∷ filter test xs) (filter test xs)) ≤ suc (length xs)
    by true h = omega (arith, h)
    by false h = omega (arith, h)

-- what is asked of the links of a unit
pub record Leads (m : Module) (u : Member) : Type 0 where
  pub good : are_good_links m (filter is_external u.deck.code.globals) u.links ≡ true
  pub counted : length u.links ≡ length (filter is_external u.deck.code.globals)
  pub short : list_all u2.fits u.links ≡ true

-- its deck is of the module's version
abbrev pub HasVersion : Module → Member → Type 0
HasVersion m u = u.deck.version ≡ m.version

-- a deck fits where its version is the one that may stand there
in_version : (v : Version) (d : Deck) → deck.fits d ≡ true → d.version ≡ v → (deck_in_versions (same_version v)).fits d ≡ true
unfolding deck_in_versions
in_version v d fits same =
    both_hold (same_version v d.version) ((contents d.version).fits (d.name, (d.is_main, d.code)))
    (eq-eqb (version_number v) (version_number d.version) (ap version_number (sym same))) fits

unit_fits : (m : Module) (u : Member) → IsSaidAlone u → Leads m u → HasVersion m u → (member m.version).fits u ≡ true
unfolding member
unit_fits m u said leads version =
    let few = (globals_fit u.deck said.is_deck.fits).few in
    let k = length (filter is_external u.deck.code.globals) in
    let within : k ≤ 65535 = omega (arith, few, no_more is_external u.deck.code.globals) in
    let size = u4.fits (length (deck_bytes u.deck)) in
    let fitting = (deck_in_versions (same_version m.version)).fits u.deck in
    let faultless = fitting && is_none (fault_of u.deck) in
    both_hold (name.fits u.name && (size && faultless)) ((from_to k k u2).fits (length u.links) && list_all u2.fits u.links)
    (both_hold (name.fits u.name) (size && faultless) said.named
    (both_hold size faultless (lt-ltb (length (deck_bytes u.deck)) 4294967296 said.short)
    (both_hold fitting (is_none (fault_of u.deck)) (in_version m.version u.deck said.is_deck.fits version) (ap is_none said.is_deck.faultless))))
    (both_hold ((from_to k k u2).fits (length u.links)) (list_all u2.fits u.links)
    (fits_range k k (length u.links) (omega (arith, within, leads.counted)) (omega (arith, leads.counted)) (omega (arith, leads.counted))) leads.short)

units_fit : (m : Module) (us : List Member) → AllByRecursion IsSaidAlone us → AllByRecursion (Leads m) us → AllByRecursion (HasVersion m) us → list_all (member m.version).fits us ≡ true
units_fit m [] said leads versions = refl
units_fit m (u ∷ us) said leads versions =
    both_hold ((member m.version).fits u) (list_all (member m.version).fits us) (unit_fits m u said.0 leads.0 versions.0) (units_fit m us said.1 leads.1 versions.1)

units_stand : (m : Module) (us : List Member) → AllByRecursion (Leads m) us → list_all (λ (u : Member). are_good_links m (filter is_external u.deck.code.globals) u.links) us ≡ true
units_stand m [] leads = refl
units_stand m (u ∷ us) leads =
    both_hold (are_good_links m (filter is_external u.deck.code.globals) u.links) (list_all (λ (u : Member). are_good_links m (filter is_external u.deck.code.globals) u.links) us) leads.0.good
    (units_stand m us leads.1)

-- ---- the module

pub record HasParts (m : Module) (ds : List (Name × Declaration)) : Type 0 where
  pub externals : m.externals ≡ map external_of ds
  pub few : length m.externals ≤ 65535
  pub rising : Rises None ds
  pub declared : AllByRecursion (IsDeclared m.units) ds
  pub main : m.main < length m.units
  pub units : length m.units ≤ 999
  pub said : AllByRecursion IsSaidAlone m.units
  pub leads : AllByRecursion (Leads m) m.units
  pub versions : AllByRecursion (HasVersion m) m.units
  pub limits : module_within_limits m ≡ true

module _ (m : Module) (ds : List (Name × Declaration)) (h : HasParts m ds) where
  fits : module_field.fits m ≡ true
  unfolding module_field
  fits =
      let count = (from_to 1 999 u2).fits (length m.units) in
      let externals = u2.fits (length m.externals) && fit_after external_after None m.externals in
      both_hold (count && (u2.fits m.main && externals)) (nat_eq (length m.units) (length m.units) && list_all (member m.version).fits m.units)
      (both_hold count (u2.fits m.main && externals) (fits_range 1 999 (length m.units) (omega (arith, h.units)) (omega (arith, h.main)) h.units)
      (both_hold (u2.fits m.main) externals (fits_short m.main (omega (arith, h.main, h.units)))
      (both_hold (u2.fits (length m.externals)) (fit_after external_after None m.externals) (fits_short (length m.externals) h.few)
      (ap (fit_after external_after None) h.externals ∙ externals_fit m.units None ds h.rising h.declared))))
      (both_hold (nat_eq (length m.units) (length m.units)) (list_all (member m.version).fits m.units) (eq-eqb (length m.units) (length m.units) refl) (units_fit m m.units h.said h.leads h.versions))

  stand : links_stand m ≡ true
  stand =
      let declared = list_all (λ (e : External). has_kind e.kind (global_at m.units e.unit e.global)) in
      let linked = list_all (λ (u : Member). are_good_links m (filter is_external u.deck.code.globals) u.links) m.units in
      both_hold (nat_lt m.main (length m.units) && declared m.externals) linked
      (both_hold (nat_lt m.main (length m.units)) (declared m.externals) (lt-ltb m.main (length m.units) h.main) (ap declared h.externals ∙ externals_stand m.units ds h.declared))
      (units_stand m m.units h.leads)

  pub module_stands : SpellsModule (module_bytes m) m
  module_stands = record {
    fits = fits;
    faultless = ap (λ b. if not b then Some BadNumber else if not (module_within_limits m) then Some OverLimit else None) stand ∙ ap (λ b. if not b then Some OverLimit else None) h.limits;
    spelled = refl;
  }
