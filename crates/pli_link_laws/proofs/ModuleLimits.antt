-- The limits of a linked module: instructions, and bytes of variables.
use Rattle.std.proofs.Common.{◌≡◌, ℕ, ◌+◌, ◌≤◌, nat_le, nat_lt, Bool, true, false, ◌||◌, List, [], ◌∷◌, length, map, refl, ap, sym, ◌∙◌, arith, true≢false, ltb-false, le-leb}
use Rattle.std.specs.List.{flat_map, list_any, sum_by, AllByRecursion}
use Rattle.std.specs.Map.{values_of}
use Rattle.pli_base.specs.Name.{Name}
use Rattle.pli_map.specs.Description.{Description}
use Rattle.pli_map.specs.Sizes.{size_of}
use Rattle.pli_map.specs.Variables.{byte_limit}
use Rattle.pli_type_tree.specs.Templates.{Template}
use Rattle.pli_link.specs.ModuleSize.{shared_in, own_of, all_own, variables_made, is_oversized, are_too_large, is_too_large}
use Rattle.pli_link.specs.Names.{Declaration, externals}
use Rattle.pli_link.specs.Units.{Compiled}
use Rattle.pli_code.specs.Modules.{Member, Module}
use Rattle.pli_deck_write.specs.ModuleSpelling.{static_bytes, external_bytes, module_within_limits}
use Rattle.pli_link.specs.Links.{external_of, linked_unit}
use Rattle.pli_link_laws.proofs.Sums.{total, sum_is_total, total_joined, total_mapped, both_hold}
use Rattle.pli_link_laws.proofs.DeckParts.{size_in, made_bytes, own_bytes}
use Rattle.pli_link_laws.proofs.UnitDeclarations.{IsDeclared}

-- what linking has counted
pub record IsCounted (cs : List Compiled) : Type 0 where
  pub bytes : total size_in (variables_made cs) ≤ 16777216
  pub instructions : total (λ c. length c.deck.code.instructions) cs ≤ 1000000

neither : (a b : Bool) → (a || b) ≡ false → (a ≡ false) × (b ≡ false)
neither true b h = absurd (true≢false h)
neither false b h = (refl, h)

pub counted : (cs : List Compiled) → is_too_large cs ≡ false → IsCounted cs
counted cs h =
    let descriptions : List Description = map (λ (t : Template). t.description) (variables_made cs) in
    let large = are_too_large descriptions in
    let many = nat_lt 65535 (length (externals cs)) in
    let long = nat_lt 1000000 (sum_by (λ (c : Compiled). length c.deck.code.instructions) cs) in
    let units = nat_lt 65535 (length cs) in
    let three = neither (large || many || long) units h in
    let two = neither (large || many) long three.0 in
    let one = neither large many two.0 in
    let bytes = ltb-false byte_limit (sum_by size_of descriptions) (neither (list_any is_oversized descriptions) (nat_lt byte_limit (sum_by size_of descriptions)) one.0).1 in
    let short = ltb-false 1000000 (sum_by (λ (c : Compiled). length c.deck.code.instructions) cs) two.1 in
    record {
      bytes = omega (arith, bytes, sum_is_total size_of descriptions, total_mapped size_of (λ (t : Template). t.description) (variables_made cs));
      instructions = omega (arith, short, sum_is_total (λ (c : Compiled). length c.deck.code.instructions) cs);
    }

-- ---- the same sums over the decks

module _ (names : List Name) (numbers : List (Name × ℕ)) where
  abbrev units_of : List Compiled → List Member
  units_of cs = map (linked_unit names numbers) cs

  pub instructions_same : (cs : List Compiled) → total (λ u. length u.deck.code.instructions) (units_of cs) ≡ total (λ c. length c.deck.code.instructions) cs
  instructions_same [] = refl
  instructions_same (c ∷ cs) = omega (arith, instructions_same cs)

  pub own_same : (cs : List Compiled) → total (λ u. sum_by (static_bytes u.deck.code) u.deck.code.globals) (units_of cs) ≡ total size_in (all_own cs)
  own_same [] = refl
  own_same (c ∷ cs) =
      omega (
        arith,
        own_same cs,
        own_bytes c.deck.code c.deck.code.globals,
        sum_is_total (static_bytes c.deck.code) c.deck.code.globals,
        total_joined size_in (own_of c.deck.code c.deck.code.globals) (all_own cs),
      )

shared_same : (members : List Member) (ds : List (Name × Declaration)) → AllByRecursion (IsDeclared members) ds
    → total size_in (flat_map shared_in (values_of ds)) ≡ total (λ d. external_bytes members (external_of d)) ds
shared_same members [] all = refl
shared_same members (d ∷ ds) all =
    omega (
      arith,
      total_joined size_in (shared_in d.1) (flat_map shared_in (values_of ds)),
      made_bytes d.1.kind d.1.template,
      all.0.bytes,
      shared_same members ds all.1,
    )

pub within_limits : (names : List Name) (numbers : List (Name × ℕ)) (cs : List Compiled) (m : Module) → m.units ≡ map (linked_unit names numbers) cs → m.externals ≡ map external_of (externals cs)
    → IsCounted cs → AllByRecursion (IsDeclared m.units) (externals cs) → module_within_limits m ≡ true
within_limits names numbers cs m units_are externals_are h declared =
    let ds = externals cs in
    let long : sum_by (λ (u : Member). length u.deck.code.instructions) m.units ≤ 1000000 =
    omega (arith, sum_is_total (λ (u : Member). length u.deck.code.instructions) m.units, ap (total (λ (u : Member). length u.deck.code.instructions)) units_are, instructions_same names numbers cs, h.instructions) in
    let own : sum_by (λ (u : Member). sum_by (static_bytes u.deck.code) u.deck.code.globals) m.units ≡ total size_in (all_own cs) =
    sum_is_total (λ (u : Member). sum_by (static_bytes u.deck.code) u.deck.code.globals) m.units ∙ ap (total (λ (u : Member). sum_by (static_bytes u.deck.code) u.deck.code.globals)) units_are ∙ own_same names numbers cs in
    let shared : sum_by (external_bytes m.units) m.externals ≡ total size_in (flat_map shared_in (values_of ds)) =
    sum_is_total (external_bytes m.units) m.externals ∙ ap (total (external_bytes m.units)) externals_are ∙ total_mapped (external_bytes m.units) external_of ds ∙ sym (shared_same m.units ds declared) in
    let bytes : sum_by (λ (u : Member). sum_by (static_bytes u.deck.code) u.deck.code.globals) m.units + sum_by (external_bytes m.units) m.externals ≤ 16777216 =
    omega (arith, own, shared, total_joined size_in (all_own cs) (flat_map shared_in (values_of ds)), h.bytes) in
    both_hold (nat_le (sum_by (λ (u : Member). length u.deck.code.instructions) m.units) 1000000)
    (nat_le (sum_by (λ (u : Member). sum_by (static_bytes u.deck.code) u.deck.code.globals) m.units + sum_by (external_bytes m.units) m.externals) 16777216)
    (le-leb (sum_by (λ (u : Member). length u.deck.code.instructions) m.units) 1000000 long)
    (le-leb (sum_by (λ (u : Member). sum_by (static_bytes u.deck.code) u.deck.code.globals) m.units + sum_by (external_bytes m.units) m.externals) 16777216 bytes)
