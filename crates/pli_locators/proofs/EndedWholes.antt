-- Which generations are found where one has ended, where blocks of one have changed, and where a whole has ended.
use Rattle.std.proofs.Common.{◌≡◌, ◌≢◌, ℕ, Bool, true, false, nat_eq, Some, None, List, [], ◌∷◌, if◌then◌else◌, refl, sym, ap, subst, ◌∙◌, eq-eqb, eqb-true, ne_eqb, inl, inr}
use Rattle.std.proofs.lemmas.Bool.Decides.{eqb_tells}
use Rattle.std.proofs.lemmas.Option.{none-some, same_Some}
use Rattle.pli_store.proofs.RisingNumbers.{no_blocks_changed}
use Rattle.pli_world.specs.Storage.{Block, Generation, Place, generation_in, with_blocks, without}
use Rattle.pli_world.specs.Areas.{without_block}
use Rattle.pli_stacks.proofs.GenerationsFound.{ended_none, ended_other}
use Rattle.pli_world.specs.Locating.{without_whole}

ended_still_none : (gs : List Generation) (number other : ℕ) → generation_in gs other ≡ None
    → generation_in (without (number ∷ []) gs) other ≡ None
ended_still_none gs number other none =
    elim (eqb_tells other number) [
      | inl same ↦ subst (λ n. generation_in (without (number ∷ []) gs) n ≡ None) (sym same.1) (ended_none gs number)
      | inr apart ↦ ended_other gs number other apart.1 ∙ none
    ]

-- ---- blocks changed

module _ (change : List Block → List Block) where
  abbrev changed : Generation → Generation
  changed g = record g { blocks = change g.blocks }

  pub blocks_other : (gs : List Generation) (number other : ℕ) → other ≢ number → generation_in (with_blocks gs number change) other ≡ generation_in gs other
  blocks_other [] number other apart = refl
  blocks_other (y ∷ gs) number other apart = by (nat_eq y.number number) refl (blocks_other gs number other apart)
    where
      by : (b : Bool) → nat_eq y.number number ≡ b → generation_in (with_blocks gs number change) other ≡ generation_in gs other
          → generation_in (if b then changed y ∷ gs else y ∷ with_blocks gs number change) other ≡ generation_in (y ∷ gs) other
      by true e rest =
          let no : nat_eq y.number other ≡ false = ne_eqb y.number other (λ same. apart (sym same ∙ eqb-true y.number number e)) in
          rw no refl
      by false e rest = ap (λ o. if nat_eq y.number other then Some y else o) rest

  pub blocks_same : (gs : List Generation) (number : ℕ) (g : Generation) → generation_in gs number ≡ Some g
      → generation_in (with_blocks gs number change) number ≡ Some (changed g)
  blocks_same [] number g found = absurd (none-some g found)
  blocks_same (y ∷ gs) number g found = by (nat_eq y.number number) refl found (blocks_same gs number g)
    where
      by : (b : Bool) → nat_eq y.number number ≡ b → (if b then Some y else generation_in gs number) ≡ Some g
          → (generation_in gs number ≡ Some g → generation_in (with_blocks gs number change) number ≡ Some (changed g))
          → generation_in (if b then changed y ∷ gs else y ∷ with_blocks gs number change) number ≡ Some (changed g)
      by true e here rest = rw e (ap (λ (x : Generation). Some (changed x)) (same_Some y g here))
      by false e there rest = rw e (rest there)

  pub blocks_none : (gs : List Generation) (number other : ℕ) → generation_in gs other ≡ None → generation_in (with_blocks gs number change) other ≡ None
  blocks_none gs number other none =
      elim (eqb_tells other number) [
        | inl same ↦ ap (λ l. generation_in l other) (no_blocks_changed gs number change (ap (generation_in gs) (sym same.1) ∙ none)) ∙ none
        | inr apart ↦ blocks_other gs number other apart.1 ∙ none
      ]

-- ---- what a place is the whole of

abbrev left : Place → List Generation → Bool → List Generation
left p gs b = if b then without (p.generation ∷ []) gs else with_blocks gs p.generation (λ bs. without_block bs p.position)

pub whole_none : (p : Place) (gs : List Generation) (other : ℕ) → generation_in gs other ≡ None → generation_in (without_whole p gs) other ≡ None
whole_none p gs other none = by (nat_eq p.position 0)
  where
    by : (b : Bool) → generation_in (left p gs b) other ≡ None
    by true = ended_still_none gs p.generation other none
    by false = blocks_none (λ bs. without_block bs p.position) gs p.generation other none

pub whole_other : (p : Place) (gs : List Generation) (other : ℕ) → other ≢ p.generation → generation_in (without_whole p gs) other ≡ generation_in gs other
whole_other p gs other apart = by (nat_eq p.position 0)
  where
    by : (b : Bool) → generation_in (left p gs b) other ≡ generation_in gs other
    by true = ended_other gs p.generation other apart
    by false = blocks_other (λ bs. without_block bs p.position) gs p.generation other apart

pub whole_ended : (p : Place) (gs : List Generation) → p.position ≡ 0 → generation_in (without_whole p gs) p.generation ≡ None
whole_ended p gs outside =
    ap (λ b. generation_in (left p gs b) p.generation) (eq-eqb p.position 0 outside) ∙ ended_none gs p.generation
