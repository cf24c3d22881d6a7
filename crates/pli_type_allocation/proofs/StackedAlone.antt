-- A CONTROLLED variable is allocated without IN and SET alone.
use Rattle.std.proofs.Common.{◌≡◌, ℕ, Bool, true, Option, Some, None, [], refl}
use Rattle.std.proofs.lemmas.Bool.{false≢true}
use Rattle.std.specs.Prelude.{is_some}
use Rattle.pli_type_rules.specs.AllocationTyping.{taken_in}
use Rattle.pli_type_rules.specs.Beginnings.{root_at}
use Rattle.pli_type_rules.specs.Names.{Naming, Begins}
use Rattle.pli_type_rules.specs.References.{Referent}
use Rattle.pli_type_rules.specs.declared.beginning.Beginning.{Beginning}
use Rattle.pli_type_rules.specs.declared.beginning.Beginning.TheVariants as beginnings

pub not_within : (n : Naming) (k : ℕ) (b : Beginning) (p : Bool) (area target : Option Referent) → is_some area ≡ true
    → None ≡ taken_in n k (Begins (root_at b) p) [] area target
not_within n k b p None target e = absurd (false≢true e)
not_within n k (beginnings.InSlot outward slot) p (Some a) target e = refl
not_within n k (beginnings.OfProgram number) p (Some a) target e = refl
not_within n k (beginnings.NewestOf number) p (Some a) target e = refl

pub not_set : (n : Naming) (k : ℕ) (b : Beginning) (p : Bool) (area target : Option Referent) → is_some target ≡ true
    → None ≡ taken_in n k (Begins (root_at b) p) [] area target
not_set n k b p area None e = absurd (false≢true e)
not_set n k (beginnings.InSlot outward slot) p area (Some t) e = refl
not_set n k (beginnings.OfProgram number) p area (Some t) e = refl
not_set n k (beginnings.NewestOf number) p None (Some t) e = refl
not_set n k (beginnings.NewestOf number) p (Some a) (Some t) e = refl
