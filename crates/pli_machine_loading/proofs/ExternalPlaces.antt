-- Where external variables stand that were made already.
use Rattle.std.proofs.Common.{◌≡◌, ℕ, zero, suc, ◌<◌, nat_eq, Bool, true, false, Option, Some, None, Result, Ok, Err, List, [], ◌∷◌, ◌++◌, length, refl, sym, ap, subst, ◌∙◌, if◌then◌else◌}
use Rattle.std.specs.Prelude.{option_map, get_or, cond, slice_set}
use Rattle.std.specs.Global.{Vec}
use Rattle.std.specs.Map.{lookup}
use Rattle.std.proofs.lemmas.Bool.{eqb-true, eqb-false}
use Rattle.std.proofs.lemmas.List.{get_or-set_same, get_or-set_other}
use Rattle.pli_world.specs.World.{Standing, Static, made_once}
use Rattle.pli_map.specs.Variables.{Variable}
use Rattle.pli_program.specs.declared.kind.VariableKind.{VariableKind}
use Rattle.pli_store.specs.declared.fault.StoreFault.{StoreFault}
use Rattle.pli_store.specs.declared.fault.StoreFault.TheVariants.{OutOfMemory}
use Rattle.pli_machine_loading.specs.declared.shared.Shared.{Shared}
use Rattle.pli_machine_loading.specs.declared.standing.Standing.{Standing as CodeStanding}
use Rattle.pli_machine_loading.specs.views.StandingView.{standing_view}
use Rattle.pli_machine_loading.specs.answers.MadeGlobals.{world_at, Placed, AreKnown, KnownAt, PlacedKnown, IsNoted}
use Rattle.pli_machine_activations.proofs.StaticPlaces.{or_else, or_none}

-- a place more of which nothing is noted
pub none_more : {A : Type 0} (xs : List (Option A)) (k : ℕ) → get_or (xs ++ None ∷ []) k None ≡ get_or xs k None
none_more [] zero = refl
none_more [] (suc k) = refl
none_more (x ∷ xs) zero = refl
none_more (x ∷ xs) (suc k) = none_more xs k

-- a place that is noted
pub noted_in : {A : Type 0} (xs : List (Option A)) (number : ℕ) (p : A) → number < length xs → (other : ℕ)
    → get_or (slice_set xs number (Some p)) other None ≡ (if nat_eq other number then Some p else get_or xs other None)
noted_in xs number p within other = by (nat_eq other number) refl
  where
    by : (b : Bool) → nat_eq other number ≡ b
        → get_or (slice_set xs number (Some p)) other None ≡ (if nat_eq other number then Some p else get_or xs other None)
    by true is =
        ap (λ k. get_or (slice_set xs number (Some p)) k None) (eqb-true other number is)
        ∙ get_or-set_same xs number (Some p) None within ∙ ap (λ b. if b then Some p else get_or xs other None) (sym is)
    by false is =
        get_or-set_other xs number other (Some p) None (eqb-false other number is)
        ∙ ap (λ b. if b then Some p else get_or xs other None) (sym is)

-- one external variable more
external_more : (xs : List (ℕ × Standing)) (key : ℕ) (p : Standing) (number : ℕ)
    → lookup (nat_eq number) (xs ++ (key, p) ∷ []) ≡ or_else (lookup (nat_eq number) xs) (cond (nat_eq number key) (Some p) None)
external_more [] key p number = refl
external_more (x ∷ xs) key p number = by (nat_eq number x.0) (external_more xs key p number)
  where
    by : (b : Bool) → lookup (nat_eq number) (xs ++ (key, p) ∷ []) ≡ or_else (lookup (nat_eq number) xs) (cond (nat_eq number key) (Some p) None)
        → cond b (Some x.1) (lookup (nat_eq number) (xs ++ (key, p) ∷ []))
        ≡ or_else (cond b (Some x.1) (lookup (nat_eq number) xs)) (cond (nat_eq number key) (Some p) None)
    by true more = refl
    by false more = more

-- the same are known
pub known_same : (old new : Shared) (externals : List (ℕ × Standing)) → AreKnown old externals → new.externals ≡ old.externals → AreKnown new externals
known_same old new externals known same = λ number. known number ∙ ap (λ v. option_map standing_view (get_or v.items number None)) (sym same)

-- one that is placed, whatever is noted
pub placed_noted : (kind : VariableKind) (v : Option Variable) (before : Option Standing) (old mid : Shared) (externals : Vec (Option CodeStanding)) (statics : List Static)
    (r : Result (Option CodeStanding) StoreFault) → Placed kind v before old mid statics r
    → Placed kind v before old (record { storage = mid.storage; stacks = mid.stacks; externals = externals }) statics r
placed_noted kind (Some v) before old mid externals statics (Ok (Some s)) placed = placed
placed_noted kind (Some v) before old mid externals statics (Ok None) placed = absurd placed
placed_noted kind (Some v) before old mid externals statics (Err f) placed = placed
placed_noted kind None before old mid externals statics (Ok (Some s)) placed = absurd placed
placed_noted kind None before old mid externals statics (Ok None) placed = placed
placed_noted kind None before old mid externals statics (Err f) placed = absurd placed

-- where memory is wanting there is no answer
pub placed_out : (kind : VariableKind) (v : Option Variable) (before after : Option Standing) (old mid new : Shared) (statics : List Static) (s : CodeStanding)
    → Placed kind v before old mid statics (Ok (Some s)) → Placed kind v after old new statics (Err OutOfMemory)
placed_out kind (Some v) before after old mid new statics s placed = tt
placed_out kind None before after old mid new statics s placed = absurd placed

-- one of a unit's own
pub own_placed : (kind : VariableKind) (v : Option Variable) (old new : Shared) (statics : List Static) (externals : List (ℕ × Standing)) (r : Result (Option CodeStanding) StoreFault) → AreKnown old externals
    → new.externals ≡ old.externals → Placed kind v None old new statics r → PlacedKnown kind v None old new statics externals r
own_placed kind v old new statics externals r known same placed = record { placed = placed; known = by r }
  where
    by : (r : Result (Option CodeStanding) StoreFault) → KnownAt None new externals r
    by (Ok (Some p)) = known_same old new externals known same
    by (Ok None) = known_same old new externals known same
    by (Err f) = tt

-- an external one that is known already
known_again : (old : Shared) (externals : List (ℕ × Standing)) (number : ℕ) (p : CodeStanding) → AreKnown old externals → get_or old.externals.items number None ≡ Some p
    → AreKnown old (externals ++ (number, standing_view p) ∷ [])
known_again old externals number p known found = λ other.
    external_more externals number (standing_view p) other ∙ by other (nat_eq other number) refl
  where
    by : (other : ℕ) (b : Bool) → nat_eq other number ≡ b
        → or_else (lookup (nat_eq other) externals) (cond b (Some (standing_view p)) None) ≡ option_map standing_view (get_or old.externals.items other None)
    by other false is = or_none (lookup (nat_eq other) externals) ∙ known other
    by other true is =
        let one : lookup (nat_eq other) externals ≡ Some (standing_view p) =
        known other ∙ ap (λ n. option_map standing_view (get_or old.externals.items n None)) (eqb-true other number is) ∙ ap (option_map standing_view) found in
        ap (λ o. or_else o (Some (standing_view p))) one ∙ sym one ∙ known other

-- one that is new
pub known_new : (old new : Shared) (externals : List (ℕ × Standing)) (number : ℕ) (p : CodeStanding) → AreKnown old externals → get_or old.externals.items number None ≡ None
    → IsNoted number p old.externals.items new.externals.items → AreKnown new (externals ++ (number, standing_view p) ∷ [])
known_new old new externals number p known none noted = λ other.
    external_more externals number (standing_view p) other ∙ by other (nat_eq other number) refl ∙ ap (option_map standing_view) (sym (noted other))
  where
    by : (other : ℕ) (b : Bool) → nat_eq other number ≡ b
        → or_else (lookup (nat_eq other) externals) (cond b (Some (standing_view p)) None)
        ≡ option_map standing_view (if nat_eq other number then Some p else get_or old.externals.items other None)
    by other false is =
        or_none (lookup (nat_eq other) externals) ∙ known other
        ∙ ap (λ b. option_map standing_view (if b then Some p else get_or old.externals.items other None)) (sym is)
    by other true is =
        ap (λ o. or_else o (Some (standing_view p)))
        (known other ∙ ap (λ n. option_map standing_view (get_or old.externals.items n None)) (eqb-true other number is) ∙ ap (option_map standing_view) none)
        ∙ ap (λ b. option_map standing_view (if b then Some p else get_or old.externals.items other None)) (sym is)

-- one that is known
pub again_placed : (kind : VariableKind) (v : Option Variable) (number : ℕ) (p : CodeStanding) (r : Option CodeStanding) (s : Shared) (statics : List Static) (externals : List (ℕ × Standing)) → AreKnown s externals
    → get_or s.externals.items number None ≡ Some p → r ≡ option_map (λ _. p) v → PlacedKnown kind v (Some number) s s statics externals (Ok r)
again_placed kind v number p r s statics externals known found is = subst (λ r. PlacedKnown kind v (Some number) s s statics externals (Ok r)) (sym is) (by v)
  where
    by : (v : Option Variable) → PlacedKnown kind v (Some number) s s statics externals (Ok (option_map (λ _. p) v))
    by None = record { placed = refl; known = known }
    by (Some v) = record {
      placed = ap (λ b. made_once kind v b (world_at s statics)) (known number ∙ ap (option_map standing_view) found);
      known = known_again s externals number p known found;
    }
