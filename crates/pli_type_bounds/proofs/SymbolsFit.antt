-- The symbol under a key of a unit without faults says what is within the limits.
use Rattle.std.specs.Prelude.{◌≡◌, ℕ, zero, suc, Some, List, [], ◌∷◌, get_or, slice_get}
use Rattle.std.specs.List.{AllByRecursion}
use Rattle.std.proofs.Common.{subst}
use Rattle.std.proofs.lemmas.Option.{same_Some, none-some}
use Rattle.pli_base.specs.Statements.{ExternalProcedure}
use Rattle.pli_declare.specs.Resolution.{resolution_faults}
use Rattle.pli_initial_laws.proofs.InitialsFew.{initial_values_are_few}
use Rattle.pli_initial_laws.specs.InitialCounts.{HaveFewInitial}
use Rattle.pli_declare.specs.ResolvedUnits.{resolved_unit_of, all_symbols, symbol_at}
use Rattle.pli_declare.specs.Symbols.{Symbol}
use Rattle.pli_declare.specs.declared.symbol.SymbolKey.{SymbolKey}
use Rattle.pli_resolve_bounds.proofs.SymbolsWithin.{symbols_are_limited}
use Rattle.pli_resolve_bounds.specs.SymbolBounds.{IsLimited}
use Rattle.pli_type_rules.specs.NamedUnits.{block_symbols}

-- one of a list, or nothing
all_or_none : {A : Type 0} (P : A → Type 0) (xs : List A) (d : A) (n : ℕ) → P d → AllByRecursion P xs → P (get_or xs n d)
all_or_none P [] d n none h = none
all_or_none P (x ∷ xs) d zero none h = h.0
all_or_none P (x ∷ xs) d (suc n) none h = all_or_none P xs d n none h.1

one_of : {A : Type 0} (P : A → Type 0) (xs : List A) (n : ℕ) (x : A) → AllByRecursion P xs → slice_get xs n ≡ Some x → P x
one_of P [] n x h e = absurd (none-some x e)
one_of P (y ∷ xs) zero x h e = subst P (same_Some y x e) h.0
one_of P (y ∷ xs) (suc n) x h e = one_of P xs n x h.1 e

pub symbol_fits : (u : ExternalProcedure) → resolution_faults u ≡ [] → (key : SymbolKey) (s : Symbol) → symbol_at (resolved_unit_of u) key ≡ Some s → IsLimited s.kind
symbol_fits u none key s e =
    one_of (λ (s : Symbol). IsLimited s.kind) (block_symbols (resolved_unit_of u) key.block) key.number s
    (all_or_none (λ ss. AllByRecursion (λ (s : Symbol). IsLimited s.kind) ss) (all_symbols (resolved_unit_of u)) [] key.block tt (symbols_are_limited u none)) e

-- and each variable of a block has few initial values
pub initial_fits : (u : ExternalProcedure) → resolution_faults u ≡ [] → (block : ℕ)
    → HaveFewInitial (block_symbols (resolved_unit_of u) block) 0 (block_symbols (resolved_unit_of u) block)
initial_fits u none block =
    all_or_none (λ ss. HaveFewInitial ss 0 ss) (all_symbols (resolved_unit_of u)) [] block tt (initial_values_are_few u none)
