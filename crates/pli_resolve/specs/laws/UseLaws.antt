-- In a unit whose declarations have no faults each name that is used means something.
use Rattle.std.specs.Prelude.{◌≡◌, ℕ, true, Option, Some, None, [], ◌∷◌, Contains}
use Rattle.pli_base.specs.Statements.{ExternalProcedure}
use Rattle.pli_base.specs.declared.syntax.Identifier.{Identifier}
use Rattle.pli_declare.specs.Resolution.{resolution_faults}
use Rattle.pli_declare_outline.specs.Outlines.{Mark, Used, Jumped, PlacedMark, outline_of}
use Rattle.pli_declare_constructs.specs.Reach.{reaches}
use Rattle.pli_declare.specs.Tables.{inner_marks}
use Rattle.pli_declare.specs.ResolvedUnits.{ResolvedUnit, resolved_unit_of, meaning_at, symbol_at}
use Rattle.pli_declare_outline.specs.StatementPlaces.{unit_places}
use Rattle.pli_declare.specs.Symbols.{Symbol, Label}
use Rattle.pli_declare_outline.specs.declared.statement_places.StatementPlace.{StatementPlace}
use Rattle.pli_declare.specs.declared.symbol.NameMeaning.{NameMeaning}
use Rattle.pli_declare.specs.declared.symbol.NameMeaning.TheVariants as meanings
use Rattle.pli_declare.specs.declared.symbol.SymbolKey.{SymbolKey}

-- what is meant is there: a built-in function, or a name that a block of the unit declares
abbrev pub IsThere : ResolvedUnit → NameMeaning → Type 0
IsThere r (meanings.BuiltIn function) = Unit {0}
IsThere r (meanings.Symbol key) = (s : Symbol) × (symbol_at r key ≡ Some s)

-- the name at a token means something that is there
abbrev pub MeansSomething : ResolvedUnit → (at : ℕ) → Type 0
MeansSomething r at = (m : NameMeaning) × (meaning_at r at ≡ Some m) × IsThere r m

-- so does the first name of a reference, and so does the label of a GOTO
abbrev pub HasMeaning : ResolvedUnit → Mark → Type 0
HasMeaning r (Used (i ∷ is)) = MeansSomething r i.at
HasMeaning r (Jumped label) = MeansSomething r label.at
HasMeaning r mark = Unit {0}

-- each name that is used means something that is there
abbrev pub UsesHaveMeanings : Type 0
UsesHaveMeanings = (u : ExternalProcedure) → resolution_faults u ≡ [] → (p : PlacedMark)
    → Contains (inner_marks (outline_of u).marks) p → HasMeaning (resolved_unit_of u) p.mark

-- a name is used at a token
abbrev pub IsUsedAt : (at : ℕ) → Mark → Type 0
IsUsedAt at (Used (i ∷ is)) = i.at ≡ at
IsUsedAt at (Jumped label) = label.at ≡ at
IsUsedAt at mark = ⊥

-- the label of a statement stands at a token
abbrev pub IsLabelledAt : (at : ℕ) → Option Identifier → Type 0
IsLabelledAt at None = ⊥
IsLabelledAt at (Some label) = label.at ≡ at

-- the name at a token, in a GOTO of the region here, means the label of a statement. That statement stands on
-- a list that the GOTO reaches, and has the label; its number is the one that is meant, where no label of a
-- statement of another number stands at the same token
pub record MeansLabel (u : ExternalProcedure) (here at : ℕ) : Type 0 where
  pub key : SymbolKey
  pub symbol : Symbol
  pub statement : ℕ
  pub means : meaning_at (resolved_unit_of u) at ≡ Some (meanings.Symbol key)
  pub there : symbol_at (resolved_unit_of u) key ≡ Some symbol
  pub is_label : symbol.kind ≡ Label statement
  pub place : StatementPlace
  pub stands : Contains (unit_places u) place
  pub labelled : place.label ≡ Some symbol.identifier
  pub reached : reaches (outline_of u).regions here place.region ≡ true
  pub numbered : ((q : StatementPlace) → Contains (unit_places u) q
      → IsLabelledAt symbol.identifier.at q.label → q.number ≡ place.number) → statement ≡ place.number

-- so does the name in a GOTO, where nothing else is used at its token
abbrev pub JumpsMeanLabels : Type 0
JumpsMeanLabels = (u : ExternalProcedure) → resolution_faults u ≡ [] → (p : PlacedMark) (label : Identifier)
    → Contains (inner_marks (outline_of u).marks) p → p.mark ≡ Jumped label
    → ((q : PlacedMark) → Contains (inner_marks (outline_of u).marks) q → IsUsedAt label.at q.mark → q ≡ p)
    → MeansLabel u p.region label.at
