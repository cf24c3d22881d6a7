-- What the meaning of references amounts to, without a way to find it.
use Rattle.std.specs.Prelude.{◌≡◌, ◌≢◌, ℕ, ◌+◌, ◌<◌, ◌⊎◌, ◌↔◌, true, List, [], ◌∷◌, reverse, length}
use Rattle.std.specs.Prelude.{Option, None, Some, IfSome}
use Rattle.pli_base.specs.Name.{Name}
use Rattle.pli_declare_scopes.specs.declared.found.Found.{Found}
use Rattle.pli_declare_scopes.specs.declared.found.Found.TheVariants.{Nothing, One, Several}
use Rattle.pli_declare_scopes.specs.declared.found.ReferenceMeaning.{ReferenceMeaning}
use Rattle.pli_declare_scopes.specs.declared.found.ReferenceMeaning.TheVariants.{Item, Ambiguous, NotDeclared}
use Rattle.pli_declare_scopes.specs.Scopes.{BlockItems, Scope, item_at, chain_at, meant}

-- the first list is some of the names of the second, in their order
abbrev pub IsPart : List Name → List Name → Type 0
IsPart [] ys = Unit {0}
IsPart (x ∷ xs) [] = ⊥
IsPart (x ∷ xs) (y ∷ ys) = ((x ≡ y) × IsPart xs ys) ⊎ IsPart (x ∷ xs) ys

-- names that are read backwards begin with an item's own name, and go on with names of items that it belongs
-- to
abbrev pub FitsChain : List Name → List Name → Type 0
FitsChain [] chain = ⊥
FitsChain (n ∷ ns) [] = ⊥
FitsChain (n ∷ ns) (own ∷ above) = (n ≡ own) × IsPart ns above

-- an item that counts fits a reference
pub record Fits (block : BlockItems) (names : List Name) (n : ℕ) : Type 0 where
  pub within : n < length block
  pub counts : (item_at block n).counts ≡ true
  pub chain : FitsChain (reverse names) (chain_at block n)

-- it fits fully: the reference's names are its whole chain
pub record FitsFully (block : BlockItems) (names : List Name) (n : ℕ) : Type 0 where
  pub within : n < length block
  pub counts : (item_at block n).counts ≡ true
  pub chain : reverse names ≡ chain_at block n

-- no number is such
abbrev pub IsNone : (ℕ → Type 0) → Type 0
IsNone P = (n : ℕ) → P n → ⊥

-- just this number is such
abbrev pub IsOnly : (ℕ → Type 0) → ℕ → Type 0
IsOnly P n = P n × ((m : ℕ) → P m → m ≡ n)

-- two numbers are such
abbrev pub AreTwo : (ℕ → Type 0) → Type 0
AreTwo P = (m : ℕ) × (n : ℕ) × (m ≢ n) × P m × P n

-- the items that fit fully decide, or where there are none those that fit
abbrev pub IsFoundIn : BlockItems → List Name → Found → Type 0
IsFoundIn block names Nothing = IsNone (FitsFully block names) × IsNone (Fits block names)
IsFoundIn block names (One n) =
    IsOnly (FitsFully block names) n ⊎ (IsNone (FitsFully block names) × IsOnly (Fits block names) n)
IsFoundIn block names Several =
    AreTwo (FitsFully block names) ⊎ (IsNone (FitsFully block names) × AreTwo (Fits block names))

-- a block declares an item of this name
pub record Declares (block : BlockItems) (name : Name) : Type 0 where
  pub number : ℕ
  pub within : number < length block
  pub counts : (item_at block number).counts ≡ true
  pub named : (item_at block number).name ≡ name

-- a block declares an item of the first of these names
abbrev pub DeclaresFirst : BlockItems → List Name → Type 0
DeclaresFirst block [] = ⊥
DeclaresFirst block (n ∷ ns) = Declares block n

-- what a block so many blocks outwards decides
abbrev pub Decides : ℕ → BlockItems → List Name → ReferenceMeaning → Type 0
Decides out block names (Item n b) = (b ≡ out) × IsFoundIn block names (One n)
Decides out block names Ambiguous = IsFoundIn block names Several
Decides out block names NotDeclared = IsFoundIn block names Nothing

-- what names mean: the innermost block that declares an item of the first name decides, and no search goes
-- further outwards
abbrev pub MeansFrom : ℕ → Scope → List Name → ReferenceMeaning → Type 0
MeansFrom out [] names m = m ≡ NotDeclared
MeansFrom out (b ∷ bs) names m =
    (DeclaresFirst b names × Decides out b names m)
    ⊎ ((DeclaresFirst b names → ⊥) × MeansFrom (out + 1) bs names m)

-- the same, of the whole scope
abbrev pub Means : Scope → List Name → ReferenceMeaning → Type 0
Means scope names m = MeansFrom 0 scope names m

-- names mean one thing
abbrev pub MeansOne : Type 0
MeansOne =
    (scope : Scope) (names : List Name) (m o : ReferenceMeaning) → Means scope names m
    → Means scope names o → m ≡ o

-- what is looked up is what they mean, both ways
abbrev pub MeantIsMeans : Type 0
MeantIsMeans = (scope : Scope) (names : List Name) (m : ReferenceMeaning)
    → (meant scope names ≡ m) ↔ Means scope names m

-- the names of an item and of the items that it belongs to, its own name first
abbrev pub NamesUpwards : BlockItems → Option ℕ → List Name → Type 0
NamesUpwards block None names = names ≡ []
NamesUpwards block (Some n) [] = ⊥
NamesUpwards block (Some n) (own ∷ above) =
    ((item_at block n).name ≡ own) × NamesUpwards block (item_at block n).owner above

-- each item belongs to one before it, if to any
abbrev pub OwnersStandBefore : BlockItems → Type 0
OwnersStandBefore block = (n : ℕ) → n < length block → IfSome (item_at block n).owner (λ o. o < n)

-- an item's chain is its own name and the names of the items that it belongs to, and no other list is
abbrev pub ChainsAreNames : Type 0
ChainsAreNames =
    (block : BlockItems) (n : ℕ) (names : List Name) → OwnersStandBefore block → n < length block
    → (chain_at block n ≡ names) ↔ NamesUpwards block (Some n) names
