-- What continues items of DECLARE that may end before it (X3.74): told by how the last of them ends.
use Rattle.std.specs.Prelude.{◌≡◌, List, [], ◌∷◌, Option, Some, None}
use Rattle.pli_base.specs.Words.{Tokens, is_open, is_comma}
use Rattle.pli_base.specs.Declarations as tree
use Rattle.pli_base.specs.declared.declaration.WrittenBounds.{WrittenBounds}
use Rattle.pli_parse_declaration.specs.DeclarationWords.{with_attribute}
use Rattle.pli_base.specs.Words.{rest_after}

-- where something may stand in parentheses and does not, `(` goes on
abbrev pub OptionEnds : {A : Type 0} → Option A → Tokens → Type 0
OptionEnds None ts = rest_after is_open ts ≡ None
OptionEnds (Some x) ts = Unit {0}

-- an attribute that may have a number or names in parentheses ends so; the others end as they stand
abbrev pub SimpleEnds : tree.SimpleAttribute → Tokens → Type 0
SimpleEnds (tree.Fixed n) ts = OptionEnds n ts
SimpleEnds (tree.Binary n) ts = OptionEnds n ts
SimpleEnds (tree.Character n) ts = OptionEnds n ts
SimpleEnds (tree.Bit n) ts = OptionEnds n ts
SimpleEnds (tree.Area n) ts = OptionEnds n ts
SimpleEnds (tree.Offset n) ts = OptionEnds n ts
SimpleEnds (tree.Based names) ts = OptionEnds names ts
SimpleEnds a ts = Unit {0}

-- ENTRY ends so as well; RETURNS has its parentheses
abbrev pub AttributeEnds : tree.Attribute → Tokens → Type 0
AttributeEnds (tree.Simple a) ts = SimpleEnds a ts
AttributeEnds (tree.Entry parameters) ts = OptionEnds parameters ts
AttributeEnds (tree.Returns attributes) ts = Unit {0}

-- where dimensions may stand and do not, `(` goes on
abbrev pub DimensionsEnd : List WrittenBounds → Tokens → Type 0
DimensionsEnd [] ts = rest_after is_open ts ≡ None
DimensionsEnd (b ∷ bs) ts = Unit {0}

-- the last of a list ends
abbrev pub LastEnds : {A : Type 0} → (Ends : A → Tokens → Type 0) → List A → Tokens → Type 0
LastEnds Ends [] ts = Unit {0}
LastEnds Ends (x ∷ []) ts = Ends x ts
LastEnds Ends (x ∷ y ∷ more) ts = LastEnds Ends (y ∷ more) ts

-- an item ends by its last attribute, and without one by its dimensions
abbrev pub AttributesEnd : List WrittenBounds → List tree.Attribute → Tokens → Type 0
AttributesEnd dimensions [] ts = DimensionsEnd dimensions ts
AttributesEnd dimensions (a ∷ more) ts = LastEnds AttributeEnds (a ∷ more) ts

-- the keyword of an attribute goes on with an item
abbrev pub ItemEnds : tree.Item → Tokens → Type 0
ItemEnds item ts = (with_attribute ts ≡ None) × AttributesEnd item.dimensions item.attributes ts

-- and a comma with a list of items
abbrev pub ItemsEnd : List tree.Item → Tokens → Type 0
ItemsEnd items ts = (rest_after is_comma ts ≡ None) × LastEnds ItemEnds items ts
