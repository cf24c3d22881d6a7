-- What the type checker asks of symbols, and counts of them, where what they say is within the limits of the language.
use Rattle.std.specs.Prelude.{◌≡◌, ℕ, zero, suc, ◌+◌, nat_eq, Bool, true, false, not, ◌&&◌, ◌||◌, Option, Some, option_map, refl}
use Rattle.std.specs.Prelude.{List, [], ◌∷◌, ◌++◌, filter, slice_get, if◌then◌else◌, cond}
use Rattle.std.specs.List.{flat_map, AllByRecursion}
use Rattle.std.specs.Option.{unwrap_or}
use Rattle.std.proofs.Common.{sym, ap, ◌∙◌, subst, arith}
use Rattle.std.proofs.lemmas.Bool.{and_from, and_right, eq-eqb, ne_eqb, cond-true, cond-false}
use Rattle.std.proofs.lemmas.Option.{same_Some, none-some}
use Rattle.pli_base.specs.declared.declaration.InitialValue.{InitialValue}
use Rattle.pli_base.specs.declared.syntax.Identifier.{Identifier}
use Rattle.pli_map.specs.Description.{Description}
use Rattle.pli_map.specs.ParameterTypes.{is_stated}
use Rattle.pli_map.specs.Scalars.{is_area}
use Rattle.pli_declare.specs.Symbols.{Symbol, SymbolKind, Variable, OpenParameter, Member, Label, Procedure, Entry, BuiltIn}
use Rattle.pli_declare.specs.declared.symbol.StorageClass.{StorageClass}
use Rattle.pli_declare.specs.declared.symbol.StorageClass.TheVariants as classes
use Rattle.pli_declare.specs.declared.symbol.SymbolKey.{SymbolKey}
use Rattle.pli_type_rules.specs.InitialScalars.{template_of}
use Rattle.pli_type_rules.specs.NamedUnits as old
use Rattle.pli_type_tree.specs.Templates.{Template}
use Rattle.pli_type_unit.specs.UnitNames.{PlacedSymbol, numbered, count_before, has_area, may_stand, is_automatic, is_based, is_lasting, is_variable, is_returned, member_item, made_from, templates_at}

-- ---- what is asked of a symbol

-- a variable may be what it is, and so may what a procedure gives; what is open is so within the limits
abbrev pub AreStored : Description → Type 0
AreStored d = (old.is_stored 63 d ≡ is_area d || not (has_area d)) × (old.is_valued 63 d ≡ not (has_area d))

abbrev pub IsGiven : Option Description → Type 0
IsGiven returned = old.gives_stored 63 returned ≡ unwrap_or (option_map is_returned returned) true

abbrev pub IsAlike : SymbolKind → Type 0
IsAlike (Variable description class scope initial area) = AreStored description
IsAlike (OpenParameter type slot area) = old.is_open_parameter 63 type ≡ not (is_stated type)
IsAlike (Procedure block returned area) = IsGiven returned
IsAlike (Entry parameters returned area) = IsGiven returned
IsAlike kind = Unit {0}

abbrev pub AreAlike : List Symbol → Type 0
AreAlike ss = AllByRecursion (λ (s : Symbol). IsAlike s.kind) ss

-- a test of classes and descriptions is one of classes
abbrev pub SameTest : (StorageClass → Description → Bool) → (StorageClass → Bool) → Type 0
SameTest such is_such =
    (class : StorageClass) (d : Description) → AreStored d → such class d ≡ is_such class && may_stand class d

pub automatic_test : SameTest (old.is_automatic 63) is_automatic
automatic_test classes.Automatic d h = h.0
automatic_test (classes.Parameter slot) d h = refl
automatic_test classes.Static d h = refl
automatic_test classes.Controlled d h = refl
automatic_test (classes.Based locator) d h = refl

pub based_test : SameTest (old.is_based 63) is_based
based_test classes.Automatic d h = refl
based_test (classes.Parameter slot) d h = refl
based_test classes.Static d h = refl
based_test classes.Controlled d h = refl
based_test (classes.Based locator) d h = h.1

pub global_test : SameTest (old.is_global 63) is_lasting
global_test classes.Automatic d h = refl
global_test (classes.Parameter slot) d h = refl
global_test classes.Static d h = h.0
global_test classes.Controlled d h = h.0
global_test (classes.Based locator) d h = refl

-- ---- numbers

-- a symbol in front of others that is counted, or is not
abbrev pub one_if : Bool → ℕ
one_if b = if b then 1 else 0

same_key : (block number : ℕ) → (nat_eq block block && nat_eq number number) ≡ true
same_key block number = and_from _ _ (eq-eqb block block refl) (eq-eqb number number refl)

other_key : (block at number : ℕ) → (at ≡ number → ⊥) → (nat_eq block block && nat_eq at number) ≡ false
other_key block at number other = and_right _ _ (ne_eqb at number other)

-- the one under a key has none before it
pub none_before : (block number at : ℕ) (s : Symbol) (ps : List PlacedSymbol) → at ≡ number
    → count_before (record { block = block; number = number }) (record { key = record { block = block; number = at }; symbol = s } ∷ ps) ≡ 0
none_before block number at s ps e =
    ap (λ k. count_before (record { block = block; number = number }) (record { key = record { block = block; number = k }; symbol = s } ∷ ps)) e
    ∙ cond-true (nat_eq block block && nat_eq number number) 0 (suc (count_before (record { block = block; number = number }) ps)) (same_key block number)

-- another one is one more
pub one_before : (block number at : ℕ) (s : Symbol) (ps : List PlacedSymbol) → (at ≡ number → ⊥)
    → count_before (record { block = block; number = number }) (record { key = record { block = block; number = at }; symbol = s } ∷ ps)
    ≡ suc (count_before (record { block = block; number = number }) ps)
one_before block number at s ps other =
    cond-false (nat_eq block block && nat_eq at number) 0 (suc (count_before (record { block = block; number = number }) ps)) (other_key block at number other)

-- ---- what a variable is made from

item_alike : (root : ℕ) (i : Identifier) (kind : SymbolKind) (ss : List Symbol)
    → old.member_items root (record { identifier = i; kind = kind } ∷ ss) ≡ member_item root kind ++ old.member_items root ss
item_alike root i (Variable d class scope initial area) ss = refl
item_alike root i (OpenParameter type slot area) ss = refl
item_alike root i (Member owner path initial area) ss = refl
item_alike root i (Label statement) ss = refl
item_alike root i (Procedure block returned area) ss = refl
item_alike root i (Entry parameters returned area) ss = refl
item_alike root i BuiltIn ss = refl

items_alike : (root : ℕ) (ss : List Symbol) → old.member_items root ss ≡ flat_map (λ (s : Symbol). member_item root s.kind) ss
items_alike root [] = refl
items_alike root (s ∷ ss) = item_alike root s.identifier s.kind ss ∙ ap (λ is. member_item root s.kind ++ is) (items_alike root ss)

pub made_alike : (all : List Symbol) (number : ℕ) (d : Description) (initial : List InitialValue)
    → template_of d (record { path = []; values = initial } ∷ old.member_items number all) ≡ made_from all number d initial
made_alike all number d initial = ap (λ is. template_of d (record { path = []; values = initial } ∷ is)) (items_alike number all)

module _ (such : StorageClass → Description → Bool) (is_such : StorageClass → Bool) (same : SameTest such is_such) where
  one_alike : (kind : SymbolKind) → IsAlike kind → old.one_such such kind ≡ one_if (is_variable is_such kind)
  one_alike (Variable d class scope initial area) h = ap one_if (same class d h)
  one_alike (OpenParameter type slot area) h = refl
  one_alike (Member root path initial area) h = refl
  one_alike (Label statement) h = refl
  one_alike (Procedure block returned area) h = refl
  one_alike (Entry parameters returned area) h = refl
  one_alike BuiltIn h = refl

  abbrev pub those : List PlacedSymbol → List PlacedSymbol
  those ps = filter (λ p. is_variable is_such p.symbol.kind) ps

  module _ (block number : ℕ) where
    abbrev key : SymbolKey
    key = record { block = block; number = number }

    more_before : (from k one : ℕ) (t : Symbol) (b : Bool) (ps : List PlacedSymbol) → (from ≡ number → ⊥) → one ≡ one_if b
        → k ≡ count_before key ps
        → one + k ≡ count_before key (cond b (record { key = record { block = block; number = from }; symbol = t } ∷ ps) ps)
    more_before from k one t true ps other is e =
        let single : one ≡ 1 = is in
        omega (arith, one_before block number from t ps other, single, e)
    more_before from k one t false ps other is e =
        let none : one ≡ 0 = is in
        omega (arith, none, e)

    -- those before the symbol of a number are counted
    pub counted : (ss : List Symbol) (from k : ℕ) (s : Symbol) → AreAlike ss → from + k ≡ number → slice_get ss k ≡ Some s
        → is_variable is_such s.kind ≡ true → old.such_before such ss k ≡ count_before key (those (numbered block from ss))
    counted [] from k s all e there is = absurd (none-some s there)
    counted (t ∷ ss) from zero s all e there is =
        let here : is_variable is_such t.kind ≡ true = subst (λ (x : Symbol). is_variable is_such x.kind ≡ true) (sym (same_Some t s there)) is in
        let p : PlacedSymbol = record { key = record { block = block; number = from }; symbol = t } in
        sym (ap (count_before key) (cond-true (is_variable is_such t.kind) (p ∷ those (numbered block (suc from) ss)) (those (numbered block (suc from) ss)) here)
        ∙ none_before block number from t (those (numbered block (suc from) ss)) (omega (arith, e)))
    counted (t ∷ ss) from (suc k) s all e there is =
        more_before from (old.such_before such ss k) (old.one_such such t.kind) t (is_variable is_such t.kind) (those (numbered block (suc from) ss))
        (λ at. omega (arith, e, at)) (one_alike t.kind all.0)
        (counted ss (suc from) k s all.1 (omega (arith, e)) there is)

  -- ---- what they are made from

  module _ (all : List Symbol) where
    abbrev made_at : PlacedSymbol → List Template
    made_at p = templates_at all p.key.number p.symbol.kind

    -- one variable's template, in front of others
    template_if : (b : Bool) (p : PlacedSymbol) (d : Description) (initial : List InitialValue) (ps : List PlacedSymbol)
        → made_at p ≡ made_from all p.key.number d initial ∷ []
        → (if b then template_of d (record { path = []; values = initial } ∷ old.member_items p.key.number all) ∷ [] else []) ++ flat_map made_at ps
        ≡ flat_map made_at (cond b (p ∷ ps) ps)
    template_if true p d initial ps e = ap (λ m. m ∷ flat_map made_at ps) (made_alike all p.key.number d initial) ∙ ap (λ ts. ts ++ flat_map made_at ps) (sym e)
    template_if false p d initial ps e = refl

    template_alike : (block from : ℕ) (t : Symbol) (kind : SymbolKind) (ps : List PlacedSymbol) → t.kind ≡ kind → IsAlike kind
        → old.template_at such all from kind ++ flat_map made_at ps
        ≡ flat_map made_at (cond (is_variable is_such kind) (record { key = record { block = block; number = from }; symbol = t } ∷ ps) ps)
    template_alike block from t (Variable d class scope initial area) ps e h =
        ap (λ b. (if b then template_of d (record { path = []; values = initial } ∷ old.member_items from all) ∷ [] else []) ++ flat_map made_at ps) (same class d h)
        ∙ template_if (is_such class && may_stand class d) (record { key = record { block = block; number = from }; symbol = t }) d initial ps (ap (templates_at all from) e)
    template_alike block from t (OpenParameter type slot area) ps e h = refl
    template_alike block from t (Member root path initial area) ps e h = refl
    template_alike block from t (Label statement) ps e h = refl
    template_alike block from t (Procedure b returned area) ps e h = refl
    template_alike block from t (Entry parameters returned area) ps e h = refl
    template_alike block from t BuiltIn ps e h = refl

    pub templates_alike : (block from : ℕ) (ss : List Symbol) → AreAlike ss
        → old.templates_from such all from ss
        ≡ flat_map made_at (those (numbered block from ss))
    templates_alike block from [] h = refl
    templates_alike block from (t ∷ ss) h =
        ap (λ ts. old.template_at such all from t.kind ++ ts) (templates_alike block (suc from) ss h.1)
        ∙ template_alike block from t t.kind (those (numbered block (suc from) ss)) refl h.0
