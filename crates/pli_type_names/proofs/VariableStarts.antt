-- Where variables begin, by how many stand before them.
use Rattle.std.proofs.Common.{◌≡◌, ℕ, zero, suc, ◌+◌, ◌<◌, ◌≤◌, Bool, true, false, ◌&&◌, Some, None, List, [], ◌∷◌, map, length, get_or}
use Rattle.std.proofs.Common.{refl, ap, ◌∙◌, arith}
use Rattle.std.specs.Prelude.{if◌then◌else◌}
use Rattle.pli_map.specs.Description.{Description}
use Rattle.pli_declare.specs.Symbols as plain
use Rattle.pli_declare.specs.Symbols.{SymbolKind, Variable, OpenParameter, Member, Label, Procedure, Entry, BuiltIn}
use Rattle.pli_declare.specs.declared.symbol.Symbol.{Symbol}
use Rattle.pli_declare.specs.declared.symbol.StorageClass.{StorageClass}
use Rattle.pli_declare.specs.declared.symbol.StorageClass.TheVariants as classes
use Rattle.pli_declare.specs.views.SymbolView.{symbol_view, symbol_kind_view}
use Rattle.pli_type_rules.specs.NamedUnits.{is_parameter, is_stored, is_valued, is_automatic, is_based, is_global, one_such, such_before, one_global, globals_before}
use Rattle.pli_type_names.specs.BlockFacts.{BlockFacts}
use Rattle.pli_type_names.specs.OwnVariables.{begun, global_at, is_kept, own_at, own_after, slots_of, globals_of, based_of}
use Rattle.pli_type_names.specs.declared.place.Location.{Location}
use Rattle.pli_type_names.specs.declared.place.Location.TheVariants.{InBlock, Passed, BeforeProgram, NewestOf, Based}

-- ---- one variable

in_order : (stored : Bool) (place : Location) (d : Description)
    → (if stored then begun (Some place) d else None) ≡ begun (if stored then Some place else None) d
in_order true place d = refl
in_order false place d = refl

in_both : (stored is : Bool) (place : Location) (d : Description)
    → (if stored then begun (if is then Some place else None) d else None) ≡ begun (if stored && is then Some place else None) d
in_both true is place d = refl
in_both false is place d = refl

-- the variable that a symbol is, by those before it
pub own_is : (f : BlockFacts) (number slots globals based : ℕ) (k : SymbolKind)
    → slots ≡ length f.parameters + such_before (is_automatic 63) f.symbols number
    → globals ≡ global_at f number
    → based ≡ such_before (is_based 63) f.symbols number
    → own_after f.parameters slots globals based number k ≡ own_at f number k
own_is f number slots globals based (Variable d classes.Automatic scope initial area) e g h =
    in_order (is_stored 63 d) (InBlock slots) d
    ∙ ap (λ n. begun (if is_stored 63 d then Some (InBlock n) else None) d) e
own_is f number slots globals based (Variable d classes.Static scope initial area) e g h =
    in_order (is_stored 63 d) (BeforeProgram globals) d
    ∙ ap (λ n. begun (if is_stored 63 d then Some (BeforeProgram n) else None) d) g
own_is f number slots globals based (Variable d (classes.Parameter slot) scope initial area) e g h =
    in_both (is_stored 63 d) (is_parameter f.parameters slot number) (Passed slot) d
own_is f number slots globals based (Variable d classes.Controlled scope initial area) e g h =
    in_order (is_stored 63 d) (NewestOf globals) d
    ∙ ap (λ n. begun (if is_stored 63 d then Some (NewestOf n) else None) d) g
own_is f number slots globals based (Variable d (classes.Based locator) scope initial area) e g h =
    in_order (is_valued 63 d) (Based based locator) d
    ∙ ap (λ n. begun (if is_valued 63 d then Some (Based n locator) else None) d) h
own_is f number slots globals based (OpenParameter type slot area) e g h = refl
own_is f number slots globals based (Member root path initial area) e g h = refl
own_is f number slots globals based (Label statement) e g h = refl
own_is f number slots globals based (Procedure block returned area) e g h = refl
own_is f number slots globals based (Entry parameters returned area) e g h = refl
own_is f number slots globals based BuiltIn e g h = refl

-- ---- counting

abbrev one_if : Bool → ℕ
one_if b = if b then 1 else 0

one_if_few : (b : Bool) → one_if b ≤ 1
one_if_few true = omega arith
one_if_few false = omega arith

-- a variable that is kept
pub slots_kept : (d : Description) (class : StorageClass) → is_kept class d ≡ true
    → one_if (is_automatic 63 class d) ≡ slots_of class
slots_kept d classes.Automatic e = ap one_if e
slots_kept d classes.Static e = refl
slots_kept d (classes.Parameter slot) e = refl
slots_kept d classes.Controlled e = refl
slots_kept d (classes.Based locator) e = refl

pub globals_kept : (d : Description) (class : StorageClass) → is_kept class d ≡ true
    → one_if (is_global 63 class d) ≡ globals_of class
globals_kept d classes.Automatic e = refl
globals_kept d classes.Static e = ap one_if e
globals_kept d (classes.Parameter slot) e = refl
globals_kept d classes.Controlled e = ap one_if e
globals_kept d (classes.Based locator) e = refl

pub based_kept : (d : Description) (class : StorageClass) → is_kept class d ≡ true
    → one_if (is_based 63 class d) ≡ based_of class
based_kept d classes.Automatic e = refl
based_kept d classes.Static e = refl
based_kept d (classes.Parameter slot) e = refl
based_kept d classes.Controlled e = refl
based_kept d (classes.Based locator) e = ap one_if e

-- one that is not
pub slots_unkept : (d : Description) (class : StorageClass) → is_kept class d ≡ false
    → one_if (is_automatic 63 class d) ≡ 0
slots_unkept d classes.Automatic e = ap one_if e
slots_unkept d classes.Static e = refl
slots_unkept d (classes.Parameter slot) e = refl
slots_unkept d classes.Controlled e = refl
slots_unkept d (classes.Based locator) e = refl

pub globals_unkept : (d : Description) (class : StorageClass) → is_kept class d ≡ false
    → one_if (is_global 63 class d) ≡ 0
globals_unkept d classes.Automatic e = refl
globals_unkept d classes.Static e = ap one_if e
globals_unkept d (classes.Parameter slot) e = refl
globals_unkept d classes.Controlled e = ap one_if e
globals_unkept d (classes.Based locator) e = refl

pub based_unkept : (d : Description) (class : StorageClass) → is_kept class d ≡ false
    → one_if (is_based 63 class d) ≡ 0
based_unkept d classes.Automatic e = refl
based_unkept d classes.Static e = refl
based_unkept d (classes.Parameter slot) e = refl
based_unkept d classes.Controlled e = refl
based_unkept d (classes.Based locator) e = ap one_if e

-- ---- one symbol further on

abbrev pub Class : Type 0
Class = StorageClass → Description → Bool

pub none_before : (f : Class) (ss : List plain.Symbol) → such_before f ss 0 ≡ 0
none_before f [] = refl
none_before f (s ∷ ss) = refl

before_next : (f : Class) (ss : List Symbol) (n : ℕ) (d : Symbol) → n < length ss
    → such_before f (map symbol_view ss) (suc n)
    ≡ such_before f (map symbol_view ss) n + one_such f (symbol_kind_view (get_or ss n d).kind)
before_next f [] n d h = absurd (omega arith)
before_next f (s ∷ ss) zero d h = omega (arith, none_before f (map symbol_view ss))
before_next f (s ∷ ss) (suc n) d h = omega (arith, before_next f ss n d (omega (arith, h)))

pub before_more : (f : Class) (ss : List Symbol) (n : ℕ) (d : Symbol) → n < length ss
    → such_before f (map symbol_view ss) (n + 1)
    ≡ such_before f (map symbol_view ss) n + one_such f (symbol_kind_view (get_or ss n d).kind)
before_more f ss n d h =
    let next : n + 1 ≡ suc n = omega arith in
    ap (such_before f (map symbol_view ss)) next ∙ before_next f ss n d h

one_at_most : (f : Class) (k : SymbolKind) → one_such f k ≤ 1
one_at_most f (Variable d class scope initial area) = one_if_few (f class d)
one_at_most f (OpenParameter type slot area) = omega arith
one_at_most f (Member root path initial area) = omega arith
one_at_most f (Label statement) = omega arith
one_at_most f (Procedure block returned area) = omega arith
one_at_most f (Entry parameters returned area) = omega arith
one_at_most f BuiltIn = omega arith

-- as many as there are symbols, at most
pub before_within : (f : Class) (ss : List plain.Symbol) (n : ℕ) → such_before f ss n ≤ n
before_within f [] n = omega arith
before_within f (s ∷ ss) zero = omega arith
before_within f (s ∷ ss) (suc n) = omega (arith, one_at_most f s.kind, before_within f ss n)

-- the same of globals

pub no_global_before : (ss : List plain.Symbol) → globals_before 63 ss 0 ≡ 0
no_global_before [] = refl
no_global_before (s ∷ ss) = refl

global_next : (ss : List Symbol) (n : ℕ) (d : Symbol) → n < length ss
    → globals_before 63 (map symbol_view ss) (suc n)
    ≡ globals_before 63 (map symbol_view ss) n + one_global 63 (symbol_kind_view (get_or ss n d).kind)
global_next [] n d h = absurd (omega arith)
global_next (s ∷ ss) zero d h = omega (arith, no_global_before (map symbol_view ss))
global_next (s ∷ ss) (suc n) d h = omega (arith, global_next ss n d (omega (arith, h)))

pub global_more : (ss : List Symbol) (n : ℕ) (d : Symbol) → n < length ss
    → globals_before 63 (map symbol_view ss) (n + 1)
    ≡ globals_before 63 (map symbol_view ss) n + one_global 63 (symbol_kind_view (get_or ss n d).kind)
global_more ss n d h =
    let next : n + 1 ≡ suc n = omega arith in
    ap (globals_before 63 (map symbol_view ss)) next ∙ global_next ss n d h

one_global_at_most : (k : SymbolKind) → one_global 63 k ≤ 1
one_global_at_most (Variable d class scope initial area) = one_if_few (is_global 63 class d)
one_global_at_most (OpenParameter type slot area) = omega arith
one_global_at_most (Member root path initial area) = omega arith
one_global_at_most (Label statement) = omega arith
one_global_at_most (Procedure block returned area) = omega arith
one_global_at_most (Entry parameters returned area) = omega arith
one_global_at_most BuiltIn = omega arith

pub globals_within : (ss : List plain.Symbol) (n : ℕ) → globals_before 63 ss n ≤ n
globals_within [] n = omega arith
globals_within (s ∷ ss) zero = omega arith
globals_within (s ∷ ss) (suc n) = omega (arith, one_global_at_most s.kind, globals_within ss n)
