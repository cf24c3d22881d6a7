-- What names mean to all units, as the tables of names have it.
use Rattle.std.specs.Prelude.{◌≡◌, ℕ, suc, ◌+◌, Bool, true, false, cond, Option, Some, None, option_map, is_none, List, [], ◌∷◌, ◌++◌, slice_get, if◌then◌else◌, refl}
use Rattle.std.specs.List.{find, flat_map, fold, enumerate_from, position_from}
use Rattle.std.specs.Option.{option_and_then}
use Rattle.std.proofs.Common.{sym, ap, ◌∙◌, arith}
use Rattle.pli_base.specs.Name.{Name}
use Rattle.pli_base.specs.Words.{same_name}
use Rattle.pli_map.specs.Description.{Description}
use Rattle.pli_map.specs.ParameterTypes.{stated}
use Rattle.pli_type_tree.specs.Templates.{InitialScalar}
use Rattle.pli_code.specs.CodeTables.{Code, CodedTemplate, CodedGlobal, OwnVariable, ExternalVariable, EntryPoint}
use Rattle.pli_code.specs.CodeTables as tables
use Rattle.pli_link.specs.Links.{short, number_of}
use Rattle.pli_link.specs.Names as old
use Rattle.pli_link.specs.Names.{Declaration, meant, procedures, procedures_from, unit_at, shared_from, first_declared, with_declaration}
use Rattle.pli_link.specs.Shared.{unit_named, template_at, shared_by, all_shared, externals}
use Rattle.pli_link.specs.Units.{Compiled}
use Rattle.pli_link.proofs.MeantFirst.{meant_first}

-- ---- procedures

numbers_alike : (n : Name) (k : ℕ) (cs : List Compiled) → meant (procedures_from k cs) n ≡ position_from (λ (c : Compiled). same_name n c.deck.name) k cs
numbers_alike n k [] = refl
numbers_alike n k (c ∷ cs) = ap (cond (same_name n c.deck.name) (Some k)) (numbers_alike n (k + 1) cs)

-- the number of the first unit with a procedure
pub procedure_alike : (cs : List Compiled) (n : Name) → meant (procedures cs) n ≡ position_from (λ (c : Compiled). same_name n c.deck.name) 0 cs
procedure_alike cs n = meant_first [] (procedures_from 0 cs) n ∙ numbers_alike n 0 cs

picked : {A B : Type 0} (f : A → B) (b : Bool) (x : A) (o : Option A) → cond b (Some (f x)) (option_map f o) ≡ option_map f (cond b (Some x) o)
picked f true x o = refl
picked f false x o = refl

one_more : {A : Type 0} (test : A → Bool) (k : ℕ) (xs : List A) → position_from test (k + 1) xs ≡ option_map (λ n. n + 1) (position_from test k xs)
one_more test k [] = refl
one_more test k (x ∷ xs) =
    ap (cond (test x) (Some (k + 1))) (one_more test (k + 1) xs) ∙ picked (λ n. n + 1) (test x) k (position_from test (k + 1) xs)

unit_after : (c : Compiled) (cs : List Compiled) (o : Option ℕ) → unit_at (c ∷ cs) (option_map (λ n. n + 1) o) ≡ unit_at cs o
unit_after c cs None = refl
unit_after c cs (Some k) = let next : k + 1 ≡ suc k = omega arith in ap (slice_get (c ∷ cs)) next

found_at : (test : Compiled → Bool) (cs : List Compiled) → unit_at cs (position_from test 0 cs) ≡ find test cs
found_at test [] = refl
found_at test (c ∷ cs) = by (test c) (found_at test cs)
  where
    by : (b : Bool) → unit_at cs (position_from test 0 cs) ≡ find test cs → unit_at (c ∷ cs) (cond b (Some 0) (position_from test 1 cs)) ≡ cond b (Some c) (find test cs)
    by true h = refl
    by false h = ap (unit_at (c ∷ cs)) (one_more test 0 cs) ∙ unit_after c cs (position_from test 0 cs) ∙ h

pub unit_alike : (cs : List Compiled) (n : Name) → unit_named cs n ≡ old.unit_named cs n
unit_alike cs n = sym (ap (unit_at cs) (procedure_alike cs n) ∙ found_at (λ (c : Compiled). same_name n c.deck.name) cs)

none_at : {A : Type 0} (test : A → Bool) (k : ℕ) (xs : List A) → is_none (find test xs) ≡ is_none (position_from test k xs)
none_at test k [] = refl
none_at test k (x ∷ xs) = by (test x) (none_at test (k + 1) xs)
  where
    by : (b : Bool) → is_none (find test xs) ≡ is_none (position_from test (k + 1) xs) → is_none (cond b (Some x) (find test xs)) ≡ is_none (cond b (Some k) (position_from test (k + 1) xs))
    by true h = refl
    by false h = h

pub none_alike : (cs : List Compiled) (n : Name) → is_none (unit_named cs n) ≡ is_none (meant (procedures cs) n)
none_alike cs n = none_at (λ (c : Compiled). same_name n c.deck.name) 0 cs ∙ ap is_none (sym (procedure_alike cs n))

-- ---- variables

pub template_alike : (c : Code) (number : ℕ) → template_at c number ≡ tables.template_at c number
template_alike c number = by (slice_get c.templates number)
  where
    of : (initial : List InitialScalar) (o : Option Description) → option_map (λ (d : Description). record { description = d; initial = initial }) o ≡ tables.described c initial o
    of initial None = refl
    of initial (Some d) = refl

    by : (o : Option CodedTemplate) → option_and_then (λ (t : CodedTemplate). option_map (λ (d : Description). record { description = d; initial = t.initial }) (option_and_then stated (slice_get c.descriptions t.description))) o ≡ tables.with_description c o
    by None = refl
    by (Some t) = of t.initial (tables.stated_at c t.description)

shared_alike : (code : Code) (unit global : ℕ) (gs : List CodedGlobal) → flat_map (λ (g : ℕ × CodedGlobal). shared_by code unit g.0 g.1) (enumerate_from global gs) ≡ shared_from code unit global gs
shared_alike code unit global [] = refl
shared_alike code unit global (OwnVariable kind t ∷ gs) = shared_alike code unit (global + 1) gs
shared_alike code unit global (EntryPoint name s ∷ gs) = shared_alike code unit (global + 1) gs
shared_alike code unit global (ExternalVariable name kind t ∷ gs) =
    λ i. (name, record { kind = kind; template = template_alike code t i; unit = unit; global = global }) ∷ shared_alike code unit (global + 1) gs i

all_alike : (unit : ℕ) (cs : List Compiled)
    → flat_map (λ (c : ℕ × Compiled). flat_map (λ (g : ℕ × CodedGlobal). shared_by c.1.deck.code c.0 g.0 g.1) (enumerate_from 0 c.1.deck.code.globals)) (enumerate_from unit cs) ≡ old.all_shared unit cs
all_alike unit [] = refl
all_alike unit (c ∷ cs) = λ i. shared_alike c.deck.code unit 0 c.deck.code.globals i ++ all_alike (unit + 1) cs i

folded : (before ds : List (Name × Declaration)) → fold with_declaration before ds ≡ first_declared before ds
folded before [] = refl
folded before (d ∷ ds) = folded (with_declaration before d) ds

pub externals_alike : (cs : List Compiled) → externals cs ≡ old.externals cs
externals_alike cs = ap (fold with_declaration []) (all_alike 0 cs) ∙ folded [] (old.all_shared 0 cs)

-- the number of a name
pub number_alike : (k : ℕ) (names : List Name) (name : Name) → option_map short (position_from (λ n. same_name n name) k names) ≡ number_of k names name
number_alike k [] name = refl
number_alike k (n ∷ ns) name = by (same_name n name) (number_alike (k + 1) ns name)
  where
    by : (b : Bool) → option_map short (position_from (λ m. same_name m name) (k + 1) ns) ≡ number_of (k + 1) ns name → option_map short (cond b (Some k) (position_from (λ m. same_name m name) (k + 1) ns)) ≡ (if b then Some (short k) else number_of (k + 1) ns name)
    by true h = refl
    by false h = h
