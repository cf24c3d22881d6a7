-- Numbers of external variables: each is the place of its name.
use Rattle.std.proofs.Common.{◌≡◌, ℕ, ◌+◌, ◌<◌, ◌≤◌, nat_lt, not, Bool, true, false, cond, if◌then◌else◌, Option, Some, None, is_some, unwrap_or, List, [], ◌∷◌, length, map, drop, get_or, position, refl, ap, sym, ◌∙◌, arith, true≢false, lt-ltb}
use Rattle.std.specs.Cmp.Lexicographic.{nat_list_eq_equiv}
use Rattle.std.specs.List.{position_or_len}
use Rattle.std.specs.Map.{keys_of, lookup}
use Rattle.std.proofs.lemmas.List.{at_drop_more, length-map}
use Rattle.pli_base.specs.Name.{Name}
use Rattle.pli_base.specs.Words.{same_name}
use Rattle.pli_code.specs.Modules as plain
use Rattle.pli_code.specs.views.CodeView.{external_view}
use Rattle.pli_code.specs.declared.module.External.{External}
use Rattle.pli_link.specs.Link.{link_faults}
use Rattle.pli_link.specs.Links.{short, external_of, number_of, number_in}
use Rattle.pli_link.specs.Names.{Declaration, externals, meant}
use Rattle.pli_link.specs.Units.{Compiled}
use Rattle.pli_link.specs.answers.Tables.{external_name}
use Rattle.pli_link.proofs.Faultless.{faultless, small}

-- an external variable before those that have their numbers
pub number_more : (at later : ℕ) (externals : List External) (e : External) (name : Name) (entries : List (Name × ℕ)) (found : Option ℕ) → at + 1 ≡ later
    → at < length externals → e ≡ get_or externals at e → found ≡ cond (same_name e.name name) (Some (short at)) (lookup (same_name name) entries)
    → lookup (same_name name) entries ≡ number_of later (map external_name (drop later externals)) name → found ≡ number_of at (map external_name (drop at externals)) name
number_more at later externals e name entries found next within is found_is was =
    found_is
    ∙ ap (λ o. cond (same_name e.name name) (Some (short at)) o) (was ∙ ap (λ n. number_of n (map external_name (drop n externals)) name) (sym next))
    ∙ sym (at_drop_more (λ es. number_of at (map external_name es) name) externals at e within
    ∙ ap (λ (x : External). number_of at (map external_name (x ∷ drop (at + 1) externals)) name) (sym is))

-- external variables have the same names in memory
names_seen : (es : List External) → map (λ (e : plain.External). e.name) (map external_view es) ≡ map external_name es
names_seen [] = refl
names_seen (e ∷ es) = ap (λ l. e.name ∷ l) (names_seen es)

-- and the names of their declarations
pub names_declared : (ds : List (Name × Declaration)) → map (λ (e : plain.External). e.name) (map external_of ds) ≡ keys_of ds
names_declared [] = refl
names_declared (d ∷ ds) = ap (λ l. d.0 ∷ l) (names_declared ds)

pub names_are : (es : List External) (ds : List (Name × Declaration)) → map external_view es ≡ map external_of ds → map external_name es ≡ keys_of ds
names_are es ds h = sym (names_seen es) ∙ ap (map (λ (e : plain.External). e.name)) h ∙ names_declared ds

-- ---- each name that is found has a number

pub record HasNumber (ds : List (Name × Declaration)) (number : ℕ) (n : Name) : Type 0 where
  pub place : ℕ
  pub is : place ≡ position_or_len (same_name n) (keys_of ds)
  pub found : number_of number (keys_of ds) n ≡ Some (short (number + place))
  pub within : place < length ds

pub number_found : (ds : List (Name × Declaration)) (number : ℕ) (n : Name) → is_some (meant ds n) ≡ true → HasNumber ds number n
number_found [] number n some = absurd (true≢false (sym some))
number_found (d ∷ ds) number n some = by (same_name n d.0) refl some (number_found ds (number + 1) n)
  where
    turned : (b : Bool) → same_name n d.0 ≡ b → number_of number (keys_of (d ∷ ds)) n ≡ (if b then Some (short number) else number_of (number + 1) (keys_of ds) n)
    turned b e = ap (λ c. if c then Some (short number) else number_of (number + 1) (keys_of ds) n) (nat_list_eq_equiv.symm d.0 n ∙ e)

    by : (b : Bool) → same_name n d.0 ≡ b → is_some (cond b (Some d.1) (meant ds n)) ≡ true → (is_some (meant ds n) ≡ true → HasNumber ds (number + 1) n) → HasNumber (d ∷ ds) number n
    by true e h rest = record {
      place = 0;
      is = sym (ap (λ b. cond (not b) (1 + position_or_len (same_name n) (keys_of ds)) 0) e);
      found = turned true e ∙ ap (λ k. Some (short k)) (omega arith);
      within = omega arith;
    }
    by false e h rest =
        let r = rest h in
        record {
          place = 1 + r.place;
          is = ap (λ k. 1 + k) r.is ∙ sym (ap (λ b. cond (not b) (1 + position_or_len (same_name n) (keys_of ds)) 0) e);
          found = turned false e ∙ r.found ∙ ap (λ k. Some (short k)) (omega arith);
          within = omega (arith, r.within);
        }

-- where no fault is told, the number of an external variable is its place
pub have_numbers : (cs : List Compiled) → link_faults cs ≡ [] → (n : Name) → is_some (meant (externals cs) n) ≡ true
    → position (same_name n) (keys_of (externals cs)) ≡ Some (number_in (keys_of (externals cs)) n)
have_numbers cs none n some =
    let ds = externals cs in
    let names = keys_of ds in
    let r = number_found ds 0 n some in
    let few : length ds ≤ 65535 = (small cs (faultless cs none).small).externals in
    let is : short (0 + r.place) ≡ r.place = omega (arith, few, r.within) in
    let lies : nat_lt r.place (length names) ≡ true = lt-ltb r.place (length names) (omega (arith, r.within, length-map ds (λ (d : Name × Declaration). d.0))) in
    ap (λ k. cond (nat_lt k (length names)) (Some k) None) (sym r.is) ∙ ap (λ b. cond b (Some r.place) None) lies
    ∙ ap Some (sym (ap (λ o. unwrap_or o 0) r.found ∙ is))
