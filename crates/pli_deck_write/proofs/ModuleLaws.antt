-- Modules are read as they are spelled.
use Rattle.std.proofs.Common.{◌≡◌, ℕ, zero, suc, nat_eq, nat_lt, true, false, ◌&&◌, cond, List, [], ◌∷◌, ◌++◌, length, take, drop, Option, Some, None, Result, Ok, Err, refl, sym, ap, subst, ◌∙◌, append_assoc, arith}
use Rattle.std.specs.List.{flat_map, list_all, filter}
use Rattle.std.proofs.lemmas.Bool.{ltb-false, le-ltb, and_parts, eqb-true, eq-eqb}
use Rattle.std.proofs.lemmas.List.{take_at, drop_at, take-append-drop, length-append, length-take-le}
use Rattle.pli_code.specs.declared.fault.DeckFault.{DeckFault}
use Rattle.pli_code.specs.declared.fault.DeckFault.TheVariants.{Truncated}
use Rattle.pli_base.specs.Results.{◌>>=◌}
use Rattle.pli_code.specs.Fields.{AreBytes, Field, many, checked, followed, ◌⊗◌, shaped, u1, u2, u4, from_to}
use Rattle.pli_code.specs.CodeTables.{Deck}
use Rattle.pli_code.specs.Modules.{External}
use Rattle.pli_code.specs.Versions.{same_version}
use Rattle.pli_code.specs.declared.version.Version.{Version}
use Rattle.pli_deck_write.specs.DeckFields.{name, version_in, any_version, deck_in_versions}
use Rattle.pli_deck_write.specs.DeckFaults.{fault_of}
use Rattle.pli_deck_write.specs.Spelling.{deck_bytes, deck_read_in}
use Rattle.pli_deck_write.specs.ModuleFields.{comes_after, external_of, external_parts, external_after, bytes_after, fit_after, many_after, chain, is_none, and_rest, deck_in, sized_deck, is_external, links_of, member_of, member_parts, member, exactly, ModuleContents, module_contents, module_of, module_parts, module_field}
use Rattle.pli_deck_write.specs.ModuleSpelling.{module_fault, module_read, ReadModuleIsSpelled, SpelledModuleIsRead, OneModule}
use Rattle.pli_code.proofs.FieldLaws.{AreBytes-drop, AreBytes-take, bind_ok, ok_is, guard_ok, both_true, Taken, IsField, byte_law, u2_law, u4_law, checked_law, followed_law, ◌⊠◌, shaped_law, list_law, from_to_law, many_takes, many_again}
use Rattle.pli_deck_write.proofs.DeckLaws.{name_law, magic_law, version_law, deck_law}
use Rattle.pli_deck_write.proofs.WholeLaws.{IsWhole, taken_whole, read_again}

-- ---- externals

external_law : (before : Option External) → IsField (external_after before)
unfolding external_after
external_law before =
    shaped_law external_of external_parts (checked (comes_after before) name ⊗ from_to 2 3 u1 ⊗ u2 ⊗ u2)
    (checked_law (comes_after before) name name_law ⊠ from_to_law 2 3 u1 byte_law ⊠ u2_law ⊠ u2_law) (λ p h. refl) (λ e h. refl)

pub record ChainTaken {X : Type 0} (f : Option X → Field X) (before : Option X) (count : ℕ) (bytes : List ℕ) (xs : List X) (rest : List ℕ) : Type 0 where
  pub parts : bytes ≡ bytes_after f before xs ++ rest
  pub fitting : fit_after f before xs ≡ true
  pub counted : length xs ≡ count
  pub rest_bytes : AreBytes rest

chain_takes : {X : Type 0} (f : Option X → Field X) → ((before : Option X) → IsField (f before)) → (before : Option X) (count : ℕ) (bytes : List ℕ) (xs : List X) (rest : List ℕ)
    → AreBytes bytes → many_after f before count bytes ≡ Ok (xs, rest) → ChainTaken f before count bytes xs rest
unfolding many_after
chain_takes f it before zero bytes xs rest b e =
    subst (λ p. ChainTaken f before 0 bytes p.0 p.1) (ok_is ([], bytes) (xs, rest) e) (record { parts = refl; fitting = refl; counted = refl; rest_bytes = b })
chain_takes f it before (suc n) bytes xs rest b e =
    let r = bind_ok ((f before).read bytes) (λ x. many_after f (Some x.0) n x.1 >>= λ ys. Ok (x.0 ∷ ys.0, ys.1)) (xs, rest) e in
    let s = bind_ok (many_after f (Some r.0.0) n r.0.1) (λ ys. Ok (r.0.0 ∷ ys.0, ys.1)) (xs, rest) r.2 in
    let t = (it before).takes bytes r.0.0 r.0.1 b r.1 in
    let u = chain_takes f it (Some r.0.0) n r.0.1 s.0.0 s.0.1 t.rest_bytes s.1 in
    subst (λ p. ChainTaken f before (suc n) bytes p.0 p.1) (ok_is (r.0.0 ∷ s.0.0, s.0.1) (xs, rest) s.2) (record {
      parts = t.parts ∙ ap (λ bs. (f before).bytes_of r.0.0 ++ bs) u.parts ∙ sym (append_assoc ((f before).bytes_of r.0.0) (bytes_after f (Some r.0.0) s.0.0) s.0.1);
      fitting = both_true _ _ t.fitting u.fitting;
      counted = ap suc u.counted;
      rest_bytes = u.rest_bytes;
    })

chain_again : {X : Type 0} (f : Option X → Field X) → ((before : Option X) → IsField (f before)) → (before : Option X) (xs : List X) (rest : List ℕ)
    → fit_after f before xs ≡ true → many_after f before (length xs) (bytes_after f before xs ++ rest) ≡ Ok (xs, rest)
unfolding many_after
chain_again f it before [] rest h = refl
chain_again f it before (x ∷ xs) rest h =
    let both = and_parts ((f before).fits x) (fit_after f (Some x) xs) h in
    let after = bytes_after f (Some x) xs in
    ap (λ bs. (f before).read bs >>= λ y. many_after f (Some y.0) (length xs) y.1 >>= λ ys. Ok (y.0 ∷ ys.0, ys.1)) (append_assoc ((f before).bytes_of x) after rest)
    ∙ ap (λ r. r >>= λ y. many_after f (Some y.0) (length xs) y.1 >>= λ ys. Ok (y.0 ∷ ys.0, ys.1)) ((it before).again x (after ++ rest) both.0)
    ∙ ap (λ r. r >>= λ ys. Ok (x ∷ ys.0, ys.1)) (chain_again f it (Some x) xs rest both.1)

pub chain_law : {X : Type 0} (f : Option X → Field X) → ((before : Option X) → IsField (f before)) → IsField (chain f)
chain_law {X} f it = record { takes = take_all; again = once_more }
  where
    take_all : (bytes : List ℕ) (xs : List X) (rest : List ℕ) → AreBytes bytes → (chain f).read bytes ≡ Ok (xs, rest) → Taken (chain f) bytes xs rest
    take_all bytes xs rest b e =
        let r = bind_ok (u2.read bytes) (λ n. many_after f None n.0 n.1) (xs, rest) e in
        let t = u2_law.takes bytes r.0.0 r.0.1 b r.1 in
        let u = chain_takes f it None r.0.0 r.0.1 xs rest t.rest_bytes r.2 in
        record {
          parts = t.parts ∙ ap (λ bs. u2.bytes_of r.0.0 ++ bs) u.parts ∙ sym (append_assoc (u2.bytes_of r.0.0) (bytes_after f None xs) rest)
              ∙ ap (λ n. (u2.bytes_of n ++ bytes_after f None xs) ++ rest) (sym u.counted);
          fitting = both_true _ _ (ap u2.fits u.counted ∙ t.fitting) u.fitting;
          rest_bytes = u.rest_bytes;
        }

    once_more : (xs : List X) (rest : List ℕ) → (chain f).fits xs ≡ true → (chain f).read ((chain f).bytes_of xs ++ rest) ≡ Ok (xs, rest)
    once_more xs rest h =
        let both = and_parts (u2.fits (length xs)) (fit_after f None xs) h in
        ap (λ bs. u2.read bs >>= λ n. many_after f None n.0 n.1) (append_assoc (u2.bytes_of (length xs)) (bytes_after f None xs) rest)
        ∙ ap (λ r. r >>= λ n. many_after f None n.0 n.1) (u2_law.again (length xs) (bytes_after f None xs ++ rest) both.0)
        ∙ chain_again f it None xs rest both.1

-- ---- decks within a module

-- a deck that is spelled so, in a version that may stand there
abbrev SpellsIn : (v : Version) → List ℕ → Deck → Type 0
SpellsIn v bytes d = IsWhole fault_of (deck_in_versions (same_version v)) bytes d

-- its bytes do not depend on which versions may stand there
bytes_same : (v : Version) (d : Deck) → (deck_in_versions (same_version v)).bytes_of d ≡ deck_bytes d
unfolding deck_in_versions
bytes_same v d = refl

read_in : (v : Version) (bytes : List ℕ) (d : Deck) → AreBytes bytes → deck_read_in (same_version v) bytes ≡ Ok d → SpellsIn v bytes d
unfolding deck_read_in
read_in v bytes d b e = taken_whole fault_of (deck_in_versions (same_version v)) (deck_law (same_version v)) bytes d b e

spelled_in : (v : Version) (bytes : List ℕ) (d : Deck) → SpellsIn v bytes d → deck_read_in (same_version v) bytes ≡ Ok d
unfolding deck_read_in
spelled_in v bytes d s = read_again fault_of (deck_in_versions (same_version v)) (deck_law (same_version v)) bytes d s

pub record DeckTaken (v : Version) (count : ℕ) (bytes : List ℕ) (d : Deck) (rest : List ℕ) : Type 0 where
  pub parts : bytes ≡ deck_bytes d ++ rest
  pub counted : length (deck_bytes d) ≡ count
  pub fits : (deck_in_versions (same_version v)).fits d ≡ true
  pub faultless : fault_of d ≡ None
  pub rest_bytes : AreBytes rest

abbrev with_rest : List ℕ → Deck → Result (Deck × List ℕ) DeckFault
with_rest rest d = Ok (d, rest)

deck_takes : (v : Version) (count : ℕ) (bytes : List ℕ) (d : Deck) (rest : List ℕ) → AreBytes bytes → deck_in v count bytes ≡ Ok (d, rest) → DeckTaken v count bytes d rest
unfolding deck_in
deck_takes v count bytes d rest b e =
    let front = take count bytes in
    let g = guard_ok (nat_lt (length bytes) count) Truncated (and_rest (drop count bytes) (deck_read_in (same_version v) front)) (d, rest) e in
    let r = bind_ok (deck_read_in (same_version v) front) (with_rest (drop count bytes)) (d, rest) g.1 in
    let s = read_in v front r.0 (AreBytes-take count bytes b) r.1 in
    let spelled : front ≡ deck_bytes r.0 = s.spelled ∙ bytes_same v r.0 in
    subst (λ p. DeckTaken v count bytes p.0 p.1) (ok_is (r.0, drop count bytes) (d, rest) r.2) (record {
      parts = sym (take-append-drop count bytes) ∙ ap (λ t. t ++ drop count bytes) spelled;
      counted = ap length (sym spelled) ∙ length-take-le count bytes (ltb-false (length bytes) count g.0);
      fits = s.fits;
      faultless = s.faultless;
      rest_bytes = AreBytes-drop count bytes b;
    })

deck_again : (v : Version) (d : Deck) (rest : List ℕ) → SpellsIn v (deck_bytes d) d → deck_in v (length (deck_bytes d)) (deck_bytes d ++ rest) ≡ Ok (d, rest)
unfolding deck_in
deck_again v d rest s =
    let k = length (deck_bytes d) in
    let all = deck_bytes d ++ rest in
    let read = deck_read_in (same_version v) in
    let enough : nat_lt (length all) k ≡ false = le-ltb _ _ (omega (arith, length-append (deck_bytes d) rest)) in
    ap (λ t. cond t (Err Truncated) (and_rest (drop k all) (read (take k all)))) enough
    ∙ ap (λ f. and_rest (drop k all) (read f)) (take_at (deck_bytes d) rest k refl)
    ∙ ap (λ f. and_rest f (read (deck_bytes d))) (drop_at (deck_bytes d) rest k refl)
    ∙ ap (and_rest rest) (spelled_in v (deck_bytes d) d s)

none_is : (o : Option DeckFault) → is_none o ≡ true → o ≡ None
none_is None h = refl
none_is (Some f) h = absurd cc

abbrev deck_by_count : Version → ℕ × List ℕ → Result (Deck × List ℕ) DeckFault
deck_by_count v n = deck_in v n.0 n.1

sized_takes : (v : Version) (bytes : List ℕ) (d : Deck) (rest : List ℕ) → AreBytes bytes → (sized_deck v).read bytes ≡ Ok (d, rest) → Taken (sized_deck v) bytes d rest
sized_takes v bytes d rest b e =
    let r = bind_ok (u4.read bytes) (deck_by_count v) (d, rest) e in
    let t = u4_law.takes bytes r.0.0 r.0.1 b r.1 in
    let u = deck_takes v r.0.0 r.0.1 d rest t.rest_bytes r.2 in
    record {
      parts = t.parts ∙ ap (λ s. u4.bytes_of r.0.0 ++ s) u.parts ∙ sym (append_assoc (u4.bytes_of r.0.0) (deck_bytes d) rest)
          ∙ ap (λ n. (u4.bytes_of n ++ deck_bytes d) ++ rest) (sym u.counted);
      fitting = both_true _ _ (ap u4.fits u.counted ∙ t.fitting) (both_true _ _ u.fits (ap is_none u.faultless));
      rest_bytes = u.rest_bytes;
    }

sized_again : (v : Version) (d : Deck) (rest : List ℕ) → (sized_deck v).fits d ≡ true → (sized_deck v).read ((sized_deck v).bytes_of d ++ rest) ≡ Ok (d, rest)
sized_again v d rest h =
    let k = length (deck_bytes d) in
    let fits = (deck_in_versions (same_version v)).fits d in
    let both = and_parts (u4.fits k) (fits && is_none (fault_of d)) h in
    let good = and_parts fits (is_none (fault_of d)) both.1 in
    let s : SpellsIn v (deck_bytes d) d = record { fits = good.0; faultless = none_is (fault_of d) good.1; spelled = sym (bytes_same v d) } in
    ap (λ bs. u4.read bs >>= deck_by_count v) (append_assoc (u4.bytes_of k) (deck_bytes d) rest)
    ∙ ap (λ r. r >>= deck_by_count v) (u4_law.again k (deck_bytes d ++ rest) both.0) ∙ deck_again v d rest s

sized_law : (v : Version) → IsField (sized_deck v)
sized_law v = record { takes = sized_takes v; again = sized_again v }

links_law : (d : Deck) → IsField (links_of d)
links_law d = let k = length (filter is_external d.code.globals) in list_law (from_to k k u2) u2 (from_to_law k k u2 u2_law) u2_law

member_law : (v : Version) → IsField (member v)
unfolding member
member_law v =
    shaped_law member_of member_parts (followed (name ⊗ sized_deck v) (λ p. links_of p.1))
    (followed_law (name ⊗ sized_deck v) (λ p. links_of p.1) (name_law ⊠ sized_law v) (λ p. links_law p.1)) (λ p h. refl) (λ m h. refl)

-- ---- modules

exactly_law : {X : Type 0} (count : ℕ) (f : Field X) → IsField f → IsField (exactly count f)
exactly_law {X} count f it = record { takes = take_all; again = once_more }
  where
    take_all : (bytes : List ℕ) (xs : List X) (rest : List ℕ) → AreBytes bytes → many f.read count bytes ≡ Ok (xs, rest) → Taken (exactly count f) bytes xs rest
    take_all bytes xs rest b e =
        let u = many_takes f it count bytes xs rest b e in
        record { parts = u.parts; fitting = both_true _ _ (eq-eqb (length xs) count u.counted) u.fitting; rest_bytes = u.rest_bytes }

    once_more : (xs : List X) (rest : List ℕ) → (nat_eq (length xs) count && list_all f.fits xs) ≡ true → many f.read count (flat_map f.bytes_of xs ++ rest) ≡ Ok (xs, rest)
    once_more xs rest h =
        let both = and_parts (nat_eq (length xs) count) (list_all f.fits xs) h in
        ap (λ n. many f.read n (flat_map f.bytes_of xs ++ rest)) (sym (eqb-true (length xs) count both.0)) ∙ many_again f it xs rest both.1

abbrev Heading : Type 0
Heading = ℕ × (ℕ × List External)

abbrev heading : Field Heading
heading = from_to 1 999 u2 ⊗ u2 ⊗ chain external_after

contents_law : (v : Version) → IsField (module_contents v)
contents_law v =
    followed_law heading (λ h. exactly h.0 (member v)) (from_to_law 1 999 u2 u2_law ⊠ u2_law ⊠ chain_law external_after external_law) (λ h. exactly_law h.0 (member v) (member_law v))

parts_there : (p : Version × ModuleContents) → (followed (version_in any_version) module_contents).fits p ≡ true → module_parts (module_of p) ≡ p
parts_there p h =
    let units = p.1.1 in
    let count = p.1.0.0 in
    let each = list_all (member p.0).fits units in
    let fits = (and_parts true ((module_contents p.0).fits p.1) h).1 in
    let both = and_parts (heading.fits p.1.0) (nat_eq (length units) count && each) fits in
    let counted = eqb-true (length units) count (and_parts (nat_eq (length units) count) each both.1).0 in
    ap (λ n. (p.0, ((n, p.1.0.1), units))) counted

module_law : IsField module_field
unfolding module_field
module_law =
    let parts = followed (version_in any_version) module_contents in
    magic_law (80 ∷ 76 ∷ 73 ∷ 77 ∷ []) (shaped module_of module_parts parts)
    (shaped_law module_of module_parts parts (followed_law (version_in any_version) module_contents (version_law any_version) contents_law) parts_there (λ m h. refl))

pub read_module_is_spelled : ReadModuleIsSpelled
unfolding module_read
read_module_is_spelled bytes m b e =
    let t = taken_whole module_fault module_field module_law bytes m b e in
    record { fits = t.fits; faultless = t.faultless; spelled = t.spelled }

pub spelled_module_is_read : SpelledModuleIsRead
unfolding module_read
spelled_module_is_read bytes m s =
    read_again module_fault module_field module_law bytes m (record { fits = s.fits; faultless = s.faultless; spelled = s.spelled })

pub one_module : OneModule
one_module bytes m n p q = ok_is m n (sym (spelled_module_is_read bytes m p) ∙ spelled_module_is_read bytes n q)
