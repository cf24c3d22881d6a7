-- Fields with a tag: what is read in one of the forms is of that form.
use Rattle.std.proofs.Common.{◌≡◌, ℕ, zero, suc, ◌+◌, true, List, [], ◌∷◌, ◌++◌, get_or, Ok, refl, sym, ap, subst, ◌∙◌, arith}
use Rattle.pli_base.specs.Results.{◌>>=◌}
use Rattle.pli_code.specs.Fields.{AreBytes, Reader, Field, Form, byte_at, form, made, unknown, tagged}
use Rattle.pli_code.proofs.FieldLaws.{IsField, Taken, bind_ok, ok_is, as_shaped, byte_law, byte_again}

-- what was read after a tag
pub record Formed (tag : ℕ) (is : Form) (bytes rest : List ℕ) : Type 0 where
  pub tagged_so : is.tag ≡ tag
  pub parts : bytes ≡ is.bytes ++ rest
  pub fitting : is.fits ≡ true
  pub rest_bytes : AreBytes rest

abbrev pub Reads : {X : Type 0} → (X → Form) → (tag : ℕ) → Reader X → Type 0
Reads {X} form_of tag read =
    (bytes : List ℕ) (x : X) (rest : List ℕ) → AreBytes bytes → read bytes ≡ Ok (x, rest) → Formed tag (form_of x) bytes rest

-- readers of the forms from a tag on
abbrev pub AllRead : {X : Type 0} → (X → Form) → (tag : ℕ) → List (Reader X) → Type 0
AllRead form_of tag [] = Unit {0}
AllRead form_of tag (r ∷ rs) = Reads form_of tag r × AllRead form_of (suc tag) rs

pub unknown_reads : {X : Type 0} (form_of : X → Form) (tag : ℕ) → Reads form_of tag unknown
unknown_reads form_of tag bytes x rest b e = absurd cc

pub made_reads : {X Y : Type 0} (f : Field X) → IsField f → (to : X → Y) (form_of : Y → Form) (tag : ℕ) → ((x : X) → form_of (to x) ≡ form tag f x) → Reads form_of tag (made to f)
made_reads f it to form_of tag same bytes y rest b e =
    let r = bind_ok (f.read bytes) (as_shaped to) (y, rest) e in
    let t = it.takes bytes r.0.0 r.0.1 b r.1 in
    let formed : Formed tag (form tag f r.0.0) bytes r.0.1 = record { tagged_so = refl; parts = t.parts; fitting = t.fitting; rest_bytes = t.rest_bytes } in
    subst (λ p. Formed tag (form_of p.0) bytes p.1) (ok_is (to r.0.0, r.0.1) (y, rest) r.2) (subst (λ is. Formed tag is bytes r.0.1) (sym (same r.0.0)) formed)

pub made_again : {X Y : Type 0} (f : Field X) → IsField f → (to : X → Y) (x : X) (rest : List ℕ) → f.fits x ≡ true → made to f (f.bytes_of x ++ rest) ≡ Ok (to x, rest)
made_again f it to x rest h = ap (λ r. r >>= as_shaped to) (it.again x rest h)

reader_at : {X : Type 0} (form_of : X → Form) (tag : ℕ) (rs : List (Reader X)) → AllRead form_of tag rs → (k n : ℕ) → n ≡ tag + k → Reads form_of n (get_or rs k unknown)
reader_at form_of tag [] all k n e = unknown_reads form_of n
reader_at form_of tag (r ∷ rs) all zero n e = let same : tag ≡ n = omega (arith, e) in subst (λ t. Reads form_of t r) same all.0
reader_at form_of tag (r ∷ rs) all (suc k) n e = reader_at form_of (suc tag) rs all.1 k n (omega (arith, e))

pub tagged_law : {X : Type 0} (form_of : X → Form) (readers : List (Reader X)) → AllRead form_of 0 readers
    → ((x : X) (rest : List ℕ) → (form_of x).fits ≡ true → get_or readers (form_of x).tag unknown ((form_of x).bytes ++ rest) ≡ Ok (x, rest))
    → IsField (tagged form_of readers)
tagged_law {X} form_of readers all more = record { takes = take_one; again = once_more }
  where
    take_one : (bytes : List ℕ) (x : X) (rest : List ℕ) → AreBytes bytes → (byte_at bytes >>= λ t. get_or readers t.0 unknown t.1) ≡ Ok (x, rest) → Taken (tagged form_of readers) bytes x rest
    take_one bytes x rest b e =
        let r = bind_ok (byte_at bytes) (λ t. get_or readers t.0 unknown t.1) (x, rest) e in
        let t = byte_law.takes bytes r.0.0 r.0.1 b r.1 in
        let u = reader_at form_of 0 readers all r.0.0 r.0.0 (omega arith) r.0.1 x rest t.rest_bytes r.2 in
        record {
          parts = t.parts ∙ ap (λ bs. r.0.0 ∷ bs) u.parts ∙ ap (λ n. n ∷ ((form_of x).bytes ++ rest)) (sym u.tagged_so);
          fitting = u.fitting;
          rest_bytes = u.rest_bytes;
        }

    once_more : (x : X) (rest : List ℕ) → (form_of x).fits ≡ true → (byte_at ((form_of x).tag ∷ ((form_of x).bytes ++ rest)) >>= λ t. get_or readers t.0 unknown t.1) ≡ Ok (x, rest)
    once_more x rest h = ap (λ r. r >>= λ t. get_or readers t.0 unknown t.1) (byte_again (form_of x).tag ((form_of x).bytes ++ rest)) ∙ more x rest h
