-- What is read whole is spelled so, and what is spelled so is read whole.
use Rattle.std.proofs.Common.{◌≡◌, ℕ, true, List, [], ◌∷◌, ◌++◌, Option, Some, None, Result, Ok, refl, sym, ap, ◌∙◌, subst}
use Rattle.std.proofs.lemmas.List.{append-nil}
use Rattle.pli_code.specs.declared.fault.DeckFault.{DeckFault}
use Rattle.pli_base.specs.Results.{◌>>=◌}
use Rattle.pli_code.specs.Fields.{AreBytes, Field}
use Rattle.pli_deck_write.specs.Whole.{unless_faulty, whole, whole_read}
use Rattle.pli_code.proofs.FieldLaws.{IsField, bind_ok, ok_is}

unless_ok : {X : Type 0} (o : Option DeckFault) (x y : X) → unless_faulty o x ≡ Ok y → (o ≡ None) × (x ≡ y)
unless_ok None x y h = (refl, ok_is x y h)
unless_ok (Some f) x y h = absurd cc

-- it fits its bytes, which are these, and has no fault
pub record IsWhole {X : Type 0} (fault_of : X → Option DeckFault) (f : Field X) (bytes : List ℕ) (x : X) : Type 0 where
  pub fits : f.fits x ≡ true
  pub faultless : fault_of x ≡ None
  pub spelled : bytes ≡ f.bytes_of x

module _ {X : Type 0} (fault_of : X → Option DeckFault) (f : Field X) (law : IsField f) where
  whole_ok : (x : X) (rest : List ℕ) (y : X) → whole fault_of x rest ≡ Ok y → (rest ≡ []) × (fault_of x ≡ None) × (x ≡ y)
  whole_ok x [] y h = let u = unless_ok (fault_of x) x y h in (refl, u.0, u.1)
  whole_ok x (b ∷ rest) y h = absurd cc

  abbrev whole_of : X × List ℕ → Result X DeckFault
  whole_of x = whole fault_of x.0 x.1

  pub taken_whole : (bytes : List ℕ) (x : X) → AreBytes bytes → whole_read fault_of f bytes ≡ Ok x → IsWhole fault_of f bytes x
  taken_whole bytes x b e =
      let r = bind_ok (f.read bytes) whole_of x e in
      let t = law.takes bytes r.0.0 r.0.1 b r.1 in
      let w = whole_ok r.0.0 r.0.1 x r.2 in
      subst (IsWhole fault_of f bytes) w.2 (record {
        fits = t.fitting;
        faultless = w.1;
        spelled = t.parts ∙ ap (λ s. f.bytes_of r.0.0 ++ s) w.0 ∙ append-nil (f.bytes_of r.0.0);
      })

  pub read_again : (bytes : List ℕ) (x : X) → IsWhole fault_of f bytes x → whole_read fault_of f bytes ≡ Ok x
  read_again bytes x is =
      ap (λ bs. f.read bs >>= whole_of) (is.spelled ∙ sym (append-nil (f.bytes_of x)))
      ∙ ap (λ r. r >>= whole_of) (law.again x [] is.fits) ∙ ap (λ o. unless_faulty o x) is.faultless
