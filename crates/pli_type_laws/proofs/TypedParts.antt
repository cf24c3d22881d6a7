-- Parts of a typed unit with the procedures in them: the part has a property, each procedure is as it is known, and
-- each procedure that begins there is among them.
use Rattle.std.specs.Prelude.{◌≡◌, ℕ, zero, suc, ◌+◌, nat_eq, Bool, true, false, ◌||◌, IsTrue, Some, List, [], ◌∷◌, ◌++◌}
use Rattle.std.specs.Prelude.{length, slice_get, Result, Ok, Err, refl, if◌then◌else◌}
use Rattle.std.specs.List.{list_any}
use Rattle.std.proofs.Common.{arith, sym, ap, ◌∙◌, subst}
use Rattle.std.proofs.lemmas.Bool.{eqb-true}
use Rattle.std.proofs.lemmas.Option.{same_Some, none-some}
use Rattle.pli_base.specs.declared.token.Fault.{Fault}
use Rattle.pli_meaning_tree.specs.ProgramMeaning.{procedure_in}
use Rattle.pli_meaning_typed.specs.TypedPrograms.{IsTypedProcedure}
use Rattle.pli_declare.specs.declared.block_numbers.ResolvedBlockKind.TheVariants as kinds
use Rattle.pli_type_rules.specs.Checked.{typed_as, unit_of}
use Rattle.pli_type_rules.specs.Names.{NamedUnit}
use Rattle.pli_type_rules.specs.StatementTyping.{WithProcedures, of_own, together, made}
use Rattle.pli_type_laws.proofs.Denotations.{OnRead}
use Rattle.pli_type_laws.specs.SourceBlocks.{SourceBlock, known_procedures}
use Rattle.pli_type_tree.specs.TypedTree.{TypedProcedure, TypedStatements, TypedUnit}
use Rattle.pli_type_tree.specs.WellTyped.{KnownProcedure, TypingContext, AreTypedStatements}

-- what is given, if there are no faults
abbrev pub OnTyped : {A : Type 0} → (A → Type 0) → Result A (List Fault) → Type 0
OnTyped P (Ok x) = P x
OnTyped P (Err fs) = Unit {0}

pub on_given : {A : Type 0} (P : A → Type 0) (r : Result A (List Fault)) (y : A) → r ≡ Ok y → OnTyped P r → P y
on_given P r y e h = subst (OnTyped P) e h

-- what holds of the unit of each list without faults holds of the unit that is given
pub unit_given : (u : NamedUnit) (P : TypedUnit → Type 0) (r : Result (WithProcedures TypedStatements) (List Fault)) (t : TypedUnit)
    → ((y : WithProcedures TypedStatements) → r ≡ Ok y → P (unit_of u y)) → typed_as u r ≡ Ok t → P t
unit_given u P (Ok y) t h e = subst P (same (unit_of u y) t (Ok (unit_of u y)) refl e) (h y refl)
  where
    same : (x z : TypedUnit) (r : Result TypedUnit (List Fault)) → r ≡ Ok x → r ≡ Ok z → x ≡ z
    same x z r e f = cc
unit_given u P (Err fs) t h e = cc

pub typed_map : {A : Type 0} (P Q : A → Type 0) (r : Result A (List Fault)) → ((x : A) → P x → Q x) → OnTyped P r → OnTyped Q r
typed_map P Q (Ok x) g h = g x h
typed_map P Q (Err fs) g h = tt

-- a procedure of this number is among these
abbrev pub Has : (number : ℕ) → List TypedProcedure → Type 0
Has k fs = IsTrue (list_any (λ f. nat_eq f.head.number k) fs)

or_left : (a b : Bool) → a ≡ true → (a || b) ≡ true
or_left a b e = rw e refl

or_right : (a b : Bool) → b ≡ true → (a || b) ≡ true
or_right true b e = refl
or_right false b e = e

or_more : (a b c : Bool) → (b ≡ true → c ≡ true) → (a || b) ≡ true → (a || c) ≡ true
or_more true b c f e = refl
or_more false b c f e = f e

pub has_front : (k : ℕ) (fs gs : List TypedProcedure) → Has k fs → Has k (fs ++ gs)
has_front k [] gs h = absurd (cc)
has_front k (f ∷ fs) gs h =
    or_more (nat_eq f.head.number k) (list_any (λ f. nat_eq f.head.number k) fs)
    (list_any (λ f. nat_eq f.head.number k) (fs ++ gs)) (λ e. has_front k fs gs e) h

pub has_back : (k : ℕ) (fs gs : List TypedProcedure) → Has k gs → Has k (fs ++ gs)
has_back k [] gs h = h
has_back k (f ∷ fs) gs h = or_right (nat_eq f.head.number k) (list_any (λ f. nat_eq f.head.number k) (fs ++ gs)) (has_back k fs gs h)

-- each procedure and each ON-unit among blocks, the first of which has this number
abbrev pub Covers : List TypedProcedure → (number : ℕ) → List SourceBlock → Type 0
Covers fs n [] = Unit {0}
Covers fs n (b ∷ bs) = ((b.kind ≡ kinds.Begin → ⊥) → Has n fs) × Covers fs (suc n) bs

pub covers_more : (fs gs : List TypedProcedure) (n : ℕ) (bs : List SourceBlock) → ((k : ℕ) → Has k fs → Has k gs)
    → Covers fs n bs → Covers gs n bs
covers_more fs gs n [] f h = tt
covers_more fs gs n (b ∷ bs) f h = ((λ e. f n (h.0 e)), covers_more fs gs (suc n) bs f h.1)

covers_both : (fs : List TypedProcedure) (n k : ℕ) (bs cs : List SourceBlock) → length bs ≡ k → Covers fs n bs
    → Covers fs (n + k) cs → Covers fs n (bs ++ cs)
covers_both fs n k [] cs e h g = subst (λ m. Covers fs m cs) (omega (arith, e)) g
covers_both fs n zero (b ∷ bs) cs e h g = absurd (omega (arith, e))
covers_both fs n (suc k) (b ∷ bs) cs e h g =
    (h.0, covers_both fs (suc n) k bs cs (omega (arith, e)) h.1 (subst (λ m. Covers fs m cs) (omega arith) g))

pub covered : (fs : List TypedProcedure) (n i : ℕ) (bs : List SourceBlock) (b : SourceBlock) → Covers fs n bs
    → slice_get bs i ≡ Some b → (b.kind ≡ kinds.Begin → ⊥) → Has (n + i) fs
covered fs n i [] b h e k = absurd (none-some b e)
covered fs n zero (c ∷ bs) b h e k =
    let same : c ≡ b = same_Some c b e in
    subst (λ m. Has m fs) (omega arith) (h.0 (λ e. k (sym (ap (λ (x : SourceBlock). x.kind) same) ∙ e)))
covered fs n (suc i) (c ∷ bs) b h e k =
    subst (λ m. Has m fs) (omega arith) (covered fs (suc n) i bs b h.1 e k)

-- a procedure that is there is found
pub found_among : (k : ℕ) (fs : List TypedProcedure) → Has k fs
    → (f : TypedProcedure) × (procedure_in fs k ≡ Some f) × (f.head.number ≡ k)
found_among k [] h = absurd (cc)
found_among k (f ∷ fs) h = by (nat_eq f.head.number k) refl h (λ e. found_among k fs e)
  where
    here : nat_eq f.head.number k ≡ true → procedure_in (f ∷ fs) k ≡ Some f
    here e = rw e refl

    there : nat_eq f.head.number k ≡ false → procedure_in (f ∷ fs) k ≡ procedure_in fs k
    there e = rw e refl

    further : nat_eq f.head.number k ≡ false → (g : TypedProcedure) × (procedure_in fs k ≡ Some g) × (g.head.number ≡ k)
        → (g : TypedProcedure) × (procedure_in (f ∷ fs) k ≡ Some g) × (g.head.number ≡ k)
    further e (g, at, number) = (g, there e ∙ at, number)

    by : (b : Bool) → nat_eq f.head.number k ≡ b → (b || list_any (λ f. nat_eq f.head.number k) fs) ≡ true
        → (Has k fs → (g : TypedProcedure) × (procedure_in fs k ≡ Some g) × (g.head.number ≡ k))
        → (g : TypedProcedure) × (procedure_in (f ∷ fs) k ≡ Some g) × (g.head.number ≡ k)
    by true e h rest = (f, here e, eqb-true f.head.number k e)
    by false e h rest = further e (rest h)

module _ (u : NamedUnit) where
  -- a procedure is as it is known
  abbrev pub IsOurs : TypedProcedure → Type 0
  IsOurs f =
      (p : KnownProcedure) × (known_procedures u f.head.number ≡ Some p)
      × IsTypedProcedure 63 u.globals (known_procedures u) p f

  abbrev pub AreOurs : List TypedProcedure → Type 0
  AreOurs [] = Unit {0}
  AreOurs (f ∷ fs) = IsOurs f × AreOurs fs

  pub ours_both : (fs gs : List TypedProcedure) → AreOurs fs → AreOurs gs → AreOurs (fs ++ gs)
  ours_both [] gs h k = k
  ours_both (f ∷ fs) gs h k = (h.0, ours_both fs gs h.1 k)

  pub ours_found : (k : ℕ) (f : TypedProcedure) (fs : List TypedProcedure) → AreOurs fs → procedure_in fs k ≡ Some f → IsOurs f
  ours_found k f [] h e = absurd (none-some f e)
  ours_found k f (g ∷ fs) h e = by (nat_eq g.head.number k) e (λ x. ours_found k f fs h.1 x)
    where
      by : (b : Bool) → (if b then Some g else procedure_in fs k) ≡ Some f → (procedure_in fs k ≡ Some f → IsOurs f) → IsOurs f
      by true e rest = subst IsOurs (same_Some g f e) h.0
      by false e rest = rest e

  -- a part with the procedures that begin there
  abbrev pub Typed : {A : Type 0} → (A → Type 0) → (number : ℕ) → List SourceBlock → WithProcedures A → Type 0
  Typed P n bs x = P x.part × AreOurs x.procedures × Covers x.procedures n bs

  pub typed_made : {A B : Type 0} (P : A → Type 0) (Q : B → Type 0) (f : A → B) (n : ℕ) (bs : List SourceBlock)
      (r : Result (WithProcedures A) (List Fault)) → ((x : A) → P x → Q (f x)) → OnTyped (Typed P n bs) r
      → OnTyped (Typed Q n bs) (made f r)
  typed_made P Q f n bs (Ok x) g h = (g x.part h.0, h.1, h.2)
  typed_made P Q f n bs (Err fs) g h = tt

  pub typed_own : {A : Type 0} (P : A → Type 0) (n : ℕ) (r : Result A Fault) → OnRead P r → OnTyped (Typed P n []) (of_own r)
  typed_own P n (Ok x) h = (h, tt, tt)
  typed_own P n (Err f) h = tt

  -- a part of its own before another
  pub typed_with : {A B C : Type 0} (P : A → Type 0) (Q : B → Type 0) (R : C → Type 0) (f : A → B → C) (n : ℕ)
      (bs : List SourceBlock) (r : Result A Fault) (q : Result (WithProcedures B) (List Fault))
      → ((x : A) (y : B) → P x → Q y → R (f x y)) → OnRead P r → OnTyped (Typed Q n bs) q
      → OnTyped (Typed R n bs) (together f (of_own r) q)
  typed_with P Q R f n bs (Ok x) (Ok y) g h k = (g x y.part h k.0, k.1, k.2)
  typed_with P Q R f n bs (Ok x) (Err gs) g h k = tt
  typed_with P Q R f n bs (Err e) (Ok y) g h k = tt
  typed_with P Q R f n bs (Err e) (Err gs) g h k = tt

  pub typed_both : {A B C : Type 0} (P : A → Type 0) (Q : B → Type 0) (R : C → Type 0) (f : A → B → C) (n k : ℕ)
      (bs cs : List SourceBlock) (r : Result (WithProcedures A) (List Fault)) (q : Result (WithProcedures B) (List Fault))
      → length bs ≡ k → ((x : A) (y : B) → P x → Q y → R (f x y)) → OnTyped (Typed P n bs) r → OnTyped (Typed Q (n + k) cs) q
      → OnTyped (Typed R n (bs ++ cs)) (together f r q)
  typed_both P Q R f n k bs cs (Ok x) (Ok y) e g h j = (
    g x.part y.part h.0 j.0,
    ours_both x.procedures y.procedures h.1 j.1,
    covers_both (x.procedures ++ y.procedures) n k bs cs e
        (covers_more x.procedures (x.procedures ++ y.procedures) n bs (λ i a. has_front i x.procedures y.procedures a) h.2)
        (covers_more y.procedures (x.procedures ++ y.procedures) (n + k) cs (λ i a. has_back i x.procedures y.procedures a) j.2),
  )
  typed_both P Q R f n k bs cs (Ok x) (Err gs) e g h j = tt
  typed_both P Q R f n k bs cs (Err fs) (Ok y) e g h j = tt
  typed_both P Q R f n k bs cs (Err fs) (Err gs) e g h j = tt

  -- a list in a context that knows its labels
  pub with_list : (r : Result (WithProcedures TypedStatements) (List Fault)) (S : TypedStatements → TypingContext)
      (K : TypingContext → Type 0) (n : ℕ) (bs : List SourceBlock)
      → ((t : TypingContext) → K t → OnTyped (Typed (AreTypedStatements 63 t) n bs) r) → OnTyped (λ y. K (S y.part)) r
      → OnTyped (Typed (λ list. AreTypedStatements 63 (S list) list) n bs) r
  with_list (Ok y) S K n bs h k = h (S y.part) k
  with_list (Err fs) S K n bs h k = tt
