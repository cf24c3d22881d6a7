-- Parts of a typed unit that are numbered well, with the procedures in them.
use Rattle.std.specs.Prelude.{◌≡◌, ℕ, zero, suc, ◌+◌, ◌≤◌, ◌<◌, List, [], ◌∷◌, ◌++◌, length}
use Rattle.std.specs.List.{flat_map, AllByRecursion}
use Rattle.std.proofs.Common.{arith, sym, ap, ◌∙◌, subst, length-append}
use Rattle.std.proofs.lemmas.Grind.{flat_map-append}
use Rattle.pli_gen_emit.specs.TreeTranslation.{BlockTree, blocks_of_procedure, blocks_in, blocks_of_form}
use Rattle.pli_gen_emit.specs.TreeTranslation.{blocks_of_else, blocks_among}
use Rattle.pli_gen.specs.WellNumbered.{numbers_in, numbers_in_form, numbers_in_else, numbers_among, HasRoom, HasRoomForm}
use Rattle.pli_gen.specs.WellNumbered.{HasRoomElse, HaveRoom, KeepsApart, KeepsApartForm, KeepsApartElse, KeepApart}
use Rattle.pli_type_rules.specs.StatementTyping.{WithProcedures, alone}
use Rattle.pli_type_laws.proofs.Counting.{same, below, below_next, times, times_both, in_blocks, of_blocks, in_both, of_both}
use Rattle.pli_type_tree.specs.TypedTree as typed
use Rattle.pli_type_tree.specs.TypedTree.{Form, TypedStatement, TypedStatements, OtherWise, TypedProcedure}

pub below_more : (n b c : ℕ) → b ≤ c → below n b ≤ below n c
below_more n zero c le = omega arith
below_more n (suc b) zero le = absurd (omega (arith, le))
below_more zero (suc b) (suc c) le = omega arith
below_more (suc n) (suc b) (suc c) le = below_more n b c (omega (arith, le))

-- loops of a block have room, and its iterations their temporaries
abbrev pub IsRoomy : BlockTree → Type 0
IsRoomy b = HaveRoom 64 b.statements × KeepApart 0 b.head.temporaries b.statements

abbrev pub AreRoomy : List BlockTree → Type 0
AreRoomy bs = AllByRecursion IsRoomy bs

pub roomy_both : (bs cs : List BlockTree) → AreRoomy bs → AreRoomy cs → AreRoomy (bs ++ cs)
roomy_both [] cs h g = g
roomy_both (b ∷ bs) cs h g = (h.0, roomy_both bs cs h.1 g)

-- the blocks of procedures
abbrev pub blocks_within : List TypedProcedure → List BlockTree
blocks_within fs = flat_map blocks_of_procedure fs

within_in : (n : ℕ) (fs gs : List TypedProcedure)
    → in_blocks n (blocks_within (fs ++ gs)) ≡ in_blocks n (blocks_within fs) + in_blocks n (blocks_within gs)
within_in n fs gs = ap (in_blocks n) (flat_map-append blocks_of_procedure fs gs) ∙ in_both n (blocks_within fs) (blocks_within gs)

within_of : (n : ℕ) (fs gs : List TypedProcedure)
    → of_blocks n (blocks_within (fs ++ gs)) ≡ of_blocks n (blocks_within fs) + of_blocks n (blocks_within gs)
within_of n fs gs = ap (of_blocks n) (flat_map-append blocks_of_procedure fs gs) ∙ of_both n (blocks_within fs) (blocks_within gs)

within_length : (fs gs : List TypedProcedure)
    → length (blocks_within (fs ++ gs)) ≡ length (blocks_within fs) + length (blocks_within gs)
within_length fs gs = ap length (flat_map-append blocks_of_procedure fs gs) ∙ length-append (blocks_within fs) (blocks_within gs)

within_roomy : (fs gs : List TypedProcedure) → AreRoomy (blocks_within fs) → AreRoomy (blocks_within gs)
    → AreRoomy (blocks_within (fs ++ gs))
within_roomy fs gs h g = by fs h
  where
    first_of : (bs cs : List BlockTree) → AreRoomy (bs ++ cs) → AreRoomy bs × AreRoomy cs
    first_of [] cs h = (tt, h)
    first_of (b ∷ bs) cs h = let rest : AreRoomy bs × AreRoomy cs = first_of bs cs h.1 in ((h.0, rest.0), rest.1)

    by : (fs : List TypedProcedure) → AreRoomy (blocks_within fs) → AreRoomy (blocks_within (fs ++ gs))
    by [] h = g
    by (f ∷ fs) h =
        let parts : AreRoomy (blocks_of_procedure f) × AreRoomy (blocks_within fs) =
        first_of (blocks_of_procedure f) (blocks_within fs) h in
        roomy_both (blocks_of_procedure f) (blocks_within (fs ++ gs)) parts.0 (by fs parts.1)

-- A part whose statements have numbers from a on, below b, and in which the blocks from k on, below l, begin,
-- each once
module _ {A : Type 0} (numbers : A → List ℕ) (inside : (parent : ℕ) → A → List BlockTree) (here : A → Type 0) where
  abbrev pub Good : (a b k l : ℕ) → WithProcedures A → Type 0
  Good a b k l y =
      ((parent n : ℕ) → times n (numbers y.part) + in_blocks n (inside parent y.part) + in_blocks n (blocks_within y.procedures)
      + below n a ≤ below n b)
      × ((parent n : ℕ) → of_blocks n (inside parent y.part) + of_blocks n (blocks_within y.procedures) + below n k ≡ below n l)
      × ((parent : ℕ) → length (inside parent y.part) + length (blocks_within y.procedures) + k ≡ l)
      × ((parent : ℕ) → AreRoomy (inside parent y.part))
      × AreRoomy (blocks_within y.procedures)
      × here y.part

  -- nothing that is numbered
  pub good_alone : (a b k : ℕ) (x : A) → a ≤ b → numbers x ≡ [] → ((parent : ℕ) → inside parent x ≡ []) → here x
      → Good a b k k (alone x)
  good_alone a b k x le none no_blocks h = (
    (λ parent n. omega (arith, ap (times n) none, ap (in_blocks n) (no_blocks parent), below_more n a b le)),
    (λ parent n. omega (arith, ap (of_blocks n) (no_blocks parent))),
    (λ parent. omega (arith, ap (λ (bs : List BlockTree). length bs) (no_blocks parent))),
    (λ parent. subst AreRoomy (sym (no_blocks parent)) tt),
    tt,
    h,
  )

-- a part made of one part
module _ {A B : Type 0} (n1 : A → List ℕ) (i1 : (parent : ℕ) → A → List BlockTree) (h1 : A → Type 0)
    (n2 : B → List ℕ) (i2 : (parent : ℕ) → B → List BlockTree) (h2 : B → Type 0) where
  pub good_made : (a b c k l : ℕ) (y : WithProcedures A) (z : B) → b ≤ c → Good n1 i1 h1 a b k l y → n2 z ≡ n1 y.part
      → ((parent : ℕ) → i2 parent z ≡ i1 parent y.part) → h2 z → Good n2 i2 h2 a c k l (record { part = z; procedures = y.procedures })
  good_made a b c k l y z le g same_numbers same_blocks h = (
    (λ parent n. omega (arith, g.0 parent n, ap (times n) same_numbers, ap (in_blocks n) (same_blocks parent), below_more n b c le)),
    (λ parent n. omega (arith, g.1 parent n, ap (of_blocks n) (same_blocks parent))),
    (λ parent. omega (arith, g.2 parent, ap (λ (bs : List BlockTree). length bs) (same_blocks parent))),
    (λ parent. subst AreRoomy (sym (same_blocks parent)) (g.3 parent)),
    g.4,
    h,
  )

-- a part made of two
module _ {A B C : Type 0} (n1 : A → List ℕ) (i1 : (parent : ℕ) → A → List BlockTree) (h1 : A → Type 0)
    (n2 : B → List ℕ) (i2 : (parent : ℕ) → B → List BlockTree) (h2 : B → Type 0)
    (n3 : C → List ℕ) (i3 : (parent : ℕ) → C → List BlockTree) (h3 : C → Type 0) where
  pub good_both : (a b c k l m : ℕ) (x : WithProcedures A) (y : WithProcedures B) (z : C) → Good n1 i1 h1 a b k l x
      → Good n2 i2 h2 b c l m y → n3 z ≡ n1 x.part ++ n2 y.part
      → ((parent : ℕ) → i3 parent z ≡ i1 parent x.part ++ i2 parent y.part) → h3 z
      → Good n3 i3 h3 a c k m (record { part = z; procedures = x.procedures ++ y.procedures })
  good_both a b c k l m x y z g j same_numbers same_blocks h = (
    (λ parent n. omega (
      arith,
      g.0 parent n,
      j.0 parent n,
      ap (times n) same_numbers,
      times_both n (n1 x.part) (n2 y.part),
      ap (in_blocks n) (same_blocks parent),
      in_both n (i1 parent x.part) (i2 parent y.part),
      within_in n x.procedures y.procedures,
    )),
    (λ parent n. omega (
      arith,
      g.1 parent n,
      j.1 parent n,
      ap (of_blocks n) (same_blocks parent),
      of_both n (i1 parent x.part) (i2 parent y.part),
      within_of n x.procedures y.procedures,
    )),
    (λ parent. omega (
      arith,
      g.2 parent,
      j.2 parent,
      ap (λ (bs : List BlockTree). length bs) (same_blocks parent),
      length-append (i1 parent x.part) (i2 parent y.part),
      within_length x.procedures y.procedures,
    )),
    (λ parent. subst AreRoomy (sym (same_blocks parent))
        (roomy_both (i1 parent x.part) (i2 parent y.part) (g.3 parent) (j.3 parent))),
    within_roomy x.procedures y.procedures g.4 j.4,
    h,
  )

-- ---- the parts that there are: with so many levels, and temporaries from t on, below z

abbrev pub HereForm : (levels t z : ℕ) → Form → Type 0
HereForm m t z f =
    ((j : ℕ) → m < j → HasRoomForm j f) × ((used size : ℕ) → used ≤ t → z ≤ size → KeepsApartForm used size f)

abbrev pub HereStatement : (levels t z : ℕ) → TypedStatement → Type 0
HereStatement m t z s =
    ((j : ℕ) → m < j → HasRoom j s) × ((used size : ℕ) → used ≤ t → z ≤ size → KeepsApart used size s)

abbrev pub HereElse : (levels t z : ℕ) → OtherWise → Type 0
HereElse m t z s =
    ((j : ℕ) → m < j → HasRoomElse j s) × ((used size : ℕ) → used ≤ t → z ≤ size → KeepsApartElse used size s)

abbrev pub HereList : (levels t z : ℕ) → TypedStatements → Type 0
HereList m t z ss =
    ((j : ℕ) → m < j → HaveRoom j ss) × ((used size : ℕ) → used ≤ t → z ≤ size → KeepApart used size ss)

abbrev pub GoodForm : (levels t z a b k l : ℕ) → WithProcedures Form → Type 0
GoodForm m t z a b k l y = Good numbers_in_form blocks_of_form (HereForm m t z) a b k l y

abbrev pub GoodStatement : (levels t z a b k l : ℕ) → WithProcedures TypedStatement → Type 0
GoodStatement m t z a b k l y = Good numbers_in blocks_in (HereStatement m t z) a b k l y

abbrev pub GoodElse : (levels t z a b k l : ℕ) → WithProcedures OtherWise → Type 0
GoodElse m t z a b k l y = Good numbers_in_else blocks_of_else (HereElse m t z) a b k l y

abbrev pub GoodList : (levels t z a b k l : ℕ) → WithProcedures TypedStatements → Type 0
GoodList m t z a b k l y = Good numbers_among blocks_among (HereList m t z) a b k l y

-- a statement of this number
pub good_numbered : (m t z a b k l number : ℕ) (y : WithProcedures Form) → number ≡ a → GoodForm m t z (suc a) b k l y
    → GoodStatement m t z a b k l (record { part = typed.Statement number y.part; procedures = y.procedures })
good_numbered m t z a b k l number y is g = (
  (λ parent n. omega (arith, g.0 parent n, below_next n a, ap (same n) is)),
  g.1,
  g.2,
  g.3,
  g.4,
  g.5,
)

-- a BEGIN block
pub good_begin : (m j t a b c k l : ℕ) (head : typed.BlockHead) (y : WithProcedures TypedStatements) → m < 64 → b ≤ c
    → head.number ≡ k → GoodList m 0 head.temporaries a b (suc k) l y
    → GoodForm j t t a c k l (record { part = typed.Begin head y.part; procedures = y.procedures })
good_begin m j t a b c k l head y few le is g = (
  (λ parent n. omega (arith, g.0 head.number n, below_more n b c le)),
  (λ parent n. omega (arith, g.1 head.number n, below_next n k, ap (same n) is)),
  (λ parent. omega (arith, g.2 head.number)),
  (λ parent. ((g.5.0 64 few, g.5.1 0 head.temporaries (omega arith) (omega arith)), g.3 head.number)),
  g.4,
  ((λ i lt. tt), (λ used size u s. tt)),
)

-- a procedure or an ON-unit, and the form that it leaves in its place
pub good_procedure : (m j t a b c k l : ℕ) (left : Form) (f : TypedProcedure) (fs : List TypedProcedure) → numbers_in_form left ≡ []
    → ((parent : ℕ) → blocks_of_form parent left ≡ []) → HereForm j t t left → m < 64 → b ≤ c → f.head.number ≡ k
    → GoodList m 0 f.head.temporaries a b (suc k) l (record { part = f.statements; procedures = fs })
    → GoodForm j t t a c k l (record { part = left; procedures = fs ++ f ∷ [] })
good_procedure m j t a b c k l left f fs none no_blocks here few le is g = (
  (λ parent n. omega (
    arith,
    g.0 f.head.number n,
    ap (times n) none,
    ap (in_blocks n) (no_blocks parent),
    below_more n b c le,
    within_in n fs (f ∷ []),
    in_both n (blocks_of_procedure f) [],
  )),
  (λ parent n. omega (
    arith,
    g.1 f.head.number n,
    ap (of_blocks n) (no_blocks parent),
    below_next n k,
    ap (same n) is,
    within_of n fs (f ∷ []),
    of_both n (blocks_of_procedure f) [],
  )),
  (λ parent. omega (
    arith,
    g.2 f.head.number,
    ap (λ (bs : List BlockTree). length bs) (no_blocks parent),
    within_length fs (f ∷ []),
    length-append (blocks_of_procedure f) [],
  )),
  (λ parent. subst AreRoomy (sym (no_blocks parent)) tt),
  within_roomy fs (f ∷ []) g.4
      (roomy_both (blocks_of_procedure f) []
      ((g.5.0 64 few, g.5.1 0 f.head.temporaries (omega arith) (omega arith)), g.3 f.head.number) tt),
  here,
)
