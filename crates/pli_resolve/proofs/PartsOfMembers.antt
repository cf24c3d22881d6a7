-- What an item is described as is the part of its owner's description at its place.
use Rattle.std.proofs.Common.{◌≡◌, ℕ, zero, suc, ◌+◌, ◌<◌, ◌≤◌, Bool, true, false, if◌then◌else◌, Option, Some, None, option_map, option_and_then, List, [], ◌∷◌, ◌++◌, length, get_or, refl, sym, ap, ◌∙◌, arith}
use Rattle.pli_base.specs.declared.code.Code.{Code}
use Rattle.pli_map.specs.Description.{Description, Structure, Members, NoMembers, MemberThen}
use Rattle.pli_map.specs.declared.description.Bounds.{Bounds}
use Rattle.pli_declare.specs.Extents.{all_bounds}
use Rattle.pli_declare.specs.Faults.{with_bounds}
use Rattle.pli_declare.specs.Tables.{Entry}
use Rattle.pli_declare.specs.answers.Owners.{AreAfterOwners}
use Rattle.pli_declare.specs.Places.{item_of, members_of}
use Rattle.pli_declare.specs.Descriptions.{is_of_shape, scalar_at, member_then, members_made, inside, described}
use Rattle.pli_declare.proofs.MembersFound.{members_stand, enough}
use Rattle.pli_resolve.specs.laws.LocatorLaws.{plain_member, plain_part}
use Rattle.pli_resolve.specs.laws.MemberLaws.{member_at, member_of, part_on}

-- the member at a place of a list
abbrev IsThere : (find : ℕ → Option Description) → (ks : List ℕ) → (place : ℕ) → Option Description → Type 0
IsThere find ks place found = (d : Description) × (find (get_or ks place 0) ≡ Some d) × (found ≡ Some d)

none_left : {A : Type 0} (x : A) → None ≡ Some x → ⊥
none_left x e = cc

made : (find : ℕ → Option Description) (ks : List ℕ) (ms : Members) (place : ℕ) → members_made find ks ≡ Some ms → place < length ks → IsThere find ks place (member_at ms place)
made find [] ms place e lt = absurd (omega (arith, lt))
made find (k ∷ ks) ms place e lt = by (find k) refl (members_made find ks) refl place lt (λ others p f low. made find ks others p f low)
  where
    by : (d : Option Description) → find k ≡ d → (others : Option Members) → members_made find ks ≡ others → (p : ℕ) → p < length (k ∷ ks)
        → ((o : Members) (p : ℕ) → members_made find ks ≡ Some o → p < length ks → IsThere find ks p (member_at o p)) → IsThere find (k ∷ ks) p (member_at ms p)
    by None f others g p lt rest =
        absurd (none_left ms (sym (ap (λ x. member_then x (members_made find ks)) f) ∙ e))
    by (Some d) f None g p lt rest =
        absurd (none_left ms (sym (ap (λ x. member_then x (members_made find ks)) f ∙ ap (member_then (Some d)) g) ∙ e))
    by (Some d) f (Some others) g zero lt rest =
        let all : Some (MemberThen d others) ≡ Some ms = sym (ap (λ x. member_then x (members_made find ks)) f ∙ ap (member_then (Some d)) g) ∙ e in
        let same : MemberThen d others ≡ ms = cc in
        (d, f, ap (λ x. member_at x 0) (sym same))
    by (Some d) f (Some others) g (suc p) lt rest =
        let all : Some (MemberThen d others) ≡ Some ms = sym (ap (λ x. member_then x (members_made find ks)) f ∙ ap (member_then (Some d)) g) ∙ e in
        let same : MemberThen d others ≡ ms = cc in
        let there = rest others p g (omega (arith, lt)) in
        (there.0, there.1, ap (λ x. member_at x (suc p)) (sym same) ∙ there.2)

bounded : (bounds : List Bounds) (ms : Members) (place : ℕ) → member_of (with_bounds bounds (Structure ms)) place ≡ member_at ms place
bounded [] ms place = refl
bounded (b ∷ bs) ms place = refl

within : (find : ℕ → Option Description) (scalar : Description) (ks : List ℕ) (bounds : List Bounds) (d : Description) (place : ℕ)
    → option_map (with_bounds bounds) (inside find scalar ks) ≡ Some d → place < length ks → IsThere find ks place (member_of d place)
within find scalar [] bounds d place e lt = absurd (omega (arith, lt))
within find scalar (k ∷ ks) bounds d place e lt = by (members_made find (k ∷ ks)) refl
  where
    by : (ms : Option Members) → members_made find (k ∷ ks) ≡ ms → IsThere find (k ∷ ks) place (member_of d place)
    by None f = absurd (none_left d (sym (ap (λ x. option_map (with_bounds bounds) (option_map Structure x)) f) ∙ e))
    by (Some ms) f =
        let all : Some (with_bounds bounds (Structure ms)) ≡ Some d = sym (ap (λ x. option_map (with_bounds bounds) (option_map Structure x)) f) ∙ e in
        let same : with_bounds bounds (Structure ms) ≡ d = cc in
        let there = made find (k ∷ ks) ms place f lt in
        (there.0, there.1, ap (λ x. member_of x place) (sym same) ∙ bounded bounds ms place ∙ there.2)

-- a member of an item that is described
pub of_owner : (size : ℕ) (entries : List Entry) → AreAfterOwners entries → (codes : List (Option Code)) → size ≡ length entries → (o place : ℕ) (d : Description)
    → described size entries codes o ≡ Some d → place < length (members_of entries o)
    → (e : Description) × (described size entries codes (get_or (members_of entries o) place 0) ≡ Some e) × (member_of d place ≡ Some e)
of_owner zero entries owners codes is o place d e lt = absurd (none_left d e)
of_owner (suc size) entries owners codes is o place d e lt = by (is_of_shape (get_or codes o None)) refl
  where
    by : (b : Bool) → is_of_shape (get_or codes o None) ≡ b
        → (x : Description) × (described (suc size) entries codes (get_or (members_of entries o) place 0) ≡ Some x) × (member_of d place ≡ Some x)
    by true f =
        absurd (none_left d (sym (ap (λ (b : Bool). if b then None else option_map (with_bounds (all_bounds (item_of entries o).dimensions)) (inside (described size entries codes) (scalar_at entries o) (members_of entries o))) f) ∙ e))
    by false f =
        let whole = sym (ap (λ (b : Bool). if b then None else option_map (with_bounds (all_bounds (item_of entries o).dimensions)) (inside (described size entries codes) (scalar_at entries o) (members_of entries o))) f) ∙ e in
        let there = within (described size entries codes) (scalar_at entries o) (members_of entries o) (all_bounds (item_of entries o).dimensions) d place whole lt in
        let k = get_or (members_of entries o) place 0 in
        let stands = members_stand entries owners o place lt in
        (there.0, enough entries owners codes (suc size) size k stands.1 (omega (arith, is)) (omega (arith, is, stands.0)) ∙ there.1, there.2)

-- a path with one member more, whichever members may be taken
module _ (part : Description → List ℕ → Option Description) (member : Description → ℕ → Option Description)
    (whole : (d : Description) → part d [] ≡ Some d)
    (first : (d : Description) (k : ℕ) (ks : List ℕ)
    → part d (k ∷ ks) ≡ option_and_then (λ y. part y ks) (member d k)) where
  further : (d : Description) (path : List ℕ) (place : ℕ) (e x : Description) → part d path ≡ Some e
      → member e place ≡ Some x → part d (path ++ place ∷ []) ≡ Some x
  further d [] place e x p m =
      let is : Some d ≡ Some e = sym (whole d) ∙ p in
      let same : d ≡ e = cc in
      first d place []
      ∙ ap (option_and_then (λ y. part y [])) (ap (λ y. member y place) same ∙ m) ∙ whole x
  further d (k ∷ ks) place e x p m = by (member d k) refl (λ y q. further y ks place e x q m)
    where
      by : (found : Option Description) → member d k ≡ found
          → ((y : Description) → part y ks ≡ Some e → part y (ks ++ place ∷ []) ≡ Some x)
          → part d (k ∷ (ks ++ place ∷ [])) ≡ Some x
      by None f rest =
          absurd (none_left e (sym (first d k ks ∙ ap (option_and_then (λ y. part y ks)) f) ∙ p))
      by (Some y) f rest =
          first d k (ks ++ place ∷ []) ∙ ap (option_and_then (λ y. part y (ks ++ place ∷ []))) f
          ∙ rest y (sym (first d k ks ∙ ap (option_and_then (λ y. part y ks)) f) ∙ p)

pub part_further : (d : Description) (path : List ℕ) (place : ℕ) (e x : Description) → part_on d path ≡ Some e
    → member_of e place ≡ Some x → part_on d (path ++ place ∷ []) ≡ Some x
part_further = further part_on member_of (λ d. refl) (λ d k ks. refl)

pub plain_further : (d : Description) (path : List ℕ) (place : ℕ) (e x : Description)
    → plain_part d path ≡ Some e → plain_member e place ≡ Some x → plain_part d (path ++ place ∷ []) ≡ Some x
plain_further = further plain_part plain_member (λ d. refl) (λ d k ks. refl)

-- an item without dimensions that has members is a structure
bare : (find : ℕ → Option Description) (scalar : Description) (ks : List ℕ) (bounds : List Bounds) (d : Description) → bounds ≡ []
    → option_map (with_bounds bounds) (inside find scalar ks) ≡ Some d → 0 < length ks → (ms : Members) × (d ≡ Structure ms)
bare find scalar [] bounds d b e lt = absurd (omega (arith, lt))
bare find scalar (k ∷ ks) bounds d b e lt = by (members_made find (k ∷ ks)) refl
  where
    by : (ms : Option Members) → members_made find (k ∷ ks) ≡ ms → (ms : Members) × (d ≡ Structure ms)
    by None f = absurd (none_left d (sym (ap (λ x. option_map (with_bounds bounds) (option_map Structure x)) f) ∙ e))
    by (Some ms) f =
        let all : Some (with_bounds bounds (Structure ms)) ≡ Some d = sym (ap (λ x. option_map (with_bounds bounds) (option_map Structure x)) f) ∙ e in
        let same : with_bounds bounds (Structure ms) ≡ d = cc in
        (ms, sym same ∙ ap (λ x. with_bounds x (Structure ms)) b)

pub structure_alone : (size : ℕ) (entries : List Entry) (codes : List (Option Code)) (o : ℕ) (d : Description) → described size entries codes o ≡ Some d
    → (item_of entries o).dimensions ≡ [] → 0 < length (members_of entries o) → (ms : Members) × (d ≡ Structure ms)
structure_alone zero entries codes o d e alone some = absurd (none_left d e)
structure_alone (suc size) entries codes o d e alone some = by (is_of_shape (get_or codes o None)) refl
  where
    by : (b : Bool) → is_of_shape (get_or codes o None) ≡ b → (ms : Members) × (d ≡ Structure ms)
    by true f =
        absurd (none_left d (sym (ap (λ (b : Bool). if b then None else option_map (with_bounds (all_bounds (item_of entries o).dimensions)) (inside (described size entries codes) (scalar_at entries o) (members_of entries o))) f) ∙ e))
    by false f =
        bare (described size entries codes) (scalar_at entries o) (members_of entries o) (all_bounds (item_of entries o).dimensions) d (ap all_bounds alone)
        (sym (ap (λ (b : Bool). if b then None else option_map (with_bounds (all_bounds (item_of entries o).dimensions)) (inside (described size entries codes) (scalar_at entries o) (members_of entries o))) f) ∙ e)
        some

-- one without members too is its type
pub scalar_alone : (size : ℕ) (entries : List Entry) (codes : List (Option Code)) (n : ℕ) → 0 < size → is_of_shape (get_or codes n None) ≡ false
    → (item_of entries n).dimensions ≡ [] → members_of entries n ≡ [] → described size entries codes n ≡ Some (scalar_at entries n)
scalar_alone zero entries codes n lt shape alone none = absurd (omega (arith, lt))
scalar_alone (suc size) entries codes n lt shape alone none =
    ap (λ (b : Bool). if b then None else option_map (with_bounds (all_bounds (item_of entries n).dimensions)) (inside (described size entries codes) (scalar_at entries n) (members_of entries n))) shape
    ∙ ap (λ ks. option_map (with_bounds (all_bounds (item_of entries n).dimensions)) (inside (described size entries codes) (scalar_at entries n) ks)) none
    ∙ ap (λ ds. Some (with_bounds (all_bounds ds) (scalar_at entries n))) alone

-- without faults each item is described
all_made : (find : ℕ → Option Description) (ks : List ℕ) → ((i : ℕ) → i < length ks → (d : Description) × (find (get_or ks i 0) ≡ Some d)) → (ms : Members) × (members_made find ks ≡ Some ms)
all_made find [] each = (NoMembers, refl)
all_made find (k ∷ ks) each =
    let first = each 0 (omega arith) in
    let rest = all_made find ks (λ i lt. each (suc i) (omega (arith, lt))) in
    (MemberThen first.0 rest.0, ap (λ x. member_then x (members_made find ks)) first.1 ∙ ap (member_then (Some first.0)) rest.1)

all_inside : (find : ℕ → Option Description) (scalar : Description) (ks : List ℕ) → ((i : ℕ) → i < length ks → (d : Description) × (find (get_or ks i 0) ≡ Some d))
    → (d : Description) × (inside find scalar ks ≡ Some d)
all_inside find scalar [] each = (scalar, refl)
all_inside find scalar (k ∷ ks) each = let ms = all_made find (k ∷ ks) each in (Structure ms.0, ap (option_map Structure) ms.1)

-- where a set of items has no faults and has the members of its items, each of them is described
pub each_described : (P : ℕ → Type 0) (bound : ℕ) (entries : List Entry) → AreAfterOwners entries → (codes : List (Option Code))
    → ((n : ℕ) → n < length entries → P n → is_of_shape (get_or codes n None) ≡ false) → ((n i : ℕ) → i < length (members_of entries n) → P (get_or (members_of entries n) i 0))
    → (n : ℕ) → n < length entries → P n → length entries ≤ bound + n → (d : Description) × (described bound entries codes n ≡ Some d)
each_described P zero entries owners codes good closed n lt p enough = absurd (omega (arith, lt, enough))
each_described P (suc bound) entries owners codes good closed n lt p enough =
    let ds = all_inside (described bound entries codes) (scalar_at entries n) (members_of entries n)
    (λ i low. let stands = members_stand entries owners n i low in
    each_described P bound entries owners codes good closed (get_or (members_of entries n) i 0) stands.1 (closed n i low) (omega (arith, stands.0, enough))) in (
      with_bounds (all_bounds (item_of entries n).dimensions) ds.0,
      ap (λ (b : Bool). if b then None else option_map (with_bounds (all_bounds (item_of entries n).dimensions)) (inside (described bound entries codes) (scalar_at entries n) (members_of entries n))) (good n lt p)
          ∙ ap (option_map (with_bounds (all_bounds (item_of entries n).dimensions))) ds.1,
    )
