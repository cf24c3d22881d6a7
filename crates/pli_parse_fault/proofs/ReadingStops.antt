-- Where reading stops: at a token before which all can be completed, whatever stands after it. What is read
-- has the tokens after it (`rest`), their place (`next`), and can be given other tokens after it (`put`).
use Rattle.std.specs.Prelude.{◌≡◌, ℕ, ◌+◌, ◌-◌, ◌<◌, ◌⊎◌, Result, Ok, Err, [], ◌∷◌, ◌++◌, length}
use Rattle.std.proofs.Common.{refl, ap, ◌∙◌, sym, subst, arith, inl, inr, ⊎_elim, append_assoc, append-nil, length-append}
use Rattle.pli_base.specs.Words.{Tokens}
use Rattle.pli_parse_fault.specs.FirstFaults.{CanBeCompleted, IsFirstFault}
use Rattle.pli_base.specs.Results.{◌>>=◌}
use Rattle.pli_base.specs.Reading.{misfit}
use Rattle.pli_base.specs.declared.code.Code.{Code}
use Rattle.pli_base.specs.declared.code.Code.TheVariants.{EndMissing}
use Rattle.pli_base.specs.declared.token.Fault.{Fault}
use Rattle.pli_base.specs.declared.token.TokenText.{TokenText}

-- what was read, as far as this needs it
pub record Reads (X : Type 0) : Type 0 where
  pub next : X → ℕ
  pub rest : X → Tokens
  pub put : X → Tokens → X

-- the first tokens are the same
abbrev pub SameFirst : Tokens → Tokens → Type 0
SameFirst (t ∷ ts) (u ∷ us) = t ≡ u
SameFirst ts us = ⊥

-- reading these tokens gives r, with each bound that is more than their number
abbrev pub Gives : {X : Type 0} → (read : ℕ → Tokens → Result X Fault) → Tokens → Result X Fault → Type 0
Gives read ts r = (b : ℕ) → length ts < b → read b ts ≡ r

-- a fault after the front stands at the next token, or at the last where there is none
abbrev pub StopsAfter : ℕ → Tokens → Tokens → Fault → Type 0
StopsAfter p front [] f = (f.code ≡ EndMissing) × (f.at ≡ p + length front - 1)
StopsAfter p front (t ∷ rest) f = f.at ≡ p + length front

-- the front can be completed before tokens that may be last; where it is empty, by what may be first
abbrev pub Completes : {X : Type 0} → Reads X → (read : ℕ → Tokens → Result X Fault)
    → (First Last : Tokens → Type 0) → Tokens → Type 0
Completes {X = X} R read First Last front =
    (more : Tokens)
    × ((us : Tokens) → Last us → (x : X) × Gives read (front ++ (more ++ us)) (Ok (R.put x us)))
    × (front ≡ [] → (us : Tokens) → Last us → First (more ++ us))

-- reading looks at the next token alone: what was read is read again before tokens that begin like those left,
-- and before those that may be last; a fault is met again wherever its token stands, and the tokens before it
-- can be completed
abbrev pub Stops : {X : Type 0} → Reads X → (read : ℕ → Tokens → Result X Fault)
    → (First Last : Tokens → Type 0) → ℕ → Tokens → Result X Fault → Type 0
Stops R read First Last p ts (Ok x) =
    (front : Tokens) × (ts ≡ front ++ R.rest x) × (R.next x ≡ p + length front)
    × ((us : Tokens) → SameFirst (R.rest x) us ⊎ Last us → Gives read (front ++ us) (Ok (R.put x us)))
    × (front ≡ [] → (us : Tokens) → Last us → First us)
Stops R read First Last p ts (Err f) =
    (front : Tokens) × (rest : Tokens) × (ts ≡ front ++ rest) × StopsAfter p front rest f
    × ((us : Tokens) → SameFirst rest us → Gives read (front ++ us) (Err f))
    × Completes R read First Last front

-- tokens that may be last in the whole, made last in the first part; after them the second part ends
abbrev pub EndsAfter : {X Y : Type 0} → Reads X → Reads Y → (two : ℕ → X → Result Y Fault)
    → (Middle Last : Tokens → Type 0) → Type 0
EndsAfter {X = X} {Y = Y} R S two Middle Last =
    (extra : Tokens) × ((us : Tokens) → Last us → Middle (extra ++ us))
    × ((x : X) (us : Tokens) → Last us
    → (y : Y) × Gives (λ b vs. two b (R.put x vs)) (extra ++ us) (Ok (S.put y us)))

-- both parts, with any bound
abbrev pub Composes : {X Y : Type 0} → (one : ℕ → Tokens → Result X Fault) → (two : ℕ → X → Result Y Fault)
    → (both : ℕ → Tokens → Result Y Fault) → Type 0
Composes one two both =
    (b : ℕ) (ts : Tokens) → length ts < b → (c : ℕ) × (length ts < c) × (both b ts ≡ (one c ts >>= two c))

-- the place of a fault, after two fronts
pub stops_further : (p q : ℕ) (one two rest : Tokens) (f : Fault) → q ≡ p + length one
    → StopsAfter q two rest f → StopsAfter p (one ++ two) rest f
stops_further p q one two [] f there at =
    let whole : q + length two ≡ p + length (one ++ two) = omega (arith, there, length-append one two) in
    (at.0, at.1 ∙ ap (λ n. n - 1) whole)
stops_further p q one two (t ∷ rest) f there at = omega (arith, at, there, length-append one two)

empty_first : (one two : Tokens) → one ++ two ≡ [] → one ≡ []
empty_first [] two h = refl
empty_first (t ∷ one) two h = cc

empty_second : (one two : Tokens) → one ++ two ≡ [] → two ≡ []
empty_second [] two h = h
empty_second (t ∷ one) two h = cc

-- the tokens of the second part begin like those that the first has left; or the second has none
goes_on : (Middle : Tokens → Type 0) (left front rest us : Tokens) → left ≡ front ++ rest
    → (front ≡ [] → SameFirst rest us ⊎ Middle us) → SameFirst left (front ++ us) ⊎ Middle (front ++ us)
goes_on Middle left [] rest us shape none = subst (λ l. SameFirst l us ⊎ Middle us) (sym shape) (none refl)
goes_on Middle left (t ∷ front) rest us shape none =
    inl (subst (λ l. SameFirst l (t ∷ (front ++ us))) (sym shape) refl)

pub no_tokens : {t : TokenText} {ts : Tokens} → ◌≡◌ {A = Tokens} (t ∷ ts) [] → ⊥
no_tokens h = cc

-- what a first token decides is so for all tokens that begin with it
pub meets_again : {A : Type 0} (read : Tokens → A) (t : TokenText) (ts us : Tokens) (r : A)
    → ((vs : Tokens) → read (t ∷ vs) ≡ r) → SameFirst (t ∷ ts) us → read us ≡ r
meets_again read t ts [] r all same = absurd same
meets_again read t ts (u ∷ us) r all same = subst (λ v. read (v ∷ us) ≡ r) same (all us)

front_first : (t : TokenText) (ts front rest us : Tokens) → ts ≡ (t ∷ front) ++ rest
    → SameFirst ts ((t ∷ front) ++ us)
front_first t ts front rest us shape = subst (λ vs. SameFirst vs ((t ∷ front) ++ us)) (sym shape) refl

module _ {X : Type 0} (R : Reads X) where
  -- after a token that is passed over
  pub after_token : (t : TokenText) (inner both : ℕ → Tokens → Result X Fault)
      (Inner First Last : Tokens → Type 0) (p : ℕ) (ts : Tokens) (r : Result X Fault)
      → ((b : ℕ) (us : Tokens) → length (t ∷ us) < b
      → (c : ℕ) × (length us < c) × (both b (t ∷ us) ≡ inner c us))
      → Stops R inner Inner Last (p + 1) ts r → Stops R both First Last p (t ∷ ts) r
  after_token t inner both Inner First Last p ts (Ok x) agrees (front, shape, place, again, first) = (
    t ∷ front,
    ap (λ us. t ∷ us) shape,
    omega (arith, place),
    (λ us goes b small. let c = agrees b (front ++ us) small in c.2 ∙ again us goes c.0 c.1),
    (λ none us last. absurd (no_tokens none)),
  )
  after_token t inner both Inner First Last p ts (Err f) agrees (front, rest, shape, at, again, (more, complete, first)) = (
    t ∷ front,
    rest,
    ap (λ us. t ∷ us) shape,
    stops_further p (p + 1) (t ∷ []) front rest f (omega arith) at,
    (λ us same b small. let c = agrees b (front ++ us) small in c.2 ∙ again us same c.0 c.1),
    (
      more,
      (λ us last.
          let x = complete us last in
          (x.0, λ b small. let c = agrees b (front ++ (more ++ us)) small in c.2 ∙ x.1 c.0 c.1)),
      (λ none us last. absurd (no_tokens none)),
    ),
  )

  -- the same reading with another bound
  pub rebound : (read other : ℕ → Tokens → Result X Fault) (First Last : Tokens → Type 0) (p : ℕ) (ts : Tokens)
      (r : Result X Fault)
      → ((b : ℕ) (us : Tokens) → length us < b → (c : ℕ) × (length us < c) × (other b us ≡ read c us))
      → Stops R read First Last p ts r → Stops R other First Last p ts r
  rebound read other First Last p ts (Ok x) agrees (front, shape, place, again, first) = (
    front,
    shape,
    place,
    (λ us goes b small. let c = agrees b (front ++ us) small in c.2 ∙ again us goes c.0 c.1),
    first,
  )
  rebound read other First Last p ts (Err f) agrees (front, rest, shape, at, again, (more, complete, first)) = (
    front,
    rest,
    shape,
    at,
    (λ us same b small. let c = agrees b (front ++ us) small in c.2 ∙ again us same c.0 c.1),
    (
      more,
      (λ us last.
          let x = complete us last in
          (x.0, λ b small. let c = agrees b (front ++ (more ++ us)) small in c.2 ∙ x.1 c.0 c.1)),
      first,
    ),
  )

  -- a fault at the first token, or at the end
  pub misfit_stops : (read : ℕ → Tokens → Result X Fault) (First Last : Tokens → Type 0) (code : Code) (p : ℕ)
      (ts : Tokens) → ((us : Tokens) → SameFirst ts us → Gives read us (Err (misfit code p us)))
      → Completes R read First Last [] → Stops R read First Last p ts (Err (misfit code p ts))
  unfolding misfit
  misfit_stops read First Last code p [] again completes =
      let none : p ≡ p + 0 = omega arith in
      ([], [], refl, (refl, ap (λ n. n - 1) none), (λ us same. absurd same), completes)
  misfit_stops read First Last code p (t ∷ ts) again completes =
      ([], t ∷ ts, refl, omega arith, stopped, completes)
    where
      stopped : (us : Tokens) → SameFirst (t ∷ ts) us → Gives read us (Err (record { code = code; at = p }))
      stopped [] same = absurd same
      stopped (u ∷ us) same = again (u ∷ us) same

  -- another fault at the first token
  pub fault_stops : (read : ℕ → Tokens → Result X Fault) (First Last : Tokens → Type 0) (f : Fault)
      (t : TokenText) (ts : Tokens)
      → ((us : Tokens) → Gives read (t ∷ us) (Err f))
      → Completes R read First Last [] → Stops R read First Last f.at (t ∷ ts) (Err f)
  fault_stops read First Last f t ts again completes = ([], t ∷ ts, refl, omega arith, stopped, completes)
    where
      stopped : (us : Tokens) → SameFirst (t ∷ ts) us → Gives read us (Err f)
      stopped [] same = absurd same
      stopped (u ∷ us) same = subst (λ v. Gives read (v ∷ us) (Err f)) same (again us)

  -- a token that was read
  pub token_stops : (read : ℕ → Tokens → Result X Fault) (First Last : Tokens → Type 0) (p : ℕ) (t : TokenText)
      (x : X) → R.next x ≡ p + 1 → ((us : Tokens) → Gives read (t ∷ us) (Ok (R.put x us)))
      → Stops R read First Last p (t ∷ R.rest x) (Ok x)
  token_stops read First Last p t x place again =
      (t ∷ [], refl, place, (λ us goes. again us), (λ none us last. absurd (no_tokens none)))

  -- nothing was read
  pub nothing_stops : (read : ℕ → Tokens → Result X Fault) (First Last : Tokens → Type 0)
      → ((us : Tokens) → Last us → First us) → (p : ℕ) (x : X) → R.next x ≡ p → ((us : Tokens) → SameFirst (R.rest x) us ⊎ Last us → Gives read us (Ok (R.put x us)))
      → Stops R read First Last p (R.rest x) (Ok x)
  nothing_stops read First Last first p x place again =
      ([], refl, omega (arith, place), again, (λ none us last. first us last))

  -- where the first token decides between readings
  pub first_decides : (read other : ℕ → Tokens → Result X Fault) (First Last : Tokens → Type 0) (p : ℕ)
      (ts : Tokens) (r : Result X Fault)
      → ((us : Tokens) → SameFirst ts us → (b : ℕ) → other b us ≡ read b us)
      → ((x : X) → r ≡ Ok x → p < R.next x) → Completes R other First Last []
      → Stops R read First Last p ts r → Stops R other First Last p ts r
  first_decides read other First Last p ts (Ok x) agree passes completes ([], shape, place, again, first) =
      let more = passes x refl in absurd (omega (arith, more, place))
  first_decides read other First Last p ts (Ok x) agree passes completes (t ∷ front, shape, place, again, first) = (
    t ∷ front,
    shape,
    place,
    (λ us goes b small. agree ((t ∷ front) ++ us) (front_first t ts front (R.rest x) us shape) b ∙ again us goes b small),
    first,
  )
  first_decides read other First Last p ts (Err f) agree passes completes ([], rest, shape, at, again, old) = (
    [],
    rest,
    shape,
    at,
    (λ us same b small. agree us (subst (λ vs. SameFirst vs us) (sym shape) same) b ∙ again us same b small),
    completes,
  )
  first_decides read other First Last p ts (Err f) agree passes completes (t ∷ front, rest, shape, at, again, (more, complete, first)) = (
    t ∷ front,
    rest,
    shape,
    at,
    (λ us same b small. agree ((t ∷ front) ++ us) (front_first t ts front rest us shape) b ∙ again us same b small),
    (
      more,
      (λ us last.
          let x = complete us last in
          (x.0, λ b small. agree ((t ∷ front) ++ (more ++ us)) (front_first t ts front rest (more ++ us) shape) b ∙ x.1 b small)),
      (λ none us last. absurd (no_tokens none)),
    ),
  )

module _ {X Y : Type 0} (R : Reads X) (S : Reads Y) where
  -- where something is made of what was read
  pub stops_made : (read : ℕ → Tokens → Result X Fault) (make : X → Y) (First Last : Tokens → Type 0) (p : ℕ)
      (ts : Tokens) (r : Result X Fault) → ((x : X) → S.next (make x) ≡ R.next x)
      → ((x : X) → S.rest (make x) ≡ R.rest x) → ((x : X) (us : Tokens) → make (R.put x us) ≡ S.put (make x) us)
      → Stops R read First Last p ts r
      → Stops S (λ b us. read b us >>= λ x. Ok (make x)) First Last p ts (r >>= λ x. Ok (make x))
  stops_made read make First Last p ts (Ok x) next rest put (front, shape, place, again, first) = (
    front,
    shape ∙ ap (λ us. front ++ us) (sym (rest x)),
    next x ∙ place,
    (λ us goes b small.
        ap (λ r. r >>= λ x. Ok (make x))
        (again us (subst (λ vs. SameFirst vs us ⊎ Last us) (rest x) goes) b small)
        ∙ ap (λ y. Ok y) (put x us)),
    first,
  )
  stops_made read make First Last p ts (Err f) next rest put (front, left, shape, at, again, (more, complete, first)) = (
    front,
    left,
    shape,
    at,
    (λ us same b small. ap (λ r. r >>= λ x. Ok (make x)) (again us same b small)),
    (
      more,
      (λ us last.
          let x = complete us last in
          (make x.0, λ b small. ap (λ r. r >>= λ x. Ok (make x)) (x.1 b small) ∙ ap (λ y. Ok y) (put x.0 us))),
      first,
    ),
  )

  module _ (one : ℕ → Tokens → Result X Fault) (two : ℕ → X → Result Y Fault)
      (both : ℕ → Tokens → Result Y Fault) (First Middle Last : Tokens → Type 0) (p : ℕ) (ts : Tokens)
      (composes : Composes one two both) where
    -- after what the first part has read
    after_read : (x : X) → Stops R one First Middle p ts (Ok x) → (r : Result Y Fault)
        → Stops S (λ b us. two b (R.put x us)) Middle Last (R.next x) (R.rest x) r
        → Stops S both First Last p ts r
    after_read x (front, shape, place, again, first) (Ok y) (later, shape₂, place₂, again₂, first₂) = (
      front ++ later,
      shape ∙ ap (λ us. front ++ us) shape₂ ∙ sym (append_assoc front later (S.rest y)),
      omega (arith, place, place₂, length-append front later),
      (λ us goes b small.
          let c = composes b ((front ++ later) ++ us) small in
          let split : (front ++ later) ++ us ≡ front ++ (later ++ us) = append_assoc front later us in
          let size : length ((front ++ later) ++ us) ≡ length front + length (later ++ us) =
          omega (arith, ap length split, length-append front (later ++ us)) in
          let go = goes_on Middle (R.rest x) later (S.rest y) us shape₂
          (λ none. ⊎_elim (λ same. inl same) (λ last. inr (first₂ none us last)) goes) in
          c.2
          ∙ ap (λ vs. one c.0 vs >>= two c.0) split
          ∙ ap (λ q. q >>= two c.0) (again (later ++ us) go c.0 (omega (arith, c.1, size, length-append front (later ++ us))))
          ∙ again₂ us goes c.0 (omega (arith, c.1, size))),
      (λ none us last. first (empty_first front later none) us (first₂ (empty_second front later none) us last)),
    )
    after_read x (front, shape, place, again, first) (Err f) (later, left, shape₂, at, again₂, (more, complete, first₂)) = (
      front ++ later,
      left,
      shape ∙ ap (λ us. front ++ us) shape₂ ∙ sym (append_assoc front later left),
      stops_further p (R.next x) front later left f place at,
      (λ us same b small.
          let c = composes b ((front ++ later) ++ us) small in
          let split : (front ++ later) ++ us ≡ front ++ (later ++ us) = append_assoc front later us in
          let size : length ((front ++ later) ++ us) ≡ length front + length (later ++ us) =
          omega (arith, ap length split, length-append front (later ++ us)) in
          let go = goes_on Middle (R.rest x) later left us shape₂ (λ none. inl same) in
          c.2
          ∙ ap (λ vs. one c.0 vs >>= two c.0) split
          ∙ ap (λ q. q >>= two c.0) (again (later ++ us) go c.0 (omega (arith, c.1, size, length-append front (later ++ us))))
          ∙ again₂ us same c.0 (omega (arith, c.1, size))),
      (
        more,
        (λ us last.
            let y = complete us last in (
              y.0,
              λ b small.
                  let vs : Tokens = more ++ us in
                  let c = composes b ((front ++ later) ++ vs) small in
                  let split : (front ++ later) ++ vs ≡ front ++ (later ++ vs) = append_assoc front later vs in
                  let size : length ((front ++ later) ++ vs) ≡ length front + length (later ++ vs) =
                  omega (arith, ap length split, length-append front (later ++ vs)) in
                  let go = goes_on Middle (R.rest x) later left vs shape₂ (λ none. inr (first₂ none us last)) in
                  c.2
                  ∙ ap (λ ws. one c.0 ws >>= two c.0) split
                  ∙ ap (λ q. q >>= two c.0) (again (later ++ vs) go c.0 (omega (arith, c.1, size, length-append front (later ++ vs))))
                  ∙ y.1 c.0 (omega (arith, c.1, size)),
            )),
        (λ none us last. first (empty_first front later none) (more ++ us) (first₂ (empty_second front later none) us last)),
      ),
    )

    -- one part after another
    pub stops_then : EndsAfter R S two Middle Last → (r : Result X Fault) (f : X → Result Y Fault)
        → Stops R one First Middle p ts r
        → ((x : X) → r ≡ Ok x
        → Stops S (λ b us. two b (R.put x us)) Middle Last (R.next x) (R.rest x) (f x))
        → Stops S both First Last p ts (r >>= f)
    stops_then ends (Ok x) f stops more = after_read x stops (f x) (more x refl)
    stops_then (extra, last_is, ending) (Err e) f (front, rest, shape, at, again, (more, complete, first)) later = (
      front,
      rest,
      shape,
      at,
      (λ us same b small.
          let c = composes b (front ++ us) small in
          c.2 ∙ ap (λ q. q >>= two c.0) (again us same c.0 c.1)),
      (
        more ++ extra,
        (λ us last.
            let x = complete (extra ++ us) (last_is us last) in
            let y = ending x.0 us last in (
              y.0,
              λ b small.
                  let c = composes b (front ++ ((more ++ extra) ++ us)) small in
                  let split : front ++ ((more ++ extra) ++ us) ≡ front ++ (more ++ (extra ++ us)) =
                  ap (λ vs. front ++ vs) (append_assoc more extra us) in
                  let size : length (front ++ (more ++ (extra ++ us))) ≡ length front + (length more + length (extra ++ us)) =
                  omega (arith, length-append front (more ++ (extra ++ us)), length-append more (extra ++ us)) in
                  c.2
                  ∙ ap (λ vs. one c.0 vs >>= two c.0) split
                  ∙ ap (λ q. q >>= two c.0) (x.1 c.0 (omega (arith, c.1, ap length split)))
                  ∙ y.1 c.0 (omega (arith, c.1, ap length split, size)),
            )),
        (λ none us last. subst First (sym (append_assoc more extra us)) (first none (extra ++ us) (last_is us last))),
      ),
    )

-- a front that leaves nothing is all
pub whole_spells : {A : Type 0} (Spells : ℕ → Tokens → A → Type 0) (p : ℕ) (ts front rest : Tokens) (value : A)
    → ts ≡ front ++ rest → rest ≡ [] → Spells p front value → Spells p ts value
whole_spells Spells p ts front rest value shape none spelled =
    let all : front ≡ ts = sym (shape ∙ ap (λ us. front ++ us) none ∙ append-nil front) in
    subst (λ us. Spells p us value) all spelled

ok_fault : {X : Type 0} {x : X} {f : Fault} → ◌≡◌ {A = Result X Fault} (Ok x) (Err f) → ⊥
ok_fault h = cc

-- where what is spelled is read, and what is read to the end is spelled, a reading that stops tells the first
-- fault
module _ {X A : Type 0} (R : Reads X) (Spells : ℕ → Tokens → A → Type 0) (read : Tokens → Result X Fault)
    (First Last : Tokens → Type 0) (last : Last []) (empty : (x : X) → R.rest (R.put x []) ≡ []) (p : ℕ)
    (ts : Tokens) (f : Fault) where
  completed : ((us : Tokens) (x : X) → read us ≡ Ok x → R.rest x ≡ [] → (value : A) × Spells p us value)
      → (front : Tokens) → Completes R (λ b us. read us) First Last front → CanBeCompleted Spells p front
  completed spelled front (more, complete, first) =
      let x = complete [] last in
      let whole : front ++ (more ++ []) ≡ front ++ more = ap (λ us. front ++ us) (append-nil more) in
      let s = spelled (front ++ more) (R.put x.0 [])
      (ap read (sym whole) ∙ x.1 (length (front ++ (more ++ [])) + 1) (omega arith)) (empty x.0) in
      (more, s.0, s.1)

  pub is_first : ((us : Tokens) (x : X) → read us ≡ Ok x → R.rest x ≡ [] → (value : A) × Spells p us value)
      → ((us : Tokens) (value : A) → Spells p us value → (x : X) × (read us ≡ Ok x))
      → Stops R (λ b us. read us) First Last p ts (Err f) → IsFirstFault Spells p ts f
  is_first spelled again (front, [], shape, at, met, completes) =
      let all : front ≡ ts = sym (shape ∙ append-nil front) in
      let size : p + length front ≡ p + length ts = ap (λ (us : Tokens). p + length us) all in
      inr (
        at.0,
        at.1 ∙ ap (λ n. n - 1) size,
        subst (CanBeCompleted Spells p) all (completed spelled front completes),
      )
  is_first spelled again (front, t ∷ rest, shape, at, met, completes) =
      inl (
        front,
        t,
        rest,
        shape,
        at,
        completed spelled front completes,
        (λ c.
            let us : Tokens = c.0 in
            let split : (front ++ t ∷ []) ++ us ≡ front ++ t ∷ us = append_assoc front (t ∷ []) us in
            let x = again ((front ++ t ∷ []) ++ us) c.1 c.2 in
            ok_fault
            (sym x.1 ∙ ap read split ∙ met (t ∷ us) refl (length (front ++ t ∷ us) + 1) (omega arith))),
      )
