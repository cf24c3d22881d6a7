-- Fields (own): how a value stands in bytes. A field says three things of a value: the bytes that spell it,
-- whether it has a spelling at all, and how it is read from the front of bytes.
use Rattle.std.specs.Prelude.{◌≡◌, ◌<◌, ℕ, zero, suc, ◌^◌, nat_le, nat_lt, Bool, true, ◌&&◌, ℤ}
use Rattle.pli_base.specs.Results.{◌>>=◌}
use Rattle.std.specs.Prelude.{unsigned_abs}
use Rattle.std.specs.Prelude.{List, [], ◌∷◌, ◌++◌, length, drop, get_or, Result, Ok, Err}
use Rattle.std.specs.Prelude.{if◌then◌else◌}
use Rattle.std.specs.Int.{Width, cast_unsigned, cast_signed, is_in_range}
use Rattle.std.specs.List.{flat_map, list_all}
use Rattle.byteorder.specs.Endian.{big_bytes, big_number}
use Rattle.pli_code.specs.declared.fault.DeckFault.{DeckFault}
use Rattle.pli_code.specs.declared.fault.DeckFault.TheVariants.{Truncated, OutOfRange}

-- what is read from the front: a value and the bytes after it, or the first fault
abbrev pub Reader : Type 0 → Type 0
Reader X = List ℕ → Result (X × List ℕ) DeckFault

-- what a function returned, seen by view where that is no fault, is what is read
abbrev pub Answers : {X Y : Type 0} → (X → Y) → Result X DeckFault → Result Y DeckFault → Type 0
Answers view (Ok x) read = read ≡ Ok (view x)
Answers view (Err f) read = read ≡ Err f

-- how values stand in bytes: those that spell a value, whether it has a spelling, and how one is read
pub record Field (X : Type 0) : Type 0 where
  pub bytes_of : X → List ℕ
  pub fits : X → Bool
  pub read : Reader X

-- each is a byte
abbrev pub AreBytes : List ℕ → Type 0
AreBytes bytes = (i : ℕ) → get_or bytes i 0 < 256

-- what is read from the front of bytes is spelled by what was there, and what is spelled is read again,
-- whatever stands after it
pub record BothWays {X : Type 0} (f : Field X) : Type 0 where
  pub spelled : (bytes : List ℕ) (x : X) (rest : List ℕ) → AreBytes bytes → f.read bytes ≡ Ok (x, rest)
      → (f.fits x ≡ true) × (bytes ≡ f.bytes_of x ++ rest)
  pub again : (x : X) (rest : List ℕ) → f.fits x ≡ true → f.read (f.bytes_of x ++ rest) ≡ Ok (x, rest)

-- no bytes
abbrev pub nothing : Field (Unit {0})
nothing = record { bytes_of = λ _. []; fits = λ _. true; read = λ bytes. Ok (tt, bytes) }

-- the first byte
unfoldable pub byte_at : Reader ℕ
byte_at [] = Err Truncated
byte_at (b ∷ bytes) = Ok (b, bytes)

-- one byte
abbrev pub byte : Field ℕ
byte = record { bytes_of = λ n. n ∷ []; fits = λ n. nat_lt n 256; read = byte_at }

-- a number in the first so many bytes, the highest first
unfoldable pub number_at : (count : ℕ) → Reader ℕ
number_at count bytes =
    if nat_lt (length bytes) count then Err Truncated
    else Ok (big_number count bytes, drop count bytes)

-- a number of so many bytes, the highest first
abbrev pub number : (count : ℕ) → Field ℕ
number count = record {
  bytes_of = λ n. big_bytes count n;
  fits = λ n. nat_lt n (256 ^ count);
  read = number_at count;
}

-- what was read, if it is good
abbrev pub held : {X : Type 0} → Bool → X → Result X DeckFault
held good x = if good then Ok x else Err OutOfRange

-- a field whose values pass a test
abbrev pub checked : {X : Type 0} → (good : X → Bool) → Field X → Field X
checked good f = record {
  bytes_of = f.bytes_of;
  fits = λ x. f.fits x && good x;
  read = λ bytes. f.read bytes >>= λ x. held (good x.0) x;
}

-- bytes begin with one that may stand there, if there is one
abbrev pub may_begin : (opens : ℕ → Bool) → List ℕ → Bool
may_begin opens [] = true
may_begin opens (b ∷ bytes) = opens b

-- what is read, where the first byte may stand there
abbrev pub opened_by : {X : Type 0} → (opens : ℕ → Bool) → Reader X → Reader X
opened_by opens read bytes = if may_begin opens bytes then read bytes else Err OutOfRange

-- a field of which the first byte is looked at before the rest: another one is out of range, whatever follows
abbrev pub opened : {X : Type 0} → (opens : ℕ → Bool) → Field X → Field X
opened opens f = record { bytes_of = f.bytes_of; fits = f.fits; read = opened_by opens f.read }

-- a number is no further from 0 than this
abbrev pub is_near : (bound : ℕ) → ℤ → Bool
is_near bound z = nat_le (unsigned_abs z) bound

-- a signed number of so many bytes, in two's complement of their width, no further from 0 than this
abbrev pub signed : (count : ℕ) → Width → (bound : ℕ) → Field ℤ
signed count width bound = record {
  bytes_of = λ z. big_bytes count (cast_unsigned width z);
  fits = is_near bound;
  read = λ bytes. number_at count bytes >>= λ n.
      held (is_near bound (cast_signed width n.0)) (cast_signed width n.0, n.1);
}

-- one field after another; which one the second is may depend on what the first holds
abbrev pub followed : {X Y : Type 0} → Field X → (X → Field Y) → Field (X × Y)
followed f g = record {
  bytes_of = λ p. f.bytes_of p.0 ++ (g p.0).bytes_of p.1;
  fits = λ p. f.fits p.0 && (g p.0).fits p.1;
  read = λ bytes. f.read bytes >>= λ x. (g x.0).read x.1 >>= λ y. Ok ((x.0, y.0), y.1);
}

-- one field after another
infixr 40 ◌⊗◌
abbrev pub ◌⊗◌ : {X Y : Type 0} → Field X → Field Y → Field (X × Y)
f ⊗ g = followed f (λ _. g)

-- a field of other values, each of which stands for one of this field's
abbrev pub shaped : {X Y : Type 0} → (to : X → Y) → (from : Y → X) → Field X → Field Y
shaped to from f = record {
  bytes_of = λ y. f.bytes_of (from y);
  fits = λ y. f.fits (from y);
  read = λ bytes. f.read bytes >>= λ x. Ok (to x.0, x.1);
}

-- so many values, one after another
unfoldable pub many : {X : Type 0} → Reader X → (count : ℕ) → Reader (List X)
many read zero bytes = Ok ([], bytes)
many read (suc n) bytes = read bytes >>= λ x. many read n x.1 >>= λ xs. Ok (x.0 ∷ xs.0, xs.1)

-- a list: how many there are, and each of them
abbrev pub list_of : {X : Type 0} → (counts : Field ℕ) → Field X → Field (List X)
list_of counts f = record {
  bytes_of = λ xs. counts.bytes_of (length xs) ++ flat_map f.bytes_of xs;
  fits = λ xs. counts.fits (length xs) && list_all f.fits xs;
  read = λ bytes. counts.read bytes >>= λ n. many f.read n.0 n.1;
}

-- one of several forms: a byte, its tag, says which, and what the form has stands after the tag
pub record Form : Type 0 where
  pub tag : ℕ
  pub bytes : List ℕ
  pub fits : Bool

-- the form of this tag, with a value of this field
abbrev pub form : {X : Type 0} → (tag : ℕ) → Field X → X → Form
form tag f x = record { tag = tag; bytes = f.bytes_of x; fits = f.fits x }

-- what is made of a field's value
abbrev pub made : {X Y : Type 0} → (X → Y) → Field X → Reader Y
made to f bytes = f.read bytes >>= λ x. Ok (to x.0, x.1)

-- no form has this tag
abbrev pub unknown : {X : Type 0} → Reader X
unknown bytes = Err OutOfRange

-- each value has its form, and the readers of the forms stand in the order of their tags, from 0
abbrev pub tagged : {X : Type 0} → (form_of : X → Form) → List (Reader X) → Field X
tagged form_of readers = record {
  bytes_of = λ x. (form_of x).tag ∷ (form_of x).bytes;
  fits = λ x. (form_of x).fits;
  read = λ bytes. byte_at bytes >>= λ t. (get_or readers t.0 unknown) t.1;
}

-- a number of one byte
abbrev pub u1 : Field ℕ
u1 = byte

-- a number of two bytes
abbrev pub u2 : Field ℕ
u2 = number 2

-- a number of four bytes
abbrev pub u4 : Field ℕ
u4 = number 4

-- a count of one byte
abbrev pub count_of_one : Field ℕ
count_of_one = number 1

-- a number from one to another
abbrev pub from_to : (low high : ℕ) → Field ℕ → Field ℕ
from_to low high f = checked (is_in_range low high) f

-- a list with a count of two bytes
abbrev pub list : {X : Type 0} → Field X → Field (List X)
list f = list_of u2 f
