-- The low bytes of numbers, and bytes one by one.
use Rattle.std.proofs.Common.{◌≡◌, ℕ, ◌/◌, ◌%◌, List, [], ◌∷◌, refl, ap, ◌∙◌, arith}
use Rattle.std.specs.List.{flat_map}
use Rattle.byteorder.specs.Endian.{big_bytes}

pub lowest : (n : ℕ) → n % 256 ∷ [] ≡ big_bytes 1 n
lowest n = refl

pub low_two : (n : ℕ) → big_bytes 2 (n % 65536) ≡ big_bytes 2 n
low_two n =
    let high : n % 65536 / 256 % 256 ≡ n / 256 % 256 = omega arith in
    let low : n % 65536 % 256 ≡ n % 256 = omega arith in
    ap (λ h. h ∷ (n % 65536 % 256) ∷ []) high ∙ ap (λ l. (n / 256 % 256) ∷ l ∷ []) low

pub low_four : (n : ℕ) → big_bytes 4 (n % 4294967296) ≡ big_bytes 4 n
low_four n =
    let m = n % 4294967296 in
    let first : m / 16777216 % 256 ≡ n / 16777216 % 256 = omega arith in
    let second : m / 65536 % 256 ≡ n / 65536 % 256 = omega arith in
    let third : m / 256 % 256 ≡ n / 256 % 256 = omega arith in
    let fourth : m % 256 ≡ n % 256 = omega arith in
    ap (λ b. b ∷ (m / 65536 % 256) ∷ (m / 256 % 256) ∷ (m % 256) ∷ []) first
    ∙ ap (λ b. (n / 16777216 % 256) ∷ b ∷ (m / 256 % 256) ∷ (m % 256) ∷ []) second
    ∙ ap (λ b. (n / 16777216 % 256) ∷ (n / 65536 % 256) ∷ b ∷ (m % 256) ∷ []) third
    ∙ ap (λ b. (n / 16777216 % 256) ∷ (n / 65536 % 256) ∷ (n / 256 % 256) ∷ b ∷ []) fourth

pub byte_by_byte : (bytes : List ℕ) → flat_map (λ n. n ∷ []) bytes ≡ bytes
byte_by_byte [] = refl
byte_by_byte (b ∷ bytes) = ap (λ bs. b ∷ bs) (byte_by_byte bytes)
