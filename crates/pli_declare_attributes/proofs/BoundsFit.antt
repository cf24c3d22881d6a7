-- Bounds that are good fit 16 bits.
use Rattle.std.proofs.Common.{◌≡◌, true, ◌&&◌, ℤ, pos, negsuc, int_le, FitsSigned, w16, arith}
use Rattle.std.proofs.lemmas.Bool.Decides.{nat_tests}
use Rattle.std.proofs.lemmas.Int.{fits_signed_from_abs}

pub bounds_fit : (low high : ℤ) → (int_le (negsuc 32766) low && int_le low high && int_le high (pos 32767)) ≡ true → FitsSigned w16 low × FitsSigned w16 high
bounds_fit (pos a) (pos b) h = (fits_signed_from_abs w16 (pos a) (grind (arith, nat_tests, h)), fits_signed_from_abs w16 (pos b) (grind (arith, nat_tests, h)))
bounds_fit (pos a) (negsuc b) h = cc
bounds_fit (negsuc a) (pos b) h = (fits_signed_from_abs w16 (negsuc a) (grind (arith, nat_tests, h)), fits_signed_from_abs w16 (pos b) (grind (arith, nat_tests, h)))
bounds_fit (negsuc a) (negsuc b) h = (fits_signed_from_abs w16 (negsuc a) (grind (arith, nat_tests, h)), fits_signed_from_abs w16 (negsuc b) (grind (arith, nat_tests, h)))
