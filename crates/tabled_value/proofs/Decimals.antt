-- Numbers of at most 64 bits are printable.
use Rattle.std.proofs.Common.{FitsSigned, List, [], arith, negsuc, pos, refl, suc, true, w64, ℕ, ℤ, ◌<◌, ◌^◌, ◌∷◌, ◌≡◌}
use Rattle.std.proofs.lemmas.Bool.{and_from}
use Rattle.std.proofs.lemmas.Bool.Decides.{nat_tests}
use Rattle.std.proofs.lemmas.Fmt.{decimal_is_IsNumeral}
use Rattle.std.proofs.lemmas.Str.Parse.{digit_from_value}
use Rattle.std.specs.Char.{digit_value}
use Rattle.std.specs.Fmt.{decimal, signed_decimal}
use Rattle.std.specs.Int.{is_in_range}
use Rattle.std.specs.List.{list_all}
use Rattle.std.specs.Str.Parse.{AllDigits}
use Rattle.tabled_base.specs.Printable.{IsPrintableAscii}

digit : (c : ℕ) → digit_value c < 10 → is_in_range 0x20 0x7E c ≡ true
digit c h = let d = digit_from_value c h in grind (arith, nat_tests)

printable-digits : (ds : List ℕ) → AllDigits 10 ds → IsPrintableAscii ds
printable-digits [] d = refl
printable-digits (c ∷ cs) d =
    and_from (is_in_range 0x20 0x7E c) (list_all (is_in_range 0x20 0x7E) cs) (digit c d.0) (printable-digits cs d.1)

pub printable-decimal : (n : ℕ) → n < 2 ^ 64 → IsPrintableAscii (decimal n)
printable-decimal n h = printable-digits (decimal n) (decimal_is_IsNumeral n h).0.1

pub printable-signed : (z : ℤ) → FitsSigned w64 z → IsPrintableAscii (signed_decimal z)
printable-signed (pos n) h = let fits = h.sfits in printable-decimal n (omega arith)
printable-signed (negsuc n) h = let fits = h.sfits in printable-decimal (suc n) (omega arith)
