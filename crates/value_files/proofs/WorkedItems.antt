-- Items with their values, by computation.
use Rattle.std.proofs.Common.{◌≡◌, ◌-◌, ◌^◌, [], Ok, Err, refl}
use Rattle.std.specs.Prelude.{codes}
use Rattle.value_files.specs.Numbers.{value_of}
use Rattle.value_files.specs.declared.fault.ItemFault.TheVariants.{Bad, Range}

zero_item : value_of (codes "0") ≡ Ok 0
zero_item = refl

zeros_first : value_of (codes "00000000000000000000007") ≡ Ok 7
zeros_first = refl

negative_item : value_of (codes "-1") ≡ Ok (2 ^ 64 - 1)
negative_item = refl

negative_zero : value_of (codes "-00") ≡ Ok 0
negative_zero = refl

largest : value_of (codes "9223372036854775807") ≡ Ok (2 ^ 63 - 1)
largest = refl

above_largest : value_of (codes "9223372036854775808") ≡ Err Range
above_largest = refl

least : value_of (codes "-9223372036854775808") ≡ Ok (2 ^ 63)
least = refl

below_least : value_of (codes "-9223372036854775809") ≡ Err Range
below_least = refl

nothing : value_of [] ≡ Err Bad
nothing = refl

sign_alone : value_of (codes "-") ≡ Err Bad
sign_alone = refl

two_signs : value_of (codes "--1") ≡ Err Bad
two_signs = refl

plus_sign : value_of (codes "+1") ≡ Err Bad
plus_sign = refl

large_but_bad : value_of (codes "99999999999999999999x") ≡ Err Bad
large_but_bad = refl

blank_within : value_of (codes "1 2") ≡ Err Bad
blank_within = refl
