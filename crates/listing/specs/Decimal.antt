-- A number in decimal digits, as bytes.
use Rattle.std.specs.Prelude.{ℕ, zero, suc, ◌+◌, ◌-◌, ◌*◌, ◌/◌, ◌%◌, ◌≡◌, refl, List, [], ◌∷◌, ◌++◌, ltb}
use Rattle.ebpf.specs.Choice.{◌if◌else◌}

-- the byte of the last digit
abbrev pub last_digit : ℕ → ℕ
last_digit n = 48 + n % 10

-- the digits of n, the highest first and with no zero in front of another digit; where it has more than k, the last k of them
unfoldable pub digits_in : ℕ → ℕ → List ℕ
digits_in zero n = []
digits_in (suc k) n = (last_digit n ∷ []) if ltb n 10 else (digits_in k (n / 10) ++ (last_digit n ∷ []))

-- THE DIGITS of a number of 64 bits, which are at most 20
unfoldable pub decimal : ℕ → List ℕ
decimal n = digits_in 20 n

-- the number that digits stand for, behind those that stand for v
unfoldable pub read : ℕ → List ℕ → ℕ
read v [] = v
read v (d ∷ ds) = read (v * 10 + (d - 48)) ds

examples : decimal 0 ∷ decimal 9 ∷ decimal 10 ∷ decimal 4294967295 ∷ decimal 18446744073709551615 ∷ []
    ≡ (48 ∷ [])
    ∷ (57 ∷ [])
    ∷ (49 ∷ 48 ∷ [])
    ∷ (52 ∷ 50 ∷ 57 ∷ 52 ∷ 57 ∷ 54 ∷ 55 ∷ 50 ∷ 57 ∷ 53 ∷ [])
    ∷ (49 ∷ 56 ∷ 52 ∷ 52 ∷ 54 ∷ 55 ∷ 52 ∷ 52 ∷ 48 ∷ 55 ∷ 51 ∷ 55 ∷ 48 ∷ 57 ∷ 53 ∷ 53 ∷ 49 ∷ 54 ∷ 49 ∷ 53 ∷ [])
    ∷ []
unfolding decimal digits_in ◌if◌else◌
examples = refl
