-- The digits of a number stand for it.
use Rattle.std.proofs.Common.{ℕ, zero, suc, ◌+◌, ◌-◌, ◌*◌, ◌/◌, ◌<◌, ◌^◌, ◌≡◌, refl, Bool, true, false, List, [], ◌∷◌, ◌++◌, pow-suc, arith, ◌∙◌, ltb, ltb-true}
use Rattle.ebpf.specs.Choice.{◌if◌else◌}
use Rattle.listing.specs.Decimal.{last_digit, digits_in, decimal, read}

read_last : (ds : List ℕ) (v d : ℕ) → read v (ds ++ (d ∷ [])) ≡ read v ds * 10 + (d - 48)
unfolding read
read_last [] v d = refl
read_last (x ∷ ds) v d = read_last ds (v * 10 + (x - 48)) d

read_in : (k n : ℕ) → n < 10 ^ k → read 0 (digits_in k n) ≡ n
unfolding digits_in read ◌if◌else◌
read_in zero n h = omega arith
read_in (suc k) n h = go (ltb n 10) refl (read_in k (n / 10) (omega (arith, pow-suc 10 k)))
  where
    go : (b : Bool) → ltb n 10 ≡ b → read 0 (digits_in k (n / 10)) ≡ n / 10 → read 0 ((last_digit n ∷ []) if b else (digits_in k (n / 10) ++ (last_digit n ∷ []))) ≡ n
    go true e r = omega (arith, ltb-true n 10 e)
    go false e r = read_last (digits_in k (n / 10)) 0 (last_digit n) ∙ rw r (omega arith)

-- read back, the digits give the number
pub reads_back : (n : ℕ) → n < 2 ^ 64 → read 0 (decimal n) ≡ n
unfolding decimal
reads_back n h = read_in 20 n (omega arith)
