-- The answer as a computed function, by fuel. What it means is `Answers` (`answer_is` in proofs/Equation.antt).
use Rattle.std.specs.Prelude.{ℕ, zero, suc, ◌-◌, max, min, ◌≡◌, refl, Bool, false, ◌&&◌, ◌||◌, [], ◌∷◌, ltb, eqb, Ok}
use Rattle.ebpf.specs.Choice.{◌if◌else◌}
use Rattle.call_graph.specs.Profile.{Profile, Depth, recursive, profile}

-- the largest of f at the n numbers from s on
abbrev pub most : (ℕ → ℕ) → ℕ → ℕ → ℕ
most f s zero = 0
most f s (suc n) = max (f s) (most f (suc s) n)

-- one of the n numbers from s on passes the test
abbrev pub some : (ℕ → Bool) → ℕ → ℕ → Bool
some t s zero = false
some t s (suc n) = t s || some t (suc s) n

-- the smallest f at a number below n that passes the test, or 2^32
abbrev pub least_of : (ℕ → Bool) → (ℕ → ℕ) → ℕ → ℕ
least_of t f zero = 0x1_0000_0000
least_of t f (suc n) = min (f n) (least_of t f n) if t n else least_of t f n

-- the longest chain from i of at most k functions
abbrev pub chain_from : Profile → ℕ → ℕ → ℕ
chain_from P zero i = 0
chain_from P (suc k) i = suc (most (λ (s : ℕ). chain_from P k (P.index (P.callee s)) if ltb (P.callee s) P.rows else 0) i (P.end i - i))

-- a function that i calls passes the test
abbrev pub some_callee : Profile → ℕ → (ℕ → Bool) → Bool
some_callee P i t = some (λ (s : ℕ). ltb (P.callee s) P.rows && t (P.index (P.callee s))) i (P.end i - i)

-- j is reached from i by at most k calls
abbrev pub reached_within : Profile → ℕ → ℕ → ℕ → Bool
reached_within P zero i j = eqb i j
reached_within P (suc k) i j = eqb i j || some_callee P i (λ (h : ℕ). reached_within P k h j)

-- row r's function is reached from e and reaches itself
abbrev pub comes_back : Profile → ℕ → ℕ → Bool
comes_back P e r = reached_within P P.rows e (P.index r) && some_callee P (P.index r) (λ (h : ℕ). reached_within P P.rows h (P.index r))

-- where a chain has more functions than there are rows, one of them comes back
unfoldable pub depth_of : Profile → ℕ → Depth
depth_of P e =
    recursive (least_of (comes_back P e) P.index P.rows) if ltb P.rows (chain_from P (suc P.rows) e) else
    Ok (chain_from P (suc P.rows) e)

-- a lone entry; one that calls the second function, twice; one that calls itself; rows in any order
lone : depth_of (profile (0 ∷ []) (9 ∷ 9 ∷ [])) 0 ≡ Ok 1
unfolding depth_of ◌if◌else◌
lone = refl

pair : depth_of (profile (2 ∷ 0 ∷ []) (0 ∷ 0 ∷ 9 ∷ [])) 0 ≡ Ok 2
unfolding depth_of ◌if◌else◌
pair = refl

itself : depth_of (profile (0 ∷ []) (9 ∷ 0 ∷ [])) 0 ≡ recursive 0
unfolding depth_of ◌if◌else◌
itself = refl

-- 0 calls 1, 1 calls 3 and 3 calls 1: the smallest is 1
ring : depth_of (profile (3 ∷ 0 ∷ 1 ∷ []) (2 ∷ 9 ∷ 0 ∷ 2 ∷ [])) 0 ≡ recursive 1
unfolding depth_of ◌if◌else◌
ring = refl
