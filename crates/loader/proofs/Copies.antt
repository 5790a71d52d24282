-- A copy, byte by byte. Assumes nothing.
use Prim.Native.Nat.{ℕ, ◌+◌, ◌<◌}
use native.Mathlib.Omega.{arith}
use native.Mathlib.Numerals.{add-one}
use mathlib.Core.Path.{◌≡◌}
use mathlib.Core.List.{List}
use lib.ListN.{length, get_or, set, drop, length-drop}
use lib.Seq.{paste, paste-zero, paste-suc, get_or-drop}

pub paste_start : (d : List ℕ) (at : ℕ) (f : List ℕ) → d ≡ paste d at f 0
paste_start d at f = paste-zero d at f

pub paste_next : (d₀ d f : List ℕ) (at start i : ℕ) → d ≡ paste d₀ at (drop start f) i → at + i < length d₀ → start + i < length f
    → set d (at + i) (get_or f (start + i) 0) ≡ paste d₀ at (drop start f) (i + 1)
paste_next d₀ d f at start i e hd hf =
    let l : i < length (drop start f) = simp length-drop (omega arith) in
    rw (e, add-one, ← get_or-drop) (paste-suc d₀ at (drop start f) i 0 hd l)
