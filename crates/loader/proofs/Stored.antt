-- A number's four bytes pasted at once are what `put` writes one after another. Assumes nothing.
use Prim.Native.Nat.{ℕ, ◌+◌, ◌/◌, ◌%◌, ◌≤◌, ◌<◌}
use native.Mathlib.Omega.{arith}
use mathlib.Core.Path.{◌≡◌, refl, sym, ◌∙◌}
use mathlib.Core.List.{List}
use lib.ListN.{length, get_or, set}
use lib.Seq.{paste}
use borrow.Rule.Slice.PartMut.{put_mid}
use Rattle.std.proofs.lemmas.Slice.{put_mid-paste}
use Rattle.std.specs.Int.{w32, to_le_bytes}
use Rattle.std.proofs.lemmas.List.Edits.{paste_none, paste_more}
use Rattle.loader.specs.Bytes.{put}

turn : (s l t : List ℕ) (at i p x : ℕ) → t ≡ paste s at l i → p ≡ at + i → x ≡ get_or l i 0 → at + i < length s → i < length l → set t p x ≡ paste s at l (i + 1)
turn s l t at i p x e q w h k = rw (e, q, w) (paste_more s at l i 0 h k)

pasted : (s : List ℕ) (at v : ℕ) → at + 4 ≤ length s → paste s at (to_le_bytes w32 v) 4 ≡ put 4 s at v
unfolding put
pasted s at v h =
    let l : List ℕ = to_le_bytes w32 v in
    let t₁ = turn s l s at 0 at _ (paste_none s at l) (omega arith) refl (omega arith) (omega arith) in
    let t₂ = turn s l _ at 1 (at + 1) _ t₁ (omega arith) refl (omega arith) (omega arith) in
    let t₃ = turn s l _ at 2 (at + 1 + 1) (v / 256 / 256 % 256) t₂ (omega arith) (omega arith) (omega arith) (omega arith) in
    sym (turn s l _ at 3 (at + 1 + 1 + 1) (v / 256 / 256 / 256 % 256) t₃ (omega arith) (omega arith) (omega arith) (omega arith))

pub stored : (s m : List ℕ) (at n v : ℕ) → m ≡ to_le_bytes w32 v → at + 4 ≤ length s → n ≡ 4 → put_mid at n s m ≡ put 4 s at v
stored s m at n v e h w = put_mid-paste at n s m _ 4 e (sym w) (omega (arith, w)) ∙ pasted s at v h
