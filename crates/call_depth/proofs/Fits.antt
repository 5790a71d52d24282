-- What the tests of an answer say of its numbers.
-- Assumes nothing.
use Prim.Native.Nat.{ℕ, ◌+◌, ◌≤◌, ◌<◌}
use mathlib.Core.Path.{◌≡◌, refl, sym, ◌∙◌}
use mathlib.Core.Bool.{Bool, true, false, ◌&&◌, not}
use mathlib.Core.List.{List}
use native.Mathlib.Omega.{arith}
use lib.ListN.{length, take, drop, length-take}
use lib.Seq.{length-take-le}
use lib.Dec.{ltb, leb}
use borrow.Author.Tests.{leb-true, ltb-true, ltb-false}
use Rattle.ebpf.specs.Choice.{and_left, and_right}
use Rattle.call_depth.specs.Called.{WorkLent}
use Rattle.call_depth.specs.Asked.{fits_in}

pub record AnswerFits (rows len used start n : ℕ) : Type 0 where
  pub among : used ≤ rows
  pub few : used < 0x4000_0000
  pub short : n ≤ 0x100_0000
  pub inside : start + n ≤ len

was_false : (b : Bool) → not b ≡ true → b ≡ false
was_false true e = sym e
was_false false e = refl

pub fits : (rows len used start n : ℕ) → fits_in rows len used start n ≡ true → AnswerFits rows len used start n
unfolding fits_in
fits rows len used start n e =
    let a = and_left (leb used rows && ltb used 0x4000_0000) (leb n 0x100_0000 && not (ltb len (start + n))) e in
    let b = and_right (leb used rows && ltb used 0x4000_0000) (leb n 0x100_0000 && not (ltb len (start + n))) e in
    record {
      among = leb-true used rows (and_left (leb used rows) (ltb used 0x4000_0000) a);
      few = ltb-true used 0x4000_0000 (and_right (leb used rows) (ltb used 0x4000_0000) a);
      short = leb-true n 0x100_0000 (and_left (leb n 0x100_0000) (not (ltb len (start + n))) b);
      inside = ltb-false len (start + n) (was_false (ltb len (start + n)) (and_right (leb n 0x100_0000) (not (ltb len (start + n))) b));
    }

-- the used rows of a column
pub used_long : (n : ℕ) (xs : List ℕ) → n ≤ length xs → n ≡ length (take n xs)
used_long n xs l = sym (length-take-le n xs l)

-- the parts that are lent
pub lent_parts : (rows m start n used : ℕ) (image indices w : List ℕ) → m ≡ n → AnswerFits rows (length image) used start n → rows ≤ length indices → rows ≤ length w
    → WorkLent (take m (drop start image)) (take used indices) (take used w)
lent_parts rows m start n used image indices w e f a b =
    let i : length (take used indices) ≡ used = length-take-le used indices (omega (arith, f.among)) in
    let t : length (take m (drop start image)) ≤ m = omega (arith, length-take m (drop start image)) in
    record {
      long = length-take-le used w (omega (arith, f.among)) ∙ sym i;
      slots = omega (arith, t, e, f.short);
      rows = omega (arith, i, f.few);
    }
