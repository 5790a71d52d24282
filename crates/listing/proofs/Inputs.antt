-- The lines of the file that an input holds, read up to one byte more than a file may have. Assumes nothing.
use Rattle.std.proofs.Common.{◌≡◌, ℕ, ◌≤◌, ◌<◌, List, [], ◌++◌, None, Some, IfSome, Result, Ok, Err, OnOk, arith, length, take, sym, ap, ◌∙◌, subst, length-append, length-take-le, append-nil}
use Rattle.std.proofs.Math.Nat.{eq-or-lt_of_le}
use Rattle.std.proofs.Math.Seq.{take-append_seam}
use Rattle.std.proofs.lemmas.List.{take_all}
use Rattle.std.specs.Io.KnownBytes.{Appends, Consumes, IsAtEnd}
use Rattle.std.specs.declared.option.Option.{Option}
use mathlib.Core.Logic.{◌⊎◌, inl, inr}
use Rattle.listing.specs.Lines.{lines_of, Listing}
use Rattle.listing.proofs.Listed.{lines_long}

-- what was read has the lines of the whole file
module _ (file rest ys : List ℕ) (all : file ≡ rest ++ ys) where
  longer : length rest ≡ 16385 → lines_of rest ≡ lines_of file
  longer h =
      let long : 16384 < length file = rw (all, length-append) (omega (arith, h)) in
      lines_long rest (omega (arith, h)) ∙ sym (lines_long file long)

  whole : ys ≡ [] → lines_of rest ≡ lines_of file
  whole h = ap lines_of (sym (all ∙ ap (λ l. rest ++ l) h ∙ append-nil rest))

read_lines : (file bytes ys : List ℕ) (n : ℕ) → length bytes ≡ 16385 → n ≤ length bytes → file ≡ take n bytes ++ ys → (n < length bytes → ys ≡ []) → lines_of (take n bytes) ≡ lines_of file
read_lines file bytes ys n size within all end = case (eq-or-lt_of_le within)
  where
    case : (n ≡ length bytes) ⊎ (n < length bytes) → lines_of (take n bytes) ≡ lines_of file
    case (inl h) = longer file (take n bytes) ys all (length-take-le n bytes within ∙ h ∙ size)
    case (inr h) = whole file (take n bytes) ys all (end h)

-- what is written of the lent slice are the lines
written : (file before after : List ℕ) (r : ℕ) → length before ≡ 16384 → Listing file before after r → take r after ≡ lines_of file
written file before after r size a =
    let lines = lines_of file in
    let fit : length lines ≤ 16384 = omega (arith, a.count, a.few) in
    rw (a.bytes, a.count, size, take_all 16384 lines fit) (take-append_seam lines _)

pub given : {E : Type 0} (r : Result (Unit {0}) E) (left left' held held' : Option (List ℕ)) (bytes before after : List ℕ) (n m : ℕ)
    → length bytes ≡ 16385 → n ≤ length bytes → Consumes left left' (take n bytes) → (n < length bytes → IsAtEnd left')
    → length before ≡ 16384 → Listing (take n bytes) before after m
    → OnOk r (Appends held held' (take m after))
    → OnOk r (IfSome left (λ file. Appends held held' (lines_of file)))
given (Err e) left left' held held' bytes before after n m size within read end lent listed wrote = tt
given (Ok u) None left' held held' bytes before after n m size within read end lent listed wrote = tt
given (Ok u) (Some file) None held held' bytes before after n m size within read end lent listed wrote = absurd read
given (Ok u) (Some file) (Some ys) held held' bytes before after n m size within read end lent listed wrote =
    subst (Appends held held') (written (take n bytes) before after m lent listed ∙ read_lines file bytes ys n size within read end) wrote
