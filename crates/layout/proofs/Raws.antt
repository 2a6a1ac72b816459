-- The raw values of a layout: counted from a place further on, and in the bytes up to its end alone.
use mathlib.Core.Path.{◌≡◌, refl, sym, ap, ◌∙◌}
use mathlib.Core.List.{List, [], ◌∷◌}
use Prim.Native.Nat.{ℕ, ◌+◌, ◌≤◌}
use native.Mathlib.Omega.{arith}
use native.Mathlib.Nat.{add_assoc}
use lib.ListN.{length, take, drop}
use Rattle.refusals.specs.Refusals.{ok}
use Rattle.refusals.specs.Answers.{place_or}
use Rattle.refusals.proofs.Answers.{given-then}
use Rattle.packer.specs.Numbers.{be_at, total}
use Rattle.packer.proofs.Kept.{bytes-given}
use Rattle.packer.proofs.Numbers.{number-own, number-drop, numbers-own, numbers-drop}
use Rattle.names.proofs.Moved.{name-drop, name-place-drop, name-own}
use Rattle.tables.specs.Tables.{widths}
use Rattle.layout.specs.Layout.{Item, numbers, name, masked, mask_widths, Layout, extent_of, extent, raw_of, after_of, raws}
use Rattle.layout.proofs.Readers.{reads-item, reads}

-- ---- in the part from n on

module _ (s : List ℕ) (n : ℕ) (inside : n ≤ length s) where
  raw-drop : (i : Item) (at : ℕ) → raw_of i (drop n s) at ≡ raw_of i s (n + at)
  unfolding raw_of
  raw-drop (numbers ws) at = numbers-drop ws s n at
  raw-drop (name room) at = name-drop room s n at
  raw-drop (masked table) at =
      rw (number-drop s n at 4, add_assoc)
      (ap (λ (fields : List ℕ). (be_at s (n + at) 4, fields)) (numbers-drop (widths (be_at s (n + at) 4) table) s n (at + 4)))

  after-drop : (i : Item) (at : ℕ) → n + after_of i (drop n s) at ≡ after_of i s (n + at)
  unfolding after_of
  after-drop (numbers ws) at = sym (add_assoc n at (total ws))
  after-drop (name room) at = name-place-drop room s n at inside
  after-drop (masked table) at = rw (number-drop s n at 4) (sym (add_assoc n at _))

  pub raws-drop : (l : Layout) (at : ℕ) → raws l (drop n s) at ≡ raws l s (n + at)
  unfolding raws
  raws-drop [] at = refl
  raws-drop (i ∷ l) at = λ j. (raw-drop i at j, (raws-drop l (after_of i (drop n s) at) ∙ ap (raws l s) (after-drop i at)) j)

-- ---- where an item that is there ends

pub after-given : (i : Item) (s : List ℕ) (at next : ℕ) → extent_of i s at ≡ ok next → after_of i s at ≡ next
unfolding extent_of after_of
after-given (numbers ws) s at next e = (bytes-given (total ws) s at next e).1
after-given (name room) s at next e = ap (place_or (length s)) e
after-given (masked table) s at next e = (bytes-given (total (mask_widths (be_at s at 4) table)) s at next e).1

-- ---- in the bytes up to its end

raw-own : (i : Item) (s : List ℕ) (at next end : ℕ) → next ≤ end → extent_of i s at ≡ ok next → raw_of i (take end s) at ≡ raw_of i s at
unfolding extent_of raw_of total
raw-own (numbers ws) s at next end before e =
    let read = bytes-given (total ws) s at next e in
    numbers-own ws s at end (omega arith)
raw-own (name room) s at next end before e = name-own room s at next end before e
raw-own (masked table) s at next end before e =
    let read = bytes-given (total (mask_widths (be_at s at 4) table)) s at next e in
    rw (number-own 4 s at end (omega arith))
    (ap (λ (fields : List ℕ). (be_at s at 4, fields)) (numbers-own (widths (be_at s at 4) table) s (at + 4) end (omega arith)))

module _ (s : List ℕ) (end : ℕ) where
  pub raws-own : (l : Layout) (at next : ℕ) → next ≤ end → extent l s at ≡ ok next → raws l (take end s) at ≡ raws l s at
  unfolding extent raws
  raws-own [] at next before e = refl
  raws-own (i ∷ l) at next before e =
      let two = given-then (extent_of i s at) (extent l s) next e in
      let on = (reads l).onward s two.value next two.second in
      let inside : two.value ≤ end = omega arith in
      let here = after-given i s at two.value two.first in
      let same = after-given i (take end s) at two.value ((reads-item i).own s at two.value end inside two.first) in
      rw (here, same) (λ j. (raw-own i s at two.value end inside two.first j, raws-own l two.value next before two.second j))
