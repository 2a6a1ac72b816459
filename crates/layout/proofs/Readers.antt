-- What holds of a reader: shown once for each item, and then once over a list of them.
use mathlib.Core.Path.{◌≡◌, refl, ap, ◌∙◌}
use mathlib.Core.List.{List, [], ◌∷◌, ◌++◌}
use Prim.Native.Nat.{ℕ, ◌+◌, ◌-◌, ◌≤◌}
use native.Mathlib.Omega.{arith}
use lib.Dec.{leb}
use lib.ListN.{length, take, drop, length-drop}
use borrow.Author.Tests.{le-leb, leb-true}
use Rattle.refusals.specs.Refusals.{ok}
use Rattle.refusals.specs.Answers.{and_then}
use Rattle.refusals.proofs.Answers.{Known, known-given, known-then, Kept, Kept-then, given-then}
use Rattle.packer.specs.Numbers.{be_at, total}
use Rattle.packer.specs.Unpacking.{consume_at}
use Rattle.packer.proofs.Places.{bytes-got}
use Rattle.packer.proofs.Kept.{read_kept, more-there, own-there, bytes-given, bytes-kept}
use Rattle.packer.proofs.Numbers.{number-prefix, number-own}
use Rattle.names.proofs.Places.{given-ends}
use Rattle.names.proofs.Prefix.{nul-prefix, nul-enough, drop-joined, drop-take, nul-own}
use Rattle.tables.specs.Tables.{Field, widths, most}
use Rattle.tables.proofs.Widths.{widths-most}
use Rattle.layout.specs.Layout.{Item, numbers, name, masked, mask_widths, Layout, Reader, extent_of, extent, longest_of, longest}

-- a reader of at most `width` bytes
pub record Lawful (width : ℕ) (r : Reader) : Type 0 where
  -- more bytes leave an answer as it is
  pub same : (xs ys : List ℕ) (at : ℕ) → Kept (r xs at) (r (xs ++ ys) at)
  -- so many bytes are enough for one
  pub enough : (xs : List ℕ) (at : ℕ) → at + width ≤ length xs → Known (r xs at)
  -- it goes on, and no further than so many bytes
  pub onward : (xs : List ℕ) (at next : ℕ) → r xs at ≡ ok next → at ≤ next
  pub near : (xs : List ℕ) (at next : ℕ) → r xs at ≡ ok next → next ≤ at + width
  -- it looks at no byte after the place that it answers
  pub own : (xs : List ℕ) (at next end : ℕ) → next ≤ end → r xs at ≡ ok next → r (take end xs) at ≡ ok next

-- no bytes
reads_nothing : Lawful 0 (λ s at. ok at)
reads_nothing =
    record {
      same = λ xs ys at known. refl;
      enough = λ xs at there. known-given at;
      onward = λ xs at next e. let z : at ≡ next = cc in omega arith;
      near = λ xs at next e. let z : at ≡ next = cc in omega arith;
      own = λ xs at next end before e. e;
    }

-- one reader after another
reads_then : {w v : ℕ} {r q : Reader} → Lawful w r → Lawful v q → Lawful (w + v) (λ s at. and_then (r s at) (q s))
reads_then {w} {v} {r} {q} p o =
    record {
      same = λ xs ys at. Kept-then _ _ _ _ (p.same xs ys at) (λ next e. o.same xs ys next);
      enough = λ xs at there.
          known-then (r xs at) (q xs) (p.enough xs at (omega arith))
          (λ next e. let h = p.near xs at next e in o.enough xs next (omega arith));
      onward = λ xs at next e.
          let two = given-then (r xs at) (q xs) next e in
          let h = p.onward xs at _ two.first in
          let g = o.onward xs _ next two.second in
          omega arith;
      near = λ xs at next e.
          let two = given-then (r xs at) (q xs) next e in
          let h = p.near xs at _ two.first in
          let g = o.near xs _ next two.second in
          omega arith;
      own = λ xs at next end before e.
          let two = given-then (r xs at) (q xs) next e in
          let g = o.onward xs _ next two.second in
          rw (p.own xs at _ end (omega arith) two.first) (o.own xs _ next end before two.second);
    }

-- so many bytes
reads_bytes : (w : ℕ) → Lawful w (consume_at w)
reads_bytes w =
    record {
      same = bytes-kept w;
      enough = λ xs at there. rw (bytes-got w xs at there) (known-given (at + w));
      onward = λ xs at next e. let read = bytes-given w xs at next e in omega arith;
      near = λ xs at next e. let read = bytes-given w xs at next e in omega arith;
      own = λ xs at next end before e.
          let read = bytes-given w xs at next e in
          bytes-got w (take end xs) at (own-there (at + w) end xs (omega arith) read.0) ∙ ap ok read.1;
    }

-- a name
reads-name : (room : ℕ) → Lawful room (extent_of (name room))
unfolding extent_of
reads-name room =
    record {
      same = λ xs ys at known. rw (drop-joined at xs ys) (nul-prefix room (drop at xs) (drop (at - length xs) ys) at known);
      enough = λ xs at there. nul-enough room (drop at xs) at (simp length-drop (omega arith));
      onward = λ xs at next e. let ends = given-ends room xs at next e in omega arith;
      near = λ xs at next e. let ends = given-ends room xs at next e in omega arith;
      own = λ xs at next end before e. rw (drop-take at end xs) (nul-own room (drop at xs) at next (end - at) (omega arith) e);
    }

-- a mask and the fields that it has
module _ (table : List Field) where
  abbrev span : List ℕ → ℕ → ℕ
  span s at = total (mask_widths (be_at s at 4) table)

  span-mask : (s : List ℕ) (at : ℕ) → span s at ≡ 4 + total (widths (be_at s at 4) table)
  unfolding total
  span-mask s at = refl

  masked-kept : (xs ys : List ℕ) (at : ℕ) → Kept (consume_at (span xs at) xs at) (consume_at (span (xs ++ ys) at) (xs ++ ys) at)
  unfolding consume_at
  masked-kept xs ys at =
      read_kept (leb (at + span xs at) (length xs)) (leb (at + span (xs ++ ys) at) (length (xs ++ ys))) (at + span xs at) (at + span (xs ++ ys) at)
      (λ t.
      let there = leb-true (at + span xs at) (length xs) t in
      let mask : be_at (xs ++ ys) at 4 ≡ be_at xs at 4 = number-prefix xs ys at 4 (omega (arith, span-mask xs at)) in
      rw mask (le-leb (at + span xs at) (length (xs ++ ys)) (more-there (at + span xs at) xs ys there), refl))

  reads-masked : Lawful (4 + most table) (extent_of (masked table))
  unfolding extent_of
  reads-masked =
      record {
        same = masked-kept;
        enough = λ xs at there.
            let fields = widths-most table (be_at xs at 4) in
            (reads_bytes (span xs at)).enough xs at (omega (arith, span-mask xs at));
        onward = λ xs at next e. (reads_bytes (span xs at)).onward xs at next e;
        near = λ xs at next e.
            let fields = widths-most table (be_at xs at 4) in
            omega (arith, span-mask xs at, (reads_bytes (span xs at)).near xs at next e);
        own = λ xs at next end before e.
            let read = bytes-given (span xs at) xs at next e in
            let mask : be_at (take end xs) at 4 ≡ be_at xs at 4 = number-own 4 xs at end (omega (arith, span-mask xs at)) in
            rw mask ((reads_bytes (span xs at)).own xs at next end before e);
      }

pub reads-item : (i : Item) → Lawful (longest_of i) (extent_of i)
unfolding extent_of longest_of
reads-item (numbers ws) = reads_bytes (total ws)
reads-item (name room) = reads-name room
reads-item (masked table) = reads-masked table

pub reads : (l : Layout) → Lawful (longest l) (extent l)
unfolding extent longest
reads [] = reads_nothing
reads (i ∷ l) = reads_then (reads-item i) (reads l)
