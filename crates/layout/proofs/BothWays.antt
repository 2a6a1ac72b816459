-- Reading and writing undo each other: shown for each item, then for one thing after another.
use mathlib.Core.Path.{◌≡◌, refl, ap, ◌∙◌}
use mathlib.Core.List.{List, [], ◌∷◌, ◌++◌}
use Prim.Native.Nat.{ℕ, ◌+◌, ◌-◌, ◌≤◌}
use native.Mathlib.Omega.{arith}
use lib.ListN.{length, take, drop}
use lib.Seq.{length-take-le}
use Rattle.refusals.specs.Refusals.{ok}
use Rattle.refusals.specs.Answers.{place_or}
use Rattle.refusals.proofs.Answers.{given-same, given-then}
use Rattle.packer.specs.Numbers.{be_at, total, numbers_at, digits}
use Rattle.packer.specs.Nearness.{Bytes}
use Rattle.packer.specs.Standing.{Stands}
use Rattle.packer.proofs.Places.{bytes-got}
use Rattle.packer.proofs.Kept.{bytes-given}
use Rattle.packer.proofs.Standing.{nothing, joined, first, second, in-front, part}
use Rattle.packer.proofs.Digits.{numbers-below, numbers-here, numbers-back, below_total}
use Rattle.names.specs.Names.{nul_within, name_at, sent_of}
use Rattle.names.proofs.Places.{given-ends}
use Rattle.names.proofs.Sent.{sent-given, name-fits, name-here, sent-ends, sent_back}
use Rattle.layout.specs.Layout.{Item, numbers, name, masked, mask_widths, Layout, Reader, extent_of, raw_of, extent, RawsOf, raws, longest}
use Rattle.layout.specs.Writing.{written_of, FitsOf, written, Fits, BothWays}
use Rattle.layout.proofs.Readers.{reads}
use Rattle.layout.proofs.Raws.{after-given}

-- ---- one item

-- the four facts of `BothWays`, of anything that is read and written
record Both {R : Type 0} (extent : Reader) (raw : List ℕ → ℕ → R) (written : R → List ℕ) (Fits : R → Type 0) : Type 0 where
  fits : (s : List ℕ) (at end : ℕ) → Bytes s → extent s at ≡ ok end → Fits (raw s at)
  stands : (s : List ℕ) (at end : ℕ) → Bytes s → at ≤ length s → extent s at ≡ ok end → Stands (written (raw s at)) s at end
  ends : (r : R) (s : List ℕ) (at end : ℕ) → Fits r → Stands (written r) s at end → extent s at ≡ ok end
  back : (r : R) (s : List ℕ) (at end : ℕ) → Fits r → Stands (written r) s at end → raw s at ≡ r

-- numbers
both-numbers : (ws : List ℕ) → Both (extent_of (numbers ws)) (numbers_at ws) (digits ws) (FitsOf (numbers ws))
unfolding extent_of
both-numbers ws =
    record {
      fits = λ s at end b e. numbers-below ws s at b;
      stands = λ s at end b inside e. let read = bytes-given (total ws) s at end e in rw (← read.1) (numbers-here ws s at b read.0);
      ends = λ ns s at end f p. let size = below_total ws ns f in bytes-got (total ws) s at (omega arith) ∙ ap ok (omega arith);
      back = λ ns s at end f p. numbers-back ws ns f p;
    }

-- a name
module _ (room : ℕ) (s : List ℕ) (at end : ℕ) where
  -- one that was read is written as it stood
  stands-name
      : nul_within room (drop at s) at ≡ ok end → Stands (take (place_or 0 (sent_of room (name_at room s at).bytes)) (name_at room s at).bytes) s at end
  stands-name e =
      let lies = given-ends room s at end e in
      let stops : at + (end - at) ≡ end = omega arith in
      rw ((name-fits room s at end e).1, name-here room s at end e) (rw stops at (part s at (end - at) (omega arith)))

  -- one that is sent ends where its bytes do
  module _ (held : List ℕ) (next : ℕ) (sent : sent_of room held ≡ ok next) (p : Stands (take (place_or 0 (sent_of room held)) held) s at end) where
    through : Stands (take next held) s at end
    through = rw sent at p

    ends-name : nul_within room (drop at s) at ≡ ok end
    ends-name =
        let size = length-take-le next held (sent-given room held next sent).inside in
        let q = through in
        sent-ends room held next sent s (drop end s) at through.here ∙ ap ok (omega arith)

both-name : (room : ℕ) → Both (extent_of (name room)) (raw_of (name room)) (written_of (name room)) (FitsOf (name room))
unfolding extent_of raw_of written_of
both-name room =
    record {
      fits = λ s at end b e. let held = name-fits room s at end e in (held.0, (end - at, held.1));
      stands = λ s at end b inside e. stands-name room s at end e;
      ends = λ held s at end f p. ends-name room s at end held f.1.0 f.1.1 p;
      back = λ held s at end f p.
          sent_back room held f.1.0 f.1.1 s (drop end s) at (through room s at end held f.1.0 f.1.1 p).here f.0;
    }

-- equal lists have equal heads and tails
heads : {m n : ℕ} {ms ns : List ℕ} → m ∷ ms ≡ n ∷ ns → m ≡ n
heads e = cc

tails : {m n : ℕ} {ms ns : List ℕ} → m ∷ ms ≡ n ∷ ns → ms ≡ ns
tails e = cc

-- a mask and its fields are numbers, of which the first tells the widths
both-item : (i : Item) → Both (extent_of i) (raw_of i) (written_of i) (FitsOf i)
unfolding extent_of raw_of written_of numbers_at
both-item (numbers ws) = both-numbers ws
both-item (name room) = both-name room
both-item (masked table) =
    record {
      fits = λ s at end b e. numbers-below (mask_widths (be_at s at 4) table) s at b;
      stands = λ s at end b inside e. (both-numbers (mask_widths (be_at s at 4) table)).stands s at end b inside e;
      ends = λ raw s at end f p.
          let all = numbers-back (mask_widths raw.0 table) (raw.0 ∷ raw.1) f p in
          rw (heads all) ((both-numbers (mask_widths raw.0 table)).ends (raw.0 ∷ raw.1) s at end f p);
      back = λ raw s at end f p.
          let all = numbers-back (mask_widths raw.0 table) (raw.0 ∷ raw.1) f p in
          rw (heads all) (ap (λ (ns : List ℕ). (raw.0, ns)) (tails all));
    }

-- ---- one after the other

both-then : (i : Item) (l : Layout) → BothWays l → BothWays (i ∷ l)
unfolding extent raws written
both-then i l q =
    let p = both-item i in
    record {
      fits = λ s at end b e.
          let two = given-then (extent_of i s at) (extent l s) end e in
          (p.fits s at two.value b two.first, rw (after-given i s at two.value two.first) (q.fits s two.value end b two.second));
      stands = λ s at end b inside e.
          let two = given-then (extent_of i s at) (extent l s) end e in
          let here = p.stands s at two.value b inside two.first in
          rw (after-given i s at two.value two.first) (joined here (q.stands s two.value end b here.inside two.second));
      ends = λ r s at end f st.
          rw (p.ends r.0 s at _ f.0 (first (written_of i r.0) (written l r.1) st))
          (q.ends r.1 s _ end f.1 (second (written_of i r.0) (written l r.1) st));
      back = λ r s at end f st.
          let here = first (written_of i r.0) (written l r.1) st in
          rw (after-given i s at _ (p.ends r.0 s at _ f.0 here))
          (λ j. (p.back r.0 s at _ f.0 here j, q.back r.1 s _ end f.1 (second (written_of i r.0) (written l r.1) st) j));
    }

pub both_ways : (l : Layout) → BothWays l
unfolding extent raws written
both_ways [] =
    record {
      fits = λ s at end b e. tt;
      stands = λ s at end b inside e. rw (← given-same e) (nothing s at inside);
      ends = λ r s at end f p. ap ok (omega (arith, p.ends));
      back = λ r s at end f p. refl;
    }
both_ways (i ∷ l) = both-then i l (both_ways l)

-- what is written has no more bytes than the longest message
pub written-length-most : (l : Layout) (r : RawsOf l) → Fits l r → length (written l r) ≤ longest l
written-length-most l r f =
    let bytes = written l r in
    let ends = (both_ways l).ends r (bytes ++ []) 0 (length bytes) f (in-front bytes []) in
    omega (arith, (reads l).near (bytes ++ []) 0 (length bytes) ends)
