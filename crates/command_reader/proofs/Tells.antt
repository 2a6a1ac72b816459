-- How many bytes tell a command frame.
use mathlib.Core.Logic.{◌↔◌, inl, inr}
use mathlib.Core.Path.{◌≡◌, refl, sym, ap, ◌∙◌}
use mathlib.Core.List.{List, ◌++◌}
use Prim.Native.Nat.{ℕ, ◌≤◌, ◌<◌}
use native.Mathlib.Omega.{arith}
use lib.ListN.{length, get_or, get_or-append}
use Rattle.refusals.specs.Refusals.{Refusal, Answer, ok, refused, incomplete_data}
use Rattle.refusals.proofs.Answers.{Known, known-then, known-given, Kept-then}
use Rattle.packer.specs.Nearness.{Bytes}
use Rattle.frame.specs.Frame.{short, payload_in}
use Rattle.frame.specs.Opening.{open_of}
use Rattle.frame.specs.Opened.{Missing}
use Rattle.frame.proofs.Opened.{open-laws}
use Rattle.frame.proofs.Places.{declared-is, payload-is, payload-kept}
use Rattle.raw_command.proofs.Order.{plain_known}
use Rattle.command_reader.specs.Reader.{CommandFrame, content_of, read_of}
use Rattle.command_reader.specs.Laws.{ReaderTells}
use Rattle.command_reader.proofs.Reading.{opened-at, read-given}

sized : (s : List ℕ) (frame : CommandFrame) → read_of s ≡ ok frame → (0 < frame.count) × (frame.count ≤ length s)
sized s frame e = let at = opened-at s frame.count (read-given s frame e).opened in (omega (arith, at.counted), at.within)

at_most : (s : List ℕ) → Bytes s → (frame : CommandFrame) → read_of s ≡ ok frame → frame.count ≤ 260
at_most s b frame e = omega (arith, (opened-at s frame.count (read-given s frame e).opened).counted, declared-is s, b 1)

-- a payload is never too short to tell
content-known : (payload : List ℕ) (count : ℕ) → Known (content_of payload count)
unfolding content_of
content-known payload count = known-then _ _ (plain_known _) (λ plain e. known-given _)

-- and stays the same with more bytes behind the frame
payload_same : (xs ys : List ℕ) (count : ℕ) → open_of xs ≡ ok count → payload_in short (xs ++ ys) ≡ payload_in short xs
payload_same xs ys count e =
    let at = opened-at xs count e in
    let there : 1 < length xs = omega (arith, at.counted, at.within) in
    let same : get_or (xs ++ ys) 1 0 ≡ get_or xs 1 0 = get_or-append xs ys 0 1 there in
    payload-is (xs ++ ys) ∙ rw same (payload-kept (get_or xs 1 0) xs ys (omega (arith, at.counted, at.within, declared-is xs))) ∙ sym (payload-is xs)

prefix : (xs ys : List ℕ) → (read_of xs ≡ refused incomplete_data → ⊥) → read_of (xs ++ ys) ≡ read_of xs
unfolding read_of
prefix xs ys =
    Kept-then _ _ _ _ (open-laws.prefix xs ys) (λ count e known. ap (λ (payload : List ℕ). content_of payload count) (payload_same xs ys count e))

-- two refusals that are the same answer
refused-same : {A : Type 0} {why other : Refusal} → ◌≡◌ {A = Answer A} (refused why) (refused other) → why ≡ other
refused-same e = cc

waits : (s : List ℕ) → (read_of s ≡ refused incomplete_data) ↔ Missing s
unfolding read_of
waits s = (λ e. (open-laws.waits s).0 (go (open_of s) refl e), λ missing. rw ((open-laws.waits s).1 missing))
  where
    go : (a : Answer ℕ) → open_of s ≡ a → read_of s ≡ refused incomplete_data → open_of s ≡ refused incomplete_data
    go (ok count) opened e = absurd (content-known (payload_in short s) count (rw opened at e))
    go (refused why) opened e = opened ∙ ap (λ (w : Refusal). refused w) (refused-same (rw opened at e))

enough : (s : List ℕ) → Bytes s → 260 ≤ length s → read_of s ≡ refused incomplete_data → ⊥
enough s b full e = go ((waits s).0 e)
  where
    go : Missing s → ⊥
    go (inl none) = omega arith
    go (inr short) = omega (arith, short.1, declared-is s, b 1)

pub reader-tells : ReaderTells
reader-tells = record { sized = sized; at_most = at_most; prefix = prefix; waits = waits; enough = λ s b full. enough s b (omega arith) }
