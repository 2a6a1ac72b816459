-- `open` gives a count to frames and to nothing else, waits while some of the frame is missing, and looks at the frame's bytes only.
use mathlib.Core.Path.{◌≡◌, sym, ap, ◌∙◌}
use mathlib.Core.Logic.{◌↔◌, ⊎_elim, inl, inr}
use mathlib.Core.List.{List, ◌++◌}
use Prim.Native.Nat.{ℕ, ◌+◌, ◌≤◌, ◌<◌}
use native.Mathlib.Omega.{arith}
use lib.ListN.{length, get_or, take}
use lib.Seq.{get_or-take}
use Rattle.refusals.specs.Refusals.{ok, refused, incomplete_data, invalid_frame}
use Rattle.refusals.proofs.Answers.{Known, known-refused}
use Rattle.frame.specs.Frame.{short, frame_size, declared, Framed}
use Rattle.frame.specs.Opening.{finish_of, open_of}
use Rattle.frame.specs.Opened.{Missing, OpenLaws}
use Rattle.frame.proofs.Cases.{by_order, by-equality}
use Rattle.frame.proofs.Places.{declared-is, carried-is, payload-is, end_is}
use Rattle.frame.proofs.Endings.{Ended, finish-ended, ended-finish, ended-own, invalid-differs, finish-known, finish-waits, finish-kept}
use Rattle.frame.proofs.Heads as head

module _ (s : List ℕ) where
  -- ---- a frame, by the places of its parts

  pub ended-framed : get_or s 0 0 ≡ 2 → Ended s (get_or s 1 0) → Framed short s
  ended-framed start ended =
      record {
        whole = omega (arith, declared-is s, ended.there);
        start = start;
        sum = rw (carried-is s, payload-is s) ended.sum;
        end = end_is s ∙ ended.end;
      }

  pub framed-ended : Framed short s → Ended s (get_or s 1 0)
  framed-ended framed =
      record {
        there = omega (arith, declared-is s, framed.whole);
        sum = rw (carried-is s, payload-is s) at framed.sum;
        end = sym (end_is s) ∙ framed.end;
      }

  -- ---- the ways out of `open`

  pub no_start : length s ≤ 0 → refused incomplete_data ≡ open_of s
  unfolding open_of
  no_start past = head.no_start s (finish_of s) past

  pub start-wrong : 0 < length s → (get_or s 0 0 ≡ 2 → ⊥) → refused invalid_frame ≡ open_of s
  unfolding open_of
  start-wrong there differs = head.start-wrong s (finish_of s) there differs

  pub no_length : get_or s 0 0 ≡ 2 → 0 < length s → length s ≤ 1 → refused incomplete_data ≡ open_of s
  unfolding open_of
  no_length start there past = head.no_length s (finish_of s) start there past

  pub head-right : get_or s 0 0 ≡ 2 → 1 < length s → open_of s ≡ finish_of s (get_or s 1 0)
  unfolding open_of
  head-right start there = head.head-right s (finish_of s) start there

  open-ended : get_or s 0 0 ≡ 2 → Ended s (get_or s 1 0) → open_of s ≡ ok (get_or s 1 0 + 5)
  open-ended start ended = head-right start (omega (arith, ended.there)) ∙ ended-finish s (get_or s 1 0) ended

  open-frame : (count : ℕ) → open_of s ≡ ok count → (get_or s 0 0 ≡ 2) × (count ≡ get_or s 1 0 + 5) × Ended s (get_or s 1 0)
  unfolding open_of
  open-frame count e =
      let given = head.head-given s (finish_of s) count e in
      let ended = finish-ended s (get_or s 1 0) count given.1 in
      (given.0, ended.0, ended.1)

  opened-iff : (count : ℕ) → (open_of s ≡ ok count) ↔ (Framed short s × (count ≡ frame_size short (declared short s)))
  opened-iff count = (
    λ e. let frame = open-frame count e in (ended-framed frame.0 frame.2, omega (arith, declared-is s, frame.1)),
    λ framed. open-ended framed.0.start (framed-ended framed.0) ∙ ap ok (omega (arith, declared-is s, framed.1)),
  )

  -- ---- when it waits

  missing-waits : Missing s → open_of s ≡ refused incomplete_data
  missing-waits =
      ⊎_elim (λ none. sym (no_start (omega (arith, none))))
      (λ some.
      by_order 0 (length s)
      (λ one. by_order 1 (length s)
      (λ two. head-right some.0 two ∙ finish-waits s (get_or s 1 0) (omega (arith, declared-is s, some.1)))
      (λ past. sym (no_length some.0 one past)))
      (λ past. sym (no_start past)))

  waits-missing : open_of s ≡ refused incomplete_data → Missing s
  waits-missing e =
      by_order 0 (length s)
      (λ one. by-equality (get_or s 0 0) 2
      (λ start. by_order (length s) (frame_size short (declared short s))
      (λ less. inr (start, less))
      (λ there. absurd (known start there e)))
      (λ differs. absurd (known-refused invalid_frame invalid-differs (start-wrong one differs ∙ e))))
      (λ past. inl (omega arith))
    where
      known : get_or s 0 0 ≡ 2 → frame_size short (declared short s) ≤ length s → Known (open_of s)
      known start there =
          let n = declared-is s in
          rw (head-right start (omega arith)) (finish-known s (get_or s 1 0) (omega arith))

-- ---- which bytes it looks at

open_own : (s : List ℕ) (count : ℕ) → open_of s ≡ ok count → open_of (take count s) ≡ ok count
open_own s count e =
    let frame = open-frame s count e in
    let n = get_or s 1 0 in
    let same : get_or (take (n + 5) s) 1 0 ≡ n = get_or-take (n + 5) s 1 0 (omega arith) in
    let start = get_or-take (n + 5) s 0 0 (omega arith) ∙ frame.0 in
    let own : Ended (take (n + 5) s) (get_or (take (n + 5) s) 1 0) = rw same (ended-own s n frame.2) in
    rw frame.1 (open-ended (take (n + 5) s) start own ∙ ap (λ (k : ℕ). ok (k + 5)) same)

open-prefix : (xs ys : List ℕ) → (open_of xs ≡ refused incomplete_data → ⊥) → open_of (xs ++ ys) ≡ open_of xs
unfolding open_of
open-prefix xs ys = head.head-kept xs ys (finish_of xs) (finish_of (xs ++ ys)) (finish-kept xs ys)

pub open-laws : OpenLaws
open-laws =
    record {
      opened = opened-iff;
      waits = λ s. (waits-missing s, missing-waits s);
      prefix = open-prefix;
      own-bytes = open_own;
    }
