-- The theorems of `decode` that a stream stands on.
use mathlib.Core.Path.{◌≡◌, refl, sym, ap, ◌∙◌}
use mathlib.Core.List.{List, ◌++◌}
use Prim.Native.Nat.{ℕ, ◌+◌, ◌≤◌}
use native.Mathlib.Omega.{arith}
use lib.ListN.{length, get_or, take, get_or-append}
use lib.Seq.{get_or-take}
use Rattle.refusals.specs.Refusals.{Answer, ok, refused, incomplete_data}
use Rattle.frame.proofs.Places.{payload-kept, payload-own, payload-is}
use Rattle.judge.specs.Judge.{judge_of}
use Rattle.judge.proofs.Prefix.{judge-prefix}
use Rattle.judge.proofs.Full.{judge-full}
use Rattle.judge.proofs.Sized.{judge-sized}
use Rattle.judge.proofs.OwnBytes.{judge-own-bytes}
use Rattle.reply.specs.Reply.{reply_of}
use Rattle.reply.specs.Decode.{reply_in, reply_by, decode_of}

reply-joined : (xs ys : List ℕ) (a : Answer ℕ) → judge_of xs ≡ a → reply_by a (xs ++ ys) ≡ reply_by a xs
unfolding reply_by reply_in
reply-joined xs ys (ok count) e =
    let s = judge-sized xs count e in
    let n = get_or xs 1 0 in
    let same : get_or (xs ++ ys) 1 0 ≡ n = get_or-append xs ys 0 1 (omega arith) in
    ap reply_of (payload-is (xs ++ ys) ∙ rw same (payload-kept n xs ys (omega arith)) ∙ sym (payload-is xs))
reply-joined xs ys (refused why) e = refl

-- prefix: if `decode` of xs is not IncompleteData, `decode` of xs with any bytes after it is the same, reply and all
pub decode-prefix : (xs ys : List ℕ) → ((decode_of xs).answer ≡ refused incomplete_data → ⊥) → decode_of (xs ++ ys) ≡ decode_of xs
unfolding decode_of
decode-prefix xs ys h =
    let e : judge_of (xs ++ ys) ≡ judge_of xs = judge-prefix xs ys h in
    λ i. record { answer = e i; reply = (ap (λ (a : Answer ℕ). reply_by a (xs ++ ys)) e ∙ reply-joined xs ys (judge_of xs) refl) i }

-- full: 110 bytes or more are never IncompleteData
pub decode-full : (xs : List ℕ) → 110 ≤ length xs → (decode_of xs).answer ≡ refused incomplete_data → ⊥
unfolding decode_of
decode-full xs h = judge-full xs h

-- sized: a good frame's count is n + 5, at least 6 and at most the length
pub decode-sized : (xs : List ℕ) (count : ℕ) → (decode_of xs).answer ≡ ok count → (6 ≤ count) × (count ≤ length xs) × (count ≡ get_or xs 1 0 + 5)
unfolding decode_of
decode-sized xs count e = judge-sized xs count e

-- a good frame's reply depends on its own bytes alone
pub decode-own-bytes : (xs : List ℕ) (count : ℕ) → (decode_of xs).answer ≡ ok count → decode_of (take count xs) ≡ decode_of xs
unfolding decode_of reply_by reply_in
decode-own-bytes xs count e =
    let own : judge_of (take count xs) ≡ ok count = judge-own-bytes xs count e in
    let s = judge-sized xs count e in
    let n = get_or xs 1 0 in
    let same : get_or (take count xs) 1 0 ≡ n = get_or-take count xs 1 0 (omega arith) in
    let payload = payload-is (take count xs) ∙ rw same (payload-own n count xs (omega arith)) ∙ sym (payload-is xs) in
    rw (own, e) (λ i. record { answer = ok count; reply = ap reply_of payload i })
