-- The scan for a NUL as std's `position` has it, and what a scan and the bytes after it say of how much of a name is sent.
use mathlib.Core.Bool.{Bool, true, false, cond, not, ◌&&◌}
use mathlib.Core.Path.{◌≡◌, refl, sym, ap, ◌∙◌}
use mathlib.Core.List.{List, [], ◌∷◌}
use Prim.Native.Nat.{ℕ, zero, suc, ◌+◌, ◌-◌, ◌≤◌}
use native.Mathlib.Nat.{add-zero}
use native.Mathlib.Omega.{arith}
use lib.Dec.{eqb, ltb}
use lib.ListN.{length, take, drop}
use Rattle.std.specs.Prelude.{Option, Some, None, Result, Ok, Err, position}
use Rattle.std.specs.List.{position_or_len, list_all}
use Rattle.std.specs.Bool.{then_some}
use Rattle.std.specs.Result.{result_ok}
use Rattle.std.proofs.lemmas.Option.{none-some, same_Some}
use Rattle.refusals.specs.declared.DecodeError.{DecodeError}
use Rattle.std.specs.Slice.{IsGetRangeResult}
use Rattle.std.specs.Option.{unwrap_or}
use Rattle.std.specs.Borrow.{Bor}
use Rattle.std.proofs.lemmas.Grind.{common_steps}
use Rattle.std.proofs.lemmas.Bool.Decides.{nat_tests}
use borrow.Author.Tests.{lt-ltb, le-ltb}
use Rattle.refusals.specs.Refusals.{Answer, ok, refused, incomplete_data, invalid_frame, bad_name, consumed}
use Rattle.refusals.specs.Answers.{unless}
use Rattle.names.proofs.Places.{given-lies}
use Rattle.names.specs.Names.{nul_within, all_zero, sent_through, sent_of, name_sent}

-- the test of both scans
abbrev pub is_nul : ℕ → Bool
is_nul byte = eqb byte 0

-- the answer of a scan by how many bytes it found before a NUL, or by whether there are fewer bytes than room
abbrev pub scanned : ℕ → Bool → Option ℕ → Answer ℕ
scanned place short (Some before) = ok (place + before + 1)
scanned place short None = cond short (refused incomplete_data) (refused invalid_frame)

-- one more on both sides
ltb-suc : (m n : ℕ) → ltb (suc m) (suc n) ≡ ltb m n
ltb-suc m n = grind (arith, nat_tests)

-- one byte more before the NUL
further : (short : Bool) (place n size : ℕ) → scanned (place + 1) short (cond (ltb n size) (Some n) None) ≡ scanned place short (cond (ltb n size) (Some (suc n)) None)
further short place n size =
    elim (ltb n size) as (λ b. scanned (place + 1) short (cond b (Some n) None) ≡ scanned place short (cond b (Some (suc n)) None)) [
      | true ↦ ap ok (omega arith)
      | false ↦ refl
    ]

-- one turn of the scan
turn
    : (b short : Bool) (place n size : ℕ) {rest : Answer ℕ} → rest ≡ scanned (place + 1) short (cond (ltb n size) (Some n) None)
    → cond b (ok (place + 1)) rest ≡ scanned place short (cond (ltb (cond (not b) (1 + n) 0) (suc size)) (Some (cond (not b) (1 + n) 0)) None)
turn true short place n size e = let some = lt-ltb 0 (suc size) (omega arith) in rw (some, add-zero)
turn false short place n size e = let more : 1 + n ≡ suc n = omega arith in rw (more, ltb-suc) (e ∙ further short place n size)

-- the whole scan
nul-scanned
    : (room : ℕ) (left : List ℕ) (place : ℕ)
    → nul_within room left place ≡ scanned place (ltb (length left) room) (position is_nul (take room left))
unfolding nul_within
nul-scanned zero left place = rw (le-ltb (length left) 0 (omega arith))
nul-scanned (suc room) [] place = rw (lt-ltb 0 (suc room) (omega arith))
nul-scanned (suc room) (byte ∷ left) place =
    rw ltb-suc (turn (is_nul byte) _ place (position_or_len is_nul (take room left)) (length (take room left)) (nul-scanned room left (place + 1)))

-- the part that `get` gives, none past the end
left-from
    : (buf : List ℕ) (pos : ℕ) (got : Option (Bor (List ℕ))) (empty : Bor (List ℕ)) → IsGetRangeResult buf pos (length buf) got
    → empty.now ≡ [] → (unwrap_or got empty).now ≡ drop pos buf
left-from buf pos None empty got none = grind (arith, common_steps)
left-from buf pos (Some left) empty got none = grind (arith, common_steps)

-- a scan from a place of the bytes, by what `get` gives of them and `position` finds there
pub scan-is
    : (room : ℕ) (buf : List ℕ) (pos : ℕ) (got : Option (Bor (List ℕ))) (empty : Bor (List ℕ)) {left : Bor (List ℕ)} {answer : Option ℕ}
    → IsGetRangeResult buf pos (length buf) got → empty.now ≡ [] → left ≡ unwrap_or got empty → answer ≡ position is_nul (take room left.now)
    → nul_within room (drop pos buf) pos ≡ scanned pos (ltb (length left.now) room) answer
scan-is room buf pos got empty part none is found =
    let from = ap (λ (b : Bor (List ℕ)). b.now) is ∙ left-from buf pos got empty part none in
    rw (found, from) (nul-scanned room (drop pos buf) pos)

-- what is left from a place on
pub rest-whole : (l : List ℕ) (n : ℕ) → take (length l - n) (drop n l) ≡ drop n l
rest-whole l n = grind (arith, common_steps)

-- ---- how much of a name is sent

-- the zeros after it, as std's `all` has them
pub zeros-are : (bytes : List ℕ) → all_zero bytes ≡ list_all is_nul bytes
unfolding all_zero
zeros-are [] = refl
zeros-are (byte ∷ bytes) = ap (λ b. eqb byte 0 && b) (zeros-are bytes)

-- a scan whose place is given has found it
pub found_ok : (scan : Result ℕ DecodeError) (next : ℕ) → Some next ≡ result_ok scan → scan ≡ Ok next
found_ok (Ok place) next e = ap Ok (same_Some place next (sym e))
found_ok (Err why) next e = absurd (none-some next (sym e))

-- it ends among the bytes, after the first place
pub found_ends
    : (room : ℕ) (held : List ℕ) (scan : Result ℕ DecodeError) (next : ℕ) → consumed scan ≡ nul_within room held 0 → Some next ≡ result_ok scan
    → (1 ≤ next) × (next ≤ length held)
found_ends room held (Ok place) next scanned found =
    let same : next ≡ place = same_Some next place found in
    let ends = given-lies room held 0 place (sym scanned) in
    (omega arith, omega arith)
found_ends room held (Err why) next scanned found = absurd (none-some next (sym found))

module _ (room : ℕ) (held : List ℕ) where
  -- a NUL, and zeros after it or another byte
  pub sent-is
      : (scan : Result ℕ DecodeError) (next : ℕ) (zeros : Bool) → consumed scan ≡ nul_within room held 0 → Some next ≡ result_ok scan
      → zeros ≡ all_zero (drop next held) → name_sent (then_some zeros next) ≡ sent_of room held
  unfolding sent_of sent_through
  sent-is (Ok place) next zeros scanned found test =
      let same : next ≡ place = same_Some next place found in
      rw (← scanned, ← same, ← test) (elim zeros as (λ b. name_sent (then_some b next) ≡ unless b bad_name (ok next)) [ true ↦ refl | false ↦ refl ])
  sent-is (Err why) next zeros scanned found test = absurd (none-some next (sym found))

  -- no NUL
  pub none-sent : (scan : Result ℕ DecodeError) → consumed scan ≡ nul_within room held 0 → result_ok scan ≡ None → sent_of room held ≡ refused bad_name
  unfolding sent_of sent_through
  none-sent (Ok place) scanned found = absurd (none-some place (sym found))
  none-sent (Err why) scanned found = rw (← scanned)
