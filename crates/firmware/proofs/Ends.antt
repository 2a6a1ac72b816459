-- What a name's reader and the place after it say in the words of a layout; twelve bytes as they are copied; and the fields after hw_name as a part
-- of the payload.
use mathlib.Core.Path.{◌≡◌, refl, sym, ap, ◌∙◌}
use mathlib.Core.List.{List, [], ◌∷◌, ◌++◌}
use mathlib.Core.Logic.{⊎_elim}
use Prim.Native.Nat.{ℕ, ◌-◌, ◌≤◌, min}
use native.Mathlib.Omega.{arith}
use native.Mathlib.Nat.{add-zero}
use lib.ListN.{length, get_or, take, drop, replicate}
use lib.Seq.{take_all}
use Rattle.std.specs.Prelude.{Result, Ok, Err}
use Rattle.std.proofs.lemmas.Bool.{cases_lt}
use Rattle.std.specs.Result.{result_unwrap_or}
use Rattle.refusals.specs.Refusals.{Answer, ok, refused}
use Rattle.refusals.specs.Answers.{place_or}
use Rattle.refusals.specs.declared.DecodeError.{DecodeError}
use Rattle.packer.specs.Numbers.{total, numbers_at}
use Rattle.packer.proofs.Places.{lent-whole}
use Rattle.packer.proofs.Bytes.{two_bytes, front_bytes}
use Rattle.names.specs.Names.{Name, nul_within, name_at, named}
use Rattle.names.proofs.Places.{given-ends}
use Rattle.tables.proofs.Turns.{drop-zeros}
use Rattle.layout.specs.Layout.{name, raw_of, after_of, raws}
use Rattle.layout.specs.Replies.{fw_version_rest}
use Rattle.layout.proofs.Raws.{raws-drop}
use Rattle.firmware.specs.RawVersion.{raw_version_by, raw_version_of}

place_inside : (room : ℕ) (s : List ℕ) (at : ℕ) (answer : Answer ℕ) → nul_within room (drop at s) at ≡ answer → place_or (length s) answer ≤ length s
place_inside room s at (ok next) e = (given-ends room s at next e).inside
place_inside room s at (refused why) e = omega arith

-- the place after a name lies within
pub after-within : (room : ℕ) (s : List ℕ) (at : ℕ) → after_of (name room) s at ≤ length s
unfolding after_of
after-within room s at = place_inside room s at _ refl

-- a name that was read and the place after it, or zeros and the end
module _ (room : ℕ) (s : List ℕ) (at : ℕ) where
  abbrev taken : Result (List ℕ × ℕ) DecodeError → List ℕ × ℕ
  taken read = result_unwrap_or read (replicate room 0, length s)

  pub bytes-taken : (read : Result (List ℕ × ℕ) DecodeError) → named room read ≡ name_at room s at → (taken read).0 ≡ raw_of (name room) s at
  unfolding raw_of
  bytes-taken (Ok (bytes, next)) is = ap (λ (n : Name). n.bytes) is
  bytes-taken (Err error) is = ap (λ (n : Name). n.bytes) is

  pub next-taken : (read : Result (List ℕ × ℕ) DecodeError) → named room read ≡ name_at room s at → (taken read).1 ≡ after_of (name room) s at
  unfolding after_of name_at
  next-taken (Ok (bytes, next)) is = ap (λ (n : Name). place_or (length s) n.answer) is
  next-taken (Err error) is = ap (λ (n : Name). place_or (length s) n.answer) is

-- twelve bytes, or what there is over zeros
pub twelve-copied : (part : List ℕ) (there : ℕ) → there ≡ min (length part) 12 → take there part ++ drop there (replicate 12 0) ≡ numbers_at (replicate 12 1) part 0
twelve-copied part there is =
    let zeros : 12 - there ≡ 12 - length part = omega arith in
    let bytes : take there part ≡ take 12 part =
    ⊎_elim (λ less. take_all there part (omega arith) ∙ sym (take_all 12 part (omega arith)))
    (λ enough. let all : there ≡ 12 = omega arith in ap (λ (n : ℕ). take n part) all)
    (cases_lt (length part) 12) in
    rw (bytes, drop-zeros 12 there, zeros) (sym (front_bytes 12 part))

-- the part after hw_name, handed on from the middle
module _ (payload : List ℕ) (end : ℕ) (inside : end ≤ length payload) (after : end ≡ after_of (name 39) payload 3) where
  front : (major minor : ℕ) → major ≡ get_or payload 1 0 → minor ≡ get_or payload 2 0 → major ∷ minor ∷ [] ≡ numbers_at (replicate 2 1) payload 1
  front major minor p q = (λ i. p i ∷ q i ∷ []) ∙ sym (two_bytes payload 1)

  rest : raws fw_version_rest (take (length payload - end) (drop end payload)) 0 ≡ raws fw_version_rest payload (after_of (name 39) payload 3)
  rest =
      ap (λ (l : List ℕ). raws fw_version_rest l 0) (lent-whole end payload)
      ∙ raws-drop payload end inside fw_version_rest 0
      ∙ ap (raws fw_version_rest payload) (add-zero end ∙ after)

  pub raw-handed-on : (major minor : ℕ) (hw_name_bytes : List ℕ) → major ≡ get_or payload 1 0 → minor ≡ get_or payload 2 0 → hw_name_bytes ≡ raw_of (name 39) payload 3
      → raw_version_by ((major ∷ minor ∷ []), (hw_name_bytes, raws fw_version_rest (take (length payload - end) (drop end payload)) 0)) ≡ raw_version_of payload
  unfolding raw_version_of raws raw_of after_of total
  raw-handed-on major minor hw_name_bytes p q n = λ i. raw_version_by (front major minor p q i, (n i, rest i))
