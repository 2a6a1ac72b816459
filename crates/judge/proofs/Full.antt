-- "So `decode` of 110 bytes or more never answers 1." Where the id is not FwVersion's, neither does it of 103.
use mathlib.Core.Path.{◌≡◌}
use mathlib.Core.List.{List}
use Prim.Native.Nat.{ℕ, ◌+◌, ◌≤◌}
use native.Mathlib.Omega.{arith}
use lib.Dec.{eqb}
use lib.ListN.{length, get_or, drop, length-drop}
use borrow.Author.Tests.{eqb-true}
use Rattle.refusals.specs.Refusals.{refused, incomplete_data, invalid_frame}
use Rattle.judge.specs.Judge.{judge_of}
use Rattle.refusals.proofs.Answers.{Known, known-then, known-unless}
use Rattle.frame.proofs.Places.{byte-known, byte-given}
use Rattle.frame.proofs.Endings.{invalid-differs, finish-known}
use Rattle.layout.specs.Replies.{fields_end}
use Rattle.layout.proofs.Readers.{Lawful}
use Rattle.layout.proofs.Replies.{reads-fields, reads-others}

-- as many bytes as the fields of the id there take at the most, and six more, are enough for any judgement
judge-enough : (width : ℕ) (xs : List ℕ) → Lawful width (fields_end (get_or xs 2 0)) → width + 6 ≤ length xs → Known (judge_of xs)
unfolding judge_of
judge-enough width xs reads full =
    known-then _ _ (byte-known xs 0 (omega arith)) (λ start first.
    known-unless (eqb start 2) invalid_frame _ invalid-differs (λ right.
    known-then _ _ (byte-known xs 1 (omega arith)) (λ n second.
    known-then _ _ (byte-known xs 2 (omega arith)) (λ id third.
    let here : Lawful width (fields_end id) = rw (byte-given xs 2 id third).1 at reads in
    known-then _ _ (here.enough (drop 2 xs) 1 (simp length-drop (omega arith))) (λ read fields.
    known-unless (eqb n read) invalid_frame _ invalid-differs (λ same.
    let near = here.near (drop 2 xs) 1 read fields in
    let all = eqb-true n read same in
    finish-known xs n (omega arith)))))))

pub judge-full : (xs : List ℕ) → 110 ≤ length xs → judge_of xs ≡ refused incomplete_data → ⊥
judge-full xs full = judge-enough 104 xs (reads-fields (get_or xs 2 0)) full

pub judge-full-others : (xs : List ℕ) → (get_or xs 2 0 ≡ 0 → ⊥) → 103 ≤ length xs → judge_of xs ≡ refused incomplete_data → ⊥
judge-full-others xs differs full = judge-enough 97 xs (reads-others (get_or xs 2 0) differs) full
