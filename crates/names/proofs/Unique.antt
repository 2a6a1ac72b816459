-- What a scan and a name answer is the only answer, and so is how much of a name is sent.
use mathlib.Core.Path.{◌≡◌, refl, ap}
use Prim.Native.Nat.{ℕ}
use Rattle.std.specs.Prelude.{Option, Some, None, Ok, Err}
use Rattle.refusals.specs.Refusals.{Refusal, Answer, ok, refused}
use Rattle.refusals.specs.OneAnswer.{ToldApart}
use Rattle.refusals.proofs.Unique.{told-apart, consumed-unique}
use Rattle.refusals.proofs.Unique as refusals
use Rattle.refusals.proofs.Different.{none}
use Rattle.refusals.proofs.Answers.{given-same}
use Rattle.names.specs.Names.{Name, named, name_sent}
use Rattle.names.specs.OneAnswer.{OneAnswer}

-- two answers that are refused are refused for one reason
refused-same : {why other : Refusal} → ◌≡◌ {A = Answer ℕ} (refused why) (refused other) → why ≡ other
refused-same e = cc

name-unique : (room : ℕ) → ToldApart (named room)
name-unique room (Ok (bytes, next)) (Ok (others, after)) e =
    λ i. Ok (ap (λ (n : Name). n.bytes) e i, given-same (ap (λ (n : Name). n.answer) e) i)
name-unique room (Ok (bytes, next)) (Err error) e = let f = ap (λ (n : Name). n.answer) e in none (cc)
name-unique room (Err error) (Ok (bytes, next)) e = let f = ap (λ (n : Name). n.answer) e in none (cc)
name-unique room (Err error) (Err other) e =
    ap Err ((refusals.one_answer).decode-errors error other (refused-same (ap (λ (n : Name). n.answer) e)))

-- the one that says an answer
sent_again : Answer ℕ → Option ℕ
sent_again (ok count) = Some count
sent_again (refused why) = None

sent-unique : ToldApart name_sent
unfolding sent_again
sent-unique = told-apart name_sent sent_again (elim [ Some count ↦ refl | None ↦ refl ])

pub one_answer : OneAnswer
one_answer = record { find-nul = consumed-unique; name = name-unique; sent = sent-unique }
