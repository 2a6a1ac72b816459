-- What `read_reply` returns is the only answer.
use mathlib.Core.Path.{ap}
use Rattle.std.specs.Prelude.{Ok, Err}
use Rattle.refusals.specs.Refusals.{decode_refusal}
use Rattle.refusals.specs.OneAnswer.{ToldApart}
use Rattle.refusals.proofs.Different.{none}
use Rattle.refusals.proofs.Unique.{told-apart, decode_back, decode-back}
use Rattle.raw_reply.specs.Reading.{Read, raw_read}
use Rattle.raw_reply.specs.Laws.{OneAnswer}

read-unique : ToldApart raw_read
read-unique (Ok (count, reply)) (Ok (count2, reply2)) e =
    let answers = ap (λ (r : Read). r.answer) e in
    let replies = ap (λ (r : Read). r.reply) e in
    cc
read-unique (Ok (count, reply)) (Err error) e = let answers = ap (λ (r : Read). r.answer) e in none (cc)
read-unique (Err error) (Ok (count, reply)) e = let answers = ap (λ (r : Read). r.answer) e in none (cc)
read-unique (Err error) (Err other) e =
    let answers = ap (λ (r : Read). r.answer) e in
    ap Err (told-apart decode_refusal decode_back decode-back error other (cc))

pub one_answer : OneAnswer
one_answer = record { read-reply = read-unique }
