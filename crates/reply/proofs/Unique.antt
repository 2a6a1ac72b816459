-- What `decode` answers is the only answer, and a reply's number tells its kind.
use mathlib.Core.Path.{◌≡◌, refl, ap}
use mathlib.Core.Bool.{cond}
use Prim.Native.Nat.{ℕ}
use lib.Dec.{eqb}
use Rattle.std.specs.Prelude.{Ok, Err}
use Rattle.refusals.specs.Refusals.{decode_refusal}
use Rattle.refusals.specs.OneAnswer.{ToldApart}
use Rattle.refusals.proofs.Different.{none}
use Rattle.refusals.proofs.Unique.{told-apart, decode_back, decode-back}
use Rattle.reply.specs.Reply.{kind_number}
use Rattle.reply.specs.Decode.{Decode, decoded}
use Rattle.reply.specs.OneAnswer.{OneAnswer}
use Rattle.reply.specs.declared.Kind.{Kind}

decode-unique : ToldApart decoded
decode-unique (Ok (count, reply)) (Ok (count2, reply2)) e =
    let answers = ap (λ (d : Decode). d.answer) e in
    let replies = ap (λ (d : Decode). d.reply) e in
    cc
decode-unique (Ok (count, reply)) (Err error) e = let answers = ap (λ (d : Decode). d.answer) e in none (cc)
decode-unique (Err error) (Ok (count, reply)) e = let answers = ap (λ (d : Decode). d.answer) e in none (cc)
decode-unique (Err error) (Err other) e =
    let answers = ap (λ (d : Decode). d.answer) e in
    ap Err (told-apart decode_refusal decode_back decode-back error other (cc))

kind_back : ℕ → Kind
kind_back n =
    cond (eqb n 0) Kind.FwVersion
    (cond (eqb n 4) Kind.GetValues
    (cond (eqb n 50) Kind.GetValuesSelective
    (cond (eqb n 51) Kind.GetValuesSetupSelective
    (cond (eqb n 128) Kind.GetStats
    (cond (eqb n 129) Kind.ResetStats Kind.FwInfo)))))

kind-back : (k : Kind) → kind_back (kind_number k) ≡ k
unfolding kind_back
kind-back Kind.FwVersion = refl
kind-back Kind.GetValues = refl
kind-back Kind.GetValuesSelective = refl
kind-back Kind.GetValuesSetupSelective = refl
kind-back Kind.GetStats = refl
kind-back Kind.ResetStats = refl
kind-back Kind.FwInfo = refl

pub one_answer : OneAnswer
one_answer = record { decode = decode-unique; kinds = told-apart kind_number kind_back kind-back }
