-- What the readers and the writers return is the only answer: `consumed` and `packed` tell results apart, so a contract that fixes what they say fixes
-- the result.
use mathlib.Core.Path.{sym, ◌∙◌}
use mathlib.Core.List.{List}
use Prim.Native.Nat.{ℕ}
use Rattle.refusals.specs.OneAnswer.{ToldApart, OnlyBoth}
use Rattle.refusals.specs.Refusals.{encode_refusal}
use Rattle.refusals.proofs.Unique.{answer-back, encode_back, encode-back, consumed-unique}
use Rattle.packer.specs.Packing.{packed, PackIs}
use Rattle.packer.specs.OneAnswer.{OneAnswer}

pub packed-unique : {A : Type 0} → ToldApart (packed {A = A})
packed-unique = answer-back encode_refusal encode_back encode-back

-- a write: the answer, and what the whole slice then holds
packs-unique : (bytes l : List ℕ) (at : ℕ) → OnlyBoth (PackIs bytes l at)
packs-unique bytes l at a b m o x y = (packed-unique a b (x.answer ∙ sym y.answer), x.holds ∙ sym y.holds)

pub one_answer : OneAnswer
one_answer =
    record {
      numbers = consumed-unique;
      signed-numbers = consumed-unique;
      floats = consumed-unique;
      bytes = consumed-unique;
      packs = packs-unique;
    }
