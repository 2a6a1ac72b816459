-- What a method answers is the only answer, and what the Unpacker then is the only one.
use mathlib.Core.Path.{◌≡◌, refl, sym, ap, ◌∙◌}
use mathlib.Core.List.{List}
use Prim.Native.Nat.{ℕ}
use Rattle.std.specs.Prelude.{Result, Ok, Err}
use Rattle.refusals.specs.OneAnswer.{ToldApart, OnlyBoth}
use Rattle.refusals.specs.declared.DecodeError.{DecodeError}
use Rattle.refusals.specs.Refusals.{consumed}
use Rattle.refusals.proofs.Unique.{consumed-unique}
use Rattle.names.specs.Names.{named}
use Rattle.names.proofs.Unique as names
use Rattle.unpacker.specs.Unpacker.{Read, placed, unsigned_read, scaled_read, name_read, ReadIs}
use Rattle.unpacker.specs.OneAnswer.{OneAnswer}
use Rattle.unpacker.specs.declared.Unpacker.{Unpacker}

-- what was returned, without the place
value_of : {A : Type 0} → Result (A × ℕ) DecodeError → Result A DecodeError
value_of (Ok (value, place)) = Ok value
value_of (Err error) = Err error

value-placed : {A : Type 0} (answer : Result A DecodeError) (place : ℕ) → value_of (placed answer place) ≡ answer
unfolding value_of
value-placed (Ok value) place = refl
value-placed (Err error) place = refl

-- where the map of the answers tells them apart, a read leaves one answer and one Unpacker
read-unique
    : {A X : Type 0} (answers : Result (A × ℕ) DecodeError → X) → ToldApart answers → (read : List ℕ → ℕ → Read X) (u : Unpacker)
    → OnlyBoth (λ (a : Result A DecodeError) (v : Unpacker). ReadIs read u (answers (placed a v.pos)) v)
read-unique answers told read u a b v w x y = (
  sym (value-placed a v.pos) ∙ ap value_of (told (placed a v.pos) (placed b w.pos) (x.answers ∙ sym y.answers)) ∙ value-placed b w.pos,
  x.leaves ∙ sym y.leaves,
)

pub one_answer : OneAnswer
one_answer =
    record {
      unpack-u8 = read-unique consumed consumed-unique (unsigned_read 1);
      unpack-u32 = read-unique consumed consumed-unique (unsigned_read 4);
      unpack-f32 = λ scale. read-unique consumed consumed-unique (scaled_read 4 scale);
      unpack-c-string = λ room. read-unique (named room) ((names.one_answer).name room) (name_read room);
    }
