-- Each method of `Unpacker` has one answer, and leaves one Unpacker after it.
use Rattle.std.specs.Prelude.{ℕ, Float}
use Rattle.refusals.specs.OneAnswer.{OnlyBoth}
use Rattle.refusals.specs.Refusals.{consumed}
use Rattle.names.specs.Names.{named}
use Rattle.unpacker.specs.declared.Unpacker.{Unpacker}
use Rattle.unpacker.specs.Unpacker.{placed, unsigned_read, scaled_read, name_read, ReadIs}

pub record OneAnswer : Type 0 where
  pub unpack-u8 : (u : Unpacker) → OnlyBoth (λ a v. ReadIs (unsigned_read 1) u (consumed {A = ℕ × ℕ} (placed a v.pos)) v)
  pub unpack-u32 : (u : Unpacker) → OnlyBoth (λ a v. ReadIs (unsigned_read 4) u (consumed {A = ℕ × ℕ} (placed a v.pos)) v)
  pub unpack-f32 : (scale : Float) (u : Unpacker) → OnlyBoth (λ a v. ReadIs (scaled_read 4 scale) u (consumed {A = Float × ℕ} (placed a v.pos)) v)
  pub unpack-c-string : (room : ℕ) (u : Unpacker) → OnlyBoth (λ a v. ReadIs (name_read room) u (named room (placed a v.pos)) v)
