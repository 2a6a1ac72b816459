-- The hop limits hold.
use mathlib.Core.Path.{◌≡◌, ◌∙◌}
use mathlib.Core.List.{List}
use Prim.Native.Nat.{ℕ, ◌≤◌}
use native.Mathlib.Omega.{arith}
use lib.ListN.{length}
use Rattle.refusals.specs.Refusals.{ok}
use Rattle.command.specs.declared.Command.TheVariants.{SetRpm, Alive}
use Rattle.command.proofs.Sizes.{sizes}
use Rattle.encode.specs.Payload.{payload_of}
use Rattle.frame.specs.Wrapping.{wrap_answer}
use Rattle.encode.specs.Limits.{HopLimits}
use Rattle.encode.proofs.Payloads.{payload-length}
use Rattle.frame.proofs.Wrapped.{answer-too-long, answer-fits}

-- the longest payload passes where there is room
passes : (n room : ℕ) → n ≡ 255 → 260 ≤ room → wrap_answer n room ≡ ok 260
passes n room e k = rw e (answer-fits 255 room (omega arith) k)

alive-255 : (hops : List ℕ) → length hops ≡ 127 → length (payload_of Alive hops) ≡ 255
alive-255 hops e = omega (arith, payload-length Alive hops)

pub hop-limits : HopLimits
hop-limits =
    record {
      alive-after-127 = λ hops buffer r after (e, room) w. w.answer ∙ passes _ _ (alive-255 hops e) room;
      alive-bytes = alive-255;
      rpm-after-125 = λ rpm hops buffer r after (e, room) w. w.answer ∙ passes _ _ (omega (arith, payload-length (SetRpm rpm) hops)) room;
      rpm-after-126 = λ rpm hops buffer r after e w. w.answer ∙ answer-too-long _ _ (omega (arith, payload-length (SetRpm rpm) hops));
      any-after-128 = λ command hops buffer r after h w. w.answer ∙ answer-too-long _ _ (omega (arith, payload-length command hops, sizes command));
    }
