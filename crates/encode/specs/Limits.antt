-- How many hops a command may have. Document 01, "Commands": "127 hops before Alive give 255 bytes and pass; 125 before
-- SetRpm pass; 126 before SetRpm are PayloadTooLong."
use Rattle.std.specs.Prelude.{◌≡◌, List, ℕ, Result, ◌≤◌, ℤ, length}
use Rattle.refusals.specs.Refusals.{Answer, ok, refused, payload_too_long}
use Rattle.refusals.specs.declared.EncodeError.{EncodeError}
use Rattle.command.specs.declared.Command.{Command}
use Rattle.command.specs.declared.Command.TheVariants.{SetRpm, Alive}
use Rattle.encode.specs.Encode.{encoded, EncodeIs}
use Rattle.encode.specs.Payload.{payload_of}

-- `encode` of the command behind any hops and into any buffer returns the answer, if these meet a condition
abbrev pub Returns : Command → (List ℕ → List ℕ → Type 0) → Answer ℕ → Type 0
Returns command If answer = (hops buffer : List ℕ) (r : Result ℕ EncodeError) (after : List ℕ) → If hops buffer → EncodeIs command hops buffer r after → encoded r ≡ answer

pub record HopLimits : Type 0 where
  pub alive-after-127 : Returns Alive (λ hops buffer. (length hops ≡ 127) × (260 ≤ length buffer)) (ok 260)
  pub alive-bytes : (hops : List ℕ) → length hops ≡ 127 → length (payload_of Alive hops) ≡ 255
  pub rpm-after-125 : (rpm : ℤ) → Returns (SetRpm rpm) (λ hops buffer. (length hops ≡ 125) × (260 ≤ length buffer)) (ok 260)
  pub rpm-after-126 : (rpm : ℤ) → Returns (SetRpm rpm) (λ hops buffer. length hops ≡ 126) (refused payload_too_long)
  -- and more than 127 before any command
  pub any-after-128 : (command : Command) → Returns command (λ hops buffer. 128 ≤ length hops) (refused payload_too_long)
