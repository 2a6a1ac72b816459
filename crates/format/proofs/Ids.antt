-- Ids: each command's own is known, a byte that is known is the command's, and no two commands have one id.
use mathlib.Core.Bool.{Bool, true, false, cond}
use mathlib.Core.Path.{◌≡◌, refl, sym, ap, ◌∙◌}
use mathlib.Core.List.{List, [], ◌∷◌}
use Prim.Native.Nat.{ℕ}
use native.Mathlib.Omega.{arith}
use lib.Dec.{eqb}
use borrow.Author.Tests.{eqb-true}
use Rattle.refusals.specs.Refusals.{ok, unknown_packet}
use Rattle.refusals.proofs.Different.{none}
use Rattle.refusals.proofs.Answers.{Known, known-refused, known-given, given-same}
use Rattle.format.specs.Format.{id_of}
use Rattle.format.specs.declared.CommandId.{CommandId}
use Rattle.format.specs.declared.CommandId.TheVariants as id
use Rattle.format.specs.Ids.{id_among, id_named}

pub id-back : (command : CommandId) → id_named (id_of command) ≡ ok command
unfolding id_among
id-back id.FwVersion = refl
id-back id.GetValues = refl
id-back id.SetDuty = refl
id-back id.SetCurrent = refl
id-back id.SetCurrentBrake = refl
id-back id.SetRpm = refl
id-back id.SetPos = refl
id-back id.SetHandbrake = refl
id-back id.Reboot = refl
id-back id.Alive = refl
id-back id.ForwardCan = refl
id-back id.GetValuesSelective = refl
id-back id.GetValuesSetupSelective = refl
id-back id.SetCurrentRel = refl
id-back id.SetOdometer = refl
id-back id.GetStats = refl
id-back id.ResetStats = refl
id-back id.Shutdown = refl
id-back id.FwInfo = refl
id-back id.MotorEstop = refl

pub id-given : (ids : List CommandId) (byte : ℕ) (command : CommandId) → id_among ids byte ≡ ok command → byte ≡ id_of command
unfolding id_among
id-given [] byte command e = none (cc)
id-given (first ∷ ids) byte command e = go (eqb byte (id_of first)) refl e (id-given ids byte command)
  where
    go : (here : Bool) → eqb byte (id_of first) ≡ here → cond here (ok first) (id_among ids byte) ≡ ok command
        → (id_among ids byte ≡ ok command → byte ≡ id_of command) → byte ≡ id_of command
    go true t e on = rw (← given-same e) (eqb-true byte (id_of first) t)
    go false t e on = on e

-- a byte that is no command's id is UnknownPacket
pub id-known : (ids : List CommandId) (byte : ℕ) → Known (id_among ids byte)
unfolding id_among
id-known [] byte = known-refused (unknown_packet byte) (λ e. omega arith)
id-known (first ∷ ids) byte = go (eqb byte (id_of first)) (id-known ids byte)
  where
    go : (here : Bool) → Known (id_among ids byte) → Known (cond here (ok first) (id_among ids byte))
    go true on = known-given first
    go false on = on

pub ids-apart : (a b : CommandId) → id_of a ≡ id_of b → a ≡ b
ids-apart a b same = given-same (sym (id-back a) ∙ ap id_named same ∙ id-back b)
