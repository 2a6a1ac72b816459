-- What the functions promise leaves one answer: the maps lose nothing.
use mathlib.Core.Bool.{false}
use mathlib.Core.Path.{◌≡◌, refl, ap, sym, subst, ◌∙◌}
use native.Mathlib.Omega.{arith}
use borrow.Author.Tests.{ne_eqb}
use Rattle.refusals.specs.OneAnswer.{ToldApart}
use Rattle.refusals.proofs.Different.{none}
use Rattle.refusals.proofs.Answers.{given-same}
use Rattle.refusals.proofs.Unique.{told-apart, decode_back, decode-back}
use Rattle.std.specs.Prelude.{Ok, Err}
use Rattle.format.specs.Format.{id_of}
use Rattle.format.specs.declared.CommandId.{CommandId}
use Rattle.format.specs.declared.CommandId.TheVariants as id
use Rattle.raw_command.specs.Commands.{Plain, Value, form_of, plain_of}
use Rattle.format.proofs.Ids.{ids-apart}
use Rattle.raw_command.specs.Reading.{is_forward, unpacked_command}
use Rattle.raw_command.specs.Laws.{OneAnswer}
use Rattle.raw_command.specs.declared.RawCommand.{RawCommand}
use Rattle.raw_command.specs.declared.RawCommand.TheVariants as raw

-- the command with an id and a value; FwVersion, a filler, for ForwardCan
command_with : (id : CommandId) → Value (form_of id) → RawCommand
command_with id.FwVersion none = raw.FwVersion
command_with id.GetValues none = raw.GetValues
command_with id.SetDuty value = raw.SetDuty value
command_with id.SetCurrent value = raw.SetCurrent value
command_with id.SetCurrentBrake value = raw.SetCurrentBrake value
command_with id.SetRpm value = raw.SetRpm value
command_with id.SetPos value = raw.SetPos value
command_with id.SetHandbrake value = raw.SetHandbrake value
command_with id.Reboot none = raw.Reboot
command_with id.Alive none = raw.Alive
command_with id.ForwardCan none = raw.FwVersion
command_with id.GetValuesSelective value = raw.GetValuesSelective value
command_with id.GetValuesSetupSelective value = raw.GetValuesSetupSelective value
command_with id.SetCurrentRel value = raw.SetCurrentRel value
command_with id.SetOdometer value = raw.SetOdometer value
command_with id.GetStats value = raw.GetStats value
command_with id.ResetStats value = raw.ResetStats value
command_with id.Shutdown (force, restart) = raw.Shutdown force restart
command_with id.FwInfo none = raw.FwInfo
command_with id.MotorEstop value = raw.MotorEstop value

command_back : Plain → RawCommand
command_back plain = command_with plain.id plain.value

command-back : (command : RawCommand) → command_back (plain_of command) ≡ command
unfolding command_with command_back
command-back raw.FwVersion = refl
command-back raw.GetValues = refl
command-back (raw.SetDuty value) = refl
command-back (raw.SetCurrent value) = refl
command-back (raw.SetCurrentBrake value) = refl
command-back (raw.SetRpm value) = refl
command-back (raw.SetPos value) = refl
command-back (raw.SetHandbrake value) = refl
command-back raw.Reboot = refl
command-back raw.Alive = refl
command-back (raw.GetValuesSelective value) = refl
command-back (raw.GetValuesSetupSelective value) = refl
command-back (raw.SetCurrentRel value) = refl
command-back (raw.SetOdometer value) = refl
command-back (raw.GetStats value) = refl
command-back (raw.ResetStats value) = refl
command-back (raw.Shutdown force restart) = refl
command-back raw.FwInfo = refl
command-back (raw.MotorEstop value) = refl

-- a hop would be the filler
forward-filler : (hop : CommandId) → hop ≡ id.ForwardCan → (value : Value (form_of hop)) → command_with hop value ≡ raw.FwVersion
unfolding command_with
forward-filler hop e = subst (λ (k : CommandId). (value : Value (form_of k)) → command_with k value ≡ raw.FwVersion) (sym e) (λ value. refl)

-- and FwVersion has another id: no command is a hop
pub never-forward : (command : RawCommand) → is_forward (plain_of command).id ≡ false
unfolding command_back
never-forward command =
    ne_eqb _ _ (λ e.
    let is = ids-apart (plain_of command).id id.ForwardCan e in
    let filler : command ≡ raw.FwVersion = sym (command-back command) ∙ forward-filler (plain_of command).id is (plain_of command).value in
    let zero : id_of (plain_of command).id ≡ 0 = ap (λ (c : RawCommand). id_of (plain_of c).id) filler in
    omega (arith, zero, e))

plain-apart : ToldApart plain_of
plain-apart = told-apart plain_of command_back command-back

unpacked-apart : ToldApart unpacked_command
unpacked-apart (Ok command) (Ok other) e = ap Ok (plain-apart command other (given-same e))
unpacked-apart (Ok command) (Err other) e = none (cc)
unpacked-apart (Err error) (Ok other) e = none (cc)
unpacked-apart (Err error) (Err other) e = ap Err (sym (decode-back error) ∙ ap decode_back (cc) ∙ decode-back other)

pub one_answer : OneAnswer
one_answer =
    record {
      plain = plain-apart;
      unpack-command = unpacked-apart;
    }
