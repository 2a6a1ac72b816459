-- A reading written back: document 02, W2. "for writing a reading back, 2 for a hop part of any other form, then 6, then 5, the buffer unchanged."
use Rattle.std.specs.Prelude.{Bool, ◌≡◌, List, ◌++◌, ℕ, Result, eqb, length}
use Rattle.refusals.specs.Refusals.{Answer, answer_by, invalid_frame, write_back_refusal}
use Rattle.refusals.specs.declared.WriteBackError.{WriteBackError}
use Rattle.refusals.specs.Answers.{unless}
use Rattle.frame.specs.Frame.{short, frame_of}
use Rattle.frame.specs.Wrapping.{wrap_answer, held_after}
use Rattle.raw_command.specs.Commands.{bytes_of}
use Rattle.raw_command.specs.declared.RawCommand.{RawCommand}
use Rattle.command_reader.specs.Reader.{hop_size}

-- a hop part of the form: hops, and nothing behind them
abbrev pub is_hops : List ℕ → Bool
is_hops part = eqb (hop_size part) (length part)

-- the payload of a hop part and a command
unfoldable pub payload_back : List ℕ → RawCommand → List ℕ
payload_back hops command = hops ++ bytes_of command

-- what writing them into so much room answers
unfoldable pub write_answer : List ℕ → RawCommand → ℕ → Answer ℕ
write_answer hops command room = unless (is_hops hops) invalid_frame (wrap_answer (length (payload_back hops command)) room)

abbrev pub written_again : Result ℕ WriteBackError → Answer ℕ
written_again result = answer_by write_back_refusal result

-- writing them into the buffer l: `r` is returned, and `after` is what the buffer then holds
pub record WriteIs (hops : List ℕ) (command : RawCommand) (l : List ℕ) (r : Result ℕ WriteBackError) (after : List ℕ) : Type 0 where
  pub answer : written_again r ≡ write_answer hops command (length l)
  pub holds : after ≡ held_after (write_answer hops command (length l)) (frame_of short (payload_back hops command)) l
