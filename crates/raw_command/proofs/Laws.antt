-- Writing a plain command and reading it undo each other.
use mathlib.Core.Bool.{false, not}
use mathlib.Core.Path.{◌≡◌, refl, ap, ◌∙◌, subst}
use mathlib.Core.List.{List, [], ◌∷◌, append-nil}
use Prim.Native.Nat.{ℕ, ◌+◌}
use native.Mathlib.Omega.{arith}
use lib.Dec.{eqb, ltb}
use lib.ListN.{length, get_or, drop, drop_of_length-le}
use borrow.Author.Tests.{eq-eqb, lt-ltb, eqb-true, not-true}
use Rattle.refusals.specs.Refusals.{ok, invalid_frame}
use Rattle.refusals.proofs.Answers.{given-same, given-then, given-unless}
use Rattle.format.specs.Format.{id_of, all_ids}
use Rattle.format.specs.Ids.{id_named}
use Rattle.format.specs.declared.CommandId.{CommandId}
use Rattle.format.specs.declared.CommandId.TheVariants as id
use Rattle.packer.specs.Numbers.{be_at, big_endian}
use Rattle.packer.specs.Nearness.{Bytes}
use Rattle.packer.specs.Standing.{Stands}
use Rattle.packer.proofs.Standing.{one, joined, second, in-front}
use Rattle.packer.proofs.Digits as digits
use Rattle.packer.proofs.Writes.{digits-length}
use Rattle.raw_command.specs.Commands.{Form, Value, form_of, width_of, most_of, Plain, width_in, number_in, bytes_in}
use Rattle.raw_command.specs.Reading.{is_forward, at_most, numbered, plain_with, plain_in}
use Rattle.raw_command.specs.Laws.{Fits, RawLaws}
use Rattle.raw_command.proofs.Sizes.{narrow}
use Rattle.format.proofs.Ids.{id-back, id-given}
use Rattle.raw_command.proofs.Values.{number-below, value-back, value-allowed, number-back}

-- ---- what is written is read

module _ (plain : Plain) (fits : Fits (form_of plain.id) plain.value) where
  abbrev form : Form
  form = form_of plain.id

  -- the number stands behind the id
  number-there : be_at (bytes_in plain) 1 (width_in plain) ≡ number_in plain
  number-there =
      let all : Stands (bytes_in plain) (bytes_in plain) 0 (length (bytes_in plain)) = rw append-nil at (in-front (bytes_in plain) []) in
      digits.number-back (width_in plain) (number_in plain) (number-below form plain.value fits) (second (id_of plain.id ∷ []) (big_endian (width_in plain) (number_in plain)) all)

  with_value : plain_with plain.id (bytes_in plain) ≡ ok plain
  unfolding plain_with
  with_value =
      rw (eq-eqb (length (bytes_in plain)) (1 + width_of form) (omega (arith, digits-length (width_in plain) (number_in plain))), value-allowed form plain.value, number-there)
      (ap (λ (v : Value form). ok (record { id = plain.id; value = v })) (value-back form plain.value fits))

  written : is_forward plain.id ≡ false → plain_in (bytes_in plain) ≡ ok plain
  unfolding plain_in
  written plainly =
      rw (lt-ltb 0 (length (bytes_in plain)) (omega arith), plainly, id-back plain.id) with_value

-- ---- what is read is what is written

module _ (bytes : List ℕ) (b : Bytes bytes) where
  -- bytes that begin with an id, and have a value behind it
  value-given : (id : CommandId) (plain : Plain) → get_or bytes 0 0 ≡ id_of id → plain_with id bytes ≡ ok plain
      → (bytes ≡ bytes_in plain) × Fits (form_of plain.id) plain.value × (plain.id ≡ id)
  unfolding plain_with
  value-given id plain first e =
      let size = given-unless (eqb (length bytes) (1 + width_of (form_of id))) invalid_frame _ plain e in
      let most = given-unless (at_most (most_of (form_of id)) (drop 1 bytes)) invalid_frame _ plain size.then in
      let is : numbered id (be_at bytes 1 (width_of (form_of id))) ≡ plain = given-same most.then in
      let back = number-back bytes (form_of id) b most.holds in
      let whole = eqb-true (length bytes) (1 + width_of (form_of id)) size.holds in
      let all = joined (one bytes 0 (omega arith)) (digits.number-here bytes 1 (width_of (form_of id)) b (omega arith)) in
      let ends : drop (1 + width_of (form_of id)) bytes ≡ [] = drop_of_length-le bytes {i = 1 + width_of (form_of id)} (omega arith) in
      let same : bytes ≡ id_of id ∷ big_endian (width_of (form_of id)) (be_at bytes 1 (width_of (form_of id))) = all.here ∙ rw (ends, first) (append-nil _) in
      subst (λ (p : Plain). (bytes ≡ bytes_in p) × Fits (form_of p.id) p.value × (p.id ≡ id)) is (rw back.1 same, back.0, refl)

  read : (plain : Plain) → plain_in bytes ≡ ok plain
      → (bytes ≡ bytes_in plain) × (Fits (form_of plain.id) plain.value × (is_forward plain.id ≡ false))
  unfolding plain_in
  read plain e =
      let some = given-unless (ltb 0 (length bytes)) invalid_frame _ plain e in
      let no-hop = given-unless (not (eqb (get_or bytes 0 0) (id_of id.ForwardCan))) invalid_frame _ plain some.then in
      let known = given-then (id_named (get_or bytes 0 0)) _ plain no-hop.then in
      let first = id-given all_ids (get_or bytes 0 0) known.value known.first in
      let given = value-given known.value plain first known.second in
      (given.0, (given.1, rw (given.2, ← first) (not-true _ no-hop.holds)))

pub raw_laws : RawLaws
raw_laws = record { written = λ plain plainly fits. written plain fits plainly; read = read; narrow = narrow }
