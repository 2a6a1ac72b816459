-- The arms of `command_of`: the value that each reads is the one that its form says.
use mathlib.Core.Bool.{Bool}
use mathlib.Core.Path.{◌≡◌}
use mathlib.Core.List.{List}
use Prim.Native.Nat.{ℕ, ◌/◌, ◌%◌, ◌<◌}
use native.Mathlib.Omega.{arith}
use lib.Dec.{eqb}
use lib.ListN.{get_or}
use Rattle.format.specs.declared.CommandId.{CommandId}
use Rattle.packer.specs.Numbers.{be_at}
use Rattle.raw_command.specs.Commands.{form_of, width_of, Plain}
use Rattle.raw_command.specs.Reading.{numbered}

module _ (bytes : List ℕ) where
  pub arm : {id known : CommandId} {plain : Plain} → id ≡ known → plain ≡ numbered known (be_at bytes 1 (width_of (form_of known)))
      → plain ≡ numbered id (be_at bytes 1 (width_of (form_of id)))
  arm is made = rw is made

  pub flag-there : (set : Bool) → set ≡ eqb (get_or bytes 1 0) 1 → set ≡ eqb (be_at bytes 1 1) 1
  unfolding be_at
  flag-there set e = let same : get_or bytes 1 0 ≡ be_at bytes 1 1 = omega arith in rw same at e

  pub flags-there : (first second : Bool) → get_or bytes 2 0 < 256 → first ≡ eqb (get_or bytes 1 0) 1 → second ≡ eqb (get_or bytes 2 0) 1
      → ◌≡◌ {A = Bool × Bool} (first, second) (eqb (be_at bytes 1 2 / 256) 1, eqb (be_at bytes 1 2 % 256) 1)
  unfolding be_at
  flags-there first second small e f =
      let high : be_at bytes 1 2 / 256 ≡ get_or bytes 1 0 = omega arith in
      let low : be_at bytes 1 2 % 256 ≡ get_or bytes 2 0 = omega arith in
      rw (high, low, e, f)
