-- A fact about two numbers, or its other side.
use mathlib.Core.Path.{◌≡◌}
use mathlib.Core.Logic.{⊎_elim}
use Prim.Native.Nat.{ℕ, ◌≤◌, ◌<◌}
use Rattle.std.proofs.lemmas.Bool.{cases_lt, cases_eq}

pub by_order : {C : Type 0} (a b : ℕ) → (a < b → C) → (b ≤ a → C) → C
by_order a b less more = ⊎_elim less more (cases_lt a b)

pub by-equality : {C : Type 0} (a b : ℕ) → (a ≡ b → C) → ((a ≡ b → ⊥) → C) → C
by-equality a b same differs = ⊎_elim same differs (cases_eq a b)
