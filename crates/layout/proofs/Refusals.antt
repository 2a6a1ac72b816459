-- What the readers of fields refuse: a field past the end, 1, or a name without NUL, 2, and nothing else.
use mathlib.Core.Path.{◌≡◌, refl}
use mathlib.Core.Bool.{Bool, true, false, cond}
use mathlib.Core.List.{List, [], ◌∷◌}
use mathlib.Core.Logic.{◌⊎◌, inl, inr}
use Prim.Native.Nat.{ℕ, zero, suc, ◌+◌}
use lib.Dec.{leb, eqb}
use lib.ListN.{length, drop}
use Rattle.refusals.specs.Refusals.{Answer, ok, refused, incomplete_data, invalid_frame}
use Rattle.refusals.specs.Answers.{and_then}
use Rattle.packer.specs.Numbers.{be_at, total}
use Rattle.packer.specs.Unpacking.{consume_at}
use Rattle.names.specs.Names.{nul_within}
use Rattle.layout.specs.Layout.{Item, numbers, name, masked, mask_widths, Layout, extent_of, extent}

-- an answer that is no refusal but 1 or 2
abbrev pub OneOrTwo : {A : Type 0} → Answer A → Type 0
OneOrTwo (ok value) = Unit
OneOrTwo (refused why) = (why ≡ incomplete_data) ⊎ (why ≡ invalid_frame)

by-test : {A : Type 0} (b : Bool) (x y : Answer A) → OneOrTwo x → OneOrTwo y → OneOrTwo (cond b x y)
by-test true x y p q = p
by-test false x y p q = q

in-turn : {A B : Type 0} (a : Answer A) (next : A → Answer B) → OneOrTwo a → ((value : A) → OneOrTwo (next value)) → OneOrTwo (and_then a next)
in-turn (ok value) next p q = q value
in-turn (refused why) next p q = p

nul-plain : (room : ℕ) (left : List ℕ) (place : ℕ) → OneOrTwo (nul_within room left place)
unfolding nul_within
nul-plain zero left place = inr refl
nul-plain (suc room) [] place = inl refl
nul-plain (suc room) (byte ∷ left) place = by-test (eqb byte 0) _ _ tt (nul-plain room left (place + 1))

item-plain : (i : Item) (s : List ℕ) (at : ℕ) → OneOrTwo (extent_of i s at)
unfolding extent_of consume_at
item-plain (numbers ws) s at = by-test (leb (at + total ws) (length s)) _ _ tt (inl refl)
item-plain (name room) s at = nul-plain room (drop at s) at
item-plain (masked table) s at = by-test (leb (at + total (mask_widths (be_at s at 4) table)) (length s)) _ _ tt (inl refl)

pub plain : (l : Layout) (s : List ℕ) (at : ℕ) → OneOrTwo (extent l s at)
unfolding extent
plain [] s at = tt
plain (i ∷ l) s at = in-turn (extent_of i s at) (extent l s) (item-plain i s at) (plain l s)
