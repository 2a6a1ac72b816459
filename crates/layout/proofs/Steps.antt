-- How the code walks a layout: an item at a time, up to the first that is refused.
use mathlib.Core.Path.{◌≡◌, refl, sym, ap, ◌∙◌}
use mathlib.Core.List.{List, [], ◌∷◌}
use Prim.Native.Nat.{ℕ, ◌+◌}
use native.Mathlib.Omega.{arith}
use native.Mathlib.Nat.{add_assoc}
use Rattle.refusals.specs.Refusals.{Refusal, Answer, ok, refused}
use Rattle.refusals.specs.Answers.{and_then}
use Rattle.packer.specs.Numbers.{be_at, total}
use Rattle.packer.specs.Unpacking.{unsigned_at, consume_at}
use Rattle.packer.proofs.Places.{bytes-lacking, read-given}
use Rattle.packer.proofs.Kept.{read-refused}
use Rattle.tables.specs.Tables.{Field, widths}
use Rattle.layout.specs.Layout.{masked, extent_of, extent}

-- the last answer of a walk, as it is
pub whole : (answer : Answer ℕ) → answer ≡ and_then answer ok
whole (ok next) = refl
whole (refused why) = refl

-- a mask, and the fields that it has
module _ (table : List Field) (s : List ℕ) (at : ℕ) where
  masked-alone : extent (masked table ∷ []) s at ≡ consume_at (4 + total (widths (be_at s at 4) table)) s at
  unfolding extent extent_of total
  masked-alone = sym (whole _)

  pub mask-read : (mask next : ℕ) → ok (mask, next) ≡ unsigned_at 4 s at → consume_at (total (widths mask table)) s next ≡ extent (masked table ∷ []) s at
  unfolding consume_at
  mask-read mask next e =
      let read = read-given 4 (be_at s at 4) s at (mask, next) (sym e) in
      ap (λ (r : ℕ × ℕ). consume_at (total (widths r.0 table)) s r.1) (sym read.1) ∙ rw (add_assoc) refl ∙ sym masked-alone

  pub mask-lacking : (why : Refusal) → refused why ≡ unsigned_at 4 s at → refused why ≡ extent (masked table ∷ []) s at
  mask-lacking why e =
      let read = read-refused 4 (be_at s at 4) s at why (sym e) in
      ap refused read.1 ∙ sym (masked-alone ∙ bytes-lacking (4 + total (widths (be_at s at 4) table)) s at (omega arith))

-- what the check is given for the functions of src/lib.rt
pub ruleset steps = (whole, mask-read, mask-lacking)
