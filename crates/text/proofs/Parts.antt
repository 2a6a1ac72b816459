-- The part of a name before its first NUL, and when it is the name's text.
use Rattle.std.specs.Prelude.{◌≡◌, ℕ, ◌-◌, ◌≤◌, Bool, true, false, List, length, take, Some, None, Result, Ok, Err}
use mathlib.Core.Path.{sym, ap, ◌∙◌}
use native.Mathlib.Omega.{arith}
use Rattle.std.specs.Bool.{then_some}
use Rattle.std.specs.Result.{result_ok}
use Rattle.std.proofs.lemmas.Option.{none-some}
use Rattle.refusals.specs.Refusals.{ok, consumed}
use Rattle.refusals.specs.declared.DecodeError.{DecodeError}
use Rattle.names.specs.Names.{nul_within}
use Rattle.names.proofs.Scanning.{found_ok, found_ends}
use Rattle.text.specs.Utf8.{well_formed}
use Rattle.text.specs.Text.{first_nul, part_before, has_text_before, has_text, text_of, FoundText}

-- where there is no text the part is the empty one
text-absent : (name : List ℕ) → has_text name ≡ false → FoundText name None
unfolding text_of
text-absent name failed = record { said = sym failed; inside = omega arith; part = rw failed }

module _ (name : List ℕ) (scan : Result ℕ DecodeError) (scanned : consumed scan ≡ nul_within (length name) name 0) where
  -- a name without NUL has no text
  pub none-told : result_ok scan ≡ None → FoundText name None
  unfolding first_nul has_text has_text_before
  none-told found = text-absent name (by scan scanned found)
    where
      by : (scan : Result ℕ DecodeError) → consumed scan ≡ nul_within (length name) name 0 → result_ok scan ≡ None → has_text name ≡ false
      by (Ok next) answer none = absurd (none-some next (sym none))
      by (Err why) answer none = rw (← answer)

  -- the part before the NUL is the text where it is well-formed, and there is none where it is not
  pub text-told
      : (next : ℕ) (formed : Bool) → Some next ≡ result_ok scan → formed ≡ well_formed (take (next - 1) name) → FoundText name (then_some formed (next - 1))
  unfolding first_nul has_text has_text_before text_of part_before
  text-told next formed found is =
      let nul : first_nul name ≡ ok next = sym scanned ∙ ap consumed (found_ok scan next found) in
      let has : has_text name ≡ formed = rw nul (sym is) in
      let ends = found_ends (length name) name scan next scanned found in
      by formed has nul (omega arith)
    where
      by : (b : Bool) → has_text name ≡ b → first_nul name ≡ ok next → next - 1 ≤ length name → FoundText name (then_some b (next - 1))
      by true has nul inside = record { said = sym has; inside = inside; part = rw (has, nul) }
      by false has nul inside = text-absent name has
