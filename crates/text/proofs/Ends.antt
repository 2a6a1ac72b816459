-- A name has a text exactly where its first NUL follows well-formed bytes, and these are the text.
use Rattle.std.specs.Prelude.{◌≡◌, ℕ, zero, suc, ◌+◌, ◌-◌, ◌<◌, Bool, true, false, cond, eqb, List, [], ◌∷◌, length, get_or, take}
use mathlib.Core.Path.{refl, sym, ◌∙◌}
use mathlib.Core.Bool.{false≢true}
use native.Mathlib.Omega.{arith}
use borrow.Author.Tests.{eqb-true, eqb-false, eq-eqb, ne_eqb}
use Rattle.refusals.specs.Refusals.{Answer, ok, refused}
use Rattle.refusals.proofs.Different.{none}
use Rattle.names.specs.Names.{nul_within}
use Rattle.text.specs.Utf8.{well_formed}
use Rattle.text.specs.Text.{first_nul, part_before, has_text_before, has_text, text_of, FirstNulAt, TextEndsAt, TextOfName}
use Rattle.text.proofs.Rule.{well-formed-iff}

-- the first NUL of the bytes left, just before the next place
abbrev Met : List ℕ → ℕ → ℕ → Type 0
Met left place next = (k : ℕ) × FirstNulAt left k × (next ≡ place + k + 1)

-- one byte of a scan
byte-met
    : (byte : ℕ) (left : List ℕ) (place next : ℕ) (on : Answer ℕ) (t : Bool) → eqb byte 0 ≡ t → (on ≡ ok next → Met left (place + 1) next)
    → cond t (ok (place + 1)) on ≡ ok next → Met (byte ∷ left) place next
byte-met byte left place next on true is rest e =
    let here : place + 1 ≡ next = cc in
    (0, record { inside = omega arith; nul = eqb-true byte 0 is; first = λ j less. absurd (omega arith) }, omega arith)
byte-met byte left place next on false is rest e =
    let met = rest e in
    (suc met.0, record { inside = omega (arith, met.1.inside); nul = met.1.nul; first = earlier }, omega (arith, met.2))
  where
    earlier : (j : ℕ) → j < suc (rest e).0 → get_or (byte ∷ left) j 1 ≡ 0 → ⊥
    earlier zero less = eqb-false byte 0 is
    earlier (suc j) less = (rest e).1.first j (omega arith)

-- a scan that gives a place has met the first NUL just before it
nul-met : (room : ℕ) (left : List ℕ) (place next : ℕ) → nul_within room left place ≡ ok next → Met left place next
unfolding nul_within
nul-met zero left place next e = none (cc)
nul-met (suc room) [] place next e = none (cc)
nul-met (suc room) (byte ∷ left) place next e = byte-met byte left place next _ (eqb byte 0) refl (nul-met room left (place + 1) next) e

-- and a first NUL within the room is met
nul-meets : (room : ℕ) (left : List ℕ) (place k : ℕ) → k < room → FirstNulAt left k → nul_within room left place ≡ ok (place + k + 1)
unfolding nul_within
nul-meets zero left place k within nul = absurd (omega arith)
nul-meets (suc room) [] place k within nul = absurd (omega (arith, nul.inside))
nul-meets (suc room) (byte ∷ left) place zero within nul = let here : place + 0 + 1 ≡ place + 1 = omega arith in rw (eq-eqb byte 0 nul.nul, here)
nul-meets (suc room) (byte ∷ left) place (suc k) within nul =
    let on : place + suc k + 1 ≡ place + 1 + k + 1 = omega arith in
    rw (ne_eqb byte 0 (nul.first 0 (omega arith)), on)
    (nul-meets room left (place + 1) k (omega arith) (record { inside = omega (arith, nul.inside); nul = nul.nul; first = λ j less. nul.first (suc j) (omega arith) }))

module _ (name : List ℕ) where
  -- where the first NUL stands at k, the answers of the two functions
  nul-given : (k : ℕ) → FirstNulAt name k → first_nul name ≡ ok (k + 1)
  unfolding first_nul
  nul-given k nul = let same : 0 + k + 1 ≡ k + 1 = omega arith in rw same at (nul-meets (length name) name 0 k nul.inside nul)

  has-at : (k : ℕ) → FirstNulAt name k → has_text name ≡ well_formed (take k name)
  unfolding has_text has_text_before part_before
  has-at k nul = let all : k + 1 - 1 ≡ k = omega arith in rw (nul-given k nul, all)

  held : (k : ℕ) → TextEndsAt name k → has_text name ≡ true
  held k text = has-at k text.nul ∙ (well-formed-iff (take k name)).1 text.formed

  bytes-at : (k : ℕ) → TextEndsAt name k → text_of name ≡ take k name
  unfolding text_of part_before
  bytes-at k text = let all : k + 1 - 1 ≡ k = omega arith in rw (held k text, nul-given k text.nul, all)

  ends : has_text name ≡ true → (k : ℕ) × TextEndsAt name k
  unfolding has_text has_text_before first_nul
  ends has = go (first_nul name) refl
    where
      go : (a : Answer ℕ) → first_nul name ≡ a → (k : ℕ) × TextEndsAt name k
      go (refused why) e = absurd (false≢true (rw e at has))
      go (ok next) e =
          let met = nul-met (length name) name 0 next e in
          (met.0, record { nul = met.1; formed = (well-formed-iff _).0 (sym (has-at met.0 met.1) ∙ has) })

  no_bytes : (t : Bool) → has_text name ≡ t → ((k : ℕ) → TextEndsAt name k → ⊥) → text_of name ≡ []
  unfolding text_of
  no_bytes true e absent = let text = ends e in absurd (absent text.0 text.1)
  no_bytes false e absent = rw e

  pub text-of-name : (has : Bool) (part : List ℕ) → has ≡ has_text name → part ≡ text_of name → TextOfName name has part
  text-of-name has part said is =
      record {
        exactly = (λ e. ends (sym said ∙ e), λ text. said ∙ held text.0 text.1);
        bytes = λ k text. is ∙ bytes-at k text;
        absent = λ absent. is ∙ no_bytes (has_text name) refl absent;
      }
