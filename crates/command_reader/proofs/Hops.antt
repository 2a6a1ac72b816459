-- Hops at the front of bytes: how many of them, what follows, and what a hop part of the form is.
use mathlib.Core.Bool.{Bool, true, false, cond}
use mathlib.Core.Logic.{◌↔◌}
use mathlib.Core.Path.{◌≡◌, refl, sym, ap, ◌∙◌}
use mathlib.Core.List.{List, [], ◌∷◌, ◌++◌}
use Prim.Native.Nat.{ℕ, zero, suc, ◌*◌, ◌+◌, ◌≤◌, ◌<◌}
use native.Mathlib.Omega.{arith}
use lib.Dec.{eqb}
use lib.ListN.{length, get_or, take}
use borrow.Author.Tests.{eq-eqb, ne_eqb, eqb-true}
use Rattle.encode.specs.Payload.{hop_bytes}
use Rattle.command_reader.specs.Reader.{hop_size}
use Rattle.command_reader.specs.Writer.{is_hops}

-- ---- there are no more hops than bytes

pub hops-within : (bytes : List ℕ) → hop_size bytes ≤ length bytes
unfolding hop_size
hops-within [] = omega arith
hops-within (first ∷ []) = omega arith
hops-within (first ∷ second ∷ rest) = go (eqb first 34) (hops-within rest)
  where
    go : (hop : Bool) → hop_size rest ≤ length rest → cond hop (2 + hop_size rest) 0 ≤ suc (suc (length rest))
    go true within = omega arith
    go false within = omega arith

-- ---- the front of bytes

-- so many pairs that begin with 34, and then none
pub hops-counted
    : (count : ℕ) (bytes : List ℕ) → count * 2 ≤ length bytes → ((k : ℕ) → k < count → get_or bytes (k * 2) 0 ≡ 34)
    → (count * 2 + 2 ≤ length bytes → get_or bytes (count * 2) 0 ≡ 34 → ⊥) → count * 2 ≡ hop_size bytes
unfolding hop_size
hops-counted zero [] within each ends = refl
hops-counted zero (one ∷ []) within each ends = refl
hops-counted zero (first ∷ second ∷ bytes) within each ends = rw (ne_eqb first 34 (ends (omega arith)))
hops-counted (suc count) [] within each ends = absurd (omega arith)
hops-counted (suc count) (one ∷ []) within each ends = absurd (omega arith)
hops-counted (suc count) (first ∷ second ∷ bytes) within each ends =
    let next : (k : ℕ) → suc k * 2 ≡ suc (suc (k * 2)) = λ k. omega arith in
    let there : (k : ℕ) → get_or (first ∷ second ∷ bytes) (suc k * 2) 0 ≡ get_or bytes (k * 2) 0 = λ k. ap (λ (i : ℕ). get_or (first ∷ second ∷ bytes) i 0) (next k) in
    let behind = hops-counted count bytes (omega arith) (λ k below. sym (there k) ∙ each (suc k) (omega arith)) (λ more e. ends (omega arith) (there count ∙ e)) in
    rw (eq-eqb first 34 (each 0 (omega arith))) (omega arith)

-- bytes that begin with something else
pub other-front : (first : ℕ) (rest : List ℕ) → eqb first 34 ≡ false → hop_size (first ∷ rest) ≡ 0
unfolding hop_size
other-front first [] other = refl
other-front first (second ∷ rest) other = rw other

-- ---- a hop part of the form, and what follows it

abbrev pub OfForm : List ℕ → Type 0
OfForm part = hop_size part ≡ length part

pub hops-in-front : (part rest : List ℕ) → OfForm part → hop_size rest ≡ 0 → hop_size (part ++ rest) ≡ length part
unfolding hop_size
hops-in-front [] rest form none = none
hops-in-front (first ∷ []) rest form none = absurd (omega arith)
hops-in-front (first ∷ second ∷ part) rest form none = go (eqb first 34) form (λ f. hops-in-front part rest f none)
  where
    go : (hop : Bool) → cond hop (2 + hop_size part) 0 ≡ suc (suc (length part)) → (OfForm part → hop_size (part ++ rest) ≡ length part)
        → cond hop (2 + hop_size (part ++ rest)) 0 ≡ suc (suc (length part))
    go true form on = let below : hop_size part ≡ length part = omega arith in rw (on below) (omega arith)
    go false form on = absurd (omega arith)

-- the hops at the front of bytes are of the form
pub front-form : (bytes : List ℕ) → OfForm (take (hop_size bytes) bytes)
unfolding hop_size
front-form [] = refl
front-form (first ∷ []) = refl
front-form (first ∷ second ∷ rest) = go (eqb first 34) refl (front-form rest)
  where
    go : (hop : Bool) → eqb first 34 ≡ hop → OfForm (take (hop_size rest) rest)
        → OfForm (take (cond hop (2 + hop_size rest) 0) (first ∷ second ∷ rest))
    go true e form = let two : 2 + hop_size rest ≡ suc (suc (hop_size rest)) = omega arith in rw (two, e, form) (omega arith)
    go false e form = refl

-- what `encode` writes for hops is of the form, and nothing else is
pub bytes-form : (ids : List ℕ) → OfForm (hop_bytes ids)
unfolding hop_size hop_bytes
bytes-form [] = refl
bytes-form (id ∷ ids) = rw (bytes-form ids) (omega arith)

pub form-bytes : (part : List ℕ) → OfForm part → (ids : List ℕ) × (part ≡ hop_bytes ids)
unfolding hop_size hop_bytes
form-bytes [] form = ([], refl)
form-bytes (first ∷ []) form = absurd (omega arith)
form-bytes (first ∷ second ∷ part) form = go (eqb first 34) refl form (form-bytes part)
  where
    go : (hop : Bool) → eqb first 34 ≡ hop → cond hop (2 + hop_size part) 0 ≡ suc (suc (length part))
        → (OfForm part → (ids : List ℕ) × (part ≡ hop_bytes ids)) → (ids : List ℕ) × (first ∷ second ∷ part ≡ hop_bytes ids)
    go true e form on =
        let below : hop_size part ≡ length part = omega arith in
        let rest = on below in
        (second ∷ rest.0, rw (eqb-true first 34 e, ← rest.1))
    go false e form on = absurd (omega arith)

pub hops-form : (part : List ℕ) → (is_hops part ≡ true) ↔ ((ids : List ℕ) × (part ≡ hop_bytes ids))
hops-form part = (λ e. form-bytes part (eqb-true _ _ e), λ is. rw is.1 (eq-eqb _ _ (bytes-form is.0)))
