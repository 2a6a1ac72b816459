-- The gateway feed, by cases; and beside the Rust's `feed`, which clears nothing of a drained buffer.
use mathlib.Core.Path.{◌≡◌, refl, sym, ap, ◌∙◌, subst}
use mathlib.Core.Bool.{Bool, true, false, cond, true≢false}
use mathlib.Core.List.{List, [], ◌++◌, append-nil}
use mathlib.Core.Logic.{◌⊎◌, inl, inr, ⊎_elim}
use Prim.Native.Nat.{ℕ, ◌+◌, ◌-◌, ◌<◌, ◌≤◌, min}
use native.Mathlib.Omega.{arith}
use native.Mathlib.Nat.{min-le_right}
use borrow.Author.Tests.{ltb-false, ne_eqb, eqb-false}
use lib.Dec.{ltb, eqb}
use lib.ListN.{length, take}
use lib.Seq.{take-length}
use Rattle.refusals.specs.Refusals.{Refusal, ok, refused, not_drained}
use Rattle.refusals.specs.Answers.{place_or}
use Rattle.refusals.proofs.Different.{none}
use Rattle.buffer.specs.Buffer.{Buffer, at_front, moved, emptied, fitting, copied, feed_count, fed_buffer, gateway_answer, gateway_count, gateway_buffer}
use Rattle.buffer.specs.Gateway.{NeverClears, GatewayFeed}
use Rattle.buffer.proofs.Feeding.{Fits, moved-fits, copied-fits, moved-when, moved_same, emptied-not, mark-off, taken}

-- a count is no refusal
different : {A : Type 0} {count : ℕ} {why : Refusal} → ok count ≡ refused why → A
different e = none (cc)

-- ---- by the tests that a program makes

module _ (buffer : Buffer) (piece : List ℕ) where
  -- what is ready for the copying, and what of the piece fits behind it
  abbrev ready : Buffer
  ready = moved (length piece) buffer

  abbrev fits : ℕ
  fits = fitting (length piece) ready

  pub gateway-empty : eqb (length piece) 0 ≡ true → (gateway_answer buffer piece ≡ ok 0) × (gateway_buffer buffer piece ≡ buffer)
  unfolding gateway_answer gateway_buffer
  gateway-empty e = (simp e, simp e)

  module _ (some : eqb (length piece) 0 ≡ false) where
    pub gateway-takes : buffer.drained ≡ true → (gateway_answer buffer piece ≡ ok fits) × (gateway_buffer buffer piece ≡ copied piece fits ready)
    unfolding gateway_answer gateway_buffer
    gateway-takes e = (simp (some, e), simp (some, e))

    pub gateway-refuses : buffer.drained ≡ false → (gateway_answer buffer piece ≡ refused not_drained) × (gateway_buffer buffer piece ≡ buffer)
    unfolding gateway_answer gateway_buffer
    gateway-refuses e = (simp (some, e), simp (some, e))

  -- Refused is a nonempty piece in a buffer that is not drained, and no other.
  gateway-why : gateway_answer buffer piece ≡ refused not_drained → (0 < length piece) × (buffer.drained ≡ false)
  gateway-why e = by (eqb (length piece) 0) refl buffer.drained refl
    where
      by : (a : Bool) → eqb (length piece) 0 ≡ a → (b : Bool) → buffer.drained ≡ b → (0 < length piece) × (b ≡ false)
      by true f b m = different (sym (gateway-empty f).0 ∙ e)
      by false f true m = different (sym (gateway-takes f m).0 ∙ e)
      by false f false m = let apart : length piece ≡ 0 → ⊥ = eqb-false _ _ f in (omega arith, refl)

  -- ---- what it may do

  -- nothing: the piece is empty, or it is refused
  pub record Stays : Type 0 where
    pub none : gateway_count buffer piece ≡ 0
    pub same : gateway_buffer buffer piece ≡ buffer

  -- or it takes of a nonempty piece what fits
  pub record Takes : Type 0 where
    pub some : 0 < length piece
    pub drained : buffer.drained ≡ true
    pub count : gateway_count buffer piece ≡ fits
    pub after : gateway_buffer buffer piece ≡ copied piece fits ready

  pub goes : Stays ⊎ Takes
  goes = by (eqb (length piece) 0) refl buffer.drained refl
    where
      by : (a : Bool) → eqb (length piece) 0 ≡ a → (b : Bool) → buffer.drained ≡ b → Stays ⊎ Takes
      by true e b m = let g = gateway-empty e in inl (record { none = ap (place_or 0) g.0; same = g.1 })
      by false e true m =
          let g = gateway-takes e m in
          let apart : length piece ≡ 0 → ⊥ = eqb-false _ _ e in
          inr (record { some = omega arith; drained = m; count = ap (place_or 0) g.0; after = g.1 })
      by false e false m = let g = gateway-refuses e m in inl (record { none = ap (place_or 0) g.0; same = g.1 })

  -- It takes no more than is offered.
  pub gateway-most : gateway_count buffer piece ≤ length piece
  unfolding fitting
  gateway-most = ⊎_elim (λ s. omega (arith, s.none)) (λ t. rw t.count (min-le_right _ _)) goes

  -- What was unread still is, with what was taken behind it.
  pub gateway-keeps : (gateway_buffer buffer piece).unread ≡ buffer.unread ++ take (gateway_count buffer piece) piece
  unfolding copied
  gateway-keeps =
      ⊎_elim (λ s. ap (λ (l : Buffer). l.unread) s.same ∙ sym (append-nil buffer.unread) ∙ ap (λ (n : ℕ). buffer.unread ++ take n piece) (sym s.none))
      (λ t. ap (λ (l : Buffer). l.unread) t.after ∙ (λ i. moved_same (λ (l : Buffer). l.unread) (length piece) buffer refl i ++ take (sym t.count i) piece))
      goes

  pub gateway-cleared : (gateway_buffer buffer piece).cleared ≡ buffer.cleared
  unfolding copied
  gateway-cleared = ⊎_elim (λ s. ap (λ (l : Buffer). l.cleared) s.same) (λ t. ap (λ (l : Buffer). l.cleared) t.after ∙ moved_same (λ (l : Buffer). l.cleared) (length piece) buffer refl) goes

  -- A mark that is there after it was there before it, and nothing changed.
  pub gateway-mark : (gateway_buffer buffer piece).drained ≡ true → gateway_buffer buffer piece ≡ buffer
  unfolding copied
  gateway-mark m =
      ⊎_elim (λ s. s.same)
      (λ t. absurd (true≢false (sym m ∙ ap (λ (l : Buffer). l.drained) t.after ∙ mark-off (length piece) ready.drained t.some)))
      goes

  -- It leaves a buffer that calls can make.
  pub gateway-fits : Fits buffer → Fits (gateway_buffer buffer piece)
  gateway-fits f =
      ⊎_elim (λ s. subst Fits (sym s.same) f) (λ t. subst Fits (sym t.after) (copied-fits piece ready (moved-fits (length piece) buffer f))) goes

  -- ---- beside `feed`

  -- "after moving them there is always room"
  moved-room : 0 < length piece → length buffer.unread < 512 → ready.wpos < 512
  unfolding moved
  moved-room some short = by (ltb (512 - buffer.wpos) (length piece)) refl
    where
      by : (b : Bool) → ltb (512 - buffer.wpos) (length piece) ≡ b → (cond b (at_front buffer) buffer).wpos < 512
      by true e = short
      by false e = let tail : length piece ≤ 512 - buffer.wpos = ltb-false _ _ e in omega arith

  pub never-clears : buffer.drained ≡ true → length buffer.unread ≤ 109 → 0 < length piece → NeverClears buffer piece
  unfolding feed_count fed_buffer
  never-clears m few some =
      let room = moved-room some (omega arith) in
      let kept : emptied ready ≡ ready = emptied-not ready (λ q. omega arith) in
      let g = gateway-takes (ne_eqb (length piece) 0 (λ q. omega arith)) m in
      record {
        room = room;
        not-emptied = kept;
        same_count = g.0 ∙ ap (λ (l : Buffer). ok (fitting (length piece) l)) (sym kept);
        takes-some = (taken buffer piece some (omega arith)).some;
        same-buffer = g.1 ∙ ap (λ (l : Buffer). copied piece (fitting (length piece) l) l) (sym kept);
      }

  -- Where the tail is full, a piece that fits behind the unread bytes is taken whole.
  pub gateway-whole : buffer.drained ≡ true → buffer.wpos ≡ 512 → 0 < length piece → length buffer.unread + length piece ≤ 512
      → (gateway_count buffer piece ≡ length piece) × ((gateway_buffer buffer piece).unread ≡ buffer.unread ++ piece)
  unfolding fitting
  gateway-whole m end some room =
      let front = moved-when (length piece) buffer (omega arith) in
      let full : min (512 - length buffer.unread) (length piece) ≡ length piece = omega arith in
      let all : fits ≡ length piece = ap (λ (l : Buffer). fitting (length piece) l) front ∙ full in
      let n = ap (place_or 0) (gateway-takes (ne_eqb (length piece) 0 (λ q. omega arith)) m).0 ∙ all in
      (n, gateway-keeps ∙ ap (λ (k : ℕ). buffer.unread ++ take k piece) n ∙ ap (λ (l : List ℕ). buffer.unread ++ l) (take-length piece))

pub gateway-feed : GatewayFeed
gateway-feed =
    record {
      drained = never-clears;
      empty = λ buffer. gateway-empty buffer [] refl;
      not-drained = λ buffer piece. (gateway-why buffer piece, λ (some, m). (gateway-refuses buffer piece (ne_eqb (length piece) 0 (λ q. omega arith)) m).0);
      nothing-changed = λ buffer piece e.
          let why = gateway-why buffer piece e in
          (gateway-refuses buffer piece (ne_eqb (length piece) 0 (λ q. omega (arith, why.0))) why.1).1;
      keeps = gateway-keeps;
      none-cleared = gateway-cleared;
    }
