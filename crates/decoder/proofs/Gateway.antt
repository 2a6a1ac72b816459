-- What `gateway_feed` hands back, where it takes nothing and where it takes a byte or more; and beside `feed`.
use mathlib.Core.Path.{◌≡◌, sym, ap, ◌∙◌}
use mathlib.Core.Bool.{true, false}
use mathlib.Core.List.{List}
use Prim.Native.Nat.{ℕ}
use native.Mathlib.Omega.{arith}
use borrow.Author.Tests.{eqb-false}
use lib.Dec.{eqb}
use lib.ListN.{length}
use Rattle.refusals.specs.Refusals.{ok}
use Rattle.refusals.specs.Answers.{place_or}
use Rattle.buffer.specs.Buffer.{Buffer, moved, fitting, copied, gateway_answer, gateway_buffer}
use Rattle.buffer.proofs.Gateway.{gateway-takes, never-clears}
use Rattle.decoder.specs.declared.Decoder.{Decoder}
use Rattle.std.specs.Prelude.{Result, Ok}
use Rattle.refusals.specs.declared.FeedError.{FeedError}
use Rattle.decoder.specs.State.{buffer_of, fields_buffer, Sound, taken_answer, GatewayFeedIs}
use Rattle.decoder.proofs.States.{holds}
use Rattle.decoder.proofs.Runs.{fits}

module _ (self : Decoder) (piece : List ℕ) where
  -- Nothing is taken: the state comes back.
  pub gateway-stays : (answer : Result ℕ FeedError) (d : Decoder) → Sound d → fields_buffer d ≡ buffer_of self → (Sound self → d ≡ self)
      → (gateway_answer (buffer_of self) piece ≡ taken_answer answer) × (gateway_buffer (buffer_of self) piece ≡ buffer_of self)
      → GatewayFeedIs self piece (record { answer = answer; decoder = d })
  gateway-stays answer d sound held same (a, stays) =
      record { answer = sym a; after = holds _ d sound (held ∙ sym stays); unchanged = λ s none. same s }

  -- Of a nonempty piece, in a drained state, a byte or more is taken: `ready` is what was made ready for the copying.
  pub gateway_copied : {ready : Buffer} (count : ℕ) (d : Decoder) → eqb (length piece) 0 ≡ false → (buffer_of self).drained ≡ true
      → ready ≡ moved (length piece) (buffer_of self) → count ≡ fitting (length piece) ready → Sound d → fields_buffer d ≡ copied piece count ready
      → GatewayFeedIs self piece (record { answer = Ok count; decoder = d })
  gateway_copied count d some m same n sound held =
      let apart : length piece ≡ 0 → ⊥ = eqb-false _ _ some in
      let never = never-clears (buffer_of self) piece m ((fits self).few m) (omega arith) in
      let g = gateway-takes (buffer_of self) piece some m in
      let all = n ∙ ap (fitting (length piece)) same in
      record {
        answer = ap ok all ∙ sym g.0;
        after = holds _ d sound (held ∙ (λ i. copied piece (all i) (same i)) ∙ sym g.1);
        unchanged = λ s none. absurd (omega (arith, never.takes-some, ap (place_or 0) never.same_count, none));
      }
