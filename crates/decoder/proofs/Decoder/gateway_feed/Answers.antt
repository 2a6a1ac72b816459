-- `decoder::Decoder::gateway_feed` meets its contract.
use mathlib.Core.Path.{sym, ap, ◌∙◌}
use borrow.Author.Tests.{not-false}
use lib.ListN.{length}
use Rattle.buffer.specs.Buffer.{Buffer, moved}
use Rattle.decoder.proofs.Gateway.{gateway_copied}
use Rattle.decoder.proofs.Decoder.gateway_feed.Goals as goal

pub returns : goal.returns
returns c =
    let settled = c.settled-settled in
    let piece = c.args.piece.now in
    gateway_copied c.args.self piece _ _
    (sym c.is_empty.ensures ∙ c.if-is_empty.false)
    (sym (ap (λ (l : Buffer). l.drained) settled.ensures.buffer) ∙ not-false _ c.if-not-settled.false)
    (c.moved.ensures ∙ ap (moved (length piece)) settled.ensures.buffer)
    c.copied-count.ensures.count
    c.copied-count.result.1.sound
    c.copied-count.ensures.buffer
