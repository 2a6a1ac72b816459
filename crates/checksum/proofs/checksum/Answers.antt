-- `checksum::checksum` meets its contract: the fold goes over the bytes in order, so it gives the register of the whole message,
-- which is the remainder.
use mathlib.Core.Path.{◌≡◌, refl, ◌∙◌}
use borrow.Author.Rules.{rules}
use Rattle.std.proofs.lemmas.Fn.{fold_over, fronts, slice_gives}
use Rattle.checksum.specs.Xmodem.{register_from, register_of}
use Rattle.checksum.proofs.Remainder.{register-is-remainder}
use Rattle.checksum.proofs.Turns.{byte_more}
use Rattle.checksum.proofs.checksum.Goals as goal

pub returns : goal.returns
unfolding register_of register_from
returns c =
    fold_over fronts (λ y. y.now) _ (λ ys a. a ≡ register_from 0 ys) _ (λ ys a x b f' j k. (byte_more ys a _ b j (search rules), search rules))
    c.iter.result c.iter.result.rest.now _ _ (slice_gives c.iter.result) refl c.fold.ensures.ran
    ∙ rw c.iter.ensures.rest (register-is-remainder c.args.bytes.now)
