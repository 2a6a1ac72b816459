-- `decoder::Decoder::next` meets its contract: by where the search ended.
use Rattle.decoder.proofs.Seeking.{told, next-found, next-nothing}
use Rattle.decoder.proofs.Decoder.next.Goals as goal

pub returns-in-Some : goal.returns-in-Some
returns-in-Some c =
    let d = c.settled-settled.result in
    next-found d.decoder d.sound _ c.unread-unread.ensures c.args.self c.settled-settled.ensures.buffer _ _
    (told _ _ _ _ c.in-Some.is c.seek-over.ensures) _ c.reply_in-reply.ensures _ _ c.saturating_add-in-Some.ensures c.saturating_add.ensures

pub returns-in-None : goal.returns-in-None
returns-in-None c =
    let d = c.settled-settled.result in
    next-nothing d.decoder d.sound _ c.unread-unread.ensures c.args.self c.settled-settled.ensures.buffer _
    (told _ _ _ _ c.in-None.is c.seek-over.ensures) _ c.saturating_add.ensures
