-- `find_nul` meets its contract.
use mathlib.Core.Path.{refl, sym, ap, ◌∙◌}
use borrow.Author.Tests.{lt-ltb, le-ltb}
use Rattle.std.proofs.Common.{rules, tests}
use Rattle.std.proofs.lemmas.Iterator.{YieldsList-from_slice, YieldsList-from_take}
use Rattle.std.proofs.lemmas.Iterator.Search.{position_from_yields_List}
use Rattle.names.proofs.Scanning.{is_nul, scanned, scan-is}
use Rattle.names.proofs.find_nul.Goals as goal

pub returns-in-Some : goal.returns-in-Some
returns-in-Some c =
    let first = position_from_yields_List is_nul _ _ c.position.result c.position.ensures.ran (YieldsList-from_take _ (YieldsList-from_slice c.unwrap_or-left.result.now cc) cc) (λ x b q k. search (rules, tests)) in
    sym (scan-is c.args.room c.args.buf.now c.args.pos _ _ c.get.ensures.lookup refl c.unwrap_or-left.ensures first ∙ ap (scanned _ _) c.in-Some.is)

pub returns-in-None : goal.returns-in-None
returns-in-None c =
    let first = position_from_yields_List is_nul _ _ c.position.result c.position.ensures.ran (YieldsList-from_take _ (YieldsList-from_slice c.unwrap_or-left.result.now cc) cc) (λ x b q k. search (rules, tests)) in
    sym
    (scan-is c.args.room c.args.buf.now c.args.pos _ _ c.get.ensures.lookup refl c.unwrap_or-left.ensures first
    ∙ rw (c.in-None.is, lt-ltb _ _ c.if-left-room.true))

pub returns-in-None-2 : goal.returns-in-None-2
returns-in-None-2 c =
    let first = position_from_yields_List is_nul _ _ c.position.result c.position.ensures.ran (YieldsList-from_take _ (YieldsList-from_slice c.unwrap_or-left.result.now cc) cc) (λ x b q k. search (rules, tests)) in
    sym
    (scan-is c.args.room c.args.buf.now c.args.pos _ _ c.get.ensures.lookup refl c.unwrap_or-left.ensures first
    ∙ rw (c.in-None.is, le-ltb _ _ c.if-left-room.false))
