-- `sent_len` meets its contract.
use mathlib.Core.Path.{sym, ◌∙◌}
use lib.ListN.{drop}
use Rattle.std.proofs.Common.{rules, tests}
use Rattle.std.proofs.lemmas.Iterator.{YieldsList-from_slice}
use Rattle.std.proofs.lemmas.Iterator.Search.{all_from_yields_List}
use Rattle.names.proofs.Scanning.{is_nul, zeros-are, rest-whole, sent-is, none-sent}
use Rattle.names.proofs.sent_len.Goals as goal

pub returns-in_err-next : goal.returns-in_err-next
returns-in_err-next c = rw c.from_residual.ensures (sym (none-sent _ _ _ c.find_nul.ensures (sym c.ok.ensures.value ∙ c.in_err-next.was)))

pub returns : goal.returns
returns c =
    let left = drop c.in_ok-next.next c.args.held.now in
    let zeros = all_from_yields_List is_nul _ _ c.all.result c.all.ensures.ran (YieldsList-from_slice left (cc (rest-whole c.args.held.now c.in_ok-next.next))) (λ x b q k. search (rules, tests)) in
    rw c.then_some.ensures
    (sent-is _ _ _ _ _ c.find_nul.ensures c.in_ok-next.ensures.value (zeros ∙ sym (zeros-are left)))
