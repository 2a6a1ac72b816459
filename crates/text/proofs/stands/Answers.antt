-- `stands` meets its contract.
use mathlib.Core.Path.{sym, ◌∙◌}
use borrow.Author.Tests.{lt-leb}
use Rattle.std.proofs.Common.{rules, tests}
use Rattle.std.proofs.lemmas.Iterator.{YieldsList-from_slice, YieldsList-from_zip}
use Rattle.std.proofs.lemmas.Iterator.Search.{all_from_yields_List}
use Rattle.text.specs.Utf8.{within}
use Rattle.text.proofs.Rows.{inside, stands-all, stands-short}
use Rattle.text.proofs.stands.Goals as goal

pub returns-then-row-bytes : goal.returns-then-row-bytes
unfolding within
returns-then-row-bytes c =
    let row = c.args.row.now in
    let bytes = c.args.bytes.now in
    all_from_yields_List inside c.all.new.self _ c.all.result c.all.ensures.ran (YieldsList-from_zip (YieldsList-from_slice row cc) (YieldsList-from_slice bytes cc)) (λ x b q k. search (rules, tests))
    ∙ sym (stands-all row bytes c.if-row-bytes.true)

pub returns-else-row-bytes : goal.returns-else-row-bytes
returns-else-row-bytes c = lt-leb _ _ c.if-row-bytes.false ∙ sym (stands-short _ _ c.if-row-bytes.false)
