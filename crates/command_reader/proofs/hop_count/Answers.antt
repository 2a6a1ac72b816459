-- `command_reader::hop_count` meets its contract: what the chain says of a pair that passed its test.
use Rattle.std.proofs.Common.{arith, rules, ◌≡◌, ◌<◌, ◌≤◌, ◌+◌, ◌*◌, ℕ, List, length, get_or, Option, Some, None, Bor, sym, ◌∙◌}
use Rattle.std.specs.Option.{IfSome, option_map}
use Rattle.std.specs.List.{IsSubsliceAt}
use Rattle.command_reader.proofs.hop_count.Goals as goal

-- the first byte of the pair at place k, which passed the test
passed-byte
    : {P : Bor (List ℕ) → Type 0} (item other : Option (Bor (List ℕ))) {some : Bor (List ℕ)} (bytes xs : List ℕ) (k size : ℕ) → size ≡ 2
    → option_map (λ y. y) item ≡ Some some → other ≡ item → xs ≡ bytes
    → IfSome other (λ x. (length x.now ≡ size) × (k * size + size ≤ length xs) × IsSubsliceAt size xs (k * size) x.now)
    → IfSome item P → ((x : Bor (List ℕ)) → P x → get_or x.now 0 0 ≡ 34)
    → get_or bytes (k * 2) 0 ≡ 34
passed-byte None None bytes xs k size two is same rest pair passes test = absurd (cc)
passed-byte None (Some y) bytes xs k size two is same rest pair passes test = absurd (cc)
passed-byte (Some x) None bytes xs k size two is same rest pair passes test = absurd (cc)
passed-byte (Some x) (Some y) bytes xs k size two is same rest pair passes test =
    let here : y ≡ x = cc in
    let reads : get_or y.now 0 0 ≡ get_or xs (k * size + 0) 0 = pair.2.2 0 0 (omega arith) in
    let place : k * size + 0 ≡ k * 2 = rw two (omega arith) in
    let there : get_or x.now 0 0 ≡ get_or bytes (k * 2) 0 = rw (← here, ← rest, ← place) reads in
    sym there ∙ test x passes

pub returns-clause-hops : goal.returns-clause-hops
returns-clause-hops c k below =
    let r = c.count.ensures.runs in
    let u = r.0 in
    let t = c.take_while.ensures.runs u u.seen r.1 in
    let q = t.0 in
    let two : q.from.size ≡ 2 = search rules in
    let len : k < u.len = search rules in
    passed-byte (u.at k) (q.at k) c.args.bytes.now q.from.rest.now k q.from.size two (u.reads k c.args.bytes len) (t.2.1 k len) (search rules)
    ((c.chunks_exact.ensures.runs q q.seen (omega arith)).2 k) ((t.2.2 (search rules)).0 k) (λ x p. search rules)
