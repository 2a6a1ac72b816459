-- `command_reader::write_command` meets its contract: a law for each way out.
use native.Mathlib.Omega.{arith}
use borrow.Author.Rules.{rules}
use Rattle.raw_command.proofs.Packing.{never-refused}
use Rattle.command_reader.proofs.Writing.{no-hops, too_long, too_small, parts-room, wrapped, never-unwrapped}
use Rattle.command_reader.proofs.write_command.Goals as goal

pub returns-then-hops_len-hops : goal.returns-then-hops_len-hops
returns-then-hops_len-hops c = no-hops _ _ _ (λ e. omega (arith, c.hops_len.ensures.0, e))

pub overflow_add-plain_len : goal.overflow_add-plain_len
overflow_add-plain_len c = omega (arith, c.parts_of-parts.ensures.narrow)

pub overflow_sub-plain_len : goal.overflow_sub-plain_len
overflow_sub-plain_len c = omega (arith, c.parts_of-parts.ensures.narrow)

pub returns-then-plain_len-hops : goal.returns-then-plain_len-hops
returns-then-plain_len-hops c =
    let s = c.args in
    let width = c.parts_of-parts.ensures.width in
    let narrow = c.parts_of-parts.ensures.narrow in
    too_long s.hops.now s.command s.buf.now (omega (arith, c.hops_len.ensures.0)) (omega arith)

pub overflow_add-len : goal.overflow_add-len
overflow_add-len c = omega (arith, c.parts_of-parts.ensures.narrow)

pub overflow_add-len-2 : goal.overflow_add-len-2
overflow_add-len-2 c = omega (arith, c.parts_of-parts.ensures.narrow)

pub returns-then-buf-len : goal.returns-then-buf-len
returns-then-buf-len c =
    let s = c.args in
    let width = c.parts_of-parts.ensures.width in
    let narrow = c.parts_of-parts.ensures.narrow in
    too_small s.hops.now s.command s.buf.now (omega (arith, c.hops_len.ensures.0)) (omega arith) (omega arith)

pub returns-in_err-end : goal.returns-in_err-end
returns-in_err-end c = never-refused (omega arith) c.in_err-end.ensures

pub returns-in_err-pack_parts : goal.returns-in_err-pack_parts
returns-in_err-pack_parts c =
    let s = c.args in
    let width = c.parts_of-parts.ensures.width in
    let narrow = c.parts_of-parts.ensures.narrow in
    never-refused
    (parts-room s.hops.now s.command s.buf.now (omega (arith, c.hops_len.ensures.0)) c.parts_of-parts.ensures (omega arith) (omega arith) c.in_ok-end.ensures (search rules))
    c.in_err-pack_parts.ensures

pub returns-in_err-wrap : goal.returns-in_err-wrap
returns-in_err-wrap c =
    let s = c.args in
    let width = c.parts_of-parts.ensures.width in
    let narrow = c.parts_of-parts.ensures.narrow in
    never-unwrapped s.hops.now s.command s.buf.now (omega (arith, c.hops_len.ensures.0)) c.parts_of-parts.ensures (omega arith) (omega arith) c.in_ok-end.ensures
    c.pack_parts.ensures (omega arith) c.in_err-wrap.ensures

pub returns : goal.returns
returns c =
    let s = c.args in
    let width = c.parts_of-parts.ensures.width in
    let narrow = c.parts_of-parts.ensures.narrow in
    wrapped s.hops.now s.command s.buf.now (omega (arith, c.hops_len.ensures.0)) c.parts_of-parts.ensures (omega arith) (omega arith) c.in_ok-end.ensures
    c.pack_parts.ensures (omega arith) c.in_ok-wrap.ensures
