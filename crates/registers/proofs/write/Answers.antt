-- `registers::write` meets its contract.
use lib.ListN.{set}
use Rattle.refusal.specs.Numbers.{number_of, code_of}
use Rattle.block.specs.Block.{flags_at, flags_in, cleared}
use Rattle.registers.proofs.Commands.{is_command_lem, no_command}
use Rattle.registers.proofs.Writes.{write_none, write_flags, write_low, write_mask, write_other, by_length, by_command, by_refused, by_stored}
use native.Mathlib.Omega.{arith}
use Rattle.registers.proofs.write.Goals as goal
use Rattle.registers.proofs.write.Goals.{in_default-byte-via-then-byte-lt1, in_default-byte-via-else-byte-lt1+else-byte-lt4}

pub returns-then-block-ne-LENGTH : goal.returns-then-block-ne-LENGTH
returns-then-block-ne-LENGTH c = let r = by_length c.args.state.now c.args.block.now c.args.at c.args.byte c.if-block-ne-LENGTH.true in record { number = r.0; block = r.1.0; state = r.1.1 }

pub returns-in-1-to-3 : goal.returns-in-1-to-3
returns-in-1-to-3 c = let r = by_command c.args.state.now c.args.block.now c.args.at c.args.byte (omega arith) (code_of c.command.result) c.command.new.block c.command.new.state c.in-16.is (is_command_lem c.args.byte (omega arith) (omega arith)) (c.command.ensures.number, (c.command.ensures.block, c.command.ensures.state)) in record { number = r.0; block = r.1.0; state = r.1.1 }

pub returns-in_default-byte : goal.returns-in_default-byte
returns-in_default-byte c = let r = by_refused c.args.state.now c.args.block.now c.args.at c.args.byte (omega arith) (number_of c.refuse.result) c.refuse.new.block (write_none c.args.state.now c.args.block.now c.args.at c.args.byte (omega arith) c.in-16.is (no_command c.args.byte (λ l h. elim c.in_default-byte.branch [ in_default-byte-via-then-byte-lt1 w ↦ omega arith | in_default-byte-via-else-byte-lt1+else-byte-lt4 w ↦ omega arith ]))) c.refuse.ensures.number c.refuse.ensures.block in record { number = r.0; block = r.1.0; state = r.1.1 }

pub returns-in-18 : goal.returns-in-18
returns-in-18 c = let r = by_stored c.args.state.now c.args.block.now c.args.at c.args.byte (omega arith) c.clear.new.block (set c.args.block.now flags_at (cleared (flags_in c.args.block.now) c.args.byte)) (write_flags c.args.state.now c.args.block.now c.args.at c.args.byte (omega arith) c.in-18.is) c.clear.ensures in record { number = r.0; block = r.1.0; state = r.1.1 }

pub returns-in-19 : goal.returns-in-19
returns-in-19 c = let r = by_stored c.args.state.now c.args.block.now c.args.at c.args.byte (omega arith) c.store.new.block (set c.args.block.now c.args.at c.args.byte) (write_mask c.args.state.now c.args.block.now c.args.at c.args.byte (omega arith) c.in-19.is) c.store.ensures in record { number = r.0; block = r.1.0; state = r.1.1 }

pub returns-in-0-to-15 : goal.returns-in-0-to-15
returns-in-0-to-15 c = let r = by_stored c.args.state.now c.args.block.now c.args.at c.args.byte (omega arith) c.store-in-0-to-15.new.block (set c.args.block.now c.args.at c.args.byte) (write_low c.args.state.now c.args.block.now c.args.at c.args.byte (omega arith) (omega arith)) c.store-in-0-to-15.ensures in record { number = r.0; block = r.1.0; state = r.1.1 }

pub returns-in_default : goal.returns-in_default
returns-in_default c = let d = c.in_default.in_default-own.rest in let r = by_refused c.args.state.now c.args.block.now c.args.at c.args.byte (omega arith) (number_of c.refuse-in_default.result) c.refuse-in_default.new.block (write_other c.args.state.now c.args.block.now c.args.at c.args.byte (omega arith) (omega arith) d.0.0.1 d.0.1 d.1) c.refuse-in_default.ensures.number c.refuse-in_default.ensures.block in record { number = r.0; block = r.1.0; state = r.1.1 }
