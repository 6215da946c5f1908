use Rattle.std.proofs.Common.{◌≡◌, ◌<◌, [], length, take, ap, rules}
use Rattle.ts_packet.proofs.TransferLemmas.{at_end}
use Rattle.automations.proofs.StopLemmas.{all_no_script, begun_no_script, when_ok}
use Rattle.automations.proofs.MemoryLemmas.{all_lacks, begun_lacks}
use Rattle.automations.proofs.script.load_into.Goals as goal

pub returns-in-Ok-eq0-clause-stops : goal.returns-in-Ok-eq0-clause-stops
returns-in-Ok-eq0-clause-stops g c = λ fresh bad.
    let (text, used, h) = c.loop-turn.invariant.read fresh in
    let b = c.in-Ok-eq0.ensures.bytes in
    let zero : c.in-Ok-eq0.field-0 ≡ 0 = search rules in
    let none : take c.in-Ok-eq0.field-0 c.read.new.buf ≡ [] = ap (λ n. take n c.read.new.buf) zero in
    let room : 0 < length c.read.new.buf = search rules in
    all_no_script _ text (at_end _ _ _ text _ used b.0 none (b.1 zero room)) (c.finish.ensures.stops text h bad)

pub returns-in-Ok-eq0-clause-whole : goal.returns-in-Ok-eq0-clause-whole
returns-in-Ok-eq0-clause-whole g c = λ fresh.
    let (text, used, h) = c.loop-turn.invariant.read fresh in
    let b = c.in-Ok-eq0.ensures.bytes in
    let zero : c.in-Ok-eq0.field-0 ≡ 0 = search rules in
    let none : take c.in-Ok-eq0.field-0 c.read.new.buf ≡ [] = ap (λ n. take n c.read.new.buf) zero in
    let room : 0 < length c.read.new.buf = search rules in
    when_ok c.finish.result (λ whole. (text, at_end _ _ _ text _ used b.0 none (b.1 zero room), whole)) (c.finish.ensures.ok text h)

pub returns-in-Err-clause-stops : goal.returns-in-Err-clause-stops
returns-in-Err-clause-stops g c = λ fresh bad.
    let (text, used, h) = c.loop-turn.invariant.read fresh in
    begun_no_script _ _ _ text (take c.in-Ok.count c.read.new.buf) used c.in-Ok.ensures.bytes.0 (c.in-Err.ensures.stops text h bad)

pub returns-in-Ok-eq0-clause-memory : goal.returns-in-Ok-eq0-clause-memory
returns-in-Ok-eq0-clause-memory g c = λ fresh lack.
    let (text, used, h) = c.loop-turn.invariant.read fresh in
    let b = c.in-Ok-eq0.ensures.bytes in
    let zero : c.in-Ok-eq0.field-0 ≡ 0 = search rules in
    let none : take c.in-Ok-eq0.field-0 c.read.new.buf ≡ [] = ap (λ n. take n c.read.new.buf) zero in
    let room : 0 < length c.read.new.buf = search rules in
    all_lacks c.finish.new.self _ text (at_end _ _ _ text _ used b.0 none (b.1 zero room)) (c.finish.ensures.memory text h lack)

pub returns-in-Err-clause-memory : goal.returns-in-Err-clause-memory
returns-in-Err-clause-memory g c = λ fresh lack.
    let (text, used, h) = c.loop-turn.invariant.read fresh in
    begun_lacks c.take_in.new.self _ _ _ text (take c.in-Ok.count c.read.new.buf) used c.in-Ok.ensures.bytes.0 (c.in-Err.ensures.memory text h lack)
