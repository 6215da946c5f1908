use Rattle.std.proofs.Common.{◌≡◌, ◌<◌, ◌++◌, [], length, take, ap, rules, arith}
use Rattle.std.proofs.KnownBytes.{Consumes-trans, Consumes-kept}
use Rattle.ts_packet.proofs.Cases.{on_ok_more, if_err_more}
use Rattle.ts_packet.proofs.TransferLemmas.{at_end}
use Rattle.ad_lists.specs.Lists.{StopsAt, StandsIn}
use Rattle.ad_lists.proofs.ListLemmas.{said_all, said_behind, stands}
use Rattle.ad_lists.proofs.list.load_into.Goals as goal
use Rattle.ad_lists.proofs.list.load_into.Goals.{in-Ok+in-Ok-take_in, in-Err-Interrupted}

pub returns-in-Ok-eq0-clause-lists : goal.returns-in-Ok-eq0-clause-lists
returns-in-Ok-eq0-clause-lists g c =
    let (text, used, h) = c.loop-turn.invariant.read in
    let b = c.in-Ok-eq0.ensures.bytes in
    let zero : c.in-Ok-eq0.field-0 ≡ 0 = search rules in
    let none : take c.in-Ok-eq0.field-0 c.read.new.buf ≡ [] = ap (λ n. take n c.read.new.buf) zero in
    let room : 0 < length c.read.new.buf = search rules in
    on_ok_more c.finish.result (λ l. (text, at_end _ _ _ text _ used b.0 none (b.1 zero room), l)) (c.finish.ensures.ok text h)

pub returns-in-Ok-eq0-clause-stops : goal.returns-in-Ok-eq0-clause-stops
returns-in-Ok-eq0-clause-stops g c =
    let (text, used, h) = c.loop-turn.invariant.read in
    let b = c.in-Ok-eq0.ensures.bytes in
    let zero : c.in-Ok-eq0.field-0 ≡ 0 = search rules in
    let none : take c.in-Ok-eq0.field-0 c.read.new.buf ≡ [] = ap (λ n. take n c.read.new.buf) zero in
    let room : 0 < length c.read.new.buf = search rules in
    if_err_more c.finish.result (λ f s. said_all (StopsAt f) _ text (at_end _ _ _ text _ used b.0 none (b.1 zero room)) s) (c.finish.ensures.stops text h)

pub returns-in-Ok-eq0-clause-stands : goal.returns-in-Ok-eq0-clause-stands
returns-in-Ok-eq0-clause-stands g c =
    let (text, used, h) = c.loop-turn.invariant.read in
    let b = c.in-Ok-eq0.ensures.bytes in
    let zero : c.in-Ok-eq0.field-0 ≡ 0 = search rules in
    let none : take c.in-Ok-eq0.field-0 c.read.new.buf ≡ [] = ap (λ n. take n c.read.new.buf) zero in
    let room : 0 < length c.read.new.buf = search rules in
    if_err_more c.finish.result (λ f s. said_all (StandsIn c.finish.new.self) _ text (at_end _ _ _ text _ used b.0 none (b.1 zero room)) s) (c.finish.ensures.stands text h)

pub loop-turn-preserved : goal.loop-turn-preserved
loop-turn-preserved g c =
    let (text, used, h) = c.loop-turn.invariant.read in
    elim c.match-read.branch [
      | in-Ok+in-Ok-take_in w ↦ record {
        turns = grind arith;
        well = record { calls = grind arith; failed = grind arith; zeros = grind arith };
        read = (text ++ take w.in-Ok.count c.read.new.buf, Consumes-trans _ _ _ _ _ used w.in-Ok.ensures.bytes.0, rw w.loading-is (w.in-Ok-take_in.ensures.ok text h));
      }
      | in-Err-Interrupted w ↦ record {
        turns = grind arith;
        well = record { calls = grind arith; failed = grind arith; zeros = grind arith };
        read = (text, Consumes-kept _ _ _ _ used w.in-Err-Interrupted.ensures.bytes, rw w.loading-is h);
      }
    ]

pub returns-in-Ok-eq0-clause-described : goal.returns-in-Ok-eq0-clause-described
returns-in-Ok-eq0-clause-described g c = let (text, used, h) = c.loop-turn.invariant.read in c.finish.ensures.described text h
