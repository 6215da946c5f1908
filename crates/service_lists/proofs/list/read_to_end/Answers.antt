use Rattle.std.proofs.Common.{◌≡◌, ◌<◌, ◌++◌, [], length, take, ap, rules, arith}
use Rattle.std.proofs.KnownBytes.{Consumes-trans, Consumes-kept}
use Rattle.ts_packet.proofs.Cases.{on_ok_more}
use Rattle.unit_packing.proofs.PutLemmas.{if_err_both}
use Rattle.ts_packet.proofs.TransferLemmas.{at_end}
use Rattle.ad_lists.proofs.ListLemmas.{said_all}
use Rattle.service_lists.specs.Lists.{StopsAt}
use Rattle.service_lists.specs.declared.fault.ServicesFault.TheVariants.{Io, Turns}
use Rattle.service_lists.proofs.LoadingLemmas.{listed, stops, stops_end, said_on}
use Rattle.service_lists.proofs.list.read_to_end.Goals as goal
use Rattle.service_lists.proofs.list.read_to_end.Goals.{in-Ok+in-Ok-take_in, in-Err-Interrupted}

pub returns-in-Ok-eq0-clause-lists : goal.returns-in-Ok-eq0-clause-lists
returns-in-Ok-eq0-clause-lists g c =
    let (text, used, h) = c.loop-turn.invariant.read in
    let b = c.in-Ok-eq0.ensures.bytes in
    let zero : c.in-Ok-eq0.field-0 ≡ 0 = search rules in
    let none : take c.in-Ok-eq0.field-0 c.read.new.buf ≡ [] = ap (λ n. take n c.read.new.buf) zero in
    let room : 0 < length c.read.new.buf = search rules in
    on_ok_more c.load_line.result (λ l. (text, at_end _ _ _ text _ used b.0 none (b.1 zero room), listed c.loop-turn.loading c.load_line.new.self text h l)) (c.load_line.ensures.ok h.before h.services)

pub returns-in-Ok-eq0-clause-stops : goal.returns-in-Ok-eq0-clause-stops
returns-in-Ok-eq0-clause-stops g c =
    let (text, used, h) = c.loop-turn.invariant.read in
    let b = c.in-Ok-eq0.ensures.bytes in
    let zero : c.in-Ok-eq0.field-0 ≡ 0 = search rules in
    let none : take c.in-Ok-eq0.field-0 c.read.new.buf ≡ [] = ap (λ n. take n c.read.new.buf) zero in
    let room : 0 < length c.read.new.buf = search rules in
    if_err_both c.load_line.result (λ u s at. said_all (StopsAt u.fault u.line) _ text (at_end _ _ _ text _ used b.0 none (b.1 zero room)) (stops_end c.loop-turn.loading u.fault u.line text at h s)) c.load_line.ensures.stops c.load_line.ensures.at

pub loop-turn-preserved : goal.loop-turn-preserved
loop-turn-preserved g c =
    let (text, used, h) = c.loop-turn.invariant.read in
    elim c.match-read.branch [
      | in-Ok+in-Ok-take_in w ↦ record {
        turns = grind arith;
        well = record { calls = grind arith; failed = grind arith; zeros = grind arith };
        read = (text ++ take w.in-Ok.count c.read.new.buf, Consumes-trans _ _ _ _ _ used w.in-Ok.ensures.bytes.0, rw w.loading-is (w.in-Ok-take_in.ensures.ok text h));
      }
      | in-Err-Interrupted w ↦ record {
        turns = grind arith;
        well = record { calls = grind arith; failed = grind arith; zeros = grind arith };
        read = (text, Consumes-kept _ _ _ _ used w.in-Err-Interrupted.ensures.bytes, rw w.loading-is h);
      }
    ]

pub returns-in-Err-Failed-clause-stops : goal.returns-in-Err-Failed-clause-stops
returns-in-Err-Failed-clause-stops g c =
    let (text, used, h) = c.loop-turn.invariant.read in
    rw c.of_list.ensures.fault (said_on (StopsAt Io c.of_list.result.line) _ _ text used
    (λ more. stops c.loop-turn.loading Io c.of_list.result.line text more h tt c.of_list.ensures.line))

pub returns-clause-stops : goal.returns-clause-stops
returns-clause-stops g c =
    let (text, used, h) = c.loop-turn.invariant.read in
    rw c.of_list-2.ensures.fault (said_on (StopsAt Turns c.of_list-2.result.line) _ _ text used
    (λ more. stops c.loop-turn.loading Turns c.of_list-2.result.line text more h tt c.of_list-2.ensures.line))

pub returns-in-Ok-eq0-clause-described : goal.returns-in-Ok-eq0-clause-described
returns-in-Ok-eq0-clause-described g c = let (text, used, h) = c.loop-turn.invariant.read in c.load_line.ensures.described h.described
