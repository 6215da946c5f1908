use Rattle.std.proofs.Common.{◌≡◌, ℕ, List, ◌++◌, sym, ap, subst, Err}
use Rattle.ts_packet.specs.declared.reader.ReadFault.TheVariants.{Turns}
use Rattle.unit_cut.specs.FirstFault.{fault_of_stop}
use Rattle.unit_cut.specs.declared.run.CutFault.TheVariants.{Read}
use Rattle.unit_cut.specs.Runs.{Stops}
use Rattle.unit_cut.proofs.RunLemmas.{cut_none}
use Rattle.unit_cut.proofs.StopLemmas.{cuts_all, stops_at, network_blamed, output_blamed, turns_as}
use Rattle.unit_cut.proofs.run.cut.Goals as goal

pub returns-in-Ok-clause-ok : goal.returns-in-Ok-clause-ok
returns-in-Ok-clause-ok g c = λ start before held.
    let (pid, from, length, none) = cut_none c.new-cutting.result.cutter c.args.pid c.args.from c.args.length (rw c.new-cutting.ensures c.new.ensures) in
    let is_out = (λ (ps : List (List ℕ)). g.K.PacketSink.holds c.run_stage.new.out start (before ++ ps)) in
    cuts_all c.new-cutting.result c.run_stage.new.stage _ _ _ pid from length is_out _ (c.in-Ok.ensures.ok start before none held)

pub returns-in-Err-clause-err : goal.returns-in-Err-clause-err
returns-in-Err-clause-err g c = λ start before held.
    let (pid, from, length, none) = cut_none c.new-cutting.result.cutter c.args.pid c.args.from c.args.length (rw c.new-cutting.ensures c.new.ensures) in
    let is_out = (λ (ps : List (List ℕ)). g.K.PacketSink.holds c.run_stage.new.out start (before ++ ps)) in
    let fails = (λ (ps : List (List ℕ)). g.K.PacketSink.fails c.run_stage.new.out start (before ++ ps)) in
    let unsent = (λ (ps : List (List ℕ)). g.K.GatheringSink.fails_to_send c.run_stage.new.out start (before ++ ps)) in
    subst (λ f. Stops f c.args.pid c.args.from c.args.length (g.P.PacketSource.left c.args.network.now) is_out fails unsent) (sym c.of_stop.ensures)
    (stops_at c.new-cutting.result c.run_stage.new.stage _ _ _ pid from length is_out fails unsent c.in-Err.stop _ (c.in-Err.ensures.err start before none held))

pub returns-in-Ok-clause-devices : goal.returns-in-Ok-clause-devices
returns-in-Ok-clause-devices g c = record {
  read = c.in-Ok.ensures.read;
  wrote = c.in-Ok.ensures.wrote;
  read_so = tt;
  wrote_so = tt;
  turned = λ e. absurd (cc);
  reads = c.run_stage.ensures.reads;
  puts_on = c.run_stage.ensures.leads;
}

pub returns-in-Err-clause-devices : goal.returns-in-Err-clause-devices
returns-in-Err-clause-devices g c = record {
  read = tt;
  wrote = tt;
  read_so = rw c.of_stop.ensures (network_blamed c.in-Err.stop _ _ _ _ c.in-Err.ensures.reading);
  wrote_so = rw c.of_stop.ensures (output_blamed c.in-Err.stop _ _ _ c.in-Err.ensures.writing);
  turned = λ e.
      let name = c.of_stop.ensures in
      let same : fault_of_stop c.in-Err.stop ≡ Read Turns = cc in
      c.in-Err.ensures.turns (ap Err (turns_as c.in-Err.stop same));
  reads = c.run_stage.ensures.reads;
  puts_on = c.run_stage.ensures.leads;
}
