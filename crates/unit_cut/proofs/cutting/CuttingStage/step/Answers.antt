use Rattle.std.proofs.Common.{[], ◌∷◌, ◌++◌, append_assoc}
use Rattle.unit_cut.proofs.RunLemmas.{stays, goes, adds, refused, is_cut_of}
use Rattle.unit_cut.proofs.cutting.CuttingStage.step.Goals as goal

pub returns-in-Ok-clause-ok : goal.returns-in-Ok-clause-ok
returns-in-Ok-clause-ok g c = λ first ps qs start before h held.
    let q = c.feed.new.packet in
    let fed = stays first.cutter c.args.self.now.cutter c.feed.new.self ps qs c.args.packet.now q c.args.kept.now h _ c.is_payload_on_pid-is_last.ensures
    (λ k b s. (rw c.in-Ok-true.field-0-test at (c.in-Ok-true.ensures.answers k _ b s), c.in-Ok-true.ensures.stands k _ b s)) in
    record {
      sent = qs ++ q ∷ [];
      sound = fed.0;
      sends_it = fed.1;
      out = rw (← append_assoc before qs (q ∷ [])) (c.in-Ok.ensures.ok start (before ++ qs) held);
    }

pub returns-in-Ok-false-clause-ok : goal.returns-in-Ok-false-clause-ok
returns-in-Ok-false-clause-ok g c = λ first ps qs start before h held.
    let fed = goes first.cutter c.args.self.now.cutter c.feed.new.self ps qs c.args.packet.now c.feed.new.packet c.args.kept.now h _ c.is_payload_on_pid-is_last.ensures
    (λ k b s. (rw c.in-Ok-false.field-0-test at (c.in-Ok-false.ensures.answers k _ b s), c.in-Ok-false.ensures.stands k _ b s)) in
    record { sent = qs; sound = fed.0; sends_it = fed.1; out = held }

pub returns-in-Err-put-clause-err : goal.returns-in-Err-put-clause-err
returns-in-Err-put-clause-err g c = λ first ps qs start before h held. record {
  sent = qs;
  packet = c.feed.new.packet;
  breaks_so = adds first.cutter c.args.self.now.cutter c.feed.new.self ps qs c.args.packet.now c.feed.new.packet c.args.kept.now h
      (λ k b s. (rw c.in-Ok-true.field-0-test at (c.in-Ok-true.ensures.answers k _ b s), c.in-Ok-true.ensures.stands k _ b s));
  failed = c.in-Err-put.ensures.err start (before ++ qs) held;
}

pub returns-in-Err-clause-err : goal.returns-in-Err-clause-err
returns-in-Err-clause-err g c = λ first ps qs start before h held. record {
  sent = qs;
  reason = refused first.cutter c.args.self.now.cutter c.feed.new.self ps qs c.args.packet.now c.feed.new.packet c.args.kept.now h c.in-Err.fault
      (λ k b s. (c.in-Err.ensures.answers k _ b s, c.in-Err.ensures.stands k _ b s));
  refuses_it = is_cut_of first.cutter c.args.self.now.cutter ps qs c.args.kept.now h;
  out = held;
}
