use Rattle.std.proofs.Common.{◌≡◌, ◌∷◌, ◌++◌, Some, sym, ap, subst, ◌∙◌, append_assoc}
use Rattle.program_follower.specs.Program.{pmt_pid_of, since_pat}
use Rattle.on_air.specs.Tails.{TailOf, tail_behind}
use Rattle.on_air.specs.AirOutputs.{sum_of}
use Rattle.on_air.proofs.OutputLemmas.{sum-none, sum-some}
use Rattle.on_air.proofs.air.Air.begin_anew.Goals.{in-None, in-Some}
use Rattle.on_air.proofs.air.Air.begin_anew.Goals as goal

pub returns-clause-out : goal.returns-clause-out
returns-clause-out g c = λ first purpose read ended last told qs start before tail sums airs is_held.
    let behind = tail_behind purpose read in
    let report = c.begin_anew-report.result.report in
    let here : TailOf c.match-self.self.tail purpose read = elim c.match-self.branch [
      | in-None w ↦ subst (λ a. TailOf a.tail purpose read) (sym w.self-is) tail
      | in-Some w ↦ subst (λ a. TailOf a.tail purpose read) (sym w.self-is) tail
    ] in
    let counted : Some c.match-self.ended ≡ sum_of g.S.AirStage.summed (report ∷ told) = elim c.match-self.branch [
      | in-None w ↦ ap Some w.ended-is ∙ sum-none g.S.AirStage.summed _ told report sums w.in-None.is
      | in-Some w ↦ ap Some (w.ended-is ∙ w.sum-ended.ensures) ∙ sum-some g.S.AirStage.summed _ told report _ sums w.in-Some.is
    ] in
    record {
      told = report ∷ told;
      ended_so = counted;
      airs_so = c.begin_anew-report.ensures.airs first ended last told qs behind airs;
      out = subst (g.K.PacketSink.holds _ start) (append_assoc before qs behind) (c.in_ok-put.ensures.puts (pmt_pid_of purpose.program read) (since_pat purpose.program read) start (before ++ qs) here is_held);
    }
