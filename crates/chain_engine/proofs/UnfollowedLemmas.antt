-- A packet on whose PID nothing of a service is changes nothing of it.
use Rattle.std.proofs.Common.{◌≡◌, ℕ, List, [], ◌++◌, false, sym, ap, subst, ◌∙◌}
use Rattle.std.specs.Prelude.{Option, Some}
use Rattle.ts_packet.specs.Fields.{pid_of}
use Rattle.ts_packet.specs.Runs.{onto}
use Rattle.wire_fields.specs.Numbers.{AreBytes}
use Rattle.psi_tables.specs.declared.config.Config.{Config}
use Rattle.program_follower.specs.Purposes.{writing_cues}
use Rattle.program_follower.specs.Following.{IsUnfollowed}
use Rattle.program_follower.proofs.UnfollowedLemmas.{clean-past, unfollowed-alike}
use Rattle.injector.specs.Steps.{Step, packets_in, turns_in, has_news, cued}
use Rattle.injector.proofs.CuedLemmas.{cued-reads-again}
use Rattle.injector.proofs.PassedLemmas.{unfollowed-sent, injector-past}
use Rattle.ad_library.specs.Advertisements.{Advertisement}
use Rattle.splice_plans.specs.Adverts.{setting_of}
use Rattle.splice_switch.specs.Standing.{SwitchStandsFor}
use Rattle.splice_switch.proofs.UnfollowedLemmas.{unfollowed-out, switch-past}
use Rattle.chain_engine.specs.Passing.{switched_over, ServiceStandsFor, PassesBy}
use Rattle.chain_engine.specs.declared.service.Service.{Service}
use Rattle.chain_engine.proofs.PassingLemmas.{one_more}

-- THE LAW OF UNFOLLOWED PACKETS
pub passes-by : (s : Service) (c : Config) (filed : ℕ → Option Advertisement) (p : List ℕ) (steps : List Step) → ServiceStandsFor s c filed steps → AreBytes p
    → has_news c.index (turns_in c.program steps) ≡ false → IsUnfollowed (Some c.program) (Some c.cue_pid) (pid_of p) (packets_in steps) → PassesBy s c filed p steps
passes-by s c filed p steps h bytes quiet u =
    let net = packets_in steps in
    let out = cued c steps in
    let read = cued-reads-again c steps h.network.sound h.network.bytes in
    let v = unfollowed-alike (Some c.program) (Some c.cue_pid) (pid_of p) out net read.same_pat read.program u in
    let sent = unfollowed-sent s.injector c p steps h.injector quiet u in
    record {
      unfollowed = u;
      stands = record {
        injector = injector-past s.injector c p steps h.injector quiet u;
        switch = subst (λ qs. SwitchStandsFor s.switch c filed (onto out qs)) (sym sent) (switch-past c filed p out v s.switch h.switch);
        network = one_more c p net h.network bytes (clean-past (writing_cues c) p net u s.injector.follower h.injector.follower);
        config = h.config;
      };
      alone = ap (switched_over (setting_of c filed) out) sent ∙ ap (λ l. l ++ []) (unfollowed-out c filed p out v);
    }
