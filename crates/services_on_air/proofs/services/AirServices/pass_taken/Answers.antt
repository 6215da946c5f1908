use Rattle.std.proofs.Common.{◌++◌, subst, sym}
use Rattle.service_laws.specs.Services.{configs_of}
use Rattle.chain_engine.specs.Runs.{Exchanged}
use Rattle.chain_engine.specs.declared.talk.Talk.{Talk}
use Rattle.services_on_air.specs.Standing.{StillTold}
use Rattle.services_on_air.specs.declared.desk.AirDesk.{AirDesk}
use Rattle.services_on_air.proofs.AllLemmas.{filed-long}
use Rattle.services_on_air.proofs.services.AirServices.pass_taken.Goals as goal

pub returns-in-Ok-pass_heard-clause-stands : goal.returns-in-Ok-pass_heard-clause-stands
returns-in-Ok-pass_heard-clause-stands g c = λ cs past h many.
    let p = c.args.next.packet.now in
    let takers = c.args.takers in
    let settled = c.in-Ok.ensures.stands cs past h many in
    let quiet = c.hear.ensures.quiet cs p past settled in
    let told : StillTold c.hear.new.self.desk takers p = λ still. subst (λ (d : AirDesk g.row.M.Denot). StillTold d takers p) (sym (quiet still)) c.in-Ok.ensures.told still in
    c.in-Ok-pass_heard.ensures.stands cs past (c.hear.ensures.stands cs p past settled) many told

pub returns-in-Ok-pass_heard-clause-out : goal.returns-in-Ok-pass_heard-clause-out
returns-in-Ok-pass_heard-clause-out g c = λ ts past before start first apart stood filed h.
    let p = c.args.next.packet.now in
    let takers = c.args.takers in
    let cs = configs_of ts in
    let many = filed-long c.args.libraries.now ts filed in
    let x = Exchanged g.U.Automation.exchanges g.U.Automation.failures first in
    let (settled, ahead) = c.in-Ok.ensures.out ts past before h.takes h.rs start stood filed h.gone h.out in
    let came = subst (λ (w : Talk g.row.M.Denot). x c.args.automation.now w.end h.takes h.rs) (sym c.settle.ensures.talk) h.exchanges in
    let heard = c.hear.ensures.heard ts p past h.takes h.rs first apart settled came in
    let before_heard = c.in-Ok.ensures.stands cs past stood many in
    let st = c.hear.ensures.stands cs p past before_heard in
    let quiet = c.hear.ensures.quiet cs p past before_heard in
    let told : StillTold c.hear.new.self.desk takers p = λ still. subst (λ (d : AirDesk g.row.M.Denot). StillTold d takers p) (sym (quiet still)) c.in-Ok.ensures.told still in
    let here = subst (λ l. g.K.PacketSink.holds c.settle.new.out start (before ++ l)) (sym heard.same) ahead in
    let (gone, out) = c.in-Ok-pass_heard.ensures.out ts past before heard.takes heard.rs start st filed heard.heard told here in
    record {
      takes = heard.takes;
      rs = heard.rs;
      gone = gone;
      exchanges = subst (λ (w : Talk g.row.M.Denot). x c.hear.new.automation w.end heard.takes heard.rs) (sym c.pass_heard.ensures.talk) heard.exchanges;
      out = out;
    }
