use Rattle.std.proofs.Common.{◌≡◌, ◌∷◌, ◌++◌, ◌∙◌, false, subst, sym}
use Rattle.std.specs.Prelude.{slice_index_or}
use Rattle.ts_packet.specs.Fields.{pid_of}
use Rattle.service_laws.specs.Services.{configs_of}
use Rattle.chain_engine.specs.Runs.{Exchanged}
use Rattle.chain_engine.specs.declared.talk.Talk.{Talk}
use Rattle.services_on_air.specs.Standing.{StillTold, TakerIsStill}
use Rattle.services_on_air.specs.declared.desk.AirDesk.{AirDesk}
use Rattle.services_on_air.proofs.FrontLemmas.{on-ok}
use Rattle.services_on_air.proofs.services.AirServices.pass_next.Goals as goal

pub returns-in-Ok-clause-stands : goal.returns-in-Ok-clause-stands
returns-in-Ok-clause-stands g c = λ cs past h many.
    let p = c.args.packet.now in
    let takers = c.takers-takers.result in
    let settled = c.in-Some.ensures.stands cs past h in
    let still : c.hear.new.self.desk.asks_all ≡ false = cc in
    let same = c.hear.ensures.quiet cs p past settled still in
    let told : StillTold c.hear.new.self.desk takers p = λ still. subst (λ (d : AirDesk g.row.M.Denot). takers ≡ slice_index_or d.owners (pid_of p) 0) (sym same) c.takers-takers.ensures.value in
    let taker = subst (λ (d : AirDesk g.row.M.Denot). TakerIsStill d c.in-Some.still takers p) (sym same) c.in-Some.ensures.taker in
    let passed = c.in-Ok.ensures.stands cs past (c.hear.ensures.stands cs p past settled) many told taker in
    c.passed_still.ensures.stands cs past c.in-Ok._passed passed c.in-Ok.ensures.still.0 c.in-Ok.ensures.still.1

pub returns-in-Ok-clause-out : goal.returns-in-Ok-clause-out
returns-in-Ok-clause-out g c = λ ts past before start first apart stood filed h.
    let p = c.args.packet.now in
    let takers = c.takers-takers.result in
    let cs = configs_of ts in
    let x = Exchanged g.U.Automation.exchanges g.U.Automation.failures first in
    let (settled, ahead) = c.in-Some.ensures.gone ts past h.takes h.rs stood h.gone in
    let heard = c.hear.ensures.heard ts p past h.takes h.rs first apart settled h.exchanges in
    let before_heard = c.in-Some.ensures.stands cs past stood in
    let st = c.hear.ensures.stands cs p past before_heard in
    let still : c.hear.new.self.desk.asks_all ≡ false = cc in
    let same = c.hear.ensures.quiet cs p past before_heard still in
    let told : StillTold c.hear.new.self.desk takers p = λ still. subst (λ (d : AirDesk g.row.M.Denot). takers ≡ slice_index_or d.owners (pid_of p) 0) (sym same) c.takers-takers.ensures.value in
    let taker = subst (λ (d : AirDesk g.row.M.Denot). TakerIsStill d c.in-Some.still takers p) (sym same) c.in-Some.ensures.taker in
    let here = subst (λ l. g.K.PacketSink.holds c.args.out.now start (before ++ l)) (ahead ∙ sym heard.same) h.out in
    let (gone, out) = c.in-Ok.ensures.out ts past before heard.takes heard.rs start st filed heard.heard told taker here in
    record {
      takes = heard.takes;
      rs = heard.rs;
      gone = c.passed_still.ensures.gone ts (p ∷ past) heard.takes heard.rs gone;
      exchanges = subst (λ (w : Talk g.row.M.Denot). x c.hear.new.automation w.end heard.takes heard.rs) (sym (c.passed_still.ensures.talk ∙ c.put_still.ensures.talk)) heard.exchanges;
      out = out;
    }

pub returns-clause-stands : goal.returns-clause-stands
returns-clause-stands g c = λ cs past h many.
    let p = c.args.packet.now in
    let takers = c.takers-takers.result in
    let settled = c.in-Some.ensures.stands cs past h in
    let quiet = c.hear.ensures.quiet cs p past settled in
    let told : StillTold c.hear.new.self.desk takers p = λ still. subst (λ (d : AirDesk g.row.M.Denot). takers ≡ slice_index_or d.owners (pid_of p) 0) (sym (quiet still)) c.takers-takers.ensures.value in
    c.pass_heard.ensures.stands cs past (c.hear.ensures.stands cs p past settled) many told

pub returns-clause-out : goal.returns-clause-out
returns-clause-out g c = λ ts past before start first apart stood filed h.
    let p = c.args.packet.now in
    let takers = c.takers-takers.result in
    let cs = configs_of ts in
    let x = Exchanged g.U.Automation.exchanges g.U.Automation.failures first in
    let (settled, ahead) = c.in-Some.ensures.gone ts past h.takes h.rs stood h.gone in
    let heard = c.hear.ensures.heard ts p past h.takes h.rs first apart settled h.exchanges in
    let before_heard = c.in-Some.ensures.stands cs past stood in
    let st = c.hear.ensures.stands cs p past before_heard in
    let quiet = c.hear.ensures.quiet cs p past before_heard in
    let told : StillTold c.hear.new.self.desk takers p = λ still. subst (λ (d : AirDesk g.row.M.Denot). takers ≡ slice_index_or d.owners (pid_of p) 0) (sym (quiet still)) c.takers-takers.ensures.value in
    let here = subst (λ l. g.K.PacketSink.holds c.args.out.now start (before ++ l)) (ahead ∙ sym heard.same) h.out in
    on-ok c.pass_heard.result _ _ (λ k. record {
      takes = heard.takes;
      rs = heard.rs;
      gone = k.0;
      exchanges = subst (λ (w : Talk g.row.M.Denot). x c.hear.new.automation w.end heard.takes heard.rs) (sym c.pass_heard.ensures.talk) heard.exchanges;
      out = k.1;
    }) (c.pass_heard.ensures.out ts past before heard.takes heard.rs start st filed heard.heard told here)
