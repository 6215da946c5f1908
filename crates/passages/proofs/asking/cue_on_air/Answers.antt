use Rattle.std.proofs.Common.{sym, subst}
use Rattle.passages.specs.Runs.{AskerTells, Untold}
use Rattle.passages.specs.declared.asking.Asker.TheVariants as asker
use Rattle.passages.proofs.PassageLemmas.{if_ok_so, script_tells}
use Rattle.passages.proofs.AirLemmas.{air_cues_so}
use Rattle.passages.proofs.asking.cue_on_air.Goals as goal

pub returns-in-Script-clause-done : goal.returns-in-Script-clause-done
returns-in-Script-clause-done g c = λ d start h out. if_ok_so c.inject_heard_on_air.result _ _ (λ report. air_cues_so _ (AskerTells g.W.Write.contents c.args.asker.now (asker.Script c.inject_heard_on_air.new.automation))
    (λ ending ts rs few x. subst (λ a. AskerTells g.W.Write.contents a (asker.Script c.inject_heard_on_air.new.automation) ending ts rs) (sym c.in-Script.is) (script_tells g.W.Write.contents c.in-Script.script c.inject_heard_on_air.new.automation ending ts rs few x.exchanges))
    (g.K.PacketSink.holds c.inject_heard_on_air.new.out start) d (g.P.PacketSource.left c.args.network.now) report) (c.inject_heard_on_air.ensures.done d start h out)

pub returns-in-Port-clause-done : goal.returns-in-Port-clause-done
returns-in-Port-clause-done g c = λ d start h out. if_ok_so c.inject_listening_on_air.result _ _ (λ report. air_cues_so Untold (AskerTells g.W.Write.contents c.args.asker.now (asker.Port c.in-Port.listener))
    (λ ending ts rs few x. subst (λ a. AskerTells g.W.Write.contents a (asker.Port c.in-Port.listener) ending ts rs) (sym c.in-Port.is) (tt, tt)) (g.K.PacketSink.holds c.inject_listening_on_air.new.out start) d (g.P.PacketSource.left c.args.network.now) report) (c.inject_listening_on_air.ensures.done d start h out)
