use Rattle.std.proofs.Common.{◌≡◌, ◌++◌, [], ◌∷◌, length, refl, sym, ap, subst, ◌∙◌, append_assoc, arith}
use Rattle.ts_packet.specs.Fields.{pid_of}
use Rattle.service_laws.specs.Services.{configs_of}
use Rattle.chain_engine.specs.Runs.{steps_before}
use Rattle.services_on_air.specs.Airing.{nexts, airings}
use Rattle.services_on_air.specs.Outputs.{put_for_all, put_by_each}
use Rattle.services_on_air.specs.Owners.{AreLeftOut}
use Rattle.services_on_air.specs.Serving.{gones_ahead, air_ahead}
use Rattle.services_on_air.proofs.AllLemmas.{none-put, passed-gone, passed-air}
use Rattle.services_on_air.proofs.HistoryLemmas.{puts-on}
use Rattle.services_on_air.proofs.OwnerLemmas.{owners-behind}
use Rattle.services_on_air.proofs.StayLemmas.{all-pass, pass-gone}
use Rattle.services_on_air.proofs.services.AirServices.put_beside.Goals as goal

pub returns-in-Ok-clause-stands : goal.returns-in-Ok-clause-stands
returns-in-Ok-clause-stands g c = λ cs past h told.
    let desk = c.args.self.now.desk in
    let items = desk.services.items in
    let p = c.args.packet.now in
    let xs = nexts p (airings cs past) in
    let zero = c.requires.none in
    let is = sym (told c.requires.quiet) ∙ zero in
    let left = subst (λ n. AreLeftOut n items (pid_of p) xs) is (h.left c.requires.quiet (omega (arith, is))) in
    let k = all-pass items p xs h.all left in
    let beside = c.beside.ensures in
    record {
      ts = h.ts;
      n = h.n;
      k = h.k;
      talks = h.talks;
      all = k.stand;
      packets = h.packets;
      unjudged = h.unjudged;
      is = record { own = beside.own ∙ sym k.own; unjudged = beside.unjudged ∙ sym k.unjudged; learns = beside.learns ∙ sym k.learns };
      owners = λ still. owners-behind desk.owners xs k.learns h.owners;
      judged = λ quiet. k.judged;
    }

pub returns-in-Ok-clause-out : goal.returns-in-Ok-clause-out
returns-in-Ok-clause-out g c = λ ts past before takes rs start st h told is_held.
    let old = c.args.self.now in
    let desk = old.desk in
    let items = desk.services.items in
    let p = c.args.packet.now in
    let ys = nexts p (airings (configs_of ts) past) in
    let holds = g.K.PacketSink.holds c.put.new.self start in
    let steps = steps_before (length rs) takes past in
    let ended = air_ahead ts p past steps in
    let gs = gones_ahead ts ys steps in
    let zero = c.requires.none in
    let is = sym (told c.requires.quiet) ∙ zero in
    let left = subst (λ n. AreLeftOut n items (pid_of p) ys) is (st.left c.requires.quiet (omega (arith, is))) in
    let k = all-pass items p ys st.all left in
    let (gone, put) = pass-gone items ts gs p ys c.of_bytes.ensures st.all left h.desk.all in
    let none : [] ≡ put_by_each ts p ys steps = sym put ∙ puts-on ts ys p steps in
    let more = c.in-Ok.ensures.ok start (before ++ ended) is_held in
    let all = subst (λ l. holds ((before ++ ended) ++ l)) (ap (λ l. l ++ p ∷ []) none ∙ none-put ts p ys steps k.own) more in (
      passed-gone old old ts p past takes rs h refl refl refl st.all gone,
      subst (λ l. holds (before ++ l)) (passed-air ts p past takes rs) (subst holds (append_assoc before ended (put_for_all ts p ys steps)) all),
    )
