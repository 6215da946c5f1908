use Rattle.std.proofs.Common.{◌++◌, false, length, refl, sym, ap, subst, ◌∙◌, arith}
use Rattle.std.proofs.lemmas.List.{append-nil}
use Rattle.ts_packet.specs.Fields.{pid_of}
use Rattle.service_laws.specs.Services.{configs_of}
use Rattle.chain_engine.specs.Runs.{steps_of}
use Rattle.services_on_air.specs.Airing.{nexts, airings}
use Rattle.services_on_air.specs.Outputs.{gones_behind, services_air}
use Rattle.services_on_air.specs.Owners.{MayAllStay, AreLeftOut}
use Rattle.services_on_air.specs.Serving.{AllGone}
use Rattle.services_on_air.proofs.HistoryLemmas.{at-packet, gones-settled, puts-settled, replies-at}
use Rattle.services_on_air.proofs.OwnerLemmas.{may-all, settled-owners, moved-gone}
use Rattle.services_on_air.proofs.StayLemmas.{all-stay, stay-gone}
use Rattle.services_on_air.proofs.services.AirServices.settle_none.Goals as goal

pub returns-clause-stands : goal.returns-clause-stands
returns-clause-stands g c = λ cs past h.
    let desk = c.args.self.now.desk in
    let items = desk.services.items in
    let p = c.args.packet.now in
    let xs = airings cs past in
    let zero = c.requires.none in
    let may = may-all desk.owners c.args.takers (pid_of p) desk.asks_all false items xs c.requires.takers c.requires.pid (λ n. c.requires.quiet) (λ n. omega (arith, zero)) h.owners h.judged refl in
    let k = all-stay items p xs h.all (subst (λ n. MayAllStay n items (pid_of p) xs) zero may) in
    record {
      ts = h.ts;
      n = h.n;
      k = h.k;
      talks = h.talks;
      all = k.settled;
      packets = h.packets;
      unjudged = h.unjudged;
      owners = settled-owners desk desk false p xs (λ y. absurd (cc)) (λ n. refl) (sym k.same) h.owners;
      left = λ quiet below. subst (λ n. AreLeftOut n items (pid_of p) (nexts p xs)) (sym zero ∙ c.requires.takers) k.left;
    }

pub returns-clause-gone : goal.returns-clause-gone
returns-clause-gone g c = λ ts past takes rs h gone.
    let desk = c.args.self.now.desk in
    let items = desk.services.items in
    let p = c.args.packet.now in
    let xs = airings (configs_of ts) past in
    let steps = steps_of (length rs) takes past in
    let at = at-packet (length rs) takes past in
    let gs = gones_behind ts xs steps in
    let air = services_air ts steps in
    let zero = c.requires.none in
    let may = may-all desk.owners c.args.takers (pid_of p) desk.asks_all false items xs c.requires.takers c.requires.pid (λ n. c.requires.quiet) (λ n. omega (arith, zero)) h.owners h.judged refl in
    let k = all-stay items p xs h.all (subst (λ n. MayAllStay n items (pid_of p) xs) zero may) in
    let (same, put) = stay-gone items ts gs p xs h.all gone.desk.all k.same in (
      record {
        talks = gone.talks;
        replies = gone.replies ∙ replies-at ts p steps at;
        counts = gone.counts;
        desk = moved-gone desk items desk.none ts _ refl refl (subst (AllGone items ts) (sym (gones-settled ts xs p steps at)) (subst (AllGone items ts) (sym same) gone.desk.all)) gone.desk.none;
      },
      sym (append-nil air) ∙ ap (λ l. air ++ l) (sym put ∙ puts-settled ts xs p steps),
    )
