use Rattle.std.proofs.Common.{suc, ◌+◌, ◌++◌, length}
use Rattle.services_on_air.specs.Airing.{nexts, airings}
use Rattle.std.proofs.Common.{sym, subst}
use Rattle.services_on_air.specs.Owners.{HasOwnersAhead}
use Rattle.services_on_air.proofs.PassLemmas.{asked-all}
use Rattle.services_on_air.proofs.OwnerLemmas.{owners-stay, heard-left, none-judged}
use Rattle.services_on_air.proofs.HeardLemmas.{heard}
use Rattle.services_on_air.proofs.services.AirServices.hear.Goals as goal

pub returns-clause-stands : goal.returns-clause-stands
returns-clause-stands g c = λ cs p past h.
    let (more, rs, talks, replied) = c.listen.ensures.talk h.ts h.n h.k h.talks in
    record {
      ts = h.ts ++ more;
      n = h.n + length rs;
      k = suc h.k;
      talks = talks;
      all = asked-all c.args.self.now.desk c.listen.new.judge _ rs p (nexts p (airings cs past)) replied.judged h.all;
      packets = h.packets;
      unjudged = h.unjudged;
      owners = subst (λ o. HasOwnersAhead o (nexts p (airings cs past))) (sym (owners-stay c.args.self.now.desk c.listen.new.judge _ rs replied.judged)) h.owners;
      left = heard-left c.args.self.now.desk c.listen.new.judge _ rs p (nexts p (airings cs past)) replied.judged h.left;
    }

pub returns-clause-heard : goal.returns-clause-heard
returns-clause-heard g c = λ ts p past takes rs first apart h exchanged.
    heard g.U.Automation.exchanges g.met.U.Automation.exchanges_refl g.met.U.Automation.exchanges_trans g.U.Automation.failures first ts apart p past takes rs c.args.automation.now c.listen.new.automation c.args.self.now _
    h exchanged c.listen.ensures.talk c.listen.ensures.closed c.listen.ensures.failures

pub returns-clause-quiet : goal.returns-clause-quiet
returns-clause-quiet g c = λ cs p past h still.
    let (more, rs, talks, replied) = c.listen.ensures.talk h.ts h.n h.k h.talks in
    none-judged c.args.self.now.desk c.listen.new.judge _ rs replied.judged still
