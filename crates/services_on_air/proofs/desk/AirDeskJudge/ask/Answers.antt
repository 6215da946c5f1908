use Rattle.std.proofs.Common.{refl, sym, subst}
use Rattle.chain_services.specs.Serving.{CountsReplies}
use Rattle.chain_services.proofs.ServingLemmas.{counts_last}
use Rattle.services_on_air.proofs.desk.AirDeskJudge.ask.Goals as goal

pub returns : goal.returns
returns g c = record {
  goes = λ p xs h. c.judge-reply.ensures.stands p xs h;
  answers = λ ts gs h. let (says, desk) = c.judge-reply.ensures.gone ts gs h in (says, record { all = desk.all; none = desk.none });
  counts = λ rs h.
      let now = c.counted-self.result in
      let before = subst (λ n. CountsReplies n.messages n.accepted n.refused rs) (sym c.judge-reply.ensures.counts) h in
      counts_last now.messages now.accepted now.refused c.judge-reply.result rs (c.counted-self.ensures rs before);
  owners = c.judge-reply.ensures.owners;
  asks = refl;
}
