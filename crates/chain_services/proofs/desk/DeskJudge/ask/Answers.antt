use Rattle.std.proofs.Common.{◌++◌, ◌∷◌, [], sym, subst}
use Rattle.chain_engine.specs.Runs.{replies_by}
use Rattle.chain_services.specs.Serving.{reply_by, CountsReplies}
use Rattle.chain_services.proofs.ServingLemmas.{counts_last}
use Rattle.std.proofs.lemmas.Bool.{true≢false}
use Rattle.injector.specs.Steps.{packets_in}
use Rattle.chain_services.specs.Owners.{HasOwners}
use Rattle.chain_services.proofs.desk.DeskJudge.ask.Goals as goal

pub returns : goal.returns
returns g c = record {
  goes = λ ts steps apart h.
      let (says, serve, none) = c.judge-reply.ensures.judged ts steps apart h.services h.none in
      let rs = replies_by (reply_by ts) steps in
      let now = c.counted-self.result in
      let before = subst (λ n. CountsReplies n.messages n.accepted n.refused rs) (sym c.judge-reply.ensures.counts) h.counts in
      let counted = counts_last now.messages now.accepted now.refused c.judge-reply.result rs (c.counted-self.ensures rs before) in (
        says,
        record {
          services = serve;
          none = none;
          counts = subst (λ r. CountsReplies now.messages now.accepted now.refused (rs ++ r ∷ [])) says counted;
          owners = subst (λ o. HasOwners o ts (packets_in steps)) (sym c.judge-reply.ensures.owners) h.owners;
          quiet = λ e. absurd (true≢false e);
        },
      );
}
