use Rattle.std.proofs.Common.{refl, sym, ◌∙◌}
use Rattle.stream_facts.specs.Judging.{fed_of}
use Rattle.stream_facts.proofs.JudgeLemmas.{nothing_found, judged_more}
use Rattle.stream_facts.proofs.judge.Judge.feed.Goals as goal

pub returns : goal.returns
returns c = λ k past h at.
    let none = nothing_found c.args.self.now.verdict (sym c.is_some.ensures ∙ c.if-is_some.false) in
    judged_more (record { follower = c.fault_of-self.new.self.follower; damage = c.args.damage; verdict = c.fault_of-self.result }) k
    (fed_of c.args.packet.now c.args.damage) past (sym h.verdict ∙ none) refl (c.fault_of-self.ensures k past h none at)
