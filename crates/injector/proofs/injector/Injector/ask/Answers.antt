use Rattle.std.proofs.Common.{sym, ◌∙◌}
use Rattle.std.proofs.lemmas.Bool.{or_parts}
use Rattle.scte104_codec.specs.Views.{reading_of}
use Rattle.injector.specs.Steps.{turns_in, outcome, is_accepted, has_news}
use Rattle.injector.proofs.BoundLemmas.{rests-asked}
use Rattle.injector.proofs.injector.Injector.ask.Goals as goal

pub returns-clause-stands : goal.returns-clause-stands
returns-clause-stands c = λ cfg past b.
    let m = reading_of c.args.message in
    let turns = turns_in cfg.program past in
    let acc = is_accepted (outcome cfg.index m turns) in
    let answer = c.ask-reply.ensures.answer cfg.index turns b.judges.requests in
    let has = c.has_news_behind-self.ensures cfg.index m turns b.news answer in
    record {
      judges = record {
        requests = c.ask-reply.ensures.turn cfg.index turns b.judges.requests;
        counted = c.counted-self.ensures cfg.index m turns b.judges.counted answer;
      };
      cue_pid = b.cue_pid;
      notes = c.ask-reply.ensures.notes cfg.index turns b.judges.requests b.notes;
      news = has;
      rest = λ quiet.
          let both = or_parts (has_news cfg.index turns) acc (sym has ∙ quiet) in
          rests-asked cfg.index m turns c.args.self.now.rest both.1 (b.rest (b.news ∙ both.0));
      follower = b.follower;
      out = b.out;
      whole = b.whole;
    }
