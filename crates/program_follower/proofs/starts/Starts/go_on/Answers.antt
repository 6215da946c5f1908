use Rattle.std.proofs.Common.{◌≡◌, ℕ, Some, sym, ap, ◌∙◌}
use Rattle.std.specs.Prelude.{option_map}
use Rattle.pes_time.specs.Line.{ring_of}
use Rattle.program_follower.specs.Streaming.{first_on}
use Rattle.program_follower.proofs.GoOnLemmas.{clear-payload}
use Rattle.program_follower.proofs.PieceLemmas.{high_other}
use Rattle.program_follower.proofs.StreamLemmas.{first_is_on, starts_all_on, is_one}
use Rattle.program_follower.proofs.starts.Starts.go_on.Goals as goal

pub returns-then-is_start : goal.returns-then-is_start
returns-then-is_start c = λ ps past of clear h.
    let p = c.args.packet.now in
    let x : ℕ × ℕ = (c.args.of.stream, of.0) in
    let e : first_on ps p ≡ Some x = of.1.0 in
    record {
      places = h.places;
      clock = c.passed-self.ensures ps x.1 p past (is_one ps p past x e) of.1.1 h.clock;
      readers = starts_all_on c.args.self.now.readers c.feed_at-begun.new.readers ps p past x e h.readers c.feed_at-begun.ensures.others
          (λ d k. c.feed_at-begun.ensures.reads d x.1 past (clear-payload p clear x.1 (first_is_on ps p x e)) k);
    }

pub returns-else-is_start : goal.returns-else-is_start
returns-else-is_start c = λ ps past of clear h.
    let p = c.args.packet.now in
    let x : ℕ × ℕ = (c.args.of.stream, of.0) in
    let e : first_on ps p ≡ Some x = of.1.0 in
    let none = sym (c.is_start.ensures ps x.1 p past of.1.1) ∙ c.if-is_start.false in
    record {
      places = h.places;
      clock = h.clock ∙ ap (option_map ring_of) (sym (high_other ps x.1 p past (is_one ps p past x e) none));
      readers = starts_all_on c.args.self.now.readers c.feed_at-begun.new.readers ps p past x e h.readers c.feed_at-begun.ensures.others
          (λ d k. c.feed_at-begun.ensures.reads d x.1 past (clear-payload p clear x.1 (first_is_on ps p x e)) k);
    }
