use Rattle.std.proofs.Common.{refl, false, ◌≡◌, sym, subst, []}
use Rattle.std.proofs.lemmas.Bool.{true≢false}
use Rattle.std.proofs.lemmas.Option.{none-some}
use Rattle.ts_packet.specs.Numbering.{Counts}
use Rattle.splice_plans.specs.declared.stream.SwitchedStream.{SwitchedStream}
use Rattle.splice_plans.specs.Switching.{high_at}
use Rattle.splice_plans.specs.Known.{plans_at}
use Rattle.splice_playing.proofs.FrontLemmas.{each-new}
use Rattle.splice_playing.proofs.playing.Playing.new.Goals as goal

pub returns : goal.returns
returns c = λ k steps. record {
  events = c.new.ensures.obeys k.cue_pid (high_at k) refl;
  plans = c.new.ensures.values k.cue_pid (high_at k) (plans_at k [] []) refl;
  streams = λ i s l. subst (λ (t : SwitchedStream). Counts t.counter [] × (t.is_leaving ≡ false)) (sym (each-new c.new-2.result i s l)) (c.new-2.ensures.counter, c.new-2.ensures.leaving);
  leaving = λ i pid u s l of leaves inside. absurd (true≢false (sym inside));
  forgotten = c.new-4.ensures;
  all_out = λ out. absurd (none-some out.0 out.1);
}
