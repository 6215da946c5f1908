use Rattle.std.proofs.Common.{ap, sym, ◌∙◌, arith}
use Rattle.std.specs.Prelude.{not}
use Rattle.std.proofs.lemmas.List.Elements.{All-push, All-same}
use Rattle.stream_facts.specs.Facts.{IsFree}
use Rattle.stream_facts.proofs.FreeLemmas.{free_now, pid_from_number}
use Rattle.stream_facts.proofs.free_pids.free_pids.Goals as goal
use Rattle.stream_facts.proofs.free_pids.free_pids.Goals.{in-Some+then-is_none+then-not-is_listed+in_ok-push, in_default}

pub loop-number-preserved : goal.loop-number-preserved
loop-number-preserved c = λ past k. elim c.match-new.branch [
  | in-Some+then-is_none+then-not-is_listed+in_ok-push w ↦
      let same = pid_from_number c.loop-number.number w.in-Some.pid w.in-Some.ensures in
      let least = c.loop-number.auto.number in
      let most = c.loop-number-test.true in
      All-same (IsFree past c.args.programs.now) _ _ (ap (λ v. v.items) w.free-is ∙ w.in_ok-push.ensures.items)
      (All-push (IsFree past c.args.programs.now) _ _ (c.loop-number.invariant past k)
      (free_now past c.args.programs.now w.in-Some.pid w.get.result (omega (arith, same, least), omega (arith, same, most)) (w.get.ensures past k)
      (w.is_none.ensures ∙ ap not w.if-is_none.true) (sym w.is_listed.ensures ∙ w.if-not-is_listed.true)))
  | in_default w ↦ All-same (IsFree past c.args.programs.now) _ _ (ap (λ v. v.items) w.free-is) (c.loop-number.invariant past k)
]
