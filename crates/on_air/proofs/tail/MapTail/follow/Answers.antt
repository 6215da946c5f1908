use Rattle.std.proofs.Common.{◌≡◌, ◌∷◌, None, Some, true, sym, ap, subst, ◌∙◌}
use Rattle.std.specs.Prelude.{is_some, not}
use Rattle.program_follower.specs.Program.{pmt_pid_of, since_pat}
use Rattle.on_air.specs.Tails.{TailStands, TailIs}
use Rattle.on_air.proofs.TailLemmas.{first-known, none-known, known-of, listed-of, tail-behind, tail-before, pid-none, pid-some}
use Rattle.on_air.proofs.tail.MapTail.follow.Goals.{then-is_before_pat+in-Some, else-is_before_pat}
use Rattle.on_air.proofs.tail.MapTail.follow.Goals as goal

-- the PAT has not come
pub returns-in-None : goal.returns-in-None
returns-in-None g c = λ purpose read follows stands.
    let none = none-known purpose.program read (sym (c.map_pid.ensures purpose read follows) ∙ c.in-None.is) in
    tail-before c.args.self.now purpose c.args.packet.now read (pid-none c.args.self.now.pid (sym c.is_before_pat.ensures ∙ c.if-is_before_pat.true)) none stands

pub returns : goal.returns
returns g c = λ purpose read follows stands.
    let t = c.args.self.now in
    let p = c.args.packet.now in
    elim c.if-is_before_pat.branch [
      | then-is_before_pat+in-Some w ↦
          let (l, is, same) = first-known purpose.program read w.in-Some.pid (sym (w.map_pid.ensures purpose read follows) ∙ w.in-Some.is) in
          let known = subst (λ k. TailStands t k (since_pat purpose.program read)) (known-of purpose read l is ∙ ap Some same) stands in
          let begun = w.begin.ensures.stands (since_pat purpose.program read) known in
          let here = subst (λ s. TailStands s (Some w.in-Some.pid) (since_pat purpose.program read)) (sym w.self-is) begun in
          let some = ap (λ s. is_some s.pid) w.self-is ∙ ap is_some w.begin.ensures.pid in
          tail-behind c.take.new.self purpose p read l is (subst (λ n. TailStands c.take.new.self (Some n) (p ∷ since_pat purpose.program read)) (sym same) (c.take.ensures.behind (Some w.in-Some.pid) (since_pat purpose.program read) some here))
      | else-is_before_pat w ↦
          let (pid, is) = pid-some t.pid (sym c.is_before_pat.ensures ∙ w.if-is_before_pat.false) in
          let (l, listed, same) = listed-of purpose read pid (subst (λ o. TailIs o t (pmt_pid_of purpose.program read) (since_pat purpose.program read)) is stands).0 in
          let here = subst (λ s. TailStands s (pmt_pid_of purpose.program read) (since_pat purpose.program read)) (sym w.self-is) stands in
          let some = ap (λ s. is_some s.pid) w.self-is ∙ ap is_some is in
          tail-behind c.take.new.self purpose p read l listed
          (subst (λ k. TailStands c.take.new.self k (p ∷ since_pat purpose.program read)) (known-of purpose read l listed) (c.take.ensures.behind (pmt_pid_of purpose.program read) (since_pat purpose.program read) some here))
    ]
