use Rattle.std.proofs.Common.{◌≡◌, [], ◌∷◌, None, Some, sym, ap, subst, ◌∙◌}
use Rattle.std.specs.Prelude.{is_some, slice_get}
use Rattle.std.specs.Option.{option_copied}
use Rattle.program_follower.specs.Program.{known_pids}
use Rattle.program_follower.specs.Purposes.{writing_cues}
use Rattle.injector.specs.Steps.{packets_in}
use Rattle.on_air.specs.Tails.{TailStands}
use Rattle.on_air.proofs.TailLemmas.{first-known, none-known, pid-none, pid-some}
use Rattle.services_on_air.specs.Histories.{TailKept}
use Rattle.services_on_air.proofs.KeptLemmas.{kept-before, kept-begins, kept-takes}
use Rattle.services_on_air.proofs.service.AirService.keep.Goals.{then-is_before_pat+in-Some, then-is_before_pat+in_default, else-is_before_pat}
use Rattle.services_on_air.proofs.service.AirService.keep.Goals as goal

pub returns-clause-tail : goal.returns-clause-tail
returns-clause-tail c = λ config steps injects kept.
    let t = c.args.self.now.tail in
    let p = c.args.packet.now in
    let d = writing_cues config in
    let read = packets_in steps in
    elim c.if-is_before_pat.branch [
      | then-is_before_pat+in-Some w ↦
          let none = pid-none t.pid (sym c.is_before_pat.ensures ∙ w.if-is_before_pat.true) in
          let first : slice_get (known_pids (Some config.program) read) 0 ≡ Some w.in-Some.pid.now =
          ap (λ l. slice_get l 0) (sym (w.deref.ensures.0 ∙ w.pids.ensures config steps injects)) ∙ sym w.first.ensures.value ∙ ap option_copied w.in-Some.is in
          let (l, is, same) = first-known (Some config.program) read w.in-Some.pid.now first in
          let begun = w.begin.new.self in
          let some = w.begin.ensures.pid ∙ ap Some (sym same) in
          let moved = ap (λ s. s.tail) w.self-is in
          let has = ap (λ o. is_some o.pid) moved ∙ ap is_some some in
          kept-begins t begun c.take.new.self d p read l is none some (c.take.ensures.pid ∙ ap (λ o. o.pid) moved ∙ some)
          (λ h. subst (λ n. TailStands begun (Some n) []) (sym same) (w.begin.ensures.stands [] (subst (λ n. TailStands t (Some n) []) same h)))
          (λ since h. c.take.ensures.behind (Some l.pid) since has (subst (λ o. TailStands o (Some l.pid) since) (sym moved) h)) kept
      | then-is_before_pat+in_default w ↦
          let none = pid-none t.pid (sym c.is_before_pat.ensures ∙ w.if-is_before_pat.true) in
          let first : slice_get (known_pids (Some config.program) read) 0 ≡ None =
          ap (λ l. slice_get l 0) (sym (w.deref.ensures.0 ∙ w.pids.ensures config steps injects)) ∙ sym w.first.ensures.value ∙ ap option_copied w.in_default.is in
          let moved = ap (λ s. s.tail) w.self-is in
          let still = c.take.ensures.before (ap (λ o. o.pid) moved ∙ none) ∙ moved in
          subst (λ o. TailKept o d (p ∷ read)) (sym still) (kept-before t d p read (none-known (Some config.program) read first) kept)
      | else-is_before_pat w ↦
          let (pid, is) = pid-some t.pid (sym c.is_before_pat.ensures ∙ w.if-is_before_pat.false) in
          let moved = ap (λ s. s.tail) w.self-is in
          let has = ap (λ o. is_some o.pid) moved ∙ ap is_some is in
          kept-takes t c.take.new.self d p read pid is (c.take.ensures.pid ∙ ap (λ o. o.pid) moved ∙ is)
          (λ known since h. c.take.ensures.behind known since has (subst (λ o. TailStands o known since) (sym moved) h)) kept
    ]
