use Rattle.std.proofs.Common.{◌∷◌, ◌==◌, ap, sym, ◌∙◌}
use Rattle.std.specs.Prelude.{Some}
use Rattle.ts_packet.specs.Fields.{is_among}
use Rattle.psi_tables.specs.declared.config.Config.{Config}
use Rattle.program_follower.specs.Program.{known_pids}
use Rattle.injector.specs.Steps.{packets_in}
use Rattle.chain_services.specs.Owners.{has_pid}
use Rattle.chain_services.proofs.PartLemmas.{taken_packets}
use Rattle.chain_services.proofs.OwnerLemmas.{told-both}
use Rattle.chain_services.proofs.owners.tell_own.Goals as goal

pub returns : goal.returns
returns c = λ ts u steps all h.
    let known = c.as_slice.ensures.value ∙ c.pids-pids.ensures u.config h.taken h.stands.injector ∙ ap (known_pids (Some u.config.program)) (taken_packets c.args.service.now u steps h) in
    let cue = ap (λ (d : Config). d.cue_pid) (c.config.ensures ∙ h.stands.config) in
    told-both c.args.owners.now c.tell.new.owners c.tell_each.new.owners ts (packets_in steps) (λ k. c.config.result.cue_pid == k) (λ k. is_among k c.as_slice.result.now)
    (λ k. has_pid k (packets_in steps) u)
    (λ k. ap (λ n. is_among k (n ∷ known_pids (Some u.config.program) (packets_in steps))) (sym cue) ∙ ap (λ l. is_among k (c.config.result.cue_pid ∷ l)) (sym known))
    (c.tell.ensures ts steps all) (c.tell_each.ensures ts steps all)
