use Rattle.std.proofs.Common.{◌∷◌, ◌∙◌, ap}
use Rattle.std.specs.List.{list_any}
use Rattle.ts_packet.specs.Fields.{is_among}
use Rattle.psi_tables.specs.declared.config.Config.{Config}
use Rattle.program_follower.specs.Program.{known_pids}
use Rattle.std.specs.Prelude.{Some}
use Rattle.injector.specs.Steps.{packets_in}
use Rattle.chain_services.proofs.PartLemmas.{taken_packets}
use Rattle.chain_services.proofs.sharing.meets.Goals as goal

pub returns : goal.returns
returns c = λ t u steps h k.
    let ours = c.as_slice.ensures.value ∙ c.pids-ours.ensures t.config h.taken h.stands.injector ∙ ap (known_pids (Some t.config.program)) (taken_packets c.args.one.now t steps h) in
    let theirs = c.as_slice-2.ensures.value ∙ c.pids-theirs.ensures u.config k.taken k.stands.injector ∙ ap (known_pids (Some u.config.program)) (taken_packets c.args.other.now u steps k) in
    let cue = ap (λ (d : Config). d.cue_pid) (c.config.ensures ∙ k.stands.config) in
    c.one_is_among.ensures
    ∙ ap (λ l. list_any (λ pid. is_among pid (c.config.result.cue_pid ∷ c.as_slice-2.result.now)) l) ours
    ∙ ap (λ l. list_any (λ pid. is_among pid (c.config.result.cue_pid ∷ l)) (known_pids (Some t.config.program) (packets_in steps))) theirs
    ∙ ap (λ n. list_any (λ pid. is_among pid (n ∷ known_pids (Some u.config.program) (packets_in steps))) (known_pids (Some t.config.program) (packets_in steps))) cue
