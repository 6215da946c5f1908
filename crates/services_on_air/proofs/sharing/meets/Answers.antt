use Rattle.std.proofs.Common.{◌∷◌, ◌∙◌, ap}
use Rattle.std.specs.List.{list_any}
use Rattle.ts_packet.specs.Fields.{is_among}
use Rattle.psi_tables.specs.declared.config.Config.{Config}
use Rattle.services_on_air.specs.Airing.{known_of}
use Rattle.services_on_air.proofs.sharing.meets.Goals as goal

pub returns : goal.returns
returns c = λ a b h k.
    let ours = c.as_slice.ensures.value ∙ c.pids-ours.ensures a h in
    let theirs = c.as_slice-2.ensures.value ∙ c.pids-theirs.ensures b k in
    let cue = ap (λ (d : Config). d.cue_pid) (c.config.ensures ∙ k.config) in
    c.one_is_among.ensures
    ∙ ap (λ l. list_any (λ pid. is_among pid (c.config.result.cue_pid ∷ c.as_slice-2.result.now)) l) ours
    ∙ ap (λ l. list_any (λ pid. is_among pid (c.config.result.cue_pid ∷ l)) (known_of a)) theirs
    ∙ ap (λ n. list_any (λ pid. is_among pid (n ∷ known_of b)) (known_of a)) cue
