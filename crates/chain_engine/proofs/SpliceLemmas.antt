-- What one packet more does to a switch.
use Rattle.std.proofs.Common.{◌≡◌, ℕ, List, [], ◌∷◌, ◌++◌, reverse, Option, sym, ap, ◌∙◌}
use Rattle.std.proofs.lemmas.List.{reverse-append}
use Rattle.ts_packet.proofs.RunLemmas.{reverse-onto}
use Rattle.psi_tables.specs.declared.config.Config.{Config}
use Rattle.ad_library.specs.Advertisements.{Advertisement}
use Rattle.splice_plans.specs.Adverts.{setting_of}
use Rattle.splice_plans.specs.Switching.{switched_past, switched_at_packet}
use Rattle.chain_engine.specs.Splices.{switch_sends}

pub sent_more : (c : Config) (filed : ℕ → Option Advertisement) (ps : List (List ℕ)) (p : List ℕ)
    → switch_sends c filed ps ++ switched_at_packet (setting_of c filed) p (reverse ps) ≡ switch_sends c filed (ps ++ p ∷ [])
sent_more c filed ps p =
    let k = setting_of c filed in
    sym (reverse-onto (switched_past k (reverse ps)) (switched_at_packet k p (reverse ps))) ∙ ap (λ q. reverse (switched_past k q)) (sym (reverse-append ps (p ∷ [])))
